use Rattle.std.proofs.Common.{◌∙◌, Option, ap, sym}
use Rattle.std.specs.Prelude.{codes}
use Rattle.std.proofs.lemmas.Bool.{false≢true}
use Rattle.std.proofs.lemmas.Result.{on_ok_weaker}
use Rattle.serde_json.specs.Data.{Data, array, put}
use Rattle.serde_json.specs.View.{members_view}
use Rattle.ft_op.specs.Written.{put_given, written_items}
use Rattle.ft_sumdoc.specs.Written.{written_mark}
use Rattle.ft_sumdoc.proofs.GivenLists.{nothing_asked, some_marks}
use Rattle.ft_sumdoc.proofs.writing.put_removals.Goals as goal

pub put_each-requires : goal.put_each-requires
put_each-requires c = nothing_asked c.as_slice.result.now

pub returns : goal.returns
returns c =
    let old = members_view c.args.members.now.entries in
    let some = some_marks c.args.marks.now (λ h. false≢true (sym c.if-is_empty.false ∙ c.is_empty.ensures.1 h)) in
    on_ok_weaker c.put_each.result (λ e. e
    ∙ ap (λ ms. put (codes "r") (array (written_items written_mark ms)) old) c.as_slice.ensures
    ∙ ap (λ (o : Option Data). put_given (codes "r") o old) (sym some)) c.put_each.ensures.value
