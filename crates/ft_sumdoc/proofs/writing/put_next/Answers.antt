use Rattle.std.proofs.Common.{◌∙◌, ap, ap₂, subst, sym}
use Rattle.std.specs.Prelude.{codes}
use Rattle.std.specs.List.{AllByRecursion}
use Rattle.std.proofs.lemmas.Result.{on_ok_weaker}
use Rattle.serde_json.specs.Data.{array, put}
use Rattle.serde_json.specs.View.{members_view}
use Rattle.ft_op.specs.Written.{written_count, written_items}
use Rattle.ft_sumdoc.specs.declared.summary.IntervalRec.{IntervalRec}
use Rattle.ft_sumdoc.specs.Representable.{IsRepresentableInterval}
use Rattle.ft_sumdoc.specs.Valid.{HasValues}
use Rattle.ft_sumdoc.specs.Written.{written_interval_record, written_unit_run}
use Rattle.ft_sumdoc.proofs.GivenLists.{nothing_asked}
use Rattle.ft_sumdoc.proofs.writing.put_next.Goals as goal

pub put_each-requires : goal.put_each-requires
put_each-requires c = subst (AllByRecursion (λ (i : IntervalRec). HasValues i.props)) (sym c.as_slice.ensures) c.requires

pub put_each-requires-2 : goal.put_each-requires-2
put_each-requires-2 c = nothing_asked c.as_slice-2.result.now

pub returns-clause-value : goal.returns-clause-value
returns-clause-value c =
    let old = members_view c.args.members.now.entries in
    let doc = c.args.doc.now in
    let intervals = c.in_ok-put_each.ensures.value ∙ ap (λ xs. put (codes "intervals") (array
    (written_items written_interval_record xs)) old) c.as_slice.ensures in
    let min = c.in_ok-put_number.ensures ∙ ap (put (codes "min") (written_count doc.min)) intervals in
    let other = c.in_ok-put_number-2.ensures ∙ ap (put (codes "other") (written_count doc.other)) min in
    on_ok_weaker c.put_each-2.result
    (λ e. e ∙ ap₂ (λ xs ms. put (codes "rows") (array (written_items written_unit_run xs)) ms) c.as_slice-2.ensures other) c.put_each-2.ensures.value

pub returns-clause-intervals : goal.returns-clause-intervals
returns-clause-intervals c =
    on_ok_weaker c.put_each-2.result (λ _. subst (AllByRecursion IsRepresentableInterval) c.as_slice.ensures c.in_ok-put_each.ensures.representable)
    c.put_each-2.ensures.value
