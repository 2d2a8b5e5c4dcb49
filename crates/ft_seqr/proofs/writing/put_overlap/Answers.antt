use Rattle.std.proofs.Common.{◌∙◌, ap, codes}
use Rattle.std.proofs.lemmas.Result.{on_ok_weaker}
use Rattle.serde_json.specs.Data.{Members, object, put}
use Rattle.ft_op.specs.Written.{written_count, written_text}
use Rattle.ft_seqr.proofs.WrittenMembers.{same_members}
use Rattle.ft_seqr.proofs.writing.put_overlap.Goals as goal

pub returns-clause-value : goal.returns-clause-value
returns-clause-value c =
    on_ok_weaker c.put_range.result
    (λ e. ap object (e ∙ ap (λ (xs : Members). put (codes "end") (written_count c.args.end) (put (codes "start") (written_count c.args.start) xs))
    (c.in_ok-put_text.ensures.value ∙ ap (put (codes "label") (written_text c.args.label.now)) (same_members _ _ c.in_ok-put_client.ensures.value))))
    c.put_range.ensures

pub returns-clause-label : goal.returns-clause-label
returns-clause-label c = on_ok_weaker c.put_range.result (λ e. c.put_text.ensures.text) c.put_range.ensures
