use Rattle.std.proofs.Common.{◌∙◌, ap, codes}
use Rattle.std.proofs.lemmas.Result.{on_ok_weaker}
use Rattle.serde_json.specs.Data.{Members, object, put}
use Rattle.ft_op.specs.Written.{written_count}
use Rattle.ft_seqr.proofs.WrittenMembers.{same_members}
use Rattle.ft_seqr.proofs.writing.put_blame.Goals as goal

pub returns-clause-value : goal.returns-clause-value
returns-clause-value c =
    on_ok_weaker c.put_range.result
    (λ e. ap object (e ∙ ap (λ (xs : Members). put (codes "end") (written_count c.args.end) (put (codes "start") (written_count c.args.start) xs))
    (same_members _ _ c.in_ok-put_client.ensures.value)))
    c.put_range.ensures
