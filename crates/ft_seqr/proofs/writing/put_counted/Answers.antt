use Rattle.std.proofs.Common.{◌∙◌, ap, codes}
use Rattle.std.proofs.lemmas.Result.{on_ok_weaker}
use Rattle.serde_json.specs.Data.{object}
use Rattle.ft_op.specs.Written.{put_given}
use Rattle.ft_seqr.specs.WrittenEvent.{written_how_many}
use Rattle.ft_seqr.proofs.WrittenMembers.{count_put, same_members}
use Rattle.ft_seqr.proofs.writing.put_counted.Goals as goal

pub returns-clause-value : goal.returns-clause-value
returns-clause-value c =
    on_ok_weaker c.put_how_many.result
    (λ e. ap object (e ∙ ap (put_given (codes "count") (written_how_many c.args.count)) (same_members _ _ c.in_ok-put_client.ensures.value)
    ∙ count_put c.args.word.now c.args.client.now c.args.count))
    c.put_how_many.ensures
