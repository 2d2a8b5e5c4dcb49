use Rattle.std.proofs.Common.{◌∙◌, ap, codes, option_map}
use Rattle.std.proofs.lemmas.Result.{on_ok_weaker}
use Rattle.serde_json.specs.Data.{object}
use Rattle.ft_op.specs.Written.{put_given, written_text}
use Rattle.ft_seqr.proofs.WrittenMembers.{from_put, same_members}
use Rattle.ft_seqr.proofs.writing.put_start.Goals as goal

pub returns-clause-value : goal.returns-clause-value
returns-clause-value c =
    on_ok_weaker c.put_from.result
    (λ e. ap object (e ∙ ap (put_given (codes "from") (option_map written_text c.args.from.now)) (same_members _ _ c.in_ok-put_client.ensures.value)
    ∙ from_put (codes "start") c.args.client.now c.args.from.now))
    c.put_from.ensures.value

pub returns-clause-from : goal.returns-clause-from
returns-clause-from c = on_ok_weaker c.put_from.result (λ e. c.put_from.ensures.from) c.put_from.ensures.value
