use Rattle.std.proofs.Common.{◌∙◌, ap, codes}
use Rattle.std.proofs.lemmas.Result.{on_ok_weaker}
use Rattle.serde_json.specs.Data.{put}
use Rattle.ft_op.specs.Written.{written_count}
use Rattle.ft_seqr.proofs.writing.put_range.Goals as goal

pub returns : goal.returns
returns c =
    on_ok_weaker c.put_number-2.result
    (λ e. e ∙ ap (put (codes "end") (written_count c.args.end)) c.in_ok-put_number.ensures.value)
    c.put_number-2.ensures.value
