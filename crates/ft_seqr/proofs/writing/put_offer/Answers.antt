use Rattle.std.proofs.Common.{◌∙◌, ap, codes}
use Rattle.std.proofs.lemmas.Result.{on_ok_weaker}
use Rattle.serde_json.specs.Data.{object, put}
use Rattle.ft_op.specs.Written.{written_text}
use Rattle.ft_seqr.proofs.WrittenMembers.{same_members}
use Rattle.ft_seqr.proofs.writing.put_offer.Goals as goal

pub returns-clause-value : goal.returns-clause-value
returns-clause-value c =
    on_ok_weaker c.put_text.result
    (λ e. ap object (e ∙ ap (put (codes "message") (written_text c.args.message.now)) (same_members _ _ c.in_ok-put_client.ensures.value)))
    c.put_text.ensures.value

pub returns-clause-text : goal.returns-clause-text
returns-clause-text c = on_ok_weaker c.put_text.result (λ e. c.put_text.ensures.text) c.put_text.ensures.value
