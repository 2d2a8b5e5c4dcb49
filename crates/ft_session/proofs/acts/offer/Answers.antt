-- The text is read.
use Rattle.std.proofs.Common.{◌≡◌, encode_utf8_all, refl}
use Rattle.std.proofs.lemmas.Result.{IfOk-at_ok}
use Rattle.ft_msg.specs.MessageGrammar.{message}
use Rattle.ft_session.proofs.acts.offer.Goals as goal

pub returns : goal.returns
returns c = (
  c.args.text.now,
  refl,
  IfOk-at_ok (λ read. message (encode_utf8_all c.args.text.now) ≡ read) c.in_ok-read.ensures c.offered_message.ensures,
)
