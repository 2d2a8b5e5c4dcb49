-- The text is read.
use Rattle.std.proofs.Common.{◌≡◌, encode_utf8_all, refl}
use Rattle.std.proofs.lemmas.Result.{IfOk-at_ok}
use Rattle.ft_msg.specs.MessageGrammar.{draft}
use Rattle.ft_session.proofs.acts.submission.Goals as goal

pub returns : goal.returns
returns c = (
  c.args.text.now,
  refl,
  IfOk-at_ok (λ read. draft (encode_utf8_all c.args.text.now) ≡ read) c.in_ok-read.ensures
      c.submitted_draft.ensures,
)
