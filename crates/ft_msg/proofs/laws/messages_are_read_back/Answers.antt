use Rattle.std.proofs.Common.{◌≡◌, Ok, Result, ap}
use Rattle.ft_msg.specs.declared.faults.Cause.{Cause}
use Rattle.ft_msg.specs.declared.messages.Message.{Message}
use Rattle.ft_msg.specs.MessageGrammar.{message}
use Rattle.ft_msg.proofs.ReadBack.{message_back}
use Rattle.ft_msg.proofs.laws.messages_are_read_back.Goals as goal

pub returns-clause-read_back : goal.returns-clause-read_back
returns-clause-read_back c = message_back

same_message : (a b : Message) (r s : Result Message Cause) → r ≡ Ok a → s ≡ Ok b → r ≡ s → a ≡ b
same_message a b r s h g e = cc

pub returns-clause-tell_apart : goal.returns-clause-tell_apart
returns-clause-tell_apart c = λ a b ra rb ha hb same. same_message a b _ _ (message_back a ra ha) (message_back b rb hb) (ap message same)
