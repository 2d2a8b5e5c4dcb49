use Rattle.std.proofs.Common.{◌≡◌, Ok, Result, ap}
use Rattle.ft_msg.specs.declared.faults.Cause.{Cause}
use Rattle.ft_msg.specs.declared.messages.Draft.{Draft}
use Rattle.ft_msg.specs.MessageGrammar.{draft}
use Rattle.ft_msg.proofs.ReadBack.{draft_back}
use Rattle.ft_msg.proofs.laws.drafts_are_read_back.Goals as goal

pub returns-clause-read_back : goal.returns-clause-read_back
returns-clause-read_back c = draft_back

same_draft : (a b : Draft) (r s : Result Draft Cause) → r ≡ Ok a → s ≡ Ok b → r ≡ s → a ≡ b
same_draft a b r s h g e = cc

pub returns-clause-tell_apart : goal.returns-clause-tell_apart
returns-clause-tell_apart c = λ a b ra rb ha hb same. same_draft a b _ _ (draft_back a ra ha) (draft_back b rb hb) (ap draft same)
