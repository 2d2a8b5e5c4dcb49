use Rattle.std.proofs.Common.{◌≡◌, Ok, Result, ap}
use Rattle.ft_msg.specs.declared.faults.Cause.{Cause}
use Rattle.ft_seqr.specs.declared.events.Event.{Event}
use Rattle.ft_seqr.specs.EventGrammar.{event}
use Rattle.ft_seqr.proofs.EventsBack.{event_back}
use Rattle.ft_seqr.proofs.laws.events_are_read_back.Goals as goal

pub returns-clause-read_back : goal.returns-clause-read_back
returns-clause-read_back c = event_back

same_event : (a b : Event) (r s : Result Event Cause) → r ≡ Ok a → s ≡ Ok b → r ≡ s → a ≡ b
same_event a b r s h g e = cc

pub returns-clause-tell_apart : goal.returns-clause-tell_apart
returns-clause-tell_apart c = λ a b ra rb ha hb same. same_event a b _ _ (event_back a ra ha) (event_back b rb hb) (ap event same)
