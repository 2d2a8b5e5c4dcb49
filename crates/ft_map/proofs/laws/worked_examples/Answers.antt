use Rattle.std.proofs.Common.{refl}
use Rattle.std.specs.Fmt.{digits}
use Rattle.ft_map.proofs.laws.worked_examples.Goals as goal

pub returns-clause-pending_clear : goal.returns-clause-pending_clear
unfolding digits
returns-clause-pending_clear c = refl

pub returns-clause-sequenced_clear : goal.returns-clause-sequenced_clear
unfolding digits
returns-clause-sequenced_clear c = refl

pub returns-clause-reconnected : goal.returns-clause-reconnected
unfolding digits
returns-clause-reconnected c = refl

pub returns-clause-sent_again : goal.returns-clause-sent_again
unfolding digits
returns-clause-sent_again c = refl
