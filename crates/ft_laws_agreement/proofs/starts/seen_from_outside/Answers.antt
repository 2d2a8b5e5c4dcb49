use Rattle.ft_laws_agreement.proofs.Corollaries.{own-join-comes_back, same-number-shows}
use Rattle.ft_laws_agreement.proofs.starts.seen_from_outside.Goals as goal

pub returns-clause-comes_back : goal.returns-clause-comes_back
returns-clause-comes_back c = own-join-comes_back

pub returns-clause-same_number : goal.returns-clause-same_number
returns-clause-same_number c = same-number-shows
