use Rattle.std.proofs.Common.{refl}
use Rattle.std.specs.Fmt.{digits}
use Rattle.ft_laws_examples.proofs.rows.sessions.Goals as goal

pub returns-clause-adjusted_once : goal.returns-clause-adjusted_once
unfolding digits
returns-clause-adjusted_once c = refl
