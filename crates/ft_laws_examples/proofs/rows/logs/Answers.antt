use Rattle.std.proofs.Common.{refl}
use Rattle.std.specs.Fmt.{digits}
use Rattle.ft_laws_examples.proofs.rows.logs.Goals as goal

pub returns-clause-raised_to_min : goal.returns-clause-raised_to_min
unfolding digits
returns-clause-raised_to_min c = refl

pub returns-clause-adjusted : goal.returns-clause-adjusted
unfolding digits
returns-clause-adjusted c = refl

pub returns-clause-kept_in_range : goal.returns-clause-kept_in_range
unfolding digits
returns-clause-kept_in_range c = refl
