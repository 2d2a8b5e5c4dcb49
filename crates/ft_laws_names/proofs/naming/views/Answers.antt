-- What is shown looks at no name.
use Rattle.ft_laws_names.proofs.NamedSteps.{views-of}
use Rattle.ft_laws_names.proofs.naming.views.Goals as goal

pub returns : goal.returns
returns c = record { same = λ p q h. views-of p q h }
