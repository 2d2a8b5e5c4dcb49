use Rattle.ft_plain.proofs.PlainSteps.{itself-compacts}
use Rattle.ft_plain.proofs.own.PlainOwnOwnDocument.compact.Goals as goal

pub returns-clause-compacts : goal.returns-clause-compacts
returns-clause-compacts c = λ low p named floor held. itself-compacts c.args.self.now low p held
