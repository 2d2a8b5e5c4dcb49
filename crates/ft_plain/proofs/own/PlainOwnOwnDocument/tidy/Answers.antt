use Rattle.ft_plain.proofs.PlainSteps.{itself-compacts}
use Rattle.ft_plain.proofs.own.PlainOwnOwnDocument.tidy.Goals as goal

pub returns : goal.returns
returns c = λ low p named floor held. itself-compacts c.args.self.now low p held
