use Rattle.std.proofs.Common.{◌≡◌, IfOk, arith, subst}
use Rattle.ft_gen.proofs.DrawnTexts.{chars-named}
use Rattle.ft_gen.proofs.acts.client_name.Goals as goal

pub returns : goal.returns
returns c = subst (λ spelt. IfOk c.numbered.result (λ name. name ≡ spelt)) (chars-named 99 c.args.number (omega arith) (omega arith)) c.numbered.ensures
