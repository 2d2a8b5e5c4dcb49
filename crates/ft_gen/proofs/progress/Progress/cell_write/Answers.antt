use Rattle.std.proofs.Common.{arith, refl}
use Rattle.std.proofs.lemmas.Bool.Decides.{nat_tests}
use Rattle.ft_gen.proofs.DrawnTexts.{decimal_within}
use Rattle.ft_gen.proofs.progress.Progress.cell_write.Goals as goal

pub returns-clause-edit : goal.returns-clause-edit
returns-clause-edit c = record {
  drawn = cc;
  well_formed = (grind (arith, nat_tests), grind (arith, nat_tests), decimal_within c.draw-value.result (omega arith));
  left = refl;
  length = omega arith;
  intervals = omega arith;
}
