use Rattle.std.proofs.Common.{◌<◌, arith, refl}
use Rattle.std.proofs.lemmas.Bool.Decides.{nat_tests}
use Rattle.ft_gen.proofs.DrawnTexts.{decimal_small, decimal_within}
use Rattle.ft_gen.proofs.progress.Progress.annotation.Goals as goal

pub returns-clause-edit : goal.returns-clause-edit
returns-clause-edit c =
    let p = c.draw-pos.result in
    let v = c.draw-value.result in
    let below : p < c.args.self.now.length = c.draw-pos.ensures.range in
    record {
      drawn = cc;
      well_formed = (grind (arith, nat_tests), ((decimal_within v (omega arith), decimal_small v c.draw-value.ensures.range), tt), tt);
      left = refl;
      length = omega arith;
      intervals = omega arith;
    }
