use Rattle.std.proofs.Common.{◌≡◌, ◌<◌, ◌^◌, ◌∙◌, arith, pos, to_z, w64}
use Rattle.std.proofs.lemmas.Bool.Decides.{nat_tests}
use Rattle.std.proofs.lemmas.Int.{ints}
use Rattle.ft_gen.proofs.DrawnTexts.{chars-named, chars-notes}
use Rattle.ft_gen.proofs.texts.new_interval.Goals as goal

pub returns : goal.returns
returns c =
    let place : c.args.pos < 2 ^ 63 = grind (arith, nat_tests) in
    let ends : to_z w64 c.args.pos ≡ pos c.args.pos = grind (arith, ints) in
    let label = c.in_ok-new.ensures ∙ chars-notes in
    let id = c.in_ok-numbered.ensures ∙ chars-named 105 c.args.number (omega arith) (omega arith) in
    cc
