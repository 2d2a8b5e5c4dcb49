use Rattle.std.proofs.Common.{◌≡◌, ◌∙◌, ap, ℤ, pos, negsuc, ◌+ℤ◌, ◌-ℤ◌, arith, rules, unwrap_or, FitsSigned, to_z, of_z, w64}
use mir.Syntax.{w128}
use Rattle.std.specs.Int.{int_max, int_min}
use Rattle.std.proofs.lemmas.Int.{ints, clamps, to_z-of_z}
use Rattle.ft_props.specs.Properties.{clamped}
use Rattle.ft_props.proofs.numbers.adjusted_number.Goals as goal

-- two bounds, the lesser one first, are kept in either order
clamped_either_way : (z : ℤ) → int_max (negsuc 9007199254740990) (int_min z (pos 9007199254740991)) ≡ clamped (negsuc 9007199254740990) (pos 9007199254740991) z
clamped_either_way z = omega (arith, ints, clamps)

pub returns : goal.returns
returns c =
    let n = c.args.number in
    let a = c.args.adjust.now in
    let sum : to_z w128 (of_z w128 (to_z w128 (of_z w128 c.from.result) +ℤ to_z w128 (of_z w128 c.from-2.result))) ≡ n +ℤ a.delta = omega (arith, ints) in
    let raised_fits : FitsSigned w128 c.raised.result = search rules in
    let lowered_fits : FitsSigned w128 c.lowered-bounded.result = search rules in
    let is_raised : c.raised.result ≡ int_max (unwrap_or a.min (n +ℤ a.delta)) (n +ℤ a.delta) = rw sum at c.raised.ensures in
    let is_lowered : c.lowered-bounded.result ≡ int_min (unwrap_or a.max c.raised.result) c.raised.result =
    rw (to_z-of_z w128 c.raised.result raised_fits) at c.lowered-bounded.ensures in
    let low : to_z w128 (of_z w128 (pos 0 -ℤ to_z w128 (of_z w128 c.from-3.result))) ≡ negsuc 9007199254740990 = omega (arith, ints) in
    let high : to_z w128 (of_z w128 c.from-4.result) ≡ pos 9007199254740991 = omega (arith, ints) in
    let is_clamped : c.clamp.result ≡ int_max (negsuc 9007199254740990) (int_min c.lowered-bounded.result (pos 9007199254740991)) =
    rw (low, high, to_z-of_z w128 c.lowered-bounded.result lowered_fits) at c.clamp.ensures.value in
    let is_kept : to_z w64 (of_z w64 (to_z w128 (of_z w128 c.clamp.result))) ≡ c.clamp.result = omega (arith, ints, clamps) in
    is_kept ∙ is_clamped ∙ clamped_either_way c.lowered-bounded.result
    ∙ ap (clamped (negsuc 9007199254740990) (pos 9007199254740991)) (is_lowered ∙ ap (λ r. int_min (unwrap_or a.max r) r) is_raised)
