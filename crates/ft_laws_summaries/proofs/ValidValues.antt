-- The values of properties that well-formed operations make: each is one that a summary may have.
use Rattle.std.proofs.Common.{◌≡◌, ℕ, ◌<◌, ◌^◌, List, [], ◌∷◌, Option, Some, None, ℤ, pos, negsuc, ◌+ℤ◌, unwrap_or, refl, arith}
use Rattle.std.specs.Int.{int_max, int_min}
use Rattle.std.specs.Fmt.{signed_decimal}
use Rattle.std.specs.declared.cmp.Ordering.{Ordering}
use Rattle.std.specs.declared.cmp.Ordering.TheVariants.{Less, Equal, Greater}
use Rattle.std.proofs.lemmas.Bool.Decides.{nat_tests}
use Rattle.std.proofs.lemmas.Int.{ints, clamps}
use Rattle.serde_json.specs.Data.{negative, number, unsigned}
use Rattle.ft_json.specs.Canonical.{IsCanonical}
use Rattle.ft_json.proofs.Back.{read_line-compact_text}
use Rattle.ft_props.specs.declared.properties.Adjust.{Adjust}
use Rattle.ft_props.specs.declared.properties.Changes.{Changes}
use Rattle.ft_props.specs.Properties.{Characters, PropertyList, PropertySet, ValueBytes, adj, adjust, apply, change, clamped, key_cmp, number_or_zero, put_rising, remove_rising, set_key, value_of}
use Rattle.ft_op.specs.WellFormed.{IsPropertySet, IsSetValue}
use Rattle.ft_op.proofs.ReadValues.{not_null}
use Rattle.ft_sumdoc.specs.Valid.{HasValues, IsValue}

-- ---- whole numbers

natural-value : (n : ℕ) → n < 2 ^ 63 → IsValue (signed_decimal (pos n))
natural-value n l =
    let d = number (unsigned n) in
    let c : IsCanonical (number (unsigned n)) = grind (arith, nat_tests) in
    ((d, c, omega arith, refl), not_null d (signed_decimal (pos n)) (read_line-compact_text d c (omega arith)) refl)

below-zero-value : (n : ℕ) → n < 2 ^ 63 → IsValue (signed_decimal (negsuc n))
below-zero-value n l =
    let d = number (negative (negsuc n)) in
    let c : IsCanonical (number (negative (negsuc n))) = grind (arith, nat_tests) in
    ((d, c, omega arith, refl), not_null d (signed_decimal (negsuc n)) (read_line-compact_text d c (omega arith)) refl)

clamped-value : (z : ℤ) → IsValue (signed_decimal (clamped (negsuc 9007199254740990) (pos 9007199254740991) z))
clamped-value z = by (clamped (negsuc 9007199254740990) (pos 9007199254740991) z) refl
  where
    low : (n : ℕ) → clamped (negsuc 9007199254740990) (pos 9007199254740991) z ≡ negsuc n → n < 2 ^ 63
    low n e = omega (arith, ints, clamps, e)

    high : (n : ℕ) → clamped (negsuc 9007199254740990) (pos 9007199254740991) z ≡ pos n → n < 2 ^ 63
    high n e = omega (arith, ints, clamps, e)

    by : (y : ℤ) → clamped (negsuc 9007199254740990) (pos 9007199254740991) z ≡ y → IsValue (signed_decimal y)
    by (pos n) e = natural-value n (high n e)
    by (negsuc n) e = below-zero-value n (low n e)

adjusted-value : (v : ℤ) (a : Adjust) → IsValue (signed_decimal (adj v a))
adjusted-value v a =
    let raised = int_max (unwrap_or a.min (v +ℤ a.delta)) (v +ℤ a.delta) in
    clamped-value (int_min (unwrap_or a.max raised) raised)

-- ---- properties

put-values : (key : Characters) (v : ValueBytes) (props : PropertyList) → IsValue v → HasValues props → HasValues (put_rising key_cmp (key, v) props)
put-values key v [] h p = (h, tt)
put-values key v (q ∷ props) h p = by (put-values key v props h p.1) (key_cmp (key, v) q)
  where
    by : HasValues (put_rising key_cmp (key, v) props) → (o : Ordering)
        → HasValues (elim o [ Less ↦ (key, v) ∷ q ∷ props | Equal ↦ (key, v) ∷ props | Greater ↦ q ∷ put_rising key_cmp (key, v) props ])
    by ih Less = (h, p)
    by ih Equal = (h, p.1)
    by ih Greater = (p.0, ih)

remove-values : (x : Characters × ValueBytes) (props : PropertyList) → HasValues props → HasValues (remove_rising key_cmp x props)
remove-values x [] p = tt
remove-values x (q ∷ props) p = by (remove-values x props p.1) (key_cmp x q)
  where
    by : HasValues (remove_rising key_cmp x props) → (o : Ordering) → HasValues (elim o [ Less ↦ q ∷ props | Equal ↦ props | Greater ↦ q ∷ remove_rising key_cmp x props ])
    by ih Less = p
    by ih Equal = p.1
    by ih Greater = (p.0, ih)

set-values : (key : Characters) (v : Option ValueBytes) (props : PropertyList) → IsSetValue v → HasValues props → HasValues (set_key key v props)
set-values key None props h p = remove-values (key, []) props p
set-values key (Some v) props h p = put-values key v props h p

pub apply-values : (props : PropertyList) (set : PropertySet) → IsPropertySet set → HasValues props → HasValues (apply props set)
apply-values props [] h p = p
apply-values props ((key, v) ∷ set) h p = apply-values (set_key key v props) set h.1 (set-values key v props h.0 p)

adjust-values : (props : PropertyList) (adjusts : List (Characters × Adjust)) → HasValues props → HasValues (adjust props adjusts)
adjust-values props [] p = p
adjust-values props ((key, a) ∷ rest) p =
    adjust-values (set_key key (Some (signed_decimal (adj (number_or_zero (value_of key props)) a))) props) rest
    (put-values key (signed_decimal (adj (number_or_zero (value_of key props)) a)) props (adjusted-value (number_or_zero (value_of key props)) a) p)

pub change-values : (props : PropertyList) (changes : Changes) → IsPropertySet changes.props → HasValues props → HasValues (change props changes)
change-values props changes h p = adjust-values (apply props changes.props) changes.adjust (apply-values props changes.props h p)
