-- Properties by rising keys, and what an annotation does to them: it sets keys, takes keys away, and adjusts whole
-- numbers.
use Rattle.std.specs.Prelude.{ℕ, ◌+◌, ◌*◌, ◌-◌, Bool, cond, ◌&&◌, nat_le, nat_eq, List, [], ◌∷◌, Option, Some, None, ℤ, pos, neg_ℤ, ◌+ℤ◌, int_le, unwrap_or}
use Rattle.std.specs.Int.{int_min, int_max}
use Rattle.std.specs.Fmt.{signed_decimal}
use Rattle.std.specs.List.{list_all}
use Rattle.ft_json.specs.Bounds.{number_limit}
use Rattle.ft_props.specs.declared.properties.Adjust.{Adjust}
use Rattle.ft_props.specs.declared.properties.Changes.{Changes}
pub use Rattle.ft_props.specs.Keys.{Characters, text_cmp, key_cmp, put_rising, remove_rising, value_of}

-- a JSON value, as the bytes of its compact text
abbrev pub ValueBytes : Type 0
ValueBytes = List ℕ

-- properties by rising keys
abbrev pub PropertyList : Type 0
PropertyList = List (Characters × ValueBytes)

-- a set of properties by rising keys, where none takes the key away
abbrev pub PropertySet : Type 0
PropertySet = List (Characters × Option ValueBytes)

-- the properties with the value for the key, or without the key for none
abbrev pub set_key : Characters → Option ValueBytes → PropertyList → PropertyList
set_key key (Some value) props = put_rising key_cmp (key, value) props
set_key key None props = remove_rising key_cmp (key, []) props

-- the properties after each key of the set in turn
abbrev pub apply : PropertyList → PropertySet → PropertyList
apply props [] = props
apply props ((key, value) ∷ set) = apply (set_key key value props) set

-- the greatest whole number that an adjusted value may have, 2^53 - 1
abbrev pub max_safe_integer : ℕ
max_safe_integer = number_limit - 1

-- z, raised to low if it is below, then lowered to high if it is above
abbrev pub clamped : ℤ → ℤ → ℤ → ℤ
clamped low high z = int_min high (int_max low z)

-- whether the byte is a decimal digit
abbrev pub is_digit : ℕ → Bool
is_digit c = nat_le 48 c && nat_le c 57

-- the number that the digits spell behind n
abbrev pub digits_value : ℕ → List ℕ → ℕ
digits_value n [] = n
digits_value n (c ∷ cs) = digits_value (n * 10 + (c - 48)) cs

-- the whole number that the compact text of a value spells, if it spells one
abbrev pub whole_number : ValueBytes → Option ℤ
whole_number [] = None
whole_number (c ∷ cs) =
    cond (nat_eq c 45)
    (cond (list_all is_digit cs) (Some (neg_ℤ (pos (digits_value 0 cs)))) None)
    (cond (list_all is_digit (c ∷ cs)) (Some (pos (digits_value 0 (c ∷ cs)))) None)

-- z if its size is at most the greatest, else 0
abbrev pub safe_or_zero : ℤ → ℤ
safe_or_zero z = cond (int_le (neg_ℤ (pos max_safe_integer)) z && int_le z (pos max_safe_integer)) z (pos 0)

-- the number on which an adjustment of this value works: 0 where the value is none, no whole number or too great
abbrev pub number_or_zero : Option ValueBytes → ℤ
number_or_zero None = pos 0
number_or_zero (Some v) = safe_or_zero (unwrap_or (whole_number v) (pos 0))

-- v with delta added, then raised to min, then lowered to max, then brought into the range of adjusted values
abbrev pub adj : ℤ → Adjust → ℤ
adj v a =
    let raised = int_max (unwrap_or a.min (v +ℤ a.delta)) (v +ℤ a.delta) in
    clamped (neg_ℤ (pos max_safe_integer)) (pos max_safe_integer) (int_min (unwrap_or a.max raised) raised)

-- the properties after each adjusted key in turn
abbrev pub adjust : PropertyList → List (Characters × Adjust) → PropertyList
adjust props [] = props
adjust props ((key, a) ∷ rest) = adjust (set_key key (Some (signed_decimal (adj (number_or_zero (value_of key props)) a))) props) rest

-- what an annotation makes of properties: the set, and then the adjustments
abbrev pub change : PropertyList → Changes → PropertyList
change props c = adjust (apply props c.props) c.adjust

-- the acknowledged properties with the pending changes on top, by rising stage
abbrev pub shown_props : PropertyList → List (ℕ × Changes) → PropertyList
shown_props props [] = props
shown_props props ((k, c) ∷ pending) = shown_props (change props c) pending
