-- Written properties and adjustments are read back.
use Rattle.std.proofs.Common.{◌≡◌, ◌∙◌, ◌≤◌, ℕ, ℤ, Bool, true, false, not, ◌&&◌, List, [], ◌∷◌, map, Option, Some, None, Result, Ok, refl, sym, ap, ap₂, le-ltb, arith}
use Rattle.std.specs.Prelude.{IsTrue, IsFalse, is_some, option_map, option_and_then, int_lt}
use Rattle.std.proofs.lemmas.Bool.{false≢true}
use Rattle.std.proofs.lemmas.Str.{chars-encodes}
use Rattle.serde_json.specs.Data.{Data, null, boolean, number, string, array, object, Items, no_items, item, Members, no_members, member, depth}
use Rattle.serde_json.specs.Find.{as_null}
use Rattle.serde_json.specs.Written.{compact_text}
use Rattle.ft_json.specs.declared.fields.Field.{Field}
use Rattle.ft_json.specs.declared.fields.Field.TheVariants.{Adjust as AdjustField, Delta, Max, Min, Props}
use Rattle.ft_json.specs.Fields.{field_name}
use Rattle.ft_json.specs.Canonical.{canonical, has_whole_numbers, items_have_whole_numbers, members_have_whole_numbers, IsCanonical, ItemsAreCanonical, MembersAreCanonical, IsTextWithin, value_of as data_of}
use Rattle.ft_json.specs.Reading.{given_field, paired, pairs, unless_null}
use Rattle.ft_json.proofs.Back.{StandsFor-IsTextWithin}
use Rattle.ft_props.specs.Keys.{Characters, value_of}
use Rattle.ft_props.specs.Properties.{PropertySet, ValueBytes}
use Rattle.ft_props.specs.declared.properties.Adjust.{Adjust}
use Rattle.ft_op.specs.declared.operations.OpFault.{OpFault}
use Rattle.ft_op.specs.Cells.{is_null}
use Rattle.ft_op.specs.Reading.{given_properties, read_given_set, kept_value, property_set_of, read_each, read_named, set_value}
use Rattle.ft_op.specs.TextGrammar.{adjustment, adjustment_beside, adjustment_of, adjustments_of, bound, given_adjustments, given_adjustments_of}
use Rattle.ft_op.specs.Representable.{KeysAreTexts}
use Rattle.ft_op.specs.WellFormed.{are_bounds, is_safe_bound, AreAdjustments, IsAdjustment, IsPropertySet, IsSetValue}
use Rattle.ft_op.specs.Written.{given_adjust, given_set, written_adjustment, written_number, written_pairs, written_set, written_value}
use Rattle.ft_op.proofs.WrittenFields.{fields}
use Rattle.ft_op.proofs.CanonicalOperations.{adjustment_fields}
use Rattle.ft_op.proofs.ReadFields.{field_is, found, signed_is}

-- ---- values

and_true : (a b : Bool) → a ≡ true → b ≡ true → a && b ≡ true
and_true a b p q = ap₂ (λ (x y : Bool). x && y) p q

mutual
  whole_numbers : (d : Data) → IsCanonical d → has_whole_numbers d ≡ true
  whole_numbers null h = refl
  whole_numbers (boolean b) h = refl
  whole_numbers (number n) h = h
  whole_numbers (string s) h = refl
  whole_numbers (array ds) h = items_whole_numbers ds h
  whole_numbers (object ms) h = members_whole_numbers ms h

  items_whole_numbers : (ds : Items) → ItemsAreCanonical ds → items_have_whole_numbers ds ≡ true
  items_whole_numbers no_items h = refl
  items_whole_numbers (item d ds) h = and_true (has_whole_numbers d) _ (whole_numbers d h.0) (items_whole_numbers ds h.1)

  members_whole_numbers : (ms : Members) → MembersAreCanonical ms → members_have_whole_numbers ms ≡ true
  members_whole_numbers no_members h = refl
  members_whole_numbers (member k d ms) h = and_true (has_whole_numbers d) _ (whole_numbers d h.2) (members_whole_numbers ms h.3)

kept : (d : Data) (v : ValueBytes) → IsCanonical d → depth d ≤ 100 → compact_text d ≡ v → kept_value d ≡ Ok v
unfolding kept_value canonical
kept d v h shallow spells = rw (le-ltb 100 (depth d) shallow, whole_numbers d h, spells)

-- the value of a kept text is kept as that text
pub kept_again : (v : ValueBytes) → IsTextWithin 100 v → kept_value (data_of v) ≡ Ok v
kept_again v h =
    let stands = StandsFor-IsTextWithin 100 v (omega arith) h in
    kept (data_of v) v stands.canonical stands.shallow stands.spells

pub not_null : (d : Data) (v : ValueBytes) → compact_text d ≡ v → is_null v ≡ false → is_some (as_null d) ≡ false
not_null null v spells h = absurd (false≢true (sym h ∙ ap is_null (sym spells)))
not_null (boolean b) v spells h = refl
not_null (number n) v spells h = refl
not_null (string s) v spells h = refl
not_null (array ds) v spells h = refl
not_null (object ms) v spells h = refl

set_value_back : (v : Option ValueBytes) → IsSetValue v → set_value (written_value v) ≡ Ok v
unfolding set_value
set_value_back None h = refl
set_value_back (Some v) h =
    let stands = StandsFor-IsTextWithin 100 v (omega arith) h.0 in
    rw (not_null (data_of v) v stands.spells h.1, kept_again v h.0)

-- ---- pairs

-- the pairs with each value written
abbrev pub named : {V : Type 0} → (V → Data) → Characters × V → Characters × Data
named written_as p = (p.0, written_as p.1)

paired_written : {V : Type 0} (written_as : V → Data) (ps : List (Characters × V)) → KeysAreTexts ps → paired (written_pairs written_as ps) ≡ map (named written_as) ps
paired_written written_as [] h = refl
paired_written written_as (p ∷ ps) h =
    ap₂ (λ (k : Characters) (rest : List (Characters × Data)). (k, written_as p.1) ∷ rest) (chars-encodes p.0 h.0) (paired_written written_as ps h.1)

pub pairs_written : {V : Type 0} (written_as : V → Data) (ps : List (Characters × V)) → KeysAreTexts ps → pairs (object (written_pairs written_as ps)) ≡ Some (map (named written_as) ps)
unfolding pairs
pairs_written written_as ps h = ap Some (paired_written written_as ps h)

-- ---- properties

-- the value that a key is set to, whatever the key is
abbrev set_value_of : Characters → Data → Result (Option ValueBytes) OpFault
set_value_of key d = set_value d

named_back : (p : Characters × Option ValueBytes) → IsSetValue p.1 → read_named set_value_of (named written_value p) ≡ Ok p
named_back p h = rw (set_value_back p.1 h)

set_back : (set : PropertySet) → IsPropertySet set → read_each (read_named set_value_of) (map (named written_value) set) ≡ Ok set
set_back [] h = refl
set_back (p ∷ set) h = rw (named_back p h.0, set_back set h.1)

written_set_back : (set : PropertySet) → KeysAreTexts set → IsPropertySet set → property_set_of (pairs (written_set set)) ≡ Ok set
written_set_back set texts values = ap property_set_of (pairs_written written_value set texts) ∙ set_back set values

-- absent, or the set
given_back : (set : PropertySet) → KeysAreTexts set → IsPropertySet set → read_given_set (option_and_then unless_null (given_set set)) ≡ Ok set
given_back [] texts values = refl
given_back (p ∷ set) texts values = written_set_back (p ∷ set) texts values

properties_of : (fs : List (List ℕ × Option Data)) (o : Option Data) (set : PropertySet) → found (field_name Props) fs ≡ o → read_given_set (option_and_then unless_null o) ≡ Ok set
    → given_properties (object (fields fs)) ≡ Ok set
unfolding given_properties given_field
properties_of fs o set h e = rw (field_is fs Props o h, e)

pub properties_if_given : (fs : List (List ℕ × Option Data)) (set : PropertySet) → found (field_name Props) fs ≡ given_set set → KeysAreTexts set → IsPropertySet set
    → given_properties (object (fields fs)) ≡ Ok set
properties_if_given fs set h texts values = properties_of fs (given_set set) set h (given_back set texts values)

pub properties_always : (fs : List (List ℕ × Option Data)) (set : PropertySet) → found (field_name Props) fs ≡ Some (written_set set) → KeysAreTexts set → IsPropertySet set
    → given_properties (object (fields fs)) ≡ Ok set
properties_always fs set h texts values = properties_of fs (Some (written_set set)) set h (written_set_back set texts values)

-- ---- adjustments

bound_of : (fs : List (List ℕ × Option Data)) (f : Field) (o : Option ℤ) → found (field_name f) fs ≡ option_map written_number o → IsTrue (is_safe_bound o)
    → bound (object (fields fs)) f ≡ Ok o
unfolding bound given_field
bound_of fs f None h e = rw (field_is fs f None h)
bound_of fs f (Some z) h e = rw (field_is fs f (Some (written_number z)) h, signed_is fs f z h e)

refused : (b : Bool) → not b ≡ true → b ≡ false
refused true h = (cc)
refused false h = refl

bounded : (delta : ℤ) (min max : Option ℤ) → IsTrue (are_bounds min max) → adjustment_of delta min max ≡ Ok (record { delta = delta; min = min; max = max })
bounded delta (Some low) (Some high) h = rw (refused (int_lt high low) h)
bounded delta (Some low) None h = refl
bounded delta None None h = refl
bounded delta None (Some high) h = refl

adjustment_back : (a : Adjust) → IsAdjustment a → adjustment (written_adjustment a) ≡ Ok a
unfolding adjustment field_name
adjustment_back a h =
    let fs = adjustment_fields a in
    rw (signed_is fs Delta a.delta refl h.delta, bound_of fs Min a.min refl h.min, bound_of fs Max a.max refl h.max, bounded a.delta a.min a.max h.bounds)

beside_back : (set : PropertySet) (p : Characters × Adjust) → IsFalse (is_some (value_of p.0 set)) → IsAdjustment p.1 → read_named (adjustment_beside set) (named written_adjustment p) ≡ Ok p
unfolding adjustment_beside
beside_back set p free h = rw (free, adjustment_back p.1 h)

each_back : (set : PropertySet) (ps : List (Characters × Adjust)) → AreAdjustments set ps → read_each (read_named (adjustment_beside set)) (map (named written_adjustment) ps) ≡ Ok ps
each_back set [] h = refl
each_back set (p ∷ ps) h = rw (beside_back set p h.0.0 h.0.1, each_back set ps h.1)

adjustments_if_any : (set : PropertySet) (ps : List (Characters × Adjust)) → KeysAreTexts ps → AreAdjustments set ps
    → given_adjustments_of set (option_and_then unless_null (given_adjust ps)) ≡ Ok ps
adjustments_if_any set [] texts h = refl
adjustments_if_any set (p ∷ ps) texts h = ap (adjustments_of set) (pairs_written written_adjustment (p ∷ ps) texts) ∙ each_back set (p ∷ ps) h

pub adjustments_back : (fs : List (List ℕ × Option Data)) (set : PropertySet) (ps : List (Characters × Adjust)) → found (field_name AdjustField) fs ≡ given_adjust ps → KeysAreTexts ps → AreAdjustments set ps
    → given_adjustments set (object (fields fs)) ≡ Ok ps
unfolding given_adjustments given_field
adjustments_back fs set ps h texts values = rw (field_is fs AdjustField (given_adjust ps) h, adjustments_if_any set ps texts values)
