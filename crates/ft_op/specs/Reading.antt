-- What the grammars of operations are written with: steps that may fail, lists that are read item by item, and the parts that
-- several operations have.
--     r >>= f      the step f on what r gives, or r's fault
--     with_fault f r      what r gives, or the fault that f makes of r's
--     needed r      what a field gives, or its fault as one of an operation
--     read_each f xs      each item read in turn, or the first fault
--     range d      the fields `pos1` and `pos2`, which are in order
--     kept_value d      the text of a value of a property or a cell
--     given_properties d      the field `props`, with null as none
use Rattle.std.specs.Prelude.{ℕ, pos, Bool, true, false, is_some, nat_lt, List, [], ◌∷◌, Option, Some, None, Result, Ok, Err, if◌then◌else◌}
use Rattle.serde_json.specs.Data.{Data, object}
use Rattle.serde_json.specs.Find.{as_null}
use Rattle.ft_json.specs.declared.fields.Field.TheVariants.{Pos1, Pos2, Props}
use Rattle.ft_json.specs.declared.faults.FieldFault.{FieldFault}
use Rattle.ft_json.specs.Canonical.{canonical}
use Rattle.ft_json.specs.Reading.{count_field, given_field, pairs}
use Rattle.ft_props.specs.Properties.{Characters, PropertySet, ValueBytes}
use Rattle.ft_op.specs.declared.operations.OpFault.{OpFault}
use Rattle.ft_op.specs.declared.operations.OpFault.TheVariants.{WrongKind, Reversed}
use Rattle.ft_op.specs.Faults.{op_fault, value_fault}

-- ---- steps

infixl 10 ◌>>=◌
abbrev pub ◌>>=◌ : {A B F : Type 0} → Result A F → (A → Result B F) → Result B F
(Ok x) >>= f = f x
(Err fault) >>= f = Err fault

abbrev pub with_fault : {A F G : Type 0} → (F → G) → Result A F → Result A G
with_fault fault_of (Ok x) = Ok x
with_fault fault_of (Err fault) = Err (fault_of fault)

abbrev pub needed : {A : Type 0} → Result A FieldFault → Result A OpFault
needed r = with_fault op_fault r

abbrev pub read_each : {A B F : Type 0} → (A → Result B F) → List A → Result (List B) F
read_each reads [] = Ok []
read_each reads (x ∷ xs) = do
  y ← reads x
  ys ← read_each reads xs
  Ok (y ∷ ys)

-- a name with what is read of it and the value there
abbrev pub read_named : {B F : Type 0} → (Characters → Data → Result B F) → Characters × Data → Result (Characters × B) F
read_named reads p = do
  value ← reads p.0 p.1
  Ok (p.0, value)

-- ---- objects and ranges

-- whether the value is an object
abbrev pub is_object : Data → Bool
is_object (object _) = true
is_object _ = false

-- the range of two positions
abbrev pub range_of : ℕ → ℕ → Result (ℕ × ℕ) OpFault
range_of p q = if nat_lt q p then Err (Reversed (pos p) (pos q)) else Ok (p, q)

unfoldable pub range : Data → Result (ℕ × ℕ) OpFault
range d = do
  p ← needed (count_field d Pos1)
  q ← needed (count_field d Pos2)
  range_of p q

-- ---- values and properties

unfoldable pub kept_value : Data → Result ValueBytes OpFault
kept_value d = with_fault value_fault (canonical d)

-- the value that a key is set to: none for null, which takes the key away
unfoldable pub set_value : Data → Result (Option ValueBytes) OpFault
set_value d =
    if is_some (as_null d) then Ok None
    else (do
      text ← kept_value d
      Ok (Some text))

-- the properties of names and values, which rise by their names in a value that was read
abbrev pub property_set_of : Option (List (Characters × Data)) → Result PropertySet OpFault
property_set_of None = Err (WrongKind Props)
property_set_of (Some ps) = read_each (read_named (λ _ d. set_value d)) ps

abbrev pub read_given_set : Option Data → Result PropertySet OpFault
read_given_set None = Ok []
read_given_set (Some d) = property_set_of (pairs d)

unfoldable pub given_properties : Data → Result PropertySet OpFault
given_properties d = read_given_set (given_field d Props)
