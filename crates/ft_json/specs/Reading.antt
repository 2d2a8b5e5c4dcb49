-- What a text is, and what is asked of a JSON value and of the fields of an object.
--     read_line bytes      the value that the bytes are, or why they are none
--     field d f      the value of a field
--     given_field d f      the same, where it is not null
--     whole_within d low high, count d, items d, pairs d      the value as a number in a range, as a list, as pairs of names and values
--     num_field d f, signed_field d f, count_field d f, str_field d f, text_field d f, array_field d f      a field that has to be there and of that kind, or its fault
use Rattle.std.specs.Prelude.{ℕ, ◌-◌, ℤ, pos, negsuc, int_lt, Bool, not, ◌&&◌, nat_lt, if◌then◌else◌, List, [], ◌∷◌, Option, Some, None, option_map, option_and_then, Result, Err, chars}
use Rattle.std.specs.Option.{ok_or}
use Rattle.std.specs.Str.{is_utf8}
use Rattle.serde_json.specs.Data.{Data, null, boolean, number, string, array, object, Items, no_items, item, Members, no_members, member}
use Rattle.serde_json.specs.Find.{get, as_number, as_str, as_array, as_object, as_integer, as_u64}
use Rattle.serde_json.specs.Read.{read}
use Rattle.ft_json.specs.declared.fields.Field.{Field}
use Rattle.ft_json.specs.declared.faults.JsonFault.{JsonFault}
use Rattle.ft_json.specs.declared.faults.JsonFault.TheVariants.{NotUtf8, NotJson}
use Rattle.ft_json.specs.declared.faults.FieldFault.{FieldFault}
use Rattle.ft_json.specs.declared.faults.FieldFault.TheVariants.{Missing, WrongKind}
use Rattle.ft_json.specs.Bounds.{number_limit}
use Rattle.ft_json.specs.Fields.{field_name}

-- the one JSON value of at most 127 levels that the bytes are; of a key that stands twice the last counts
unfoldable pub read_line : List ℕ → Result Data JsonFault
read_line bytes = if is_utf8 bytes then ok_or (read bytes) NotJson else Err NotUtf8

-- ---- a value

-- the whole number, written without fraction and exponent, that the value is; -0 is none
abbrev pub whole_number : Data → Option ℤ
whole_number d = option_and_then as_integer (as_number d)

-- whether the number is from low to high
abbrev pub is_within : ℤ → ℤ → ℤ → Bool
is_within low high z = not (int_lt z low) && not (int_lt high z)

-- the whole number from low to high that the value is
unfoldable pub whole_within : Data → ℤ → ℤ → Option ℤ
whole_within d low high = option_and_then (λ z. if is_within low high z then Some z else None) (whole_number d)

-- the count that the value is: a whole number from 0 to 9007199254740991
unfoldable pub count : Data → Option ℕ
count d = option_and_then (λ n. if nat_lt n number_limit then Some n else None) (option_and_then as_u64 (as_number d))

abbrev pub listed : Items → List Data
listed no_items = []
listed (item d ds) = d ∷ listed ds

-- the items of the array that the value is
unfoldable pub items : Data → Option (List Data)
items d = option_map listed (as_array d)

abbrev pub paired : Members → List (List ℕ × Data)
paired no_members = []
paired (member k d ms) = (chars k, d) ∷ paired ms

-- the characters of each name of the object that the value is, with the value there, in the object's order
unfoldable pub pairs : Data → Option (List (List ℕ × Data))
pairs d = option_map paired (as_object d)

-- ---- a field of an object

-- the value of the field; none where the value is no object, or has no such field
unfoldable pub field : Data → Field → Option Data
field d f = get (field_name f) d

abbrev pub unless_null : Data → Option Data
unless_null null = None
unless_null (boolean b) = Some (boolean b)
unless_null (number n) = Some (number n)
unless_null (string s) = Some (string s)
unless_null (array ds) = Some (array ds)
unless_null (object ms) = Some (object ms)

-- the same, where null counts as absent
unfoldable pub given_field : Data → Field → Option Data
given_field d f = option_and_then unless_null (field d f)

abbrev pub read_or_fault : {A : Type 0} → (Data → Option A) → Field → Option Data → Result A FieldFault
read_or_fault reads f None = Err (Missing f)
read_or_fault reads f (Some d) = ok_or (reads d) (WrongKind f)

-- what a field that has to be there reads as, or its fault
abbrev pub needed_field : {A : Type 0} → (Data → Option A) → Data → Field → Result A FieldFault
needed_field reads d f = read_or_fault reads f (field d f)

-- a whole number from -1 to 9007199254740991
unfoldable pub num_field : Data → Field → Result ℤ FieldFault
num_field d f = needed_field (λ x. whole_within x (negsuc 0) (pos (number_limit - 1))) d f

-- a whole number from -9007199254740991 to 9007199254740991
unfoldable pub signed_field : Data → Field → Result ℤ FieldFault
signed_field d f = needed_field (λ x. whole_within x (negsuc (number_limit - 2)) (pos (number_limit - 1))) d f

-- a whole number from 0 to 9007199254740991
unfoldable pub count_field : Data → Field → Result ℕ FieldFault
count_field d f = needed_field count d f

-- a string, by its bytes
unfoldable pub str_field : Data → Field → Result (List ℕ) FieldFault
str_field d f = needed_field as_str d f

-- a string, by its characters
unfoldable pub text_field : Data → Field → Result (List ℕ) FieldFault
text_field d f = needed_field (λ x. option_map chars (as_str x)) d f

-- an array, by its items
unfoldable pub array_field : Data → Field → Result (List Data) FieldFault
array_field d f = needed_field items d f
