-- What the forms of a summary's fields are written with. A form tells what a value gives, or none where the value isn't of
-- the form.
--     o >>= f      the form f of what o gives
--     each_of f xs      what each item gives, where all are of the form
--     optional f o      what a field gives that may be absent
--     rises p xs      whether each item comes before the next
use Rattle.std.specs.Prelude.{negsuc, pos, ◌-◌, ℤ, Bool, true, ◌&&◌, not, is_some, List, [], ◌∷◌, Option, Some, None, option_and_then, option_map, chars, if◌then◌else◌}
use Rattle.std.specs.List.{list_all}
use Rattle.serde_json.specs.Data.{Data}
use Rattle.serde_json.specs.Find.{as_null, as_str}
use Rattle.ft_json.specs.Bounds.{number_limit}
use Rattle.ft_json.specs.Reading.{items, pairs, whole_within}
use Rattle.ft_props.specs.Properties.{Characters}

infixl 10 ◌>>=◌
abbrev pub ◌>>=◌ : {A B : Type 0} → Option A → (A → Option B) → Option B
o >>= f = option_and_then f o

abbrev pub each_of : {A B : Type 0} → (A → Option B) → List A → Option (List B)
each_of form [] = Some []
each_of form (x ∷ xs) = do
  y ← form x
  ys ← each_of form xs
  Some (y ∷ ys)

abbrev pub optional : {A B : Type 0} → (A → Option B) → Option A → Option (Option B)
optional form None = Some None
optional form (Some x) = option_map (λ y. Some y) (form x)

-- whether the item comes before the first of these
abbrev pub is_before_first : {A : Type 0} → (A → A → Bool) → A → List A → Bool
is_before_first is_before x [] = true
is_before_first is_before x (y ∷ ys) = is_before x y

abbrev pub rises : {A : Type 0} → (A → A → Bool) → List A → Bool
rises is_before [] = true
rises is_before (x ∷ xs) = is_before_first is_before x xs && rises is_before xs

-- what is given, where the test holds
abbrev pub where_true : {A : Type 0} → Bool → A → Option A
where_true test x = if test then Some x else None

-- the items that an array is, each of this form, if they may stand together
abbrev pub array_form : {A : Type 0} → (Data → Option A) → (List A → Bool) → Data → Option (List A)
array_form form together d = do
  ds ← items d
  xs ← each_of form ds
  where_true (together xs) xs

-- the characters of a string
abbrev pub characters : Data → Option Characters
characters d = option_map chars (as_str d)

-- a whole number from -1 to 9007199254740991
abbrev pub place_number : Data → Option ℤ
place_number d = whole_within d (negsuc 0) (pos (number_limit - 1))

-- properties with names and values that are not yet read
abbrev pub GivenProps : Type 0
GivenProps = List (Characters × Data)

-- whether no value is null
abbrev pub has_no_null : GivenProps → Bool
has_no_null ps = list_all (λ p. not (is_some (as_null p.1))) ps

-- the properties that an object without null values gives
abbrev pub props_form : Data → Option GivenProps
props_form d = do
  ps ← pairs d
  where_true (has_no_null ps) ps
