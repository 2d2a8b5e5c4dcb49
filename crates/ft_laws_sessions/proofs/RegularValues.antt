-- A value whose texts are UTF-8 and whose keys rise: so are its fields and items, and what is kept of it is a canonical text.
use Rattle.std.proofs.Common.{◌≡◌, ◌≤◌, ℕ, Bool, true, false, List, [], ◌∷◌, Option, Some, None, Result, Ok, Less, Equal, Greater, cond, refl, subst, arith, ltb-false}
use Rattle.std.specs.Prelude.{is_some, option_and_then, nat_lt, ⊤}
use Rattle.std.specs.Cmp.Lexicographic.{slice_cmp}
use Rattle.std.specs.List.{AllByRecursion}
use Rattle.std.specs.Option.{ok_or}
use Rattle.std.specs.Ordering.{match_ordering, nat_cmp}
use Rattle.std.specs.Str.{IsUtf8}
use Rattle.std.specs.declared.cmp.Ordering.{Ordering}
use Rattle.serde_json.specs.Data.{Data, null, boolean, number, string, array, object, Items, no_items, item, Members, no_members, member, depth}
use Rattle.serde_json.specs.Find.{as_null, get_member}
use Rattle.serde_json.specs.Written.{compact_text}
use Rattle.ft_base.proofs.Booleans.{both}
use Rattle.ft_json.specs.declared.faults.FieldFault.{FieldFault}
use Rattle.ft_json.specs.declared.faults.JsonFault.TheVariants.{Fraction, TooDeep}
use Rattle.ft_json.specs.declared.fields.Field.{Field}
use Rattle.ft_json.specs.Canonical.{has_whole_numbers, items_have_whole_numbers, members_have_whole_numbers, IsBefore, IsCanonical, ItemsAreCanonical, IsTextWithin, MembersAreCanonical, canonical}
use Rattle.ft_json.specs.Fields.{field_name}
use Rattle.ft_json.specs.Reading.{array_field, field, given_field, items, listed, paired, pairs, read_line, read_or_fault, unless_null}
use Rattle.ft_json.proofs.Back.{read_line-compact_text}
use Rattle.ft_props.specs.Properties.{Characters, ValueBytes}
use Rattle.ft_op.specs.Faults.{value_fault}
use Rattle.ft_op.specs.Reading.{◌>>=◌, kept_value, read_each, set_value}
use Rattle.ft_op.specs.WellFormed.{IsSetValue}
use Rattle.ft_op.proofs.ReadSteps.{read_step, same_value, test_failed, test_held}
use Rattle.ft_op.proofs.ReadValues.{not_null}
use Rattle.ft_sumdoc.proofs.ReadForms.{ok_before}

-- each text inside is UTF-8, and in each object the keys rise by their bytes
abbrev mutual
  pub IsRegular : Data → Type 0
  IsRegular null = ⊤
  IsRegular (boolean b) = ⊤
  IsRegular (number n) = ⊤
  IsRegular (string s) = IsUtf8 s
  IsRegular (array ds) = ItemsAreRegular ds
  IsRegular (object ms) = MembersAreRegular ms

  pub ItemsAreRegular : Items → Type 0
  ItemsAreRegular no_items = ⊤
  ItemsAreRegular (item d ds) = IsRegular d × ItemsAreRegular ds

  pub MembersAreRegular : Members → Type 0
  MembersAreRegular no_members = ⊤
  MembersAreRegular (member k d ms) = IsUtf8 k × IsBefore k ms × IsRegular d × MembersAreRegular ms

-- ---- what is kept

mutual
  canonical-of : (d : Data) → IsRegular d → has_whole_numbers d ≡ true → IsCanonical d
  canonical-of null r h = tt
  canonical-of (boolean b) r h = tt
  canonical-of (number n) r h = h
  canonical-of (string s) r h = r
  canonical-of (array ds) r h = items_canonical-of ds r h
  canonical-of (object ms) r h = members_canonical-of ms r h

  items_canonical-of : (ds : Items) → ItemsAreRegular ds → items_have_whole_numbers ds ≡ true → ItemsAreCanonical ds
  items_canonical-of no_items r h = tt
  items_canonical-of (item d ds) r h =
      let parts = both (has_whole_numbers d) (items_have_whole_numbers ds) h in
      (canonical-of d r.0 parts.0, items_canonical-of ds r.1 parts.1)

  members_canonical-of : (ms : Members) → MembersAreRegular ms → members_have_whole_numbers ms ≡ true → MembersAreCanonical ms
  members_canonical-of no_members r h = tt
  members_canonical-of (member k d ms) r h =
      let parts = both (has_whole_numbers d) (members_have_whole_numbers ms) h in
      (r.0, r.1, canonical-of d r.2 parts.0, members_canonical-of ms r.3 parts.1)

-- the text is that of the value, which is canonical and has at most 100 levels
record IsKeptAs (d : Data) (text : ValueBytes) : Type 0 where
  canonical : IsCanonical d
  shallow : depth d ≤ 100
  spells : compact_text d ≡ text

kept-as : (d : Data) (text : ValueBytes) → IsRegular d → kept_value d ≡ Ok text → IsKeptAs d text
unfolding kept_value canonical
kept-as d text r e =
    let shallow = test_failed (nat_lt 100 (depth d)) TooDeep _ text (ok_before value_fault _ text e) in
    let whole = test_held (has_whole_numbers d) _ Fraction text shallow.1 in
    record {
      canonical = canonical-of d r whole.0;
      shallow = ltb-false 100 (depth d) shallow.0;
      spells = same_value (compact_text d) text _ refl whole.1;
    }

within : (d : Data) (text : ValueBytes) → IsKeptAs d text → IsTextWithin 100 text
within d text k = (d, k.canonical, k.shallow, cc)

-- the text that is kept is that of a canonical value
pub kept-within : (d : Data) (text : ValueBytes) → IsRegular d → kept_value d ≡ Ok text → IsTextWithin 100 text
kept-within d text r e = within d text (kept-as d text r e)

set_to : (b : Bool) (d : Data) (o : Option ValueBytes) → is_some (as_null d) ≡ b → IsRegular d → cond b (Ok None) (kept_value d >>= (λ text. Ok (Some text))) ≡ Ok o → IsSetValue o
set_to true d o h r e = subst IsSetValue (same_value None o _ refl e) tt
set_to false d o h r e =
    let text = read_step (kept_value d) _ o e in
    let k = kept-as d text.0 r text.1 in
    let shallow = k.shallow in
    let reads = read_line-compact_text d k.canonical (omega (arith, shallow)) in
    subst IsSetValue (same_value (Some text.0) o _ refl text.2)
    (within d text.0 k, not_null d text.0 (subst (λ t. read_line t ≡ Ok d) k.spells reads) h)

-- a key is set to the text of a canonical value that isn't null, or to none
pub set_value-formed : (d : Data) (o : Option ValueBytes) → IsRegular d → set_value d ≡ Ok o → IsSetValue o
unfolding set_value
set_value-formed d o r e = set_to (is_some (as_null d)) d o refl r e

-- ---- lists

-- what is read of each item of a list
pub each-formed : {A B F : Type 0} (Q : A → Type 0) (P : B → Type 0) (reads : A → Result B F) → ((x : A) (y : B) → Q x → reads x ≡ Ok y → P y)
    → (xs : List A) (ys : List B) → AllByRecursion Q xs → read_each reads xs ≡ Ok ys → AllByRecursion P ys
each-formed Q P reads f [] ys h e = subst (AllByRecursion P) (same_value [] ys _ refl e) tt
each-formed Q P reads f (x ∷ xs) ys h e =
    let first = read_step (reads x) _ ys e in
    let rest = read_step (read_each reads xs) _ ys first.2 in
    subst (AllByRecursion P) (same_value (first.0 ∷ rest.0) ys _ refl rest.2) (f x first.0 h.0 first.1, each-formed Q P reads f xs rest.0 h.1 rest.1)

-- ---- fields

-- a value that may be absent is so, if it is there
abbrev pub IsRegularIfGiven : Option Data → Type 0
IsRegularIfGiven None = ⊤
IsRegularIfGiven (Some d) = IsRegular d

by_order : (o : Ordering) (x y z : Option Data) → IsRegularIfGiven x → IsRegularIfGiven y → IsRegularIfGiven z → IsRegularIfGiven (match_ordering o x y z)
by_order Less x y z p q r = p
by_order Equal x y z p q r = q
by_order Greater x y z p q r = r

member-regular : (k : List ℕ) (ms : Members) → MembersAreRegular ms → IsRegularIfGiven (get_member k ms)
member-regular k no_members r = tt
member-regular k (member l d ms) r =
    by_order (slice_cmp nat_cmp k l) (get_member k ms) (Some d) (get_member k ms) (member-regular k ms r.3) r.2 (member-regular k ms r.3)

pub field-regular : (d : Data) (f : Field) → IsRegular d → IsRegularIfGiven (field d f)
unfolding field
field-regular null f r = tt
field-regular (boolean b) f r = tt
field-regular (number n) f r = tt
field-regular (string s) f r = tt
field-regular (array ds) f r = tt
field-regular (object ms) f r = member-regular (field_name f) ms r

unless_null-regular : (d : Data) → IsRegular d → IsRegularIfGiven (unless_null d)
unless_null-regular null r = tt
unless_null-regular (boolean b) r = tt
unless_null-regular (number n) r = tt
unless_null-regular (string s) r = r
unless_null-regular (array ds) r = r
unless_null-regular (object ms) r = r

given-regular : (o : Option Data) → IsRegularIfGiven o → IsRegularIfGiven (option_and_then unless_null o)
given-regular None r = tt
given-regular (Some d) r = unless_null-regular d r

pub given_field-regular : (d : Data) (f : Field) → IsRegular d → IsRegularIfGiven (given_field d f)
unfolding given_field
given_field-regular d f r = given-regular (field d f) (field-regular d f r)

-- ---- items and pairs

listed-regular : (ds : Items) → ItemsAreRegular ds → AllByRecursion IsRegular (listed ds)
listed-regular no_items r = tt
listed-regular (item d ds) r = (r.0, listed-regular ds r.1)

-- the items of an array are so, if it is one
abbrev AreRegularIfListed : Option (List Data) → Type 0
AreRegularIfListed None = ⊤
AreRegularIfListed (Some ds) = AllByRecursion IsRegular ds

items-regular : (d : Data) → IsRegular d → AreRegularIfListed (items d)
unfolding items
items-regular null r = tt
items-regular (boolean b) r = tt
items-regular (number n) r = tt
items-regular (string s) r = tt
items-regular (array ds) r = listed-regular ds r
items-regular (object ms) r = tt

found-regular : (o : Option (List Data)) (fault : FieldFault) (ds : List Data) → AreRegularIfListed o → ok_or o fault ≡ Ok ds → AllByRecursion IsRegular ds
found-regular None fault ds r e = (cc)
found-regular (Some xs) fault ds r e = subst (AllByRecursion IsRegular) (same_value xs ds _ refl e) r

array_of : (o : Option Data) (f : Field) (ds : List Data) → IsRegularIfGiven o → read_or_fault items f o ≡ Ok ds → AllByRecursion IsRegular ds
array_of None f ds r e = (cc)
array_of (Some d) f ds r e = found-regular (items d) _ ds (items-regular d r) e

pub array_field-regular : (d : Data) (f : Field) (ds : List Data) → IsRegular d → array_field d f ≡ Ok ds → AllByRecursion IsRegular ds
unfolding array_field
array_field-regular d f ds r e = array_of (field d f) f ds (field-regular d f r) e

-- the value of a pair of a name and a value is so
abbrev pub HasRegularValue : Characters × Data → Type 0
HasRegularValue p = IsRegular p.1

-- and those of the pairs of an object, if it is one
abbrev pub AreRegularIfPaired : Option (List (Characters × Data)) → Type 0
AreRegularIfPaired None = ⊤
AreRegularIfPaired (Some ps) = AllByRecursion HasRegularValue ps

paired-regular : (ms : Members) → MembersAreRegular ms → AllByRecursion HasRegularValue (paired ms)
paired-regular no_members r = tt
paired-regular (member k d ms) r = (r.2, paired-regular ms r.3)

pub pairs-regular : (d : Data) → IsRegular d → AreRegularIfPaired (pairs d)
unfolding pairs
pairs-regular null r = tt
pairs-regular (boolean b) r = tt
pairs-regular (number n) r = tt
pairs-regular (string s) r = tt
pairs-regular (array ds) r = tt
pairs-regular (object ms) r = paired-regular ms r
