-- What the fields of a written object are read as.
use Rattle.std.proofs.Common.{◌≡◌, ◌∙◌, ◌≤◌, ◌^◌, ◌-◌, ℕ, ℤ, pos, negsuc, false, List, [], ◌∷◌, map, Option, Some, None, Ok, Ordering, Less, Equal, Greater, refl, sym, ap, nat_cmp, nat_lt, ltb-true, lt-ltb, le-ltb, leb-true, arith}
use Rattle.std.specs.Prelude.{IsTrue, option_and_then}
use Rattle.std.proofs.lemmas.Str.{chars-encodes}
use Rattle.std.specs.Cmp.Lexicographic.{slice_cmp}
use Rattle.std.specs.Ordering.{match_ordering}
use Rattle.serde_json.specs.Data.{Data, string, array, object, Members}
use Rattle.serde_json.specs.Find.{get_member, as_str}
use Rattle.ft_base.proofs.Booleans.{both}
use Rattle.ft_json.specs.declared.fields.Field.{Field}
use Rattle.ft_json.specs.declared.fields.Field.TheVariants.{Pos1, Pos2}
use Rattle.ft_json.specs.Fields.{field_name}
use Rattle.ft_json.specs.Reading.{array_field, count, count_field, field, given_field, items, is_within, listed, needed_field, num_field, signed_field, str_field, text_field, unless_null, whole_within}
use Rattle.ft_props.specs.Keys.{Characters}
use Rattle.ft_op.specs.Reading.{range}
use Rattle.ft_op.specs.Representable.{IsText}
use Rattle.ft_op.specs.WellFormed.{is_count, is_range, is_safe}
use Rattle.ft_op.specs.Written.{with_given, written_count, written_items, written_number, written_text}
use Rattle.ft_op.proofs.WrittenFields.{fields}

-- ---- a field among those that are written

abbrev pub first_given : Option Data → Option Data → Option Data
first_given o None = o
first_given None (Some e) = Some e
first_given (Some d) (Some e) = Some d

-- the value of the key among fields
abbrev pub found : List ℕ → List (List ℕ × Option Data) → Option Data
found key [] = None
found key (f ∷ fs) = match_ordering (slice_cmp nat_cmp key f.0) (found key fs) (first_given f.1 (found key fs)) (found key fs)

first_of_none : (o : Option Data) → first_given None o ≡ o
first_of_none None = refl
first_of_none (Some d) = refl

first_of_some : (d : Data) (o : Option Data) → first_given (Some d) o ≡ Some d
first_of_some d None = refl
first_of_some d (Some e) = refl

same_everywhere : (o : Ordering) (r s : Option Data) → r ≡ s → r ≡ match_ordering o s (first_given None s) s
same_everywhere Less r s h = h
same_everywhere Equal r s h = h ∙ sym (first_of_none s)
same_everywhere Greater r s h = h

given_here : (o : Ordering) (d : Data) (r s : Option Data) → r ≡ s → match_ordering o r (Some d) r ≡ match_ordering o s (first_given (Some d) s) s
given_here Less d r s h = h
given_here Equal d r s h = sym (first_of_some d s)
given_here Greater d r s h = h

found_step : (key next : List ℕ) (o : Option Data) (rest : Members) (r : Option Data) → get_member key rest ≡ r
    → get_member key (with_given next o rest) ≡ match_ordering (slice_cmp nat_cmp key next) r (first_given o r) r
found_step key next None rest r h = same_everywhere (slice_cmp nat_cmp key next) _ r h
found_step key next (Some d) rest r h = given_here (slice_cmp nat_cmp key next) d _ r h

found_member : (key : List ℕ) (fs : List (List ℕ × Option Data)) → get_member key (fields fs) ≡ found key fs
found_member key [] = refl
found_member key (f ∷ fs) = found_step key f.0 f.1 (fields fs) (found key fs) (found_member key fs)

pub field_is : (fs : List (List ℕ × Option Data)) (f : Field) (o : Option Data) → found (field_name f) fs ≡ o → field (object (fields fs)) f ≡ o
unfolding field
field_is fs f o h = found_member (field_name f) fs ∙ h

pub needed_is : {A : Type 0} (reads : Data → Option A) (fs : List (List ℕ × Option Data)) (f : Field) (d : Data) (x : A) → found (field_name f) fs ≡ Some d → reads d ≡ Some x
    → needed_field reads (object (fields fs)) f ≡ Ok x
needed_is reads fs f d x h e = rw (field_is fs f (Some d) h, e)

pub given_is : (fs : List (List ℕ × Option Data)) (f : Field) (o : Option Data) → found (field_name f) fs ≡ o → given_field (object (fields fs)) f ≡ option_and_then unless_null o
unfolding given_field
given_is fs f o h = ap (option_and_then unless_null) (field_is fs f o h)

pub str_is : (fs : List (List ℕ × Option Data)) (f : Field) (bytes : List ℕ) → found (field_name f) fs ≡ Some (string bytes) → str_field (object (fields fs)) f ≡ Ok bytes
unfolding str_field
str_is fs f bytes h = needed_is as_str fs f (string bytes) bytes h refl

-- ---- counts

pub count_written : (n : ℕ) → IsTrue (is_count n) → count (written_count n) ≡ Some n
unfolding count
count_written n h = rw h

pub count_is : (fs : List (List ℕ × Option Data)) (f : Field) (n : ℕ) → found (field_name f) fs ≡ Some (written_count n) → IsTrue (is_count n) → count_field (object (fields fs)) f ≡ Ok n
unfolding count_field
count_is fs f n h e = needed_is count fs f (written_count n) n h (count_written n e)

not_less : (p q : ℕ) → p ≤ q → nat_lt q p ≡ false
not_less p q h = le-ltb q p h

pub range_is : (fs : List (List ℕ × Option Data)) (p q : ℕ) → found (field_name Pos1) fs ≡ Some (written_count p) → found (field_name Pos2) fs ≡ Some (written_count q) → IsTrue (is_range p q)
    → range (object (fields fs)) ≡ Ok (p, q)
unfolding range
range_is fs p q h g e =
    let parts = both _ _ e in
    let order = leb-true p q parts.0 in
    let last = ltb-true q (2 ^ 53) parts.1 in
    let small = lt-ltb p (2 ^ 53) (omega arith) in
    rw (count_is fs Pos1 p h small, count_is fs Pos2 q g parts.1, not_less p q order)

-- ---- whole numbers

pub whole_written : (z low high : ℤ) → IsTrue (is_within low high z) → whole_within (written_number z) low high ≡ Some z
unfolding whole_within
whole_written (pos n) low high h = rw h
whole_written (negsuc n) low high h = rw h

pub signed_is : (fs : List (List ℕ × Option Data)) (f : Field) (z : ℤ) → found (field_name f) fs ≡ Some (written_number z) → IsTrue (is_safe z) → signed_field (object (fields fs)) f ≡ Ok z
unfolding signed_field
signed_is fs f z h e = needed_is _ fs f (written_number z) z h (whole_written z _ _ e)

pub num_is : (fs : List (List ℕ × Option Data)) (f : Field) (z : ℤ) → found (field_name f) fs ≡ Some (written_number z) → IsTrue (is_within (negsuc 0) (pos (2 ^ 53 - 1)) z)
    → num_field (object (fields fs)) f ≡ Ok z
unfolding num_field
num_is fs f z h e = needed_is _ fs f (written_number z) z h (whole_written z _ _ e)

-- ---- texts and items

pub text_is : (fs : List (List ℕ × Option Data)) (f : Field) (text : Characters) → found (field_name f) fs ≡ Some (written_text text) → IsText text → text_field (object (fields fs)) f ≡ Ok text
unfolding text_field
text_is fs f text h e = needed_is _ fs f (written_text text) text h (ap Some (chars-encodes text e))

listed_written : {A : Type 0} (written_as : A → Data) (xs : List A) → listed (written_items written_as xs) ≡ map written_as xs
listed_written written_as [] = refl
listed_written written_as (x ∷ xs) = ap (λ ds. written_as x ∷ ds) (listed_written written_as xs)

pub items_written : {A : Type 0} (written_as : A → Data) (xs : List A) → items (array (written_items written_as xs)) ≡ Some (map written_as xs)
unfolding items
items_written written_as xs = ap Some (listed_written written_as xs)

pub array_is : {A : Type 0} (written_as : A → Data) (fs : List (List ℕ × Option Data)) (f : Field) (xs : List A) → found (field_name f) fs ≡ Some (array (written_items written_as xs))
    → array_field (object (fields fs)) f ≡ Ok (map written_as xs)
unfolding array_field
array_is written_as fs f xs h = needed_is items fs f _ _ h (items_written written_as xs)
