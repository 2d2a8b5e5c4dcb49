-- The compact text of a canonical value: it has no float, and it is UTF-8.
use Rattle.std.proofs.Common.{◌≡◌, ℕ, pos, negsuc, List, [], ◌∷◌, Bool, true, false, ◌||◌, IsUtf8, refl, ap₂, ltb-true}
use Rattle.std.proofs.lemmas.Bool.{false≢true}
use Rattle.std.proofs.lemmas.Fmt.{IsAscii-decimal, IsAscii-signed}
use Rattle.std.proofs.lemmas.Str.{IsUtf8-append, IsUtf8-nil, IsUtf8-from_ascii}
use Rattle.json.proofs.Printed.Utf8.{IsUtf8-are_ascii, IsUtf8-quoted, IsUtf8-boolean}
use Rattle.serde_json.specs.Data.{Num, unsigned, negative, float, Data, null, boolean, number, string, array, object, Items, no_items, item, Members, no_members, member}
use Rattle.serde_json.specs.Find.{is_float}
use Rattle.serde_json.specs.Written.{number_text, has_float, items_have_float, members_have_float, comma_if, compact_text, items_text, members_text}
use Rattle.ft_json.specs.Canonical.{is_whole, IsCanonical, ItemsAreCanonical, MembersAreCanonical}

-- ---- no float

is_float-is_whole : (n : Num) → is_whole n ≡ true → is_float n ≡ false
is_float-is_whole (unsigned n) h = refl
is_float-is_whole (negative z) h = refl
is_float-is_whole (float x) h = absurd (false≢true h)

neither : (a b : Bool) → a ≡ false → b ≡ false → (a || b) ≡ false
neither a b p q = ap₂ (λ (x y : Bool). x || y) p q

mutual
  pub has_float-IsCanonical : (d : Data) → IsCanonical d → has_float d ≡ false
  has_float-IsCanonical null h = refl
  has_float-IsCanonical (boolean b) h = refl
  has_float-IsCanonical (number n) h = is_float-is_whole n h
  has_float-IsCanonical (string s) h = refl
  has_float-IsCanonical (array ds) h = items_have_float-ItemsAreCanonical ds h
  has_float-IsCanonical (object ms) h = members_have_float-MembersAreCanonical ms h

  items_have_float-ItemsAreCanonical : (ds : Items) → ItemsAreCanonical ds → items_have_float ds ≡ false
  items_have_float-ItemsAreCanonical no_items h = refl
  items_have_float-ItemsAreCanonical (item d ds) h = neither (has_float d) _ (has_float-IsCanonical d h.0) (items_have_float-ItemsAreCanonical ds h.1)

  members_have_float-MembersAreCanonical : (ms : Members) → MembersAreCanonical ms → members_have_float ms ≡ false
  members_have_float-MembersAreCanonical no_members h = refl
  members_have_float-MembersAreCanonical (member k d ms) h = neither (has_float d) _ (has_float-IsCanonical d h.2) (members_have_float-MembersAreCanonical ms h.3)

-- ---- UTF-8

ascii_first : (x : ℕ) (xs : List ℕ) → IsUtf8 (x ∷ []) → IsUtf8 xs → IsUtf8 (x ∷ xs)
ascii_first x xs first rest = IsUtf8-append (x ∷ []) xs first rest

IsUtf8-comma_if : (later : Bool) → IsUtf8 (comma_if later)
IsUtf8-comma_if true = IsUtf8-are_ascii (44 ∷ []) refl
IsUtf8-comma_if false = IsUtf8-nil

IsUtf8-number_text : (n : Num) → is_whole n ≡ true → IsUtf8 (number_text n)
IsUtf8-number_text (unsigned n) h = IsUtf8-from_ascii _ (IsAscii-decimal n (ltb-true _ _ h))
IsUtf8-number_text (negative (pos n)) h = absurd (false≢true h)
IsUtf8-number_text (negative (negsuc n)) h = IsUtf8-from_ascii _ (IsAscii-signed (negsuc n) (ltb-true _ _ h))
IsUtf8-number_text (float x) h = absurd (false≢true h)

mutual
  pub IsUtf8-compact_text : (d : Data) → IsCanonical d → IsUtf8 (compact_text d)
  IsUtf8-compact_text null h = IsUtf8-are_ascii (110 ∷ 117 ∷ 108 ∷ 108 ∷ []) refl
  IsUtf8-compact_text (boolean b) h = IsUtf8-boolean b
  IsUtf8-compact_text (number n) h = IsUtf8-number_text n h
  IsUtf8-compact_text (string s) h = IsUtf8-quoted s h
  IsUtf8-compact_text (array ds) h = ascii_first 91 _ (IsUtf8-are_ascii (91 ∷ []) refl) (IsUtf8-items_text false ds h)
  IsUtf8-compact_text (object ms) h = ascii_first 123 _ (IsUtf8-are_ascii (123 ∷ []) refl) (IsUtf8-members_text false ms h)

  IsUtf8-items_text : (later : Bool) (ds : Items) → ItemsAreCanonical ds → IsUtf8 (items_text later ds)
  IsUtf8-items_text later no_items h = IsUtf8-are_ascii (93 ∷ []) refl
  IsUtf8-items_text later (item d ds) h =
      IsUtf8-append (comma_if later) _ (IsUtf8-comma_if later) (IsUtf8-append (compact_text d) _ (IsUtf8-compact_text d h.0) (IsUtf8-items_text true ds h.1))

  IsUtf8-members_text : (later : Bool) (ms : Members) → MembersAreCanonical ms → IsUtf8 (members_text later ms)
  IsUtf8-members_text later no_members h = IsUtf8-are_ascii (125 ∷ []) refl
  IsUtf8-members_text later (member k d ms) h =
      let value = IsUtf8-append (compact_text d) _ (IsUtf8-compact_text d h.2) (IsUtf8-members_text true ms h.3) in
      IsUtf8-append (comma_if later) _ (IsUtf8-comma_if later) (IsUtf8-append _ _ (IsUtf8-quoted k h.0) (ascii_first 58 _ (IsUtf8-are_ascii (58 ∷ []) refl) value))
