-- The compact text of a canonical value opens as many levels as the value has.
use Rattle.std.proofs.Common.{◌≡◌, ℕ, zero, suc, ◌+◌, ◌<◌, ◌≤◌, pos, negsuc, List, [], ◌∷◌, ◌++◌, Bool, true, false, not, ◌&&◌, max, nat_eq, nat_le, refl, sym, ap, ◌∙◌, arith, append_assoc, append-nil, ltb-true, inl, inr, ◌^◌, Option, None, Some}
use Rattle.std.proofs.lemmas.Bool.{false≢true, and_parts, cases_lt, cases_eq, ne_eqb, le-leb}
use Rattle.std.proofs.lemmas.Bool.Decides.{nat_tests}
use Rattle.std.proofs.lemmas.Fmt.{decimal_is_IsNumeral}
use Rattle.std.proofs.lemmas.Str.Parse.{digit_from_value}
use Rattle.std.specs.Fmt.{decimal}
use Rattle.std.specs.Str.Parse.{AllDigits}
use Rattle.json.specs.Print.{escape_byte, escape, quoted}
use Rattle.json.proofs.Printed.Strings.{escape_byte_plain}
use Rattle.serde_json.specs.Data.{Num, unsigned, negative, float, Data, null, boolean, number, string, array, object, Items, no_items, item, Members, no_members, member, depth, items_depth, members_depth}
use Rattle.serde_json.specs.Written.{number_text, comma_if, compact_text, items_text, members_text}
use Rattle.ft_json.specs.Canonical.{is_whole, IsCanonical, ItemsAreCanonical, MembersAreCanonical}
use Rattle.ft_json.specs.declared.levels.Place.{Place}
use Rattle.ft_json.specs.declared.levels.Place.TheVariants.{Outside, Inside, Escaped}
use Rattle.ft_json.specs.Levels.{left_behind, next_place, opens_at_most}

-- ---- strings

-- whether bytes that stand so leave their string nowhere, and end in it
abbrev stays : Place → List ℕ → Bool
stays Outside xs = false
stays Inside [] = true
stays Escaped [] = false
stays Inside (x ∷ xs) = not (nat_eq x 34) && stays (next_place Inside x) xs
stays Escaped (x ∷ xs) = stays Inside xs

passes : (left : ℕ) (place : Place) (xs rest : List ℕ) → stays place xs ≡ true
    → opens_at_most left place (xs ++ rest) ≡ opens_at_most left Inside rest
passes left Outside xs rest e = absurd (false≢true e)
passes left Inside [] rest e = refl
passes left Escaped [] rest e = absurd (false≢true e)
passes left Inside (x ∷ xs) rest e = passes left (next_place Inside x) xs rest (and_parts _ _ e).1
passes left Escaped (x ∷ xs) rest e = passes left Inside xs rest e

abbrev escapes_stay_below : ℕ → Bool
escapes_stay_below zero = true
escapes_stay_below (suc n) = stays Inside (escape_byte n) && escapes_stay_below n

escape_below : (n : ℕ) → escapes_stay_below n ≡ true → (c : ℕ) → c < n → stays Inside (escape_byte c) ≡ true
escape_below zero e c h = absurd (omega arith)
escape_below (suc n) e c h =
    let p = and_parts _ _ e in
    elim (cases_eq c n) [ inl same ↦ rw same p.0 | inr other ↦ escape_below n p.1 c (omega arith) ]

low_escapes_stay : escapes_stay_below 128 ≡ true
unfolding escape_byte
low_escapes_stay = refl

other_byte : (c : ℕ) → 128 ≤ c → stays Inside (c ∷ []) ≡ true
other_byte c high =
    let quote : nat_eq c 34 ≡ false = ne_eqb c 34 (λ e. omega arith) in
    let slash : nat_eq c 92 ≡ false = ne_eqb c 92 (λ e. omega arith) in
    rw (quote, slash) refl

escape_stays : (c : ℕ) → stays Inside (escape_byte c) ≡ true
escape_stays c =
    elim (cases_lt c 128) [
      | inl small ↦ escape_below 128 low_escapes_stay c small
      | inr high ↦ ap (stays Inside) (escape_byte_plain c (λ e. omega arith) (λ e. omega arith) (omega arith)) ∙ other_byte c high
    ]

escape_passes : (left : ℕ) (s rest : List ℕ) → opens_at_most left Inside (escape s ++ rest) ≡ opens_at_most left Inside rest
escape_passes left [] rest = refl
escape_passes left (c ∷ s) rest =
    ap (opens_at_most left Inside) (append_assoc (escape_byte c) (escape s) rest)
    ∙ passes left Inside (escape_byte c) (escape s ++ rest) (escape_stays c)
    ∙ escape_passes left s rest

quoted_passes : (left : ℕ) (s rest : List ℕ) → opens_at_most left Outside (quoted s ++ rest) ≡ opens_at_most left Outside rest
quoted_passes left s rest =
    ap (opens_at_most left Inside) (append_assoc (escape s) (34 ∷ []) rest) ∙ escape_passes left s (34 ∷ rest)

-- ---- numbers

plain_byte : (left c : ℕ) (rest : List ℕ) → left_behind left Outside c ≡ Some left → next_place Outside c ≡ Outside
    → opens_at_most left Outside (c ∷ rest) ≡ opens_at_most left Outside rest
plain_byte left c rest stays same =
    ap (λ (o : Option ℕ). elim o as (λ _. Bool) [ None ↦ false | Some behind ↦ opens_at_most behind (next_place Outside c) rest ]) stays
    ∙ ap (λ place. opens_at_most left place rest) same

digits_pass : (left : ℕ) (ds rest : List ℕ) → AllDigits 10 ds → opens_at_most left Outside (ds ++ rest) ≡ opens_at_most left Outside rest
digits_pass left [] rest digits = refl
digits_pass left (c ∷ cs) rest digits =
    let digit = digit_from_value c digits.0 in
    let quote : nat_eq c 34 ≡ false = ne_eqb c 34 (λ e. omega (arith, digit)) in
    let list : nat_eq c 91 ≡ false = ne_eqb c 91 (λ e. omega (arith, digit)) in
    let end_list : nat_eq c 93 ≡ false = ne_eqb c 93 (λ e. omega (arith, digit)) in
    let set : nat_eq c 123 ≡ false = ne_eqb c 123 (λ e. omega (arith, digit)) in
    let end_set : nat_eq c 125 ≡ false = ne_eqb c 125 (λ e. omega (arith, digit)) in
    let stays : left_behind left Outside c ≡ Some left = rw (list, end_list, set, end_set) refl in
    let same : next_place Outside c ≡ Outside = rw quote refl in
    plain_byte left c (cs ++ rest) stays same ∙ digits_pass left cs rest digits.1

decimal_passes : (left n : ℕ) (rest : List ℕ) → n < 2 ^ 64 → opens_at_most left Outside (decimal n ++ rest) ≡ opens_at_most left Outside rest
decimal_passes left n rest small = digits_pass left (decimal n) rest (decimal_is_IsNumeral n small).0.1

number_passes : (left : ℕ) (n : Num) (rest : List ℕ) → is_whole n ≡ true
    → opens_at_most left Outside (number_text n ++ rest) ≡ opens_at_most left Outside rest
number_passes left (unsigned n) rest h = decimal_passes left n rest (ltb-true _ _ h)
number_passes left (negative (pos n)) rest h = absurd (false≢true h)
number_passes left (negative (negsuc n)) rest h =
    let small : n < 2 ^ 63 = ltb-true _ _ h in
    decimal_passes left (suc n) rest (omega arith)
number_passes left (float x) rest h = absurd (false≢true h)

-- ---- values

comma_passes : (left : ℕ) (later : Bool) (rest : List ℕ) → opens_at_most left Outside (comma_if later ++ rest) ≡ opens_at_most left Outside rest
comma_passes left true rest = refl
comma_passes left false rest = refl

word_passes : (left : ℕ) (b : Bool) (rest : List ℕ) → opens_at_most left Outside (compact_text (boolean b) ++ rest) ≡ opens_at_most left Outside rest
word_passes left true rest = refl
word_passes left false rest = refl

one_more : (left : ℕ) → left + 1 ≡ suc left
one_more left = omega arith

-- a value of no levels fits
none_fit : (left : ℕ) (more : Bool) → more ≡ (nat_le 0 left && more)
none_fit left more = sym (ap (λ b. b && more) (le-leb 0 left (omega arith)))

one_deeper : (n left : ℕ) → nat_le n left ≡ nat_le (suc n) (suc left)
one_deeper n left = grind (arith, nat_tests)

none_left : (n : ℕ) (more : Bool) → false ≡ (nat_le (suc n) 0 && more)
none_left n more = grind (arith, nat_tests)

both_fit : (a b left : ℕ) (more : Bool) → (nat_le a left && (nat_le b left && more)) ≡ (nat_le (max a b) left && more)
both_fit a b left more = grind (arith, nat_tests)

mutual
  opens_levels : (d : Data) (left : ℕ) (rest : List ℕ) → IsCanonical d
      → opens_at_most left Outside (compact_text d ++ rest) ≡ (nat_le (depth d) left && opens_at_most left Outside rest)
  opens_levels null left rest h = none_fit left _
  opens_levels (boolean b) left rest h = word_passes left b rest ∙ none_fit left _
  opens_levels (number n) left rest h = number_passes left n rest h ∙ none_fit left _
  opens_levels (string s) left rest h = quoted_passes left s rest ∙ none_fit left _
  opens_levels (array ds) zero rest h = none_left (items_depth ds) _
  opens_levels (array ds) (suc left) rest h =
      items_open_levels ds false left rest h ∙ ap (λ b. b && opens_at_most (suc left) Outside rest) (one_deeper (items_depth ds) left)
  opens_levels (object ms) zero rest h = none_left (members_depth ms) _
  opens_levels (object ms) (suc left) rest h =
      members_open_levels ms false left rest h ∙ ap (λ b. b && opens_at_most (suc left) Outside rest) (one_deeper (members_depth ms) left)

  items_open_levels : (ds : Items) (later : Bool) (left : ℕ) (rest : List ℕ) → ItemsAreCanonical ds
      → opens_at_most left Outside (items_text later ds ++ rest) ≡ (nat_le (items_depth ds) left && opens_at_most (suc left) Outside rest)
  items_open_levels no_items later left rest h = ap (λ n. opens_at_most n Outside rest) (one_more left) ∙ none_fit left _
  items_open_levels (item d ds) later left rest h =
      let all = compact_text d ++ items_text true ds in
      ap (opens_at_most left Outside) (append_assoc (comma_if later) all rest)
      ∙ comma_passes left later (all ++ rest)
      ∙ ap (opens_at_most left Outside) (append_assoc (compact_text d) (items_text true ds) rest)
      ∙ opens_levels d left (items_text true ds ++ rest) h.0
      ∙ ap (λ b. nat_le (depth d) left && b) (items_open_levels ds true left rest h.1)
      ∙ both_fit (depth d) (items_depth ds) left _

  members_open_levels : (ms : Members) (later : Bool) (left : ℕ) (rest : List ℕ) → MembersAreCanonical ms
      → opens_at_most left Outside (members_text later ms ++ rest) ≡ (nat_le (members_depth ms) left && opens_at_most (suc left) Outside rest)
  members_open_levels no_members later left rest h = ap (λ n. opens_at_most n Outside rest) (one_more left) ∙ none_fit left _
  members_open_levels (member k d ms) later left rest h =
      let value = compact_text d ++ members_text true ms in
      ap (opens_at_most left Outside) (append_assoc (comma_if later) (quoted k ++ 58 ∷ value) rest)
      ∙ comma_passes left later ((quoted k ++ 58 ∷ value) ++ rest)
      ∙ ap (opens_at_most left Outside) (append_assoc (quoted k) (58 ∷ value) rest)
      ∙ quoted_passes left k (58 ∷ (value ++ rest))
      ∙ ap (opens_at_most left Outside) (append_assoc (compact_text d) (members_text true ms) rest)
      ∙ opens_levels d left (members_text true ms ++ rest) h.2
      ∙ ap (λ b. nat_le (depth d) left && b) (members_open_levels ms true left rest h.3)
      ∙ both_fit (depth d) (members_depth ms) left _

and_true : (b : Bool) → (b && true) ≡ b
and_true true = refl
and_true false = refl

pub opens_its_levels : (d : Data) → IsCanonical d → opens_at_most 100 Outside (compact_text d) ≡ nat_le (depth d) 100
opens_its_levels d h =
    ap (opens_at_most 100 Outside) (sym (append-nil (compact_text d))) ∙ opens_levels d 100 [] h ∙ and_true (nat_le (depth d) 100)
