-- The number of the element to which an end goes whose own isn't shown.
use Rattle.std.proofs.Common.{◌≡◌, ℕ, suc, ◌+◌, Bool, true, false, cond, not, ◌&&◌, ◌||◌, List, [], ◌∷◌, Option, Some, None, refl, sym, ◌∙◌, ap, subst, arith, find, ℤ, pos, negsuc}
use Rattle.std.specs.List.{list_any}
use Rattle.std.specs.Option.{option_map, option_or}
use Rattle.ft_base.proofs.Booleans.{both}
use Rattle.ft_base.specs.Scan.{len, one_more_if, rank, settled_after}
use Rattle.ft_props.specs.Element.{ElementId, ListElement, has_id, id, is_sequenced, is_unremoved, seen}
use Rattle.ft_props.specs.Slide.{end_number, settle, slide}
use Rattle.ft_laws_agreement.specs.Sequencing.{Each}
use Rattle.ft_laws_agreement.specs.Trimming.{are_distinct_elements}
use Rattle.ft_laws_agreement.proofs.SlidEnds.{same_id-refl}
use Rattle.ft_laws_names.proofs.DocumentsAlike.{same_id-turn}
use Rattle.ft_changes.proofs.AckedLists.{neither}
use Rattle.ft_changes.proofs.MovedEnds.{float, float-last, float-there}

-- of the elements of a list those pass that are shown, and all may be meant
abbrev pub AreTested : (ListElement → Bool) → (ListElement → Bool) → ℕ → List ListElement → Type 0
AreTested ok may k [] = Unit {0}
AreTested ok may k (x ∷ xs) = (ok x ≡ seen k x) × (may x ≡ true) × AreTested ok may k xs

-- nothing is pending on the elements of a list: each is sequenced, and is shown if it isn't removed
abbrev pub AreShown : ℕ → List ListElement → Type 0
AreShown k xs = AreTested is_unremoved is_sequenced k xs

-- each element of the list is the one that its name means, where i are shown before it
module _ (k : ℕ) (whole : List ListElement) where
  abbrev pub ArePlaced : ℕ → List ListElement → Type 0
  ArePlaced i [] = Unit {0}
  ArePlaced i (x ∷ xs) = (rank (has_id (id x)) (seen k) whole ≡ i) × ArePlaced (one_more_if (seen k x) i) xs

  number : Option ListElement → ℤ
  number o = end_number k whole (option_map id o)

  module _ (ok may : ListElement → Bool) where
    -- the first that passes, else the last before, where i are shown before the list
    first-number : (i : ℕ) (last : Option ListElement) (xs : List ListElement) → ArePlaced i xs → AreTested ok may k xs
        → end_number k whole (option_map id last) ≡ float i i
        → end_number k whole (option_map id (option_or (find ok xs) last)) ≡ float i (i + len (seen k) xs)
    first-number i last [] p s e = e ∙ ap (float i) (omega arith)
    first-number i last (x ∷ xs) p s e = by (seen k x) (ok x) s.0 refl (λ q. first-number i last xs q s.2 e) p.1
      where
        by : (b d : Bool) → d ≡ b → seen k x ≡ b
            → (ArePlaced i xs → end_number k whole (option_map id (option_or (find ok xs) last)) ≡ float i (i + len (seen k) xs))
            → ArePlaced (one_more_if b i) xs
            → end_number k whole (option_map id (option_or (cond d (Some x) (find ok xs)) last))
            ≡ float i (i + one_more_if b (len (seen k) xs))
        by true true f g ih q = ap pos p.0 ∙ sym (float-there i (i + suc (len (seen k) xs)) (omega arith))
        by true false f g ih q = absurd (cc)
        by false true f g ih q = absurd (cc)
        by false false f g ih q = ih q

    settled-number : (a : ElementId) (i : ℕ) (last : Option ListElement) (xs : List ListElement) → ArePlaced i xs → AreTested ok may k xs
        → list_any (has_id a) xs ≡ true
        → end_number k whole (option_map id last) ≡ float i i
        → end_number k whole (option_map id (settled_after (λ e. may e && has_id a e) ok last xs))
        ≡ float (i + rank (has_id a) (seen k) xs) (i + len (seen k) xs)
    settled-number a i last [] p s h e = absurd (cc)
    settled-number a i last (x ∷ xs) p s h e =
        ap (λ b. end_number k whole (option_map id (cond (b && has_id a x) (option_or (find ok (x ∷ xs)) last)
        (settled_after (λ e. may e && has_id a e) ok (cond (ok x) (Some x) last) xs)))) s.1
        ∙ by (has_id a x) h (λ l g d. settled-number a (one_more_if (seen k x) i) l xs p.1 s.2 g d)
      where
        Rest : Type 0
        Rest = (l : Option ListElement) → list_any (has_id a) xs ≡ true → end_number k whole (option_map id l)
            ≡ float (one_more_if (seen k x) i) (one_more_if (seen k x) i)
            → end_number k whole (option_map id (settled_after (λ e. may e && has_id a e) ok l xs))
            ≡ float (one_more_if (seen k x) i + rank (has_id a) (seen k) xs) (one_more_if (seen k x) i + len (seen k) xs)

        last-number : (b d : Bool) → d ≡ b → end_number k whole (option_map id (cond d (Some x) last)) ≡ float (one_more_if b i) (one_more_if b i)
        last-number true true f = ap pos p.0 ∙ sym (float-last (suc i) (suc i) (omega arith))
        last-number true false f = absurd (cc)
        last-number false true f = absurd (cc)
        last-number false false f = e

        same : (b : Bool) (r n : ℕ) → float (one_more_if b i + r) (one_more_if b i + n) ≡ float (i + one_more_if b r) (i + one_more_if b n)
        same true r n =
            let first : suc i + r ≡ i + suc r = omega arith in
            let second : suc i + n ≡ i + suc n = omega arith in
            ap (λ j. float j (suc i + n)) first ∙ ap (float (i + suc r)) second
        same false r n = refl

        by : (b : Bool) → b || list_any (has_id a) xs ≡ true → Rest
            → end_number k whole (option_map id (cond b (option_or (find ok (x ∷ xs)) last)
            (settled_after (λ e. may e && has_id a e) ok (cond (ok x) (Some x) last) xs)))
            ≡ float (i + cond b 0 (one_more_if (seen k x) (rank (has_id a) (seen k) xs))) (i + len (seen k) (x ∷ xs))
        by true g rest =
            let zero_more : i ≡ i + 0 = omega arith in
            first-number i last (x ∷ xs) p s e ∙ ap (λ j. float j (i + len (seen k) (x ∷ xs))) zero_more
        by false g rest =
            rest (cond (ok x) (Some x) last) g (last-number (seen k x) (ok x) s.0)
            ∙ same (seen k x) (rank (has_id a) (seen k) xs) (len (seen k) xs)

-- ---- where elements have names of their own

module _ (k : ℕ) where
  moved-on : (x y : ListElement) (i : ℕ) → one_more_if (seen k x) (one_more_if (seen k y) i) ≡ one_more_if (seen k y) (one_more_if (seen k x) i)
  moved-on x y i = by (seen k x) (seen k y)
    where
      by : (b d : Bool) → one_more_if b (one_more_if d i) ≡ one_more_if d (one_more_if b i)
      by true true = refl
      by true false = refl
      by false true = refl
      by false false = refl

  behind-one : (x : ListElement) (whole : List ListElement) (i : ℕ) (ys : List ListElement) → Each (λ y. has_id (id y) x ≡ false) ys
      → ArePlaced k whole i ys
      → ArePlaced k (x ∷ whole) (one_more_if (seen k x) i) ys
  behind-one x whole i [] h p = tt
  behind-one x whole i (y ∷ ys) h p = (
    ap (λ b. cond b 0 (one_more_if (seen k x) (rank (has_id (id y)) (seen k) whole))) h.0 ∙ ap (one_more_if (seen k x)) p.0,
    subst (λ j. ArePlaced k (x ∷ whole) j ys) (moved-on x y i) (behind-one x whole (one_more_if (seen k y) i) ys h.1 p.1),
  )

  apart : (x : ListElement) (ys : List ListElement) → list_any (has_id (id x)) ys ≡ false → Each (λ y. has_id (id y) x ≡ false) ys
  apart x [] h = tt
  apart x (y ∷ ys) h =
      let p = neither (has_id (id x) y) (list_any (has_id (id x)) ys) h in
      (same_id-turn (id y) (id x) ∙ p.0, apart x ys p.1)

  pub all-placed : (xs : List ListElement) → are_distinct_elements xs ≡ true → ArePlaced k xs 0 xs
  all-placed [] d = tt
  all-placed (x ∷ xs) d =
      let p = both (not (list_any (has_id (id x)) xs)) (are_distinct_elements xs) d in (
        ap (λ b. cond b 0 (one_more_if (seen k x) (rank (has_id (id x)) (seen k) xs))) (same_id-refl (id x)),
        behind-one x xs 0 xs (apart x xs (none (list_any (has_id (id x)) xs) p.0)) (all-placed xs p.1),
      )
    where
      none : (b : Bool) → not b ≡ true → b ≡ false
      none true h = absurd (cc)
      none false h = refl

  -- an end that slides is at the number where its element stood, or at the last
  pub slid-number : (xs : List ListElement) (a : ElementId) → are_distinct_elements xs ≡ true → AreShown k xs → list_any (has_id a) xs ≡ true
      → end_number k xs (slide xs (Some a)) ≡ float (rank (has_id a) (seen k) xs) (len (seen k) xs)
  slid-number xs a d s h =
      let start : negsuc 0 ≡ float 0 0 = sym (float-last 0 0 (omega arith)) in
      let first : 0 + rank (has_id a) (seen k) xs ≡ rank (has_id a) (seen k) xs = omega arith in
      let second : 0 + len (seen k) xs ≡ len (seen k) xs = omega arith in
      settled-number k xs is_unremoved is_sequenced a 0 None xs (all-placed xs d) s h start ∙ ap (λ j. float j (0 + len (seen k) xs)) first
      ∙ ap (float (rank (has_id a) (seen k) xs)) second

  seen-tested : (xs : List ListElement) → AreTested (seen k) (λ x. true) k xs
  seen-tested [] = tt
  seen-tested (x ∷ xs) = (refl, refl, seen-tested xs)

  -- and so is one that settles
  pub settle-number : (xs : List ListElement) (a : ElementId) → are_distinct_elements xs ≡ true → list_any (has_id a) xs ≡ true
      → end_number k xs (settle xs k (Some a)) ≡ float (rank (has_id a) (seen k) xs) (len (seen k) xs)
  settle-number xs a d h =
      let start : negsuc 0 ≡ float 0 0 = sym (float-last 0 0 (omega arith)) in
      let first : 0 + rank (has_id a) (seen k) xs ≡ rank (has_id a) (seen k) xs = omega arith in
      let second : 0 + len (seen k) xs ≡ len (seen k) xs = omega arith in
      settled-number k xs (seen k) (λ x. true) a 0 None xs (all-placed xs d) (seen-tested xs) h start ∙ ap (λ j. float j (0 + len (seen k) xs)) first
      ∙ ap (float (rank (has_id a) (seen k) xs)) second
