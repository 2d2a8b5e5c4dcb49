-- What stands on both sides of a place and beside a range, as walks over elements find it that are alike, many at a time.
use Rattle.std.proofs.Common.{◌≡◌, ℕ, zero, suc, ◌+◌, ◌≤◌, ◌<◌, Bool, true, false, cond, not, ◌&&◌, ◌||◌, nat_eq, List, [], ◌∷◌, ◌++◌, refl, sym, ◌∙◌, ap, subst, arith, drop, filter, length, map, reverse, take}
use Rattle.std.proofs.lemmas.Bool.{and_from, and_parts, eqb-true, or_right}
use mathlib.Core.List.{reverse_aux}
use Rattle.ft_base.specs.Scan.{len, one_more_if, place, within}
use Rattle.ft_changes.specs.Beside.{first_passes, marked_range, pass_beside_marked, passes_beside_place}
use Rattle.ft_changes.specs.ShownRuns.{place_of_insertion}
use Rattle.ft_tree_changes.specs.StandingElements.{pass_from_marked}
use Rattle.ft_tree_changes.proofs.ChangedParts.{if-more, if-none}
use Rattle.ft_tree_changes.proofs.WalkedRuns.{none-before, none-between, none-inside, one-inside}

-- ---- the last that stands

module _ {A : Type 0} (stands test : A → Bool) where
  -- whether the last that stands passes the test, or b where none stands
  abbrev pub last_passes : Bool → List A → Bool
  last_passes b [] = b
  last_passes b (x ∷ xs) = last_passes (cond (stands x) (test x) b) xs

  last-reversed : (ys xs : List A) → first_passes stands test (reverse_aux xs ys) ≡ last_passes (first_passes stands test ys) xs
  last-reversed ys [] = refl
  last-reversed ys (x ∷ xs) = last-reversed (x ∷ ys) xs

  pub first-reversed : (xs : List A) → first_passes stands test (reverse xs) ≡ last_passes true xs
  first-reversed xs = last-reversed [] xs

  pub last-append : (b : Bool) (xs ys : List A) → last_passes b (xs ++ ys) ≡ last_passes (last_passes b xs) ys
  last-append b [] ys = refl
  last-append b (x ∷ xs) ys = last-append (cond (stands x) (test x) b) xs ys

-- ---- elements that are alike

module _ {A U : Type 0} (stands test : A → Bool) (f : U → A) where
  pub first-past : ((u : U) → stands (f u) ≡ false) → (us : List U) (back : List A)
      → first_passes stands test (map f us ++ back) ≡ first_passes stands test back
  first-past none [] back = refl
  first-past none (u ∷ us) back =
      ap (λ b. cond b (test (f u)) (first_passes stands test (map f us ++ back))) (none u) ∙ first-past none us back

  pub last-past : ((u : U) → stands (f u) ≡ false) → (b : Bool) (us : List U) → last_passes stands test b (map f us) ≡ b
  last-past none b [] = refl
  last-past none b (u ∷ us) = ap (λ c. last_passes stands test (cond c (test (f u)) b) (map f us)) (none u) ∙ last-past none b us

  module _ (t : Bool) (all : (u : U) → stands (f u) ≡ true) (tests : (u : U) → test (f u) ≡ t) where
    pub first-here : (us : List U) (back : List A) → 0 < length us → first_passes stands test (map f us ++ back) ≡ t
    first-here [] back some = absurd (omega arith)
    first-here (u ∷ us) back some = ap (λ b. cond b (test (f u)) (first_passes stands test (map f us ++ back))) (all u) ∙ tests u

    pub last-here : (b : Bool) (us : List U) → 0 < length us → last_passes stands test b (map f us) ≡ t
    last-here b [] some = absurd (omega arith)
    last-here b (u ∷ []) some = ap (λ c. cond c (test (f u)) b) (all u) ∙ tests u
    last-here b (u ∷ v ∷ us) some = last-here (cond (stands (f u)) (test (f u)) b) (v ∷ us) (omega arith)

-- ---- marked elements

either-passes : (m t n s : Bool) → m || t ≡ true → n || s ≡ true → cond m (n || s) (not n || t) ≡ true
either-passes true t n s h k = k
either-passes false t true s h k = h
either-passes false t false s h k = refl

-- one more in front
pass-more : {A : Type 0} (test : A → Bool) (a : Bool × A) (xs : List (Bool × A)) → a.0 || test a.1 ≡ true
    → pass_from_marked test xs ≡ true → pass_from_marked test (a ∷ xs) ≡ true
pass-more test a [] h k = and_from (a.0 || test a.1) true h refl
pass-more test a (b ∷ xs) h k =
    let parts = and_parts (b.0 || test b.1) (pass_beside_marked test (b ∷ xs)) k in
    and_from (a.0 || test a.1) (pass_beside_marked test (a ∷ b ∷ xs)) h
    (and_from (cond a.0 (b.0 || test b.1) (not b.0 || test a.1)) (pass_beside_marked test (b ∷ xs))
    (either-passes a.0 (test a.1) b.0 (test b.1) h parts.0) parts.1)

pass-beside : {A : Type 0} (test : A → Bool) (xs : List (Bool × A)) → pass_from_marked test xs ≡ true → pass_beside_marked test xs ≡ true
pass-beside test [] k = refl
pass-beside test (a ∷ xs) k = (and_parts (a.0 || test a.1) (pass_beside_marked test (a ∷ xs)) k).1

if-len : (b : Bool) (n k : ℕ) → one_more_if b n + k ≡ n + one_more_if b k
if-len true n k = omega arith
if-len false n k = refl

unmarked-by : (b : Bool) (p q n k : ℕ) → n + one_more_if b k ≤ p → b && within p q n ≡ false
unmarked-by true p q n k h = none-before p q n (omega (arith, h))
unmarked-by false p q n k h = refl

module _ {A : Type 0} (test : A → Bool) where
  -- one more that isn't marked, if it stands
  next-unmarked : (a x : A) (s m : Bool) (rest : List (Bool × A)) → m ≡ false
      → (s ≡ true → pass_beside_marked test ((false, x) ∷ rest) ≡ true) → (s ≡ false → pass_beside_marked test ((false, a) ∷ rest) ≡ true)
      → pass_beside_marked test ((false, a) ∷ cond s ((m, x) ∷ rest) rest) ≡ true
  next-unmarked a x s true rest e h k = (cc)
  next-unmarked a x true false rest e h k = h refl
  next-unmarked a x false false rest e h k = k refl

  first-unmarked : (x : A) (s m : Bool) (rest : List (Bool × A)) → m ≡ false
      → (s ≡ true → pass_beside_marked test ((false, x) ∷ rest) ≡ true) → (s ≡ false → pass_beside_marked test rest ≡ true)
      → pass_beside_marked test (cond s ((m, x) ∷ rest) rest) ≡ true
  first-unmarked x s true rest e h k = (cc)
  first-unmarked x true false rest e h k = h refl
  first-unmarked x false false rest e h k = k refl

  from-unmarked : (x : A) (s m : Bool) (rest : List (Bool × A)) → m ≡ false
      → (s ≡ true → test x ≡ true) → (s ≡ true → pass_beside_marked test ((false, x) ∷ rest) ≡ true)
      → (s ≡ false → pass_from_marked test rest ≡ true) → pass_from_marked test (cond s ((m, x) ∷ rest) rest) ≡ true
  from-unmarked x s true rest e t h k = (cc)
  from-unmarked x true false rest e t h k = and_from (test x) (pass_beside_marked test ((false, x) ∷ rest)) (t refl) (h refl)
  from-unmarked x false false rest e t h k = k refl

  -- one more that is marked or passes the test, if it stands
  from-passing : (x : A) (s m : Bool) (rest : List (Bool × A)) → not s || (m || test x) ≡ true → pass_from_marked test rest ≡ true
      → pass_from_marked test (cond s ((m, x) ∷ rest) rest) ≡ true
  from-passing x true m rest h k = pass-more test (m, x) rest h k
  from-passing x false m rest h k = k

-- those that stand, each with whether it is in the range, where n are seen before the list
abbrev standing_marked : {A : Type 0} → (A → Bool) → (A → Bool) → ℕ → ℕ → ℕ → List A → List (Bool × A)
standing_marked seen stands p q n xs = filter (λ m. stands m.1) (marked_range n seen p q xs)

module _ {A : Type 0} (seen stands test : A → Bool) (p q : ℕ) where
  abbrev marks : ℕ → List A → List (Bool × A)
  marks n xs = standing_marked seen stands p q n xs

  -- ---- none of the range is left

  abbrev IsPast : ℕ → Type 0
  IsPast n = (j : ℕ) → n ≤ j → within p q j ≡ false

  out-by : (b : Bool) (n : ℕ) → IsPast n → b && within p q n ≡ false
  out-by true n out = out n (omega arith)
  out-by false n out = refl

  past-on : (b : Bool) (n : ℕ) → IsPast n → IsPast (one_more_if b n)
  past-on true n out j l = out j (omega (arith, l))
  past-on false n out j l = out j l

  beside-past : (n : ℕ) (a : A) → IsPast n → (xs : List A) → pass_beside_marked test ((false, a) ∷ marks n xs) ≡ true
  beside-past n a out [] = refl
  beside-past n a out (x ∷ xs) =
      let k = one_more_if (seen x) n in
      let on : IsPast k = past-on (seen x) n out in
      next-unmarked test a x (stands x) (seen x && within p q n) (marks k xs) (out-by (seen x) n out)
      (λ s. beside-past k x on xs) (λ s. beside-past k a on xs)

  pass-past : (n : ℕ) → IsPast n → (xs : List A) → pass_beside_marked test (marks n xs) ≡ true
  pass-past n out [] = refl
  pass-past n out (x ∷ xs) =
      let k = one_more_if (seen x) n in
      let on : IsPast k = past-on (seen x) n out in
      first-unmarked test x (stands x) (seen x && within p q n) (marks k xs) (out-by (seen x) n out)
      (λ s. beside-past k x on xs) (λ s. pass-past k on xs)

  -- an empty range
  pub pass-empty : q ≤ p → (xs : List A) → pass_beside_marked test (marks 0 xs) ≡ true
  pass-empty h xs = pass-past 0 (λ j l. none-between p q j h) xs

  from-past : (n : ℕ) → IsPast n → (xs : List A) → first_passes stands test xs ≡ true → pass_from_marked test (marks n xs) ≡ true
  from-past n out [] e = refl
  from-past n out (x ∷ xs) e =
      let k = one_more_if (seen x) n in
      let on : IsPast k = past-on (seen x) n out in
      let here : (b : Bool) → stands x ≡ b → cond b (test x) (first_passes stands test xs) ≡ true =
      λ b s. subst (λ c. cond c (test x) (first_passes stands test xs) ≡ true) s e in
      from-unmarked test x (stands x) (seen x && within p q n) (marks k xs) (out-by (seen x) n out)
      (here true) (λ s. beside-past k x on xs) (λ s. from-past k on xs (here false s))

  -- behind the range
  pub from-behind : (n : ℕ) → q ≤ n → (xs : List A) → first_passes stands test xs ≡ true → pass_from_marked test (marks n xs) ≡ true
  from-behind n h xs e = from-past n (λ j l. none-inside p q j (omega (arith, h, l))) xs e

  -- ---- before the range

  module _ (back : List A) where
    beside-before : (n : ℕ) (a : A) (xs : List A) → n + len seen xs ≤ p → last_passes stands test (test a) xs ≡ true
        → pass_from_marked test (marks (n + len seen xs) back) ≡ true
        → pass_beside_marked test ((false, a) ∷ marks n (xs ++ back)) ≡ true
    beside-before n a [] h e from =
        let none : n + 0 ≡ n = omega arith in
        let rest = subst (λ k. pass_from_marked test (marks k back) ≡ true) none from in
        pass-beside test ((false, a) ∷ marks n back) (pass-more test (false, a) (marks n back) e rest)
    beside-before n a (x ∷ xs) h e from =
        let k = one_more_if (seen x) n in
        let sum = if-len (seen x) n (len seen xs) in
        let few : k + len seen xs ≤ p = omega (arith, sum, h) in
        let rest = subst (λ m. pass_from_marked test (marks m back) ≡ true) (sym sum) from in
        let last : (b : Bool) → stands x ≡ b → last_passes stands test (cond b (test x) (test a)) xs ≡ true =
        λ b s. subst (λ c. last_passes stands test (cond c (test x) (test a)) xs ≡ true) s e in
        next-unmarked test a x (stands x) (seen x && within p q n) (marks k (xs ++ back))
        (unmarked-by (seen x) p q n (len seen xs) h)
        (λ s. beside-before k x xs few (last true s) rest) (λ s. beside-before k a xs few (last false s) rest)

    pub pass-before : (n : ℕ) (xs : List A) → n + len seen xs ≤ p → last_passes stands test true xs ≡ true
        → pass_from_marked test (marks (n + len seen xs) back) ≡ true → pass_beside_marked test (marks n (xs ++ back)) ≡ true
    pass-before n [] h e from =
        let none : n + 0 ≡ n = omega arith in
        pass-beside test (marks n back) (subst (λ k. pass_from_marked test (marks k back) ≡ true) none from)
    pass-before n (x ∷ xs) h e from =
        let k = one_more_if (seen x) n in
        let sum = if-len (seen x) n (len seen xs) in
        let few : k + len seen xs ≤ p = omega (arith, sum, h) in
        let rest = subst (λ m. pass_from_marked test (marks m back) ≡ true) (sym sum) from in
        let last : (b : Bool) → stands x ≡ b → last_passes stands test (cond b (test x) true) xs ≡ true =
        λ b s. subst (λ c. last_passes stands test (cond c (test x) true) xs ≡ true) s e in
        first-unmarked test x (stands x) (seen x && within p q n) (marks k (xs ++ back))
        (unmarked-by (seen x) p q n (len seen xs) h)
        (λ s. beside-before k x xs few (last true s) rest) (λ s. pass-before k xs few (last false s) rest)

-- ---- a leaf of the range

module _ {A U : Type 0} (seen stands test : A → Bool) (f : U → A) (p q : ℕ) (b s t : Bool) (sees : (u : U) → seen (f u) ≡ b)
    (stand : (u : U) → stands (f u) ≡ s) (tests : (u : U) → test (f u) ≡ t) where
  pub from-leaf : (n : ℕ) (us : List U) (back : List A)
      → ((j : ℕ) → n ≤ j → j < n + length us → not s || ((b && within p q j) || t) ≡ true)
      → pass_from_marked test (standing_marked seen stands p q (n + cond b (length us) 0) back) ≡ true
      → pass_from_marked test (standing_marked seen stands p q n (map f us ++ back)) ≡ true
  from-leaf n [] back ok h = subst (λ k. pass_from_marked test (standing_marked seen stands p q k back) ≡ true) (sym (if-none b n)) h
  from-leaf n (u ∷ us) back ok h =
      let k = one_more_if b n in
      let marked = standing_marked seen stands p q in
      let rest = from-leaf k us back (λ j l m. ok j (later b l) (within_more b m))
      (subst (λ m. pass_from_marked test (marked m back) ≡ true) (sym (if-more b n (length us))) h) in
      let next = subst (λ c. pass_from_marked test (marked (one_more_if c n) (map f us ++ back)) ≡ true) (sym (sees u)) rest in
      let here = ok n (omega arith) (omega arith) in
      from-passing test (f u) (stands (f u)) (seen (f u) && within p q n) (marked (one_more_if (seen (f u)) n) (map f us ++ back))
      (subst (λ c. not c || ((seen (f u) && within p q n) || test (f u)) ≡ true) (sym (stand u))
      (subst (λ c. not s || ((c && within p q n) || test (f u)) ≡ true) (sym (sees u))
      (subst (λ c. not s || ((b && within p q n) || c) ≡ true) (sym (tests u)) here))) next
    where
      later : (c : Bool) {j : ℕ} → one_more_if c n ≤ j → n ≤ j
      later true l = omega (arith, l)
      later false l = l

      within_more : (c : Bool) {j : ℕ} → j < one_more_if c n + length us → j < n + suc (length us)
      within_more true h = omega (arith, h)
      within_more false h = omega (arith, h)

-- ---- a place

pub len-all : {A : Type 0} (xs : List A) → len (λ (x : A). true) xs ≡ length xs
len-all [] = refl
len-all (x ∷ xs) = ap suc (len-all xs)

pub place-all : {A : Type 0} (n : ℕ) (xs : List A) → n ≤ length xs → place (λ (x : A). true) n xs ≡ n
place-all zero xs h = refl
place-all (suc n) [] h = absurd (omega (arith, h))
place-all (suc n) (x ∷ xs) h = ap suc (place-all n xs (omega (arith, h)))

-- both sides of the place of an insertion
pub beside-place : {A : Type 0} (seen past stands test : A → Bool) (p n : ℕ) (xs : List A)
    → place_of_insertion seen past (λ (x : A). true) p xs ≡ n
    → first_passes stands test (reverse (take n xs)) ≡ true → first_passes stands test (drop n xs) ≡ true
    → passes_beside_place seen past stands test p xs ≡ true
beside-place seen past stands test p n xs e before behind =
    subst (λ m. first_passes stands test (reverse (take m xs)) && first_passes stands test (drop m xs) ≡ true) (sym e)
    (and_from (first_passes stands test (reverse (take n xs))) (first_passes stands test (drop n xs)) before behind)

-- ---- what a walk over a range asks of a leaf

pub allowed : (s b t : Bool) (p q n len k c j : ℕ) → not s || (nat_eq c len || t) ≡ true → 1 ≤ len → k + c ≤ cond b len 0
    → (0 < c → (p ≤ n + k) × (n + k + c ≤ q)) → n ≤ j → j < n + len → not s || ((b && within p q j) || t) ≡ true
allowed false b t p q n len k c j h some fits inside l m = refl
allowed true b true p q n len k c j h some fits inside l m = or_right (b && within p q j) true refl
allowed true b false p q n len k c j h some fits inside l m = by b (nat_eq c len) refl h fits
  where
    by : (d e : Bool) → nat_eq c len ≡ e → e || false ≡ true → k + c ≤ cond d len 0 → (d && within p q j) || false ≡ true
    by d false e g f = (cc)
    by true true e g f =
        let all : c ≡ len = eqb-true c len e in
        let r = inside (omega (arith, all, some)) in
        ap (λ (w : Bool). w || false) (one-inside p q j (omega (arith, r.0, f, all, l)) (omega (arith, r.1, f, all, m)))
    by false true e g f = absurd (omega (arith, eqb-true c len e, f, some))
