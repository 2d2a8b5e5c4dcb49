-- The acknowledgement of a stage in two lists side by side: the names of its elements change, each list's by its own count.
use Rattle.std.proofs.Common.{◌≡◌, ℕ, ◌+◌, ◌-◌, ◌≤◌, ◌<◌, Bool, true, false, cond, not, ◌&&◌, nat_eq, nat_lt, List, [], ◌∷◌, ◌++◌, Option, Some, None, refl, sym, ◌∙◌, ap, subst, map, arith}
use Rattle.std.specs.List.{list_all}
use Rattle.std.proofs.lemmas.Bool.Decides.{nat_tests}
use Rattle.ft_base.specs.declared.stamps.Stamp.{Stamp}
use Rattle.ft_base.specs.declared.stamps.Stamp.TheVariants.{Acked, Local}
use Rattle.ft_base.specs.Scan.{len, one_more_if}
use Rattle.ft_base.specs.Visibility.{is_acked, is_of_stage}
use Rattle.ft_props.specs.Element.{ElementId, ListElement, PendingId, SequencedId, has_id, id, id_of_stamp, same_id}
use Rattle.ft_props.specs.Steps.{Sequence, acked_element, acked_id, acked_list, acked_removal, acked_stamp, is_inserted_by}
use Rattle.ft_props.proofs.AcknowledgedInsertion.{same_nat}
use Rattle.ft_laws_agreement.proofs.SlidEnds.{same_id-eq, same_id-refl, true-false}
use Rattle.ft_laws_names.specs.WellNamed.{IsWellNumbered, has_odd_removal}
use Rattle.ft_laws_names.proofs.Beside.{beside-both, beside-map, ends, next}
use Rattle.ft_laws_names.proofs.ListSteps.{ListsAlike}
use Rattle.ft_laws_names.proofs.Twins.{BesideList, IsTwin, Named, StandAlike, there-other}

-- ---- counts

pub len-map : {A B : Type 0} (test : B → Bool) (f : A → B) (xs : List A) → len test (map f xs) ≡ len (λ e. test (f e)) xs
len-map test f [] = refl
len-map test f (x ∷ xs) = ap (one_more_if (test (f x))) (len-map test f xs)

pub len-same : {A : Type 0} (s t : A → Bool) → ((e : A) → s e ≡ t e) → (xs : List A) → len s xs ≡ len t xs
len-same s t h [] = refl
len-same s t h (x ∷ xs) = ap (λ b. one_more_if b (len s xs)) (h x) ∙ ap (one_more_if (t x)) (len-same s t h xs)

pub len-none : {A : Type 0} (s : A → Bool) → ((e : A) → s e ≡ false) → (xs : List A) → len s xs ≡ 0
len-none s h [] = refl
len-none s h (x ∷ xs) = rw (h x) (len-none s h xs)

count-sum : (a b c : Bool) (l m n : ℕ) → one_more_if a 0 ≡ one_more_if b 0 + one_more_if c 0 → l ≡ m + n → one_more_if a l ≡ one_more_if b m + one_more_if c n
count-sum true true true l m n h g = omega arith
count-sum true true false l m n h g = omega arith
count-sum true false true l m n h g = omega arith
count-sum true false false l m n h g = omega arith
count-sum false true true l m n h g = omega arith
count-sum false true false l m n h g = omega arith
count-sum false false true l m n h g = omega arith
count-sum false false false l m n h g = omega arith

pub len-sum : {A : Type 0} (s t u : A → Bool) → ((e : A) → one_more_if (s e) 0 ≡ one_more_if (t e) 0 + one_more_if (u e) 0) → (xs : List A) → len s xs ≡ len t xs + len u xs
len-sum s t u h [] = refl
len-sum s t u h (x ∷ xs) = count-sum (s x) (t x) (u x) (len s xs) (len t xs) (len u xs) (h x) (len-sum s t u h xs)

more-counted : (a b : Bool) (m n : ℕ) → (a ≡ true → b ≡ true) → m ≤ n → one_more_if a m ≤ one_more_if b n
more-counted true true m n h l = omega arith
more-counted true false m n h l = cc (h refl)
more-counted false true m n h l = omega arith
more-counted false false m n h l = l

pub len-weaker : {A : Type 0} (s t : A → Bool) → ((e : A) → s e ≡ true → t e ≡ true) → (xs : List A) → len s xs ≤ len t xs
len-weaker s t h [] = omega arith
len-weaker s t h (x ∷ xs) = more-counted (s x) (t x) (len s xs) (len t xs) (h x) (len-weaker s t h xs)

-- ---- names

module _ (k s c : ℕ) where
  pub acked-id : (n : ℕ) (e : ListElement) → id (acked_element k n s c e) ≡ acked_id k n (id e)
  acked-id n e = stamped e.ins
    where
      stamped : (t : Stamp) → id_of_stamp (acked_stamp k s c t) (cond (is_of_stage k t) (n + e.nth) e.nth) ≡ acked_id k n (id_of_stamp t e.nth)
      stamped (Acked r d) = refl
      stamped (Local j) = pending (nat_eq j k)
        where
          pending : (b : Bool) → id_of_stamp (cond b (Acked s c) (Local j)) (cond b (n + e.nth) e.nth) ≡ cond b (SequencedId (n + e.nth)) (PendingId j e.nth)
          pending true = refl
          pending false = refl

same-sum : (n a b : ℕ) → nat_eq (n + a) (n + b) ≡ nat_eq a b
same-sum n a b = step (nat_eq a b) refl
  where
    step : (e : Bool) → nat_eq a b ≡ e → nat_eq (n + a) (n + b) ≡ e
    step true h = grind (arith, nat_tests)
    step false h = grind (arith, nat_tests)

low-apart : (m n l : ℕ) → m < n → nat_eq m (n + l) ≡ false
low-apart m n l g = grind (arith, nat_tests)

high-apart : (m n l : ℕ) → m < n → nat_eq (n + l) m ≡ false
high-apart m n l g = grind (arith, nat_tests)

pub symmetric : (m n : ℕ) (b : Bool) → nat_eq m n ≡ b → nat_eq n m ≡ b
symmetric m n true h = grind (arith, nat_tests)
symmetric m n false h = grind (arith, nat_tests)

through : (i j k : ℕ) → nat_eq j k ≡ true → nat_eq i j ≡ nat_eq i k
through i j k h =
    let same : j ≡ k = grind (arith, nat_tests) in
    ap (nat_eq i) same

through-left : (i j k : ℕ) → nat_eq j k ≡ true → nat_eq j i ≡ nat_eq k i
through-left i j k h =
    let same : j ≡ k = grind (arith, nat_tests) in
    ap (λ m. nat_eq m i) same

and-false : (b : Bool) → b && false ≡ false
and-false true = refl
and-false false = refl

-- a sequenced name has a number below n
abbrev pub IsBelow : ℕ → ElementId → Type 0
IsBelow n (SequencedId m) = m < n
IsBelow n (PendingId k m) = Unit {0}

module _ (k n : ℕ) where
  -- a name that was sequenced before
  old-name : (m : ℕ) (i : ElementId) → m < n → same_id (SequencedId m) (acked_id k n i) ≡ same_id (SequencedId m) i
  old-name m (SequencedId j) l = refl
  old-name m (PendingId j p) l = step (nat_eq j k)
    where
      step : (b : Bool) → same_id (SequencedId m) (cond b (SequencedId (n + p)) (PendingId j p)) ≡ false
      step true = low-apart m n p l
      step false = refl

  -- a name that an element of the stage gets
  new-name : (m : ℕ) (i : ElementId) → one_more_if (same_id (SequencedId (n + m)) (acked_id k n i)) 0
      ≡ one_more_if (same_id (PendingId k m) i) 0 + one_more_if (same_id (SequencedId (n + m)) i) 0
  new-name m (SequencedId j) = omega arith
  new-name m (PendingId j p) = step (nat_eq j k) refl
    where
      step : (b : Bool) → nat_eq j k ≡ b → one_more_if (same_id (SequencedId (n + m)) (cond b (SequencedId (n + p)) (PendingId j p))) 0
          ≡ one_more_if (nat_eq k j && nat_eq m p) 0 + 0
      step true e = ap (λ b. one_more_if b 0) (same-sum n m p ∙ ap (λ b. b && nat_eq m p) (sym (symmetric j k true e))) ∙ plus (one_more_if (nat_eq k j && nat_eq m p) 0)
        where
          plus : (i : ℕ) → i ≡ i + 0
          plus i = omega arith
      step false e = ap (λ b. one_more_if (b && nat_eq m p) 0 + 0) (sym (symmetric j k false e))

  -- a name of another stage
  other-name : (j m : ℕ) (i : ElementId) → nat_eq j k ≡ false → same_id (PendingId j m) (acked_id k n i) ≡ same_id (PendingId j m) i
  other-name j m (SequencedId p) h = refl
  other-name j m (PendingId p q) h = step (nat_eq p k) refl
    where
      step : (b : Bool) → nat_eq p k ≡ b → same_id (PendingId j m) (cond b (SequencedId (n + q)) (PendingId p q)) ≡ nat_eq j p && nat_eq m q
      step true e = ap (λ b. b && nat_eq m q) (sym (through j p k e ∙ h))
      step false e = refl

  -- no name is of the stage any more
  gone-name : (j m : ℕ) (i : ElementId) → nat_eq j k ≡ true → same_id (PendingId j m) (acked_id k n i) ≡ false
  gone-name j m (SequencedId p) h = refl
  gone-name j m (PendingId p q) h = step (nat_eq p k) refl
    where
      step : (b : Bool) → nat_eq p k ≡ b → same_id (PendingId j m) (cond b (SequencedId (n + q)) (PendingId p q)) ≡ false
      step true e = refl
      step false e = ap (λ b. b && nat_eq m q) (through-left p j k h ∙ symmetric p k false e)

  -- two names are equal just where they were
  pub same-acked : (a i : ElementId) → IsBelow n a → IsBelow n i → same_id (acked_id k n a) (acked_id k n i) ≡ same_id a i
  same-acked (SequencedId m) i l g = old-name m i l
  same-acked (PendingId j m) (SequencedId p) l g = step (nat_eq j k)
    where
      step : (b : Bool) → same_id (cond b (SequencedId (n + m)) (PendingId j m)) (SequencedId p) ≡ false
      step true = high-apart p n m g
      step false = refl
  same-acked (PendingId j m) (PendingId p q) l g = step (nat_eq j k) refl
    where
      inner : (b : Bool) → nat_eq p k ≡ b → nat_eq j k ≡ true → same_id (SequencedId (n + m)) (cond b (SequencedId (n + q)) (PendingId p q)) ≡ nat_eq j p && nat_eq m q
      inner true f e = same-sum n m q ∙ ap (λ b. b && nat_eq m q) (sym (through j p k f ∙ e))
      inner false f e = ap (λ b. b && nat_eq m q) (sym (through-left p j k e ∙ symmetric p k false f))

      step : (b : Bool) → nat_eq j k ≡ b → same_id (cond b (SequencedId (n + m)) (PendingId j m)) (acked_id k n (PendingId p q)) ≡ nat_eq j p && nat_eq m q
      step true e = inner (nat_eq p k) refl e
      step false e = other-name j m (PendingId p q) e

-- ---- the list stays well numbered

module _ (last k s c : ℕ) (list : Sequence) (h : IsWellNumbered last list) where
  names-acked : (a : ElementId) → len (has_id a) (map (acked_element k list.made s c) list.items) ≡ len (λ e. same_id a (acked_id k list.made (id e))) list.items
  names-acked a = len-map (has_id a) (acked_element k list.made s c) list.items ∙ len-same _ _ (λ e. ap (same_id a) (acked-id k s c list.made e)) list.items

  old-count : (n : ℕ) → n < list.made → len (has_id (SequencedId n)) (map (acked_element k list.made s c) list.items) ≡ len (has_id (SequencedId n)) list.items
  old-count n l = names-acked (SequencedId n) ∙ len-same _ _ (λ e. old-name k list.made n (id e) l) list.items

  new-count : (m : ℕ) → len (has_id (SequencedId (list.made + m))) (map (acked_element k list.made s c) list.items) ≡ len (has_id (PendingId k m)) list.items
  new-count m =
      let none = h.below (list.made + m) (omega arith) in
      let sum = len-sum _ (has_id (PendingId k m)) (has_id (SequencedId (list.made + m))) (λ e. new-name k list.made m (id e)) list.items in
      names-acked (SequencedId (list.made + m)) ∙ sum ∙ zero-right _ _ none
    where
      zero-right : (i j : ℕ) → j ≡ 0 → i + j ≡ i
      zero-right i j e = omega arith

  pub stage-count : (j : ℕ) (b : Bool) → nat_eq j k ≡ b → len (is_inserted_by j) (map (acked_element k list.made s c) list.items) ≡ cond b 0 (len (is_inserted_by j) list.items)
  stage-count j true e = len-map (is_inserted_by j) (acked_element k list.made s c) list.items ∙ len-none _ (λ e'. none e'.ins) list.items
    where
      none : (t : Stamp) → is_of_stage j (acked_stamp k s c t) ≡ false
      none (Acked r d) = refl
      none (Local i) = step (nat_eq i k) refl
        where
          step : (b : Bool) → nat_eq i k ≡ b → is_of_stage j (cond b (Acked s c) (Local i)) ≡ false
          step true f = refl
          step false f = through i j k e ∙ f
  stage-count j false e = len-map (is_inserted_by j) (acked_element k list.made s c) list.items ∙ len-same _ _ (λ e'. same e'.ins) list.items
    where
      same : (t : Stamp) → is_of_stage j (acked_stamp k s c t) ≡ is_of_stage j t
      same (Acked r d) = refl
      same (Local i) = step (nat_eq i k) refl
        where
          step : (b : Bool) → nat_eq i k ≡ b → is_of_stage j (cond b (Acked s c) (Local i)) ≡ nat_eq i j
          step true f = sym (through-left j i k f ∙ symmetric j k false e)
          step false f = refl

  odd-acked : (e : ListElement) → has_odd_removal (acked_element k list.made s c e) ≡ has_odd_removal e
  odd-acked e = ap not (all-behind e.dels (acked_removal k s c e.removal_stage) (acked-behind e.removal_stage))
    where
      all-behind : (ds es : List Stamp) → list_all is_acked es ≡ true → list_all is_acked (ds ++ es) ≡ list_all is_acked ds
      all-behind [] es g = g
      all-behind (d ∷ ds) es g = ap (λ b. is_acked d && b) (all-behind ds es g)

      acked-behind : (o : Option ℕ) → list_all is_acked (acked_removal k s c o) ≡ true
      acked-behind None = refl
      acked-behind (Some j) = step (nat_eq j k)
        where
          step : (b : Bool) → list_all is_acked (cond b (Acked s c ∷ []) []) ≡ true
          step true = refl
          step false = refl

  pub acked-numbered : IsWellNumbered last (acked_list k s c list)
  acked-numbered = record {
    once = λ a. once a;
    below = λ n l. below n l;
    counted = λ j n l. counted j n l;
    stages = λ j l. stage-count j (nat_eq j k) refl ∙ gone (nat_eq j k) _ (h.stages j l);
    removals = len-map has_odd_removal (acked_element k list.made s c) list.items ∙ len-same _ _ (λ e. odd-acked e) list.items ∙ h.removals;
  }
    where
      gone : (b : Bool) (n : ℕ) → n ≡ 0 → cond b 0 n ≡ 0
      gone true n e = refl
      gone false n e = e

      split : (n : ℕ) → list.made ≤ n → n ≡ list.made + (n - list.made)
      split n l = omega arith

      once : (a : ElementId) → len (has_id a) (map (acked_element k list.made s c) list.items) ≤ 1
      once (SequencedId n) = number (nat_lt n list.made) refl
        where
          number : (b : Bool) → nat_lt n list.made ≡ b → len (has_id (SequencedId n)) (map (acked_element k list.made s c) list.items) ≤ 1
          number true e =
              let low : n < list.made = grind (arith, nat_tests) in
              subst (λ i. i ≤ 1) (sym (old-count n low)) (h.once (SequencedId n))
          number false e =
              let high : list.made ≤ n = grind (arith, nat_tests) in
              subst (λ i. len (has_id (SequencedId i)) (map (acked_element k list.made s c) list.items) ≤ 1) (sym (split n high))
              (subst (λ i. i ≤ 1) (sym (new-count (n - list.made))) (h.once (PendingId k (n - list.made))))
      once (PendingId j m) = stage (nat_eq j k) refl
        where
          stage : (b : Bool) → nat_eq j k ≡ b → len (has_id (PendingId j m)) (map (acked_element k list.made s c) list.items) ≤ 1
          stage true e = subst (λ i. i ≤ 1) (sym (names-acked (PendingId j m) ∙ len-none _ (λ x. gone-name k list.made j m (id x) e) list.items)) (omega arith)
          stage false e = subst (λ i. i ≤ 1) (sym (names-acked (PendingId j m) ∙ len-same _ _ (λ x. other-name k list.made j m (id x) e) list.items)) (h.once (PendingId j m))

      below : (n : ℕ) → list.made + len (λ e. is_of_stage k e.ins) list.items ≤ n → len (has_id (SequencedId n)) (map (acked_element k list.made s c) list.items) ≡ 0
      below n l =
          subst (λ i. len (has_id (SequencedId i)) (map (acked_element k list.made s c) list.items) ≡ 0) (sym (split n (omega arith)))
          (new-count (n - list.made) ∙ h.counted k (n - list.made) (omega arith))

      counted : (j n : ℕ) → len (is_inserted_by j) (map (acked_element k list.made s c) list.items) ≤ n
          → len (has_id (PendingId j n)) (map (acked_element k list.made s c) list.items) ≡ 0
      counted j n l = stage (nat_eq j k) refl
        where
          stage : (b : Bool) → nat_eq j k ≡ b → len (has_id (PendingId j n)) (map (acked_element k list.made s c) list.items) ≡ 0
          stage true e = names-acked (PendingId j n) ∙ len-none _ (λ x. gone-name k list.made j n (id x) e) list.items
          stage false e = names-acked (PendingId j n) ∙ len-same _ _ (λ x. other-name k list.made j n (id x) e) list.items
              ∙ h.counted j n (subst (λ i. i ≤ n) (stage-count j false e) l)

  -- a name that stands is below the next number
  pub stands-below : (a : ElementId) → 1 ≤ len (has_id a) list.items → IsBelow list.made a
  stands-below (PendingId j m) l = tt
  stands-below (SequencedId n) l = number (nat_lt n list.made) refl
    where
      number : (b : Bool) → nat_lt n list.made ≡ b → n < list.made
      number true e = grind (arith, nat_tests)
      number false e =
          let high : list.made ≤ n = grind (arith, nat_tests) in
          let none = h.below n high in
          absurd (omega arith)

-- the names of all elements are below the next number
pub each-below : (n m : ℕ) {xs ys : List ListElement} → ((i : ℕ) → n ≤ i → len (has_id (SequencedId i)) xs ≡ 0)
    → ((i : ℕ) → m ≤ i → len (has_id (SequencedId i)) ys ≡ 0) → BesideList IsTwin xs ys
    → BesideList (λ x y. IsBelow n (id x) × IsBelow m (id y)) xs ys
each-below n m f g ends = ends
each-below n m f g (next {x = x} {y = y} {xs = xs} {ys = ys} t ts) =
    next (name n x xs f, name m y ys g) (each-below n m (λ i l. (less (has_id (SequencedId i) x) (len (has_id (SequencedId i)) xs) (f i l)))
    (λ i l. (less (has_id (SequencedId i) y) (len (has_id (SequencedId i)) ys) (g i l))) ts)
  where
    less : (b : Bool) (i : ℕ) → one_more_if b i ≡ 0 → i ≡ 0
    less true i h = absurd (omega arith)
    less false i h = h

    none : (b : Bool) (i : ℕ) → one_more_if b i ≡ 0 → b ≡ false
    none true i h = absurd (omega arith)
    none false i h = refl

    name : (n : ℕ) (x : ListElement) (xs : List ListElement) → ((i : ℕ) → n ≤ i → len (has_id (SequencedId i)) (x ∷ xs) ≡ 0) → IsBelow n (id x)
    name n x xs f = of (id x) (λ i l. none (same_id (SequencedId i) (id x)) (len (has_id (SequencedId i)) xs) (f i l))
      where
        of : (a : ElementId) → ((i : ℕ) → n ≤ i → same_id (SequencedId i) a ≡ false) → IsBelow n a
        of (PendingId j m) h = tt
        of (SequencedId j) h = number (nat_lt j n) refl
          where
            number : (b : Bool) → nat_lt j n ≡ b → j < n
            number true e = grind (arith, nat_tests)
            number false e =
                let high : n ≤ j = grind (arith, nat_tests) in
                absurd (true-false (sym (same_nat j) ∙ h j high))

-- ---- two lists

pub acked-twin : (k n m s c : ℕ) (x y : ListElement) → IsTwin x y → IsTwin (acked_element k n s c x) (acked_element k m s c y)
acked-twin k n m s c x y t = subst (λ z. IsTwin (acked_element k n s c x) (acked_element k m s c z)) (sym t) refl

module _ (last k s c : ℕ) (l m : Sequence) (h : ListsAlike last l m) where
  -- what holds of the names at each place holds of the new names, where the acknowledgement keeps it
  pub acked-carries : (P R : ElementId → ElementId → Type 0) → ((a b : ElementId) → IsBelow l.made a → IsBelow m.made b → P a b → R (acked_id k l.made a) (acked_id k m.made b))
      → BesideList (Named P) l.items m.items → BesideList (Named R) (acked_list k s c l).items (acked_list k s c m).items
  acked-carries P R f g =
      beside-map (acked_element k l.made s c) (acked_element k m.made s c)
      (λ x y q. (
        acked-twin k l.made m.made s c x y q.1.0,
        subst (λ a. R a (id (acked_element k m.made s c y))) (sym (acked-id k s c l.made x))
            (subst (λ b. R (acked_id k l.made (id x)) b) (sym (acked-id k s c m.made y)) (f (id x) (id y) q.0.0 q.0.1 q.1.1)),
      ))
      (beside-both (each-below l.made m.made h.left.below h.right.below h.twins) g)

  pub acked-alike : ListsAlike last (acked_list k s c l) (acked_list k s c m)
  acked-alike = record {
    left = acked-numbered last k s c l h.left;
    right = acked-numbered last k s c m h.right;
    twins = beside-map (acked_element k l.made s c) (acked_element k m.made s c) (λ x y t. acked-twin k l.made m.made s c x y t) h.twins;
  }

  pub acked-stands : (a b : ElementId) → StandAlike l.items m.items a b → StandAlike (acked_list k s c l).items (acked_list k s c m).items
      (acked_id k l.made a) (acked_id k m.made b)
  acked-stands a b t = record {
    there = bigger _ _ t.there (subst (λ n. len (has_id a) l.items ≤ n) (sym (len-map (has_id (acked_id k l.made a)) (acked_element k l.made s c) l.items))
        (len-weaker _ _ (λ e g. still e g) l.items));
    twins = acked-carries (λ i j. same_id a i ≡ same_id b j) (λ i j. same_id (acked_id k l.made a) i ≡ same_id (acked_id k m.made b) j)
        (λ i j p q e. same-acked k l.made a i (stands-below last k s c l h.left a t.there) p ∙ e
        ∙ sym (same-acked k m.made b j (stands-below last k s c m h.right b (there-other t)) q)) t.twins;
  }
    where
      bigger : (i j : ℕ) → 1 ≤ i → i ≤ j → 1 ≤ j
      bigger i j p q = omega arith

      still : (e : ListElement) → has_id a e ≡ true → has_id (acked_id k l.made a) (acked_element k l.made s c e) ≡ true
      still e g = ap (same_id (acked_id k l.made a)) (acked-id k s c l.made e)
          ∙ ap (λ i. same_id (acked_id k l.made a) (acked_id k l.made i)) (sym (same_id-eq a (id e) g)) ∙ same_id-refl (acked_id k l.made a)

-- a name in a list without elements of the stage is none of the stage
pub unstaged : (last k n : ℕ) (list : Sequence) (a : ElementId) → IsWellNumbered last list → len (is_inserted_by k) list.items ≡ 0
    → 1 ≤ len (has_id a) list.items → acked_id k n a ≡ a
unstaged last k n list (SequencedId m) h z l = refl
unstaged last k n list (PendingId j m) h z l = stage (nat_eq j k) refl
  where
    stage : (b : Bool) → nat_eq j k ≡ b → cond b (SequencedId (n + m)) (PendingId j m) ≡ PendingId j m
    stage false e = refl
    stage true e =
        let same : j ≡ k = grind (arith, nat_tests) in
        let none = subst (λ i. len (has_id (PendingId i m)) list.items ≡ 0) (sym same) (h.counted k m (omega arith)) in
        absurd (omega arith)
