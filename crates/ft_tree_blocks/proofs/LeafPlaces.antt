-- Where elements on leaves stand after each change of the list of leaves, where a leaf has this size.
use Rattle.std.proofs.Common.{◌≡◌, ◌≢◌, ℕ, zero, suc, ◌+◌, ◌-◌, ◌<◌, ◌≤◌, ◌⊎◌, Bool, true, false, cond, nat_eq, List, [], ◌∷◌, ◌++◌, map, Option, Some, subst, refl, sym, ◌∙◌, ap, inl, inr, arith}
use Rattle.std.proofs.lemmas.Bool.{cases_eq, cases_lt, cond-true, cond-false, eq-eqb, ne_eqb}
use Rattle.std.proofs.lemmas.Bool.Decides.{nat_tests}
use Rattle.ft_arena.proofs.IdLemmas.{same_other}
use Rattle.ft_block.specs.Leaves.{left_of, length_by, times_leaf, value_at, without_leaf}
use Rattle.ft_tree_leaves.specs.Edits.{closed_place, moved_place}
use Rattle.ft_tree_leaves.specs.Places.{shifted_place}
use Rattle.ft_tree_leaves.proofs.Standing.{skip, without-apart}
use Rattle.ft_refs.specs.declared.numbers.Place.{Place}
use Rattle.ft_refs.specs.RefLists.{raised_place, split_place}
use Rattle.std.proofs.lemmas.Grind.{common_steps}

shifted_before : (i n j : ℕ) → j < i → shifted_place i n j ≡ j
shifted_before i n j h = grind (arith, nat_tests)

shifted_behind : (i n j : ℕ) → i ≤ j → shifted_place i n j ≡ j + n
shifted_behind i n j h = grind (arith, nat_tests)

closed_before : (i n j : ℕ) → j < i → closed_place i n j ≡ j
closed_before i n j h = grind (arith, nat_tests)

closed_behind : (i n j : ℕ) → i ≤ j → closed_place i n j ≡ j - n
closed_behind i n j h = grind (arith, nat_tests)

moved_before : (i n d j : ℕ) → j < i → moved_place i n d j ≡ shifted_place d n j
moved_before i n d j h = grind (arith, nat_tests)

moved_behind : (i n d j : ℕ) → i + n ≤ j → moved_place i n d j ≡ shifted_place d n (j - n)
moved_behind i n d j h = grind (arith, nat_tests)

moved_among : (i n d j : ℕ) → i ≤ j → j < i + n → moved_place i n d j ≡ d + (j - i)
moved_among i n d j low high = grind (arith, nat_tests)

pub split_low : (from at to : ℕ) (p : Place) → p.owner ≡ from → p.offset < at → split_place from at to p ≡ p
split_low from at to p e h = grind (arith, common_steps)

pub split_high : (from at to : ℕ) (p : Place) → p.owner ≡ from → at ≤ p.offset → split_place from at to p ≡ record { owner = to; offset = p.offset - at }
split_high from at to p e h = grind (arith, common_steps)

pub split_other : (from at to : ℕ) (p : Place) → p.owner ≢ from → split_place from at to p ≡ p
split_other from at to p d = grind (arith, common_steps)

pub raised_here : (from to add : ℕ) (p : Place) → p.owner ≡ from → raised_place from to add p ≡ record { owner = to; offset = p.offset + add }
raised_here from to add p e = grind (arith, common_steps)

pub raised_other : (from to add : ℕ) (p : Place) → p.owner ≢ from → raised_place from to add p ≡ p
raised_other from to add p d = grind (arith, common_steps)

some_or_none : (n : ℕ) → (n ≡ 0) ⊎ (1 ≤ n)
some_or_none zero = inl refl
some_or_none (suc n) = inr (omega arith)

module _ {L : Type 0} where
  left_by : (b : Bool) (n : ℕ) (x : ℕ × L) (xs ys : List (ℕ × L)) → 1 ≤ cond b 1 0 + n → (1 ≤ n → xs ≡ ys) → cond b [] (x ∷ xs) ≡ cond b [] (x ∷ ys)
  left_by true n x xs ys h e = refl
  left_by false n x xs ys h e = ap (λ zs. x ∷ zs) (e (omega arith))

  -- what stands left of a leaf of the first of two lists
  pub left-in : (l m : List (ℕ × L)) (z : ℕ) → 1 ≤ times_leaf l z → left_of (l ++ m) z ≡ left_of l z
  left-in [] m z h = absurd (omega arith)
  left-in (x ∷ l) m z h = left_by (nat_eq x.0 z) (times_leaf l z) x (left_of (l ++ m) z) (left_of l z) h (left-in l m z)

  -- and of the second
  pub left-past : (l m : List (ℕ × L)) (z : ℕ) → times_leaf l z ≡ 0 → left_of (l ++ m) z ≡ l ++ left_of m z
  left-past [] m z h = refl
  left-past (x ∷ l) m z h =
      let s = skip z x l h in
      ap (λ b. cond b [] (x ∷ left_of (l ++ m) z)) s.0 ∙ ap (λ ys. x ∷ ys) (left-past l m z s.1)

  value_by : (b : Bool) (n : ℕ) (v : L) (o p : Option L) → 1 ≤ cond b 1 0 + n → (1 ≤ n → o ≡ p) → cond b (Some v) o ≡ cond b (Some v) p
  value_by true n v o p h e = refl
  value_by false n v o p h e = e (omega arith)

  pub value-in : (l m : List (ℕ × L)) (z : ℕ) → 1 ≤ times_leaf l z → value_at (l ++ m) z ≡ value_at l z
  value-in [] m z h = absurd (omega arith)
  value-in (x ∷ l) m z h = value_by (nat_eq x.0 z) (times_leaf l z) x.1 (value_at (l ++ m) z) (value_at l z) h (value-in l m z)

  pub value-past : (l m : List (ℕ × L)) (z : ℕ) → times_leaf l z ≡ 0 → value_at (l ++ m) z ≡ value_at m z
  value-past [] m z h = refl
  value-past (x ∷ l) m z h = let s = skip z x l h in ap (λ b. cond b (Some x.1) (value_at (l ++ m) z)) s.0 ∙ value-past l m z s.1

  -- a leaf between others is taken out
  pub without-split : (id : ℕ) (v : L) (r l : List (ℕ × L)) → times_leaf r id ≡ 0 → times_leaf l id ≡ 0 → without_leaf (l ++ (id, v) ∷ r) id ≡ l ++ r
  without-split id v r [] once h = ap (λ b. cond b (without_leaf r id) ((id, v) ∷ without_leaf r id)) (eq-eqb id id refl) ∙ without-apart id r once
  without-split id v r (x ∷ l) once h =
      let s = skip id x l h in
      ap (λ b. cond b (without_leaf (l ++ (id, v) ∷ r) id) (x ∷ without_leaf (l ++ (id, v) ∷ r) id)) s.0 ∙ ap (λ ys. x ∷ ys) (without-split id v r l once s.1)

module _ {L : Type 0} (size : L → ℕ) where
  -- how many elements stand before that of a place on a leaf
  abbrev pub count_before : List (ℕ × L) → Place → ℕ
  count_before xs p = length_by size (left_of xs p.owner) + p.offset

  -- the place is that of an element of a leaf
  pub record OnLeaf (xs : List (ℕ × L)) (p : Place) : Type 0 where
    pub value : L
    pub is : value_at xs p.owner ≡ Some value
    pub within : p.offset < size value

  -- and j elements stand before that one
  pub record Goes (now : List (ℕ × L)) (p : Place) (j : ℕ) : Type 0 where
    pub on : OnLeaf now p
    pub place : count_before now p ≡ j

  pub goes_as : (now : List (ℕ × L)) (p : Place) (j k : ℕ) → Goes now p j → j ≡ k → Goes now p k
  goes_as now p j k g e = record { on = g.on; place = g.place ∙ e }

  pub length_by-append : (xs ys : List (ℕ × L)) → length_by size (xs ++ ys) ≡ length_by size xs + length_by size ys
  length_by-append [] ys = omega arith
  length_by-append (x ∷ xs) ys = omega (arith, length_by-append xs ys)

  below_first : (l : List (ℕ × L)) (p : Place) → OnLeaf l p → count_before l p < length_by size l
  below_first [] p on = let e = on.is in (cc)
  below_first (x ∷ l) p on = elim (cases_eq x.0 p.owner) [
    | inl e ↦
        let value : Some x.1 ≡ Some on.value = sym (cond-true (nat_eq x.0 p.owner) (Some x.1) (value_at l p.owner) (eq-eqb x.0 p.owner e)) ∙ on.is in
        let same : x.1 ≡ on.value = (cc) in
        let left : left_of (x ∷ l) p.owner ≡ [] = cond-true (nat_eq x.0 p.owner) [] (x ∷ left_of l p.owner) (eq-eqb x.0 p.owner e) in
        omega (arith, ap size same, ap (length_by size) left, on.within)
    | inr d ↦
        let value : value_at l p.owner ≡ Some on.value = sym (cond-false (nat_eq x.0 p.owner) (Some x.1) (value_at l p.owner) (ne_eqb x.0 p.owner d)) ∙ on.is in
        let left : left_of (x ∷ l) p.owner ≡ x ∷ left_of l p.owner = cond-false (nat_eq x.0 p.owner) [] (x ∷ left_of l p.owner) (ne_eqb x.0 p.owner d) in
        omega (arith, ap (length_by size) left, below_first l p (record { value = on.value; is = value; within = on.within }))
  ]

  -- a place on the first of two lists
  pub goes_first : (l m k : List (ℕ × L)) (p : Place) → 1 ≤ times_leaf l p.owner → OnLeaf (l ++ m) p → Goes (l ++ k) p (count_before (l ++ m) p)
  goes_first l m k p h on = record {
    on = record { value = on.value; is = value-in l k p.owner h ∙ sym (value-in l m p.owner h) ∙ on.is; within = on.within };
    place = omega (arith, ap (length_by size) (left-in l k p.owner h), ap (length_by size) (left-in l m p.owner h));
  }

  pub first_below : (l m : List (ℕ × L)) (p : Place) → 1 ≤ times_leaf l p.owner → OnLeaf (l ++ m) p → count_before (l ++ m) p < length_by size l
  first_below l m p h on =
      let here : OnLeaf l p = record { value = on.value; is = sym (value-in l m p.owner h) ∙ on.is; within = on.within } in
      omega (arith, ap (length_by size) (left-in l m p.owner h), below_first l p here)

  -- a place on the second
  pub goes_past : (l m : List (ℕ × L)) (p : Place) → times_leaf l p.owner ≡ 0 → OnLeaf m p → Goes (l ++ m) p (length_by size l + count_before m p)
  goes_past l m p h on = record {
    on = record { value = on.value; is = value-past l m p.owner h ∙ on.is; within = on.within };
    place = omega (arith, ap (length_by size) (left-past l m p.owner h), length_by-append l (left_of m p.owner));
  }

  pub on_past : (l m : List (ℕ × L)) (p : Place) → times_leaf l p.owner ≡ 0 → OnLeaf (l ++ m) p → OnLeaf m p
  on_past l m p h on = record { value = on.value; is = sym (value-past l m p.owner h) ∙ on.is; within = on.within }

  alone : (x : ℕ × L) (z : ℕ) → x.0 ≢ z → times_leaf (x ∷ []) z ≡ 0
  alone x z d = omega (arith, same_other x.0 z d)

  -- behind a leaf
  pub goes_later : (x : ℕ × L) (m : List (ℕ × L)) (p : Place) → x.0 ≢ p.owner → OnLeaf m p → Goes (x ∷ m) p (size x.1 + count_before m p)
  goes_later x m p d on =
      goes_as (x ∷ m) p (length_by size (x ∷ []) + count_before m p) (size x.1 + count_before m p) (goes_past (x ∷ []) m p (alone x p.owner d) on) (omega arith)

  pub on_later : (x : ℕ × L) (m : List (ℕ × L)) (p : Place) → x.0 ≢ p.owner → OnLeaf (x ∷ m) p → OnLeaf m p
  on_later x m p d on = on_past (x ∷ []) m p (alone x p.owner d) on

  -- and on it
  pub goes_here : (x : ℕ × L) (m : List (ℕ × L)) (p : Place) → p.owner ≡ x.0 → p.offset < size x.1 → Goes (x ∷ m) p p.offset
  goes_here x m p e h =
      let b : nat_eq x.0 p.owner ≡ true = eq-eqb x.0 p.owner (sym e) in
      record {
        on = record { value = x.1; is = cond-true (nat_eq x.0 p.owner) (Some x.1) (value_at m p.owner) b; within = h };
        place = omega (arith, ap (length_by size) (cond-true (nat_eq x.0 p.owner) [] (x ∷ left_of m p.owner) b));
      }

  pub within_here : (x : ℕ × L) (m : List (ℕ × L)) (p : Place) → p.owner ≡ x.0 → OnLeaf (x ∷ m) p → p.offset < size x.1
  within_here x m p e on =
      let value : Some x.1 ≡ Some on.value = sym (cond-true (nat_eq x.0 p.owner) (Some x.1) (value_at m p.owner) (eq-eqb x.0 p.owner (sym e))) ∙ on.is in
      let same : x.1 ≡ on.value = (cc) in
      omega (arith, ap size same, on.within)

  -- a new leaf behind some of them
  pub goes_put : (l m : List (ℕ × L)) (new : ℕ × L) (p : Place) → new.0 ≢ p.owner → OnLeaf (l ++ m) p
      → Goes (l ++ new ∷ m) p (shifted_place (length_by size l) (size new.1) (count_before (l ++ m) p))
  goes_put l m new p d on = elim (some_or_none (times_leaf l p.owner)) [
    | inl none ↦
        let rest = on_past l m p none on in
        let was = (goes_past l m p none rest).place in
        let later = goes_later new m p d rest in
        goes_as (l ++ new ∷ m) p (length_by size l + count_before (new ∷ m) p) _ (goes_past l (new ∷ m) p none later.on)
        (omega (arith, later.place, was, shifted_behind (length_by size l) (size new.1) (count_before (l ++ m) p) (omega (arith, was))))
    | inr some ↦
        goes_as (l ++ new ∷ m) p (count_before (l ++ m) p) _ (goes_first l m (new ∷ m) p some on)
        (sym (shifted_before (length_by size l) (size new.1) (count_before (l ++ m) p) (first_below l m p some on)))
  ]

  -- a leaf between others is taken out, where the place is on another one
  pub goes_without : (l m : List (ℕ × L)) (x : ℕ × L) (p : Place) → x.0 ≢ p.owner → OnLeaf (l ++ x ∷ m) p
      → Goes (l ++ m) p (closed_place (length_by size l) (size x.1) (count_before (l ++ x ∷ m) p))
  goes_without l m x p d on = elim (some_or_none (times_leaf l p.owner)) [
    | inl none ↦
        let rest = on_later x m p d (on_past l (x ∷ m) p none on) in
        let later = goes_later x m p d rest in
        let was = (goes_past l (x ∷ m) p none later.on).place in
        goes_as (l ++ m) p (length_by size l + count_before m p) _ (goes_past l m p none rest)
        (omega (arith, later.place, was, closed_behind (length_by size l) (size x.1) (count_before (l ++ x ∷ m) p) (omega (arith, later.place, was))))
    | inr some ↦
        goes_as (l ++ m) p (count_before (l ++ x ∷ m) p) _ (goes_first l (x ∷ m) m p some on)
        (sym (closed_before (length_by size l) (size x.1) (count_before (l ++ x ∷ m) p) (first_below l (x ∷ m) p some on)))
  ]

  moved_by_both : (l m : List (ℕ × L)) (x : ℕ × L) (d : ℕ) (p : Place) → x.0 ≢ p.owner → OnLeaf (l ++ x ∷ m) p
      → moved_place (length_by size l) (size x.1) d (count_before (l ++ x ∷ m) p)
      ≡ shifted_place d (size x.1) (closed_place (length_by size l) (size x.1) (count_before (l ++ x ∷ m) p))
  moved_by_both l m x d p differ on = elim (some_or_none (times_leaf l p.owner)) [
    | inl none ↦
        let rest = on_later x m p differ (on_past l (x ∷ m) p none on) in
        let later = goes_later x m p differ rest in
        let was = (goes_past l (x ∷ m) p none later.on).place in
        let i = length_by size l in
        let j = count_before (l ++ x ∷ m) p in
        moved_behind i (size x.1) d j (omega (arith, later.place, was))
        ∙ ap (shifted_place d (size x.1)) (sym (closed_behind i (size x.1) j (omega (arith, later.place, was))))
    | inr some ↦
        let i = length_by size l in
        let j = count_before (l ++ x ∷ m) p in
        moved_before i (size x.1) d j (first_below l (x ∷ m) p some on)
        ∙ ap (shifted_place d (size x.1)) (sym (closed_before i (size x.1) j (first_below l (x ∷ m) p some on)))
  ]

  -- a leaf goes behind some of the others
  pub goes_moved : (l m k r : List (ℕ × L)) (x : ℕ × L) (p : Place) → l ++ m ≡ k ++ r → times_leaf l x.0 ≡ 0 → times_leaf k x.0 ≡ 0 → OnLeaf (l ++ x ∷ m) p
      → Goes (k ++ x ∷ r) p (moved_place (length_by size l) (size x.1) (length_by size k) (count_before (l ++ x ∷ m) p))
  goes_moved l m k r x p same apart_l apart_k on = elim (cases_eq p.owner x.0) [
    | inl e ↦
        let none_l : times_leaf l p.owner ≡ 0 = ap (times_leaf l) e ∙ apart_l in
        let none_k : times_leaf k p.owner ≡ 0 = ap (times_leaf k) e ∙ apart_k in
        let within = within_here x m p e (on_past l (x ∷ m) p none_l on) in
        let here_m = goes_here x m p e within in
        let here_r = goes_here x r p e within in
        let was = (goes_past l (x ∷ m) p none_l here_m.on).place in
        goes_as (k ++ x ∷ r) p (length_by size k + count_before (x ∷ r) p) _ (goes_past k (x ∷ r) p none_k here_r.on)
        (omega (
          arith,
          here_m.place,
          here_r.place,
          was,
          moved_among (length_by size l) (size x.1) (length_by size k) (count_before (l ++ x ∷ m) p) (omega (arith, here_m.place, was)) (omega (arith, here_m.place, was, within)),
        ))
    | inr d ↦
        let other : x.0 ≢ p.owner = λ q. d (sym q) in
        let out = goes_without l m x p other on in
        let there : OnLeaf (k ++ r) p = record { value = out.on.value; is = ap (λ zs. value_at zs p.owner) (sym same) ∙ out.on.is; within = out.on.within } in
        let back = goes_put k r x p other there in
        goes_as (k ++ x ∷ r) p _ _ back
        (ap (shifted_place (length_by size k) (size x.1)) (ap (λ zs. count_before zs p) (sym same) ∙ out.place)
        ∙ sym (moved_by_both l m x (length_by size k) p other on))
  ]

  pub goes_at : (now : List (ℕ × L)) (p q : Place) (j : ℕ) → p ≡ q → Goes now q j → Goes now p j
  goes_at now p q j e g = subst (λ (z : Place). Goes now z j) (sym e) g

  -- a leaf is cut in two
  module _ (l m : List (ℕ × L)) (id new at : ℕ) (v a b : L) (front : size a ≡ at) (rear : at + size b ≡ size v) (apart : times_leaf l id ≡ 0) (fresh : times_leaf l new ≡ 0)
      (differ : id ≢ new) (p : Place) where
    cut_here : p.owner ≡ id → OnLeaf (l ++ (id, v) ∷ m) p → Goes (l ++ (id, a) ∷ (new, b) ∷ m) (split_place id at new p) (count_before (l ++ (id, v) ∷ m) p)
    cut_here e on =
        let none : times_leaf l p.owner ≡ 0 = ap (times_leaf l) e ∙ apart in
        let within = within_here (id, v) m p e (on_past l ((id, v) ∷ m) p none on) in
        let old = goes_here (id, v) m p e within in
        let was = (goes_past l ((id, v) ∷ m) p none old.on).place in
        elim (cases_lt p.offset at) [
          | inl low ↦
              let here = goes_here (id, a) ((new, b) ∷ m) p e (omega arith) in
              goes_at _ (split_place id at new p) p _ (split_low id at new p e low)
              (goes_as _ p _ _ (goes_past l ((id, a) ∷ (new, b) ∷ m) p none here.on) (omega (arith, here.place, old.place, was)))
          | inr high ↦
              let q : Place = record { owner = new; offset = p.offset - at } in
              let here = goes_here (new, b) m q refl (omega arith) in
              let later = goes_later (id, a) ((new, b) ∷ m) q differ here.on in
              goes_at _ (split_place id at new p) q _ (split_high id at new p e high)
              (goes_as _ q _ _ (goes_past l ((id, a) ∷ (new, b) ∷ m) q fresh later.on) (omega (arith, here.place, later.place, old.place, was)))
        ]

    cut_elsewhere : id ≢ p.owner → new ≢ p.owner → OnLeaf (l ++ (id, v) ∷ m) p → Goes (l ++ (id, a) ∷ (new, b) ∷ m) p (count_before (l ++ (id, v) ∷ m) p)
    cut_elsewhere d e on = elim (some_or_none (times_leaf l p.owner)) [
      | inl none ↦
          let rest = on_later (id, v) m p d (on_past l ((id, v) ∷ m) p none on) in
          let old = goes_later (id, v) m p d rest in
          let was = (goes_past l ((id, v) ∷ m) p none old.on).place in
          let one = goes_later (new, b) m p e rest in
          let two = goes_later (id, a) ((new, b) ∷ m) p d one.on in
          goes_as _ p _ _ (goes_past l ((id, a) ∷ (new, b) ∷ m) p none two.on) (omega (arith, one.place, two.place, old.place, was))
      | inr some ↦ goes_first l ((id, v) ∷ m) ((id, a) ∷ (new, b) ∷ m) p some on
    ]

    pub goes_split : new ≢ p.owner → OnLeaf (l ++ (id, v) ∷ m) p
        → Goes (l ++ (id, a) ∷ (new, b) ∷ m) (split_place id at new p) (count_before (l ++ (id, v) ∷ m) p)
    goes_split e on = elim (cases_eq p.owner id) [
      | inl q ↦ cut_here q on
      | inr d ↦ goes_at _ (split_place id at new p) p _ (split_other id at new p d) (cut_elsewhere (λ q. d (sym q)) e on)
    ]

  -- two leaves are joined
  module _ (l m : List (ℕ × L)) (id next : ℕ) (v w a : L) (both : size a ≡ size v + size w) (apart : times_leaf l id ≡ 0) (other : times_leaf l next ≡ 0) (differ : id ≢ next)
      (p : Place) where
    join_rear : p.owner ≡ next → OnLeaf (l ++ (id, v) ∷ (next, w) ∷ m) p
        → Goes (l ++ (id, a) ∷ m) (raised_place next id (size v) p) (count_before (l ++ (id, v) ∷ (next, w) ∷ m) p)
    join_rear e on =
        let none : times_leaf l p.owner ≡ 0 = ap (times_leaf l) e ∙ other in
        let d : id ≢ p.owner = λ q. differ (q ∙ e) in
        let within = within_here (next, w) m p e (on_later (id, v) ((next, w) ∷ m) p d (on_past l ((id, v) ∷ (next, w) ∷ m) p none on)) in
        let old = goes_here (next, w) m p e within in
        let later = goes_later (id, v) ((next, w) ∷ m) p d old.on in
        let was = (goes_past l ((id, v) ∷ (next, w) ∷ m) p none later.on).place in
        let q : Place = record { owner = id; offset = p.offset + size v } in
        let here = goes_here (id, a) m q refl (omega arith) in
        goes_at _ (raised_place next id (size v) p) q _ (raised_here next id (size v) p e)
        (goes_as _ q _ _ (goes_past l ((id, a) ∷ m) q apart here.on) (omega (arith, here.place, later.place, old.place, was)))

    join_front : p.owner ≡ id → OnLeaf (l ++ (id, v) ∷ (next, w) ∷ m) p → Goes (l ++ (id, a) ∷ m) p (count_before (l ++ (id, v) ∷ (next, w) ∷ m) p)
    join_front e on =
        let none : times_leaf l p.owner ≡ 0 = ap (times_leaf l) e ∙ apart in
        let within = within_here (id, v) ((next, w) ∷ m) p e (on_past l ((id, v) ∷ (next, w) ∷ m) p none on) in
        let old = goes_here (id, v) ((next, w) ∷ m) p e within in
        let was = (goes_past l ((id, v) ∷ (next, w) ∷ m) p none old.on).place in
        let here = goes_here (id, a) m p e (omega arith) in
        goes_as _ p _ _ (goes_past l ((id, a) ∷ m) p none here.on) (omega (arith, here.place, old.place, was))

    join_elsewhere : id ≢ p.owner → next ≢ p.owner → OnLeaf (l ++ (id, v) ∷ (next, w) ∷ m) p
        → Goes (l ++ (id, a) ∷ m) p (count_before (l ++ (id, v) ∷ (next, w) ∷ m) p)
    join_elsewhere d e on = elim (some_or_none (times_leaf l p.owner)) [
      | inl none ↦
          let rest = on_later (next, w) m p e (on_later (id, v) ((next, w) ∷ m) p d (on_past l ((id, v) ∷ (next, w) ∷ m) p none on)) in
          let one = goes_later (next, w) m p e rest in
          let two = goes_later (id, v) ((next, w) ∷ m) p d one.on in
          let was = (goes_past l ((id, v) ∷ (next, w) ∷ m) p none two.on).place in
          let later = goes_later (id, a) m p d rest in
          goes_as _ p _ _ (goes_past l ((id, a) ∷ m) p none later.on) (omega (arith, one.place, two.place, later.place, was))
      | inr some ↦ goes_first l ((id, v) ∷ (next, w) ∷ m) ((id, a) ∷ m) p some on
    ]

    pub goes_joined : OnLeaf (l ++ (id, v) ∷ (next, w) ∷ m) p
        → Goes (l ++ (id, a) ∷ m) (raised_place next id (size v) p) (count_before (l ++ (id, v) ∷ (next, w) ∷ m) p)
    goes_joined on = elim (cases_eq p.owner next) [
      | inl e ↦ join_rear e on
      | inr d ↦
          goes_at _ (raised_place next id (size v) p) p _ (raised_other next id (size v) p d) (elim (cases_eq p.owner id) [
            | inl e ↦ join_front e on
            | inr f ↦ join_elsewhere (λ q. f (sym q)) (λ q. d (sym q)) on
          ])
    ]

  -- leaves change and keep their lengths
  pub goes_map : (g : ℕ × L → L) → ((x : ℕ × L) → size (g x) ≡ size x.1) → (xs : List (ℕ × L)) (p : Place) → OnLeaf xs p
      → Goes (map (λ x. (x.0, g x)) xs) p (count_before xs p)
  goes_map g same [] p on = let e = on.is in (cc)
  goes_map g same (x ∷ xs) p on = elim (cases_eq p.owner x.0) [
    | inl e ↦
        let within = within_here x xs p e on in
        let old = goes_here x xs p e within in
        let new = goes_here (x.0, g x) (map (λ (y : ℕ × L). (y.0, g y)) xs) p e (omega (arith, same x, within)) in
        goes_as _ p _ _ new (sym old.place)
    | inr d ↦
        let other : x.0 ≢ p.owner = λ q. d (sym q) in
        let rest = on_later x xs p other on in
        let old = goes_later x xs p other rest in
        let more = goes_map g same xs p rest in
        let new = goes_later (x.0, g x) (map (λ (y : ℕ × L). (y.0, g y)) xs) p other more.on in
        goes_as _ p _ _ new (omega (arith, new.place, more.place, old.place, same x))
  ]
