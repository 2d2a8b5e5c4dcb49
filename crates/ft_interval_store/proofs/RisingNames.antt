-- Intervals by rising names: the order of names, where a name stands, and what each change there makes of the list.
use Rattle.std.proofs.Common.{◌≡◌, ℕ, zero, suc, ◌<◌, ◌≤◌, List, [], ◌∷◌, Some, None, Result, Ok, Err, refl, sym, ◌∙◌, ap, subst, arith, length, get_or, set}
use Rattle.std.specs.Ordering.{ordering_then, ordering_reverse, ordering_index}
use Rattle.std.specs.declared.cmp.Ordering.{Ordering}
use Rattle.std.specs.declared.cmp.Ordering.TheVariants.{Less, Equal, Greater}
use Rattle.std.specs.List.{insert, remove}
use Rattle.std.specs.List.Sorted.{IsSearchInRange, IsBinarySearchResult, IsNonDecreasingBy}
use Rattle.std.proofs.lemmas.Cmp.{nat_list_cmp_total, tied_back, on_total, then_total}
use Rattle.std.specs.Cmp.{IsTotalOrder}
use Rattle.std.proofs.lemmas.Map.Lookups.{exact_bytes}
use Rattle.ft_props.specs.Keys.{put_rising, text_cmp}
use Rattle.ft_interval_store.specs.declared.intervals.Interval.{Interval}
use Rattle.ft_interval_store.specs.Intervals.{Name, IsBeforeNames, NamesRise, interval_cmp, interval_of, name_cmp, name_of, place_of_name, with_changed, without_name}

-- ---- the laws of the order of names

name_cmp-total : IsTotalOrder name_cmp
name_cmp-total = then_total (on_total (λ (n : Name). n.0) nat_list_cmp_total) (on_total (λ (n : Name). n.1) nat_list_cmp_total)

both_equal : (o p : Ordering) → ordering_then o p ≡ Equal → (o ≡ Equal) × (p ≡ Equal)
both_equal Less p h = absurd cc
both_equal Equal p h = (refl, h)
both_equal Greater p h = absurd cc

pub same_from_name_cmp : (a b : Name) → name_cmp a b ≡ Equal → a ≡ b
same_from_name_cmp a b h =
    let parts = both_equal (text_cmp a.0 b.0) (text_cmp a.1 b.1) h in
    let labels : a.0 ≡ b.0 = exact_bytes a.0 b.0 parts.0 in
    let ids : a.1 ≡ b.1 = exact_bytes a.1 b.1 parts.1 in
    λ i. (labels i, ids i)

pub name_cmp-back : (a b : Name) → name_cmp a b ≡ Less → name_cmp b a ≡ Greater
name_cmp-back a b h = name_cmp-total.antisymm b a ∙ ap ordering_reverse h

pub name_cmp-turned : (a b : Name) → name_cmp a b ≡ Greater → name_cmp b a ≡ Less
name_cmp-turned a b h = name_cmp-total.antisymm b a ∙ ap ordering_reverse h

pub name_cmp-trans : (a b c : Name) → name_cmp a b ≡ Less → name_cmp b c ≡ Less → name_cmp a c ≡ Less
name_cmp-trans = name_cmp-total.trans

pub by_order : {G : Type 0} (o : Ordering) → (o ≡ Less → G) → (o ≡ Equal → G) → (o ≡ Greater → G) → G
by_order Less f g h = f refl
by_order Equal f g h = g refl
by_order Greater f g h = h refl

index-le : (o : Ordering) → ordering_index o ≤ 2
index-le Less = omega arith
index-le Equal = omega arith
index-le Greater = omega arith

-- what is less than another compares with a third as the other does, or as less
index-rises : (a b n : Name) → name_cmp a b ≡ Less → ordering_index (name_cmp a n) ≤ ordering_index (name_cmp b n)
index-rises a b n h =
    by_order (name_cmp b n)
    (λ e. grind (arith, name_cmp-trans a b n h e))
    (λ e. (let here = subst (λ k. name_cmp a k ≡ Less) (same_from_name_cmp b n e) h in grind (arith, here)))
    (λ e. grind (arith, index-le (name_cmp a n)))

module _ {T : Type 0} where
  -- ---- what each change makes, by the order of the name and the first one

  put-less : (x y : Interval T) (ys : List (Interval T)) → name_cmp (name_of x) (name_of y) ≡ Less → put_rising interval_cmp x (y ∷ ys) ≡ x ∷ y ∷ ys
  put-less x y ys h = grind arith

  put-same : (x y : Interval T) (ys : List (Interval T)) → name_cmp (name_of x) (name_of y) ≡ Equal → put_rising interval_cmp x (y ∷ ys) ≡ x ∷ ys
  put-same x y ys h = grind arith

  put-greater : (x y : Interval T) (ys : List (Interval T)) → name_cmp (name_of x) (name_of y) ≡ Greater
      → put_rising interval_cmp x (y ∷ ys) ≡ y ∷ put_rising interval_cmp x ys
  put-greater x y ys h = grind arith

  without-less : (n : Name) (y : Interval T) (ys : List (Interval T)) → name_cmp n (name_of y) ≡ Less → without_name n (y ∷ ys) ≡ y ∷ ys
  without-less n y ys h = grind arith

  without-same : (n : Name) (y : Interval T) (ys : List (Interval T)) → name_cmp n (name_of y) ≡ Equal → without_name n (y ∷ ys) ≡ ys
  without-same n y ys h = grind arith

  without-greater : (n : Name) (y : Interval T) (ys : List (Interval T)) → name_cmp n (name_of y) ≡ Greater → without_name n (y ∷ ys) ≡ y ∷ without_name n ys
  without-greater n y ys h = grind arith

  -- a name before another is before all behind that
  pub IsBeforeNames-trans : (a b : Name) (xs : List (Interval T)) → name_cmp a b ≡ Less → IsBeforeNames b xs → IsBeforeNames a xs
  IsBeforeNames-trans a b [] h r = tt
  IsBeforeNames-trans a b (x ∷ xs) h r = (name_cmp-trans a b (name_of x) h r.0, IsBeforeNames-trans a b xs h r.1)

  -- ---- places

  -- the place of a name is in the list, and one where it would stand is so or is its end
  pub found-in_range : (n : Name) (i : ℕ) (xs : List (Interval T)) → place_of_name n xs ≡ Ok i → i < length xs
  found-in_range n i [] h = absurd cc
  found-in_range n zero (x ∷ xs) h = omega arith
  found-in_range n (suc i) (x ∷ xs) h = grind (arith, found-in_range n i xs)

  pub missing-in_range : (n : Name) (i : ℕ) (xs : List (Interval T)) → place_of_name n xs ≡ Err i → i ≤ length xs
  missing-in_range n zero xs h = omega arith
  missing-in_range n (suc i) [] h = absurd cc
  missing-in_range n (suc i) (x ∷ xs) h = grind (arith, missing-in_range n i xs)

  -- the interval of a name is that at its place, and one that has no place isn't there
  pub interval_of-found : (n : Name) (i : ℕ) (d : Interval T) (xs : List (Interval T)) → place_of_name n xs ≡ Ok i → interval_of n xs ≡ Some (get_or xs i d)
  interval_of-found n i d [] h = cc
  interval_of-found n zero d (x ∷ xs) h = grind (arith, interval_of-found n zero d xs)
  interval_of-found n (suc i) d (x ∷ xs) h = grind (arith, interval_of-found n i d xs)

  pub interval_of-missing : (n : Name) (i : ℕ) (xs : List (Interval T)) → place_of_name n xs ≡ Err i → interval_of n xs ≡ None
  interval_of-missing n i [] h = refl
  interval_of-missing n zero (x ∷ xs) h = grind (arith, interval_of-missing n zero xs)
  interval_of-missing n (suc i) (x ∷ xs) h = grind (arith, interval_of-missing n i xs)

  -- what is put stands at its name's place, or where the name would stand
  pub put-found : (x : Interval T) (i : ℕ) (ys : List (Interval T)) → place_of_name (name_of x) ys ≡ Ok i → put_rising interval_cmp x ys ≡ set ys i x
  put-found x i [] h = cc
  put-found x zero (y ∷ ys) h = grind (arith, put-found x zero ys)
  put-found x (suc i) (y ∷ ys) h = grind (arith, put-found x i ys)

  pub put-missing : (x : Interval T) (i : ℕ) (ys : List (Interval T)) → place_of_name (name_of x) ys ≡ Err i → put_rising interval_cmp x ys ≡ insert ys i x
  put-missing x zero [] h = refl
  put-missing x (suc i) [] h = absurd cc
  put-missing x zero (y ∷ ys) h = grind arith
  put-missing x (suc i) (y ∷ ys) h = grind (arith, put-missing x i ys)

  -- what is changed or taken out stood at its name's place
  pub changed-found : (n : Name) (f : Interval T → Interval T) (i : ℕ) (d : Interval T) (ys : List (Interval T)) → place_of_name n ys ≡ Ok i
      → with_changed n f ys ≡ set ys i (f (get_or ys i d))
  changed-found n f i d [] h = cc
  changed-found n f zero d (y ∷ ys) h = grind (arith, changed-found n f zero d ys)
  changed-found n f (suc i) d (y ∷ ys) h = grind (arith, changed-found n f i d ys)

  pub changed-missing : (n : Name) (f : Interval T → Interval T) (i : ℕ) (ys : List (Interval T)) → place_of_name n ys ≡ Err i → with_changed n f ys ≡ ys
  changed-missing n f i [] h = refl
  changed-missing n f zero (y ∷ ys) h = grind arith
  changed-missing n f (suc i) (y ∷ ys) h = grind (arith, changed-missing n f i ys)

  pub without-found : (n : Name) (i : ℕ) (ys : List (Interval T)) → place_of_name n ys ≡ Ok i → without_name n ys ≡ remove ys i
  without-found n i [] h = absurd cc
  without-found n zero (y ∷ ys) h = grind (arith, without-found n zero ys)
  without-found n (suc i) (y ∷ ys) h = grind (arith, without-found n i ys)

  pub without-missing : (n : Name) (i : ℕ) (ys : List (Interval T)) → place_of_name n ys ≡ Err i → without_name n ys ≡ ys
  without-missing n i [] h = refl
  without-missing n zero (y ∷ ys) h = grind arith
  without-missing n (suc i) (y ∷ ys) h = grind (arith, without-missing n i ys)

  -- ---- the names still rise

  IsBeforeNames-put : (a : Name) (x : Interval T) (ys : List (Interval T)) → name_cmp a (name_of x) ≡ Less → IsBeforeNames a ys
      → IsBeforeNames a (put_rising interval_cmp x ys)
  IsBeforeNames-put a x [] h b = (h, tt)
  IsBeforeNames-put a x (y ∷ ys) h b =
      let P : List (Interval T) → Type 0 = λ zs. IsBeforeNames a zs in
      by_order (name_cmp (name_of x) (name_of y))
      (λ e. subst P (sym (put-less x y ys e)) (h, b))
      (λ e. subst P (sym (put-same x y ys e)) (h, b.1))
      (λ e. subst P (sym (put-greater x y ys e)) (b.0, IsBeforeNames-put a x ys h b.1))

  pub NamesRise-put : (x : Interval T) (ys : List (Interval T)) → NamesRise ys → NamesRise (put_rising interval_cmp x ys)
  NamesRise-put x [] r = (tt, tt)
  NamesRise-put x (y ∷ ys) r =
      let P : List (Interval T) → Type 0 = λ zs. NamesRise zs in
      by_order (name_cmp (name_of x) (name_of y))
      (λ e. subst P (sym (put-less x y ys e)) ((e, IsBeforeNames-trans (name_of x) (name_of y) ys e r.0), r))
      (λ e. subst P (sym (put-same x y ys e)) (subst (λ k. IsBeforeNames k ys) (sym (same_from_name_cmp (name_of x) (name_of y) e)) r.0, r.1))
      (λ e. subst P (sym (put-greater x y ys e)) (IsBeforeNames-put (name_of y) x ys (name_cmp-turned (name_of x) (name_of y) e) r.0, NamesRise-put x ys r.1))

  IsBeforeNames-without : (a n : Name) (ys : List (Interval T)) → IsBeforeNames a ys → IsBeforeNames a (without_name n ys)
  IsBeforeNames-without a n [] b = tt
  IsBeforeNames-without a n (y ∷ ys) b =
      let P : List (Interval T) → Type 0 = λ zs. IsBeforeNames a zs in
      by_order (name_cmp n (name_of y))
      (λ e. subst P (sym (without-less n y ys e)) b)
      (λ e. subst P (sym (without-same n y ys e)) b.1)
      (λ e. subst P (sym (without-greater n y ys e)) (b.0, IsBeforeNames-without a n ys b.1))

  pub NamesRise-without : (n : Name) (ys : List (Interval T)) → NamesRise ys → NamesRise (without_name n ys)
  NamesRise-without n [] r = tt
  NamesRise-without n (y ∷ ys) r =
      let P : List (Interval T) → Type 0 = λ zs. NamesRise zs in
      by_order (name_cmp n (name_of y))
      (λ e. subst P (sym (without-less n y ys e)) r)
      (λ e. subst P (sym (without-same n y ys e)) r.1)
      (λ e. subst P (sym (without-greater n y ys e)) (IsBeforeNames-without (name_of y) n ys r.0, NamesRise-without n ys r.1))

  -- a change that keeps the name
  IsBeforeNames-set : (a : Name) (f : Interval T → Interval T) (n : Name) (ys : List (Interval T)) → ((i : Interval T) → name_of (f i) ≡ name_of i)
      → IsBeforeNames a ys → IsBeforeNames a (with_changed n f ys)
  IsBeforeNames-set a f n [] k b = tt
  IsBeforeNames-set a f n (y ∷ ys) k b = step (name_cmp n (name_of y)) (IsBeforeNames-set a f n ys k b.1)
    where
      step : (o : Ordering) → IsBeforeNames a (with_changed n f ys) → IsBeforeNames a (elim o [ Less ↦ y ∷ ys | Equal ↦ f y ∷ ys | Greater ↦ y ∷ with_changed n f ys ])
      step Less s = b
      step Equal s = (subst (λ m. name_cmp a m ≡ Less) (sym (k y)) b.0, b.1)
      step Greater s = (b.0, s)

  pub NamesRise-changed : (n : Name) (f : Interval T → Interval T) (ys : List (Interval T)) → ((i : Interval T) → name_of (f i) ≡ name_of i)
      → NamesRise ys → NamesRise (with_changed n f ys)
  NamesRise-changed n f [] k r = tt
  NamesRise-changed n f (y ∷ ys) k r = step (name_cmp n (name_of y)) (IsBeforeNames-set (name_of y) f n ys k r.0) (NamesRise-changed n f ys k r.1)
    where
      step : (o : Ordering) → IsBeforeNames (name_of y) (with_changed n f ys) → NamesRise (with_changed n f ys)
          → NamesRise (elim o [ Less ↦ y ∷ ys | Equal ↦ f y ∷ ys | Greater ↦ y ∷ with_changed n f ys ])
      step Less b s = r
      step Equal b s = (subst (λ m. IsBeforeNames m ys) (sym (k y)) r.0, r.1)
      step Greater b s = (b, s)

  -- one that gets another of its name
  IsBeforeNames-at : (a : Name) (i : ℕ) (x d : Interval T) (ys : List (Interval T)) → i < length ys → name_of x ≡ name_of (get_or ys i d)
      → IsBeforeNames a ys → IsBeforeNames a (set ys i x)
  IsBeforeNames-at a i x d [] l e b = absurd (omega arith)
  IsBeforeNames-at a zero x d (y ∷ ys) l e b = (subst (λ m. name_cmp a m ≡ Less) (sym e) b.0, b.1)
  IsBeforeNames-at a (suc i) x d (y ∷ ys) l e b = (b.0, IsBeforeNames-at a i x d ys (omega arith) e b.1)

  pub NamesRise-at : (i : ℕ) (x d : Interval T) (ys : List (Interval T)) → i < length ys → name_of x ≡ name_of (get_or ys i d)
      → NamesRise ys → NamesRise (set ys i x)
  NamesRise-at i x d [] l e r = absurd (omega arith)
  NamesRise-at zero x d (y ∷ ys) l e r = (subst (λ m. IsBeforeNames m ys) (sym e) r.0, r.1)
  NamesRise-at (suc i) x d (y ∷ ys) l e r = (IsBeforeNames-at (name_of y) i x d ys (omega arith) e r.0, NamesRise-at i x d ys (omega arith) e r.1)

  -- ---- a binary search

  abbrev order_at : Name → List (Interval T) → ℕ → Interval T → Ordering
  order_at n xs i d = name_cmp (name_of (get_or xs i d)) n

  at-before : (n : Name) (xs : List (Interval T)) (i : ℕ) (d : Interval T) → IsBeforeNames n xs → i < length xs → name_cmp n (name_of (get_or xs i d)) ≡ Less
  at-before n [] i d b l = absurd (omega arith)
  at-before n (x ∷ xs) zero d b l = b.0
  at-before n (x ∷ xs) (suc i) d b l = at-before n xs i d b.1 (omega arith)

  -- a name that is found by comparing stands at its place
  place-equal : (n : Name) (xs : List (Interval T)) (i : ℕ) (d : Interval T) → NamesRise xs → i < length xs → order_at n xs i d ≡ Equal
      → place_of_name n xs ≡ Ok i
  place-equal n [] i d r l h = absurd (omega arith)
  place-equal n (x ∷ xs) zero d r l h = grind (arith, tied_back name_cmp-total (name_of x) n h)
  place-equal n (x ∷ xs) (suc i) d r l h =
      let here = subst (λ k. name_cmp (name_of x) k ≡ Less) (same_from_name_cmp _ n h) (at-before (name_of x) xs i d r.0 (omega arith)) in
      grind (arith, name_cmp-back (name_of x) n here, place-equal n xs i d r.1 (omega arith) h)

  -- a name that stands at no place would stand behind the lesser ones
  place-between : (n : Name) (xs : List (Interval T)) (i : ℕ) (d : Interval T) → i ≤ length xs
      → ((j : ℕ) → j < i → order_at n xs j d ≡ Less) → ((j : ℕ) → i ≤ j → j < length xs → order_at n xs j d ≡ Greater) → place_of_name n xs ≡ Err i
  place-between n [] zero d l before after = refl
  place-between n [] (suc i) d l before after = absurd (omega arith)
  place-between n (x ∷ xs) zero d l before after = grind (arith, name_cmp-turned (name_of x) n (after 0 (omega arith) (omega arith)))
  place-between n (x ∷ xs) (suc i) d l before after =
      grind (
        arith,
        name_cmp-back (name_of x) n (before 0 (omega arith)),
        place-between n xs i d (omega arith) (λ j h. before (suc j) (omega arith)) (λ j h k. after (suc j) (omega arith) (omega arith)),
      )

  -- the comparisons with a name rise along the list, as a binary search asks
  comparisons_rise : (n : Name) (xs : List (Interval T)) → NamesRise xs → IsNonDecreasingBy (λ x. ordering_index (name_cmp (name_of x) n)) xs
  comparisons_rise n [] r i j d l m = absurd (omega arith)
  comparisons_rise n (x ∷ xs) r zero zero d l m = omega arith
  comparisons_rise n (x ∷ xs) r zero (suc j) d l m = index-rises (name_of x) (name_of (get_or xs j d)) n (at-before (name_of x) xs j d r.0 (omega arith))
  comparisons_rise n (x ∷ xs) r (suc i) zero d l m = absurd (omega arith)
  comparisons_rise n (x ∷ xs) r (suc i) (suc j) d l m = comparisons_rise n xs r.1 i j d (omega arith) (omega arith)

  -- what a binary search answers
  pub searched : (n : Name) (xs : List (Interval T)) (r : Result ℕ ℕ) → NamesRise xs → IsSearchInRange r (length xs)
      → IsBinarySearchResult (λ x. name_cmp (name_of x) n) xs r → r ≡ place_of_name n xs
  searched n [] (Ok i) rise l h = absurd (omega arith)
  searched n (x ∷ xs) (Ok i) rise l h = sym (place-equal n (x ∷ xs) i x rise l (h x))
  searched n [] (Err i) rise l h = ap Err (omega arith)
  searched n (x ∷ xs) (Err i) rise l h =
      let parts = h (comparisons_rise n (x ∷ xs) rise) in
      sym (place-between n (x ∷ xs) i x l (λ j k. parts.0 j x (omega arith) k) (λ j k m. parts.1 j x k m))
