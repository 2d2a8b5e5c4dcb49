-- Lists by rising names are told by what they have at each name; and what a filter leaves of them.
use Rattle.std.proofs.Common.{◌≡◌, Bool, true, false, cond, List, [], ◌∷◌, Option, Some, None, refl, sym, ◌∙◌, ap, subst, arith, map, filter}
use Rattle.std.specs.declared.cmp.Ordering.{Ordering}
use Rattle.std.specs.declared.cmp.Ordering.TheVariants.{Less, Equal, Greater}
use Rattle.ft_interval_store.specs.declared.intervals.Interval.{Interval}
use Rattle.ft_interval_store.specs.Intervals.{IsBeforeNames, Name, NamesRise, interval_of, name_cmp, name_of}
use Rattle.ft_interval_store.proofs.RisingNames.{IsBeforeNames-trans, by_order, name_cmp-back, name_cmp-turned, same_from_name_cmp}

pub name_cmp-self : (n : Name) → name_cmp n n ≡ Equal
name_cmp-self n = by_order (name_cmp n n)
    (λ e. (let never : Less ≡ Greater = sym e ∙ name_cmp-back n n e in absurd (cc)))
    (λ e. e)
    (λ e. (let never : Greater ≡ Less = sym e ∙ name_cmp-turned n n e in absurd (cc)))

module _ {T : Type 0} where
  before-none : (n : Name) (ys : List (Interval T)) → IsBeforeNames n ys → interval_of n ys ≡ None
  before-none n [] b = refl
  before-none n (y ∷ ys) b = grind (arith, b.0)

  -- the interval that is found has the name
  pub found-name : (n : Name) (ys : List (Interval T)) (i : Interval T) → interval_of n ys ≡ Some i → name_of i ≡ n
  found-name n [] i h = (cc)
  found-name n (y ∷ ys) i h = by_order (name_cmp n (name_of y))
      (λ e. (let never : None ≡ Some i = sym (at Less e) ∙ h in absurd (cc)))
      (λ e. (let same : Some y ≡ Some i = sym (at Equal e) ∙ h in let is : y ≡ i = (cc) in ap name_of (sym is) ∙ sym (same_from_name_cmp n (name_of y) e)))
      (λ e. found-name n ys i (sym (at Greater e) ∙ h))
    where
      at : (o : Ordering) → name_cmp n (name_of y) ≡ o → interval_of n (y ∷ ys) ≡ elim o as (λ _. Option (Interval T)) [ Less ↦ None | Equal ↦ Some y | Greater ↦ interval_of n ys ]
      at o e = ap (λ p. elim p as (λ _. Option (Interval T)) [ Less ↦ None | Equal ↦ Some y | Greater ↦ interval_of n ys ]) e

  pub at-less : (n : Name) (y : Interval T) (ys : List (Interval T)) → name_cmp n (name_of y) ≡ Less → interval_of n (y ∷ ys) ≡ None
  at-less n y ys e = ap (λ p. elim p as (λ _. Option (Interval T)) [ Less ↦ None | Equal ↦ Some y | Greater ↦ interval_of n ys ]) e

  pub at-equal : (n : Name) (y : Interval T) (ys : List (Interval T)) → name_cmp n (name_of y) ≡ Equal → interval_of n (y ∷ ys) ≡ Some y
  at-equal n y ys e = ap (λ p. elim p as (λ _. Option (Interval T)) [ Less ↦ None | Equal ↦ Some y | Greater ↦ interval_of n ys ]) e

  pub at-greater : (n : Name) (y : Interval T) (ys : List (Interval T)) → name_cmp n (name_of y) ≡ Greater → interval_of n (y ∷ ys) ≡ interval_of n ys
  at-greater n y ys e = ap (λ p. elim p as (λ _. Option (Interval T)) [ Less ↦ None | Equal ↦ Some y | Greater ↦ interval_of n ys ]) e

  -- none of a name that isn't behind the first one's stands behind that
  none-in : (n : Name) (y : Interval T) (ys : List (Interval T)) → IsBeforeNames (name_of y) ys → name_cmp n (name_of y) ≡ Less → interval_of n ys ≡ None
  none-in n y ys b e = before-none n ys (IsBeforeNames-trans n (name_of y) ys e b)

  none-same : (n : Name) (y : Interval T) (ys : List (Interval T)) → IsBeforeNames (name_of y) ys → name_cmp n (name_of y) ≡ Equal → interval_of n ys ≡ None
  none-same n y ys b e = before-none n ys (subst (λ m. IsBeforeNames m ys) (sym (same_from_name_cmp n (name_of y) e)) b)

  -- lists with the same interval at each name are the same
  pub same-rising : (xs ys : List (Interval T)) → NamesRise xs → NamesRise ys → ((n : Name) → interval_of n xs ≡ interval_of n ys) → xs ≡ ys
  same-rising [] [] r s h = refl
  same-rising [] (y ∷ ys) r s h = (let never : None ≡ Some y = h (name_of y) ∙ at-equal (name_of y) y ys (name_cmp-self (name_of y)) in absurd (cc))
  same-rising (x ∷ xs) [] r s h = (let never : Some x ≡ None = sym (at-equal (name_of x) x xs (name_cmp-self (name_of x))) ∙ h (name_of x) in absurd (cc))
  same-rising (x ∷ xs) (y ∷ ys) r s h =
      let first : Some x ≡ interval_of (name_of x) (y ∷ ys) = sym (at-equal (name_of x) x xs (name_cmp-self (name_of x))) ∙ h (name_of x) in
      let other : interval_of (name_of y) (x ∷ xs) ≡ Some y = h (name_of y) ∙ at-equal (name_of y) y ys (name_cmp-self (name_of y)) in
      by_order (name_cmp (name_of x) (name_of y))
      (λ e. (let never : Some x ≡ None = first ∙ at-less (name_of x) y ys e in absurd (cc)))
      (λ e. (let same : Some x ≡ Some y = first ∙ at-equal (name_of x) y ys e in let is : x ≡ y = (cc) in
      let rest = same-rising xs ys r.1 s.1 (tails is) in λ i. is i ∷ rest i))
      (λ e. (let never : None ≡ Some y = sym (at-less (name_of y) x xs (name_cmp-turned (name_of x) (name_of y) e)) ∙ other in absurd (cc)))
    where
      tails : x ≡ y → (n : Name) → interval_of n xs ≡ interval_of n ys
      tails is n =
          let same : name_cmp n (name_of y) ≡ name_cmp n (name_of x) = ap (λ z. name_cmp n (name_of z)) (sym is) in
          by_order (name_cmp n (name_of x))
          (λ e. none-in n x xs r.0 e ∙ sym (none-in n y ys s.0 (same ∙ e)))
          (λ e. none-same n x xs r.0 e ∙ sym (none-same n y ys s.0 (same ∙ e)))
          (λ e. sym (at-greater n x xs e) ∙ h n ∙ at-greater n y ys (same ∙ e))

  module _ (p : Interval T → Bool) where
    -- the interval, if it passes the test
    abbrev pub kept : Option (Interval T) → Option (Interval T)
    kept None = None
    kept (Some i) = cond (p i) (Some i) None

    by : (b : Bool) (y : Interval T) (ys : List (Interval T)) → p y ≡ b → filter p (y ∷ ys) ≡ cond b (y ∷ filter p ys) (filter p ys)
    by b y ys e = ap (λ c. cond c (y ∷ filter p ys) (filter p ys)) e

    before-filter : (n : Name) (ys : List (Interval T)) → IsBeforeNames n ys → IsBeforeNames n (filter p ys)
    before-filter n [] b = tt
    before-filter n (y ∷ ys) b = step (p y) (before-filter n ys b.1)
      where
        step : (c : Bool) → IsBeforeNames n (filter p ys) → IsBeforeNames n (cond c (y ∷ filter p ys) (filter p ys))
        step true rest = (b.0, rest)
        step false rest = rest

    pub rise-filter : (ys : List (Interval T)) → NamesRise ys → NamesRise (filter p ys)
    rise-filter [] r = tt
    rise-filter (y ∷ ys) r = step (p y) (rise-filter ys r.1)
      where
        step : (c : Bool) → NamesRise (filter p ys) → NamesRise (cond c (y ∷ filter p ys) (filter p ys))
        step true rest = (before-filter (name_of y) ys r.0, rest)
        step false rest = rest

    pub interval_of-filter : (n : Name) (ys : List (Interval T)) → NamesRise ys → interval_of n (filter p ys) ≡ kept (interval_of n ys)
    interval_of-filter n [] r = refl
    interval_of-filter n (y ∷ ys) r = step (p y) refl (interval_of-filter n ys r.1)
      where
        step : (b : Bool) → p y ≡ b → interval_of n (filter p ys) ≡ kept (interval_of n ys) → interval_of n (filter p (y ∷ ys)) ≡ kept (interval_of n (y ∷ ys))
        step true e rest = ap (interval_of n) (by true y ys e) ∙ by_order (name_cmp n (name_of y))
            (λ o. at-less n y (filter p ys) o ∙ sym (ap kept (at-less n y ys o)))
            (λ o. at-equal n y (filter p ys) o ∙ sym (ap kept (at-equal n y ys o) ∙ ap (λ c. cond c (Some y) None) e))
            (λ o. at-greater n y (filter p ys) o ∙ rest ∙ sym (ap kept (at-greater n y ys o)))
        step false e rest = ap (interval_of n) (by false y ys e) ∙ by_order (name_cmp n (name_of y))
            (λ o. rest ∙ ap kept (none-in n y ys r.0 o) ∙ sym (ap kept (at-less n y ys o)))
            (λ o. rest ∙ ap kept (none-same n y ys r.0 o) ∙ sym (ap kept (at-equal n y ys o) ∙ ap (λ c. cond c (Some y) None) e))
            (λ o. rest ∙ sym (ap kept (at-greater n y ys o)))

    -- two lists that have the same at each name where it passes leave the same
    pub filtered-alike : (xs ys : List (Interval T)) → NamesRise xs → NamesRise ys → ((n : Name) → kept (interval_of n xs) ≡ kept (interval_of n ys))
        → filter p xs ≡ filter p ys
    filtered-alike xs ys r s h = same-rising (filter p xs) (filter p ys) (rise-filter xs r) (rise-filter ys s)
        (λ n. interval_of-filter n xs r ∙ h n ∙ sym (interval_of-filter n ys s))

-- a filter behind a change, by the test of what that makes
pub filter-map : {A B : Type 0} (test : B → Bool) (f : A → B) (xs : List A) → filter test (map f xs) ≡ map f (filter (λ x. test (f x)) xs)
filter-map test f [] = refl
filter-map test f (x ∷ xs) = step (test (f x)) (filter-map test f xs)
  where
    step : (b : Bool) → filter test (map f xs) ≡ map f (filter (λ x. test (f x)) xs)
        → cond b (f x ∷ filter test (map f xs)) (filter test (map f xs)) ≡ map f (cond b (x ∷ filter (λ x. test (f x)) xs) (filter (λ x. test (f x)) xs))
    step true rest = ap (λ ys. f x ∷ ys) rest
    step false rest = rest
