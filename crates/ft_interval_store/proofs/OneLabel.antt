-- Intervals of one label, among which a name is found by its id alone.
use Rattle.std.proofs.Common.{◌≡◌, ℕ, zero, suc, ◌-◌, ◌<◌, List, [], ◌∷◌, Some, Result, Ok, Err, refl, sym, ◌∙◌, ap, subst, arith, length, get_or, slice_get}
use Rattle.std.specs.Ordering.{ordering_then, ordering_reverse, ordering_index}
use Rattle.std.specs.declared.cmp.Ordering.{Ordering}
use Rattle.std.specs.declared.cmp.Ordering.TheVariants.{Less, Equal, Greater}
use Rattle.std.specs.List.Sorted.{IsSearchInRange, IsBinarySearchResult}
use Rattle.std.proofs.lemmas.Cmp.{nat_list_cmp_total}
use Rattle.std.proofs.lemmas.Map.Lookups.{exact_bytes}
use Rattle.ft_props.specs.Keys.{Characters, text_cmp}
use Rattle.ft_interval_store.specs.declared.intervals.Interval.{Interval}
use Rattle.ft_interval_store.specs.Intervals.{AreOfLabel, IsBeforeNames, Name, NamesRise, name_cmp, name_of, place_of_name}
use Rattle.ft_interval_store.proofs.RisingNames.{searched}

turned-equal : (o : Ordering) → o ≡ ordering_reverse o → o ≡ Equal
turned-equal Less h = absurd cc
turned-equal Equal h = refl
turned-equal Greater h = absurd cc

text_cmp-self : (t : Characters) → text_cmp t t ≡ Equal
text_cmp-self t = turned-equal (text_cmp t t) (nat_list_cmp_total.antisymm t t)

first-equal : (o p q : Ordering) → ordering_then o p ≡ Less → ordering_then (ordering_reverse o) q ≡ Less → o ≡ Equal
first-equal Less p q h g = absurd cc
first-equal Equal p q h g = refl
first-equal Greater p q h g = absurd cc

-- between two names of one label all are of that label
between : (a b c : Name) → name_cmp a b ≡ Less → name_cmp b c ≡ Less → c.0 ≡ a.0 → b.0 ≡ a.0
between a b c h g e =
    let turned : text_cmp b.0 c.0 ≡ ordering_reverse (text_cmp a.0 b.0) = ap (text_cmp b.0) e ∙ nat_list_cmp_total.antisymm b.0 a.0 in
    let again = subst (λ o. ordering_then o (text_cmp b.1 c.1) ≡ Less) turned g in
    sym (exact_bytes a.0 b.0 (first-equal (text_cmp a.0 b.0) (text_cmp a.1 b.1) (text_cmp b.1 c.1) h again))

-- two orders that answer the same at each element of a list find the same there
same-search : {X : Type 0} (a b : X → Ordering) (xs : List X) (r : Result ℕ ℕ) → IsSearchInRange r (length xs)
    → ((i : ℕ) (d : X) → i < length xs → a (get_or xs i d) ≡ b (get_or xs i d)) → IsBinarySearchResult a xs r → IsBinarySearchResult b xs r
same-search a b xs (Ok i) within same h = λ d. sym (same i d within) ∙ h d
same-search a b xs (Err i) within same h = λ rising.
    let parts = h (λ j k d le l.
    omega (arith, rising j k d le l, ap ordering_index (same j d (omega (arith, le, l))), ap ordering_index (same k d l))) in
    (λ k d g l. sym (same k d (omega (arith, l, within))) ∙ parts.0 k d g l, λ k d g l. sym (same k d l) ∙ parts.1 k d g l)

module _ {T : Type 0} where
  before-last : (a : Name) (x : Interval T) (xs : List (Interval T)) (z : Interval T) → IsBeforeNames a (x ∷ xs)
      → slice_get (x ∷ xs) (length xs) ≡ Some z → name_cmp a (name_of z) ≡ Less
  before-last a x [] z b e = (let same : x ≡ z = (cc) in subst (λ y. name_cmp a (name_of y) ≡ Less) same b.0)
  before-last a x (y ∷ ys) z b e = before-last a y ys z b.1 e

  labels-between : (l : Characters) (a : Name) (x : Interval T) (xs : List (Interval T)) (z : Interval T) → a.0 ≡ l → IsBeforeNames a (x ∷ xs)
      → NamesRise (x ∷ xs) → slice_get (x ∷ xs) (length xs) ≡ Some z → z.label ≡ l → AreOfLabel l (x ∷ xs)
  labels-between l a x [] z first b r e last = (let same : x ≡ z = (cc) in (ap (λ (i : Interval T). i.label) same ∙ last, tt))
  labels-between l a x (y ∷ ys) z first b r e last =
      let same = between a (name_of x) (name_of z) b.0 (before-last (name_of x) y ys z r.0 e) (last ∙ sym first) in
      let here : x.label ≡ l = same ∙ first in
      (here, labels-between l (name_of x) y ys z here r.0 r.1 e last)

  -- rising names are of one label if the first one and the last one are
  pub one-label : (l : Characters) (xs : List (Interval T)) (y z : Interval T) → NamesRise xs → slice_get xs 0 ≡ Some y
      → slice_get xs (length xs - 1) ≡ Some z → y.label ≡ l → z.label ≡ l → AreOfLabel l xs
  one-label l [] y z r f e first last = tt
  one-label l (x ∷ []) y z r f e first last = (let same : x ≡ y = (cc) in (ap (λ (i : Interval T). i.label) same ∙ first, tt))
  one-label l (x ∷ v ∷ vs) y z r f e first last =
      let same : x ≡ y = (cc) in
      let here : x.label ≡ l = ap (λ (i : Interval T). i.label) same ∙ first in
      let count : length (x ∷ v ∷ vs) - 1 ≡ suc (length vs) = omega arith in
      (here, labels-between l (name_of x) v vs z here r.0 r.1 (subst (λ k. slice_get (x ∷ v ∷ vs) k ≡ Some z) count e) last)

  label-at : (l : Characters) (xs : List (Interval T)) (i : ℕ) (d : Interval T) → AreOfLabel l xs → i < length xs → (get_or xs i d).label ≡ l
  label-at l [] i d h within = absurd (omega arith)
  label-at l (x ∷ xs) zero d h within = h.0
  label-at l (x ∷ xs) (suc i) d h within = label-at l xs i d h.1 (omega arith)

  -- at an interval of the name's label the order is that of ids
  by-id : (n : Name) (x : Interval T) → x.label ≡ n.0 → text_cmp x.id n.1 ≡ name_cmp (name_of x) n
  by-id n x e =
      sym (ap (λ l. ordering_then (text_cmp l n.0) (text_cmp x.id n.1)) e
      ∙ ap (λ o. ordering_then o (text_cmp x.id n.1)) (text_cmp-self n.0))

  -- what a binary search by ids answers among intervals of the name's label
  pub searched-ids : (n : Name) (xs : List (Interval T)) (r : Result ℕ ℕ) → AreOfLabel n.0 xs → NamesRise xs → IsSearchInRange r (length xs)
      → IsBinarySearchResult (λ x. text_cmp x.id n.1) xs r → r ≡ place_of_name n xs
  searched-ids n xs r labels rise within h =
      let same = λ (i : ℕ) (d : Interval T) (l : i < length xs). by-id n (get_or xs i d) (label-at n.0 xs i d labels l) in
      searched n xs r rise within
      (same-search (λ (x : Interval T). text_cmp x.id n.1) (λ (x : Interval T). name_cmp (name_of x) n) xs r within same h)
