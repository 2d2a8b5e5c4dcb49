-- Intervals by rising names beside named ones: a relation that keeps label and id is kept by what an operation makes of both.
use Rattle.std.proofs.Common.{◌≡◌, ℕ, Bool, true, false, cond, not, ◌&&◌, ◌||◌, is_some, List, [], ◌∷◌, Option, Some, None, refl, sym, ◌∙◌, ap, subst, map, filter}
use Rattle.std.specs.List.{list_any}
use Rattle.std.specs.Ordering.{is_eq, ordering_then}
use Rattle.std.specs.declared.cmp.Ordering.{Ordering}
use Rattle.std.specs.declared.cmp.Ordering.TheVariants.{Less, Equal, Greater}
use Rattle.ft_interval_store.specs.declared.intervals.EndPair.{EndPair}
use Rattle.ft_interval_store.specs.declared.intervals.Interval.{Interval}
use Rattle.ft_interval_store.specs.Intervals.{IsBeforeNames, Name, NamesRise, after_operation, changed_interval, interval_cmp, interval_of, name_cmp, name_of, with_changed, without_name}
use Rattle.ft_interval_store.proofs.RisingNames.{IsBeforeNames-trans, same_from_name_cmp}
use Rattle.ft_op.specs.declared.operations.Ends.{Ends}
use Rattle.ft_op.specs.declared.operations.TextOp.{TextOp}
use Rattle.ft_op.specs.declared.operations.TextOp.TheVariants.{One, Group, IntervalAdd, IntervalChange, IntervalDelete}
use Rattle.ft_op.specs.Intervals.{NamedElements, after_interval_operation, has_interval, is_interval, with_ends}
use Rattle.ft_op.specs.Intervals.{Interval as NamedInterval}
use Rattle.ft_op.specs.Intervals.{interval_cmp as named_cmp}
use Rattle.ft_props.specs.Keys.{Characters, put_rising, text_cmp}
use Rattle.ft_props.specs.Properties.{PropertySet, apply}
use Rattle.ft_laws_agreement.specs.Sequencing.{Each}
use Rattle.ft_laws_names.proofs.Beside.{Beside, ends, next}

module _ (R : Interval ℕ → NamedInterval → Type 0) (label-of : (i : Interval ℕ) (d : NamedInterval) → R i d → i.label ≡ d.label)
    (id-of : (i : Interval ℕ) (d : NamedInterval) → R i d → i.id ≡ d.id) where
  abbrev Alike : List (Interval ℕ) → List NamedInterval → Type 0
  Alike is ds = Beside (Interval ℕ) NamedInterval R is ds

  same-order : (n : Name) (i : Interval ℕ) (d : NamedInterval) → R i d → name_cmp n (name_of i) ≡ ordering_then (text_cmp n.0 d.label) (text_cmp n.1 d.id)
  same-order n i d q =
      rw (label-of i d q, id-of i d q) refl

  -- whether it is the interval of the name
  abbrev is_named : Name → NamedInterval → Bool
  is_named n d = is_interval n.0 n.1 d

  named-then : (o p : Ordering) → is_eq o && is_eq p ≡ is_eq (ordering_then o p)
  named-then Less p = refl
  named-then Equal p = refl
  named-then Greater p = refl

  same-name : (n : Name) (i : Interval ℕ) (d : NamedInterval) → R i d → is_named n d ≡ is_eq (name_cmp n (name_of i))
  same-name n i d q = named-then (text_cmp n.0 d.label) (text_cmp n.1 d.id) ∙ ap is_eq (sym (same-order n i d q))

  less-not : (o : Ordering) → o ≡ Less → is_eq o ≡ false
  less-not Less h = refl
  less-not Equal h = (cc)
  less-not Greater h = (cc)

  -- behind a greater name there is none
  none-behind : (n : Name) {is : List (Interval ℕ)} {ds : List NamedInterval} → IsBeforeNames n is → Alike is ds → Each (λ d. is_named n d ≡ false) ds
  none-behind n h ends = tt
  none-behind n h (next {x = i} {y = d} q qs) =
      (same-name n i d q ∙ less-not (name_cmp n (name_of i)) h.0, none-behind n h.1 qs)

  any-none : (n : Name) (ds : List NamedInterval) → Each (λ d. is_named n d ≡ false) ds → list_any (is_named n) ds ≡ false
  any-none n [] h = refl
  any-none n (d ∷ ds) h = rw (h.0, any-none n ds h.1) refl

  map-none : (n : Name) (f : NamedInterval → NamedInterval) (ds : List NamedInterval) → Each (λ d. is_named n d ≡ false) ds
      → map (λ d. cond (is_named n d) (f d) d) ds ≡ ds
  map-none n f [] h = refl
  map-none n f (d ∷ ds) h = rw (h.0, map-none n f ds h.1) refl

  filter-none : (n : Name) (ds : List NamedInterval) → Each (λ d. is_named n d ≡ false) ds → filter (λ d. not (is_named n d)) ds ≡ ds
  filter-none n [] h = refl
  filter-none n (d ∷ ds) h = rw (h.0, filter-none n ds h.1) refl

  -- ---- each change

  module _ (n : Name) where
    same-before : (i : Interval ℕ) (is : List (Interval ℕ)) → name_cmp n (name_of i) ≡ Equal → IsBeforeNames (name_of i) is → IsBeforeNames n is
    same-before i is e b = subst (λ m. IsBeforeNames m is) (sym (same_from_name_cmp n (name_of i) e)) b

    pub has-alike : {is : List (Interval ℕ)} {ds : List NamedInterval} → NamesRise is → Alike is ds → is_some (interval_of n is) ≡ list_any (is_named n) ds
    has-alike r ends = refl
    has-alike r (next {x = i} {y = d} {xs = is} {ys = ds} q qs) =
        rw (same-name n i d q) (step (name_cmp n (name_of i)) refl (has-alike r.1 qs))
      where
        step : (o : Ordering) → name_cmp n (name_of i) ≡ o → is_some (interval_of n is) ≡ list_any (is_named n) ds
            → is_some (elim o as (λ _. Option (Interval ℕ)) [ Less ↦ None | Equal ↦ Some i | Greater ↦ interval_of n is ]) ≡ is_eq o || list_any (is_named n) ds
        step Less e rest = sym (any-none n ds (none-behind n (IsBeforeNames-trans n (name_of i) is e r.0) qs))
        step Equal e rest = refl
        step Greater e rest = rest

    change-alike : (f : Interval ℕ → Interval ℕ) (g : NamedInterval → NamedInterval) → ((i : Interval ℕ) (d : NamedInterval) → R i d → R (f i) (g d))
        → {is : List (Interval ℕ)} {ds : List NamedInterval} → NamesRise is → Alike is ds
        → Alike (with_changed n f is) (map (λ d. cond (is_named n d) (g d) d) ds)
    change-alike f g h r ends = ends
    change-alike f g h r (next {x = i} {y = d} {xs = is} {ys = ds} q qs) =
        rw (same-name n i d q) (step (name_cmp n (name_of i)) refl (change-alike f g h r.1 qs))
      where
        tail : Each (λ d. is_named n d ≡ false) ds → Alike is (map (λ d. cond (is_named n d) (g d) d) ds)
        tail none = subst (Alike is) (sym (map-none n g ds none)) qs

        step : (o : Ordering) → name_cmp n (name_of i) ≡ o → Alike (with_changed n f is) (map (λ d. cond (is_named n d) (g d) d) ds)
            → Alike (elim o as (λ _. List (Interval ℕ)) [ Less ↦ i ∷ is | Equal ↦ f i ∷ is | Greater ↦ i ∷ with_changed n f is ])
            (cond (is_eq o) (g d) d ∷ map (λ d. cond (is_named n d) (g d) d) ds)
        step Less e rest = next q (tail (none-behind n (IsBeforeNames-trans n (name_of i) is e r.0) qs))
        step Equal e rest = next (h i d q) (tail (none-behind n (same-before i is e r.0) qs))
        step Greater e rest = next q rest

    drop-alike : {is : List (Interval ℕ)} {ds : List NamedInterval} → NamesRise is → Alike is ds
        → Alike (without_name n is) (filter (λ d. not (is_named n d)) ds)
    drop-alike r ends = ends
    drop-alike r (next {x = i} {y = d} {xs = is} {ys = ds} q qs) =
        rw (same-name n i d q) (step (name_cmp n (name_of i)) refl (drop-alike r.1 qs))
      where
        tail : Each (λ d. is_named n d ≡ false) ds → Alike is (filter (λ d. not (is_named n d)) ds)
        tail none = subst (Alike is) (sym (filter-none n ds none)) qs

        step : (o : Ordering) → name_cmp n (name_of i) ≡ o → Alike (without_name n is) (filter (λ d. not (is_named n d)) ds)
            → Alike (elim o as (λ _. List (Interval ℕ)) [ Less ↦ i ∷ is | Equal ↦ is | Greater ↦ i ∷ without_name n is ])
            (cond (not (is_eq o)) (d ∷ filter (λ d. not (is_named n d)) ds) (filter (λ d. not (is_named n d)) ds))
        step Less e rest = next q (tail (none-behind n (IsBeforeNames-trans n (name_of i) is e r.0) qs))
        step Equal e rest = tail (none-behind n (same-before i is e r.0) qs)
        step Greater e rest = next q rest

  put-alike : (i : Interval ℕ) (d : NamedInterval) → R i d → {is : List (Interval ℕ)} {ds : List NamedInterval} → Alike is ds
      → Alike (put_rising interval_cmp i is) (put_rising named_cmp d ds)
  put-alike i d q ends = next q ends
  put-alike i d q (next {x = j} {y = f} {xs = is} {ys = ds} p ps) =
      step (name_cmp (name_of i) (name_of j)) (named_cmp d f) (same-order (name_of i) j f p ∙ same-left) (put-alike i d q ps)
    where
      same-left : ordering_then (text_cmp i.label f.label) (text_cmp i.id f.id) ≡ named_cmp d f
      same-left =
          rw (label-of i d q, id-of i d q) refl

      step : (o o' : Ordering) → o ≡ o' → Alike (put_rising interval_cmp i is) (put_rising named_cmp d ds)
          → Alike (elim o as (λ _. List (Interval ℕ)) [ Less ↦ i ∷ j ∷ is | Equal ↦ i ∷ is | Greater ↦ j ∷ put_rising interval_cmp i is ])
          (elim o' as (λ _. List NamedInterval) [ Less ↦ d ∷ f ∷ ds | Equal ↦ d ∷ ds | Greater ↦ f ∷ put_rising named_cmp d ds ])
      step Less o' e rest = subst (λ w. Alike (i ∷ j ∷ is) (elim w as (λ _. List NamedInterval) [ Less ↦ d ∷ f ∷ ds | Equal ↦ d ∷ ds | Greater ↦ f ∷ put_rising named_cmp d ds ])) e
          (next q (next p ps))
      step Equal o' e rest = subst (λ w. Alike (i ∷ is) (elim w as (λ _. List NamedInterval) [ Less ↦ d ∷ f ∷ ds | Equal ↦ d ∷ ds | Greater ↦ f ∷ put_rising named_cmp d ds ])) e
          (next q ps)
      step Greater o' e rest = subst (λ w. Alike (j ∷ put_rising interval_cmp i is) (elim w as (λ _. List NamedInterval) [ Less ↦ d ∷ f ∷ ds | Equal ↦ d ∷ ds | Greater ↦ f ∷ put_rising named_cmp d ds ])) e
          (next p rest)

  -- ---- an operation

  choose-alike : (b c : Bool) → b ≡ c → {is js : List (Interval ℕ)} {ds fs : List NamedInterval} → Alike is ds → Alike js fs
      → Alike (cond b is js) (cond c ds fs)
  choose-alike true true e p q = p
  choose-alike true false e p q = (cc)
  choose-alike false true e p q = (cc)
  choose-alike false false e p q = q

  -- where new intervals, and changed ones, are alike
  pub operation-beside : (op : TextOp) (places : EndPair ℕ) (names : NamedElements)
      → ((label name : Characters) (props : PropertySet) → R (record { label = label; id = name; ends = places; props = apply [] props })
      (record { label = label; id = name; start = names.first; end = names.second; props = apply [] props }))
      → ((given : Option Ends) (props : PropertySet) (i : Interval ℕ) (d : NamedInterval) → R i d
      → R (changed_interval given places props i) (let j = with_ends given names d in record j { props = apply j.props props }))
      → {is : List (Interval ℕ)} {ds : List NamedInterval} → NamesRise is → Alike is ds
      → Alike (after_operation op places is) (after_interval_operation op names ds)
  operation-beside (One op) places names new changed r b = b
  operation-beside (Group ops) places names new changed r b = b
  operation-beside (IntervalAdd label name given props) places names new changed {is} {ds} r b =
      choose-alike (is_some (interval_of (label, name) is)) (has_interval label name ds) (has-alike (label, name) r b) b
      (put-alike (record { label = label; id = name; ends = places; props = apply [] props })
      (record { label = label; id = name; start = names.first; end = names.second; props = apply [] props }) (new label name props) b)
  operation-beside (IntervalChange label name given props) places names new changed r b =
      change-alike (label, name) (changed_interval given places props) (λ d. let j = with_ends given names d in record j { props = apply j.props props })
      (changed given props) r b
  operation-beside (IntervalDelete label name) places names new changed r b = drop-alike (label, name) r b
