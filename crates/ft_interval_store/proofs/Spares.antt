-- Which references an operation leaves in its interval, and which it doesn't: each is counted once.
use Rattle.std.proofs.Common.{◌≡◌, ℕ, ◌+◌, cond, is_some, List, [], ◌∷◌, Option, Some, None, refl, ◌∙◌, ap, subst, arith}
use Rattle.ft_base.specs.Scan.{len}
use Rattle.ft_tree_leaves.proofs.Runs.{len-append}
use Rattle.ft_op.specs.declared.operations.TextOp.{TextOp}
use Rattle.ft_op.specs.declared.operations.TextOp.TheVariants.{One, Group, IntervalAdd, IntervalChange, IntervalDelete}
use Rattle.ft_props.specs.Keys.{put_rising}
use Rattle.ft_props.specs.Properties.{apply}
use Rattle.ft_interval_store.specs.declared.intervals.EndPair.{EndPair}
use Rattle.ft_interval_store.specs.declared.intervals.Interval.{Interval}
use Rattle.ft_interval_store.specs.Ends.{both_ends, is_reference, no_ends}
use Rattle.ft_interval_store.specs.Intervals.{Name, after_operation, changed_interval, interval_cmp, interval_of, name_cmp, name_of, with_changed, without_name}
use Rattle.ft_interval_store.specs.State.{ends_of_intervals, ends_of_name, lost_ends, unused_ends}
use Rattle.ft_interval_store.proofs.RisingNames.{by_order}

module _ (r : ℕ) where
  abbrev times_of : EndPair ℕ → ℕ
  times_of e = len (is_reference r) (both_ends e)

  abbrev times_in : List (Interval ℕ) → ℕ
  times_in is = len (is_reference r) (ends_of_intervals is)

  times_first : (i : Interval ℕ) (is : List (Interval ℕ)) → times_in (i ∷ is) ≡ times_of i.ends + times_in is
  times_first i is = len-append (is_reference r) (both_ends i.ends) (ends_of_intervals is)

  times-put : (x : Interval ℕ) (ys : List (Interval ℕ)) → interval_of (name_of x) ys ≡ None
      → times_in (put_rising interval_cmp x ys) ≡ times_of x.ends + times_in ys
  times-put x [] h = times_first x []
  times-put x (y ∷ ys) h =
      by_order (name_cmp (name_of x) (name_of y))
      (λ e. (let put : put_rising interval_cmp x (y ∷ ys) ≡ x ∷ y ∷ ys = grind arith in ap (λ zs. times_in zs) put ∙ times_first x (y ∷ ys)))
      (λ e. (let there : interval_of (name_of x) (y ∷ ys) ≡ Some y = grind arith in absurd cc))
      (λ e. (let put : put_rising interval_cmp x (y ∷ ys) ≡ y ∷ put_rising interval_cmp x ys = grind arith in
      let rest : interval_of (name_of x) ys ≡ None = grind arith in
      let new = ap (λ zs. times_in zs) put ∙ times_first y (put_rising interval_cmp x ys) in
      let was = times_first y ys in
      let more = times-put x ys rest in
      omega (arith, new, was, more)))

  times-changed : (n : Name) (f : Interval ℕ → Interval ℕ) (ys : List (Interval ℕ)) (i : Interval ℕ) → interval_of n ys ≡ Some i
      → times_in (with_changed n f ys) + times_of i.ends ≡ times_of (f i).ends + times_in ys
  times-changed n f [] i h = absurd cc
  times-changed n f (y ∷ ys) i h =
      by_order (name_cmp n (name_of y))
      (λ e. (let none : interval_of n (y ∷ ys) ≡ None = grind arith in absurd cc))
      (λ e. (let there : interval_of n (y ∷ ys) ≡ Some y = grind arith in
      let is : y ≡ i = grind (arith, there) in
      let now : with_changed n f (y ∷ ys) ≡ f y ∷ ys = grind arith in
      let new = ap (λ zs. times_in zs) now ∙ times_first (f y) ys in
      let was = times_first y ys in
      subst (λ x. times_in (with_changed n f (y ∷ ys)) + times_of x.ends ≡ times_of (f x).ends + times_in (y ∷ ys)) is (omega (arith, new, was))))
      (λ e. (let rest : interval_of n ys ≡ Some i = grind (arith, h) in
      let now : with_changed n f (y ∷ ys) ≡ y ∷ with_changed n f ys = grind arith in
      let new = ap (λ zs. times_in zs) now ∙ times_first y (with_changed n f ys) in
      let was = times_first y ys in
      omega (arith, new, was, times-changed n f ys i rest)))

  times-without : (n : Name) (ys : List (Interval ℕ)) (i : Interval ℕ) → interval_of n ys ≡ Some i
      → times_in (without_name n ys) + times_of i.ends ≡ times_in ys
  times-without n [] i h = absurd cc
  times-without n (y ∷ ys) i h =
      by_order (name_cmp n (name_of y))
      (λ e. (let none : interval_of n (y ∷ ys) ≡ None = grind arith in absurd cc))
      (λ e. (let there : interval_of n (y ∷ ys) ≡ Some y = grind arith in
      let is : y ≡ i = grind (arith, there) in
      let now : without_name n (y ∷ ys) ≡ ys = grind arith in
      let new = ap (λ zs. times_in zs) now in
      let was = times_first y ys in
      subst (λ x. times_in (without_name n (y ∷ ys)) + times_of x.ends ≡ times_in (y ∷ ys)) is (omega (arith, new, was))))
      (λ e. (let rest : interval_of n ys ≡ Some i = grind (arith, h) in
      let now : without_name n (y ∷ ys) ≡ y ∷ without_name n ys = grind arith in
      let new = ap (λ zs. times_in zs) now ∙ times_first y (without_name n ys) in
      let was = times_first y ys in
      omega (arith, new, was, times-without n ys i rest)))

  changed-absent : (n : Name) (f : Interval ℕ → Interval ℕ) (ys : List (Interval ℕ)) → interval_of n ys ≡ None → with_changed n f ys ≡ ys
  changed-absent n f [] h = refl
  changed-absent n f (y ∷ ys) h =
      by_order (name_cmp n (name_of y)) (λ e. grind arith) (λ e. (let there : interval_of n (y ∷ ys) ≡ Some y = grind arith in absurd cc))
      (λ e. (let rest : interval_of n ys ≡ None = grind (arith, h) in grind (arith, changed-absent n f ys rest)))

  without-absent : (n : Name) (ys : List (Interval ℕ)) → interval_of n ys ≡ None → without_name n ys ≡ ys
  without-absent n [] h = refl
  without-absent n (y ∷ ys) h =
      by_order (name_cmp n (name_of y)) (λ e. grind arith) (λ e. (let there : interval_of n (y ∷ ys) ≡ Some y = grind arith in absurd cc))
      (λ e. (let rest : interval_of n ys ≡ None = grind (arith, h) in grind (arith, without-absent n ys rest)))

  none_none : times_of no_ends ≡ 0
  none_none = refl

  -- the ends of the interval of a name, where it is there or not
  ends-there : (n : Name) (is : List (Interval ℕ)) (i : Interval ℕ) → interval_of n is ≡ Some i → times_of (ends_of_name n is) ≡ times_of i.ends
  ends-there n is i h = ap (λ o. times_of (elim o as (λ _. EndPair ℕ) [ None ↦ no_ends | Some j ↦ j.ends ])) h

  ends-absent : (n : Name) (is : List (Interval ℕ)) → interval_of n is ≡ None → times_of (ends_of_name n is) ≡ 0
  ends-absent n is h = ap (λ o. times_of (elim o as (λ _. EndPair ℕ) [ None ↦ no_ends | Some j ↦ j.ends ])) h ∙ none_none

  spared_add : (x : Interval ℕ) (is : List (Interval ℕ)) (o : Option (Interval ℕ)) → interval_of (name_of x) is ≡ o
      → times_in (cond (is_some o) is (put_rising interval_cmp x is)) + (times_of (cond (is_some o) x.ends no_ends) + times_of no_ends)
      ≡ times_of x.ends + times_in is
  spared_add x is None h =
      let e : times_in (put_rising interval_cmp x is) + (times_of no_ends + times_of no_ends) ≡ times_of x.ends + times_in is = omega (arith, times-put x is h, none_none) in
      e
  spared_add x is (Some i) h = (let e : times_in is + (times_of x.ends + times_of no_ends) ≡ times_of x.ends + times_in is = omega (arith, none_none) in e)

  spared_change : (n : Name) (f : Interval ℕ → Interval ℕ) (ends : EndPair ℕ) (is : List (Interval ℕ))
      → ((i : Interval ℕ) → times_of (f i).ends ≡ times_of ends) → (o : Option (Interval ℕ)) → interval_of n is ≡ o
      → times_in (with_changed n f is) + (times_of (cond (is_some o) no_ends ends) + times_of (ends_of_name n is)) ≡ times_of ends + times_in is
  spared_change n f ends is new None h =
      let same : times_in (with_changed n f is) ≡ times_in is = ap (λ ys. times_in ys) (changed-absent n f is h) in
      let e : times_in (with_changed n f is) + (times_of ends + times_of (ends_of_name n is)) ≡ times_of ends + times_in is =
      omega (arith, same, ends-absent n is h) in
      e
  spared_change n f ends is new (Some i) h =
      let e : times_in (with_changed n f is) + (times_of no_ends + times_of (ends_of_name n is)) ≡ times_of ends + times_in is =
      omega (arith, times-changed n f is i h, new i, ends-there n is i h, none_none) in
      e

  spared_keep : (n : Name) (f : Interval ℕ → Interval ℕ) (is : List (Interval ℕ)) → ((i : Interval ℕ) → times_of (f i).ends ≡ times_of i.ends)
      → (o : Option (Interval ℕ)) → interval_of n is ≡ o → times_in (with_changed n f is) ≡ times_in is
  spared_keep n f is new None h = ap (λ ys. times_in ys) (changed-absent n f is h)
  spared_keep n f is new (Some i) h = omega (arith, times-changed n f is i h, new i)

  spared_delete : (n : Name) (is : List (Interval ℕ)) (o : Option (Interval ℕ)) → interval_of n is ≡ o
      → times_in (without_name n is) + times_of (ends_of_name n is) ≡ times_in is
  spared_delete n is None h =
      let same : times_in (without_name n is) ≡ times_in is = ap (λ ys. times_in ys) (without-absent n is h) in
      omega (arith, same, ends-absent n is h)
  spared_delete n is (Some i) h = omega (arith, times-without n is i h, ends-there n is i h)

  -- what intervals keep, what none takes and what one loses are together the ends of the operation and of the intervals
  pub spared : (op : TextOp) (ends : EndPair ℕ) (is : List (Interval ℕ))
      → times_in (after_operation op ends is) + (times_of (unused_ends op ends is) + times_of (lost_ends op is)) ≡ times_of ends + times_in is
  spared (One o) ends is = omega (arith, none_none)
  spared (Group o) ends is = omega (arith, none_none)
  spared (IntervalAdd label id given props) ends is =
      let x : Interval ℕ = record { label = label; id = id; ends = ends; props = apply [] props } in
      spared_add x is (interval_of (label, id) is) refl
  spared (IntervalChange label id None props) ends is =
      let same = spared_keep (label, id) (changed_interval None ends props) is (λ i. refl) (interval_of (label, id) is) refl in
      omega (arith, same, none_none)
  spared (IntervalChange label id (Some given) props) ends is =
      spared_change (label, id) (changed_interval (Some given) ends props) ends is (λ i. refl) (interval_of (label, id) is) refl
  spared (IntervalDelete label id) ends is = (let gone = spared_delete (label, id) is (interval_of (label, id) is) refl in omega (arith, gone))
