-- No two intervals start at one reference where none is kept twice.
use Rattle.std.proofs.Common.{◌≡◌, ℕ, ◌+◌, ◌≤◌, true, List, [], ◌∷◌, Option, Some, None, refl, sym, ◌∙◌, ap, arith}
use Rattle.std.proofs.lemmas.Bool.{eq-eqb}
use Rattle.ft_base.specs.Scan.{len, one_more_if}
use Rattle.ft_tree_leaves.proofs.Runs.{len-append}
use Rattle.ft_interval_store.specs.declared.intervals.EndPair.{EndPair}
use Rattle.ft_interval_store.specs.declared.intervals.Interval.{Interval}
use Rattle.ft_interval_store.specs.Ends.{both_ends, is_reference, no_ends}
use Rattle.ft_interval_store.specs.Intervals.{Name, interval_of, name_cmp, name_of}
use Rattle.ft_interval_store.specs.State.{CollectionsState, IsInOrder, ends_of_intervals, ends_of_name, ends_of_operations, times_kept}
use Rattle.ft_interval_store.proofs.RisingLists.{at-equal, at-greater, at-less}
use Rattle.ft_interval_store.proofs.RisingNames.{by_order, same_from_name_cmp}

self : (s : ℕ) (o : Option ℕ) → o ≡ Some s → is_reference s o ≡ true
self s o h = ap (is_reference s) h ∙ eq-eqb s s refl

-- an interval of the list that starts at a reference keeps it once at least
start-kept : (n : Name) (is : List (Interval ℕ)) (i : Interval ℕ) (s : ℕ) → interval_of n is ≡ Some i → i.ends.start ≡ Some s
    → 1 ≤ len (is_reference s) (ends_of_intervals is)
start-kept n [] i s h e = (let never : None ≡ Some i = h in absurd (cc))
start-kept n (x ∷ is) i s h e =
    let both = len-append (is_reference s) (both_ends x.ends) (ends_of_intervals is) in
    by_order (name_cmp n (name_of x))
    (λ o. (let never : None ≡ Some i = sym (at-less n x is o) ∙ h in absurd (cc)))
    (λ o. (let same : Some x ≡ Some i = sym (at-equal n x is o) ∙ h in let is_x : x ≡ i = (cc) in
    let here : is_reference s x.ends.start ≡ true = self s x.ends.start (ap (λ (z : Interval ℕ). z.ends.start) is_x ∙ e) in
    let one : len (is_reference s) (both_ends x.ends) ≡ one_more_if true (len (is_reference s) (x.ends.end ∷ [])) =
    ap (λ b. one_more_if b (len (is_reference s) (x.ends.end ∷ []))) here in
    omega (arith, both, one)))
    (λ o. (let more = start-kept n is i s (sym (at-greater n x is o) ∙ h) e in omega (arith, both, more)))

-- the same of both ends of the first one
first-kept : (x : Interval ℕ) (s : ℕ) → x.ends.start ≡ Some s → 1 ≤ len (is_reference s) (both_ends x.ends)
first-kept x s e =
    let one : len (is_reference s) (both_ends x.ends) ≡ one_more_if true (len (is_reference s) (x.ends.end ∷ [])) =
    ap (λ b. one_more_if b (len (is_reference s) (x.ends.end ∷ []))) (self s x.ends.start e) in
    omega (arith, one)

one-name : (n m : Name) (is : List (Interval ℕ)) (i j : Interval ℕ) (s : ℕ) → len (is_reference s) (ends_of_intervals is) ≤ 1
    → interval_of n is ≡ Some i → i.ends.start ≡ Some s → interval_of m is ≡ Some j → j.ends.start ≡ Some s → n ≡ m
one-name n m [] i j s o h e k f = (let never : None ≡ Some i = h in absurd (cc))
one-name n m (x ∷ is) i j s o h e k f =
    let both = len-append (is_reference s) (both_ends x.ends) (ends_of_intervals is) in
    by_order (name_cmp n (name_of x))
    (λ a. (let never : None ≡ Some i = sym (at-less n x is a) ∙ h in absurd (cc)))
    (λ a. (let same : Some x ≡ Some i = sym (at-equal n x is a) ∙ h in let is_x : x ≡ i = (cc) in
    let here = first-kept x s (ap (λ (z : Interval ℕ). z.ends.start) is_x ∙ e) in
    by_order (name_cmp m (name_of x))
    (λ b. (let never : None ≡ Some j = sym (at-less m x is b) ∙ k in absurd (cc)))
    (λ b. same_from_name_cmp n (name_of x) a ∙ sym (same_from_name_cmp m (name_of x) b))
    (λ b. (let more = start-kept m is j s (sym (at-greater m x is b) ∙ k) f in absurd (omega (arith, both, here, more, o))))))
    (λ a. (let here = start-kept n is i s (sym (at-greater n x is a) ∙ h) e in
    by_order (name_cmp m (name_of x))
    (λ b. (let never : None ≡ Some j = sym (at-less m x is b) ∙ k in absurd (cc)))
    (λ b. (let same : Some x ≡ Some j = sym (at-equal m x is b) ∙ k in let is_x : x ≡ j = (cc) in
    let more = first-kept x s (ap (λ (z : Interval ℕ). z.ends.start) is_x ∙ f) in absurd (omega (arith, both, here, more, o))))
    (λ b. one-name n m is i j s (omega (arith, both, o)) (sym (at-greater n x is a) ∙ h) e (sym (at-greater m x is b) ∙ k) f)))

-- an interval that has a start is there
pub record HasStart (is : List (Interval ℕ)) (n : Name) (s : ℕ) : Type 0 where
  pub interval : Interval ℕ
  pub there : interval_of n is ≡ Some interval
  pub start : interval.ends.start ≡ Some s

pub has-start : (is : List (Interval ℕ)) (n : Name) (s : ℕ) → (ends_of_name n is).start ≡ Some s → HasStart is n s
has-start is n s h = by (interval_of n is) refl h
  where
    by : (o : Option (Interval ℕ)) → interval_of n is ≡ o → (elim o as (λ _. EndPair ℕ) [ None ↦ no_ends | Some i ↦ i.ends ]).start ≡ Some s → HasStart is n s
    by None e g = (let never : None ≡ Some s = g in absurd (cc))
    by (Some i) e g = record { interval = i; there = e; start = g }

pub starts-once : (c : CollectionsState) → IsInOrder c → (n m : Name) (s : ℕ) → (ends_of_name n c.acked).start ≡ Some s
    → (ends_of_name m c.acked).start ≡ Some s → n ≡ m
starts-once c o n m s h k =
    let a = has-start c.acked n s h in
    let b = has-start c.acked m s k in
    let all : times_kept s c ≡ len (is_reference s) (ends_of_intervals c.acked) + len (is_reference s) (ends_of_operations c.pending) =
    len-append (is_reference s) (ends_of_intervals c.acked) (ends_of_operations c.pending) in
    one-name n m c.acked a.interval b.interval s (let once = o.once s in omega (arith, all, once)) a.there a.start b.there b.start
