-- An operation whose ends are new references takes effect on the acknowledged intervals, beside pending operations.
use Rattle.std.proofs.Common.{◌≡◌, ℕ, ◌+◌, ◌≤◌, Bool, true, false, cond, List, [], ◌∷◌, ◌++◌, length, get_or, ◌<◌, Result, Ok, Err, Option, Some, None, IsSome, option_map, refl, sym, ◌∙◌, ap, subst, arith, true≢false}
use Rattle.std.specs.Prelude.{OnOk}
use Rattle.std.specs.List.{list_any, remove}
use Rattle.ft_base.specs.Scan.{len}
use Rattle.ft_tree_leaves.proofs.Runs.{len-append}
use Rattle.ft_tree_leaves.specs.declared.references.Reference.{Reference}
use Rattle.ft_tree_leaves.specs.Elements.{TreeElement}
use Rattle.ft_tree_leaves.specs.References.{reference_at}
use Rattle.ft_op.specs.declared.operations.TextOp.{TextOp}
use Rattle.ft_interval_store.specs.declared.intervals.EndPair.{EndPair}
use Rattle.ft_interval_store.specs.declared.intervals.Interval.{Interval}
use Rattle.ft_interval_store.specs.declared.pending.Operation.{Operation}
use Rattle.ft_interval_store.specs.Ends.{AreAddedEnds, References, both_ends, holds_end, is_reference, map_ends, places_of_ends, slid_end}
use Rattle.ft_interval_store.specs.Intervals.{after_operation}
use Rattle.ft_interval_store.specs.State.{AreKeptOnce, CollectionsState, HandsOn, IsFirst, IsInOrder, IsLive, IsMarked, KeepsReferences, ends_of_intervals, ends_of_operations, ends_with, keeps, placed, placed_intervals, first_operation, times_kept, with_effect, with_first_acked}
use Rattle.ft_interval_store.proofs.HandedOn.{held, no-times, none-there, one-there, some-times}
use Rattle.ft_interval_store.proofs.KeptEnds.{any_intervals, any_operations, intervals-same, operations-same}
use Rattle.ft_interval_store.proofs.TakenEffect.{effect-in_order, effect-live, effect-marked, effect-others, first-in_order, first-kept_once, first-references, first-stays, others-stay}

pub there : (o : Option Reference) → option_map (λ (x : Reference). x.acked) o ≡ Some false → IsSome o
there None h = absurd cc
there (Some x) h = refl

pub not-live : (o : Option Reference) → o ≡ None → IsSome o → ⊥
not-live o h s = true≢false (sym (subst (λ x. IsSome x) h s))

module _ (places : EndPair ℕ) (c : CollectionsState) (e : EndPair ℕ) (before mid : References) (live : IsLive before c)
    (added : AreAddedEnds places before mid e) where
  -- what was kept isn't new
  old-ends : (r : ℕ) → keeps r c ≡ true → holds_end r e ≡ false
  old-ends r h = by (holds_end r e) refl
    where
      by : (b : Bool) → holds_end r e ≡ b → b ≡ false
      by true f = absurd (not-live (reference_at before r) (added.fresh r f) (live r h))
      by false f = refl

  kept-stays : (r : ℕ) → keeps r c ≡ true → reference_at mid r ≡ reference_at before r
  kept-stays r h = added.others r (old-ends r h)

  new-ends : (r : ℕ) → holds_end r e ≡ true → keeps r c ≡ false
  new-ends r h = by (keeps r c) refl
    where
      by : (b : Bool) → keeps r c ≡ b → b ≡ false
      by true f = absurd (not-live (reference_at before r) (added.fresh r h) (live r f))
      by false f = refl

  counts : (r : ℕ) → times_kept r c ≡ len (is_reference r) (ends_of_intervals c.acked) + len (is_reference r) (ends_of_operations c.pending)
  counts r = len-append (is_reference r) (ends_of_intervals c.acked) (ends_of_operations c.pending)

  whole : (r : ℕ) → len (is_reference r) (ends_with e c.acked) ≡ len (is_reference r) (both_ends e) + len (is_reference r) (ends_of_intervals c.acked)
  whole r = len-append (is_reference r) (both_ends e) (ends_of_intervals c.acked)

  once-by : IsInOrder c → (r : ℕ) → (b : Bool) → holds_end r e ≡ b
      → len (is_reference r) (ends_with e c.acked) + len (is_reference r) (ends_of_operations c.pending) ≤ 1
  once-by o r true f =
      let none : times_kept r c ≡ 0 = no-times r (ends_of_intervals c.acked ++ ends_of_operations c.pending) (new-ends r f) in
      omega (arith, whole r, counts r, none, added.once r)
  once-by o r false f =
      let none = no-times r (both_ends e) (held r e ∙ f) in
      omega (arith, whole r, counts r, none, o.once r)

  pub applied-kept_once : IsInOrder c → AreKeptOnce mid e c.acked
  applied-kept_once o = record {
    live = λ r h. alive r h (holds_end r e) refl;
    once = λ r. (let all = once-by o r (holds_end r e) refl in omega (arith, all));
  }
    where
      alive : (r : ℕ) → list_any (is_reference r) (ends_with e c.acked) ≡ true → (b : Bool) → holds_end r e ≡ b → IsSome (reference_at mid r)
      alive r h true f = there (reference_at mid r) (added.pending r f)
      alive r h false f =
          let some = some-times r (ends_with e c.acked) h in
          let none = no-times r (both_ends e) (held r e ∙ f) in
          let in-acked = one-there r (ends_of_intervals c.acked) (omega (arith, whole r, some, none)) in
          let k = any_intervals r c in-acked in
          subst (λ x. IsSome x) (sym (kept-stays r k)) (live r k)

  module _ (now : List (Interval ℕ)) (after : References) (o : IsInOrder c) (hands : HandsOn e c.acked now mid after) where
    abbrev new : CollectionsState
    new = record { acked = now; pending = c.pending }

    once : (r : ℕ) → len (is_reference r) (ends_with e c.acked) + len (is_reference r) (ends_of_operations c.pending) ≤ 1
    once r = once-by o r (holds_end r e) refl

    pub applied-in_order : IsInOrder new
    applied-in_order = effect-in_order e c.acked now c.pending mid after once hands o.rising

    marked-mid : IsMarked before c → IsMarked mid c
    marked-mid m = record {
      acked = λ r h. ap (option_map (λ (x : Reference). x.acked)) (kept-stays r (any_intervals r c h)) ∙ m.acked r h;
      pending = λ r h. ap (option_map (λ (x : Reference). x.acked)) (kept-stays r (any_operations r c h)) ∙ m.pending r h;
    }

    pub applied-references : KeepsReferences c new before after
    applied-references = record {
      live = effect-live e c.acked now c.pending mid after once hands
          (λ r h. subst (λ x. IsSome x) (sym (kept-stays r (any_operations r c h))) (live r (any_operations r c h)));
      marked = λ m. effect-marked e c.acked now c.pending mid after once hands (marked-mid m);
      others = λ r h. left r h (keeps r c) (holds_end r e) refl refl;
    }
      where
        left : (r : ℕ) → keeps r new ≡ false → (a b : Bool) → keeps r c ≡ a → holds_end r e ≡ b → reference_at after r ≡ cond a None (reference_at before r)
        left r h true b f g =
            let some : 1 ≤ times_kept r c = some-times r (ends_of_intervals c.acked ++ ends_of_operations c.pending) f in
            let gone : times_kept r new ≡ 0 = no-times r (ends_of_intervals now ++ ends_of_operations c.pending) h in
            let split : times_kept r new ≡ len (is_reference r) (ends_of_intervals now) + len (is_reference r) (ends_of_operations c.pending) =
            len-append (is_reference r) (ends_of_intervals now) (ends_of_operations c.pending) in
            let any = one-there r (ends_with e c.acked) (omega (arith, some, gone, split, counts r, whole r)) in
            effect-others e c.acked now c.pending mid after hands r h ∙ ap (λ t. cond t None (reference_at mid r)) any
        left r h false true f g =
            let some = some-times r (both_ends e) (held r e ∙ g) in
            let any = one-there r (ends_with e c.acked) (omega (arith, some, whole r)) in
            effect-others e c.acked now c.pending mid after hands r h ∙ ap (λ t. cond t None (reference_at mid r)) any ∙ sym (added.fresh r g)
        left r h false false f g =
            let none : times_kept r c ≡ 0 = no-times r (ends_of_intervals c.acked ++ ends_of_operations c.pending) f in
            let free = no-times r (both_ends e) (held r e ∙ g) in
            let any = none-there r (ends_with e c.acked) (omega (arith, none, free, counts r, whole r)) in
            effect-others e c.acked now c.pending mid after hands r h ∙ ap (λ t. cond t None (reference_at mid r)) any ∙ added.others r g

    pub applied-places : {U : Type 0} (xs : List (TreeElement U)) (op : TextOp)
        → placed_intervals after now ≡ after_operation op (map_ends (slid_end xs) (places_of_ends mid e)) (placed_intervals mid c.acked)
        → placed after new ≡ with_effect op (map_ends (slid_end xs) places) (placed before c)
    applied-places xs op h =
        let acked = h ∙ ap (λ p. after_operation op (map_ends (slid_end xs) p) (placed_intervals mid c.acked)) added.places_are
        ∙ ap (λ ys. after_operation op (map_ends (slid_end xs) places) ys) (intervals-same before mid c.acked (λ r k. kept-stays r (any_intervals r c k))) in
        let pending = operations-same before after c.pending
        (λ r k. others-stay e c.acked now c.pending mid after once hands r k ∙ kept-stays r (any_operations r c k)) in
        λ i. record { acked = acked i; pending = pending i }

-- the same of the first pending operation
pub first-places : {U : Type 0} (xs : List (TreeElement U)) (is now : List (Interval ℕ)) (t : Operation) (ts : List Operation) (before after : References)
    → (let whole : CollectionsState = record { acked = is; pending = t ∷ ts } in
    let left : CollectionsState = record { acked = now; pending = ts } in
    IsInOrder whole → HandsOn t.ends is now before after
    → placed_intervals after now ≡ after_operation t.op (map_ends (slid_end xs) (places_of_ends before t.ends)) (placed_intervals before is)
    → placed after left ≡ with_first_acked (map_ends (slid_end xs)) (placed before whole))
first-places xs is now t ts before after o hands h =
    let pending = operations-same before after ts (first-stays is now t ts before after o hands) in
    λ i. record { acked = h i; pending = pending i }

-- of two facts after an answer
pub both-ok : {T E : Type 0} (r : Result T E) (P Q R : Type 0) → (P → Q → R) → OnOk r P → OnOk r Q → OnOk r R
both-ok (Ok x) P Q R f a b = f a b
both-ok (Err y) P Q R f a b = tt

-- the first operation, and those behind it
pub first-split : (ps : List Operation) (t d : Operation) (ts : List Operation) → 0 < length ps → t ≡ get_or ps 0 d → ts ≡ remove ps 0 → ps ≡ t ∷ ts
first-split [] t d ts l e f = absurd (omega (arith, l))
first-split (p ∷ ps) t d ts l e f = λ i. sym e i ∷ sym f i

-- where one is first, there is one
pub some-first : (k : ℕ) (is : List (Interval ℕ)) (ps : List Operation) → (let c : CollectionsState = record { acked = is; pending = ps } in IsFirst k c) → 0 < length ps
some-first k is [] h = absurd h
some-first k is (p ∷ ps) h = omega arith

-- the first operation of the pending ones takes effect, where `now` is the state with all of them
module _ (is : List (Interval ℕ)) (ps : List Operation) (t : Operation) (ts : List Operation) (split : ps ≡ t ∷ ts) (now : CollectionsState)
    (view : (let x : CollectionsState = record { acked = is; pending = ps } in x ≡ now))
    (order : (let x : CollectionsState = record { acked = is; pending = ps } in IsInOrder x)) (before : References) (live : IsLive before now) where
  abbrev with-first : CollectionsState
  with-first = record { acked = is; pending = t ∷ ts }

  is-now : with-first ≡ now
  is-now = ap (λ (us : List Operation). let x : CollectionsState = record { acked = is; pending = us } in x) (sym split) ∙ view

  first-order : IsInOrder with-first
  first-order = subst (λ (us : List Operation). let x : CollectionsState = record { acked = is; pending = us } in IsInOrder x) split order

  first-live : IsLive before with-first
  first-live = subst (λ x. IsLive before x) (sym is-now) live

  pub ack-kept : AreKeptOnce before t.ends is
  ack-kept = first-kept_once is is t ts before before first-order first-live

  pub ack-in_order : (new : List (Interval ℕ)) (after : References) → HandsOn t.ends is new before after
      → (let x : CollectionsState = record { acked = new; pending = ts } in IsInOrder x)
  ack-in_order new after hands = first-in_order is new t ts before after first-order hands

  pub ack-references : (new : List (Interval ℕ)) (after : References) → HandsOn t.ends is new before after
      → (let x : CollectionsState = record { acked = new; pending = ts } in KeepsReferences now x before after)
  ack-references new after hands =
      let x : CollectionsState = record { acked = new; pending = ts } in
      subst (λ y. KeepsReferences y x before after) is-now (first-references is new t ts before after first-order first-live hands)

  pub ack-places : {U : Type 0} (xs : List (TreeElement U)) (new : List (Interval ℕ)) (after : References) → HandsOn t.ends is new before after
      → placed_intervals after new ≡ after_operation t.op (map_ends (slid_end xs) (places_of_ends before t.ends)) (placed_intervals before is)
      → (let x : CollectionsState = record { acked = new; pending = ts } in placed after x ≡ with_first_acked (map_ends (slid_end xs)) (placed before now))
  ack-places xs new after hands places =
      first-places xs is new t ts before after first-order hands places ∙ ap (λ y. with_first_acked (map_ends (slid_end xs)) (placed before y)) is-now

  -- what was pending first is the operation
  pub ack-operation : first_operation now.pending ≡ Some t.op
  ack-operation = ap (λ (x : CollectionsState). first_operation x.pending) (sym is-now)
