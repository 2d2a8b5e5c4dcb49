-- Numbers as an operation has them, and new references at such numbers.
use Rattle.std.proofs.Common.{◌≡◌, ◌≢◌, ℕ, ℤ, ◌-◌, ◌<◌, ◌≤◌, Bool, true, false, ◌||◌, List, Option, Some, None, option_and_then, option_map, refl, sym, ◌∙◌, ap, subst, arith, true≢false}
use Rattle.std.proofs.lemmas.Bool.Decides.{nat_tests}
use Rattle.std.specs.Prelude.{IfSome}
use Rattle.std.specs.Option.{option_and}
use Rattle.ft_base.specs.Scan.{len, one_more_if}
use Rattle.ft_block.specs.declared.leaves.LenView.TheVariants.{Stage}
use Rattle.ft_tree_leaves.specs.declared.references.Reference.{Reference}
use Rattle.ft_tree_leaves.specs.Elements.{TreeElement, seen_in}
use Rattle.ft_tree_leaves.specs.Places.{place_at, seen_before}
use Rattle.ft_tree_leaves.specs.References.{reference_place, reference_at}
use Rattle.ft_op.specs.declared.operations.Ends.{Ends}
use Rattle.ft_op.specs.declared.operations.TextOp.TheVariants.{IntervalChange}
use Rattle.ft_props.specs.Keys.{Characters}
use Rattle.ft_props.specs.Properties.{PropertySet}
use Rattle.ft_interval_store.specs.declared.intervals.EndPair.{EndPair}
use Rattle.ft_interval_store.specs.Ends.{AreAddedEnds, IsAddedEnd, References, is_reference, place_of_end}
use Rattle.ft_interval_store.specs.Numbers.{AreNumbers, IsNumber, number_of, number_or_none}
use Rattle.ft_interval_store.specs.Shown.{carried_end, last, number_at, numbers_at, regenerated, settled_end, shown_end, shown_place}
use Rattle.ft_interval_store.proofs.AppliedEffect.{there}
use Rattle.ft_interval_store.proofs.KeptEnds.{live-ends, place-same}
use Rattle.ft_interval_store.proofs.Removals.{number-none, place-below, place-end, same-number, some-none}
use Rattle.ft_interval_store.proofs.SettledEnds.{settled-ok}

module _ {U : Type 0} (xs : List (TreeElement U)) (k : ℕ) where
  number-at : (end number : Option ℕ) → IsNumber xs k end number → number_or_none number ≡ number_at xs k end
  number-at None number n = ap number_or_none n.is
  number-at (Some i) number n = ap number_or_none n.is

  -- the same of the number itself
  pub number-shown : (end : Option ℕ) → number_or_none (number_of xs k end) ≡ number_at xs k end
  number-shown None = refl
  number-shown (Some i) = refl

  -- the numbers of both ends, as an operation has them
  pub numbers-at : (ends numbers : EndPair ℕ) → AreNumbers xs k ends numbers
      → (let as_ends : Ends = record { start = number_or_none numbers.start; end = number_or_none numbers.end } in as_ends ≡ numbers_at xs k ends)
  numbers-at ends numbers n =
      let first = number-at ends.start numbers.start n.start in
      let second = number-at ends.end numbers.end n.end in
      λ j. record { start = first j; end = second j }

  -- a change gets these ends where it has some
  pub changed-again : (ends : EndPair ℕ) (given : Option Ends) (label id : Characters) (props : PropertySet)
      → IntervalChange label id (option_and given (Some (numbers_at xs k ends))) props ≡ regenerated xs k ends (IntervalChange label id given props)
  changed-again ends None label id props = refl
  changed-again ends (Some g) label id props = refl

  -- the place at a number is the end
  pub place-of-number : (end number : Option ℕ) → IsNumber xs k end number → option_and_then (λ p. place_at (seen_in (Stage k)) p xs) number ≡ end
  place-of-number end None n = sym (number-none xs k end n)
  place-of-number end (Some p) n = place-end xs k p end n

  -- a number is one of an element that stage k sees
  pub number-within : (end number : Option ℕ) → IsNumber xs k end number → IfSome number (λ p. p < len (seen_in (Stage k)) xs)
  number-within end None n = tt
  number-within None (Some p) n = absurd (some-none p (number_of xs k None) n.is refl)
  number-within (Some i) (Some p) n =
      let seen = seen_in (Stage k) in
      subst (λ q. q < len seen xs) (sym (same-number p (seen_before seen xs i) n.is)) (place-below seen i xs (settled-ok seen i i xs n.seen))

-- the number that is shown of a reference
pub shown-number : {U : Type 0} (xs : List (TreeElement U)) (refs : References) (r : ℕ) (p : Option ℕ) (n : ℤ) → n ≡ number_or_none (number_of xs last p)
    → p ≡ carried_end xs 0 (last - 0) (settled_end xs 0 (reference_place refs r)) → n ≡ shown_place xs refs r
unfolding shown_end
shown-number xs refs r p n h e = h ∙ number-shown xs last p ∙ ap (number_at xs last) e

-- ---- new references, one for each end

-- what is known of one new end
module _ (place : Option ℕ) (old new : References) where
  added-place : (e : Option ℕ) → IsAddedEnd place old new e → place_of_end new e ≡ place
  added-place None h = sym h.0
  added-place (Some r) h = ap (option_and_then (λ (x : Reference). x.place)) h.1

  added-pending : (e : Option ℕ) → IsAddedEnd place old new e → (r : ℕ) → is_reference r e ≡ true
      → option_map (λ (x : Reference). x.acked) (reference_at new r) ≡ Some false
  added-pending None h r k = absurd cc
  added-pending (Some x) h r k =
      let same : x ≡ r = grind (arith, nat_tests, k) in
      ap (λ y. option_map (λ (z : Reference). z.acked) (reference_at new y)) (sym same) ∙ ap (option_map (λ (z : Reference). z.acked)) h.1

  added-fresh : (e : Option ℕ) → IsAddedEnd place old new e → (r : ℕ) → is_reference r e ≡ true → reference_at old r ≡ None
  added-fresh None h r k = absurd cc
  added-fresh (Some x) h r k =
      let same : x ≡ r = grind (arith, nat_tests, k) in
      ap (λ y. reference_at old y) (sym same) ∙ h.0

  added-others : (e : Option ℕ) → IsAddedEnd place old new e → (r : ℕ) → is_reference r e ≡ false → reference_at new r ≡ reference_at old r
  added-others None h r k = ap (λ refs. reference_at refs r) h.1
  added-others (Some x) h r k =
      let other : r ≢ x = grind (arith, nat_tests, k) in
      h.2 r other

-- two new ends, one after the other
module _ (first second : Option ℕ) (old mid new : References) (e : EndPair ℕ) (a : IsAddedEnd first old mid e.start)
    (b : IsAddedEnd second mid new e.end) where
  abbrev places : EndPair ℕ
  places = record { start = first; end = second }

  none-pending : (o : Option Reference) → o ≡ None → option_map (λ (x : Reference). x.acked) o ≡ Some false → ⊥
  none-pending None h k = absurd cc
  none-pending (Some x) h k = absurd cc

  -- the second isn't the first
  not-second : (r : ℕ) → is_reference r e.start ≡ true → is_reference r e.end ≡ false
  not-second r h = by (is_reference r e.end) refl
    where
      by : (t : Bool) → is_reference r e.end ≡ t → t ≡ false
      by true f = absurd (none-pending (reference_at mid r) (added-fresh second mid new e.end b r f) (added-pending first old mid e.start a r h))
      by false f = refl

  first-stays : (r : ℕ) → is_reference r e.start ≡ true → reference_at new r ≡ reference_at mid r
  first-stays r h = added-others second mid new e.end b r (not-second r h)

  first-place : place_of_end new e.start ≡ first
  first-place = place-same mid new e.start first-stays ∙ added-place first old mid e.start a

  second-place : place_of_end new e.end ≡ second
  second-place = added-place second mid new e.end b

  both-pending : (r : ℕ) (s t : Bool) → is_reference r e.start ≡ s → is_reference r e.end ≡ t → (s || t) ≡ true
      → option_map (λ (x : Reference). x.acked) (reference_at new r) ≡ Some false
  both-pending r true t f g h = ap (option_map (λ (x : Reference). x.acked)) (first-stays r f) ∙ added-pending first old mid e.start a r f
  both-pending r false true f g h = added-pending second mid new e.end b r g
  both-pending r false false f g h = absurd cc

  both-fresh : (r : ℕ) (s t : Bool) → is_reference r e.start ≡ s → is_reference r e.end ≡ t → (s || t) ≡ true → reference_at old r ≡ None
  both-fresh r true t f g h = added-fresh first old mid e.start a r f
  both-fresh r false true f g h = sym (added-others first old mid e.start a r f) ∙ added-fresh second mid new e.end b r g
  both-fresh r false false f g h = absurd cc

  both-others : (r : ℕ) (s t : Bool) → is_reference r e.start ≡ s → is_reference r e.end ≡ t → (s || t) ≡ false → reference_at new r ≡ reference_at old r
  both-others r true t f g h = absurd cc
  both-others r false true f g h = absurd cc
  both-others r false false f g h = added-others second mid new e.end b r g ∙ added-others first old mid e.start a r f

  both-once : (r : ℕ) (s t : Bool) → is_reference r e.start ≡ s → is_reference r e.end ≡ t → one_more_if s (one_more_if t 0) ≤ 1
  both-once r true true f g = absurd (true≢false (sym g ∙ not-second r f))
  both-once r true false f g = omega arith
  both-once r false true f g = omega arith
  both-once r false false f g = omega arith

  pub both-added : AreAddedEnds places old new e
  both-added = record {
    places_are = λ i. record { start = first-place i; end = second-place i };
    live = live-ends new e (λ r h. there (reference_at new r) (both-pending r (is_reference r e.start) (is_reference r e.end) refl refl h));
    once = λ r. both-once r (is_reference r e.start) (is_reference r e.end) refl refl;
    pending = λ r h. both-pending r (is_reference r e.start) (is_reference r e.end) refl refl h;
    fresh = λ r h. both-fresh r (is_reference r e.start) (is_reference r e.end) refl refl h;
    others = λ r h. both-others r (is_reference r e.start) (is_reference r e.end) refl refl h;
  }

-- the same at numbers
module _ {U : Type 0} (xs ys : List (TreeElement U)) (k : ℕ) where
  pub numbers-added : (ends numbers e : EndPair ℕ) (old mid new : References) → ys ≡ xs → AreNumbers xs k ends numbers
      → IsAddedEnd (option_and_then (λ p. place_at (seen_in (Stage k)) p xs) numbers.start) old mid e.start
      → IsAddedEnd (option_and_then (λ p. place_at (seen_in (Stage k)) p ys) numbers.end) mid new e.end
      → AreAddedEnds ends old new e
  numbers-added ends numbers e old mid new same n a b =
      let again = ap (λ (zs : List (TreeElement U)). option_and_then (λ p. place_at (seen_in (Stage k)) p zs) numbers.end) same in
      let first = subst (λ o. IsAddedEnd o old mid e.start) (place-of-number xs k ends.start numbers.start n.start) a in
      let second = subst (λ o. IsAddedEnd o mid new e.end) (again ∙ place-of-number xs k ends.end numbers.end n.end) b in
      both-added ends.start ends.end old mid new e first second
