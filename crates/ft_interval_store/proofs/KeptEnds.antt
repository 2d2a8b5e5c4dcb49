-- The references that collections keep, and the places of their ends.
use Rattle.std.proofs.Common.{◌≡◌, ℕ, ◌+◌, ◌<◌, ◌≤◌, Bool, true, false, cond, ◌||◌, nat_eq, List, [], ◌∷◌, ◌++◌, All, Option, Some, None, IsSome, option_and_then, option_map, true≢false, refl, sym, ◌∙◌, ap, subst, arith}
use Rattle.std.specs.List.{list_any}
use Rattle.std.proofs.lemmas.Bool.Decides.{nat_tests}
use Rattle.std.proofs.lemmas.List.Folds.{list_any-append}
use Rattle.std.proofs.lemmas.List.Elements.{All-cons, All-head, All-nil, All-tail}
use Rattle.std.proofs.lemmas.Grind.{flat_map-append}
use Rattle.ft_base.specs.Scan.{len, one_more_if}
use Rattle.ft_tree_leaves.proofs.Runs.{len-append}
use Rattle.ft_tree_leaves.specs.declared.references.Reference.{Reference}
use Rattle.ft_tree_leaves.specs.References.{reference_at}
use Rattle.ft_interval_store.specs.declared.intervals.EndPair.{EndPair}
use Rattle.ft_interval_store.specs.declared.intervals.Interval.{Interval}
use Rattle.ft_interval_store.specs.declared.pending.Operation.{Operation}
use Rattle.ft_interval_store.specs.Ends.{AreAddedEnds, IsLiveEnd, AreLiveEnds, References, both_ends, holds_end, is_reference, place_of_end, places_of_ends}
use Rattle.ft_interval_store.specs.Intervals.{Name, interval_of, name_cmp, name_of}
use Rattle.std.specs.declared.cmp.Ordering.{Ordering}
use Rattle.std.specs.declared.cmp.Ordering.TheVariants.{Less, Equal, Greater}
use Rattle.ft_interval_store.specs.State.{AreLiveIntervals, AreLiveOperations, CollectionsState, IsAboveAll, IsInOrder, IsLive, IsMarked, KeepsReferences, StagesRise, ends_of_intervals, ends_of_operations, is_acknowledged, keeps, kept_ends, placed, placed_intervals, placed_operations, times_kept}

same : (r : ℕ) → nat_eq r r ≡ true
same r = grind (arith, nat_tests)

left : (a b : Bool) → a ≡ true → (a || b) ≡ true
left true b h = refl
left false b h = absurd cc

right : (a b : Bool) → b ≡ true → (a || b) ≡ true
right true b h = refl
right false b h = h

-- the places of ends whose references stay
pub place-same : (refs now : References) (e : Option ℕ) → ((r : ℕ) → is_reference r e ≡ true → reference_at now r ≡ reference_at refs r)
    → place_of_end now e ≡ place_of_end refs e
place-same refs now None h = refl
place-same refs now (Some r) h = ap (option_and_then (λ (x : Reference). x.place)) (h r (same r))

pub ends-same : (refs now : References) (e : EndPair ℕ) → ((r : ℕ) → holds_end r e ≡ true → reference_at now r ≡ reference_at refs r)
    → places_of_ends now e ≡ places_of_ends refs e
ends-same refs now e h =
    let first = place-same refs now e.start (λ r k. h r (left (is_reference r e.start) (is_reference r e.end) k)) in
    let second = place-same refs now e.end (λ r k. h r (right (is_reference r e.start) (is_reference r e.end) k)) in
    λ i. record { start = first i; end = second i }

front : (a b c : Bool) → (a || b) ≡ true → (a || (b || c)) ≡ true
front true b c h = refl
front false true c h = refl
front false false c h = absurd cc

behind : (a b c : Bool) → c ≡ true → (a || (b || c)) ≡ true
behind true b c h = refl
behind false true c h = refl
behind false false c h = h

pub intervals-same : (refs now : References) (is : List (Interval ℕ))
    → ((r : ℕ) → list_any (is_reference r) (ends_of_intervals is) ≡ true → reference_at now r ≡ reference_at refs r)
    → placed_intervals now is ≡ placed_intervals refs is
intervals-same refs now [] h = refl
intervals-same refs now (i ∷ is) h =
    let any = λ (r : ℕ). list_any (is_reference r) (ends_of_intervals is) in
    let here = ends-same refs now i.ends (λ r k. h r (front (is_reference r i.ends.start) (is_reference r i.ends.end) (any r) k)) in
    let rest = intervals-same refs now is (λ r k. h r (behind (is_reference r i.ends.start) (is_reference r i.ends.end) (any r) k)) in
    λ j. record i { ends = here j } ∷ rest j

pub operations-same : (refs now : References) (ts : List Operation)
    → ((r : ℕ) → list_any (is_reference r) (ends_of_operations ts) ≡ true → reference_at now r ≡ reference_at refs r)
    → placed_operations now ts ≡ placed_operations refs ts
operations-same refs now [] h = refl
operations-same refs now (t ∷ ts) h =
    let any = λ (r : ℕ). list_any (is_reference r) (ends_of_operations ts) in
    let here = ends-same refs now t.ends (λ r k. h r (front (is_reference r t.ends.start) (is_reference r t.ends.end) (any r) k)) in
    let rest = operations-same refs now ts (λ r k. h r (behind (is_reference r t.ends.start) (is_reference r t.ends.end) (any r) k)) in
    λ j. record t { ends = here j } ∷ rest j

-- ---- all live, one by one

live-end : (refs : References) (e : Option ℕ) → ((r : ℕ) → is_reference r e ≡ true → IsSome (reference_at refs r)) → IsLiveEnd refs e
live-end refs None h = tt
live-end refs (Some r) h = h r (same r)

pub live-ends : (refs : References) (e : EndPair ℕ) → ((r : ℕ) → holds_end r e ≡ true → IsSome (reference_at refs r)) → AreLiveEnds refs e
live-ends refs e h = (
  live-end refs e.start (λ r k. h r (left (is_reference r e.start) (is_reference r e.end) k)),
  live-end refs e.end (λ r k. h r (right (is_reference r e.start) (is_reference r e.end) k)),
)

pub any_intervals : (r : ℕ) (c : CollectionsState) → list_any (is_reference r) (ends_of_intervals c.acked) ≡ true → keeps r c ≡ true
any_intervals r c h = list_any-append (is_reference r) (ends_of_intervals c.acked) (ends_of_operations c.pending)
    ∙ left (list_any (is_reference r) (ends_of_intervals c.acked)) (list_any (is_reference r) (ends_of_operations c.pending)) h

pub any_operations : (r : ℕ) (c : CollectionsState) → list_any (is_reference r) (ends_of_operations c.pending) ≡ true → keeps r c ≡ true
any_operations r c h = list_any-append (is_reference r) (ends_of_intervals c.acked) (ends_of_operations c.pending)
    ∙ right (list_any (is_reference r) (ends_of_intervals c.acked)) (list_any (is_reference r) (ends_of_operations c.pending)) h

all_intervals : (refs : References) (is : List (Interval ℕ))
    → ((r : ℕ) → list_any (is_reference r) (ends_of_intervals is) ≡ true → IsSome (reference_at refs r))
    → AreLiveIntervals refs is
all_intervals refs [] h = All-nil (λ (i : Interval ℕ). AreLiveEnds refs i.ends)
all_intervals refs (i ∷ is) h =
    let any = λ (r : ℕ). list_any (is_reference r) (ends_of_intervals is) in
    All-cons (λ (j : Interval ℕ). AreLiveEnds refs j.ends) i is
    (live-ends refs i.ends (λ r k. h r (front (is_reference r i.ends.start) (is_reference r i.ends.end) (any r) k)))
    (all_intervals refs is (λ r k. h r (behind (is_reference r i.ends.start) (is_reference r i.ends.end) (any r) k)))

all_operations : (refs : References) (ts : List Operation) → ((r : ℕ) → list_any (is_reference r) (ends_of_operations ts) ≡ true → IsSome (reference_at refs r))
    → AreLiveOperations refs ts
all_operations refs [] h = All-nil (λ (t : Operation). AreLiveEnds refs t.ends)
all_operations refs (t ∷ ts) h =
    let any = λ (r : ℕ). list_any (is_reference r) (ends_of_operations ts) in
    All-cons (λ (x : Operation). AreLiveEnds refs x.ends) t ts
    (live-ends refs t.ends (λ r k. h r (front (is_reference r t.ends.start) (is_reference r t.ends.end) (any r) k)))
    (all_operations refs ts (λ r k. h r (behind (is_reference r t.ends.start) (is_reference r t.ends.end) (any r) k)))

pub live-intervals : (refs : References) (c : CollectionsState) → IsLive refs c → AreLiveIntervals refs c.acked
live-intervals refs c h = all_intervals refs c.acked (λ r k. h r (any_intervals r c k))

pub live-operations : (refs : References) (c : CollectionsState) → IsLive refs c → AreLiveOperations refs c.pending
live-operations refs c h = all_operations refs c.pending (λ r k. h r (any_operations r c k))

-- the interval of a name has live ends where all have
pub live-named : (refs : References) (n : Name) (is : List (Interval ℕ)) (i : Interval ℕ) → AreLiveIntervals refs is → interval_of n is ≡ Some i
    → AreLiveEnds refs i.ends
live-named refs n [] i all h = absurd cc
live-named refs n (x ∷ is) i all h =
    let P : Interval ℕ → Type 0 = λ j. AreLiveEnds refs j.ends in
    step (name_cmp n (name_of x)) h (All-head P x is all) (λ k. live-named refs n is i (All-tail P x is all) k)
  where
    step : (o : Ordering) → (elim o [ Less ↦ None | Equal ↦ Some x | Greater ↦ interval_of n is ]) ≡ Some i
        → AreLiveEnds refs x.ends → (interval_of n is ≡ Some i → AreLiveEnds refs i.ends) → AreLiveEnds refs i.ends
    step Less k a f = absurd cc
    step Equal k a f = let e : x ≡ i = cc in subst (λ (y : Interval ℕ). AreLiveEnds refs y.ends) e a
    step Greater k a f = f k

-- ---- an operation more

module _ (c : CollectionsState) (t : Operation) where
  abbrev pub pushed : CollectionsState
  pushed = record c { pending = c.pending ++ t ∷ [] }

  ends_pushed : ends_of_operations (c.pending ++ t ∷ []) ≡ ends_of_operations c.pending ++ both_ends t.ends
  ends_pushed = flat_map-append (λ (x : Operation). both_ends x.ends) c.pending (t ∷ [])

  any_pushed : (r : ℕ) → list_any (is_reference r) (ends_of_operations pushed.pending)
      ≡ (list_any (is_reference r) (ends_of_operations c.pending) || list_any (is_reference r) (both_ends t.ends))
  any_pushed r = ap (λ es. list_any (is_reference r) es) ends_pushed ∙ list_any-append (is_reference r) (ends_of_operations c.pending) (both_ends t.ends)

  any_ends : (r : ℕ) → list_any (is_reference r) (both_ends t.ends) ≡ holds_end r t.ends
  any_ends r = or_false (is_reference r t.ends.start) (is_reference r t.ends.end)
    where
      or_false : (a b : Bool) → (a || (b || false)) ≡ (a || b)
      or_false true b = refl
      or_false false true = refl
      or_false false false = refl

  regroup : (a b d : Bool) → (a || (b || d)) ≡ ((a || b) || d)
  regroup true b d = refl
  regroup false b d = refl

  pub keeps-pushed : (r : ℕ) → keeps r pushed ≡ (keeps r c || holds_end r t.ends)
  keeps-pushed r =
      let p = is_reference r in
      let a = ends_of_intervals c.acked in
      let b = ends_of_operations c.pending in
      list_any-append p a (ends_of_operations pushed.pending) ∙ ap (λ x. list_any p a || x) (any_pushed r ∙ ap (λ x. list_any p b || x) (any_ends r))
      ∙ regroup (list_any p a) (list_any p b) (holds_end r t.ends) ∙ ap (λ x. x || holds_end r t.ends) (sym (list_any-append p a b))

  times_pushed : (r : ℕ) → times_kept r pushed ≡ times_kept r c + len (is_reference r) (both_ends t.ends)
  times_pushed r =
      let p = is_reference r in
      let a = ends_of_intervals c.acked in
      let b = ends_of_operations c.pending in
      let new = ap (λ es. len p es) ends_pushed ∙ len-append p b (both_ends t.ends) in
      let all = len-append p a (ends_of_operations pushed.pending) in
      let old = len-append p a b in
      omega (arith, new, all, old)

  rise-push : (k : ℕ) (ts : List Operation) → StagesRise k ts → k < t.stage → All (λ x. x.stage < t.stage) ts → StagesRise k (ts ++ t ∷ [])
  rise-push k [] r l h = (l, tt)
  rise-push k (x ∷ ts) r l h = (r.0, rise-push x.stage ts r.1 (All-head (λ (y : Operation). y.stage < t.stage) x ts h) (All-tail (λ (y : Operation). y.stage < t.stage) x ts h))

len-none : (r : ℕ) (es : List (Option ℕ)) → list_any (is_reference r) es ≡ false → len (is_reference r) es ≡ 0
len-none r [] h = refl
len-none r (e ∷ es) h = step (is_reference r e) h (len-none r es)
  where
    step : (b : Bool) → (b || list_any (is_reference r) es) ≡ false → (list_any (is_reference r) es ≡ false → len (is_reference r) es ≡ 0)
        → one_more_if b (len (is_reference r) es) ≡ 0
    step true h f = absurd cc
    step false h f = f h

not_live : (o : Option Reference) → o ≡ None → IsSome o → ⊥
not_live o h s = true≢false (sym (subst (λ x. IsSome x) h s))

-- what is added is in order
pub pushed-in_order : (places : EndPair ℕ) (c : CollectionsState) (t : Operation) (before after : References) → IsInOrder c → IsLive before c
    → AreAddedEnds places before after t.ends → 1 ≤ t.stage → IsAboveAll t.stage c → IsInOrder (pushed c t)
pushed-in_order places c t before after o live added some above = record {
  once = λ r. once r (holds_end r t.ends) refl;
  rising = rise-push c t 0 c.pending o.rising (omega arith) above;
}
  where
    fresh : (r : ℕ) → holds_end r t.ends ≡ true → (b : Bool) → keeps r c ≡ b → b ≡ false
    fresh r h false e = refl
    fresh r h true e = absurd (not_live (reference_at before r) (added.fresh r h) (live r e))

    once : (r : ℕ) (b : Bool) → holds_end r t.ends ≡ b → times_kept r (pushed c t) ≤ 1
    once r true h =
        let none : times_kept r c ≡ 0 = len-none r (kept_ends c) (fresh r h (keeps r c) refl) in
        omega (arith, times_pushed c t r, none, added.once r)
    once r false h =
        let none : len (is_reference r) (both_ends t.ends) ≡ 0 = len-none r (both_ends t.ends) (any_ends c t r ∙ h) in
        omega (arith, times_pushed c t r, none, o.once r)

-- and the references are kept
pub pushed-references : (places : EndPair ℕ) (c : CollectionsState) (t : Operation) (before after : References) → IsLive before c
    → AreAddedEnds places before after t.ends → KeepsReferences c (pushed c t) before after
pushed-references places c t before after live added = record {
  live = λ r h. alive r h (holds_end r t.ends) refl;
  marked = λ m. record {
    acked = λ r h. ap (option_map (λ (x : Reference). x.acked)) (stays r (any_intervals r c h)) ∙ m.acked r h;
    pending = λ r h. by m r h (holds_end r t.ends) refl;
  };
  others = λ r h. rest r (keeps r c) (holds_end r t.ends) refl refl (sym (keeps-pushed c t r) ∙ h);
}
  where
    -- what was kept isn't new
    old : (r : ℕ) → keeps r c ≡ true → (b : Bool) → holds_end r t.ends ≡ b → b ≡ false
    old r h false e = refl
    old r h true e = absurd (not_live (reference_at before r) (added.fresh r e) (live r h))

    stays : (r : ℕ) → keeps r c ≡ true → reference_at after r ≡ reference_at before r
    stays r h = added.others r (old r h (holds_end r t.ends) refl)

    there : (o : Option Reference) → option_map (λ (x : Reference). x.acked) o ≡ Some false → IsSome o
    there None h = absurd cc
    there (Some x) h = refl

    or_left : (a b : Bool) → (a || b) ≡ true → b ≡ false → a ≡ true
    or_left true b h n = refl
    or_left false b h n = absurd cc

    alive : (r : ℕ) → keeps r (pushed c t) ≡ true → (b : Bool) → holds_end r t.ends ≡ b → IsSome (reference_at after r)
    alive r h true e = there (reference_at after r) (added.pending r e)
    alive r h false e =
        subst (λ x. IsSome x) (sym (added.others r e)) (live r (or_left (keeps r c) (holds_end r t.ends) (sym (keeps-pushed c t r) ∙ h) e))

    by : IsMarked before c → (r : ℕ) → list_any (is_reference r) (ends_of_operations (pushed c t).pending) ≡ true → (b : Bool) → holds_end r t.ends ≡ b
        → is_acknowledged after r ≡ Some false
    by m r h true e = added.pending r e
    by m r h false e =
        let was : list_any (is_reference r) (ends_of_operations c.pending) ≡ true =
        or_left (list_any (is_reference r) (ends_of_operations c.pending)) (list_any (is_reference r) (both_ends t.ends)) (sym (any_pushed c t r) ∙ h) (any_ends c t r ∙ e) in
        ap (option_map (λ (x : Reference). x.acked)) (added.others r e) ∙ m.pending r was

    rest : (r : ℕ) (a b : Bool) → keeps r c ≡ a → holds_end r t.ends ≡ b → (keeps r c || holds_end r t.ends) ≡ false
        → reference_at after r ≡ cond a None (reference_at before r)
    rest r true b e f h = absurd cc
    rest r false true e f h = absurd cc
    rest r false false e f h = added.others r f

-- and so are the places
pub pushed-places : (places : EndPair ℕ) (c : CollectionsState) (t : Operation) (before after : References) → IsLive before c
    → AreAddedEnds places before after t.ends
    → placed after (pushed c t) ≡ record (placed before c) { pending = placed_operations before c.pending ++ (record t { ends = places }) ∷ [] }
pushed-places places c t before after live added =
    let acked = intervals-same before after c.acked (λ r h. stays r (any_intervals r c h)) in
    let pending = operations-same before after c.pending (λ r h. stays r (any_operations r c h)) in
    let new : List Operation = record t { ends = places } ∷ [] in
    let all : placed_operations after (c.pending ++ t ∷ []) ≡ placed_operations before c.pending ++ new =
    split c.pending ∙ (λ i. pending i ++ (record t { ends = added.places_are i }) ∷ []) in
    λ i. record { acked = acked i; pending = all i }
  where
    old : (r : ℕ) → keeps r c ≡ true → (b : Bool) → holds_end r t.ends ≡ b → b ≡ false
    old r h false e = refl
    old r h true e = absurd (not_live (reference_at before r) (added.fresh r e) (live r h))

    stays : (r : ℕ) → keeps r c ≡ true → reference_at after r ≡ reference_at before r
    stays r h = added.others r (old r h (holds_end r t.ends) refl)

    split : (ts : List Operation) → placed_operations after (ts ++ t ∷ []) ≡ placed_operations after ts ++ placed_operations after (t ∷ [])
    split [] = refl
    split (x ∷ ts) = λ i. (record x { ends = places_of_ends after x.ends }) ∷ split ts i
