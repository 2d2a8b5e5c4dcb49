-- The ends of intervals: references of a tree here, names of elements there.
use Rattle.std.proofs.Common.{◌≡◌, ℕ, Bool, true, false, cond, ◌&&◌, ◌||◌, nat_eq, List, [], ◌∷◌, Option, Some, None, refl, ◌∙◌, ap, arith, map, option_map, option_and_then}
use Rattle.std.proofs.lemmas.Bool.{or_left, or_right}
use Rattle.std.specs.List.{list_any}
use Rattle.std.proofs.lemmas.Bool.Decides.{nat_tests}
use Rattle.ft_base.specs.Visibility.{is_acked}
use Rattle.ft_base.specs.declared.stamps.Stamp.{Stamp}
use Rattle.ft_base.specs.declared.stamps.Stamp.TheVariants.{Acked, Local}
use Rattle.ft_interval_store.specs.declared.intervals.Interval.{Interval}
use Rattle.ft_interval_store.specs.Ends.{References, is_reference, place_of_end, places_of_ends, slid_end}
use Rattle.ft_interval_store.specs.State.{ends_of_intervals, is_acknowledged, placed_intervals, with_mapped_ends}
use Rattle.ft_tree_leaves.specs.declared.references.Reference.{Reference}
use Rattle.ft_tree_leaves.specs.Edits.{with_place}
use Rattle.ft_tree_leaves.specs.Elements.{TreeElement}
use Rattle.ft_tree_leaves.specs.Elements.{is_unremoved as tree_unremoved}
use Rattle.ft_tree_leaves.specs.References.{ChangesReferences, reference_at, slid_reference}
use Rattle.ft_props.specs.Element.{ElementId, ElementContent, ListElement, PendingId, SequencedId, has_id, id, is_sequenced, is_unremoved}
use Rattle.ft_props.specs.Slide.{slide}
use Rattle.ft_base.specs.Scan.{settled_after}
use Rattle.ft_op.specs.Intervals.{Interval as NamedInterval}
use Rattle.ft_msg.specs.Indexed.{IndexedInterval, indexed_interval, place_in_list}
use Rattle.ft_laws_agreement.proofs.SlidEnds.{Once}
use Rattle.ft_laws_names.specs.WellNamed.{AreSettledIn, IsSettledIn}
use Rattle.ft_laws_names.proofs.Beside.{Beside, ends, next}
use Rattle.ft_string.specs.State.{interval_with_places}
use Rattle.ft_named.proofs.Bares.{AreElements, IsElement, unremoved-alike}
use Rattle.ft_named.proofs.Placed.{place-settled}

-- the end is on the same place as the name, or both are detached
abbrev pub SameEnd : References → List ListElement → Option ℕ → Option ElementId → Type 0
SameEnd refs es r o = place_of_end refs r ≡ place_in_list es o

-- an interval with the same label, id, properties and ends
abbrev pub SameInterval : References → List ListElement → Interval ℕ → NamedInterval → Type 0
SameInterval refs es i d = interval_with_places (with_mapped_ends (places_of_ends refs) i) ≡ indexed_interval es d

abbrev pub SameIntervals : References → List ListElement → List (Interval ℕ) → List NamedInterval → Type 0
SameIntervals refs es is ds = Beside (Interval ℕ) NamedInterval (SameInterval refs es) is ds

pub from-placed : (refs : References) (es : List ListElement) (is : List (Interval ℕ)) (ds : List NamedInterval)
    → map interval_with_places (placed_intervals refs is) ≡ map (indexed_interval es) ds → SameIntervals refs es is ds
from-placed refs es [] [] h = ends
from-placed refs es [] (d ∷ ds) h = (cc)
from-placed refs es (i ∷ is) [] h = (cc)
from-placed refs es (i ∷ is) (d ∷ ds) h =
    let first : SameInterval refs es i d = (cc) in
    let rest : map interval_with_places (placed_intervals refs is) ≡ map (indexed_interval es) ds = (cc) in
    next first (from-placed refs es is ds rest)

pub to-placed : (refs : References) (es : List ListElement) {is : List (Interval ℕ)} {ds : List NamedInterval} → SameIntervals refs es is ds
    → map interval_with_places (placed_intervals refs is) ≡ map (indexed_interval es) ds
to-placed refs es ends = refl
to-placed refs es (next {x = i} {y = d} {xs = is} {ys = ds} q qs) =
    ap (λ j. j ∷ map interval_with_places (placed_intervals refs is)) q ∙ ap (λ js. indexed_interval es d ∷ js) (to-placed refs es qs)

pub start-of : (refs : References) (es : List ListElement) (i : Interval ℕ) (d : NamedInterval) → SameInterval refs es i d
    → SameEnd refs es i.ends.start d.start
start-of refs es i d q = ap (λ (j : IndexedInterval). j.ends.first) q

pub end-of : (refs : References) (es : List ListElement) (i : Interval ℕ) (d : NamedInterval) → SameInterval refs es i d → SameEnd refs es i.ends.end d.end
end-of refs es i d q = ap (λ (j : IndexedInterval). j.ends.second) q

-- the names of an interval changed
abbrev pub with_names : (Option ElementId → Option ElementId) → NamedInterval → NamedInterval
with_names g d = record d { start = g d.start; end = g d.end }

-- the interval after both ends moved alike
pub moved-interval : (refs after : References) (es fs : List ListElement) (g : Option ElementId → Option ElementId) (i : Interval ℕ) (d : NamedInterval)
    → SameInterval refs es i d → SameEnd after fs i.ends.start (g d.start) → SameEnd after fs i.ends.end (g d.end) → SameInterval after fs i (with_names g d)
moved-interval refs after es fs g i d q start end =
    let label = ap (λ (j : IndexedInterval). j.label) q in
    let name = ap (λ (j : IndexedInterval). j.id) q in
    let props = ap (λ (j : IndexedInterval). j.props) q in
    rw (label, name, props, start, end) refl

-- ---- facts of the ends on either side

-- the ends of intervals have a fact
abbrev pub HaveEnds : (Option ℕ → Type 0) → List (Interval ℕ) → Type 0
HaveEnds P [] = Unit {0}
HaveEnds P (i ∷ is) = (P i.ends.start × P i.ends.end) × HaveEnds P is

-- the reference, if there is one, is acknowledged or isn't
abbrev pub IsMarkedEnd : Bool → References → Option ℕ → Type 0
IsMarkedEnd acked refs None = Unit {0}
IsMarkedEnd acked refs (Some r) = is_acknowledged refs r ≡ Some acked

same-number : (r : ℕ) → nat_eq r r ≡ true
same-number r = grind (arith, nat_tests)

pub end-marked : (acked : Bool) (refs : References) (o : Option ℕ)
    → ((r : ℕ) → is_reference r o ≡ true → is_acknowledged refs r ≡ Some acked) → IsMarkedEnd acked refs o
end-marked acked refs None h = tt
end-marked acked refs (Some r) h = h r (same-number r)

pub ends-marked : (acked : Bool) (refs : References) (is : List (Interval ℕ))
    → ((r : ℕ) → list_any (is_reference r) (ends_of_intervals is) ≡ true → is_acknowledged refs r ≡ Some acked) → HaveEnds (IsMarkedEnd acked refs) is
ends-marked acked refs [] h = tt
ends-marked acked refs (i ∷ is) h = (
  (
    end-marked acked refs i.ends.start (λ r e. h r (or_left (is_reference r i.ends.start) (is_reference r i.ends.end || list_any (is_reference r) (ends_of_intervals is)) e)),
    end-marked acked refs i.ends.end (λ r e. h r (or_right (is_reference r i.ends.start) (is_reference r i.ends.end || list_any (is_reference r) (ends_of_intervals is))
        (or_left (is_reference r i.ends.end) (list_any (is_reference r) (ends_of_intervals is)) e))),
  ),
  ends-marked acked refs is (λ r e. h r (or_right (is_reference r i.ends.start) (is_reference r i.ends.end || list_any (is_reference r) (ends_of_intervals is))
      (or_right (is_reference r i.ends.end) (list_any (is_reference r) (ends_of_intervals is)) e))),
)

-- all intervals after their ends moved alike
module _ (refs after : References) (es fs : List ListElement) (g : Option ElementId → Option ElementId) (P : Option ℕ → Type 0)
    (moves : (r : Option ℕ) (o : Option ElementId) → P r → IsSettledIn es o → SameEnd refs es r o → SameEnd after fs r (g o)) where
  pub moved-intervals : {is : List (Interval ℕ)} {ds : List NamedInterval} → HaveEnds P is → AreSettledIn es ds → SameIntervals refs es is ds
      → SameIntervals after fs is (map (with_names g) ds)
  moved-intervals a s ends = ends
  moved-intervals a s (next {x = i} {y = d} q qs) =
      next (moved-interval refs after es fs g i d q (moves i.ends.start d.start a.0.0 s.0.0 (start-of refs es i d q))
      (moves i.ends.end d.end a.0.1 s.0.1 (end-of refs es i d q))) (moved-intervals a.1 s.1 qs)

-- names that stay as they are
pub same-names : (ds : List NamedInterval) → map (with_names (λ o. o)) ds ≡ ds
same-names [] = refl
same-names (d ∷ ds) = ap (λ rest. d ∷ rest) (same-names ds)

-- ---- references that move

place-moved : (f : ℕ → ℕ) (o : Option Reference)
    → option_and_then (λ (x : Reference). x.place) (option_map (with_place f) o) ≡ option_map f (option_and_then (λ (x : Reference). x.place) o)
place-moved f None = refl
place-moved f (Some x) = refl

pub end-moved : (f : ℕ → ℕ) (refs after : References) → ChangesReferences (with_place f) refs after → (r : Option ℕ)
    → place_of_end after r ≡ option_map f (place_of_end refs r)
end-moved f refs after h None = refl
end-moved f refs after h (Some r) = ap (λ o. option_and_then (λ (x : Reference). x.place) o) (h r) ∙ place-moved f (reference_at refs r)

place-slid : {U : Type 0} (xs : List (TreeElement U)) (o : Option Reference) → option_map (λ (x : Reference). x.acked) o ≡ Some true
    → option_and_then (λ (x : Reference). x.place) (option_map (slid_reference xs) o) ≡ slid_end xs (option_and_then (λ (x : Reference). x.place) o)
place-slid xs None h = (cc)
place-slid xs (Some x) h = step x.acked x.place (some-true h)
  where
    some-true : {b : Bool} → Some b ≡ Some true → b ≡ true
    some-true e = (cc)

    step : (b : Bool) (p : Option ℕ) → b ≡ true
        → option_and_then (λ (y : Reference). y.place) (Some (slid_reference xs (record { place = p; acked = b }))) ≡ slid_end xs p
    step true p e = refl
    step false p e = (cc)

-- an acknowledged one slides
pub end-slid : {U : Type 0} (xs : List (TreeElement U)) (refs after : References) → ChangesReferences (slid_reference xs) refs after
    → (r : Option ℕ) → IsMarkedEnd true refs r → place_of_end after r ≡ slid_end xs (place_of_end refs r)
end-slid xs refs after h None a = refl
end-slid xs refs after h (Some r) a = ap (λ o. option_and_then (λ (x : Reference). x.place) o) (h r) ∙ place-slid xs (reference_at refs r) a

place-kept : {U : Type 0} (xs : List (TreeElement U)) (o : Option Reference) → option_map (λ (x : Reference). x.acked) o ≡ Some false
    → option_and_then (λ (x : Reference). x.place) (option_map (slid_reference xs) o) ≡ option_and_then (λ (x : Reference). x.place) o
place-kept xs None h = (cc)
place-kept xs (Some x) h = step x.acked x.place (some-false h)
  where
    some-false : {b : Bool} → Some b ≡ Some false → b ≡ false
    some-false e = (cc)

    step : (b : Bool) (p : Option ℕ) → b ≡ false
        → option_and_then (λ (y : Reference). y.place) (Some (slid_reference xs (record { place = p; acked = b }))) ≡ p
    step true p e = (cc)
    step false p e = refl

-- a pending one stays
pub end-kept : {U : Type 0} (xs : List (TreeElement U)) (refs after : References) → ChangesReferences (slid_reference xs) refs after
    → (r : Option ℕ) → IsMarkedEnd false refs r → place_of_end after r ≡ place_of_end refs r
end-kept xs refs after h None a = refl
end-kept xs refs after h (Some r) a = ap (λ o. option_and_then (λ (x : Reference). x.place) o) (h r) ∙ place-kept xs (reference_at refs r) a

-- ---- names that slide

-- a name of a sequenced element is only that of such elements
meant-by : (n : ℕ) (e : ListElement) → is_sequenced e && has_id (SequencedId n) e ≡ has_id (SequencedId n) e
meant-by n e = step e.ins
  where
    step : (t : Stamp) → is_acked t && has_id (SequencedId n) (record e { ins = t }) ≡ has_id (SequencedId n) (record e { ins = t })
    step (Acked s c) = refl
    step (Local k) = refl

settled-same : {A : Type 0} (is is' ok : A → Bool) → ((x : A) → is x ≡ is' x) → (last : Option A) (xs : List A)
    → settled_after is ok last xs ≡ settled_after is' ok last xs
settled-same is is' ok h last [] = refl
settled-same is is' ok h last (x ∷ xs) = rw (h x, settled-same is is' ok h (cond (ok x) (Some x) last) xs) refl

-- where the name of an element goes is where its place goes
pub name-slid : (content : ElementContent → ElementContent) (xs : List (TreeElement ElementContent)) (es : List ListElement) → Once es
    → AreElements content xs es → (o : Option ElementId) → IsSettledIn es o → place_in_list es (slide es o) ≡ slid_end xs (place_in_list es o)
name-slid content xs es once h None s = refl
name-slid content xs es once h (Some (PendingId k n)) s = absurd s
name-slid content xs es once h (Some (SequencedId n)) s =
    ap (λ o. place_in_list es (option_map id o)) (settled-same (λ e. is_sequenced e && has_id (SequencedId n) e) (has_id (SequencedId n)) is_unremoved (meant-by n) None es)
    ∙ place-settled (IsElement content) once h tree_unremoved is_unremoved (λ x e q. unremoved-alike content x e q) (SequencedId n) s
