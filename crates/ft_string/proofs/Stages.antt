-- Pending stages on the text: those on elements name none, and the ends of those on intervals are pending references.
use Rattle.std.proofs.Common.{◌≡◌, ℕ, ◌≤◌, Bool, true, false, cond, ◌||◌, List, [], ◌∷◌, Option, Some, None, refl, ◌∙◌, ap, map, filter}
use Rattle.std.proofs.lemmas.Bool.{or_left, or_right}
use Rattle.std.specs.List.{list_any}
use Rattle.ft_base.specs.Scan.{len}
use Rattle.ft_interval_store.specs.declared.pending.Operation.{Operation}
use Rattle.ft_interval_store.specs.Ends.{References, is_reference, places_of_ends}
use Rattle.ft_interval_store.specs.State.{ends_of_operations, is_acknowledged, placed_operations, with_mapped_names}
use Rattle.ft_props.specs.Element.{ElementId, ListElement, has_id}
use Rattle.ft_op.specs.Document.{Document}
use Rattle.ft_op.specs.Intervals.{NamedElements, no_elements}
use Rattle.ft_op.specs.Operation.{OnGrid, OnIntervals, OnText, SubOperation}
use Rattle.ft_op.specs.Stages.{Stage}
use Rattle.ft_msg.specs.Indexed.{IndexedStage, indexed_stage}
use Rattle.ft_laws_agreement.specs.Sequencing.{Each}
use Rattle.ft_laws_names.specs.WellNamed.{AreStagesNamed, AreThere, StandsIn}
use Rattle.ft_laws_names.proofs.Beside.{Beside, ends, next}
use Rattle.ft_string.specs.Holds.{element_stages, is_on_elements}
use Rattle.ft_string.specs.State.{interval_stage}
use Rattle.ft_string.proofs.Ends.{IsMarkedEnd, SameEnd, end-marked}

-- ---- names of stages

-- a stage on intervals names elements that stand in the list; any other names none
abbrev pub AreNamesIn : List ListElement → SubOperation → NamedElements → Type 0
AreNamesIn es (OnText op) names = names ≡ no_elements
AreNamesIn es (OnIntervals op) names = StandsIn es names.first × StandsIn es names.second
AreNamesIn es (OnGrid op) names = Unit {0}

pub stage-names : (doc : Document) (t : Stage) → AreThere doc t.sub_operation t.names → AreNamesIn doc.text.items t.sub_operation t.names
stage-names doc t h = step t.sub_operation h
  where
    step : (o : SubOperation) → AreThere doc o t.names → AreNamesIn doc.text.items o t.names
    step (OnText op) a = a
    step (OnIntervals op) a = a
    step (OnGrid op) a = tt

pub all-stage-names : (doc : Document) (ts : List Stage) → AreStagesNamed doc ts → Each (λ t. AreNamesIn doc.text.items t.sub_operation t.names) ts
all-stage-names doc [] h = tt
all-stage-names doc (t ∷ ts) h = (stage-names doc t h.0.0, all-stage-names doc ts h.1)

stands-stay : (es fs : List ListElement) → ((a : ElementId) → 1 ≤ len (has_id a) es → 1 ≤ len (has_id a) fs) → (o : Option ElementId)
    → StandsIn es o → StandsIn fs o
stands-stay es fs h None s = tt
stands-stay es fs h (Some a) s = h a s

pub names-stay : (es fs : List ListElement) → ((a : ElementId) → 1 ≤ len (has_id a) es → 1 ≤ len (has_id a) fs) → (ts : List Stage)
    → Each (λ t. AreNamesIn es t.sub_operation t.names) ts → Each (λ t. AreNamesIn fs t.sub_operation t.names) ts
names-stay es fs h [] s = tt
names-stay es fs h (t ∷ ts) s = (step t.sub_operation s.0, names-stay es fs h ts s.1)
  where
    step : (o : SubOperation) → AreNamesIn es o t.names → AreNamesIn fs o t.names
    step (OnText op) a = a
    step (OnIntervals op) a = (stands-stay es fs h t.names.first a.0, stands-stay es fs h t.names.second a.1)
    step (OnGrid op) a = tt

-- ---- stages on elements

same-op : (p q : Document) (o : SubOperation) (k : ℕ) (names : NamedElements) → is_on_elements o ≡ true → AreNamesIn p.text.items o names
    → indexed_stage p (record { stage = k; sub_operation = o; names = names }) ≡ indexed_stage q (record { stage = k; sub_operation = o; names = names })
same-op p q (OnText op) k names h a = rw a refl
same-op p q (OnIntervals op) k names h a = (cc)
same-op p q (OnGrid op) k names h a = (cc)

-- they have the same places, none, in each document
pub same-ops : (p q : Document) (ts : List Stage) → Each (λ t. AreNamesIn p.text.items t.sub_operation t.names) ts
    → map (indexed_stage p) (element_stages ts) ≡ map (indexed_stage q) (element_stages ts)
same-ops p q [] h = refl
same-ops p q (t ∷ ts) h = step (is_on_elements t.sub_operation) refl (same-ops p q ts h.1)
  where
    step : (b : Bool) → is_on_elements t.sub_operation ≡ b → map (indexed_stage p) (element_stages ts) ≡ map (indexed_stage q) (element_stages ts)
        → map (indexed_stage p) (cond b (t ∷ element_stages ts) (element_stages ts))
        ≡ map (indexed_stage q) (cond b (t ∷ element_stages ts) (element_stages ts))
    step true g rest =
        ap (λ s. s ∷ map (indexed_stage p) (element_stages ts)) (same-op p q t.sub_operation t.stage t.names g h.0) ∙ ap (λ ss. indexed_stage q t ∷ ss) rest
    step false g rest = rest

-- ---- stages on intervals

-- the pending operation is the stage, with the same ends
abbrev pub SameStage : References → Document → Operation → Stage → Type 0
SameStage refs doc t u = interval_stage (with_mapped_names (places_of_ends refs) t) ≡ indexed_stage doc u

abbrev pub SameStages : References → Document → List Operation → List Stage → Type 0
SameStages refs doc ts us = Beside Operation Stage (SameStage refs doc) ts us

pub from-stages : (refs : References) (doc : Document) (ts : List Operation) (us : List Stage)
    → map interval_stage (placed_operations refs ts) ≡ map (indexed_stage doc) us → SameStages refs doc ts us
from-stages refs doc [] [] h = ends
from-stages refs doc [] (u ∷ us) h = (cc)
from-stages refs doc (t ∷ ts) [] h = (cc)
from-stages refs doc (t ∷ ts) (u ∷ us) h =
    let first : SameStage refs doc t u = (cc) in
    let rest : map interval_stage (placed_operations refs ts) ≡ map (indexed_stage doc) us = (cc) in
    next first (from-stages refs doc ts us rest)

pub to-stages : (refs : References) (doc : Document) {ts : List Operation} {us : List Stage} → SameStages refs doc ts us
    → map interval_stage (placed_operations refs ts) ≡ map (indexed_stage doc) us
to-stages refs doc ends = refl
to-stages refs doc (next {x = t} {y = u} {xs = ts} {ys = us} q qs) =
    ap (λ s. s ∷ map interval_stage (placed_operations refs ts)) q ∙ ap (λ ss. indexed_stage doc u ∷ ss) (to-stages refs doc qs)

-- the ends of pending operations have a fact
abbrev pub HaveNames : (Option ℕ → Type 0) → List Operation → Type 0
HaveNames P [] = Unit {0}
HaveNames P (t ∷ ts) = (P t.ends.start × P t.ends.end) × HaveNames P ts

pub names-marked : (acked : Bool) (refs : References) (ts : List Operation)
    → ((r : ℕ) → list_any (is_reference r) (ends_of_operations ts) ≡ true → is_acknowledged refs r ≡ Some acked) → HaveNames (IsMarkedEnd acked refs) ts
names-marked acked refs [] h = tt
names-marked acked refs (i ∷ is) h = (
  (
    end-marked acked refs i.ends.start (λ r e. h r (or_left (is_reference r i.ends.start) (is_reference r i.ends.end || list_any (is_reference r) (ends_of_operations is)) e)),
    end-marked acked refs i.ends.end (λ r e. h r (or_right (is_reference r i.ends.start) (is_reference r i.ends.end || list_any (is_reference r) (ends_of_operations is))
        (or_left (is_reference r i.ends.end) (list_any (is_reference r) (ends_of_operations is)) e))),
  ),
  names-marked acked refs is (λ r e. h r (or_right (is_reference r i.ends.start) (is_reference r i.ends.end || list_any (is_reference r) (ends_of_operations is))
      (or_right (is_reference r i.ends.end) (list_any (is_reference r) (ends_of_operations is)) e))),
)

module _ (refs after : References) (p q : Document) (P : Option ℕ → Type 0)
    (moves : (r : Option ℕ) (o : Option ElementId) → P r → StandsIn p.text.items o → SameEnd refs p.text.items r o → SameEnd after q.text.items r o) where
  moved-stage : (t : Operation) (k : ℕ) (o : SubOperation) (names : NamedElements) → P t.ends.start → P t.ends.end → AreNamesIn p.text.items o names
      → SameStage refs p t (record { stage = k; sub_operation = o; names = names })
      → SameStage after q t (record { stage = k; sub_operation = o; names = names })
  moved-stage t k (OnIntervals op) names a b s h =
      let stage : t.stage ≡ k = ap (λ (u : IndexedStage). u.stage) h in
      let same : OnIntervals t.op ≡ OnIntervals op = ap (λ (u : IndexedStage). u.sub_operation) h in
      let first = moves t.ends.start names.first a s.0 (ap (λ (u : IndexedStage). u.places.first) h) in
      let second = moves t.ends.end names.second b s.1 (ap (λ (u : IndexedStage). u.places.second) h) in
      rw (stage, same, first, second) refl
  moved-stage t k (OnText op) names a b s h = let never : OnIntervals t.op ≡ OnText op = ap (λ (u : IndexedStage). u.sub_operation) h in (cc)
  moved-stage t k (OnGrid op) names a b s h = let never : OnIntervals t.op ≡ OnGrid op = ap (λ (u : IndexedStage). u.sub_operation) h in (cc)

  pub moved-stages : {ts : List Operation} {us : List Stage} → HaveNames P ts → Each (λ u. AreNamesIn p.text.items u.sub_operation u.names) us
      → SameStages refs p ts us → SameStages after q ts us
  moved-stages a s ends = ends
  moved-stages a s (next {x = t} {y = u} h hs) =
      next (moved-stage t u.stage u.sub_operation u.names a.0.0 a.0.1 s.0 h) (moved-stages a.1 s.1 hs)

pub each-filter : {A : Type 0} (P : A → Type 0) (test : A → Bool) (xs : List A) → Each P xs → Each P (filter test xs)
each-filter P test [] h = tt
each-filter P test (x ∷ xs) h = step (test x) (each-filter P test xs h.1)
  where
    step : (b : Bool) → Each P (filter test xs) → Each P (cond b (x ∷ filter test xs) (filter test xs))
    step true rest = (h.0, rest)
    step false rest = rest
