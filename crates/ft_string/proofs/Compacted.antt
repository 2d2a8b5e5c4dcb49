-- What compaction makes of a whole shared text: no interval and no pending stage stands on what goes.
use Rattle.std.proofs.Common.{◌≡◌, ℕ, zero, suc, ◌+◌, ◌-◌, ◌<◌, ◌≤◌, length, take, drop, get_or, is_some, All, Bool, true, false, not, ◌||◌, nat_eq, IfSome, List, [], ◌∷◌, ◌++◌, Option, Some, None, refl, sym, ◌∙◌, ap, subst, arith, map, filter, option_map, option_and_then, slice_get}
use Rattle.std.specs.List.{AllByRecursion, list_all, list_any}
use Rattle.std.proofs.lemmas.Bool.{or_left, or_right}
use Rattle.std.proofs.lemmas.Bool.Decides.{nat_tests}
use Rattle.std.proofs.Math.Seq.{take-add}
use Rattle.std.proofs.lemmas.List.{length-map}
use Rattle.std.proofs.lemmas.List.Elements.{All-head, All-tail}
use Rattle.std.proofs.lemmas.Option.{slice_get-get_or, slice_get_within}
use Rattle.ft_base.specs.Scan.{len}
use Rattle.ft_interval_store.specs.declared.intervals.Interval.{Interval}
use Rattle.ft_interval_store.specs.declared.pending.Operation.{Operation}
use Rattle.ft_interval_store.specs.Ends.{References, is_reference}
use Rattle.ft_interval_store.specs.State.{CollectionsState, ends_of_intervals, ends_of_name, ends_of_operations, keeps, text_elements}
use Rattle.ft_interval_index.specs.Indexes.{LabelIndex, index_of}
use Rattle.ft_interval.specs.State.{IndexedState, StandsOn}
use Rattle.ft_interval_index.specs.Order.{IsAtMost, IsWithin}
use Rattle.ft_interval_index.proofs.Listed.{kept-listed}
use Rattle.ft_laws_compaction.specs.Free.{AreFree}
use Rattle.ft_tree_leaves.specs.declared.references.Reference.{Reference}
use Rattle.ft_tree_leaves.specs.declared.text.TextContent.{TextContent}
use Rattle.ft_tree_leaves.specs.Edits.{with_place}
use Rattle.ft_tree_leaves.specs.Elements.{TreeElement}
use Rattle.ft_tree_leaves.specs.Places.{seen_before}
use Rattle.ft_tree_leaves.specs.References.{ChangesReferences, reference_place, reference_at}
use Rattle.ft_tree_leaves.proofs.Runs.{len-append}
use Rattle.ft_msg.specs.Compacted.{interval_holds, stage_holds_text}
use Rattle.ft_msg.specs.Indexed.{IndexedStage, place_in_list}
use Rattle.ft_op.specs.Document.{Document}
use Rattle.ft_op.specs.Intervals.{NamedElements}
use Rattle.ft_op.specs.Intervals.{Interval as NamedInterval}
use Rattle.ft_op.specs.Operation.{OnGrid, OnIntervals, OnText, SubOperation}
use Rattle.ft_op.specs.Stages.{Stage}
use Rattle.ft_props.specs.Compaction.{has_collectable_removal}
use Rattle.ft_props.specs.Element.{ElementContent, ElementId, ListElement, has_id, is_named_by}
use Rattle.ft_laws_agreement.specs.Sequencing.{Each}
use Rattle.ft_laws_agreement.proofs.SlidEnds.{same_id-refl}
use Rattle.ft_laws_names.specs.WellNamed.{AreSettledIn, StandsIn}
use Rattle.ft_laws_names.proofs.Beside.{ends, next}
use Rattle.ft_tree.specs.State.{TreeState}
use Rattle.ft_zamboni.specs.Scours.{AreClear, Writes, is_collectable, marked, place_among, staying}
use Rattle.ft_zamboni.proofs.BothSweeps.{second}
use Rattle.ft_zamboni.proofs.Marks.{StaysAt, gone-few, staying-at}
use Rattle.ft_zamboni.proofs.SweptElements.{MayGo}
use Rattle.ft_zamboni.proofs.Writing.{writes-length}
use Rattle.ft_named.specs.Bare.{bare}
use Rattle.ft_named.proofs.Bares.{AreElements, from-bare, to-bare}
use Rattle.ft_named.proofs.CompactedSteps.{Compacts, compacts, compacts-elements, compacts-keeps, compacts-pending, compacts-place, gone-marked, held-clear, marked-go, marked-list, staying-marked}
use Rattle.ft_named.proofs.Lists.{any-here}
use Rattle.ft_named.proofs.Placed.{name_place}
use Rattle.ft_text.specs.Texts.{TextElements}
use Rattle.ft_string.specs.Bare.{text_content}
use Rattle.ft_string.specs.Calls.{CompactsText, is_held}
use Rattle.ft_msg.specs.Overlap.{is_on_intervals}
use Rattle.ft_string.specs.Holds.{HoldsText, IsTextSound, interval_stages}
use Rattle.ft_string.specs.Parts.{AreSound, state_of}
use Rattle.ft_string.specs.declared.pending.PendingOp.{PendingOp}
use Rattle.ft_string.proofs.Documents.{settled-stands}
use Rattle.ft_string.proofs.Ends.{SameEnd, SameIntervals, end-moved, end-of, from-placed, moved-interval, start-of, to-placed}
use Rattle.ft_string.proofs.StandingIndexes.{live-changed}
use Rattle.ft_string.proofs.Stages.{AreNamesIn, SameStage, SameStages, all-stage-names, each-filter, from-stages, same-ops, to-stages}

-- ---- ends of intervals and of operations have a fact, on either side

module _ (N : Option ElementId → Type 0) where
  -- the names of an interval have it
  abbrev HaveIt : NamedInterval → Type 0
  HaveIt d = N d.start × N d.end

  -- the names of a stage on intervals have it
  abbrev StageHas : SubOperation → NamedElements → Type 0
  StageHas (OnIntervals op) names = N names.first × N names.second
  StageHas _ names = Unit {0}

  module _ (refs after : References) (es fs : List ListElement)
      (moves : (r : Option ℕ) (o : Option ElementId) → N o → SameEnd refs es r o → SameEnd after fs r o) where
    kept-intervals : {is : List (Interval ℕ)} {ds : List NamedInterval} → Each HaveIt ds → SameIntervals refs es is ds → SameIntervals after fs is ds
    kept-intervals h ends = ends
    kept-intervals h (next {x = i} {y = d} q qs) =
        next (moved-interval refs after es fs (λ o. o) i d q (moves i.ends.start d.start h.0.0 (start-of refs es i d q)) (moves i.ends.end d.end h.0.1 (end-of refs es i d q)))
        (kept-intervals h.1 qs)

  module _ (refs after : References) (p q : Document)
      (moves : (r : Option ℕ) (o : Option ElementId) → N o → SameEnd refs p.text.items r o → SameEnd after q.text.items r o) where
    kept-stage : (t : Operation) (k : ℕ) (o : SubOperation) (names : NamedElements) → StageHas o names
        → SameStage refs p t (record { stage = k; sub_operation = o; names = names })
        → SameStage after q t (record { stage = k; sub_operation = o; names = names })
    kept-stage t k (OnIntervals op) names n h =
        let stage : t.stage ≡ k = ap (λ (u : IndexedStage). u.stage) h in
        let same : OnIntervals t.op ≡ OnIntervals op = ap (λ (u : IndexedStage). u.sub_operation) h in
        let first = moves t.ends.start names.first n.0 (ap (λ (u : IndexedStage). u.places.first) h) in
        let second = moves t.ends.end names.second n.1 (ap (λ (u : IndexedStage). u.places.second) h) in
        rw (stage, same, first, second) refl
    kept-stage t k (OnText op) names n h = let never : OnIntervals t.op ≡ OnText op = ap (λ (u : IndexedStage). u.sub_operation) h in (cc)
    kept-stage t k (OnGrid op) names n h = let never : OnIntervals t.op ≡ OnGrid op = ap (λ (u : IndexedStage). u.sub_operation) h in (cc)

    kept-stages : {ts : List Operation} {us : List Stage} → Each (λ u. StageHas u.sub_operation u.names) us → SameStages refs p ts us → SameStages after q ts us
    kept-stages n ends = ends
    kept-stages n (next {x = t} {y = u} h hs) = next (kept-stage t u.stage u.sub_operation u.names n.0 h) (kept-stages n.1 hs)

  -- a reference that is an end is that of a name with the fact
  record IsOfName (refs : References) (es : List ListElement) (r : ℕ) : Type 0 where
    pub name : Option ElementId
    pub has : N name
    pub same : SameEnd refs es (Some r) name

  module _ (refs : References) (es : List ListElement) (r : ℕ) where
    end-name : (x : Option ℕ) (o : Option ElementId) → is_reference r x ≡ true → N o → SameEnd refs es x o → IsOfName refs es r
    end-name None o h n e = (cc)
    end-name (Some j) o h n e = record { name = o; has = n; same = subst (λ i. SameEnd refs es (Some i) o) (same-number j r h) e }
      where
        same-number : (j r : ℕ) → nat_eq j r ≡ true → j ≡ r
        same-number j r g = grind (arith, nat_tests)

    interval-name : {is : List (Interval ℕ)} {ds : List NamedInterval} → Each HaveIt ds → SameIntervals refs es is ds
        → list_any (is_reference r) (ends_of_intervals is) ≡ true
        → IsOfName refs es r
    interval-name h ends e = (cc)
    interval-name h (next {x = i} {y = d} {xs = is} q qs) e =
        step (is_reference r i.ends.start) (is_reference r i.ends.end) refl refl e (λ g. interval-name h.1 qs g)
      where
        step : (a b : Bool) → is_reference r i.ends.start ≡ a → is_reference r i.ends.end ≡ b
            → a || (b || list_any (is_reference r) (ends_of_intervals is)) ≡ true
            → (list_any (is_reference r) (ends_of_intervals is) ≡ true → IsOfName refs es r) → IsOfName refs es r
        step true b f g all rest = end-name i.ends.start d.start f h.0.0 (start-of refs es i d q)
        step false true f g all rest = end-name i.ends.end d.end g h.0.1 (end-of refs es i d q)
        step false false f g all rest = rest all

  module _ (refs : References) (p : Document) (r : ℕ) where
    stage-name : (t : Operation) (k : ℕ) (o : SubOperation) (names : NamedElements) → StageHas o names
        → SameStage refs p t (record { stage = k; sub_operation = o; names = names }) → is_reference r t.ends.start || is_reference r t.ends.end ≡ true
        → IsOfName refs p.text.items r
    stage-name t k (OnIntervals op) names n h e =
        step (is_reference r t.ends.start) (is_reference r t.ends.end) refl refl e
      where
        step : (a b : Bool) → is_reference r t.ends.start ≡ a → is_reference r t.ends.end ≡ b → a || b ≡ true → IsOfName refs p.text.items r
        step true b f g all = end-name refs p.text.items r t.ends.start names.first f n.0 (ap (λ (u : IndexedStage). u.places.first) h)
        step false true f g all = end-name refs p.text.items r t.ends.end names.second g n.1 (ap (λ (u : IndexedStage). u.places.second) h)
        step false false f g all = (cc)
    stage-name t k (OnText op) names n h e = let never : OnIntervals t.op ≡ OnText op = ap (λ (u : IndexedStage). u.sub_operation) h in (cc)
    stage-name t k (OnGrid op) names n h e = let never : OnIntervals t.op ≡ OnGrid op = ap (λ (u : IndexedStage). u.sub_operation) h in (cc)

    operation-name : {ts : List Operation} {us : List Stage} → Each (λ u. StageHas u.sub_operation u.names) us → SameStages refs p ts us
        → list_any (is_reference r) (ends_of_operations ts) ≡ true → IsOfName refs p.text.items r
    operation-name n ends e = (cc)
    operation-name n (next {x = t} {y = u} {xs = ts} h hs) e =
        step (is_reference r t.ends.start) (is_reference r t.ends.end) e (λ g. stage-name t u.stage u.sub_operation u.names n.0 h g) (λ g. operation-name n.1 hs g)
      where
        step : (a b : Bool) → a || (b || list_any (is_reference r) (ends_of_operations ts)) ≡ true → (a || b ≡ true → IsOfName refs p.text.items r)
            → (list_any (is_reference r) (ends_of_operations ts) ≡ true → IsOfName refs p.text.items r) → IsOfName refs p.text.items r
        step true b all here rest = here refl
        step false true all here rest = here refl
        step false false all here rest = rest all

-- ---- names that are held

-- it stands in the list, and is held
abbrev IsHeld : (ElementId → Bool) → List ListElement → Option ElementId → Type 0
IsHeld held es None = Unit {0}
IsHeld held es (Some a) = (held a ≡ true) × (1 ≤ len (has_id a) es)

held-name : (held : ElementId → Bool) (es : List ListElement) (o : Option ElementId) → StandsIn es o
    → ((a : ElementId) → is_named_by a o ≡ true → held a ≡ true) → IsHeld held es o
held-name held es None s h = tt
held-name held es (Some a) s h = (h a (same_id-refl a), s)

module _ (doc : Document) (stages : List Stage) where
  abbrev held : ElementId → Bool
  held a = is_held doc stages a

  intervals-held : (ds : List NamedInterval) → AreSettledIn doc.text.items ds
      → Each (λ d. (a : ElementId) → interval_holds a d ≡ true → list_any (interval_holds a) doc.intervals ≡ true) ds
      → Each (HaveIt (IsHeld held doc.text.items)) ds
  intervals-held [] s h = tt
  intervals-held (d ∷ ds) s h = (
    (
      held-name held doc.text.items d.start (settled-stands doc.text.items d.start s.0.0)
          (λ a e. or_left (list_any (interval_holds a) doc.intervals) (list_any (stage_holds_text a) stages) (h.0 a (or_left (is_named_by a d.start) (is_named_by a d.end) e))),
      held-name held doc.text.items d.end (settled-stands doc.text.items d.end s.0.1)
          (λ a e. or_left (list_any (interval_holds a) doc.intervals) (list_any (stage_holds_text a) stages) (h.0 a (or_right (is_named_by a d.start) (is_named_by a d.end) e))),
    ),
    intervals-held ds s.1 h.1,
  )

  stage-held : (k : ℕ) (o : SubOperation) (names : NamedElements) → AreNamesIn doc.text.items o names
      → ((a : ElementId) → stage_holds_text a (record { stage = k; sub_operation = o; names = names }) ≡ true → list_any (stage_holds_text a) stages ≡ true)
      → StageHas (IsHeld held doc.text.items) o names
  stage-held k (OnText op) names s h = tt
  stage-held k (OnIntervals op) names s h = (
    held-name held doc.text.items names.first s.0
        (λ a e. or_right (list_any (interval_holds a) doc.intervals) (list_any (stage_holds_text a) stages)
        (h a (or_left (is_named_by a names.first) (is_named_by a names.second) e))),
    held-name held doc.text.items names.second s.1
        (λ a e. or_right (list_any (interval_holds a) doc.intervals) (list_any (stage_holds_text a) stages)
        (h a (or_right (is_named_by a names.first) (is_named_by a names.second) e))),
  )
  stage-held k (OnGrid op) names s h = tt

  stages-held : (us : List Stage) → Each (λ u. AreNamesIn doc.text.items u.sub_operation u.names) us
      → Each (λ u. (a : ElementId) → stage_holds_text a u ≡ true → list_any (stage_holds_text a) stages ≡ true) us
      → Each (λ u. StageHas (IsHeld held doc.text.items) u.sub_operation u.names) us
  stages-held [] s h = tt
  stages-held (u ∷ us) s h = (stage-held u.stage u.sub_operation u.names s.0 h.0, stages-held us s.1 h.1)

-- ---- the text

module _ (tree : TreeState TextContent) (c : CollectionsState) (ops : List PendingOp) (given : ℕ) (usable : Bool) (floor last : ℕ) (doc : Document) (stages : List Stage)
    (sound : AreSound tree c) (text : IsTextSound last doc stages) (holds : HoldsText (state_of tree c ops given usable) doc stages)
    (free : AreFree floor (is_held doc stages) doc.text.items) where
  abbrev holds_it : ElementId → Bool
  holds_it a = is_held doc stages a

  abbrev es : List ListElement
  es = doc.text.items

  list : AreElements text_content (text_elements tree) es
  list = from-bare text_content (text_elements tree) es holds.elements

  named : Each (λ u. AreNamesIn es u.sub_operation u.names) stages
  named = all-stage-names doc stages text.names

  have-intervals : Each (HaveIt (IsHeld holds_it es)) doc.intervals
  have-intervals = intervals-held doc stages doc.intervals text.intervals (any-here interval_holds doc.intervals)

  have-stages : Each (λ u. StageHas (IsHeld holds_it es) u.sub_operation u.names) (interval_stages stages)
  have-stages =
      each-filter (λ u. StageHas (IsHeld holds_it es) u.sub_operation u.names) (λ u. is_on_intervals u.sub_operation) stages
      (stages-held doc stages stages named (any-here stage_holds_text stages))

  same-intervals : SameIntervals tree.refs es c.acked doc.intervals
  same-intervals = from-placed tree.refs es c.acked doc.intervals holds.intervals

  same-stages : SameStages tree.refs doc c.pending (interval_stages stages)
  same-stages = from-stages tree.refs doc c.pending (interval_stages stages) holds.interval_ops

  any-append : (test : Option ℕ → Bool) (xs ys : List (Option ℕ)) → list_any test (xs ++ ys) ≡ list_any test xs || list_any test ys
  any-append test [] ys = refl
  any-append test (x ∷ xs) ys = ap (λ b. test x || b) (any-append test xs ys) ∙ either (test x) (list_any test xs) (list_any test ys)
    where
      either : (a b c : Bool) → a || (b || c) ≡ (a || b) || c
      either true b c = refl
      either false b c = refl

  -- each reference stands on an element that is held
  reference-name : (r : ℕ) → keeps r c ≡ true → IsOfName (IsHeld holds_it es) tree.refs es r
  reference-name r k =
      step (list_any (is_reference r) (ends_of_intervals c.acked)) (list_any (is_reference r) (ends_of_operations c.pending)) refl refl
      (sym (any-append (is_reference r) (ends_of_intervals c.acked) (ends_of_operations c.pending)) ∙ k)
    where
      step : (a b : Bool) → list_any (is_reference r) (ends_of_intervals c.acked) ≡ a
          → list_any (is_reference r) (ends_of_operations c.pending) ≡ b → a || b ≡ true
          → IsOfName (IsHeld holds_it es) tree.refs es r
      step true b f g h = interval-name (IsHeld holds_it es) tree.refs es r have-intervals same-intervals f
      step false true f g h = operation-name (IsHeld holds_it es) tree.refs doc r have-stages same-stages g
      step false false f g h = (cc)

  -- so none is on an element that goes
  pub text-clear : AreClear floor (text_elements tree) tree.refs
  text-clear r i e = step (keeps r c) refl
    where
      at-name : (o : Option ElementId) → IsHeld holds_it es o → place_in_list es o ≡ Some i
          → IfSome (slice_get (text_elements tree) i) (λ x. is_collectable floor x.stamps ≡ false)
      at-name None h g = (cc)
      at-name (Some a) h g =
          let same : name_place es a ≡ i = (cc) in
          subst (λ j. IfSome (slice_get (text_elements tree) j) (λ x. is_collectable floor x.stamps ≡ false)) same
          (held-clear text_content floor holds_it a h.0 list free text.later)

      step : (b : Bool) → keeps r c ≡ b → IfSome (slice_get (text_elements tree) i) (λ x. is_collectable floor x.stamps ≡ false)
      step true k = let n = reference-name r k in at-name n.name n.has (sym n.same ∙ e)
      step false k = let never = sym (ap (λ o. option_and_then (λ (x : Reference). x.place) o) (sound.only r k)) ∙ e in (cc)

  module _ (new : TreeState TextContent) (more : ℕ) (other : Bool) (ms : List (Bool × TreeElement ElementContent)) (may : AllByRecursion (MayGo floor) ms)
      (all : map second ms ≡ text_elements tree) (writes : Writes floor (text_elements new) (staying ms))
      (refs : ChangesReferences (with_place (place_among ms)) tree.refs new.refs) (made : new.made ≡ tree.made) where
    abbrev kept : List ListElement
    kept = (compacts text_content floor holds_it ms may es (subst (λ xs. AreElements text_content xs es) (sym all) list) free text.later (text_elements new) writes).0

    all-kept : Compacts text_content floor holds_it ms es (text_elements new) kept
    all-kept = (compacts text_content floor holds_it ms may es (subst (λ xs. AreElements text_content xs es) (sym all) list) free text.later (text_elements new) writes).1

    abbrev after : Document
    after = record doc { text = record { items = kept; made = doc.text.made } }

    moves : (r : Option ℕ) (o : Option ElementId) → IsHeld holds_it es o → SameEnd tree.refs es r o → SameEnd new.refs kept r o
    moves r o h e = end-moved (place_among ms) tree.refs new.refs refs r ∙ ap (λ p. option_map (place_among ms) p) e ∙ sym (place o h)
      where
        place : (o : Option ElementId) → IsHeld holds_it es o → place_in_list kept o ≡ option_map (place_among ms) (place_in_list es o)
        place None h = refl
        place (Some a) h = ap Some (compacts-place text_content floor holds_it a h.0 all-kept)

    pub compacts-text : CompactsText floor (state_of new c ops more other) doc stages
    compacts-text = record {
      kept = record { items = kept; made = doc.text.made };
      keeps = record { items = compacts-keeps text_content floor holds_it all-kept; made = refl };
      holds = record {
        elements = to-bare text_content (compacts-elements text_content floor holds_it all-kept);
        made = made ∙ holds.made ∙ ap (λ n. doc.text.made + n) (sym (compacts-pending text_content floor holds_it all-kept));
        intervals = to-placed new.refs kept (kept-intervals (IsHeld holds_it es) tree.refs new.refs es kept moves have-intervals same-intervals);
        ops = holds.ops ∙ same-ops doc after stages named;
        interval_ops = to-stages new.refs after (kept-stages (IsHeld holds_it es) tree.refs new.refs doc after moves have-stages same-stages);
      };
    }

-- the references stay sound
-- ---- the indexes of intervals

stays-clear : (floor : ℕ) (ms : List (Bool × TreeElement ElementContent)) → AllByRecursion (MayGo floor) ms → (i : ℕ)
    → IfSome (slice_get (map second ms) i) (λ e. is_collectable floor e.stamps ≡ false) → StaysAt ms i
stays-clear floor [] may i h = tt
stays-clear floor ((true, x) ∷ ms) may zero h = (let goes = may.0 refl in let never : true ≡ false = sym goes ∙ h in absurd (cc never))
stays-clear floor ((false, x) ∷ ms) may zero h = refl
stays-clear floor (m ∷ ms) may (suc i) h = stays-clear floor ms may.1 i h

first-of : {A : Type 0} (xs : List A) → 0 < length xs → A
first-of [] h = absurd (omega (arith, h))
first-of (x ∷ xs) h = x

among-rises : (ms : List (Bool × TreeElement ElementContent)) (i j : ℕ) → i ≤ j → place_among ms i ≤ place_among ms j
among-rises ms i j h =
    let n : ℕ = j - i in
    let sum : i + n ≡ j = omega (arith, h) in
    let cut : take j ms ≡ take i ms ++ take n (drop i ms) = ap (λ k. take k ms) (sym sum) ∙ take-add i n ms in
    let all = ap (len (λ (x : Bool × TreeElement ElementContent). x.0)) cut ∙ len-append (λ (x : Bool × TreeElement ElementContent). x.0) (take i ms) (take n (drop i ms)) in
    let few = gone-few (drop i ms) n in
    let front = gone-few ms i in
    omega (arith, all, few, front, h)

module _ (tree new : TreeState TextContent) (c : IndexedState) (floor : ℕ) (ms : List (Bool × TreeElement ElementContent)) (may : AllByRecursion (MayGo floor) ms)
    (all : map second ms ≡ text_elements tree) (writes : Writes floor (text_elements new) (staying ms)) (refs : ChangesReferences (with_place (place_among ms)) tree.refs new.refs)
    (clear : AreClear floor (text_elements tree) tree.refs) (s : StandsOn tree c) where
  moves-to : (r : ℕ) → reference_place new.refs r ≡ option_map (place_among ms) (reference_place tree.refs r)
  moves-to r = end-moved (place_among ms) tree.refs new.refs refs (Some r)

  mapped-rises : (a b : Option ℕ) → IsAtMost a b → IsAtMost (option_map (place_among ms) a) (option_map (place_among ms) b)
  mapped-rises None b h = tt
  mapped-rises (Some i) None h = absurd h
  mapped-rises (Some i) (Some j) h = among-rises ms i j h

  mapped-some : (a : Option ℕ) → is_some (option_map (place_among ms) a) ≡ is_some a
  mapped-some None = refl
  mapped-some (Some i) = refl

  stays-within : (i : ℕ) → StaysAt ms i → i < length ms → place_among ms i < length (text_elements new)
  stays-within i stays l = by (first-of ms (let some = l in omega (arith, some)))
    where
      by : Bool × TreeElement ElementContent → place_among ms i < length (text_elements new)
      by d =
          let at = staying-at ms i stays ∙ ap (option_map second) (slice_get-get_or ms i d l) in
          let short = slice_get_within (staying ms) (place_among ms i) (second (get_or ms i d)) at in
          let same = writes-length floor writes in
          omega (arith, short, same)

  gone-stands : StandsOn new c
  gone-stands = record {
    live = live-changed (with_place (place_among ms)) tree.refs new.refs refs c.state s.live;
    listed = λ l. kept-listed (length (text_elements tree)) (length (text_elements new)) tree.refs new.refs
        (λ j. ends_of_name (l, j) c.state.acked) (index_of l c.indexes) (λ r. Unit {0})
        (λ j r e. tt)
        (λ r q e f w h. subst (λ u. IsAtMost u (reference_place new.refs q)) (sym (moves-to r))
        (subst (λ u. IsAtMost (option_map (place_among ms) (reference_place tree.refs r)) u) (sym (moves-to q))
        (mapped-rises (reference_place tree.refs r) (reference_place tree.refs q) h)))
        (λ r e w. subst (IsWithin (length (text_elements new))) (sym (moves-to r)) (inside r (reference_place tree.refs r) refl w))
        (λ r q e f w v h. ap (λ u. is_some u) (moves-to r) ∙ mapped-some (reference_place tree.refs r) ∙ h
        ∙ sym (mapped-some (reference_place tree.refs q)) ∙ sym (ap (λ u. is_some u) (moves-to q)))
        (λ r e h. moves-to r ∙ ap (option_map (place_among ms)) h) (s.listed l);
  }
    where
      inside : (r : ℕ) (p : Option ℕ) → reference_place tree.refs r ≡ p → IsWithin (length (text_elements tree)) p
          → IsWithin (length (text_elements new)) (option_map (place_among ms) p)
      inside r None e w = tt
      inside r (Some i) e w =
          let marks : length ms ≡ length (text_elements tree) = sym (length-map ms second) ∙ ap (λ es. length es) all in
          stays-within i (stays-clear floor ms may i (subst (λ es. IfSome (slice_get es i) (λ x. is_collectable floor x.stamps ≡ false)) (sym all) (clear r i e)))
          (let l = w in omega (arith, marks, l))

-- so they stand after a sweep
pub compacted-stands : (tree new : TreeState TextContent) (c : IndexedState) (ops : List PendingOp) (given : ℕ) (usable : Bool)
    (floor last : ℕ) (doc : Document) (stages : List Stage)
    (sound : AreSound tree c.state) (text : IsTextSound last doc stages) (holds : HoldsText (state_of tree c.state ops given usable) doc stages)
    (free : AreFree floor (is_held doc stages) doc.text.items) (ms : List (Bool × TreeElement ElementContent))
    → AllByRecursion (MayGo floor) ms → map second ms ≡ text_elements tree
    → Writes floor (text_elements new) (staying ms) → ChangesReferences (with_place (place_among ms)) tree.refs new.refs → StandsOn tree c → StandsOn new c
compacted-stands tree new c ops given usable floor last doc stages sound text holds free ms may all writes refs s =
    gone-stands tree new c floor ms may all writes refs (text-clear tree c.state ops given usable floor last doc stages sound text holds free) s

-- no element that went is shown
pub shows-none : (floor : ℕ) (xs : TextElements) → All (λ e. is_collectable floor e.stamps ≡ false) xs
    → list_all (λ e. not (has_collectable_removal floor e.stamps.dels)) (map (bare text_content) xs) ≡ true
shows-none floor [] h = refl
shows-none floor (x ∷ xs) h =
    rw (
      All-head (λ (e : TreeElement ElementContent). is_collectable floor e.stamps ≡ false) x xs h,
      shows-none floor xs (All-tail (λ (e : TreeElement ElementContent). is_collectable floor e.stamps ≡ false) x xs h),
    ) refl

-- ---- all leaves were looked at

module _ (tree new : TreeState TextContent) (c : CollectionsState) (ops : List PendingOp) (given more : ℕ) (usable other : Bool) (floor last : ℕ) (doc : Document) (stages : List Stage)
    (sound : AreSound tree c) (text : IsTextSound last doc stages) (holds : HoldsText (state_of tree c ops given usable) doc stages)
    (free : AreFree floor (is_held doc stages) doc.text.items)
    (writes : Writes floor (text_elements new) (filter (λ e. not (is_collectable floor e.stamps)) (text_elements tree)))
    (refs : ChangesReferences (with_place (λ i. i - seen_before (λ e. is_collectable floor e.stamps) (text_elements tree) i)) tree.refs new.refs)
    (made : new.made ≡ tree.made) where
  abbrev marks : List (Bool × TreeElement ElementContent)
  marks = map (marked floor) (text_elements tree)

  marked-refs : ChangesReferences (with_place (place_among marks)) tree.refs new.refs
  marked-refs r = refs r ∙ step (reference_at tree.refs r)
    where
      step : (o : Option Reference) → option_map (with_place (λ i. i - seen_before (λ e. is_collectable floor e.stamps) (text_elements tree) i)) o
          ≡ option_map (with_place (place_among marks)) o
      step None = refl
      step (Some x) = place x.place x.acked
        where
          place : (p : Option ℕ) (b : Bool) → Some (with_place (λ i. i - seen_before (λ e. is_collectable floor e.stamps) (text_elements tree) i) (record { place = p; acked = b }))
              ≡ Some (with_place (place_among marks) (record { place = p; acked = b }))
          place None b = refl
          place (Some i) b = ap (λ j. Some (at b j)) (sym (gone-marked floor (text_elements tree) i))
            where
              at : Bool → ℕ → Reference
              at b j = record { place = Some j; acked = b }

  pub compacts-all : CompactsText floor (state_of new c ops more other) doc stages
  compacts-all =
      compacts-text tree c ops given usable floor last doc stages sound text holds free new more other marks (marked-go floor (text_elements tree))
      (marked-list floor (text_elements tree)) (subst (λ xs. Writes floor (text_elements new) xs) (sym (staying-marked floor (text_elements tree))) writes) marked-refs made

  pub compacted-all-stands : (idx : List LabelIndex) → (let x : IndexedState = record { state = c; indexes = idx } in StandsOn tree x → StandsOn new x)
  compacted-all-stands idx s =
      compacted-stands tree new (record { state = c; indexes = idx }) ops given usable floor last doc stages sound text holds free marks (marked-go floor (text_elements tree))
      (marked-list floor (text_elements tree)) (subst (λ xs. Writes floor (text_elements new) xs) (sym (staying-marked floor (text_elements tree))) writes) marked-refs s
