-- What the client's own operation on an interval makes of a whole shared text.
use Rattle.std.proofs.Common.{◌≡◌, ℕ, ◌-◌, ◌≤◌, ◌<◌, All, Bool, true, false, IsTrue, cond, not, List, [], ◌∷◌, Option, Some, None, Result, Ok, Err, refl, subst, sym, ◌∙◌, ap, arith, map, append-nil, ℤ, pos, negsuc}
use Rattle.std.proofs.lemmas.List.Elements.{All-cons, All-nil}
use Rattle.ft_base.specs.Scan.{len}
use Rattle.ft_block.specs.declared.leaves.LenView.TheVariants.{Stage as at_stage}
use Rattle.ft_interval_store.specs.declared.faults.IntervalFault.{IntervalFault}
use Rattle.ft_interval_store.specs.declared.faults.IntervalFault.TheVariants as interval
use Rattle.ft_interval_store.specs.declared.pending.Operation.{Operation}
use Rattle.ft_interval_store.specs.Ends.{References, place_of_position, places_of_ends, places_of_given}
use Rattle.ft_interval_store.specs.Intervals.{NamesRise, name_in}
use Rattle.ft_interval_store.specs.State.{CollectionsState, IsAboveAll, IsAsBefore, IsRefusedEdit, Pushes, is_add, is_interval_operation, is_shown, placed, placed_operations, text_elements, with_mapped_names}
use Rattle.ft_tree_leaves.specs.declared.text.TextContent.{TextContent}
use Rattle.ft_tree_leaves.specs.Elements.{TreeElement, seen_in}
use Rattle.ft_msg.specs.declared.faults.EditFault.{EditFault}
use Rattle.ft_msg.specs.declared.faults.EditFault.TheVariants.{IdInUse, NoSuchInterval, OutOfRange}
use Rattle.ft_msg.specs.Client.{id_fault, local_sub_operation, local_sub_operations, unless_fault}
use Rattle.ft_msg.specs.Indexed.{IndexedStage, indexed_stage, place_in_list}
use Rattle.ft_op.specs.declared.operations.Ends.{Ends}
use Rattle.ft_op.specs.declared.operations.TextOp.{TextOp}
use Rattle.ft_op.specs.Document.{Document, elements_at_given_ends, ends_of, given_ends_fit}
use Rattle.ft_op.specs.Intervals.{NamedElements, element_at_end}
use Rattle.ft_op.specs.Operation.{OnIntervals}
use Rattle.ft_op.specs.Stages.{Stage, shown_intervals}
use Rattle.ft_props.specs.Element.{ElementContent, ListElement, seen}
use Rattle.ft_laws_names.proofs.Beside.{Beside, beside-len}
use Rattle.ft_laws_names.specs.WellNamed.{RiseTo}
use Rattle.ft_tree.specs.State.{TreeState}
use Rattle.ft_named.specs.Bare.{bare}
use Rattle.ft_interval.specs.State.{IndexedState, StandsOn}
use Rattle.ft_text.specs.Texts.{TextElements}
use Rattle.ft_string.specs.Bare.{text_content}
use Rattle.ft_string.specs.Calls.{AnswersEdit, Leaves, TakesEdit}
use Rattle.ft_string.specs.Edits.{edit_fault_of, is_refusal}
use Rattle.ft_msg.specs.Overlap.{is_on_intervals}
use Rattle.ft_string.specs.Holds.{HoldsSome, HoldsText, IsTextSound, element_stages, interval_stages, is_on_elements}
use Rattle.ft_string.specs.Parts.{AreSound, state_of}
use Rattle.ft_string.specs.State.{TextState, interval_stage, interval_with_places}
use Rattle.ft_string.specs.declared.pending.PendingOp.{PendingOp}
use Rattle.ft_string.proofs.AppliedIntervals.{same-sound}
use Rattle.ft_named.proofs.Bares.{IsElement, from-bare, seen-alike}
use Rattle.ft_named.proofs.Changed.{beside-all, is_up_to, seen-later}
use Rattle.ft_named.proofs.Placed.{place-at}
use Rattle.ft_string.proofs.ShownNames.{in-use, no-fault, not-there}
use Rattle.ft_string.proofs.Standing.{low-below, sound-up_to}
use Rattle.ft_named.proofs.Lists.{filter-append, map-append}
use Rattle.ft_named.proofs.SubOperations.{first-refused, next-taken}

-- ---- the stage is above all pending ones

all-below : (doc : Document) (refs : References) (last low : ℕ) (ts : List Stage) → RiseTo low last ts → (us : List Operation)
    → map interval_stage (placed_operations refs us) ≡ map (indexed_stage doc) (interval_stages ts) → (first : ℕ) → last < first → All (λ u. u.stage < first) us
all-below doc refs last low [] r [] h first l = All-nil (λ (u : Operation). u.stage < first)
all-below doc refs last low [] r (u ∷ us) h first l = (cc)
all-below doc refs last low (t ∷ ts) r us h first l =
    step (is_on_intervals t.sub_operation) us h (λ us g. all-below doc refs last t.stage ts r.1 us g first l) (low-below t.stage last ts r.1)
  where
    step : (b : Bool) (us : List Operation)
        → map interval_stage (placed_operations refs us) ≡ map (indexed_stage doc) (cond b (t ∷ interval_stages ts) (interval_stages ts))
        → ((us : List Operation) → map interval_stage (placed_operations refs us) ≡ map (indexed_stage doc) (interval_stages ts)
        → All (λ (u : Operation). u.stage < first) us)
        → t.stage ≤ last → All (λ (u : Operation). u.stage < first) us
    step true [] h rest up = (cc)
    step true (u ∷ us) h rest up =
        let here : interval_stage (with_mapped_names (places_of_ends refs) u) ≡ indexed_stage doc t = (cc) in
        let behind : map interval_stage (placed_operations refs us) ≡ map (indexed_stage doc) (interval_stages ts) = (cc) in
        let same = ap (λ (s : IndexedStage). s.stage) here in
        All-cons (λ (u : Operation). u.stage < first) u us (omega arith) (rest us behind)
    step false us h rest up = rest us h

back : (k : ℕ) → 1 ≤ k → k - 1 < k
back k l = omega arith

pub interval-above : (first : ℕ) → 1 ≤ first → (tree : TreeState TextContent) (c : CollectionsState) (ops : List PendingOp) (given : ℕ) (usable : Bool)
    → HoldsSome (first - 1) (state_of tree c ops given usable) → IsAboveAll first c
interval-above first l tree c ops given usable h =
    all-below h.doc tree.refs (first - 1) 0 h.stages h.sound.rise c.pending h.holds.interval_ops first (back first l)

-- ---- the whole

module _ (first : ℕ) (some : 1 ≤ first) (tree : TreeState TextContent) (c : CollectionsState) (ops : List PendingOp) (given : ℕ) (usable : Bool) (op : TextOp)
    (kind : is_interval_operation op ≡ true) (rises : NamesRise c.acked) (doc : Document) (stages : List Stage) (text : IsTextSound (first - 1) doc stages)
    (holds : HoldsText (state_of tree c ops given usable) doc stages) where
  abbrev es : List ListElement
  es = doc.text.items

  abbrev xs : TextElements
  xs = text_elements tree

  abbrev Pair : TreeElement ElementContent → ListElement → Type 0
  Pair x e = IsElement text_content x e × (is_up_to (first - 1) e ≡ true)

  pairs : Beside (TreeElement ElementContent) ListElement Pair xs es
  pairs = beside-all (is_up_to (first - 1)) (sound-up_to (first - 1) doc stages text) (from-bare text_content xs es holds.elements)

  agree : (x : TreeElement ElementContent) (e : ListElement) → Pair x e → seen_in (at_stage first) x ≡ seen (first - 1) e
  agree x e q = seen-alike text_content (at_stage first) x e q.0 ∙ seen-later (first - 1) first (omega arith) e q.1

  same-length : len (seen_in (at_stage first)) xs ≡ len (seen (first - 1)) es
  same-length = beside-len (seen_in (at_stage first)) (seen (first - 1)) agree pairs

  abbrev names : NamedElements
  names = elements_at_given_ends (seen (first - 1)) es (ends_of op)

  end-place : (z : ℤ) → place_of_position (seen_in (at_stage first)) xs z ≡ place_in_list es (element_at_end (seen (first - 1)) es z)
  end-place (pos p) = sym (place-at Pair text.list.once pairs (seen_in (at_stage first)) (seen (first - 1)) agree p)
  end-place (negsuc p) = refl

  abbrev here : Stage
  here = record { stage = first; sub_operation = OnIntervals op; names = names }

  stage-alike : (g : Option Ends) → interval_stage (record { stage = first; op = op; ends = places_of_given (seen_in (at_stage first)) xs g })
      ≡ indexed_stage doc (record { stage = first; sub_operation = OnIntervals op; names = elements_at_given_ends (seen (first - 1)) es g })
  stage-alike None = refl
  stage-alike (Some e) = rw (end-place e.start, end-place e.end) refl

  -- what the definitions make of it
  abbrev n : ℕ
  n = len (seen (first - 1)) es

  local : (f : Option EditFault) (b : Bool) → id_fault (shown_intervals es doc.intervals stages) op ≡ f → given_ends_fit n (ends_of op) ≡ b
      → local_sub_operation doc stages first (OnIntervals op) ≡ unless_fault f (cond b (Ok (doc, names)) (Err (OutOfRange n)))
  local f b h g = rw (h, g) refl

  -- it is taken
  pub interval-taken : (new : TreeState TextContent) (d : CollectionsState)
      → Pushes (seen_in (at_stage first)) xs first op c d tree new → is_shown xs (name_in op) (placed tree.refs c) ≡ not (is_add op)
      → TakesEdit (state_of new d ops given usable) stages (local_sub_operations doc stages first (OnIntervals op ∷ [])) 1
  interval-taken new d p shown = record {
    after = doc;
    more = here ∷ [];
    is = next-taken doc doc doc stages [] first (OnIntervals op) [] names
        (local None true (no-fault tree c ops given (first - 1) usable doc stages text holds rises op kind shown)
        (ap (λ k. given_ends_fit k (ends_of op)) (sym same-length) ∙ p.fits)) refl;
    holds = record {
      elements = ap (λ x. map (bare text_content) (text_elements x)) p.rest ∙ holds.elements;
      made = ap (λ (x : TreeState TextContent). x.made) p.rest ∙ holds.made;
      intervals = ap (λ (x : CollectionsState). map interval_with_places x.acked) p.pending ∙ holds.intervals;
      ops = holds.ops
          ∙ ap (map (indexed_stage doc)) (sym (filter-append (λ t. is_on_elements t.sub_operation) stages (here ∷ []) ∙ append-nil (element_stages stages)));
      interval_ops = ap (λ (x : CollectionsState). map interval_stage x.pending) p.pending
          ∙ map-append interval_stage (placed_operations tree.refs c.pending)
          (record { stage = first; op = op; ends = places_of_given (seen_in (at_stage first)) xs (ends_of op) } ∷ [])
          ∙ rw (holds.interval_ops, stage-alike (ends_of op)) refl
          ∙ sym (ap (map (indexed_stage doc)) (filter-append (λ t. is_on_intervals t.sub_operation) stages (here ∷ []))
          ∙ map-append (indexed_stage doc) (interval_stages stages) (here ∷ []));
    };
    counted = refl;
  }

  -- it is refused
  pub interval-refused : (new : TextState) (unchanged : Type 0) (fault : IntervalFault)
      → IsRefusedEdit (is_shown xs (name_in op) (placed tree.refs c)) (len (seen_in (at_stage first)) xs) op unchanged fault
      → AnswersEdit new stages (local_sub_operations doc stages first (OnIntervals op ∷ [])) (Err (edit_fault_of fault))
  interval-refused new unchanged interval.IdInUse h =
      first-refused doc stages first (OnIntervals op) [] IdInUse
      (local (Some IdInUse) (given_ends_fit n (ends_of op)) (in-use tree c ops given (first - 1) usable doc stages text holds rises op h.0 h.1) refl)
  interval-refused new unchanged interval.NoSuchInterval h =
      first-refused doc stages first (OnIntervals op) [] NoSuchInterval
      (local (Some NoSuchInterval) (given_ends_fit n (ends_of op)) (not-there tree c ops given (first - 1) usable doc stages text holds rises op kind h.0 h.1) refl)
  interval-refused new unchanged (interval.OutOfRange l) h =
      first-refused doc stages first (OnIntervals op) [] (OutOfRange l)
      (local None false (no-fault tree c ops given (first - 1) usable doc stages text holds rises op kind h.0)
      (ap (λ k. given_ends_fit k (ends_of op)) (sym same-length) ∙ h.1) ∙ out (sym same-length ∙ sym h.2))
    where
      out : {k : ℕ} → n ≡ k → let r : Result (Document × NamedElements) EditFault = Err (OutOfRange n) in let s : Result (Document × NamedElements) EditFault = Err (OutOfRange k) in r ≡ s
      out e = ap (λ k. Err (OutOfRange k)) e
  interval-refused new unchanged interval.OutOfMemory h = tt

-- a refusal changed nothing
pub refused-unchanged : (tree new : TreeState TextContent) (c d : CollectionsState) (op : TextOp) (shown : Bool) (count : ℕ) (fault : IntervalFault)
    → is_refusal fault ≡ true → IsRefusedEdit shown count op (IsAsBefore c d tree new) fault → IsAsBefore c d tree new
refused-unchanged tree new c d op shown count interval.IdInUse r h = h.2
refused-unchanged tree new c d op shown count interval.NoSuchInterval r h = h.2
refused-unchanged tree new c d op shown count (interval.OutOfRange l) r h = h.3
refused-unchanged tree new c d op shown count interval.OutOfMemory r h = (cc)

pub refused-sound : (tree new : TreeState TextContent) (c d : CollectionsState) (op : TextOp) (shown : Bool) (count : ℕ)
    (fault : IntervalFault) (b : Bool) → b ≡ is_refusal fault
    → IsRefusedEdit shown count op (IsAsBefore c d tree new) fault → AreSound tree c → IsTrue b → AreSound new d
refused-sound tree new c d op shown count fault b e h sound t =
    let same = refused-unchanged tree new c d op shown count fault (sym e ∙ t) h in same-sound tree new c d sound same.0 same.1

pub refused-stands : (tree new : TreeState TextContent) (c d : IndexedState) (op : TextOp) (shown : Bool) (count : ℕ)
    (fault : IntervalFault) (b : Bool) → b ≡ is_refusal fault
    → IsRefusedEdit shown count op (IsAsBefore c.state d.state tree new) fault → d.indexes ≡ c.indexes → StandsOn tree c → IsTrue b → StandsOn new d
refused-stands tree new c d op shown count fault b e h indexes s t =
    let same = refused-unchanged tree new c.state d.state op shown count fault (sym e ∙ t) h in
    let whole : d ≡ c = λ i. record { state = same.0 i; indexes = indexes i } in
    subst (λ x. StandsOn x d) (sym same.1) (subst (λ x. StandsOn tree x) (sym whole) s)

as-it-was : (tree new : TreeState TextContent) (c d : CollectionsState) (ops : List PendingOp) (given : ℕ) (usable b : Bool) → IsTrue usable → b ≡ true
    → IsAsBefore c d tree new → state_of new d ops given b ≡ state_of tree c ops given usable
as-it-was tree new c d ops given usable b u e h = rw (h.0, h.1, e, u) refl

-- a refusal leaves all as it was, and behind OutOfMemory the text may be used no more
pub interval-leaves : (tree new : TreeState TextContent) (c d : CollectionsState) (ops : List PendingOp) (given : ℕ) (usable b : Bool)
    (op : TextOp) (shown : Bool) (count : ℕ)
    (fault : IntervalFault) → IsTrue usable → b ≡ is_refusal fault → IsRefusedEdit shown count op (IsAsBefore c d tree new) fault
    → Leaves (state_of tree c ops given usable) (state_of new d ops given b) (edit_fault_of fault)
interval-leaves tree new c d ops given usable b op shown count interval.IdInUse u e h = as-it-was tree new c d ops given usable b u e h.2
interval-leaves tree new c d ops given usable b op shown count interval.NoSuchInterval u e h = as-it-was tree new c d ops given usable b u e h.2
interval-leaves tree new c d ops given usable b op shown count (interval.OutOfRange l) u e h = as-it-was tree new c d ops given usable b u e h.3
interval-leaves tree new c d ops given usable b op shown count interval.OutOfMemory u e h = e
