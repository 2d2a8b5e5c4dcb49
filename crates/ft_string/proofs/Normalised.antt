-- What a reconnection makes of a whole shared text, once all its stages were given.
use Rattle.std.proofs.Common.{◌≡◌, ℕ, ◌≤◌, ◌<◌, Some, is_some, length, All, Bool, true, false, ◌&&◌, ◌||◌, nat_eq, nat_le, List, [], ◌∷◌, ◌++◌, Option, refl, sym, ◌∙◌, ap, subst, arith, map, flat_map, option_map, append-nil}
use Rattle.std.specs.List.{list_all, list_any}
use Rattle.std.proofs.lemmas.Bool.Decides.{nat_tests}
use Rattle.std.proofs.lemmas.List.Elements.{All-cons, All-nil}
use Rattle.ft_base.specs.Scan.{len}
use Rattle.ft_interval_store.specs.Ends.{place_of_end}
use Rattle.ft_interval_store.specs.State.{CollectionsState, ends_of_name, text_elements}
use Rattle.ft_interval_index.specs.Indexes.{LabelIndex, index_of}
use Rattle.ft_interval.specs.State.{IndexedState, StandsOn}
use Rattle.ft_interval_index.specs.Order.{IsAtMost, IsWithin}
use Rattle.ft_interval_index.proofs.Listed.{kept-listed}
use Rattle.ft_tree_leaves.specs.declared.text.TextContent.{TextContent}
use Rattle.ft_tree_leaves.specs.Edits.{with_place}
use Rattle.ft_tree_leaves.specs.References.{ChangesReferences, reference_place}
use Rattle.ft_msg.specs.Indexed.{IndexedStage, indexed_stage, place_in_list}
use Rattle.ft_msg.specs.Reconnection.{carried_stage, rebuilt_document}
use Rattle.ft_op.specs.Document.{Document}
use Rattle.ft_op.specs.Intervals.{NamedElements, settle_elements}
use Rattle.ft_op.specs.Operation.{OnGrid, OnIntervals, OnText, SubOperation}
use Rattle.ft_op.specs.Pieces.{pieces}
use Rattle.ft_op.specs.Stages.{Stage}
use Rattle.ft_props.specs.Element.{ListElement, SequencedId, has_id, sequenced_elements}
use Rattle.ft_props.specs.Steps.{is_inserted_by}
use Rattle.ft_laws_agreement.proofs.NumberTests.{from_self}
use Rattle.ft_laws_agreement.proofs.RebuiltDocument.{rebuilt-sequenced}
use Rattle.ft_laws_agreement.specs.Reconnecting.{inserts_text, removes_text}
use Rattle.ft_laws_agreement.specs.Sequencing.{Each}
use Rattle.ft_laws_names.specs.WellNamed.{RiseTo, puts_text_in}
use Rattle.ft_laws_names.proofs.RebuiltLists.{IsStagedAmong, Rises}
use Rattle.ft_rebase.specs.Normalised.{rebuilt_list as tree_rebuilt}
use Rattle.ft_rebase.specs.RebuiltPlaces.{rebuilt_place}
use Rattle.ft_rebase.specs.StageLists.{StagesUpTo, StandSideBySide}
use Rattle.ft_rebase.proofs.NamedLists.{AreStagesOf}
use Rattle.ft_tree.specs.State.{TreeState}
use Rattle.ft_named.proofs.Bares.{AreElements, from-bare}
use Rattle.ft_named.proofs.Lists.{each-append}
use Rattle.ft_named.proofs.ListSteps.{StepsList}
use Rattle.ft_named.proofs.RebuiltSteps.{any-inserted, none-from-len, rebuilt-alike, rebuilt-pending, rebuilt-step, side-alike, stages-of, stages-run, stamps_in}
use Rattle.ft_named.proofs.Slid.{settle-stands}
use Rattle.ft_string.specs.Bare.{text_content}
use Rattle.ft_string.specs.Calls.{HoldsAllGiven, HoldsGiven, HoldsRejoined}
use Rattle.ft_string.specs.Holds.{HoldsText, IsTextSound, element_stages, is_on_elements}
use Rattle.ft_string.specs.Parts.{AreSound, state_of}
use Rattle.ft_string.specs.State.{element_stage}
use Rattle.ft_string.specs.declared.pending.PendingOp.{PendingOp}
use Rattle.ft_string.proofs.Documents.{keeps-end, keeps-settled, step-holds}
use Rattle.ft_string.proofs.Ends.{HaveEnds, end-moved, from-placed, same-names}
use Rattle.ft_string.proofs.NamedEnds.{IsOfOneName, beside-length, named-ends, names-gone, names-rise, names-some, names-within}
use Rattle.ft_string.proofs.StandingIndexes.{live-changed, named-end}
use Rattle.ft_string.proofs.Stages.{AreNamesIn, all-stage-names, each-filter}

-- ---- stages that go on

module _ (doc : Document) (P : Stage → Type 0) where
  -- a fact of a stage that goes on, whatever it names
  carried-one : (k : ℕ) (o : SubOperation) (names : NamedElements) → P (record { stage = k; sub_operation = o; names = names })
      → P (record { stage = k; sub_operation = o; names = settle_elements doc.text.items k names })
      → Each P (carried_stage doc (record { stage = k; sub_operation = o; names = names }))
  carried-one k (OnIntervals op) names p q = (q, tt)
  carried-one k (OnText op) names p q = step (pieces doc (record { stage = k; sub_operation = OnText op; names = names }))
    where
      here : Stage
      here = record { stage = k; sub_operation = OnText op; names = names }

      step : (ps : List SubOperation) → Each P (elim ps as (λ _. List Stage) [ [] ↦ [] | _ ∷ _ ↦ record { stage = k; sub_operation = OnText op; names = names } ∷ [] ])
      step [] = tt
      step (o ∷ os) = (p, tt)
  carried-one k (OnGrid op) names p q = step (pieces doc (record { stage = k; sub_operation = OnGrid op; names = names }))
    where
      step : (ps : List SubOperation) → Each P (elim ps as (λ _. List Stage) [ [] ↦ [] | _ ∷ _ ↦ record { stage = k; sub_operation = OnGrid op; names = names } ∷ [] ])
      step [] = tt
      step (o ∷ os) = (p, tt)

  pub carried-all : ((t : Stage) → P t → P (record t { names = settle_elements doc.text.items t.stage t.names })) → (ts : List Stage)
      → Each P ts → Each P (flat_map (carried_stage doc) ts)
  carried-all f [] h = tt
  carried-all f (t ∷ ts) h =
      each-append P (carried_stage doc t) (flat_map (carried_stage doc) ts) (carried-one t.stage t.sub_operation t.names h.0 (f t h.0)) (carried-all f ts h.1)

settled-in : (doc : Document) (t : Stage) → AreNamesIn doc.text.items t.sub_operation t.names
    → AreNamesIn doc.text.items t.sub_operation (settle_elements doc.text.items t.stage t.names)
settled-in doc t h = step t.sub_operation h
  where
    step : (o : SubOperation) → AreNamesIn doc.text.items o t.names → AreNamesIn doc.text.items o (settle_elements doc.text.items t.stage t.names)
    step (OnText op) a = ap (settle_elements doc.text.items t.stage) a
    step (OnIntervals op) a = (settle-stands doc.text.items t.stage t.names.first, settle-stands doc.text.items t.stage t.names.second)
    step (OnGrid op) a = tt

-- what stages that go on name is there
pub carried-named : (doc : Document) (ts : List Stage) → Each (λ t. AreNamesIn doc.text.items t.sub_operation t.names) ts
    → Each (λ t. AreNamesIn doc.text.items t.sub_operation t.names) (flat_map (carried_stage doc) ts)
carried-named doc ts h = carried-all doc (λ t. AreNamesIn doc.text.items t.sub_operation t.names) (settled-in doc) ts h

pub above-zero : (low last : ℕ) (ts : List Stage) → RiseTo low last ts → Each (λ t. 0 < t.stage) ts
above-zero low last [] h = tt
above-zero low last (t ∷ ts) h = (let up = h.0 in omega arith, above-zero t.stage last ts h.1)

-- ---- numbers of stages

rises-of : (low last : ℕ) (ts : List Stage) → RiseTo low last ts → Rises low (map (λ t. t.stage) ts)
rises-of low last [] h = tt
rises-of low last (t ∷ ts) h = (h.0, rises-of t.stage last ts h.1)

most-of : (low last : ℕ) (ts : List Stage) → RiseTo low last ts → (low ≤ last) × (list_all (λ m. nat_le m last) (map (λ t. t.stage) ts) ≡ true)
most-of low last [] h = (h, refl)
most-of low last (t ∷ ts) h =
    let rest = most-of t.stage last ts h.1 in
    (let up = h.0 in let more = rest.0 in omega arith, rw (from_self t.stage last rest.0, rest.1) refl)

-- a number that no stage has
other-number : (j : ℕ) (ts : List Stage) → list_any (nat_eq j) (map (λ t. t.stage) ts) ≡ false
    → list_any (λ t. nat_eq j t.stage && puts_text_in t.sub_operation) ts ≡ false
other-number j [] h = refl
other-number j (t ∷ ts) h = step (nat_eq j t.stage) (list_any (nat_eq j) (map (λ t. t.stage) ts)) h refl (λ g. other-number j ts g)
  where
    step : (b c : Bool) → b || c ≡ false → nat_eq j t.stage ≡ b → (c ≡ false → list_any (λ t. nat_eq j t.stage && puts_text_in t.sub_operation) ts ≡ false)
        → (nat_eq j t.stage && puts_text_in t.sub_operation) || list_any (λ t. nat_eq j t.stage && puts_text_in t.sub_operation) ts ≡ false
    step true c g e f = (cc)
    step false c g e f = rw (e, f g) refl

zero-number : (low last : ℕ) (ts : List Stage) → RiseTo low last ts → list_any (λ t. nat_eq 0 t.stage && puts_text_in t.sub_operation) ts ≡ false
zero-number low last [] h = refl
zero-number low last (t ∷ ts) h = rw (apart t.stage (let up = h.0 in omega arith), zero-number t.stage last ts h.1) refl
  where
    apart : (m : ℕ) → 0 < m → nat_eq 0 m ≡ false
    apart m l = grind (arith, nat_tests)

-- ---- the tree

module _ (tree : TreeState TextContent) (c : CollectionsState) (ops : List PendingOp) (given : ℕ) (usable : Bool) (last : ℕ) (doc : Document) (stages held : List Stage)
    (text : IsTextSound last doc stages) (holds : HoldsText (state_of tree c ops given usable) doc held) where
  abbrev es : List ListElement
  es = doc.text.items

  abbrev ms : List ℕ
  ms = map (λ t. t.stage) stages

  list : AreElements text_content (text_elements tree) es
  list = from-bare text_content (text_elements tree) es holds.elements

  pub text-side : StandSideBySide stamps_in (text_elements tree)
  text-side = side-alike text_content list (stages-run inserts_text removes_text stages es text.place.marks text.place.side_by_side)

  staged : IsStagedAmong ms es
  staged k h = text.own k (other-number k stages h)

  first : len (is_inserted_by 0) es ≡ 0
  first = text.own 0 (zero-number 0 last stages text.rise)

  of : AreStagesOf 0 last es ms
  of =
      stages-of 0 last es ms (rises-of 0 last stages text.rise) (λ j l h. none-from-len j es (staged j h)) (most-of 0 last stages text.rise).1

  pub text-up_to : StagesUpTo stamps_in last (text_elements tree)
  text-up_to = record {
    first = any-inserted text_content 0 list ∙ none-from-len 0 es first;
    above = λ k l. any-inserted text_content k list ∙ none-from-len k es (text.list.stages k l);
  }

  module _ (new : TreeState TextContent) (elements : text_elements new ≡ tree_rebuilt last (text_elements tree))
      (refs : ChangesReferences (with_place (rebuilt_place stamps_in last (text_elements tree))) tree.refs new.refs) where
    abbrev after : Document
    after = rebuilt_document ms doc

    abbrev f : ℕ → ℕ
    f = rebuilt_place stamps_in last (text_elements tree)

    step : StepsList last 0 f doc.text after.text
    step =
        rebuilt-step text_content last ms doc.text text.list of (rises-of 0 last stages text.rise) staged list
        (rebuilt-pending last ms doc.text of text.list.stages first)

    moved : (r : Option ℕ) → place_of_end new.refs r ≡ option_map f (place_of_end tree.refs r)
    moved r = end-moved f tree.refs new.refs refs r

    abbrev fs : List ListElement
    fs = after.text.items

    abbrev Named : Option ℕ → Type 0
    Named = IsOfOneName tree.refs new.refs es fs

    have-names : HaveEnds Named c.acked
    have-names = named-ends tree.refs new.refs es fs (λ r o t e. keeps-settled last 0 f doc.text after.text step tree.refs new.refs moved r o t e) text.intervals
        (from-placed tree.refs es c.acked doc.intervals holds.intervals)

    kept-order : sequenced_elements fs ≡ sequenced_elements es
    kept-order = ap (λ (d : Document). d.text.items) (rebuilt-sequenced ms doc)

    sequenced-stays : (n : ℕ) → 1 ≤ len (has_id (SequencedId n)) es → 1 ≤ len (has_id (SequencedId n)) fs
    sequenced-stays n t = step.stays (SequencedId n) t

    new-length : length (text_elements new) ≡ length fs
    new-length = beside-length (subst (λ xs. AreElements text_content xs fs) (sym elements) (rebuilt-alike text_content last ms doc.text text.list of list))

    -- the indexes of intervals stand, since the sequenced elements stay in their order
    pub text-stands : (idx : List LabelIndex) → (let x : IndexedState = record { state = c; indexes = idx } in StandsOn tree x → StandsOn new x)
    text-stands idx st = record {
      live = live-changed (with_place f) tree.refs new.refs refs c st.live;
      listed = λ l. kept-listed (length (text_elements tree)) (length (text_elements new)) tree.refs new.refs
          (λ j. ends_of_name (l, j) c.acked) (index_of l idx) (λ r. Named (Some r))
          (λ j r e. named-end Named c.acked have-names (l, j) r e)
          (λ r q e d w h. subst (λ u. IsAtMost u (reference_place new.refs q)) (sym e.behind) (subst (λ u. IsAtMost (place_in_list fs e.name) u) (sym d.behind)
          (names-rise es fs kept-order sequenced-stays e.name d.name e.settled d.settled
          (subst (λ u. IsAtMost u (place_in_list es d.name)) e.before (subst (λ u. IsAtMost (reference_place tree.refs r) u) d.before h)))))
          (λ r e w. subst (λ u. IsWithin (length (text_elements new)) u) (sym e.behind) (subst (λ n. IsWithin n (place_in_list fs e.name)) (sym new-length)
          (names-within es fs kept-order sequenced-stays e.name e.settled)))
          (λ r q e d w v h. ap (λ u. is_some u) e.behind ∙ names-some es fs kept-order sequenced-stays e.name
          ∙ sym (ap (λ u. is_some u) e.before) ∙ h ∙ ap (λ u. is_some u) d.before
          ∙ sym (names-some es fs kept-order sequenced-stays d.name) ∙ sym (ap (λ u. is_some u) d.behind))
          (λ r e h. e.behind ∙ names-gone es fs kept-order sequenced-stays e.name (sym e.before ∙ h)) (st.listed l);
    }

    module _ (made : new.made ≡ tree.made) (sound : AreSound tree c) (named : Each (λ t. AreNamesIn es t.sub_operation t.names) held) where
      pub text-rejoined : HoldsText (state_of new c ops given usable) after held
      text-rejoined =
          step-holds tree new c ops given usable last last 0 f (λ o. o) doc after held (record { list = text.list; intervals = text.intervals; names = named }) sound holds
          (subst (λ xs. AreElements text_content xs after.text.items) (sym elements) (rebuilt-alike text_content last ms doc.text text.list of list))
          step (let same = made in omega arith) (sym (same-names doc.intervals))
          (λ r o a t e. keeps-settled last 0 f doc.text after.text step tree.refs new.refs moved r o t e)
          (λ r o a t e. keeps-end last 0 f doc.text after.text step tree.refs new.refs moved r o t e)

-- ---- the call

-- operations of stages above zero
ops-above : (doc : Document) (ops : List PendingOp) (us : List Stage) → Each (λ t. 0 < t.stage) us
    → map element_stage ops ≡ map (indexed_stage doc) us → All (λ t. 0 < t.stage) ops
ops-above doc [] us h e = All-nil (λ (t : PendingOp). 0 < t.stage)
ops-above doc (o ∷ os) [] h e = (cc)
ops-above doc (o ∷ os) (u ∷ us) h e =
    let first : element_stage o ≡ indexed_stage doc u = (cc) in
    let rest : map element_stage os ≡ map (indexed_stage doc) us = (cc) in
    let same : o.stage ≡ u.stage = ap (λ (x : IndexedStage). x.stage) first in
    All-cons (λ (t : PendingOp). 0 < t.stage) o os (let up = h.0 in omega arith) (ops-above doc os us h.1 rest)

pub rejoined-ahead : (last : ℕ) (tree : TreeState TextContent) (c : CollectionsState) (ops : List PendingOp) (given : ℕ) (usable : Bool)
    → HoldsAllGiven last (state_of tree c ops given usable) → All (λ t. 0 < t.stage) ops
rejoined-ahead last tree c ops given usable h =
    let ss = flat_map (carried_stage h.doc) h.stages ++ [] in
    ops-above h.doc ops (element_stages ss)
    (each-filter (λ t. 0 < t.stage) (λ t. is_on_elements t.sub_operation) ss
    (subst (λ us. Each (λ t. 0 < t.stage) us) (sym (append-nil (flat_map (carried_stage h.doc) h.stages)))
    (carried-all h.doc (λ t. 0 < t.stage) (λ t p. p) h.stages (above-zero 0 last h.stages h.sound.rise)))) h.holds.ops

module _ (tree new : TreeState TextContent) (c : CollectionsState) (ops : List PendingOp) (given more : ℕ) (usable other : Bool) (last : ℕ) (doc : Document) (stages : List Stage)
    (text : IsTextSound last doc stages) (holds : HoldsGiven (state_of tree c ops given usable) doc stages []) where
  pub given-side : StandSideBySide stamps_in (text_elements tree)
  given-side = text-side tree c ops given usable last doc stages (flat_map (carried_stage doc) stages ++ []) text holds

  pub given-up_to : StagesUpTo stamps_in last (text_elements tree)
  given-up_to = text-up_to tree c ops given usable last doc stages (flat_map (carried_stage doc) stages ++ []) text holds

  pub rejoined-whole : text_elements new ≡ tree_rebuilt last (text_elements tree)
      → ChangesReferences (with_place (rebuilt_place stamps_in last (text_elements tree))) tree.refs new.refs → new.made ≡ tree.made → AreSound tree c
      → HoldsRejoined (state_of new c ops more other) doc stages
  rejoined-whole elements refs made sound =
      let ss = flat_map (carried_stage doc) stages in
      let all = subst (λ us. HoldsText (state_of tree c ops given usable) doc us) (append-nil ss) holds in
      let h = text-rejoined tree c ops given usable last doc stages ss text all new elements refs made sound (carried-named doc stages (all-stage-names doc stages text.names)) in
      record { elements = h.elements; made = h.made; intervals = h.intervals; ops = h.ops; interval_ops = h.interval_ops }

-- the references stay sound
-- the indexes stand
pub rejoined-stands : (tree new : TreeState TextContent) (c : IndexedState) (ops : List PendingOp) (given : ℕ) (usable : Bool) (last : ℕ)
    (doc : Document) (stages : List Stage)
    (text : IsTextSound last doc stages) → HoldsGiven (state_of tree c.state ops given usable) doc stages [] → text_elements new ≡ tree_rebuilt last (text_elements tree)
    → ChangesReferences (with_place (rebuilt_place stamps_in last (text_elements tree))) tree.refs new.refs → StandsOn tree c → StandsOn new c
rejoined-stands tree new c ops given usable last doc stages text holds elements refs s =
    text-stands tree c.state ops given usable last doc stages (flat_map (carried_stage doc) stages ++ []) text holds new elements refs c.indexes s
