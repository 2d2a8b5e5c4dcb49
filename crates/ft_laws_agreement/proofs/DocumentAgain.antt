-- What is known of a client's document stays known of the rebuilt one, with the stages that are sent again.
use Rattle.std.proofs.Common.{◌≡◌, ◌⊎◌, inl, inr, ℕ, zero, suc, ◌-◌, ◌≤◌, ◌<◌, Bool, true, false, cond, ◌&&◌, ◌||◌, nat_eq, List, [], ◌∷◌, ◌++◌, map, replicate, refl, sym, subst, arith}
use Rattle.std.specs.List.{list_all, flat_map}
use Rattle.std.proofs.lemmas.Bool.Decides.{nat_tests}
use Rattle.ft_op.specs.declared.operations.BaseOp.TheVariants.{Insert, Remove, Annotate}
use Rattle.ft_op.specs.declared.operations.CellOp.TheVariants.{SpliceIn, SpliceOut, Set}
use Rattle.ft_op.specs.declared.operations.Target.TheVariants.{Rows, Cols}
use Rattle.ft_op.specs.declared.operations.TextOp.{TextOp}
use Rattle.ft_base.proofs.Booleans.{both}
use Rattle.ft_props.specs.declared.properties.Changes.{Changes}
use Rattle.ft_props.specs.Properties.{PropertyList, apply}
use Rattle.ft_props.specs.Element.{ElementContent, GridUnit, ListElement}
use Rattle.ft_props.specs.Steps.{is_annotated_by, is_removed_by, lowered_runs, marked_runs, stage_position}
use Rattle.ft_props.proofs.AcknowledgedInsertion.{expects, list_up_to}
use Rattle.ft_op.specs.Operation.{OnGrid, OnIntervals, OnText, SubOperation, segment_contents}
use Rattle.ft_op.specs.Intervals.{NamedElements}
use Rattle.ft_op.specs.Document.{Document}
use Rattle.ft_op.specs.Pieces.{is_named_and_seen, pieces, position_of_named, unless_empty}
use Rattle.ft_msg.specs.Reconnection.{rebuilt_document}
use Rattle.ft_laws_agreement.proofs.StageEdits.{PutIn, TakenOut, Annotated, IsStanding}
use Rattle.ft_laws_agreement.proofs.SentStages.{SentStage, IsPlaced, NamesBy, StageStands, Tells, cols_edit, ends_alike, placed, rows_edit, text_edit}
use Rattle.ft_laws_agreement.proofs.AgreedStage.{IsSound}
use Rattle.ft_laws_agreement.proofs.DistinctNames.{names-once}
use Rattle.ft_laws_agreement.proofs.GoneStages.{fewer-all, is_free_of, is_nothing, nothing-stands, standing-free}
use Rattle.ft_laws_agreement.proofs.RebuiltDocument.{rebuilt-sequenced}
use Rattle.ft_laws_agreement.proofs.SideBySideStages.{all-runs}
use Rattle.ft_laws_agreement.proofs.StagesAgain.{CanBeRebuilt, interval-named, list-again, names_again, rebuilt-order, rebuilt-within, retold, stage_as, tells-retold, unit-named, untouched-again}
use Rattle.ft_laws_agreement.proofs.ToldStages.{AllStand, AreTold, Holds, Rise, ToldStage, stage_numbers}
use Rattle.ft_laws_agreement.proofs.WithinStages.{is_among, is_within}
use Rattle.ft_laws_agreement.proofs.HoldsAfterOwn.{rise-last}
use Rattle.ft_laws_agreement.proofs.HoldsAfterAcknowledgement.{rise-weaker}

-- ---- one stage

module _ (n last conn k : ℕ) (ts : List ToldStage) (doc : Document) (text : CanBeRebuilt n last ts doc.text) (rows : CanBeRebuilt n last ts doc.rows)
    (cols : CanBeRebuilt n last ts doc.cols) (below : k < last) where
  text-again : (r d a b : ℕ) (ranges : List (ℕ × ℕ)) (other : TextOp) (o : SubOperation) (names : NamedElements)
      → IsStanding k r d (text_edit (placed a b ranges other o)) doc.text.items
      → IsStanding k n conn (text_edit (retold doc (suc k) names o)) (rebuilt_document (stage_numbers ts) doc).text.items
  text-again r d a b ranges other (OnText (Insert p seg props)) names h = list-again n last ts doc.text text conn k below r d (PutIn a (apply [] props) (segment_contents seg)) h
  text-again r d a b ranges other (OnText (Remove p q)) names h = list-again n last ts doc.text text conn k below r d (TakenOut ranges) h
  text-again r d a b ranges other (OnText (Annotate p q changes)) names h = list-again n last ts doc.text text conn k below r d (Annotated ranges changes) h
  text-again r d a b ranges other (OnIntervals op) names h = untouched-again n last ts doc.text text conn k below r d h
  text-again r d a b ranges other (OnGrid (SpliceIn target p count)) names h = untouched-again n last ts doc.text text conn k below r d h
  text-again r d a b ranges other (OnGrid (SpliceOut target p q)) names h = untouched-again n last ts doc.text text conn k below r d h
  text-again r d a b ranges other (OnGrid (Set i j value)) names h = untouched-again n last ts doc.text text conn k below r d h

  rows-again : (r d a b : ℕ) (ranges : List (ℕ × ℕ)) (other : TextOp) (o : SubOperation) (names : NamedElements)
      → IsStanding k r d (rows_edit (placed a b ranges other o)) doc.rows.items
      → IsStanding k n conn (rows_edit (retold doc (suc k) names o)) (rebuilt_document (stage_numbers ts) doc).rows.items
  rows-again r d a b ranges other (OnText (Insert p seg props)) names h = untouched-again n last ts doc.rows rows conn k below r d h
  rows-again r d a b ranges other (OnText (Remove p q)) names h = untouched-again n last ts doc.rows rows conn k below r d h
  rows-again r d a b ranges other (OnText (Annotate p q changes)) names h = untouched-again n last ts doc.rows rows conn k below r d h
  rows-again r d a b ranges other (OnIntervals op) names h = untouched-again n last ts doc.rows rows conn k below r d h
  rows-again r d a b ranges other (OnGrid (SpliceIn Rows p count)) names h = list-again n last ts doc.rows rows conn k below r d (PutIn a [] (replicate count GridUnit)) h
  rows-again r d a b ranges other (OnGrid (SpliceIn Cols p count)) names h = untouched-again n last ts doc.rows rows conn k below r d h
  rows-again r d a b ranges other (OnGrid (SpliceOut Rows p q)) names h = list-again n last ts doc.rows rows conn k below r d (TakenOut ranges) h
  rows-again r d a b ranges other (OnGrid (SpliceOut Cols p q)) names h = untouched-again n last ts doc.rows rows conn k below r d h
  rows-again r d a b ranges other (OnGrid (Set i j value)) names h = untouched-again n last ts doc.rows rows conn k below r d h

  cols-again : (r d a b : ℕ) (ranges : List (ℕ × ℕ)) (other : TextOp) (o : SubOperation) (names : NamedElements)
      → IsStanding k r d (cols_edit (placed a b ranges other o)) doc.cols.items
      → IsStanding k n conn (cols_edit (retold doc (suc k) names o)) (rebuilt_document (stage_numbers ts) doc).cols.items
  cols-again r d a b ranges other (OnText (Insert p seg props)) names h = untouched-again n last ts doc.cols cols conn k below r d h
  cols-again r d a b ranges other (OnText (Remove p q)) names h = untouched-again n last ts doc.cols cols conn k below r d h
  cols-again r d a b ranges other (OnText (Annotate p q changes)) names h = untouched-again n last ts doc.cols cols conn k below r d h
  cols-again r d a b ranges other (OnIntervals op) names h = untouched-again n last ts doc.cols cols conn k below r d h
  cols-again r d a b ranges other (OnGrid (SpliceIn Rows p count)) names h = untouched-again n last ts doc.cols cols conn k below r d h
  cols-again r d a b ranges other (OnGrid (SpliceIn Cols p count)) names h = list-again n last ts doc.cols cols conn k below r d (PutIn a [] (replicate count GridUnit)) h
  cols-again r d a b ranges other (OnGrid (SpliceOut Rows p q)) names h = untouched-again n last ts doc.cols cols conn k below r d h
  cols-again r d a b ranges other (OnGrid (SpliceOut Cols p q)) names h = list-again n last ts doc.cols cols conn k below r d (TakenOut ranges) h
  cols-again r d a b ranges other (OnGrid (Set i j value)) names h = untouched-again n last ts doc.cols cols conn k below r d h

  choice-some : (b : Bool) (o p : SubOperation) (os : List SubOperation) → cond b (o ∷ []) [] ≡ p ∷ os → b ≡ true
  choice-some true o p os h = refl
  choice-some false o p os h = (cc)

  named-again : (r d a b : ℕ) (ranges : List (ℕ × ℕ)) (other : TextOp) (o p : SubOperation) (os : List SubOperation) (names : NamedElements) → ends_alike o other ≡ true
      → StageStands k r d (placed a b ranges other o) names doc → pieces doc (stage_as (suc k) o names) ≡ p ∷ os
      → NamesBy (expects n conn (suc (suc k))) (list_up_to k (rebuilt_document (stage_numbers ts) doc).text.items)
      (list_up_to k (rebuilt_document (stage_numbers ts) doc).rows.items) (list_up_to k (rebuilt_document (stage_numbers ts) doc).cols.items)
      (retold doc (suc k) names o) (names_again doc (suc k) names o)
  named-again r d a b ranges other (OnText (Insert q seg props)) p os names e h g = tt
  named-again r d a b ranges other (OnText (Remove q l)) p os names e h g = tt
  named-again r d a b ranges other (OnText (Annotate q l changes)) p os names e h g = tt
  named-again r d a b ranges other (OnIntervals op) p os names e h g = interval-named n last ts doc.text text conn k below r d op other names h.text e h.named
  named-again r d a b ranges other (OnGrid (SpliceIn target q count)) p os names e h g = tt
  named-again r d a b ranges other (OnGrid (SpliceOut target q l)) p os names e h g = tt
  named-again r d a b ranges other (OnGrid (Set i j value)) p os names e h g =
      let seen = both (is_named_and_seen (suc k) doc.rows.items names.first) (is_named_and_seen (suc k) doc.cols.items names.second)
      (choice-some (is_named_and_seen (suc k) doc.rows.items names.first && is_named_and_seen (suc k) doc.cols.items names.second)
      (OnGrid (Set (position_of_named (suc k - 1) doc.rows.items names.first) (position_of_named (suc k - 1) doc.cols.items names.second) value)) p os g) in
      (unit-named n last ts doc.rows rows conn k below r d names.first h.rows seen.0, unit-named n last ts doc.cols cols conn k below r d names.second h.cols seen.1)

  -- a stage with a piece stands in the rebuilt document
  placed-again : (r d a b : ℕ) (ranges : List (ℕ × ℕ)) (other : TextOp) (o p : SubOperation) (os : List SubOperation) (names : NamedElements) → ends_alike o other ≡ true
      → StageStands k r d (placed a b ranges other o) names doc → pieces doc (stage_as (suc k) o names) ≡ p ∷ os
      → StageStands k n conn (retold doc (suc k) names o) (names_again doc (suc k) names o) (rebuilt_document (stage_numbers ts) doc)
  placed-again r d a b ranges other o p os names e h g = record {
    text = text-again r d a b ranges other o names h.text;
    rows = rows-again r d a b ranges other o names h.rows;
    cols = cols-again r d a b ranges other o names h.cols;
    named = named-again r d a b ranges other o p os names e h g;
  }

-- ---- a stage without a piece does nothing

no-items : (items : List ElementContent) (o : SubOperation) (at : ℕ) (props : PropertyList) → unless_empty items o ≡ [] → is_nothing (PutIn at props items) ≡ true
no-items [] o at props h = refl
no-items (b ∷ bs) o at props h = (cc)

no-ranges : (f : ℕ × ℕ → SubOperation) (ranges : List (ℕ × ℕ)) → map f ranges ≡ [] → is_nothing (TakenOut ranges) ≡ true
no-ranges f [] h = refl
no-ranges f (r ∷ ranges) h = (cc)

no-changes : (f : ℕ × ℕ → SubOperation) (changes : Changes) (ranges : List (ℕ × ℕ)) → map f ranges ≡ [] → is_nothing (Annotated ranges changes) ≡ true
no-changes f changes [] h = refl
no-changes f changes (r ∷ ranges) h = (cc)

no-units : (count at : ℕ) (o : SubOperation) → cond (nat_eq count 0) [] (o ∷ []) ≡ [] → is_nothing (PutIn at [] (replicate count GridUnit)) ≡ true
no-units zero at o h = refl
no-units (suc count) at o h = absurd (no-piece (nat_eq (suc count) 0) refl h)
  where
    no-piece : (b : Bool) → nat_eq (suc count) 0 ≡ b → cond b [] (o ∷ []) ≡ [] → ⊥
    no-piece true e g = absurd (grind (arith, nat_tests))
    no-piece false e g = (cc)

-- it does nothing to any list
record IsIdle (sent : SentStage) : Type 0 where
  text : is_nothing (text_edit sent) ≡ true
  rows : is_nothing (rows_edit sent) ≡ true
  cols : is_nothing (cols_edit sent) ≡ true

gone-idle : (doc : Document) (k : ℕ) (o : SubOperation) (names : NamedElements) → pieces doc (stage_as k o names) ≡ [] → IsIdle (retold doc k names o)
gone-idle doc k (OnText (Insert p seg props)) names h = record {
  text = no-items (segment_contents seg)
      (OnText (Insert (stage_position k doc.text.items) seg props)) (stage_position k doc.text.items) (apply [] props) h;
  rows = refl;
  cols = refl;
}
gone-idle doc k (OnText (Remove p q)) names h = record {
  text = no-ranges (λ r. OnText (Remove r.0 r.1))
      (lowered_runs 0 (marked_runs k (is_removed_by k) doc.text.items)) h;
  rows = refl;
  cols = refl;
}
gone-idle doc k (OnText (Annotate p q changes)) names h = record {
  text = no-changes (λ r. OnText (Annotate r.0 r.1 changes)) changes
      (marked_runs k (is_annotated_by k) doc.text.items) h;
  rows = refl;
  cols = refl;
}
gone-idle doc k (OnIntervals op) names h = record { text = refl; rows = refl; cols = refl }
gone-idle doc k (OnGrid (SpliceIn Rows p count)) names h = record {
  text = refl;
  rows = no-units count (stage_position k doc.rows.items)
      (OnGrid (SpliceIn Rows (stage_position k doc.rows.items) count)) h;
  cols = refl;
}
gone-idle doc k (OnGrid (SpliceIn Cols p count)) names h = record {
  text = refl;
  rows = refl;
  cols = no-units count (stage_position k doc.cols.items)
      (OnGrid (SpliceIn Cols (stage_position k doc.cols.items) count)) h;
}
gone-idle doc k (OnGrid (SpliceOut Rows p q)) names h = record {
  text = refl;
  rows = no-ranges (λ r. OnGrid (SpliceOut Rows r.0 r.1))
      (lowered_runs 0 (marked_runs k (is_removed_by k) doc.rows.items)) h;
  cols = refl;
}
gone-idle doc k (OnGrid (SpliceOut Cols p q)) names h = record {
  text = refl;
  rows = refl;
  cols = no-ranges (λ r. OnGrid (SpliceOut Cols r.0 r.1))
      (lowered_runs 0 (marked_runs k (is_removed_by k) doc.cols.items)) h;
}
gone-idle doc k (OnGrid (Set i j value)) names h = record { text = refl; rows = refl; cols = refl }

-- nothing is marked by the stage
record AreFree (k : ℕ) (doc : Document) : Type 0 where
  text : list_all (is_free_of k) doc.text.items ≡ true
  rows : list_all (is_free_of k) doc.rows.items ≡ true
  cols : list_all (is_free_of k) doc.cols.items ≡ true

gone-free : (n last conn k : ℕ) (ts : List ToldStage) (doc : Document) (text : CanBeRebuilt n last ts doc.text) (rows : CanBeRebuilt n last ts doc.rows)
    (cols : CanBeRebuilt n last ts doc.cols) → k < last
    → (r d a b : ℕ) (ranges : List (ℕ × ℕ)) (other : TextOp) (o : SubOperation) (names : NamedElements)
    → StageStands k r d (placed a b ranges other o) names doc → pieces doc (stage_as (suc k) o names) ≡ []
    → AreFree (suc k) (rebuilt_document (stage_numbers ts) doc)
gone-free n last conn k ts doc text rows cols below r d a b ranges other o names h g =
    let idle = gone-idle doc (suc k) o names g in
    let sent = retold doc (suc k) names o in
    let after = rebuilt_document (stage_numbers ts) doc in
    record {
      text = standing-free k n conn after.text.items (rebuilt-order n last ts doc.text text)
          (nothing-stands k n conn (text_edit sent) after.text.items idle.text (text-again n last conn k ts doc text rows cols below r d a b ranges other o names h.text));
      rows = standing-free k n conn after.rows.items (rebuilt-order n last ts doc.rows rows)
          (nothing-stands k n conn (rows_edit sent) after.rows.items idle.rows (rows-again n last conn k ts doc text rows cols below r d a b ranges other o names h.rows));
      cols = standing-free k n conn after.cols.items (rebuilt-order n last ts doc.cols cols)
          (nothing-stands k n conn (cols_edit sent) after.cols.items idle.cols (cols-again n last conn k ts doc text rows cols below r d a b ranges other o names h.cols));
    }

-- ---- all stages

-- the stage as it is sent again with reference number n
abbrev pub retold_stage : Document → ℕ → ToldStage → ToldStage
retold_stage doc n t = record {
  stage = record { stage = t.stage.stage; sub_operation = t.stage.sub_operation; names = names_again doc t.stage.stage t.stage.names t.stage.sub_operation };
  before = t.before;
  ref = n;
  sent = retold doc t.stage.stage t.stage.names t.stage.sub_operation;
}

-- the stage, unless it has no piece
abbrev pub unless_gone : List SubOperation → ToldStage → List ToldStage
unless_gone [] t = []
unless_gone (o ∷ os) t = t ∷ []

abbrev pub again : Document → ℕ → ToldStage → List ToldStage
again doc n t = unless_gone (pieces doc t.stage) (retold_stage doc n t)

rise-again : (doc : Document) (n j last : ℕ) (ts : List ToldStage) → Rise j last ts → Rise j last (flat_map (again doc n) ts)
rise-again doc n j last [] h = h
rise-again doc n j last (t ∷ ts) h = by_pieces (pieces doc t.stage) (rise-again doc n (suc t.before) last ts h.1)
  where
    by_pieces : (ps : List SubOperation) → Rise (suc t.before) last (flat_map (again doc n) ts) → Rise j last (unless_gone ps (retold_stage doc n t) ++ flat_map (again doc n) ts)
    by_pieces [] ih =
        let here : j ≤ t.before = h.0 in
        rise-weaker j (suc t.before) last (flat_map (again doc n) ts) (omega arith) ih
    by_pieces (p ∷ ps) ih = (h.0, ih)

told-again : (doc : Document) (m n : ℕ) (ts : List ToldStage) → AreTold m ts → AreTold n (flat_map (again doc n) ts)
told-again doc m n [] h = tt
told-again doc m n (t ∷ ts) h = by_pieces (pieces doc t.stage) (told-again doc m n ts h.3)
  where
    by_pieces : (ps : List SubOperation) → AreTold n (flat_map (again doc n) ts) → AreTold n (unless_gone ps (retold_stage doc n t) ++ flat_map (again doc n) ts)
    by_pieces [] ih = ih
    by_pieces (p ∷ ps) ih = (h.0, tells-retold doc t.stage.stage t.stage.names t.stage.sub_operation, omega arith, ih)

module _ (c m n last conn : ℕ) (ts : List ToldStage) (doc : Document) (h : Holds c m n last ts doc) where
  abbrev after : Document
  after = rebuilt_document (stage_numbers ts) doc

  text-ready : CanBeRebuilt n last ts doc.text
  text-ready = record {
    rising = h.rising;
    within = h.text;
    order = h.text_order;
    runs = all-runs c doc (λ d. d.text.items) text_edit (λ t s. s.text) n ts h.text h.stand;
    once = names-once c doc (λ d. d.text.items) text_edit (λ t s. s.text) n ts h.text h.stand h.sound.named.once;
  }

  rows-ready : CanBeRebuilt n last ts doc.rows
  rows-ready = record {
    rising = h.rising;
    within = h.rows;
    order = h.rows_order;
    runs = all-runs c doc (λ d. d.rows.items) rows_edit (λ t s. s.rows) n ts h.rows h.stand;
    once = names-once c doc (λ d. d.rows.items) rows_edit (λ t s. s.rows) n ts h.rows h.stand h.sound.rows.once;
  }

  cols-ready : CanBeRebuilt n last ts doc.cols
  cols-ready = record {
    rising = h.rising;
    within = h.cols;
    order = h.cols_order;
    runs = all-runs c doc (λ d. d.cols.items) cols_edit (λ t s. s.cols) n ts h.cols h.stand;
    once = names-once c doc (λ d. d.cols.items) cols_edit (λ t s. s.cols) n ts h.cols h.stand h.sound.cols.once;
  }

  -- a stage stands again where it has a piece, and has no mark where it has none
  abbrev IsAgain : List SubOperation → ToldStage → Type 0
  IsAgain [] t = AreFree (suc t.before) after
  IsAgain (p ∷ ps) t = StageStands t.before n conn (retold_stage doc n t).sent (retold_stage doc n t).stage.names after

  stage-again : (k r : ℕ) (o : SubOperation) (sent : SentStage) (names : NamedElements) (place : IsPlaced o sent) → k < last → StageStands k r c sent names doc
      → (ps : List SubOperation) → pieces doc (stage_as (suc k) o names) ≡ ps
      → IsAgain ps (record { stage = stage_as (suc k) o names; before = k; ref = r; sent = sent })
  stage-again k r o sent names place below s [] e =
      gone-free n last conn k ts doc text-ready rows-ready cols-ready below r c place.first place.second place.ranges place.other o names
      (subst (λ u. StageStands k r c u names doc) place.made s) e
  stage-again k r o sent names place below s (p ∷ ps) e =
      placed-again n last conn k ts doc text-ready rows-ready cols-ready below r c place.first place.second place.ranges place.other o p ps names place.alike
      (subst (λ u. StageStands k r c u names doc) place.made s) e

  numbered-again : (t : ToldStage) → t.stage.stage ≡ suc t.before → Tells t.stage.sub_operation t.sent → t.before < last
      → StageStands t.before t.ref c t.sent t.stage.names doc → (ps : List SubOperation) → pieces doc t.stage ≡ ps → IsAgain ps t
  numbered-again t e tells below s ps f =
      subst (λ i. pieces doc (stage_as i t.stage.sub_operation t.stage.names) ≡ ps
      → IsAgain ps (record { stage = stage_as i t.stage.sub_operation t.stage.names; before = t.before; ref = t.ref; sent = t.sent })) (sym e)
      (stage-again t.before t.ref t.stage.sub_operation t.sent t.stage.names tells.place below s ps) f

  stand-again : (j : ℕ) (us : List ToldStage) → Rise j last us → AreTold m us → AllStand c doc us → AllStand conn after (flat_map (again doc n) us)
  stand-again j [] rise told s = tt
  stand-again j (t ∷ us) rise told s =
      let above : suc t.before ≤ last = rise-last (suc t.before) last us rise.1 in
      let below : t.before < last = omega arith in
      by_pieces (pieces doc t.stage) (numbered-again t told.0 told.1 below s.0 (pieces doc t.stage) refl) (stand-again (suc t.before) us rise.1 told.3 s.1)
    where
      by_pieces : (ps : List SubOperation) → IsAgain ps t → AllStand conn after (flat_map (again doc n) us)
          → AllStand conn after (unless_gone ps (retold_stage doc n t) ++ flat_map (again doc n) us)
      by_pieces [] here ih = ih
      by_pieces (p ∷ ps) here ih = (here, ih)

  left-again : (i j : ℕ) (us : List ToldStage) → Rise j last us → AreTold m us → AllStand c doc us → is_among (stage_numbers us) i ≡ true
      → (is_among (stage_numbers (flat_map (again doc n) us)) i ≡ true) ⊎ AreFree i after
  left-again i j [] rise told s g = (cc)
  left-again i j (t ∷ us) rise told s g =
      let above : suc t.before ≤ last = rise-last (suc t.before) last us rise.1 in
      let below : t.before < last = omega arith in
      by_number (nat_eq i (suc t.before)) refl g (pieces doc t.stage) (numbered-again t told.0 told.1 below s.0 (pieces doc t.stage) refl)
      (left-again i (suc t.before) us rise.1 told.3 s.1)
    where
      or-true : (b : Bool) → b || true ≡ true
      or-true true = refl
      or-true false = refl

      more : (ps : List SubOperation) → (is_among (stage_numbers (flat_map (again doc n) us)) i ≡ true) ⊎ AreFree i after
          → (is_among (stage_numbers (unless_gone ps (retold_stage doc n t) ++ flat_map (again doc n) us)) i ≡ true) ⊎ AreFree i after
      more [] q = q
      more (p ∷ ps) (inl q) = inl (rw q (or-true (nat_eq i (suc t.before))))
      more (p ∷ ps) (inr q) = inr q

      here-again : i ≡ suc t.before → nat_eq i (suc t.before) ≡ true → (ps : List SubOperation) → IsAgain ps t
          → (is_among (stage_numbers (unless_gone ps (retold_stage doc n t) ++ flat_map (again doc n) us)) i ≡ true) ⊎ AreFree i after
      here-again e f [] q = inr (subst (λ k. AreFree k after) (sym e) q)
      here-again e f (p ∷ ps) q = inl (rw f refl)

      by_number : (b : Bool) → nat_eq i (suc t.before) ≡ b → b || is_among (stage_numbers us) i ≡ true → (ps : List SubOperation) → IsAgain ps t
          → (is_among (stage_numbers us) i ≡ true → (is_among (stage_numbers (flat_map (again doc n) us)) i ≡ true) ⊎ AreFree i after)
          → (is_among (stage_numbers (unless_gone ps (retold_stage doc n t) ++ flat_map (again doc n) us)) i ≡ true) ⊎ AreFree i after
      by_number true e f ps here ih =
          let same : i ≡ suc t.before = grind (arith, nat_tests) in
          here-again same e ps here
      by_number false e f ps here ih = more ps (ih f)

  left : (i : ℕ) → is_among (stage_numbers ts) i ≡ true → (is_among (stage_numbers (flat_map (again doc n) ts)) i ≡ true) ⊎ AreFree i after
  left i g = left-again i 0 ts h.rising h.told h.stand g

  one-list : (list : Document → List ListElement) → ((i : ℕ) → AreFree i after → list_all (is_free_of i) (list after) ≡ true)
      → list_all (is_within n (stage_numbers ts)) (list after) ≡ true
      → list_all (is_within n (stage_numbers (flat_map (again doc n) ts))) (list after) ≡ true
  one-list list free w = fewer-all n (stage_numbers ts) (stage_numbers (flat_map (again doc n) ts)) (list after) (λ i g. or-free i (left i g)) w
    where
      or-free : (i : ℕ) → (is_among (stage_numbers (flat_map (again doc n) ts)) i ≡ true) ⊎ AreFree i after
          → (is_among (stage_numbers (flat_map (again doc n) ts)) i ≡ true) ⊎ (list_all (is_free_of i) (list after) ≡ true)
      or-free i (inl q) = inl q
      or-free i (inr q) = inr (free i q)

  -- the rebuilt document with the stages that are sent again
  pub holds-again : Holds conn n n last (flat_map (again doc n) ts) after
  holds-again = record {
    told = told-again doc m n ts h.told;
    rising = rise-again doc n 0 last ts h.rising;
    text = one-list (λ d. d.text.items) (λ i q. q.text) (rebuilt-within n last ts doc.text text-ready);
    rows = one-list (λ d. d.rows.items) (λ i q. q.rows) (rebuilt-within n last ts doc.rows rows-ready);
    cols = one-list (λ d. d.cols.items) (λ i q. q.cols) (rebuilt-within n last ts doc.cols cols-ready);
    text_order = rebuilt-order n last ts doc.text text-ready;
    rows_order = rebuilt-order n last ts doc.rows rows-ready;
    cols_order = rebuilt-order n last ts doc.cols cols-ready;
    stand = stand-again 0 ts h.rising h.told h.stand;
    sound = subst (λ d. IsSound d) (sym (rebuilt-sequenced (stage_numbers ts) doc)) h.sound;
  }
