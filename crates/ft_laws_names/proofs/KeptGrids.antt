-- What is known of the rows and columns of a client that is made or kept.
use Rattle.std.proofs.Common.{◌≡◌, ℕ, suc, ◌+◌, ◌≤◌, ◌<◌, Bool, true, false, cond, ◌&&◌, ◌||◌, nat_eq, nat_lt, List, [], ◌∷◌, ◌++◌, Option, Some, None, filter, length, map, replicate, refl, sym, ◌∙◌, ap, arith}
use Rattle.std.specs.List.{AllByRecursion, list_all, list_any}
use Rattle.std.proofs.lemmas.Bool.Decides.{nat_tests}
use Rattle.std.proofs.lemmas.List.{length-replicate}
use Rattle.std.proofs.lemmas.List.Elements.{All-from_recursion}
use Rattle.ft_base.specs.declared.stamps.Stamp.{Stamp}
use Rattle.ft_base.specs.declared.stamps.Stamp.TheVariants.{Acked, Local}
use Rattle.ft_base.specs.Scan.{len, rank}
use Rattle.ft_base.specs.Visibility.{is_acked}
use Rattle.ft_base.proofs.Booleans.{both}
use Rattle.ft_op.specs.declared.operations.CellOp.TheVariants.{SpliceIn, SpliceOut, Set}
use Rattle.ft_op.specs.declared.operations.Target.TheVariants.{Rows, Cols}
use Rattle.ft_props.specs.Properties.{PropertyList}
use Rattle.ft_props.specs.Element.{ElementContent, ElementId, GridUnit, ListElement, has_id, id, is_named_by, nameless, removal_stamp, same_id}
use Rattle.ft_props.specs.Compaction.{has_collectable_removal, is_before_pending, is_collectable}
use Rattle.ft_props.specs.Steps.{is_inserted_by}
use Rattle.ft_op.specs.Operation.{OnGrid, OnIntervals, OnText, SubOperation}
use Rattle.ft_op.specs.Intervals.{NamedElements}
use Rattle.ft_op.specs.Document.{Document}
use Rattle.ft_op.specs.Stages.{Stage}
use Rattle.ft_msg.specs.Client.{NaiveClient, floor, stages_of}
use Rattle.ft_msg.specs.Compacted.{holds_col, holds_row, stage_holds_col, stage_holds_row}
use Rattle.ft_msg.specs.Indexed.{IndexedStage, indexed_stage, place_in_list}
use Rattle.ft_laws_agreement.specs.Reconnecting.{StagesRiseTo, has_insertion_of, has_marks_of, has_removal_of, is_stage_of}
use Rattle.ft_laws_agreement.specs.Sequencing.{Each, IsBlockOf, IsReady, IsTyped, is_grid_stage, is_marked_later}
use Rattle.ft_laws_agreement.proofs.ListSteps.{len-view}
use Rattle.ft_laws_agreement.proofs.SlidEnds.{same_id-eq, same_id-refl}
use Rattle.ft_laws_compaction.specs.Free.{AreFree, IsFree}
use Rattle.ft_laws_compaction.specs.Keeping.{IsMadeOrKept}
use Rattle.ft_laws_compaction.proofs.AllSteps.{reached-sound}
use Rattle.ft_laws_compaction.proofs.KeptReady.{kept-ready}
use Rattle.ft_laws_compaction.proofs.SoundlyKept.{soundly-kept}
use Rattle.ft_laws_names.specs.GridFacts.{AreCounted, AreFreeFrom, AreUnitsBelow, HasFreeUnits, IsCounted, IsFreeUnit, begins_pending, grid_stages, is_place, is_stamp_below, is_unit_below}
use Rattle.ft_laws_names.specs.WellNamed.{AreStagesNamed, AreThere}
use Rattle.ft_laws_names.proofs.KeptNames.{made-or-kept-named}

-- ---- stages

rises-up : (j last : ℕ) (ts : List Stage) → StagesRiseTo j ts last → j ≤ last
rises-up j last [] h = h
rises-up j last (t ∷ ts) h = let l = h.0 in let m = rises-up t.stage last ts h.1 in omega arith

-- a stage is at most the last one
stage-within : (kind : SubOperation → Bool) (k j last : ℕ) (ts : List Stage) → StagesRiseTo j ts last → is_stage_of kind ts k ≡ true → k ≤ last
stage-within kind k j last [] h g = (cc)
stage-within kind k j last (t ∷ ts) h g =
    step (nat_eq t.stage k) (kind t.sub_operation) refl g (rises-up t.stage last ts h.1) (λ f. stage-within kind k t.stage last ts h.1 f)
  where
    step : (b c : Bool) → nat_eq t.stage k ≡ b → b && c || is_stage_of kind ts k ≡ true → t.stage ≤ last → (is_stage_of kind ts k ≡ true → k ≤ last) → k ≤ last
    step true true e f l ih = grind (arith, nat_tests)
    step true false e f l ih = ih f
    step false c e f l ih = ih f

module _ (inserts removes : SubOperation → Bool) (last stage : ℕ) (ts : List Stage) (rise : StagesRiseTo 0 ts last) (above : last < stage) where
  below : (kind : SubOperation → Bool) (k : ℕ) → is_stage_of kind ts k ≡ true → nat_lt k stage ≡ true
  below kind k h = let l = stage-within kind k 0 last ts rise h in grind (arith, nat_tests)

  insertion-below : (t : Stamp) → has_insertion_of inserts ts t ≡ true → is_stamp_below stage t ≡ true
  insertion-below (Acked s c) h = refl
  insertion-below (Local k) h = below inserts k h

  removals-below : (dels : List Stamp) (m : Option ℕ) → list_all is_acked dels ≡ true → has_removal_of removes ts m ≡ true
      → list_all (is_stamp_below stage) (dels ++ removal_stamp m) ≡ true
  removals-below [] None h g = refl
  removals-below [] (Some k) h g = rw (below removes k g) refl
  removals-below (Acked s c ∷ dels) m h g = removals-below dels m h g
  removals-below (Local k ∷ dels) m h g = (cc)

  unit-below : (e : ListElement) → has_marks_of inserts removes ts e ≡ true → is_unit_below stage (nameless e) ≡ true
  unit-below e h =
      let p = both (has_insertion_of inserts ts e.ins && has_removal_of removes ts e.removal_stage) (list_all is_acked e.dels) h in
      let q = both (has_insertion_of inserts ts e.ins) (has_removal_of removes ts e.removal_stage) p.0 in
      rw (insertion-below e.ins q.0, removals-below e.dels e.removal_stage p.1 q.1) refl

  units-below : (xs : List ListElement) → list_all (has_marks_of inserts removes ts) xs ≡ true → AllByRecursion (λ e. is_unit_below stage e ≡ true) (map nameless xs)
  units-below [] h = tt
  units-below (e ∷ xs) h =
      let p = both (has_marks_of inserts removes ts e) (list_all (has_marks_of inserts removes ts) xs) h in
      (unit-below e p.0, units-below xs p.1)

stages-below : (doc : Document) (stage j last : ℕ) (ts : List Stage) → StagesRiseTo j ts last → last < stage → AllByRecursion (λ (t : IndexedStage). t.stage < stage) (grid_stages doc ts)
stages-below doc stage j last [] h l = tt
stages-below doc stage j last (t ∷ ts) h l =
    let m = rises-up t.stage last ts h.1 in
    step (is_grid_stage t) (omega arith) (stages-below doc stage t.stage last ts h.1 l)
  where
    step : (b : Bool) → t.stage < stage → AllByRecursion (λ (t : IndexedStage). t.stage < stage) (grid_stages doc ts)
        → AllByRecursion (λ (t : IndexedStage). t.stage < stage) (cond b (indexed_stage doc t ∷ grid_stages doc ts) (grid_stages doc ts))
    step true a r = (a, r)
    step false a r = r

-- ---- splices

block-length : (props : PropertyList) (cs : List ElementContent) (es : List ListElement) → IsBlockOf props cs es → length es ≡ length cs
block-length props [] [] h = refl
block-length props [] (e ∷ es) h = (cc)
block-length props (c ∷ cs) [] h = (cc)
block-length props (c ∷ cs) (e ∷ es) h = ap suc (block-length props cs es h.2)

splice-length : (k count : ℕ) (xs : List ListElement) → IsBlockOf [] (replicate count GridUnit) (filter (is_inserted_by k) xs) → len (is_inserted_by k) xs ≡ count
splice-length k count xs h =
    len-view (is_inserted_by k) xs ∙ block-length [] (replicate count GridUnit) (filter (is_inserted_by k) xs) h ∙ length-replicate count GridUnit

stage-counted : (doc : Document) (k : ℕ) (names : NamedElements) (o : SubOperation) → IsTyped k doc names o → IsCounted doc k o
stage-counted doc k names (OnText op) h = tt
stage-counted doc k names (OnIntervals op) h = tt
stage-counted doc k names (OnGrid (SpliceIn Rows p count)) h = splice-length k count doc.rows.items h
stage-counted doc k names (OnGrid (SpliceIn Cols p count)) h = splice-length k count doc.cols.items h
stage-counted doc k names (OnGrid (SpliceOut target p q)) h = tt
stage-counted doc k names (OnGrid (Set p q value)) h = tt

stages-counted : (doc : Document) (ts : List Stage) → Each (λ t. IsTyped t.stage doc t.names t.sub_operation) ts → AllByRecursion (λ (t : Stage). IsCounted doc t.stage t.sub_operation) ts
stages-counted doc [] h = tt
stages-counted doc (t ∷ ts) h = (stage-counted doc t.stage t.names t.sub_operation h.0, stages-counted doc ts h.1)

-- ---- free units

none-collectable : (floor : ℕ) (m : Option ℕ) → has_collectable_removal floor (removal_stamp m) ≡ false
none-collectable floor None = refl
none-collectable floor (Some k) = refl

-- a removal at or below the floor is sequenced
first-removal : (floor : ℕ) (dels : List Stamp) (m : Option ℕ) → has_collectable_removal floor (dels ++ removal_stamp m) ≡ has_collectable_removal floor dels
first-removal floor [] m = none-collectable floor m
first-removal floor (Acked s c ∷ dels) m = refl
first-removal floor (Local k ∷ dels) m = refl

all-removals : (dels : List Stamp) (m : Option ℕ) → list_all is_acked dels ≡ true → m ≡ None → list_all is_acked (dels ++ removal_stamp m) ≡ true
all-removals [] None h e = refl
all-removals [] (Some k) h e = (cc)
all-removals (t ∷ dels) m h e = let p = both (is_acked t) (list_all is_acked dels) h in rw (p.0, all-removals dels m p.1 e) refl

begins-same : (xs : List ListElement) → begins_pending (map nameless xs) ≡ is_before_pending xs
begins-same [] = refl
begins-same (e ∷ xs) = refl

-- a pending element has no sequenced removal
removed-acked : (floor : ℕ) (e : ListElement) (t : Stamp) (dels : List Stamp) → is_marked_later (record e { ins = t; dels = dels }) ≡ true → has_collectable_removal floor dels ≡ true
    → is_acked t ≡ true
removed-acked floor e (Acked s c) dels h g = refl
removed-acked floor e (Local k) [] h g = (cc)
removed-acked floor e (Local k) (d ∷ dels) h g = (cc)

free-unit : (floor : ℕ) (held : ElementId → Bool) (named : List (Option ℕ)) (i : ℕ) (e : ListElement) (behind : List ListElement) → is_marked_later e ≡ true
    → list_all is_acked e.dels ≡ true → (is_collectable floor e ≡ true → IsFree held e behind) → (held (id e) ≡ false → list_any (is_place i) named ≡ false)
    → has_collectable_removal floor (e.dels ++ removal_stamp e.removal_stage) ≡ true → IsFreeUnit named i (nameless e) (map nameless behind)
free-unit floor held named i e behind later acked free place h =
    let gone : has_collectable_removal floor e.dels ≡ true = sym (first-removal floor e.dels e.removal_stage) ∙ h in
    let sequenced : is_acked e.ins ≡ true = removed-acked floor e e.ins e.dels later gone in
    let f = free (rw (sequenced, gone) refl) in
    record {
      insertion = sequenced;
      removals = all-removals e.dels e.removal_stage acked f.removal;
      name = place f.name;
      next = begins-same behind ∙ f.next;
    }

-- no stage has the place of an element whose name it doesn't have
place-other : (i : ℕ) (x : ElementId) (xs : List ListElement) (o : Option ElementId) → ((a : ElementId) → i ≡ rank (has_id a) (λ _. true) xs → same_id a x ≡ true)
    → is_named_by x o ≡ false → is_place i (place_in_list xs o) ≡ false
place-other i x xs None f h = refl
place-other i x xs (Some a) f h = step (nat_eq i (rank (has_id a) (λ _. true) xs)) refl
  where
    same : (m n : ℕ) → nat_eq m n ≡ true → m ≡ n
    same m n e = grind (arith, nat_tests)

    step : (b : Bool) → nat_eq i (rank (has_id a) (λ _. true) xs) ≡ b → b ≡ false
    step false e = refl
    step true e =
        let g = same_id-eq a x (f a (same i (rank (has_id a) (λ _. true) xs) e)) in
        cc (sym (same_id-refl x) ∙ ap (same_id x) (sym g) ∙ h)

module _ (doc : Document) (i : ℕ) (x : ElementId) where
  module _ (f : (a : ElementId) → i ≡ rank (has_id a) (λ _. true) doc.rows.items → same_id a x ≡ true) where
    row-other : (names : NamedElements) (o : SubOperation) (k : ℕ) (rest : List IndexedStage) → AreThere doc o names
        → stage_holds_row x (record { stage = k; sub_operation = o; names = names }) ≡ false → list_any (is_place i) (map (λ (t : IndexedStage). t.places.first) rest) ≡ false
        → list_any (is_place i) (map (λ (t : IndexedStage). t.places.first)
        (cond (is_grid_stage (record { stage = k; sub_operation = o; names = names })) (indexed_stage doc (record { stage = k; sub_operation = o; names = names }) ∷ rest) rest)) ≡ false
    row-other names (OnText op) k rest there h r = r
    row-other names (OnIntervals op) k rest there h r = r
    row-other names (OnGrid (SpliceIn target p count)) k rest there h r =
        let none : names.first ≡ None = ap (λ (n : NamedElements). n.first) there in
        rw (ap (λ o. is_place i (place_in_list doc.rows.items o)) none) r
    row-other names (OnGrid (SpliceOut target p q)) k rest there h r =
        let none : names.first ≡ None = ap (λ (n : NamedElements). n.first) there in
        rw (ap (λ o. is_place i (place_in_list doc.rows.items o)) none) r
    row-other names (OnGrid (Set p q value)) k rest there h r = rw (place-other i x doc.rows.items names.first f h) r

    rows-other : (ts : List Stage) → AreStagesNamed doc ts → list_any (stage_holds_row x) ts ≡ false
        → list_any (is_place i) (map (λ (t : IndexedStage). t.places.first) (grid_stages doc ts)) ≡ false
    rows-other [] there h = refl
    rows-other (t ∷ ts) there h =
        let p = neither (stage_holds_row x t) (list_any (stage_holds_row x) ts) h in
        row-other t.names t.sub_operation t.stage (grid_stages doc ts) there.0.0 p.0 (rows-other ts there.1 p.1)
      where
        neither : (a b : Bool) → a || b ≡ false → (a ≡ false) × (b ≡ false)
        neither true b g = (cc)
        neither false b g = (refl, g)

  module _ (f : (a : ElementId) → i ≡ rank (has_id a) (λ _. true) doc.cols.items → same_id a x ≡ true) where
    col-other : (names : NamedElements) (o : SubOperation) (k : ℕ) (rest : List IndexedStage) → AreThere doc o names
        → stage_holds_col x (record { stage = k; sub_operation = o; names = names }) ≡ false → list_any (is_place i) (map (λ (t : IndexedStage). t.places.second) rest) ≡ false
        → list_any (is_place i) (map (λ (t : IndexedStage). t.places.second)
        (cond (is_grid_stage (record { stage = k; sub_operation = o; names = names })) (indexed_stage doc (record { stage = k; sub_operation = o; names = names }) ∷ rest) rest)) ≡ false
    col-other names (OnText op) k rest there h r = r
    col-other names (OnIntervals op) k rest there h r = r
    col-other names (OnGrid (SpliceIn target p count)) k rest there h r =
        let none : names.second ≡ None = ap (λ (n : NamedElements). n.second) there in
        rw (ap (λ o. is_place i (place_in_list doc.cols.items o)) none) r
    col-other names (OnGrid (SpliceOut target p q)) k rest there h r =
        let none : names.second ≡ None = ap (λ (n : NamedElements). n.second) there in
        rw (ap (λ o. is_place i (place_in_list doc.cols.items o)) none) r
    col-other names (OnGrid (Set p q value)) k rest there h r = rw (place-other i x doc.cols.items names.second f h) r

    cols-other : (ts : List Stage) → AreStagesNamed doc ts → list_any (stage_holds_col x) ts ≡ false
        → list_any (is_place i) (map (λ (t : IndexedStage). t.places.second) (grid_stages doc ts)) ≡ false
    cols-other [] there h = refl
    cols-other (t ∷ ts) there h =
        let p = neither (stage_holds_col x t) (list_any (stage_holds_col x) ts) h in
        col-other t.names t.sub_operation t.stage (grid_stages doc ts) there.0.0 p.0 (cols-other ts there.1 p.1)
      where
        neither : (a b : Bool) → a || b ≡ false → (a ≡ false) × (b ≡ false)
        neither true b g = (cc)
        neither false b g = (refl, g)

-- ---- a list, place by place

-- places in the whole list from i on are those in what is left of it
abbrev RanksFrom : ℕ → List ListElement → List ListElement → Type 0
RanksFrom i whole xs = (a : ElementId) (n : ℕ) → i + n ≡ rank (has_id a) (λ _. true) whole → n ≡ rank (has_id a) (λ _. true) xs

ranks-next : (i : ℕ) (whole : List ListElement) (e : ListElement) (xs : List ListElement) → RanksFrom i whole (e ∷ xs) → RanksFrom (i + 1) whole xs
ranks-next i whole e xs f a n h = step (has_id a e) (rank (has_id a) (λ _. true) xs) (f a (suc n) (omega arith))
  where
    step : (b : Bool) (m : ℕ) → suc n ≡ cond b 0 (suc m) → n ≡ m
    step true m g = absurd (omega arith)
    step false m g = omega arith

named-here : (i : ℕ) (whole : List ListElement) (e : ListElement) (xs : List ListElement) → RanksFrom i whole (e ∷ xs) → (a : ElementId)
    → i ≡ rank (has_id a) (λ _. true) whole → same_id a (id e) ≡ true
named-here i whole e xs f a h = step (same_id a (id e)) (rank (has_id a) (λ _. true) xs) (f a 0 (omega arith))
  where
    step : (b : Bool) (m : ℕ) → 0 ≡ cond b 0 (suc m) → b ≡ true
    step true m g = refl
    step false m g = absurd (omega arith)

module _ (floor : ℕ) (held : ElementId → Bool) (named : List (Option ℕ)) (whole : List ListElement)
    (other : (i : ℕ) (x : ElementId) → ((a : ElementId) → i ≡ rank (has_id a) (λ _. true) whole → same_id a x ≡ true) → held x ≡ false → list_any (is_place i) named ≡ false) where
  free-from : (i : ℕ) (xs : List ListElement) → RanksFrom i whole xs → list_all is_marked_later xs ≡ true → list_all (λ e. list_all is_acked e.dels) xs ≡ true
      → AreFree floor held xs → AreFreeFrom floor named i (map nameless xs)
  free-from i [] f later acked free = tt
  free-from i (e ∷ xs) f later acked free =
      let p = both (is_marked_later e) (list_all is_marked_later xs) later in
      let q = both (list_all is_acked e.dels) (list_all (λ (e : ListElement). list_all is_acked e.dels) xs) acked in (
        free-unit floor held named i e xs p.0 q.0 free.0 (λ h. other i (id e) (named-here i whole e xs f) h),
        free-from (i + 1) xs (ranks-next i whole e xs f) p.1 q.1 free.1,
      )

marks-acked : (inserts removes : SubOperation → Bool) (ts : List Stage) (xs : List ListElement) → list_all (has_marks_of inserts removes ts) xs ≡ true
    → list_all (λ (e : ListElement). list_all is_acked e.dels) xs ≡ true
marks-acked inserts removes ts [] h = refl
marks-acked inserts removes ts (e ∷ xs) h =
    let p = both (has_marks_of inserts removes ts e) (list_all (has_marks_of inserts removes ts) xs) h in
    rw ((both (has_insertion_of inserts ts e.ins && has_removal_of removes ts e.removal_stage) (list_all is_acked e.dels) p.0).1, marks-acked inserts removes ts xs p.1) refl

-- ---- the client

pub made-or-kept-ready : (start : Document) (kept : NaiveClient) → IsMadeOrKept start kept → IsReady kept
made-or-kept-ready start kept h = kept-ready h.reached.steps h.whole kept (reached-sound h.whole h.reached) h.keeps

pub kept-below : (start : Document) (kept : NaiveClient) (stage : ℕ) → IsMadeOrKept start kept → kept.last_stage < stage → AreUnitsBelow stage kept.doc (stages_of kept)
kept-below start kept stage h l =
    let r = made-or-kept-ready start kept h in
    let last = kept.last_stage in
    let ts = stages_of kept in
    record {
      rows = All-from_recursion _ _ (units-below _ _ last stage ts r.stages l kept.doc.rows.items r.rows.place.marks);
      cols = All-from_recursion _ _ (units-below _ _ last stage ts r.stages l kept.doc.cols.items r.cols.place.marks);
      stages = All-from_recursion _ _ (stages-below kept.doc stage 0 last ts r.stages l);
    }

pub kept-counted : (start : Document) (kept : NaiveClient) → IsMadeOrKept start kept → AreCounted kept.doc (stages_of kept)
kept-counted start kept h = All-from_recursion _ _ (stages-counted kept.doc (stages_of kept) (made-or-kept-ready start kept h).typed)

ranks-all : (xs : List ListElement) → RanksFrom 0 xs xs
ranks-all xs a n e = omega arith

pub kept-free : (start : Document) (kept : NaiveClient) → IsMadeOrKept start kept → HasFreeUnits (floor kept) kept.doc (stages_of kept)
kept-free start kept h =
    let r = made-or-kept-ready start kept h in
    let free = (soundly-kept h.reached.steps h.whole kept (reached-sound h.whole h.reached) h.keeps).tombstones in
    let there = (made-or-kept-named start kept h).stages in
    let doc = kept.doc in
    let ts = stages_of kept in
    record {
      rows = free-from (floor kept) (holds_row kept) _ doc.rows.items (λ i x f g. rows-other doc i x f ts there g) 0 doc.rows.items (ranks-all doc.rows.items) r.rows.later
          (marks-acked _ _ ts doc.rows.items r.rows.place.marks) free.rows;
      cols = free-from (floor kept) (holds_col kept) _ doc.cols.items (λ i x f g. cols-other doc i x f ts there g) 0 doc.cols.items (ranks-all doc.cols.items) r.cols.later
          (marks-acked _ _ ts doc.cols.items r.cols.place.marks) free.cols;
    }
