-- In every client an element that was removed at or below the floor carries nothing pending, nothing names it, and it stands
-- before no pending element.
use Rattle.std.proofs.Common.{◌≡◌, ℕ, suc, ◌≤◌, Bool, true, false, not, ◌||◌, List, [], ◌∷◌, ◌++◌, Option, Some, None, fold, min, refl, sym, ◌∙◌, ap, subst, arith, ℤ, pos, negsuc}
use Rattle.std.specs.Option.{option_map}
use Rattle.std.specs.List.{list_all, list_any}
use Rattle.ft_base.specs.Scan.{at}
use Rattle.ft_base.proofs.Booleans.{both}
use Rattle.ft_op.specs.declared.operations.CellOp.TheVariants.{Set, SpliceIn, SpliceOut}
use Rattle.ft_op.specs.declared.operations.Ends.{Ends}
use Rattle.ft_props.specs.Element.{ElementId, ListElement, id, is_named_by, same_id}
use Rattle.ft_props.specs.Compaction.{is_collectable}
use Rattle.ft_props.proofs.AcknowledgedInsertion.{element_up_to, expects, list_up_to}
use Rattle.ft_op.specs.Operation.{OnGrid, OnIntervals, OnText, SubOperation}
use Rattle.ft_op.specs.Intervals.{Interval, element_at_end}
use Rattle.ft_op.specs.Document.{Document, elements_at_given_ends}
use Rattle.ft_op.specs.Stages.{Stage}
use Rattle.ft_msg.specs.Client.{NaiveClient, PendingEdit, floor, stages_of}
use Rattle.ft_msg.specs.Compacted.{holds_col, holds_row, holds_text, interval_holds, stage_holds_col, stage_holds_row, stage_holds_text}
use Rattle.ft_laws_agreement.specs.Sequencing.{IsReady}
use Rattle.ft_laws_agreement.proofs.AcknowledgedEdit.{AllRef}
use Rattle.ft_laws_agreement.proofs.ClientHolds.{ClientHolds, EditsTold, flat}
use Rattle.ft_laws_agreement.proofs.CompactedScans.{is_held_end}
use Rattle.ft_laws_agreement.proofs.HeldNames.{at-held, keeps_name}
use Rattle.ft_laws_agreement.proofs.MarksOfStages.{bare_stages}
use Rattle.ft_laws_agreement.proofs.OwnNames.{all-weaker, has_named, other-named, own-named}
use Rattle.ft_laws_agreement.proofs.RebuiltDocument.{edits-stages}
use Rattle.ft_laws_agreement.proofs.SentStages.{CellWritten, IntervalsChanged, IsOneName, NamesBy, SentStage, Tells, cols_edit, rows_edit, text_edit}
use Rattle.ft_laws_agreement.proofs.SlidEnds.{same_id-eq}
use Rattle.ft_laws_agreement.proofs.ToldStages.{AllStand, AreTold, ToldStage, stage_numbers}
use Rattle.ft_laws_agreement.proofs.TrimmedDocument.{are_held, has_held_ends}
use Rattle.ft_laws_agreement.proofs.TrimmedFromNow.{ends-held}
use Rattle.ft_laws_compaction.specs.Free.{HasFreeTombstones}
use Rattle.ft_laws_compaction.proofs.StandingStages.{AreAbove, before-stages, collectable-unexpected, list-free, marks-stages}

-- ---- the floor

-- the lesser of n and the least reference number
abbrev pub least_ref : ℕ → List PendingEdit → ℕ
least_ref n edits = fold (λ n e. min n e.ref_seq) n edits

pub least-first : (edits : List PendingEdit) (n : ℕ) → least_ref n edits ≤ n
least-first [] n = omega arith
least-first (e ∷ edits) n = let l = least-first edits (min n e.ref_seq) in omega arith

above-append : (low : ℕ) (ts us : List ToldStage) → AreAbove low ts → AreAbove low us → AreAbove low (ts ++ us)
above-append low [] us h g = g
above-append low (t ∷ ts) us h g = (h.0, above-append low ts us h.1 g)

above-refs : (low r : ℕ) (ts : List ToldStage) → low ≤ r → AllRef r ts → AreAbove low ts
above-refs low r [] l h = tt
above-refs low r (t ∷ ts) l h = (subst (λ i. low ≤ i) (sym h.0) l, above-refs low r ts l h.1)

-- each stage has a reference number at or above the floor
stages-above : (c n : ℕ) (gss : List (List ToldStage)) (edits : List PendingEdit) → EditsTold c gss edits → AreAbove (least_ref n edits) (flat gss)
stages-above c n [] [] h = tt
stages-above c n [] (edit ∷ edits) h = absurd h
stages-above c n (gs ∷ gss) [] h = absurd h
stages-above c n (gs ∷ gss) (edit ∷ edits) h =
    let l = least-first edits (min n edit.ref_seq) in
    above-append (least_ref n (edit ∷ edits)) gs (flat gss) (above-refs (least_ref n (edit ∷ edits)) edit.ref_seq gs (omega arith) h.0.refs)
    (stages-above c (min n edit.ref_seq) gss edits h.1)

-- ---- names that are held

-- whether the elements that an interval operation names are held
abbrev pub has_held_text : (ElementId → Bool) → Stage → Bool
has_held_text held t = elim t.sub_operation [ OnIntervals op ↦ are_held held t.names | _ ↦ true ]

-- whether the row of a cell write is held
abbrev pub has_held_row : (ElementId → Bool) → Stage → Bool
has_held_row held t = elim t.sub_operation [ OnGrid op ↦ elim op [ Set i j value ↦ is_held_end held t.names.first | _ ↦ true ] | _ ↦ true ]

-- whether its column is
abbrev pub has_held_col : (ElementId → Bool) → Stage → Bool
has_held_col held t = elim t.sub_operation [ OnGrid op ↦ elim op [ Set i j value ↦ is_held_end held t.names.second | _ ↦ true ] | _ ↦ true ]

module _ (held : ElementId → Bool) (a : ElementId) (free : held a ≡ false) where
  end-other : (o : Option ElementId) → is_held_end held o ≡ true → is_named_by a o ≡ false
  end-other None h = refl
  end-other (Some b) h = step (same_id a b) refl
    where
      step : (t : Bool) → same_id a b ≡ t → t ≡ false
      step true e = let q : a ≡ b = same_id-eq a b e in cc (ap held q)
      step false e = refl

  ends-other : (is : List Interval) → list_all (has_held_ends held) is ≡ true → list_any (interval_holds a) is ≡ false
  ends-other [] h = refl
  ends-other (i ∷ is) h =
      let p = both (has_held_ends held i) (list_all (has_held_ends held) is) h in
      let q = both (is_held_end held i.start) (is_held_end held i.end) p.0 in
      rw (end-other i.start q.0, end-other i.end q.1) (ends-other is p.1)

  texts-other : (ts : List Stage) → list_all (has_held_text held) ts ≡ true → list_any (stage_holds_text a) ts ≡ false
  texts-other [] h = refl
  texts-other (t ∷ ts) h =
      let p = both (has_held_text held t) (list_all (has_held_text held) ts) h in
      rw (step t.sub_operation p.0) (texts-other ts p.1)
    where
      step : (o : SubOperation) → elim o [ OnIntervals op ↦ are_held held t.names | _ ↦ true ] ≡ true
          → elim o [ OnIntervals op ↦ is_named_by a t.names.first || is_named_by a t.names.second | _ ↦ false ] ≡ false
      step (OnText op) g = refl
      step (OnIntervals op) g = let q = both (is_held_end held t.names.first) (is_held_end held t.names.second) g in rw
          (end-other t.names.first q.0, end-other t.names.second q.1) refl
      step (OnGrid op) g = refl

  rows-other : (ts : List Stage) → list_all (has_held_row held) ts ≡ true → list_any (stage_holds_row a) ts ≡ false
  rows-other [] h = refl
  rows-other (t ∷ ts) h =
      let p = both (has_held_row held t) (list_all (has_held_row held) ts) h in
      rw (step t.sub_operation p.0) (rows-other ts p.1)
    where
      step : (o : SubOperation) → elim o [ OnGrid op ↦ elim op [ Set i j value ↦ is_held_end held t.names.first | _ ↦ true ] | _ ↦ true ] ≡ true
          → elim o [ OnGrid op ↦ elim op [ Set i j value ↦ is_named_by a t.names.first | _ ↦ false ] | _ ↦ false ] ≡ false
      step (OnText op) g = refl
      step (OnIntervals op) g = refl
      step (OnGrid (SpliceIn target p count)) g = refl
      step (OnGrid (SpliceOut target p q)) g = refl
      step (OnGrid (Set i j value)) g = end-other t.names.first g

  cols-other : (ts : List Stage) → list_all (has_held_col held) ts ≡ true → list_any (stage_holds_col a) ts ≡ false
  cols-other [] h = refl
  cols-other (t ∷ ts) h =
      let p = both (has_held_col held t) (list_all (has_held_col held) ts) h in
      rw (step t.sub_operation p.0) (cols-other ts p.1)
    where
      step : (o : SubOperation) → elim o [ OnGrid op ↦ elim op [ Set i j value ↦ is_held_end held t.names.second | _ ↦ true ] | _ ↦ true ] ≡ true
          → elim o [ OnGrid op ↦ elim op [ Set i j value ↦ is_named_by a t.names.second | _ ↦ false ] | _ ↦ false ] ≡ false
      step (OnText op) g = refl
      step (OnIntervals op) g = refl
      step (OnGrid (SpliceIn target p count)) g = refl
      step (OnGrid (SpliceOut target p q)) g = refl
      step (OnGrid (Set i j value)) g = end-other t.names.second g

-- names held by stages and intervals are none of elements that are gone, where all such names are held
pub names-free : (gone : ListElement → Bool) (held other : ElementId → Bool) (xs : List ListElement) → ((a : ElementId) → held a ≡ false → other a ≡ false)
    → list_all (λ e. not (gone e) || not (held (id e))) xs ≡ true
    → list_all (λ e. not (gone e) || not (other (id e))) xs ≡ true
names-free gone held other xs f h = all-weaker (λ e. not (gone e) || not (held (id e))) (λ e. not (gone e) || not (other (id e))) (λ e g. step e (gone e) (held (id e)) refl g) xs h
  where
    step : (e : ListElement) (a b : Bool) → held (id e) ≡ b → not a || not b ≡ true → not a || not (other (id e)) ≡ true
    step e false b h g = refl
    step e true false h g = rw (f (id e) h) refl
    step e true true h g = (cc)

-- ---- names of stages

module _ (gone : ListElement → Bool) (held : ElementId → Bool) (test : ListElement → Bool) (unseen : (e : ListElement) → gone e ≡ true → test e ≡ false)
    (xs : List ListElement) (names : list_all (keeps_name gone held) xs ≡ true) where
  pub end-held : (z : ℤ) → is_held_end held (element_at_end test xs z) ≡ true
  end-held (pos p) = at-held gone held test unseen p xs names
  end-held (negsuc p) = refl

  pub given-held : (ends : Option Ends) → are_held held (elements_at_given_ends test xs ends) ≡ true
  given-held None = refl
  given-held (Some ends) = rw (end-held ends.start, end-held ends.end) refl

  one-held : (i : ℕ) (o : Option ElementId) → IsOneName (option_map id (at test i xs)) o → is_held_end held o ≡ true
  one-held i o h = step (option_map id (at test i xs)) o h (at-held gone held test unseen i xs names)
    where
      step : (a b : Option ElementId) → IsOneName a b → is_held_end held a ≡ true → is_held_end held b ≡ true
      step (Some a) (Some b) e g = subst (λ n. held n ≡ true) e g
      step None b e g = absurd e
      step (Some a) None e g = absurd e

up_to-held : (gone : ListElement → Bool) (held : ElementId → Bool) (k : ℕ) → ((e : ListElement) → gone (element_up_to k e) ≡ gone e) → (xs : List ListElement)
    → list_all (keeps_name gone held) xs ≡ true → list_all (keeps_name gone held) (list_up_to k xs) ≡ true
up_to-held gone held k same [] h = refl
up_to-held gone held k same (e ∷ xs) h = grind (arith, up_to-held gone held k same xs, same e)

unexpected : (low c : ℕ) (t : ToldStage) → low ≤ t.ref → (e : ListElement) → is_collectable low e ≡ true → expects t.ref c (suc (suc t.before)) e ≡ false
unexpected low c t above = collectable-unexpected low t.ref c (suc (suc t.before)) above

module _ (low c : ℕ) (doc : Document) (held_text : ElementId → Bool) (text : list_all (keeps_name (is_collectable low) held_text) doc.text.items ≡ true) where
  module _ (t : ToldStage) (above : low ≤ t.ref) where
    pub stage-text : (o : SubOperation) (sent : SentStage) → Tells o sent → NamesBy (expects t.ref c (suc (suc t.before))) (list_up_to t.before doc.text.items)
        (list_up_to t.before doc.rows.items) (list_up_to t.before doc.cols.items) sent t.stage.names
        → elim o [ OnIntervals op ↦ are_held held_text t.stage.names | _ ↦ true ] ≡ true
    stage-text (OnText op) sent h n = refl
    stage-text (OnIntervals op) sent h n =
        let p = subst (λ i. NamesBy (expects t.ref c (suc (suc t.before))) (list_up_to t.before doc.text.items) (list_up_to t.before doc.rows.items)
        (list_up_to t.before doc.cols.items) i t.stage.names) h.place.made n in
        step p
      where
        step : NamesBy (expects t.ref c (suc (suc t.before))) (list_up_to t.before doc.text.items) (list_up_to t.before doc.rows.items)
            (list_up_to t.before doc.cols.items) (IntervalsChanged h.place.other) t.stage.names → are_held held_text t.stage.names ≡ true
        step p = ap (are_held held_text) (sym p.1) ∙ given-held (is_collectable low) held_text (expects t.ref c (suc (suc t.before)))
            (unexpected low c t above) (list_up_to t.before doc.text.items) (up_to-held (is_collectable low) held_text t.before (λ e. refl) doc.text.items text) _
    stage-text (OnGrid op) sent h n = refl

  stages-text : (m : ℕ) (ts : List ToldStage) → AreAbove low ts → AreTold m ts → AllStand c doc ts → list_all (has_held_text held_text) (bare_stages ts) ≡ true
  stages-text m [] a told h = refl
  stages-text m (t ∷ ts) a told h = rw (stage-text t a.0 t.stage.sub_operation t.sent told.1 h.0.named, stages-text m ts a.1 told.3 h.1) refl

module _ (low c : ℕ) (doc : Document) (held_row : ElementId → Bool) (rows : list_all (keeps_name (is_collectable low) held_row) doc.rows.items ≡ true) where
  module _ (t : ToldStage) (above : low ≤ t.ref) where
    stage-row : (o : SubOperation) (sent : SentStage) → Tells o sent → NamesBy (expects t.ref c (suc (suc t.before))) (list_up_to t.before doc.text.items)
        (list_up_to t.before doc.rows.items) (list_up_to t.before doc.cols.items) sent t.stage.names
        → elim o [ OnGrid op ↦ elim op [ Set i j value ↦ is_held_end held_row t.stage.names.first | _ ↦ true ] | _ ↦ true ] ≡ true
    stage-row (OnText op) sent h n = refl
    stage-row (OnIntervals op) sent h n = refl
    stage-row (OnGrid (SpliceIn target p count)) sent h n = refl
    stage-row (OnGrid (SpliceOut target p q)) sent h n = refl
    stage-row (OnGrid (Set i j value)) sent h n =
        step (subst (λ i. NamesBy (expects t.ref c (suc (suc t.before))) (list_up_to t.before doc.text.items) (list_up_to t.before doc.rows.items)
        (list_up_to t.before doc.cols.items) i t.stage.names) h.place.made n)
      where
        step : NamesBy (expects t.ref c (suc (suc t.before))) (list_up_to t.before doc.text.items) (list_up_to t.before doc.rows.items)
            (list_up_to t.before doc.cols.items) (CellWritten h.place.first h.place.second value) t.stage.names → is_held_end held_row t.stage.names.first ≡ true
        step p = one-held (is_collectable low) held_row (expects t.ref c (suc (suc t.before))) (unexpected low c t above) (list_up_to t.before doc.rows.items)
            (up_to-held (is_collectable low) held_row t.before (λ e. refl) doc.rows.items rows) h.place.first t.stage.names.first p.0

  stages-row : (m : ℕ) (ts : List ToldStage) → AreAbove low ts → AreTold m ts → AllStand c doc ts → list_all (has_held_row held_row) (bare_stages ts) ≡ true
  stages-row m [] a told h = refl
  stages-row m (t ∷ ts) a told h = rw (stage-row t a.0 t.stage.sub_operation t.sent told.1 h.0.named, stages-row m ts a.1 told.3 h.1) refl

module _ (low c : ℕ) (doc : Document) (held_col : ElementId → Bool) (cols : list_all (keeps_name (is_collectable low) held_col) doc.cols.items ≡ true) where
  module _ (t : ToldStage) (above : low ≤ t.ref) where
    stage-col : (o : SubOperation) (sent : SentStage) → Tells o sent → NamesBy (expects t.ref c (suc (suc t.before))) (list_up_to t.before doc.text.items)
        (list_up_to t.before doc.rows.items) (list_up_to t.before doc.cols.items) sent t.stage.names
        → elim o [ OnGrid op ↦ elim op [ Set i j value ↦ is_held_end held_col t.stage.names.second | _ ↦ true ] | _ ↦ true ] ≡ true
    stage-col (OnText op) sent h n = refl
    stage-col (OnIntervals op) sent h n = refl
    stage-col (OnGrid (SpliceIn target p count)) sent h n = refl
    stage-col (OnGrid (SpliceOut target p q)) sent h n = refl
    stage-col (OnGrid (Set i j value)) sent h n =
        step (subst (λ i. NamesBy (expects t.ref c (suc (suc t.before))) (list_up_to t.before doc.text.items) (list_up_to t.before doc.rows.items)
        (list_up_to t.before doc.cols.items) i t.stage.names) h.place.made n)
      where
        step : NamesBy (expects t.ref c (suc (suc t.before))) (list_up_to t.before doc.text.items) (list_up_to t.before doc.rows.items)
            (list_up_to t.before doc.cols.items) (CellWritten h.place.first h.place.second value) t.stage.names → is_held_end held_col t.stage.names.second ≡ true
        step p = one-held (is_collectable low) held_col (expects t.ref c (suc (suc t.before))) (unexpected low c t above) (list_up_to t.before doc.cols.items)
            (up_to-held (is_collectable low) held_col t.before (λ e. refl) doc.cols.items cols) h.place.second t.stage.names.second p.1

  stages-col : (m : ℕ) (ts : List ToldStage) → AreAbove low ts → AreTold m ts → AllStand c doc ts → list_all (has_held_col held_col) (bare_stages ts) ≡ true
  stages-col m [] a told h = refl
  stages-col m (t ∷ ts) a told h = rw (stage-col t a.0 t.stage.sub_operation t.sent told.1 h.0.named, stages-col m ts a.1 told.3 h.1) refl

-- ---- the client

-- the names of all but elements of a list that may be left out
abbrev pub stays : ℕ → List ListElement → ElementId → Bool
stays low xs a = not (has_named (is_collectable low) xs a)

pub gone-named : (low : ℕ) (xs : List ListElement) → list_all (λ e. not (is_collectable low e) || not (stays low xs (id e))) xs ≡ true
gone-named low xs = all-weaker (λ e. not (is_collectable low e) || has_named (is_collectable low) xs (id e))
    (λ e. not (is_collectable low e) || not (stays low xs (id e))) (λ e h. step (is_collectable low e) (has_named (is_collectable low) xs (id e)) h) xs
    (own-named (is_collectable low) xs)
  where
    step : (a b : Bool) → not a || b ≡ true → not a || not (not b) ≡ true
    step true true h = refl
    step true false h = (cc)
    step false b h = refl

or-none : (a b : Bool) → a ≡ false → b ≡ false → a || b ≡ false
or-none a b g h = rw (g, h) refl

-- what holds of the names of every client: those that it holds are none of elements that may be left out
pub record HoldsStaying (x : NaiveClient) : Type 0 where
  pub ends : list_all (has_held_ends (stays (floor x) x.doc.text.items)) x.doc.intervals ≡ true
  pub text : list_all (has_held_text (stays (floor x) x.doc.text.items)) (stages_of x) ≡ true
  pub rows : list_all (has_held_row (stays (floor x) x.doc.rows.items)) (stages_of x) ≡ true
  pub cols : list_all (has_held_col (stays (floor x) x.doc.cols.items)) (stages_of x) ≡ true

pub client-names : (bound c : ℕ) (gss : List (List ToldStage)) (x : NaiveClient) → ClientHolds bound c gss x → IsReady x → HoldsStaying x
client-names bound c gss x h r =
    let low = floor x in
    let doc = x.doc in
    let ts = flat gss in
    let n = doc.number in
    let same : stages_of x ≡ bare_stages ts = edits-stages c gss x.pending h.edits in
    let above : AreAbove (floor x) (flat gss) = stages-above c doc.minimum gss x.pending h.edits in
    let text = other-named (is_collectable low) doc.text.items r.text.place.distinct in
    let rows = other-named (is_collectable low) doc.rows.items r.rows.place.distinct in
    let cols = other-named (is_collectable low) doc.cols.items r.cols.place.distinct in
    record {
      ends = ends-held low doc.text.items text doc.intervals r.ends;
      text = ap (list_all (has_held_text (stays low doc.text.items))) same ∙ stages-text low c doc (stays low doc.text.items) text n ts above h.doc.told h.doc.stand;
      rows = ap (list_all (has_held_row (stays low doc.rows.items))) same ∙ stages-row low c doc (stays low doc.rows.items) rows n ts above h.doc.told h.doc.stand;
      cols = ap (list_all (has_held_col (stays low doc.cols.items))) same ∙ stages-col low c doc (stays low doc.cols.items) cols n ts above h.doc.told h.doc.stand;
    }

pub free-tombstones : (bound c : ℕ) (gss : List (List ToldStage)) (x : NaiveClient) → ClientHolds bound c gss x → IsReady x → HasFreeTombstones x
free-tombstones bound c gss x h r =
    let low = floor x in
    let doc = x.doc in
    let ts = flat gss in
    let n = doc.number in
    let names = client-names bound c gss x h r in
    let above : AreAbove (floor x) (flat gss) = stages-above c doc.minimum gss x.pending h.edits in
    record {
      text = list-free low n (stage_numbers ts) (holds_text x) doc.text.items
          (λ j m. before-stages low c n doc (λ d. d.text.items) text_edit (λ t s. s.text) j ts above h.doc.stand m)
          (λ j m. marks-stages low c n doc (λ d. d.text.items) text_edit (λ t s. s.text) j ts above h.doc.stand m) h.doc.text
          (names-free (is_collectable low) (stays low doc.text.items) (holds_text x) doc.text.items
          (λ a f. or-none (list_any (interval_holds a) doc.intervals) (list_any (stage_holds_text a) (stages_of x))
          (ends-other (stays low doc.text.items) a f doc.intervals names.ends) (texts-other (stays low doc.text.items) a f (stages_of x) names.text))
          (gone-named low doc.text.items));
      rows = list-free low n (stage_numbers ts) (holds_row x) doc.rows.items
          (λ j m. before-stages low c n doc (λ d. d.rows.items) rows_edit (λ t s. s.rows) j ts above h.doc.stand m)
          (λ j m. marks-stages low c n doc (λ d. d.rows.items) rows_edit (λ t s. s.rows) j ts above h.doc.stand m) h.doc.rows
          (names-free (is_collectable low) (stays low doc.rows.items) (holds_row x) doc.rows.items
          (λ a f. rows-other (stays low doc.rows.items) a f (stages_of x) names.rows) (gone-named low doc.rows.items));
      cols = list-free low n (stage_numbers ts) (holds_col x) doc.cols.items
          (λ j m. before-stages low c n doc (λ d. d.cols.items) cols_edit (λ t s. s.cols) j ts above h.doc.stand m)
          (λ j m. marks-stages low c n doc (λ d. d.cols.items) cols_edit (λ t s. s.cols) j ts above h.doc.stand m) h.doc.cols
          (names-free (is_collectable low) (stays low doc.cols.items) (holds_col x) doc.cols.items
          (λ a f. cols-other (stays low doc.cols.items) a f (stages_of x) names.cols) (gone-named low doc.cols.items));
    }
