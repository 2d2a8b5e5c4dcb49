-- The own join of a client on a compacted document beside the whole one: it sends the same again, and rebuilds its lists alike.
use Rattle.std.proofs.Common.{◌≡◌, ℕ, ◌+◌, ◌-◌, Bool, true, false, cond, ◌&&◌, ◌||◌, nat_eq, List, [], ◌∷◌, Option, Some, None, filter, map, refl, sym, ◌∙◌, ap, subst}
use Rattle.std.specs.List.{flat_map, list_all, list_any}
use Rattle.ft_base.specs.declared.stamps.Stamp.{Stamp}
use Rattle.ft_base.specs.declared.stamps.Stamp.TheVariants.{Acked, Local}
use Rattle.ft_base.specs.Scan.{no_run, one_more_if, put, retain_map}
use Rattle.ft_base.specs.Visibility.{is_acked}
use Rattle.std.proofs.lemmas.List.Folds.{list_all-append}
use Rattle.ft_base.proofs.Booleans.{both}
use Rattle.ft_op.specs.declared.operations.BaseOp.{BaseOp}
use Rattle.ft_op.specs.declared.operations.BaseOp.TheVariants.{Insert, Remove, Annotate}
use Rattle.ft_op.specs.declared.operations.CellOp.{CellOp}
use Rattle.ft_op.specs.declared.operations.CellOp.TheVariants.{SpliceIn, SpliceOut, Set}
use Rattle.ft_op.specs.declared.operations.ChannelOp.{ChannelOp}
use Rattle.ft_op.specs.declared.operations.Target.TheVariants.{Rows, Cols}
use Rattle.ft_op.specs.declared.operations.TextOp.{TextOp}
use Rattle.ft_op.specs.declared.operations.TextOp.TheVariants.{One, Group, IntervalAdd, IntervalChange, IntervalDelete}
use Rattle.ft_props.specs.Properties.{ValueBytes}
use Rattle.ft_props.specs.Element.{ElementId, ListElement, has_id, id, is_sequenced, seen, without_pending}
use Rattle.ft_props.specs.Compaction.{Keeps, none, same, universal, collected, is_collectable, is_insertion_at_or_below, with_universal_insertion}
use Rattle.ft_props.specs.Steps.{carried_element, extended_runs, is_annotated_by, is_inserted_by, is_removed_by, lowered_runs, marked_runs, marked_runs_from, put_stage, put_stages, stage_position}
use Rattle.ft_op.specs.Operation.{OnGrid, OnIntervals, OnText, SubOperation, segment_contents}
use Rattle.ft_op.specs.Intervals.{NamedElements, settle_elements}
use Rattle.ft_op.specs.Document.{Document}
use Rattle.ft_op.specs.Pieces.{ends_in, grid_pieces, interval_piece, is_named_and_seen, op_of, pieces, position_of_named, text_pieces, unless_empty}
use Rattle.ft_op.specs.Stages.{Stage}
use Rattle.ft_msg.specs.Client.{PendingEdit}
use Rattle.ft_msg.specs.Reconnection.{carried_stage, regenerated_edit, resubmitted_edit, resubmitted_edits}
use Rattle.ft_laws_agreement.proofs.CompactedScans.{Alike, has_id-alike, is_held_end, rank-kept, seen-alike}
use Rattle.ft_laws_agreement.proofs.HeldNames.{found-held, keeps_name}
use Rattle.ft_laws_agreement.proofs.SlidEnds.{same_id-eq}
use Rattle.ft_laws_agreement.proofs.TrimmedContent.{end_number-kept, removed-unseen}
use Rattle.ft_laws_agreement.proofs.TrimmedDocument.{HeldNames, Trimmed, are_held, is_removed}
use Rattle.ft_laws_compaction.proofs.Acknowledged.{inserted-alike}
use Rattle.ft_laws_compaction.proofs.FreeTombstones.{has_held_text}
use Rattle.ft_laws_compaction.proofs.KeptLists.{Leaves, Renaming, leaves-put, leaves-retained, leaves-same}
use Rattle.ft_laws_compaction.proofs.ShownIntervals.{elements-held, elements-kept}

-- a stage that goes on where it has a piece
abbrev goes_on : Stage → List SubOperation → List Stage
goes_on s [] = []
goes_on s (_ ∷ _) = s ∷ []

-- an edit with these stages and this reference number as it is sent again
abbrev sent_again : List Stage → ℕ → ℕ → ℕ → ChannelOp → PendingEdit
sent_again stages r conn n op = record { stages = stages; ref_seq = r; sent = Some (record { conn = conn; client_seq = n; op = op }) }

-- edits that are sent again from this one on, where it has this operation
abbrev edits_from : Document → ℕ → ℕ → PendingEdit → List PendingEdit → Option ChannelOp → List PendingEdit
edits_from doc conn n edit edits None = resubmitted_edits doc conn n edits
edits_from doc conn n edit edits (Some op) = resubmitted_edit doc conn n edit op ∷ resubmitted_edits doc conn (n + 1) edits

-- ---- marked runs

-- the test passes an old insertion as the universal one
abbrev pub SeesUniversal : ℕ → (ListElement → Bool) → Type 0
SeesUniversal low test = (e : ListElement) → is_insertion_at_or_below low e.ins ≡ true → test (with_universal_insertion e) ≡ test e

module _ {low : ℕ} {held : ElementId → Bool} where
  module _ (test marked : ListElement → Bool) (h : Alike low held test) (m : SeesUniversal low marked) where
    runs-kept : {ks xs : List ListElement} (i : ℕ) → Keeps low held ks xs → marked_runs_from i test marked ks ≡ marked_runs_from i test marked xs
    runs-kept i none = refl
    runs-kept i (same {e = e} k) =
        ap (λ rs. cond (test e && marked e) (extended_runs i rs) rs) (runs-kept (one_more_if (test e) i) k)
    runs-kept i (universal {e = e} f k) =
        rw (h.old e f, m e f) (ap (λ rs. cond (test e && marked e) (extended_runs i rs) rs) (runs-kept (one_more_if (test e) i) k))
    runs-kept i (collected {e = e} g u n k) = rw (h.gone e g u) (runs-kept i k)

  -- whether some element passes
  pub any-kept : (test : ListElement → Bool) → Alike low held test → {ks xs : List ListElement} → Keeps low held ks xs → list_any test ks ≡ list_any test xs
  any-kept test h none = refl
  any-kept test h (same {e = e} k) = ap (λ b. test e || b) (any-kept test h k)
  any-kept test h (universal {e = e} f k) = rw (h.old e f) (ap (λ b. test e || b) (any-kept test h k))
  any-kept test h (collected {e = e} g u n k) = rw (h.gone e g u) (any-kept test h k)

  -- the elements of a stage are all kept
  pub inserted-kept : (k : ℕ) {ks xs : List ListElement} → Keeps low held ks xs → filter (is_inserted_by k) ks ≡ filter (is_inserted_by k) xs
  inserted-kept k none = refl
  inserted-kept k (same {e = e} h) = ap (λ us. cond (is_inserted_by k e) (e ∷ us) us) (inserted-kept k h)
  inserted-kept k (universal {e = e} f h) = rw (sym ((inserted-alike low k held).old e f)) (inserted-kept k h)
  inserted-kept k (collected {e = e} g u n h) = rw ((inserted-alike low k held).gone e g u) (inserted-kept k h)

  position-kept : (k : ℕ) {ks xs : List ListElement} → Keeps low held ks xs → stage_position k ks ≡ stage_position k xs
  position-kept k h = rank-kept (is_inserted_by k) (seen (k - 1)) (inserted-alike low k held) (seen-alike low (k - 1) held) h

-- ---- pieces

module _ {low : ℕ} {held : ElementId → Bool} {ks xs : List ListElement} (h : Keeps low held ks xs) where
  text_pieces-kept : (k : ℕ) (op : BaseOp) → text_pieces k ks op ≡ text_pieces k xs op
  text_pieces-kept k (Insert p seg props) = ap (λ i. unless_empty (segment_contents seg) (OnText (Insert i seg props))) (position-kept k h)
  text_pieces-kept k (Remove p q) = ap (λ rs. map (λ r. OnText (Remove r.0 r.1)) (lowered_runs 0 rs))
      (runs-kept (seen (k - 1)) (is_removed_by k) (seen-alike low (k - 1) held) (λ e f. refl) 0 h)
  text_pieces-kept k (Annotate p q changes) = ap (map (λ r. OnText (Annotate r.0 r.1 changes)))
      (runs-kept (seen (k - 1)) (is_annotated_by k) (seen-alike low (k - 1) held) (λ e f. refl) 0 h)

  ends_in-kept : (k : ℕ) (names : NamedElements) → are_held held names ≡ true → ends_in k ks names ≡ ends_in k xs names
  ends_in-kept k names g =
      let p = both (is_held_end held names.first) (is_held_end held names.second) g in
      rw (end_number-kept h k names.first p.0, end_number-kept h k names.second p.1) refl

  interval_piece-kept : (k : ℕ) (names : NamedElements) (op : TextOp) → are_held held names ≡ true → interval_piece k ks names op ≡ interval_piece k xs names op
  interval_piece-kept k names (IntervalAdd label name ends props) g = ap (λ es. IntervalAdd label name es props) (ends_in-kept k names g)
  interval_piece-kept k names (IntervalChange label name (Some ends) props) g = ap (λ es. IntervalChange label name (Some es) props) (ends_in-kept k names g)
  interval_piece-kept k names (IntervalChange label name None props) g = refl
  interval_piece-kept k names (IntervalDelete label name) g = refl
  interval_piece-kept k names (One op) g = refl
  interval_piece-kept k names (Group ops) g = refl

  splice_in-kept : (k count : ℕ) (make : ℕ → SubOperation) → cond (nat_eq count 0) [] (make (stage_position k ks) ∷ []) ≡ cond (nat_eq count 0) [] (make (stage_position k xs) ∷ [])
  splice_in-kept k count make = ap (λ i. cond (nat_eq count 0) [] (make i ∷ [])) (position-kept k h)

  splice_out-kept : (k : ℕ) (make : ℕ × ℕ → SubOperation) → map make (lowered_runs 0 (marked_runs k (is_removed_by k) ks))
      ≡ map make (lowered_runs 0 (marked_runs k (is_removed_by k) xs))
  splice_out-kept k make = ap (λ rs. map make (lowered_runs 0 rs)) (runs-kept (seen (k - 1)) (is_removed_by k) (seen-alike low (k - 1) held) (λ e f. refl) 0 h)

  named-alike : (k : ℕ) (x : ElementId) → Alike low held (λ e. has_id x e && seen k e)
  named-alike k x = record {
    gone = λ e g u. rw ((seen-alike low k held).gone e g u) (never (has_id x e));
    old = λ e f. old e f;
  }
    where
      never : (b : Bool) → b && false ≡ false
      never true = refl
      never false = refl

      old : (e : ListElement) → is_insertion_at_or_below low e.ins ≡ true → has_id x (with_universal_insertion e) && seen k (with_universal_insertion e) ≡ has_id x e && seen k e
      old e f = ap (λ b. has_id x (with_universal_insertion e) && b) ((seen-alike low k held).old e f) ∙ ap (λ b. b && seen k e) ((has_id-any x).old e f)
        where
          has_id-any : (y : ElementId) → Alike low (λ _. true) (has_id y)
          has_id-any y = has_id-alike low (λ _. true) y refl

  seen-kept : (k : ℕ) (o : Option ElementId) → is_named_and_seen k ks o ≡ is_named_and_seen k xs o
  seen-kept k None = refl
  seen-kept k (Some x) = any-kept (λ e. has_id x e && seen k e) (named-alike k x) h

  -- the place of a unit whose name is held
  position-held : (k : ℕ) (o : Option ElementId) → is_held_end held o ≡ true → position_of_named k ks o ≡ position_of_named k xs o
  position-held k None g = refl
  position-held k (Some x) g = rank-kept (has_id x) (seen k) (has_id-alike low held x g) (seen-alike low k held) h

-- a name that is seen is held
module _ (gone : ListElement → Bool) (held : ElementId → Bool) (k : ℕ) (unseen : (e : ListElement) → gone e ≡ true → seen k e ≡ false) where
  pub seen-held : (o : Option ElementId) (xs : List ListElement) → list_all (keeps_name gone held) xs ≡ true → is_named_and_seen k xs o ≡ true → is_held_end held o ≡ true
  seen-held None xs h g = refl
  seen-held (Some x) [] h g = (cc)
  seen-held (Some x) (e ∷ xs) h g =
      let p = both (keeps_name gone held e) (list_all (keeps_name gone held) xs) h in
      step (has_id x e) (seen k e) refl refl g (λ f. seen-held (Some x) xs p.1 f) p.0
    where
      step : (a b : Bool) → has_id x e ≡ a → seen k e ≡ b → (a && b) || list_any (λ d. has_id x d && seen k d) xs ≡ true
          → (list_any (λ d. has_id x d && seen k d) xs ≡ true → held x ≡ true) → keeps_name gone held e ≡ true → held x ≡ true
      step true true f t q ih n = ap held (same_id-eq x (id e) f) ∙ found-held gone held (seen k) unseen e n t
      step true false f t q ih n = ih q
      step false b f t q ih n = ih q

module _ {low : ℕ} {held : HeldNames} (kept doc : Document) (t : Trimmed low held kept doc) where
  set-kept : (k i j : ℕ) (names : NamedElements) (value : ValueBytes) → grid_pieces k kept names (Set i j value) ≡ grid_pieces k doc names (Set i j value)
  set-kept k i j names value =
      ap (λ b. cond (b && is_named_and_seen k kept.cols.items names.second) (OnGrid
      (Set (position_of_named (k - 1) kept.rows.items names.first) (position_of_named (k - 1) kept.cols.items names.second) value) ∷ []) [])
      (seen-kept t.rows.items k names.first)
      ∙ ap (λ b. cond (is_named_and_seen k doc.rows.items names.first && b) (OnGrid
      (Set (position_of_named (k - 1) kept.rows.items names.first) (position_of_named (k - 1) kept.cols.items names.second) value) ∷ []) [])
      (seen-kept t.cols.items k names.second)
      ∙ step (is_named_and_seen k doc.rows.items names.first) (is_named_and_seen k doc.cols.items names.second) refl refl
    where
      step : (a b : Bool) → is_named_and_seen k doc.rows.items names.first ≡ a → is_named_and_seen k doc.cols.items names.second ≡ b
          → cond (a && b) (OnGrid (Set (position_of_named (k - 1) kept.rows.items names.first) (position_of_named (k - 1) kept.cols.items names.second) value) ∷ []) []
          ≡ cond (a && b) (OnGrid (Set (position_of_named (k - 1) doc.rows.items names.first) (position_of_named (k - 1) doc.cols.items names.second) value) ∷ []) []
      step true true f g =
          ap (λ p. OnGrid (Set p (position_of_named (k - 1) kept.cols.items names.second) value) ∷ [])
          (position-held t.rows.items (k - 1) names.first (seen-held is_removed held.rows k (removed-unseen k) names.first doc.rows.items t.row_names.all f))
          ∙ ap (λ p. OnGrid (Set (position_of_named (k - 1) doc.rows.items names.first) p value) ∷ [])
          (position-held t.cols.items (k - 1) names.second (seen-held is_removed held.cols k (removed-unseen k) names.second doc.cols.items t.col_names.all g))
      step true false f g = refl
      step false b f g = refl

  grid_pieces-kept : (k : ℕ) (names : NamedElements) (op : CellOp) → grid_pieces k kept names op ≡ grid_pieces k doc names op
  grid_pieces-kept k names (SpliceIn Rows p count) = splice_in-kept t.rows.items k count (λ i. OnGrid (SpliceIn Rows i count))
  grid_pieces-kept k names (SpliceIn Cols p count) = splice_in-kept t.cols.items k count (λ i. OnGrid (SpliceIn Cols i count))
  grid_pieces-kept k names (SpliceOut Rows p q) = splice_out-kept t.rows.items k (λ r. OnGrid (SpliceOut Rows r.0 r.1))
  grid_pieces-kept k names (SpliceOut Cols p q) = splice_out-kept t.cols.items k (λ r. OnGrid (SpliceOut Cols r.0 r.1))
  grid_pieces-kept k names (Set i j value) = set-kept k i j names value

  settled-kept : (k : ℕ) (names : NamedElements) → are_held held.text names ≡ true → settle_elements kept.text.items k names ≡ settle_elements doc.text.items k names
  settled-kept k names h = elements-kept t.text.items t.text_names.all k names h

  pieces-kept : (s : Stage) → has_held_text held.text s ≡ true → pieces kept s ≡ pieces doc s
  pieces-kept s h = step s.sub_operation h
    where
      step : (o : SubOperation) → elim o [ OnIntervals op ↦ are_held held.text s.names | _ ↦ true ] ≡ true → pieces kept (record s { sub_operation = o })
          ≡ pieces doc (record s { sub_operation = o })
      step (OnText op) g = text_pieces-kept t.text.items s.stage op
      step (OnIntervals op) g =
          ap (λ names. OnIntervals (interval_piece s.stage kept.text.items names op) ∷ []) (settled-kept s.stage s.names g)
          ∙ ap (λ p. OnIntervals p ∷ []) (interval_piece-kept t.text.items s.stage (settle_elements doc.text.items s.stage s.names) op
          (elements-held t.text.items t.text_names.all s.stage s.names))
      step (OnGrid op) g = grid_pieces-kept s.stage s.names op

  carried-kept : (s : Stage) → has_held_text held.text s ≡ true → carried_stage kept s ≡ carried_stage doc s
  carried-kept s h = step s.sub_operation h
    where
      step : (o : SubOperation) → elim o [ OnIntervals op ↦ are_held held.text s.names | _ ↦ true ] ≡ true
          → carried_stage kept (record s { sub_operation = o }) ≡ carried_stage doc (record s { sub_operation = o })
      step (OnText op) g = ap (goes_on (record s { sub_operation = OnText op })) (text_pieces-kept t.text.items s.stage op)
      step (OnIntervals op) g = ap (λ (names : NamedElements). record s { sub_operation = OnIntervals op; names = names } ∷ []) (settled-kept s.stage s.names g)
      step (OnGrid op) g = ap (goes_on (record s { sub_operation = OnGrid op })) (grid_pieces-kept s.stage s.names op)

  -- ---- edits

  all-pieces : (ss : List Stage) → list_all (has_held_text held.text) ss ≡ true → flat_map (pieces kept) ss ≡ flat_map (pieces doc) ss
  all-pieces [] h = refl
  all-pieces (s ∷ ss) h = let p = both (has_held_text held.text s) (list_all (has_held_text held.text) ss) h in rw (pieces-kept s p.0, all-pieces ss p.1) refl

  all-carried : (ss : List Stage) → list_all (has_held_text held.text) ss ≡ true → flat_map (carried_stage kept) ss ≡ flat_map (carried_stage doc) ss
  all-carried [] h = refl
  all-carried (s ∷ ss) h = let p = both (has_held_text held.text s) (list_all (has_held_text held.text) ss) h in rw (carried-kept s p.0, all-carried ss p.1) refl

  -- the pending edits are sent again alike
  pub resubmitted-kept : (conn n : ℕ) (edits : List PendingEdit) → kept.number ≡ doc.number
      → list_all (has_held_text held.text) (flat_map (λ e. e.stages) edits) ≡ true → resubmitted_edits kept conn n edits ≡ resubmitted_edits doc conn n edits
  resubmitted-kept conn n [] e h = refl
  resubmitted-kept conn n (edit ∷ edits) e h =
      let p = both (list_all (has_held_text held.text) edit.stages) (list_all (has_held_text held.text) (flat_map (λ d. d.stages) edits))
      (sym (list_all-append (has_held_text held.text) edit.stages (flat_map (λ d. d.stages) edits)) ∙ h) in
      ap (edits_from kept conn n edit edits) (ap op_of (all-pieces edit.stages p.0))
      ∙ step (regenerated_edit doc edit) p.0 (resubmitted-kept conn n edits e p.1) (resubmitted-kept conn (n + 1) edits e p.1)
    where
      step : (o : Option ChannelOp) → list_all (has_held_text held.text) edit.stages ≡ true → resubmitted_edits kept conn n edits
          ≡ resubmitted_edits doc conn n edits → resubmitted_edits kept conn (n + 1) edits ≡ resubmitted_edits doc conn (n + 1) edits
          → edits_from kept conn n edit edits o ≡ edits_from doc conn n edit edits o
      step None g now more = now
      step (Some op) g now more =
          ap (λ (d : PendingEdit). d ∷ resubmitted_edits kept conn (n + 1) edits)
          (ap (λ ss. sent_again ss kept.number conn n op) (all-carried edit.stages g) ∙ ap (λ r. sent_again (flat_map (carried_stage doc) edit.stages) r conn n op) e)
          ∙ ap (λ ds. resubmitted_edit doc conn n edit op ∷ ds) more

-- ---- lists

carried-renaming : (low : ℕ) → Renaming low carried_element
carried-renaming low = record { gone = λ e g. gone (list_any is_acked e.dels) e g; old = λ e f. (old (list_any is_acked e.dels) e, ins (list_any is_acked e.dels) e f) }
  where
    gone : (b : Bool) (e : ListElement) → is_collectable low e ≡ true → is_collectable low (cond b (without_pending e) e) ≡ true
    gone true e g = g
    gone false e g = g

    old : (b : Bool) (e : ListElement) → cond b (without_pending (with_universal_insertion e)) (with_universal_insertion e)
        ≡ with_universal_insertion (cond b (without_pending e) e)
    old true e = refl
    old false e = refl

    ins : (b : Bool) (e : ListElement) → is_insertion_at_or_below low e.ins ≡ true → is_insertion_at_or_below low (cond b (without_pending e) e).ins ≡ true
    ins true e f = f
    ins false e f = f

sequenced-universal : (low : ℕ) (e : ListElement) → is_insertion_at_or_below low e.ins ≡ true → is_sequenced (with_universal_insertion e) ≡ is_sequenced e
sequenced-universal low e f = step e.ins f
  where
    step : (t : Stamp) → is_insertion_at_or_below low t ≡ true → true ≡ is_acked t
    step (Acked s c) g = refl
    step (Local j) g = (cc)

module _ {low : ℕ} {held : ElementId → Bool} {ks xs : List ListElement} (h : Keeps low held ks xs) where
  stage-rebuilt : (k : ℕ) {us ys : List ListElement} → Leaves low us ys → Leaves low (put_stage ks us k) (put_stage xs ys k)
  stage-rebuilt k {us} {ys} l =
      subst (λ p. Leaves low (put (seen (k - 1)) no_run p (filter (is_inserted_by k) ks) us) (put_stage xs ys k)) (sym (position-kept k h))
      (subst (λ new. Leaves low (put (seen (k - 1)) no_run (stage_position k xs) new us) (put_stage xs ys k)) (sym (inserted-kept k h))
      (leaves-put (seen (k - 1)) (seen-alike low (k - 1) (λ _. false)) (filter (is_inserted_by k) xs) (stage_position k xs) l))

  stages-rebuilt : (stages : List ℕ) {us ys : List ListElement} → Leaves low us ys → Leaves low (put_stages ks us stages) (put_stages xs ys stages)
  stages-rebuilt [] l = l
  stages-rebuilt (k ∷ stages) l = stages-rebuilt stages (stage-rebuilt k l)

  -- the rebuilt list leaves out no more
  pub list-rebuilt : (stages : List ℕ) → Leaves low (put_stages ks (retain_map is_sequenced carried_element ks) stages)
      (put_stages xs (retain_map is_sequenced carried_element xs) stages)
  list-rebuilt stages = stages-rebuilt stages (leaves-retained is_sequenced carried_element (carried-renaming low) (sequenced-universal low) (leaves-same h))
