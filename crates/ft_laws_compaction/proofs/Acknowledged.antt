-- The acknowledgement of an edit on a compacted document beside the whole one.
use Rattle.std.proofs.Common.{◌≡◌, ℕ, ◌+◌, ◌≤◌, Bool, true, false, cond, not, ◌||◌, nat_eq, List, [], ◌∷◌, ◌++◌, Option, Some, None, map, refl, sym, ◌∙◌, ap, subst, arith}
use Rattle.std.specs.List.{list_all}
use Rattle.ft_base.specs.declared.stamps.Stamp.{Stamp}
use Rattle.ft_base.specs.declared.stamps.Stamp.TheVariants.{Acked, Local}
use Rattle.ft_base.specs.Scan.{len}
use Rattle.ft_base.specs.Visibility.{is_acked, is_of_stage}
use Rattle.ft_base.proofs.Booleans.{both}
use Rattle.ft_op.specs.declared.operations.CellOp.TheVariants.{Set, SpliceIn, SpliceOut}
use Rattle.ft_op.specs.declared.operations.Target.TheVariants.{Rows, Cols}
use Rattle.ft_props.specs.Element.{ElementId, ListElement, SequencedId, id, id_of_stamp}
use Rattle.ft_props.specs.Compaction.{Keeps, KeepsList, none, same, universal, collected, has_collectable_removal, is_before_pending, is_collectable, is_insertion_at_or_below, with_universal_insertion}
use Rattle.ft_props.specs.Steps.{Sequence, acked_element, acked_id, acked_list, acked_removal, acked_stamp}
use Rattle.ft_props.proofs.RebuiltList.{or_right}
use Rattle.ft_op.specs.Operation.{OnGrid, OnIntervals, OnText, SubOperation}
use Rattle.ft_op.specs.Intervals.{Interval, NamedElements}
use Rattle.ft_op.specs.Cells.{Cell, cell_value}
use Rattle.ft_op.specs.Document.{Document}
use Rattle.ft_op.specs.Stages.{Stage, intervals_after_stage}
use Rattle.ft_msg.specs.Acknowledgement.{ack_stage, ack_stages, cells_after_stage, made_before, renamed_names, renamed_stage, write_named_cell}
use Rattle.ft_laws_agreement.proofs.AcknowledgedEdit.{AllRef, all-twice, renamed-first}
use Rattle.ft_laws_agreement.proofs.AnyAndAll.{any-append}
use Rattle.ft_laws_agreement.proofs.CellValues.{write-agrees, write-none}
use Rattle.ft_laws_agreement.proofs.CompactedScans.{Alike, len-kept, removal-more}
use Rattle.ft_laws_agreement.proofs.HeldNames.{HoldsNames, keeps_name, or_first}
use Rattle.ft_laws_agreement.proofs.HoldsAfterAcknowledgement.{acknowledged-holds}
use Rattle.ft_laws_agreement.proofs.ToldStages.{Holds, ToldStage, renamed_told}
use Rattle.ft_laws_agreement.proofs.TrimmedDocument.{HeldNames, Trimmed, are_held, cells-step, cols-step, has_held_ends, intervals-step, is_removed, operation-held, rows-step, same-intervals, slid-step, text-step}
use Rattle.ft_laws_compaction.proofs.FreeTombstones.{stage-text}

-- ---- one element

module _ (k n s c : ℕ) where
  abbrev acked : ListElement → ListElement
  acked e = acked_element k n s c e

  collectable-acked : (low : ℕ) (e : ListElement) → is_collectable low e ≡ true → is_collectable low (acked_element k n s c e) ≡ true
  collectable-acked low e h =
      let p = both (is_acked e.ins) (has_collectable_removal low e.dels) h in
      rw (still e.ins p.0, removal-more low e.dels (acked_removal k s c e.removal_stage) p.1) refl
    where
      still : (t : Stamp) → is_acked t ≡ true → is_acked (acked_stamp k s c t) ≡ true
      still (Acked r d) g = refl
      still (Local j) g = (cc)

  removed-acked : (e : ListElement) → is_removed e ≡ true → is_removed (acked_element k n s c e) ≡ true
  removed-acked e h = any-append is_acked e.dels (acked_removal k s c e.removal_stage) h

  sequenced-id : (e : ListElement) → is_acked e.ins ≡ true → id (acked_element k n s c e) ≡ id e
  sequenced-id e h = step e.ins h
    where
      step : (t : Stamp) → is_acked t ≡ true → id_of_stamp (acked_stamp k s c t) (cond (is_of_stage k t) (n + e.nth) e.nth) ≡ id_of_stamp t e.nth
      step (Acked r d) g = refl
      step (Local j) g = (cc)

  universal-acked : (low : ℕ) (e : ListElement) → is_insertion_at_or_below low e.ins ≡ true → acked_element k n s c (with_universal_insertion e)
      ≡ with_universal_insertion (acked_element k n s c e)
  universal-acked low e h = step e.ins h
    where
      step : (t : Stamp) → is_insertion_at_or_below low t ≡ true → acked_element k n s c (with_universal_insertion (record e { ins = t }))
          ≡ with_universal_insertion (acked_element k n s c (record e { ins = t }))
      step (Acked r d) g = refl
      step (Local j) g = (cc)

  old-acked : (low : ℕ) (t : Stamp) → is_insertion_at_or_below low t ≡ true → is_insertion_at_or_below low (acked_stamp k s c t) ≡ true
  old-acked low (Acked r d) h = h
  old-acked low (Local j) h = (cc)

  still-sequenced : (t : Stamp) → not (is_acked t) ≡ false → not (is_acked (acked_stamp k s c t)) ≡ false
  still-sequenced (Acked r d) h = refl
  still-sequenced (Local j) h = (cc)

  next-acked : (xs : List ListElement) → is_before_pending xs ≡ false → is_before_pending (map (acked_element k n s c) xs) ≡ false
  next-acked [] h = refl
  next-acked (e ∷ xs) h = still-sequenced e.ins h

  items-acked : {low : ℕ} {held : ElementId → Bool} {ks xs : List ListElement} → Keeps low held ks xs
      → Keeps low held (map (acked_element k n s c) ks) (map (acked_element k n s c) xs)
  items-acked none = none
  items-acked (same h) = same (items-acked h)
  items-acked {low} {held} (universal {e = e} {ks = ks} {xs = xs} f h) =
      subst (λ d. Keeps low held (d ∷ map (acked_element k n s c) ks) (acked_element k n s c e ∷ map (acked_element k n s c) xs))
      (sym (universal-acked low e f)) (universal (old-acked low e.ins f) (items-acked h))
  items-acked {low} {held} (collected {e = e} {xs = xs} g u m h) =
      collected (collectable-acked low e g) (ap held (sequenced-id e (both (is_acked e.ins) (has_collectable_removal low e.dels) g).0) ∙ u) (next-acked xs m) (items-acked h)

  -- a held name stays held
  named-acked : (gone : ListElement → Bool) (held : ElementId → Bool) → ((e : ListElement) → gone e ≡ true → gone (acked_element k n s c e) ≡ true)
      → ((m : ℕ) → n ≤ m → held (SequencedId m) ≡ true)
      → (e : ListElement) → keeps_name gone held e ≡ true → keeps_name gone held (acked_element k n s c e) ≡ true
  named-acked gone held more later e h = step e.ins refl
    where
      stays : id (acked_element k n s c e) ≡ id e → gone (acked_element k n s c e) || held (id (acked_element k n s c e)) ≡ true
      stays q = ap (λ i. gone (acked_element k n s c e) || held i) q ∙ or_first (gone e) (held (id e)) (gone (acked_element k n s c e)) (more e) h

      name : (t : Stamp) → e.ins ≡ t → id (acked_element k n s c e) ≡ id_of_stamp (acked_stamp k s c t) (cond (is_of_stage k t) (n + e.nth) e.nth)
      name t q = ap (λ u. id_of_stamp (acked_stamp k s c u) (cond (is_of_stage k u) (n + e.nth) e.nth)) q

      pending : (j : ℕ) (b : Bool) → nat_eq j k ≡ b → e.ins ≡ Local j → gone (acked_element k n s c e) || held (id (acked_element k n s c e)) ≡ true
      pending j true f q =
          or_right (gone (acked_element k n s c e)) (held (id (acked_element k n s c e)))
          (ap held (name (Local j) q) ∙ ap (λ b. held (id_of_stamp (cond b (Acked s c) (Local j)) (cond b (n + e.nth) e.nth))) f ∙ later (n + e.nth) (omega arith))
      pending j false f q = stays (name (Local j) q ∙ ap (λ b. id_of_stamp (cond b (Acked s c) (Local j)) (cond b (n + e.nth) e.nth)) f ∙ ap (λ u. id_of_stamp u e.nth) (sym q))

      step : (t : Stamp) → e.ins ≡ t → gone (acked_element k n s c e) || held (id (acked_element k n s c e)) ≡ true
      step (Acked r d) q = stays (name (Acked r d) q ∙ ap (λ u. id_of_stamp u e.nth) (sym q))
      step (Local j) q = pending j (nat_eq j k) refl q

  all-acked : (gone : ListElement → Bool) (held : ElementId → Bool) → ((e : ListElement) → gone e ≡ true → gone (acked_element k n s c e) ≡ true)
      → ((m : ℕ) → n ≤ m → held (SequencedId m) ≡ true)
      → (xs : List ListElement) → list_all (keeps_name gone held) xs ≡ true → list_all (keeps_name gone held) (map (acked_element k n s c) xs) ≡ true
  all-acked gone held more later [] h = refl
  all-acked gone held more later (e ∷ xs) h =
      let p = both (keeps_name gone held e) (list_all (keeps_name gone held) xs) h in
      rw (named-acked gone held more later e p.0, all-acked gone held more later xs p.1) refl

-- ---- one list

pub inserted-alike : (low k : ℕ) (held : ElementId → Bool) → Alike low held (λ e. is_of_stage k e.ins)
inserted-alike low k held = record { gone = λ e g u. sequenced e.ins (both (is_acked e.ins) (has_collectable_removal low e.dels) g).0; old = λ e f. sym (old e.ins f) }
  where
    sequenced : (t : Stamp) → is_acked t ≡ true → is_of_stage k t ≡ false
    sequenced (Acked r d) h = refl
    sequenced (Local j) h = (cc)

    old : (t : Stamp) → is_insertion_at_or_below low t ≡ true → is_of_stage k t ≡ false
    old (Acked r d) h = refl
    old (Local j) h = (cc)

list-acked : {low : ℕ} {held : ElementId → Bool} {kept list : Sequence} (k s c : ℕ) → KeepsList low held kept list
    → KeepsList low held (acked_list k s c kept) (acked_list k s c list)
list-acked {low} {held} {kept} {list} k s c h = record {
  items = subst (λ n. Keeps low held (map (acked_element k n s c) kept.items) (map (acked_element k list.made s c) list.items)) (sym h.made) (items-acked k list.made s c h.items);
  made = ap (λ n. n + len (λ e. is_of_stage k e.ins) kept.items) h.made ∙ ap (λ m. list.made + m) (len-kept (λ e. is_of_stage k e.ins) (inserted-alike low k held) h.items);
}

names-acked : (gone : ListElement → Bool) (held : ElementId → Bool) (k s c : ℕ)
    → ((n : ℕ) (e : ListElement) → gone e ≡ true → gone (acked_element k n s c e) ≡ true) → (list : Sequence) → HoldsNames gone held list
    → HoldsNames gone held (acked_list k s c list)
names-acked gone held k s c more list h = record { all = all-acked k list.made s c gone held (more list.made) h.later list.items h.all; later = λ m l. h.later m (omega arith) }

-- ---- one stage

-- what the cell write of a stage leaves of each cell goes by what was there
cells-alike : (o : SubOperation) (names : NamedElements) (row col : ElementId) (ks cs : List Cell) → cell_value row col ks ≡ cell_value row col cs
    → cell_value row col (cells_after_stage o names ks) ≡ cell_value row col (cells_after_stage o names cs)
cells-alike (OnText op) names row col ks cs h = h
cells-alike (OnIntervals op) names row col ks cs h = h
cells-alike (OnGrid (SpliceIn target p count)) names row col ks cs h = h
cells-alike (OnGrid (SpliceOut target p q)) names row col ks cs h = h
cells-alike (OnGrid (Set i j value)) names row col ks cs h = step names.first names.second
  where
    step : (a b : Option ElementId) → cell_value row col (write_named_cell a b value ks) ≡ cell_value row col (write_named_cell a b value cs)
    step (Some a) (Some b) = write-agrees row col (record { row = a; col = b; value = value }) ks cs h
    step None b = h
    step (Some a) None = h

-- and where there was none and it leaves none, it leaves none
cells-none : (o : SubOperation) (names : NamedElements) (row col : ElementId) (ks cs : List Cell)
    → (cell_value row col cs ≡ None → cell_value row col ks ≡ None) → cell_value row col (cells_after_stage o names cs) ≡ None
    → cell_value row col (cells_after_stage o names ks) ≡ None
cells-none (OnText op) names row col ks cs h e = h e
cells-none (OnIntervals op) names row col ks cs h e = h e
cells-none (OnGrid (SpliceIn target p count)) names row col ks cs h e = h e
cells-none (OnGrid (SpliceOut target p q)) names row col ks cs h e = h e
cells-none (OnGrid (Set i j value)) names row col ks cs h e = step names.first names.second e
  where
    step : (a b : Option ElementId) → cell_value row col (write_named_cell a b value cs) ≡ None → cell_value row col (write_named_cell a b value ks) ≡ None
    step (Some a) (Some b) f = write-none row col (record { row = a; col = b; value = value }) ks cs h f
    step None b f = h f
    step (Some a) None f = h f

ends-acked : (held : ElementId → Bool) (o : SubOperation) (names : NamedElements) (is : List Interval)
    → elim o [ OnIntervals op ↦ are_held held names | _ ↦ true ] ≡ true → list_all (has_held_ends held) is ≡ true
    → list_all (has_held_ends held) (intervals_after_stage o names is) ≡ true
ends-acked held (OnText op) names is h g = g
ends-acked held (OnIntervals op) names is h g = operation-held held op names is h g
ends-acked held (OnGrid op) names is h g = g

stage-alike : {low : ℕ} {held : HeldNames} (s c : ℕ) (rename : ElementId → ElementId) (t : Stage) (kept doc : Document)
    → elim t.sub_operation [ OnIntervals op ↦ are_held held.text (renamed_names rename t.names) | _ ↦ true ] ≡ true
    → Trimmed low held kept doc → Trimmed low held (ack_stage s c rename t kept) (ack_stage s c rename t doc)
stage-alike {low} {held} s c rename t kept doc h k =
    let names = renamed_names rename t.names in
    let texts = text-step k (acked_list t.stage s c kept.text) (acked_list t.stage s c doc.text) (list-acked t.stage s c k.text)
    (names-acked (is_collectable low) held.text t.stage s c (λ n e g. collectable-acked t.stage n s c low e g) doc.text k.text_names) in
    let units = rows-step texts (acked_list t.stage s c kept.rows) (acked_list t.stage s c doc.rows) (list-acked t.stage s c k.rows)
    (names-acked is_removed held.rows t.stage s c (λ n e g. removed-acked t.stage n s c e g) doc.rows k.row_names) in
    let lists = cols-step units (acked_list t.stage s c kept.cols) (acked_list t.stage s c doc.cols) (list-acked t.stage s c k.cols)
    (names-acked is_removed held.cols t.stage s c (λ n e g. removed-acked t.stage n s c e g) doc.cols k.col_names) in
    let cells = cells-step lists (cells_after_stage t.sub_operation names kept.cells) (cells_after_stage t.sub_operation names doc.cells)
    (λ row col a b. cells-alike t.sub_operation names row col kept.cells doc.cells (k.cells row col a b))
    (λ row col e. cells-none t.sub_operation names row col kept.cells doc.cells (k.unwritten row col) e) in
    slid-step (intervals-step cells (intervals_after_stage t.sub_operation names kept.intervals) (intervals_after_stage t.sub_operation names doc.intervals)
    (ap (intervals_after_stage t.sub_operation names) (same-intervals k)) (ends-acked held.text t.sub_operation names doc.intervals h k.ends))

-- ---- the stages of an edit

made-alike : {low : ℕ} {held : HeldNames} (o : SubOperation) (kept doc : Document) → Trimmed low held kept doc → made_before kept o ≡ made_before doc o
made-alike (OnText op) kept doc t = t.text.made
made-alike (OnIntervals op) kept doc t = refl
made-alike (OnGrid (SpliceIn Rows p count)) kept doc t = t.rows.made
made-alike (OnGrid (SpliceIn Cols p count)) kept doc t = t.cols.made
made-alike (OnGrid (SpliceOut target p q)) kept doc t = refl
made-alike (OnGrid (Set i j value)) kept doc t = refl

-- what comes of both documents, with the renaming of later stages
pub record AckedAlike (low : ℕ) (held : HeldNames) (other out : Document × (ElementId → ElementId)) : Type 0 where
  pub doc : Trimmed low held other.0 out.0
  pub names : other.1 ≡ out.1

pub edit-alike : {low : ℕ} {held : HeldNames} (c m s last r : ℕ) (gs rest : List ToldStage) (rename : ElementId → ElementId) (kept doc : Document) → low ≤ r
    → AllRef r gs → Holds c m s last (map (renamed_told rename) (gs ++ rest)) doc
    → Trimmed low held kept doc → AckedAlike low held (ack_stages s c rename (map (λ g. g.stage) gs) kept) (ack_stages s c rename (map (λ g. g.stage) gs) doc)
edit-alike c m s last r [] rest rename kept doc l refs h t = record { doc = t; names = refl }
edit-alike {low} {held} c m s last r (g ∷ gs) rest rename kept doc l refs h t =
    let f = acked_id g.stage.stage (made_before doc g.stage.sub_operation) in
    let stages = map (λ (i : ToldStage). i.stage) gs in
    let above : low ≤ g.ref = subst (λ i. low ≤ i) (sym refs.0) l in
    let here = stage-alike s c rename g.stage kept doc (stage-text low c doc held.text t.text_names.all (renamed_told rename g) above g.stage.sub_operation
    g.sent h.told.1 h.stand.0.named) t in
    let doc1 = ack_stage s c rename g.stage doc in
    let kept1 = ack_stage s c rename g.stage kept in
    let same : ack_stage s c (λ x. x) (renamed_stage rename g.stage) doc ≡ ack_stage s c rename g.stage doc = renamed-first s c rename g.stage doc in
    let next : Holds c m s last (map (renamed_told (λ x. f (rename x))) (gs ++ rest)) doc1 =
    subst (λ ts. Holds c m s last ts doc1) (all-twice f rename (gs ++ rest))
    (subst (λ d. Holds c m s last (map (renamed_told f) (map (renamed_told rename) (gs ++ rest))) d) same
    (acknowledged-holds c m s last s (renamed_told rename g) (map (renamed_told rename) (gs ++ rest)) doc (omega arith) h)) in
    subst (λ n. AckedAlike low held (ack_stages s c (λ x. acked_id g.stage.stage n (rename x)) stages kept1) (ack_stages s c (λ x. f (rename x)) stages doc1))
    (sym (made-alike g.stage.sub_operation kept doc t))
    (edit-alike c m s last r gs rest (λ x. f (rename x)) kept1 doc1 l refs.1 next here)
