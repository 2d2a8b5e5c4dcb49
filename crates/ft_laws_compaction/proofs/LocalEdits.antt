-- An edit of the client's own on a compacted document beside the whole one: both are refused alike, or both taken with the same
-- names.
use Rattle.std.proofs.Common.{◌≡◌, ℕ, ◌+◌, ◌-◌, ◌≤◌, Bool, true, false, cond, nat_le, List, [], ◌∷◌, ◌++◌, Option, Some, None, Result, Ok, Err, refl, sym, ◌∙◌, ap, subst, arith, ℤ, pos, negsuc, replicate}
use Rattle.std.specs.Option.{option_map}
use Rattle.std.specs.List.{list_all}
use Rattle.std.proofs.lemmas.Bool.Decides.{nat_tests}
use Rattle.ft_base.specs.declared.stamps.Stamp.TheVariants.{Local}
use Rattle.ft_base.specs.Scan.{at, len, no_run}
use Rattle.ft_op.specs.declared.operations.BaseOp.{BaseOp}
use Rattle.ft_op.specs.declared.operations.BaseOp.TheVariants.{Insert, Remove, Annotate}
use Rattle.ft_op.specs.declared.operations.CellOp.{CellOp}
use Rattle.ft_op.specs.declared.operations.CellOp.TheVariants.{SpliceIn, SpliceOut, Set}
use Rattle.ft_op.specs.declared.operations.Ends.{Ends}
use Rattle.ft_op.specs.declared.operations.Target.TheVariants.{Rows, Cols}
use Rattle.ft_op.specs.declared.operations.TextOp.{TextOp}
use Rattle.ft_msg.specs.declared.faults.EditFault.{EditFault}
use Rattle.ft_msg.specs.declared.faults.EditFault.TheVariants.{OutOfRange}
use Rattle.ft_props.specs.declared.properties.Changes.{Changes}
use Rattle.ft_props.specs.Properties.{PropertyList, ValueBytes, apply}
use Rattle.ft_props.specs.Element.{ElementContent, ElementId, GridUnit, ListElement, PendingId, id, new_elements, seen, with_pending_annotation, with_pending_removal}
use Rattle.ft_props.specs.Compaction.{Keeps, KeepsList, is_collectable}
use Rattle.ft_props.specs.Steps.{Sequence, after_local_insertion, after_local_mark}
use Rattle.ft_props.proofs.RebuiltList.{or_right}
use Rattle.ft_op.specs.Operation.{OnGrid, OnIntervals, OnText, SubOperation, segment_contents}
use Rattle.ft_op.specs.Intervals.{NamedElements, element_at_end, no_elements}
use Rattle.ft_op.specs.Document.{Document, elements_at_given_ends, ends_of, given_ends_fit}
use Rattle.ft_op.specs.Stages.{Stage, shown_intervals}
use Rattle.ft_msg.specs.Client.{EditResult, id_fault, if_in_range, local_grid, local_interval, local_set, local_sub_operation, local_sub_operations, local_text, unless_fault}
use Rattle.ft_laws_agreement.proofs.AnyAndAll.{all-append}
use Rattle.ft_laws_agreement.proofs.CompactedScans.{Marking, at-kept, len-kept, range-kept, seen-alike}
use Rattle.ft_laws_agreement.proofs.CountedEntries.{after_first, with_first}
use Rattle.ft_laws_agreement.proofs.HeldNames.{HoldsNames, all-put, keeps_name, range-names}
use Rattle.ft_laws_agreement.proofs.TrimmedDocument.{HeldNames, Trimmed, are_held, cols-step, is_removed, rows-step, same-intervals, text-step}
use Rattle.ft_laws_compaction.proofs.FreeTombstones.{given-held, has_held_text}
use Rattle.ft_laws_compaction.proofs.KeptLists.{put-kept}
use Rattle.ft_laws_compaction.proofs.ShownIntervals.{shown-kept}

-- the names of pending elements are held
pub record HoldsPending (held : HeldNames) : Type 0 where
  pub text : (k i : ℕ) → held.text (PendingId k i) ≡ true
  pub rows : (k i : ℕ) → held.rows (PendingId k i) ≡ true
  pub cols : (k i : ℕ) → held.cols (PendingId k i) ≡ true

-- ---- one list

pub removal-marking : (low k : ℕ) → Marking low (with_pending_removal k)
removal-marking low k = record { name = λ e. refl; ins = λ e. refl; gone = λ e g. g; old = λ e. refl }

pub annotation-marking : (low k : ℕ) (changes : Changes) → Marking low (with_pending_annotation k changes)
annotation-marking low k changes = record { name = λ e. refl; ins = λ e. refl; gone = λ e g. g; old = λ e. refl }

module _ {low : ℕ} {held : ElementId → Bool} {kept list : Sequence} (k : ℕ) (h : KeepsList low held kept list) where
  insertion-kept : (p : ℕ) (props : PropertyList) (bs : List ElementContent) → p ≤ len (seen (k - 1)) list.items
      → KeepsList low held (after_local_insertion k p props bs kept) (after_local_insertion k p props bs list)
  insertion-kept p props bs l = record { items = put-kept (seen (k - 1)) (seen-alike low (k - 1) held) (new_elements 0 (Local k) [] None props bs) p l h.items; made = h.made }

  mark-kept : (p q : ℕ) (f : ListElement → ListElement) → Marking low f → KeepsList low held (after_local_mark k p q f kept) (after_local_mark k p q f list)
  mark-kept p q f m = record { items = range-kept (seen (k - 1)) (seen-alike low (k - 1) held) f m 0 p q h.items; made = h.made }

  len-list : len (seen (k - 1)) kept.items ≡ len (seen (k - 1)) list.items
  len-list = len-kept (seen (k - 1)) (seen-alike low (k - 1) held) h.items

  at-list : (i : ℕ) → option_map id (at (seen (k - 1)) i kept.items) ≡ option_map id (at (seen (k - 1)) i list.items)
  at-list i = at-kept (seen (k - 1)) (seen-alike low (k - 1) held) i h.items

module _ (gone : ListElement → Bool) (held : ElementId → Bool) (pending : (k i : ℕ) → held (PendingId k i) ≡ true) where
  new-held : (k i : ℕ) (props : PropertyList) (bs : List ElementContent) → list_all (keeps_name gone held) (new_elements i (Local k) [] None props bs) ≡ true
  new-held k i props [] = refl
  new-held k i props (b ∷ bs) =
      let e : ListElement = record { nth = i; content = b; ins = Local k; dels = []; removal_stage = None; by = None; props = props; pending = [] } in
      rw (or_right (gone e) (held (PendingId k i)) (pending k i), new-held k (i + 1) props bs) refl

  insertion-names : (k p : ℕ) (props : PropertyList) (bs : List ElementContent) (list : Sequence) → HoldsNames gone held list
      → HoldsNames gone held (after_local_insertion k p props bs list)
  insertion-names k p props bs list h = record {
    all = all-put (keeps_name gone held) (seen (k - 1)) no_run p (new_elements 0 (Local k) [] None props bs)
        list.items (new-held k 0 props bs) h.all;
    later = h.later;
  }

-- ---- one sub-operation

-- both are refused with one fault, or both are taken with the same names
pub data TakenAlike (low : ℕ) (held : HeldNames) (o : SubOperation) : EditResult → EditResult → Type 0 where
  refused : (fault : EditFault) → TakenAlike low held o (Err fault) (Err fault)
  taken : (kept doc : Document) (names : NamedElements) → Trimmed low held kept doc → elim o [ OnIntervals op ↦ are_held held.text names | _ ↦ true ] ≡ true
      → TakenAlike low held o (Ok (kept, names)) (Ok (doc, names))

at_most : (p n : ℕ) → nat_le p n ≡ true → p ≤ n
at_most p n h = grind (arith, nat_tests)

module _ (low : ℕ) (held : HeldNames) (pending : HoldsPending held) where
  text-taken : (op : BaseOp) (p m n : ℕ) (kept doc : Document) → m ≡ n → (p ≤ n → Trimmed low held kept doc)
      → TakenAlike low held (OnText op) (if_in_range p m kept) (if_in_range p n doc)
  text-taken op p m n kept doc e f = subst (λ i. TakenAlike low held (OnText op) (if_in_range p i kept) (if_in_range p n doc)) (sym e) (step (nat_le p n) refl)
    where
      step : (b : Bool) → nat_le p n ≡ b → TakenAlike low held (OnText op) (cond b (Ok (kept, no_elements)) (Err (OutOfRange n)))
          (cond b (Ok (doc, no_elements)) (Err (OutOfRange n)))
      step true g = taken kept doc no_elements (f (at_most p n g)) refl
      step false g = refused (OutOfRange n)

  grid-taken : (op : CellOp) (p m n : ℕ) (kept doc : Document) → m ≡ n → (p ≤ n → Trimmed low held kept doc)
      → TakenAlike low held (OnGrid op) (if_in_range p m kept) (if_in_range p n doc)
  grid-taken op p m n kept doc e f = subst (λ i. TakenAlike low held (OnGrid op) (if_in_range p i kept) (if_in_range p n doc)) (sym e) (step (nat_le p n) refl)
    where
      step : (b : Bool) → nat_le p n ≡ b → TakenAlike low held (OnGrid op) (cond b (Ok (kept, no_elements)) (Err (OutOfRange n)))
          (cond b (Ok (doc, no_elements)) (Err (OutOfRange n)))
      step true g = taken kept doc no_elements (f (at_most p n g)) refl
      step false g = refused (OutOfRange n)

  local_text-alike : (kept doc : Document) (k : ℕ) (op : BaseOp) → Trimmed low held kept doc → TakenAlike low held (OnText op) (local_text kept k op) (local_text doc k op)
  local_text-alike kept doc k (Insert p seg props) t =
      text-taken (Insert p seg props) p _ _ _ _ (len-list k t.text)
      (λ l. text-step t _ _ (insertion-kept k t.text p (apply [] props) (segment_contents seg) l)
      (insertion-names (is_collectable low) held.text pending.text k p (apply [] props) (segment_contents seg) doc.text t.text_names))
  local_text-alike kept doc k (Remove p q) t =
      text-taken (Remove p q) q _ _ _ _ (len-list k t.text)
      (λ l. text-step t _ _ (mark-kept k t.text p q (with_pending_removal k) (removal-marking low k))
      (range-names (is_collectable low) held.text (seen (k - 1)) (with_pending_removal k) (λ e. refl) (λ e g. g) p q doc.text t.text_names))
  local_text-alike kept doc k (Annotate p q changes) t =
      text-taken (Annotate p q changes) q _ _ _ _ (len-list k t.text)
      (λ l. text-step t _ _ (mark-kept k t.text p q (with_pending_annotation k changes) (annotation-marking low k changes))
      (range-names (is_collectable low) held.text (seen (k - 1)) (with_pending_annotation k changes) (λ e. refl) (λ e g. g) p q doc.text t.text_names))

  -- ---- intervals

  end-kept : {ks xs : List ListElement} (k : ℕ) (z : ℤ) → Keeps low held.text ks xs → element_at_end (seen (k - 1)) ks z ≡ element_at_end (seen (k - 1)) xs z
  end-kept k (pos p) h = at-kept (seen (k - 1)) (seen-alike low (k - 1) held.text) p h
  end-kept k (negsuc p) h = refl

  given-kept : {ks xs : List ListElement} (k : ℕ) (ends : Option Ends) → Keeps low held.text ks xs → elements_at_given_ends (seen (k - 1)) ks ends
      ≡ elements_at_given_ends (seen (k - 1)) xs ends
  given-kept k None h = refl
  given-kept k (Some ends) h = rw (end-kept k ends.start h, end-kept k ends.end h) refl

  local_interval-alike : (kept doc : Document) (stages : List Stage) (k : ℕ) (op : TextOp) → Trimmed low held kept doc → list_all (has_held_text held.text) stages ≡ true
      → TakenAlike low held (OnIntervals op) (local_interval kept stages k op) (local_interval doc stages k op)
  local_interval-alike kept doc stages k op t names =
      let m = len (seen (k - 1)) kept.text.items in
      let n = len (seen (k - 1)) doc.text.items in
      let shown : shown_intervals kept.text.items kept.intervals stages ≡ shown_intervals doc.text.items doc.intervals stages =
      ap (λ is. shown_intervals kept.text.items is stages) (same-intervals t) ∙ shown-kept t.text.items t.text_names.all stages doc.intervals t.ends names in
      subst (λ is. TakenAlike low held (OnIntervals op) (unless_fault (id_fault is op)
      (cond (given_ends_fit m (ends_of op)) (Ok (kept, elements_at_given_ends (seen (k - 1)) kept.text.items (ends_of op))) (Err (OutOfRange m))))
      (local_interval doc stages k op)) (sym shown)
      (subst (λ at. TakenAlike low held (OnIntervals op) (unless_fault (id_fault (shown_intervals doc.text.items doc.intervals stages) op)
      (cond (given_ends_fit m (ends_of op)) (Ok (kept, at)) (Err (OutOfRange m)))) (local_interval doc stages k op)) (sym (given-kept k (ends_of op) t.text.items))
      (subst (λ i. TakenAlike low held (OnIntervals op) (unless_fault (id_fault (shown_intervals doc.text.items doc.intervals stages) op)
      (cond (given_ends_fit i (ends_of op)) (Ok (kept, elements_at_given_ends (seen (k - 1)) doc.text.items (ends_of op))) (Err (OutOfRange i))))
      (local_interval doc stages k op)) (sym (len-list k t.text))
      (step (id_fault (shown_intervals doc.text.items doc.intervals stages) op) (given_ends_fit n (ends_of op)))))
    where
      step : (fault : Option EditFault) (b : Bool)
          → TakenAlike low held (OnIntervals op) (unless_fault fault (cond b (Ok (kept, elements_at_given_ends (seen (k - 1)) doc.text.items (ends_of op)))
          (Err (OutOfRange (len (seen (k - 1)) doc.text.items)))))
          (unless_fault fault (cond b (Ok (doc, elements_at_given_ends (seen (k - 1)) doc.text.items (ends_of op))) (Err (OutOfRange (len (seen (k - 1)) doc.text.items)))))
      step (Some fault) b = refused fault
      step None true = taken kept doc (elements_at_given_ends (seen (k - 1)) doc.text.items (ends_of op)) t
          (given-held (is_collectable low) held.text (seen (k - 1)) (λ e g. (seen-alike low (k - 1) (λ _. false)).gone e g refl) doc.text.items t.text_names.all (ends_of op))
      step None false = refused (OutOfRange (len (seen (k - 1)) doc.text.items))

  -- ---- the grid

  local_set-alike : (kept doc : Document) (k i j : ℕ) (value : ValueBytes) (a b x y : Option ListElement) → len (seen (k - 1)) kept.rows.items
      ≡ len (seen (k - 1)) doc.rows.items → len (seen (k - 1)) kept.cols.items ≡ len (seen (k - 1)) doc.cols.items
      → option_map id a ≡ option_map id x → option_map id b ≡ option_map id y → Trimmed low held kept doc
      → TakenAlike low held (OnGrid (Set i j value)) (local_set kept k a b) (local_set doc k x y)
  local_set-alike kept doc k i j value (Some a) (Some b) (Some x) (Some y) m n p q t =
      let e : id a ≡ id x = cc in
      let f : id b ≡ id y = cc in
      subst (λ u. TakenAlike low held (OnGrid (Set i j value)) (Ok (kept, record { first = Some u; second = Some (id b) })) (local_set doc k (Some x) (Some y))) (sym e)
      (subst (λ u. TakenAlike low held (OnGrid (Set i j value)) (Ok (kept, record { first = Some (id x); second = Some u })) (local_set doc k (Some x) (Some y))) (sym f)
      (taken kept doc (record { first = Some (id x); second = Some (id y) }) t refl))
  local_set-alike kept doc k i j value None b None y m n p q t = subst (λ u. TakenAlike low held (OnGrid (Set i j value)) (Err (OutOfRange u))
      (local_set doc k None y)) (sym m) (refused (OutOfRange (len (seen (k - 1)) doc.rows.items)))
  local_set-alike kept doc k i j value (Some a) None (Some x) None m n p q t =
      subst (λ u. TakenAlike low held (OnGrid (Set i j value)) (Err (OutOfRange u)) (local_set doc k (Some x) None)) (sym n)
      (refused (OutOfRange (len (seen (k - 1)) doc.cols.items)))
  local_set-alike kept doc k i j value None b (Some x) y m n p q t = absurd cc
  local_set-alike kept doc k i j value (Some a) b None y m n p q t = absurd cc
  local_set-alike kept doc k i j value (Some a) None (Some x) (Some y) m n p q t = absurd cc
  local_set-alike kept doc k i j value (Some a) (Some b) (Some x) None m n p q t = absurd cc

  local_grid-alike : (kept doc : Document) (k : ℕ) (op : CellOp) → Trimmed low held kept doc → TakenAlike low held (OnGrid op) (local_grid kept k op) (local_grid doc k op)
  local_grid-alike kept doc k (SpliceIn Rows p count) t =
      grid-taken (SpliceIn Rows p count) p _ _ _ _ (len-list k t.rows)
      (λ l. rows-step t _ _ (insertion-kept k t.rows p [] (replicate count GridUnit) l)
      (insertion-names is_removed held.rows pending.rows k p [] (replicate count GridUnit) doc.rows t.row_names))
  local_grid-alike kept doc k (SpliceIn Cols p count) t =
      grid-taken (SpliceIn Cols p count) p _ _ _ _ (len-list k t.cols)
      (λ l. cols-step t _ _ (insertion-kept k t.cols p [] (replicate count GridUnit) l)
      (insertion-names is_removed held.cols pending.cols k p [] (replicate count GridUnit) doc.cols t.col_names))
  local_grid-alike kept doc k (SpliceOut Rows p q) t =
      grid-taken (SpliceOut Rows p q) q _ _ _ _ (len-list k t.rows)
      (λ l. rows-step t _ _ (mark-kept k t.rows p q (with_pending_removal k) (removal-marking low k))
      (range-names is_removed held.rows (seen (k - 1)) (with_pending_removal k) (λ e. refl) (λ e g. g) p q doc.rows t.row_names))
  local_grid-alike kept doc k (SpliceOut Cols p q) t =
      grid-taken (SpliceOut Cols p q) q _ _ _ _ (len-list k t.cols)
      (λ l. cols-step t _ _ (mark-kept k t.cols p q (with_pending_removal k) (removal-marking low k))
      (range-names is_removed held.cols (seen (k - 1)) (with_pending_removal k) (λ e. refl) (λ e g. g) p q doc.cols t.col_names))
  local_grid-alike kept doc k (Set i j value) t =
      local_set-alike kept doc k i j value (at (seen (k - 1)) i kept.rows.items) (at (seen (k - 1)) j kept.cols.items) (at (seen (k - 1)) i doc.rows.items)
      (at (seen (k - 1)) j doc.cols.items)
      (len-list k t.rows) (len-list k t.cols) (at-list k t.rows i) (at-list k t.cols j) t

  sub_operation-alike : (kept doc : Document) (stages : List Stage) (k : ℕ) (o : SubOperation) → Trimmed low held kept doc → list_all (has_held_text held.text) stages ≡ true
      → TakenAlike low held o (local_sub_operation kept stages k o) (local_sub_operation doc stages k o)
  sub_operation-alike kept doc stages k (OnText op) t names = local_text-alike kept doc k op t
  sub_operation-alike kept doc stages k (OnIntervals op) t names = local_interval-alike kept doc stages k op t names
  sub_operation-alike kept doc stages k (OnGrid op) t names = local_grid-alike kept doc k op t

-- ---- an edit

-- both are refused with one fault, or both are taken with the same stages
pub data EditAlike (low : ℕ) (held : HeldNames) : Result (Document × List Stage) EditFault → Result (Document × List Stage) EditFault → Type 0 where
  edit_refused : (fault : EditFault) → EditAlike low held (Err fault) (Err fault)
  edit_taken : (kept doc : Document) (stages : List Stage) → Trimmed low held kept doc → list_all (has_held_text held.text) stages ≡ true
      → EditAlike low held (Ok (kept, stages)) (Ok (doc, stages))

module _ (low : ℕ) (held : HeldNames) (pending : HoldsPending held) where
  with_first-alike : (here : Stage) {r s : Result (Document × List Stage) EditFault} → has_held_text held.text here ≡ true → EditAlike low held r s
      → EditAlike low held (with_first here r) (with_first here s)
  with_first-alike here h (edit_refused fault) = edit_refused fault
  with_first-alike here h (edit_taken kept doc stages t g) = edit_taken kept doc (here ∷ stages) t (rw (h, g) refl)

  after_first-alike : (stages : List Stage) (k : ℕ) (o : SubOperation) (os : List SubOperation) {r s : EditResult}
      → ((kept doc : Document) (more : List Stage) → Trimmed low held kept doc → list_all (has_held_text held.text) more ≡ true
      → EditAlike low held (local_sub_operations kept more (k + 1) os) (local_sub_operations doc more (k + 1) os))
      → list_all (has_held_text held.text) stages ≡ true → TakenAlike low held o r s → EditAlike low held (after_first stages k o os r) (after_first stages k o os s)
  after_first-alike stages k o os ih h (refused fault) = edit_refused fault
  after_first-alike stages k o os ih h (taken kept doc names t g) =
      let here : Stage = record { stage = k; sub_operation = o; names = names } in
      let last : list_all (has_held_text held.text) (record { stage = k; sub_operation = o; names = names } ∷ []) ≡ true = rw g refl in
      with_first-alike here g (ih kept doc (stages ++ (here ∷ [])) t (all-append (has_held_text held.text) stages (here ∷ []) h last))

  pub sub_operations-alike : (os : List SubOperation) (kept doc : Document) (stages : List Stage) (k : ℕ) → Trimmed low held kept doc
      → list_all (has_held_text held.text) stages ≡ true
      → EditAlike low held (local_sub_operations kept stages k os) (local_sub_operations doc stages k os)
  sub_operations-alike [] kept doc stages k t h = edit_taken kept doc [] t refl
  sub_operations-alike (o ∷ os) kept doc stages k t h =
      after_first-alike stages k o os (λ kd d more u g. sub_operations-alike os kd d more (k + 1) u g) h (sub_operation-alike low held pending kept doc stages k o t h)
