-- What a client is told of a step: how what it shows changes.
use Rattle.std.specs.Prelude.{ℕ, ◌+◌, ◌-◌, Bool, cond, not, ◌&&◌, nat_le, nat_eq, List, [], ◌∷◌, ◌++◌, Ok, Err, map, bytes_eq}
use Rattle.std.specs.declared.cmp.Ordering.{Ordering}
use Rattle.std.specs.declared.cmp.Ordering.TheVariants.{Equal, Greater}
use Rattle.std.specs.Ordering.{int_eq}
use Rattle.ft_base.specs.Scan.{len}
use Rattle.ft_props.specs.Properties.{PropertyList, apply}
use Rattle.ft_props.specs.Element.{is_pending, seen, seen_by, with_annotation, with_pending_annotation}
use Rattle.ft_op.specs.declared.operations.BaseOp.{BaseOp}
use Rattle.ft_op.specs.declared.operations.BaseOp.TheVariants.{Insert, Remove, Annotate}
use Rattle.ft_op.specs.declared.operations.CellOp.{CellOp}
use Rattle.ft_op.specs.declared.operations.CellOp.TheVariants.{SpliceIn, SpliceOut, Set}
use Rattle.ft_op.specs.declared.operations.ChannelOp.{ChannelOp}
use Rattle.ft_op.specs.declared.operations.Target.{Target}
use Rattle.ft_op.specs.Document.{Document, effect, rows_or_cols}
use Rattle.ft_op.specs.Operation.{OnGrid, OnIntervals, OnText, SubOperation, segment_contents, sub_operations}
use Rattle.ft_op.specs.Stages.{Stage}
use Rattle.ft_sumdoc.specs.declared.summary.CellRec.{CellRec}
use Rattle.ft_sumdoc.specs.declared.summary.IntervalRec.{IntervalRec}
use Rattle.ft_sumdoc.specs.WellFormed.{same_props}
use Rattle.ft_msg.specs.declared.messages.Body.{Body}
use Rattle.ft_msg.specs.declared.messages.Body.TheVariants.{Nothing, Op, Elsewhere}
use Rattle.ft_msg.specs.declared.messages.Entry.{Entry}
use Rattle.ft_msg.specs.Agreed.{reference_number}
use Rattle.ft_msg.specs.Client.{NaiveClient, local_edit, local_sub_operation, stages_of}
use Rattle.ft_msg.specs.Process.{after_entry, is_op, is_own, is_own_join}
use Rattle.ft_changes.specs.declared.changes.ViewChange.{ViewChange}
use Rattle.ft_changes.specs.declared.changes.ViewChange.TheVariants.{Put, Take, Style, PutUnits, TakeUnits, SetCell, ClearCell, SetInterval, DropInterval}
use Rattle.ft_changes.specs.ShownRuns.{ChangedRun, GoneRun, changed_runs, gone_runs, place_of_insertion}
use Rattle.ft_changes.specs.Shown.{ShownContent, after_changes, cell_order, interval_order, shown_content, shown_properties}

-- ---- the lists, by one sub-operation of another client's message

-- a run that goes away, as a change
abbrev pub taken_run : GoneRun → ViewChange
taken_run run = Take run.place run.count

abbrev pub taken_units : Target → GoneRun → ViewChange
taken_units target run = TakeUnits target run.place run.count

-- a run with other properties, as a change
abbrev pub styled_run : ChangedRun PropertyList → ViewChange
styled_run run = Style run.place run.count run.props

-- the change, unless there is nothing in it
abbrev pub unless_no_elements : {A : Type 0} → List A → ViewChange → List ViewChange
unless_no_elements [] change = []
unless_no_elements (x ∷ xs) change = change ∷ []

-- where k is the last stage: the text
abbrev pub told_of_text : ℕ → Document → ℕ → ℕ → BaseOp → List ViewChange
told_of_text k doc c r (Insert p seg props) =
    cond (nat_le p (len (seen_by r c) doc.text.items))
    (unless_no_elements (segment_contents seg) (Put (place_of_insertion (seen_by r c) is_pending (seen k) p doc.text.items) seg (apply [] props)))
    []
told_of_text k doc c r (Remove p q) =
    cond (nat_le q (len (seen_by r c) doc.text.items)) (map taken_run (gone_runs (seen_by r c) (seen k) p q doc.text.items)) []
told_of_text k doc c r (Annotate p q changes) =
    cond (nat_le q (len (seen_by r c) doc.text.items))
    (map styled_run (changed_runs same_props shown_properties (with_annotation changes) (seen_by r c) (seen k) p q doc.text.items))
    []

-- the rows and columns
abbrev pub told_of_grid : ℕ → Document → ℕ → ℕ → CellOp → List ViewChange
told_of_grid k doc c r (SpliceIn target p count) =
    let xs = (rows_or_cols target doc).items in
    cond (nat_le p (len (seen_by r c) xs) && not (nat_eq count 0))
    (PutUnits target (place_of_insertion (seen_by r c) is_pending (seen k) p xs) count ∷ [])
    []
told_of_grid k doc c r (SpliceOut target p q) =
    let xs = (rows_or_cols target doc).items in
    cond (nat_le q (len (seen_by r c) xs)) (map (taken_units target) (gone_runs (seen_by r c) (seen k) p q xs)) []
told_of_grid k doc c r (Set i j value) = []

abbrev pub told_sub_operation : ℕ → Document → ℕ → ℕ → SubOperation → List ViewChange
told_sub_operation k doc c r (OnText op) = told_of_text k doc c r op
told_sub_operation k doc c r (OnIntervals op) = []
told_sub_operation k doc c r (OnGrid op) = told_of_grid k doc c r op

-- sub-operations in order
abbrev pub told_sub_operations : ℕ → Document → ℕ → ℕ → ℕ → List SubOperation → List ViewChange
told_sub_operations k doc s c r [] = []
told_sub_operations k doc s c r (o ∷ os) = told_sub_operation k doc c r o ++ told_sub_operations k (effect doc s c r o) s c r os

-- the body of a message
abbrev pub told_body : ℕ → Document → ℕ → ℕ → ℕ → Body → List ViewChange
told_body k doc s c r (Op op) = told_sub_operations k doc s c r (sub_operations op)
told_body k doc s c r Nothing = []
told_body k doc s c r (Elsewhere address) = []

-- ---- cells and intervals, by what is shown before and after

-- whether two shown intervals are equal
abbrev pub same_interval : IntervalRec → IntervalRec → Bool
same_interval a b = int_eq a.ends.start b.ends.start && int_eq a.ends.end b.ends.end && same_props a.props b.props

-- whether two cells have equal values
abbrev pub same_cell_value : CellRec → CellRec → Bool
same_cell_value a b = bytes_eq a.value b.value

-- those before the place of x in the order are dropped
abbrev pub dropped_before : {A : Type 0} → (A → A → Ordering) → (A → ViewChange) → A → List A → List ViewChange
dropped_before order drop x [] = []
dropped_before order drop x (y ∷ ys) = elim (order x y) [ Greater ↦ drop y ∷ dropped_before order drop x ys | _ ↦ [] ]

-- those that aren't before it
abbrev pub not_before : {A : Type 0} → (A → A → Ordering) → A → List A → List A
not_before order x [] = []
not_before order x (y ∷ ys) = elim (order x y) [ Greater ↦ not_before order x ys | _ ↦ y ∷ ys ]

-- x is set, unless it stands first as it is
abbrev pub set_unless_same : {A : Type 0} → (A → A → Ordering) → (A → A → Bool) → (A → ViewChange) → A → List A → List ViewChange
set_unless_same order same set x [] = set x ∷ []
set_unless_same order same set x (y ∷ ys) = elim (order x y) [ Equal ↦ cond (same x y) [] (set x ∷ []) | _ ↦ set x ∷ [] ]

-- those behind x
abbrev pub behind_set : {A : Type 0} → (A → A → Ordering) → A → List A → List A
behind_set order x [] = []
behind_set order x (y ∷ ys) = elim (order x y) [ Equal ↦ ys | _ ↦ y ∷ ys ]

-- what leads from rising items to others: which are dropped, and which are set
abbrev pub told_items : {A : Type 0} → (A → A → Ordering) → (A → A → Bool) → (A → ViewChange) → (A → ViewChange) → List A → List A → List ViewChange
told_items order same set drop ys [] = map drop ys
told_items order same set drop ys (x ∷ xs) =
    let left = not_before order x ys in
    dropped_before order drop x ys ++ set_unless_same order same set x left ++ told_items order same set drop (behind_set order x left) xs

abbrev pub told_cells : List CellRec → List CellRec → List ViewChange
told_cells before after = told_items cell_order same_cell_value (λ c. SetCell c.row c.col c.value) (λ c. ClearCell c.row c.col) before after

abbrev pub told_intervals : List IntervalRec → List IntervalRec → List ViewChange
told_intervals before after = told_items interval_order same_interval SetInterval (λ i. DropInterval i.label i.id) before after

-- what is left to tell of cells and intervals
abbrev pub told_rest : ShownContent → ShownContent → List ViewChange
told_rest before after = told_cells before.cells after.cells ++ told_intervals before.intervals after.intervals

-- ---- a whole entry

-- the changes of the lists, none by what is the client's own
abbrev pub told_lists : NaiveClient → Entry → List ViewChange
told_lists x entry =
    cond (is_own_join x.link entry.msg.kind entry.origin) []
    (cond (is_op entry.msg.body && is_own x entry) []
    (told_body x.last_stage x.doc entry.msg.seq entry.origin (reference_number entry.msg.ref_seq) entry.msg.body))

-- all that is told of an entry
abbrev pub told_of_entry : NaiveClient → Entry → List ViewChange
told_of_entry x entry =
    let lists = told_lists x entry in
    lists ++ told_rest (after_changes (shown_content x) lists) (shown_content (after_entry x entry))

-- ---- an edit of the client's own

-- by a sub-operation at stage k, which counts by the stage before: the text
abbrev pub told_local_text : ℕ → Document → BaseOp → List ViewChange
told_local_text k doc (Insert p seg props) = unless_no_elements (segment_contents seg) (Put p seg (apply [] props))
told_local_text k doc (Remove p q) = map taken_run (gone_runs (seen (k - 1)) (seen k) p q doc.text.items)
told_local_text k doc (Annotate p q changes) =
    map styled_run (changed_runs same_props shown_properties (with_pending_annotation k changes) (seen (k - 1)) (seen k) p q doc.text.items)

-- the rows and columns
abbrev pub told_local_grid : ℕ → Document → CellOp → List ViewChange
told_local_grid k doc (SpliceIn target p count) = cond (nat_eq count 0) [] (PutUnits target p count ∷ [])
told_local_grid k doc (SpliceOut target p q) = map (taken_units target) (gone_runs (seen (k - 1)) (seen k) p q (rows_or_cols target doc).items)
told_local_grid k doc (Set i j value) = []

abbrev pub told_local : ℕ → Document → SubOperation → List ViewChange
told_local k doc (OnText op) = told_local_text k doc op
told_local k doc (OnIntervals op) = []
told_local k doc (OnGrid op) = told_local_grid k doc op

-- sub-operations in order, each at the next stage
abbrev pub told_locals : Document → List Stage → ℕ → List SubOperation → List ViewChange
told_locals doc stages k [] = []
told_locals doc stages k (o ∷ os) = elim (local_sub_operation doc stages k o) [
  | Err fault ↦ []
  | Ok taken ↦
      let here : Stage = record { stage = k; sub_operation = o; names = taken.1 } in
      told_local k doc o ++ told_locals taken.0 (stages ++ (here ∷ [])) (k + 1) os
]

-- the changes of the lists by an edit
abbrev pub told_edit_lists : NaiveClient → ChannelOp → List ViewChange
told_edit_lists x op = told_locals x.doc (stages_of x) (x.last_stage + 1) (sub_operations op)

-- all that is told of an edit after which the client is y
abbrev pub told_edit : NaiveClient → NaiveClient → ChannelOp → List ViewChange
told_edit x y op =
    let lists = told_edit_lists x op in
    lists ++ told_rest (after_changes (shown_content x) lists) (shown_content y)

-- all that is told of an edit; nothing where it is refused
abbrev pub told_of_edit : NaiveClient → ChannelOp → List ViewChange
told_of_edit x op = elim (local_edit x op) [ Err fault ↦ [] | Ok y ↦ told_edit x y op ]
