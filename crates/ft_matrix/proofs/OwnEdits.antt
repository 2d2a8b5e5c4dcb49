-- A grid and a document whose part it holds take an operation of the client's own alike.
use Rattle.std.proofs.Common.{◌≡◌, ℕ, suc, ◌+◌, ◌-◌, ◌≤◌, ◌<◌, true, false, cond, nat_le, List, [], ◌∷◌, ◌++◌, Option, Some, None, Result, Ok, Err, refl, sym, ◌∙◌, ap, subst, map, length, replicate, arith, append-nil}
use Rattle.std.proofs.lemmas.List.Elements.{recursion_from_All}
use Rattle.ft_base.specs.declared.stamps.Stamp.TheVariants.{Local}
use Rattle.ft_base.specs.Scan.{at, change_range_from, len, no_run, put}
use Rattle.ft_base.proofs.ScanLaws.{retain_map-append}
use Rattle.ft_block.specs.Leaves.{last_stage}
use Rattle.ft_op.specs.declared.operations.CellOp.{CellOp}
use Rattle.ft_op.specs.declared.operations.CellOp.TheVariants.{SpliceIn, SpliceOut, Set}
use Rattle.ft_op.specs.declared.operations.Target.{Target}
use Rattle.ft_op.specs.declared.operations.Target.TheVariants.{Rows, Cols}
use Rattle.ft_msg.specs.declared.faults.EditFault.{EditFault}
use Rattle.ft_msg.specs.declared.faults.EditFault.TheVariants.{OutOfRange}
use Rattle.ft_props.specs.Element.{GridUnit, ListElement, id, new_elements, seen, with_pending_removal}
use Rattle.ft_props.specs.Steps.{Sequence}
use Rattle.ft_op.specs.Operation.{OnGrid}
use Rattle.ft_op.specs.Intervals.{NamedElements, no_elements}
use Rattle.ft_op.specs.Document.{Document, rows_or_cols, with_rows_or_cols}
use Rattle.ft_op.specs.Stages.{Stage}
use Rattle.ft_msg.specs.Client.{EditResult, if_in_range, local_grid, local_set, local_sub_operations}
use Rattle.ft_msg.specs.Indexed.{indexed_stage}
use Rattle.ft_tree_leaves.specs.Elements.{seen_in}
use Rattle.ft_perm.specs.Vectors.{VectorState}
use Rattle.ft_laws_names.specs.WellNamed.{HasItsStages, RiseTo, AreWellNamed}
use Rattle.ft_laws_names.proofs.Beside.{beside-append, ends, next}
use Rattle.ft_laws_names.proofs.ClientsAlike.{ClientsAlike}
use Rattle.ft_laws_names.proofs.DocumentsAlike.{DocsStep}
use Rattle.ft_laws_names.proofs.LocalAlike.{StagesBeside, SubsAlike, stages-stay, subs-alike, went}
use Rattle.ft_laws_names.specs.GridFacts.{is_unit_below}
use Rattle.ft_laws_agreement.specs.Sequencing.{is_grid_stage}
use Rattle.ft_laws_agreement.proofs.NumberTests.{from_self}
use Rattle.ft_named.proofs.Lists.{map-append}
use Rattle.ft_matrix.specs.declared.grid.Grid.{Grid}
use Rattle.ft_matrix.specs.declared.stages.GridStage.{GridStage}
use Rattle.ft_matrix.specs.Units.{shown_unit, units_of}
use Rattle.ft_matrix.specs.GridStates.{grid_state, shown_stage}
use Rattle.ft_matrix.specs.HoldsGrid.{HoldsGrid}
use Rattle.ft_matrix.specs.Conditions.{IsAboveAll}
use Rattle.ft_matrix.specs.Sides.{units_at, with_units_at}
use Rattle.ft_matrix.specs.Sound.{IsSound}
use Rattle.ft_matrix.specs.Splices.{Inserts, Removes}
use Rattle.ft_matrix.specs.Applied.{Holds}
use Rattle.ft_matrix.specs.OwnEdits.{EditsOne, TakesStage, stage_of}
use Rattle.ft_matrix.proofs.Effects.{above-test, first-stages, side-kept, units}
use Rattle.ft_matrix.proofs.HeldGrids.{alike-self, client_of, rows-beside, self-alike}
use Rattle.ft_matrix.proofs.SideLaws.{same-side, side-stages}
use Rattle.ft_matrix.proofs.OwnSteps.{AreBelow, below-of, own-count, own-insert-step, own-remove-step}

-- ---- an own operation at the stage above the last

abbrev pub own_set : Document → ℕ → Option ListElement → Option ListElement → EditResult
own_set doc n (Some row) (Some col) = Ok (doc, record { first = Some (id row); second = Some (id col) })
own_set doc n None col = Err (OutOfRange (len (seen n) doc.rows.items))
own_set doc n (Some row) None = Err (OutOfRange (len (seen n) doc.cols.items))

-- as stage k, by the view of stage n
abbrev pub own_grid : Document → ℕ → ℕ → CellOp → EditResult
own_grid doc k n (SpliceIn target p count) =
    let list = rows_or_cols target doc in
    if_in_range p (len (seen n) list.items)
    (with_rows_or_cols target doc (record list { items = put (seen n) no_run p (new_elements 0 (Local k) [] None [] (replicate count GridUnit)) list.items }))
own_grid doc k n (SpliceOut target p q) =
    let list = rows_or_cols target doc in
    if_in_range q (len (seen n) list.items) (with_rows_or_cols target doc (record list { items = change_range_from 0 (seen n) p q (with_pending_removal k) list.items }))
own_grid doc k n (Set i j value) = own_set doc n (at (seen n) i doc.rows.items) (at (seen n) j doc.cols.items)

local-is-own : (doc : Document) (k : ℕ) (op : CellOp) → local_grid doc k op ≡ own_grid doc k (k - 1) op
local-is-own doc k (SpliceIn target p count) = refl
local-is-own doc k (SpliceOut target p q) = refl
local-is-own doc k (Set i j value) = same (at (seen (k - 1)) i doc.rows.items) (at (seen (k - 1)) j doc.cols.items)
  where
    same : (o p : Option ListElement) → local_set doc k o p ≡ own_set doc (k - 1) o p
    same (Some x) (Some y) = refl
    same (Some x) None = refl
    same None p = refl

pub local-own : (doc : Document) (last k : ℕ) (op : CellOp) → k ≡ last + 1 → local_grid doc k op ≡ own_grid doc (suc last) last op
local-own doc last k op e =
    let here : k ≡ suc last = omega arith in
    let before : k - 1 ≡ last = omega arith in
    local-is-own doc k op ∙ ap (λ n. own_grid doc n (k - 1) op) here ∙ ap (λ n. own_grid doc (suc last) n op) before

-- ---- names go on to fit

went-of : {last : ℕ} {stages : List Stage} {p q d e : Document} {ts us : List Stage} → SubsAlike last stages p q (Ok (d, ts)) (Ok (e, us))
    → DocsStep last (last + length ts) p q d e × StagesBeside d e ts us × HasItsStages (stages ++ ts) d × RiseTo 0 (last + length ts) (stages ++ ts)
went-of (went step below staged rises) = (step, below, staged, rises)

pub named-local : (last k : ℕ) (doc later : Document) (stages : List Stage) (op : CellOp) (names : NamedElements) → k ≡ last + 1 → AreWellNamed last doc stages
    → local_grid doc k op ≡ Ok (later, names) → AreWellNamed (last + 1) later (stages ++ (stage_of k op names ∷ []))
named-local last k doc later stages op names e h taken =
    subst (λ n. AreWellNamed (last + 1) later (stages ++ (stage_of n op names ∷ []))) (sym e)
    (self-alike (last + 1) later (stages ++ (here ∷ [])) (record {
      rest = refl;
      doc = (facts.0).alike;
      pending = next (record {
        stages = beside-append (stages-stay doc doc later later (facts.0).names (first-stages a.pending)) facts.1;
        ref_seq = refl;
        sent = refl;
      }) ends;
      own = subst (λ ts. HasItsStages ts later) (sym (append-nil (stages ++ (here ∷ [])))) facts.2;
      rise = subst (λ ts. RiseTo 0 (last + 1) ts) (sym (append-nil (stages ++ (here ∷ [])))) facts.3;
    }))
  where
    here : Stage
    here = stage_of (last + 1) op names

    a : ClientsAlike (client_of last doc stages) (client_of last doc stages)
    a = alike-self last doc stages h

    after : EditResult → Result (Document × List Stage) EditFault
    after r = elim r [
      | Err fault ↦ Err fault
      | Ok t ↦
          let s : Stage = record { stage = last + 1; sub_operation = OnGrid op; names = t.1 } in
          elim (local_sub_operations t.0 (stages ++ (s ∷ [])) (last + 1 + 1) []) [ Err fault ↦ Err fault | Ok rest ↦ Ok (rest.0, s ∷ rest.1) ]
    ]

    one : local_sub_operations doc stages (last + 1) (OnGrid op ∷ []) ≡ Ok (later, here ∷ [])
    one = ap after (ap (λ n. local_grid doc n op) (sym e) ∙ taken)

    facts : DocsStep last (last + 1) doc doc later later × StagesBeside later later (here ∷ []) (here ∷ []) × HasItsStages (stages ++ (here ∷ [])) later
        × RiseTo 0 (last + 1) (stages ++ (here ∷ []))
    facts = went-of (subst (λ r. SubsAlike last stages doc doc r r) one
        (subs-alike last stages stages doc doc a.doc (first-stages a.pending) h.own h.rise (OnGrid op ∷ [])))

-- ---- one more stage

pub pushed : (g : Grid) (later : Document) (stages : List Stage) (like : Grid) (k : ℕ) (op : CellOp) (names : NamedElements) (u : GridStage)
    → HoldsGrid (grid_state g 0 true) later stages → like.stages.items ≡ g.stages.items ++ (u ∷ [])
    → indexed_stage later (stage_of k op names) ≡ shown_stage g.rows g.cols u
    → HoldsGrid (grid_state (record g { stages = like.stages }) 0 true) later (stages ++ (stage_of k op names ∷ []))
pushed g later stages like k op names u h q e = record {
  rows = h.rows;
  cols = h.cols;
  rows_made = h.rows_made;
  cols_made = h.cols_made;
  cells = h.cells;
  stages = retain_map-append is_grid_stage (indexed_stage later) stages (stage_of k op names ∷ [])
      ∙ ap (λ ts. ts ++ (indexed_stage later (stage_of k op names) ∷ [])) h.stages
      ∙ ap (λ t. map (shown_stage g.rows g.cols) g.stages.items ++ (t ∷ [])) e
      ∙ sym (ap (map (shown_stage g.rows g.cols)) q ∙ map-append (shown_stage g.rows g.cols) g.stages.items (u ∷ []));
}

-- the stage of a splice, which names nothing
abbrev pub splice_stage : ℕ → CellOp → GridStage
splice_stage k op = record { stage = k; op = op; row = None; col = None }

refused-range : (p n : ℕ) (d : Document) → n < p → if_in_range p n d ≡ Err (OutOfRange n)
refused-range p n d l = ap (λ b. cond b (Ok (d, no_elements)) (Err (OutOfRange n))) (above-test p n l)

module _ (last k : ℕ) (e : k ≡ last + 1) (few : last ≤ 18446744073709551615) (old : Grid) (doc : Document) (stages : List Stage) (sound : IsSound old)
    (h : Holds last old doc stages) (above : IsAboveAll k (grid_state old 0 true)) where
  here : k ≡ suc last
  here = omega arith

  pub rows-below : AreBelow (suc last) (units_of old.rows)
  rows-below = subst (λ n. AreBelow n (units_of old.rows)) here
      (below-of k (units_of old.rows) (recursion_from_All (λ x. is_unit_below k x ≡ true) (map shown_unit (units_of old.rows)) above.rows))

  pub cols-below : AreBelow (suc last) (units_of old.cols)
  cols-below = subst (λ n. AreBelow n (units_of old.cols)) here
      (below-of k (units_of old.cols) (recursion_from_All (λ x. is_unit_below k x ≡ true) (map shown_unit (units_of old.cols)) above.cols))

  pub rows-count : len (seen last) doc.rows.items ≡ len (seen_in last_stage) (units_of old.rows)
  rows-count = own-count last few old.rows old.rows doc.rows rows-below (rows-beside (units last old doc stages sound h))

  pub cols-count : len (seen last) doc.cols.items ≡ len (seen_in last_stage) (units_of old.cols)
  cols-count = own-count last few old.cols old.cols doc.cols cols-below (units last old doc stages sound h).cols

  -- the grid took the operation
  pub takes : (op : CellOp) (later : Document) (names : NamedElements) (g : Grid) → own_grid doc (suc last) last op ≡ Ok (later, names)
      → HoldsGrid (grid_state g 0 true) later (stages ++ (stage_of k op names ∷ [])) → TakesStage last k g doc stages op
  takes op later names g o held =
      let taken = local-own doc last k op e ∙ o in
      record { later = later; names = names; is = taken; now = record { named = named-local last k doc later stages op names e h.named taken; holds = held } }

  pub refuses : (op : CellOp) (n m : ℕ) (g : Grid) → own_grid doc (suc last) last op ≡ Err (OutOfRange n) → n ≡ m → g ≡ old
      → EditsOne last k doc stages op old g (Some m)
  refuses op n m g o same kept = (local-own doc last k op e ∙ o ∙ ap (λ i. Err (OutOfRange i)) same, kept)

  -- ---- splices

  below-at : (target : Target) → AreBelow (suc last) (units_of (units_at target old))
  below-at Rows = rows-below
  below-at Cols = cols-below

  count-at : (target : Target) → len (seen last) (rows_or_cols target doc).items ≡ len (seen_in last_stage) (units_of (units_at target old))
  count-at Rows = rows-count
  count-at Cols = cols-count

  spliced : (target : Target) (v : VectorState) (like : Grid) (list : Sequence) (op : CellOp)
      → HoldsGrid (grid_state (with_units_at target old v) 0 true) (with_rows_or_cols target doc list) stages
      → like.stages.items ≡ old.stages.items ++ (splice_stage k op ∷ [])
      → indexed_stage (with_rows_or_cols target doc list) (stage_of k op no_elements)
      ≡ shown_stage (with_units_at target old v).rows (with_units_at target old v).cols (splice_stage k op)
      → HoldsGrid (grid_state (record (with_units_at target old v) { stages = like.stages }) 0 true) (with_rows_or_cols target doc list)
      (stages ++ (stage_of k op no_elements ∷ []))
  spliced target v like list op held q e =
      pushed (with_units_at target old v) (with_rows_or_cols target doc list) stages like k op no_elements (splice_stage k op) held
      (q ∙ ap (λ us. us ++ (splice_stage k op ∷ [])) (sym (side-stages target old v))) e

  pub own-insert-taken : (target : Target) (p count : ℕ) (v : VectorState) (like : Grid)
      → Inserts last_stage no_run (Local k) p count (units_at target old) v true
      → like.stages.items ≡ old.stages.items ++ (splice_stage k (SpliceIn target p count) ∷ [])
      → TakesStage last k (record (with_units_at target old v) { stages = like.stages }) doc stages (SpliceIn target p count)
  own-insert-taken target p count v like i q =
      let puts = subst (λ n. Inserts last_stage no_run (Local n) p count (units_at target old) v true) here i in
      let was = rows_or_cols target doc in
      let list : Sequence = record was { items = put (seen last) no_run p (new_elements 0 (Local (suc last)) [] None [] (replicate count GridUnit)) was.items } in
      takes (SpliceIn target p count) (with_rows_or_cols target doc list) no_elements (record (with_units_at target old v) { stages = like.stages })
      (ap (λ b. cond b (Ok (with_rows_or_cols target doc list, no_elements)) (Err (OutOfRange (len (seen last) was.items))))
      (ap (nat_le p) (count-at target) ∙ from_self p _ puts.0))
      (spliced target v like list (SpliceIn target p count)
      (side-kept last old doc stages sound h target v list (own-insert-step last few (units_at target old) v was (below-at target) p count puts.1) refl) q refl)

  pub own-remove-taken : (target : Target) (p q : ℕ) (v : VectorState) (like : Grid) → Removes last_stage (Local k) p q (units_at target old) v true
      → like.stages.items ≡ old.stages.items ++ (splice_stage k (SpliceOut target p q) ∷ [])
      → TakesStage last k (record (with_units_at target old v) { stages = like.stages }) doc stages (SpliceOut target p q)
  own-remove-taken target p q v like i w =
      let marks = subst (λ n. Removes last_stage (Local n) p q (units_at target old) v true) here i in
      let was = rows_or_cols target doc in
      let list : Sequence = record was { items = change_range_from 0 (seen last) p q (with_pending_removal (suc last)) was.items } in
      takes (SpliceOut target p q) (with_rows_or_cols target doc list) no_elements (record (with_units_at target old v) { stages = like.stages })
      (ap (λ b. cond b (Ok (with_rows_or_cols target doc list, no_elements)) (Err (OutOfRange (len (seen last) was.items))))
      (ap (nat_le q) (count-at target) ∙ from_self q _ marks.0))
      (spliced target v like list (SpliceOut target p q)
      (side-kept last old doc stages sound h target v list (own-remove-step last few (units_at target old) v was (below-at target) p q marks.1) refl) w refl)

  -- where the length that is seen then is below the place
  refused : (target : Target) (op : CellOp) (d : Document) (p m : ℕ) (v w : VectorState)
      → own_grid doc (suc last) last op ≡ if_in_range p (len (seen last) (rows_or_cols target doc).items) d
      → len (seen_in last_stage) (units_of (units_at target old)) < p → v ≡ units_at target old → w ≡ v → m ≡ len (seen_in last_stage) (units_of w)
      → EditsOne last k doc stages op old (with_units_at target old v) (Some m)
  refused target op d p m v w o l e f n =
      refuses op _ m (with_units_at target old v) (o ∙ refused-range p (len (seen last) (rows_or_cols target doc).items) d (subst (λ i. i < p) (sym (count-at target)) l))
      (count-at target ∙ sym (n ∙ ap (λ u. len (seen_in last_stage) (units_of u)) (f ∙ e))) (ap (with_units_at target old) e ∙ same-side target old)

  pub own-insert-refused : (target : Target) (p count m : ℕ) (v w : VectorState)
      → Inserts last_stage no_run (Local k) p count (units_at target old) v false → w ≡ v
      → m ≡ len (seen_in last_stage) (units_of w) → EditsOne last k doc stages (SpliceIn target p count) old (with_units_at target old v) (Some m)
  own-insert-refused target p count m v w i f n = refused target (SpliceIn target p count) _ p m v w refl i.0 i.1 f n

  pub own-remove-refused : (target : Target) (p q m : ℕ) (v w : VectorState) → Removes last_stage (Local k) p q (units_at target old) v false → w ≡ v
      → m ≡ len (seen_in last_stage) (units_of w) → EditsOne last k doc stages (SpliceOut target p q) old (with_units_at target old v) (Some m)
  own-remove-refused target p q m v w i f n = refused target (SpliceOut target p q) _ q m v w refl i.0 i.1 f n
