-- A grid and a document whose part it holds take a splice of a message alike.
use Rattle.std.proofs.Common.{◌≡◌, ℕ, zero, suc, ◌+◌, ◌≤◌, ◌<◌, Bool, true, false, cond, nat_le, List, [], ◌∷◌, None, refl, sym, ◌∙◌, ap, subst, length, replicate, arith, pos}
use Rattle.std.proofs.lemmas.Bool.Decides.{nat_tests}
use Rattle.ft_base.specs.declared.stamps.Stamp.TheVariants.{Acked}
use Rattle.ft_base.specs.declared.elements.Perspective.{Perspective}
use Rattle.ft_base.specs.Scan.{len}
use Rattle.ft_block.specs.declared.leaves.LenView.TheVariants.{At}
use Rattle.ft_op.specs.declared.operations.CellOp.{CellOp}
use Rattle.ft_op.specs.declared.operations.CellOp.TheVariants.{SpliceIn, SpliceOut}
use Rattle.ft_op.specs.declared.operations.GridOp.TheVariants as grid
use Rattle.ft_op.specs.declared.operations.ChannelOp.TheVariants.{Grid as OfGrid}
use Rattle.ft_op.specs.declared.operations.Target.{Target}
use Rattle.ft_op.specs.declared.operations.Target.TheVariants.{Rows, Cols}
use Rattle.ft_msg.specs.declared.messages.Body.TheVariants.{Op}
use Rattle.ft_msg.specs.declared.messages.Entry.{Entry}
use Rattle.ft_msg.specs.declared.messages.MsgKind.TheVariants as kind
use Rattle.ft_props.specs.Element.{ElementId, GridUnit, ListElement, PendingId, SequencedId, id, is_pending, new_elements, seen_by, with_removal}
use Rattle.ft_props.specs.Steps.{Sequence, after_insertion, after_removal}
use Rattle.ft_op.specs.Operation.{OnGrid}
use Rattle.ft_op.specs.Cells.{cell_value}
use Rattle.ft_op.specs.Document.{Document, grid_effect, rows_or_cols, with_rows_or_cols, with_skip}
use Rattle.ft_op.specs.Stages.{Stage}
use Rattle.ft_msg.specs.Client.{PendingEdit, stages_of}
use Rattle.ft_tree_leaves.specs.Elements as tree
use Rattle.ft_tree_leaves.specs.Elements.{TreeElement, removed_stamps, seen_in, with_stamps}
use Rattle.ft_perm.specs.Handles.{handles_of, in_run, numbers_from}
use Rattle.ft_perm.specs.Vectors.{VectorState, in_use}
use Rattle.ft_laws_names.specs.WellNamed.{IsAhead, IsUnused, AreWellNamed}
use Rattle.ft_laws_names.proofs.Beside.{beside-len, beside-more, beside-put, ends, next}
use Rattle.ft_laws_names.proofs.ForeignAlike.{effects-alike}
use Rattle.ft_laws_names.proofs.LocalAlike.{StagesBeside, stages-stay}
use Rattle.ft_laws_names.proofs.RejoinAlike.{EditsBeside}
use Rattle.ft_laws_names.proofs.StageCounts.{entry-stages, has-stages}
use Rattle.ft_laws_agreement.proofs.NumberTests.{from_self}
use Rattle.ft_matrix.specs.declared.grid.Grid.{Grid}
use Rattle.ft_matrix.specs.Units.{acked_value, units_of}
use Rattle.ft_matrix.specs.GridStates.{grid_state}
use Rattle.ft_matrix.specs.HoldsGrid.{HoldsGrid}
use Rattle.ft_matrix.specs.Sides.{units_at, with_more_made, with_units_at}
use Rattle.ft_matrix.specs.Sound.{IsSound}
use Rattle.ft_matrix.specs.Splices.{Inserts, MarksUnits, PutsUnits, Removes}
use Rattle.ft_matrix.specs.Applied.{Holds, Passes, skips}
use Rattle.ft_matrix.proofs.HeldGrids.{HoldsUnits, RowHolds, UnitStep, alike-self, client_of, handle_value, held-units, rows-beside, self-alike, stages-move, step-moves, step-units, units-held}
use Rattle.ft_matrix.proofs.SideLaws.{same-side, side-skipped}
use Rattle.ft_matrix.proofs.UnitLists.{BesideUnits, HandleNamed, IsUnit, beside-units, new-units, range-seen, removed-unit, unit-pending, unit-seen_by}

-- ---- names go on to fit

-- a message with this operation of the grid alone
abbrev message_of : ℕ → ℕ → ℕ → CellOp → Entry
message_of s c r op = record {
  msg = record { client_id = None; seq = s; min = 0; client_seq = pos 0; ref_seq = pos r; kind = kind.Op; body = Op (OfGrid (grid.One op)) };
  origin = c;
}

pub first-stages : {p q : Document} {e f : PendingEdit} → EditsBeside p q (e ∷ []) (f ∷ []) → StagesBeside p q e.stages f.stages
first-stages (next r rs) = r.stages

pub named-effect : (last s c r : ℕ) (doc : Document) (stages : List Stage) (op : CellOp) → AreWellNamed last doc stages
    → AreWellNamed last (grid_effect doc s c r op) stages
named-effect last s c r doc stages op h =
    let a = alike-self last doc stages h in
    let later = grid_effect doc s c r op in
    let step = effects-alike last s c r (OnGrid op ∷ []) doc doc a.doc in
    let own = entry-stages doc (message_of s c r op) in
    self-alike last (grid_effect doc s c r op) stages (record {
      rest = refl;
      doc = step.alike;
      pending = next (record { stages = stages-stay doc doc later later step.names (first-stages a.pending); ref_seq = refl; sent = refl }) ends;
      own = has-stages (stages_of (client_of last doc stages)) doc later (record { text = λ k. own.text k; rows = λ k. own.rows k; cols = λ k. own.cols k }) a.own;
      rise = a.rise;
    })

-- ---- one list

pub within-run : (h first m n : ℕ) → m ≡ n → first ≤ h → h < first + n → in_run h (record { first = first; count = m }) ≡ true
within-run h first m n e l g = grind (arith, nat_tests)

module _ (last s : ℕ) (at : Perspective) (old new : VectorState) (list : Sequence) where
  pub insert-step : (p count : ℕ) → PutsUnits (At at) tree.is_pending (Acked s at.c) p count old new
      → UnitStep last list.made old list.items (after_insertion s at.c at.r p None [] (replicate count GridUnit) list).items (units_of old) (units_of new)
  insert-step p count puts = record {
    carries = λ P f h. subst (λ gs. BesideUnits (HandleNamed P) (after_insertion s at.c at.r p None [] (replicate count GridUnit) list).items gs) (sym puts.units)
        (beside-put (seen_by at.r at.c) (seen_in (At at)) (λ x e q. unit-seen_by x e q.0 at) is_pending tree.is_pending (λ x e q. unit-pending x e q.0) (news P f) p h);
  }
    where
      news : (P : ElementId → ℕ → Type 0) → ((a : ElementId) (h : ℕ) → IsUnused list.made last a → in_use old h ≡ false → P a h)
          → BesideUnits (HandleNamed P) (new_elements list.made (Acked s at.c) [] None [] (replicate count GridUnit))
          (tree.new_elements (Acked s at.c) None [] (handles_of puts.run))
      news P f = subst (λ n. BesideUnits (HandleNamed P) (new_elements list.made (Acked s at.c) [] None [] (replicate count GridUnit))
          (tree.new_elements (Acked s at.c) None [] (numbers_from puts.run.first n))) (sym puts.count_is)
          (new-units P (Acked s at.c) list.made puts.run.first count
          (λ i h a b l. f (SequencedId i) h a (puts.unused h (within-run h puts.run.first puts.run.count count puts.count_is b l))))

  pub remove-step : (p q : ℕ) → MarksUnits (At at) (Acked s at.c) p q old new
      → UnitStep last list.made old list.items (after_removal s at.c at.r p q list).items (units_of old) (units_of new)
  remove-step p q marks = record {
    carries = λ P f h. subst (λ gs. BesideUnits (HandleNamed P) (after_removal s at.c at.r p q list).items gs) (sym marks.units)
        (range-seen (seen_by at.r at.c) (seen_in (At at)) (λ x e u. unit-seen_by x e u.0 at) (with_removal s at.c) (with_stamps (removed_stamps (Acked s at.c)))
        (λ x e u g. (removed-unit s at.c x e u.0, u.1)) 0 p q h);
  }

-- the perspective sees as many
pub seen-count : (at : Perspective) {xs : List ListElement} {es : List (TreeElement ℕ)} → BesideUnits IsUnit xs es
    → len (seen_by at.r at.c) xs ≡ len (seen_in (At at)) es
seen-count at h = beside-len (seen_by at.r at.c) (seen_in (At at)) (λ x e u. unit-seen_by x e u at) h

-- ---- a step of the rows or of the columns

unused-ahead : (last made : ℕ) (a : ElementId) → IsUnused made last a → IsAhead made a
unused-ahead last made (SequencedId i) u = u
unused-ahead last made (PendingId k i) u = tt

module _ (last : ℕ) (old : Grid) (doc : Document) (stages : List Stage) (sound : IsSound old) (h : Holds last old doc stages) where
  pub units : HoldsUnits doc.rows.items doc.cols.items doc.cells (units_of old.rows) (units_of old.cols) old.cells
  units = held-units last doc old.rows old.cols old.cells h.named.rows h.named.cols h.holds.rows h.holds.cols h.holds.cells

  -- other rows
  pub rows-held : (rows : VectorState) (made : ℕ) (list : Sequence)
      → UnitStep last doc.rows.made old.rows doc.rows.items list.items (units_of old.rows) (units_of rows) → list.made ≡ made
      → HoldsGrid (grid_state (record old { rows = rows; rows_made = made }) 0 true) (record doc { rows = list }) stages
  rows-held rows made list step m = record {
    rows = beside-units (rows-beside later);
    cols = h.holds.cols;
    rows_made = m;
    cols_made = h.holds.cols_made;
    cells = units-held (record doc { rows = list }) rows old.cols old.cells later;
    stages = stages-move doc (record doc { rows = list }) old.rows old.cols rows old.cols
        (step-moves last doc.rows old.rows rows list.items h.named.rows sound.rows.proper (rows-beside units) step)
        (λ a g t r. r) stages old.stages.items h.named.stages h.holds.stages;
  }
    where
      empty : (a : ElementId) (g : ℕ) → IsUnused doc.rows.made last a → in_use old.rows g ≡ false
          → RowHolds doc.cols.items (units_of old.cols) doc.cells old.cells a g
      empty a g u n = beside-more (λ x e v. (
        v,
        h.named.cells.rows a (id x) (unused-ahead last doc.rows.made a u)
            ∙ sym (ap acked_value (sound.held.rows g e.unit n)),
      )) units.cols

      later : HoldsUnits list.items doc.cols.items doc.cells (units_of rows) (units_of old.cols) old.cells
      later = record { rows = step.carries (RowHolds doc.cols.items (units_of old.cols) doc.cells old.cells) empty units.rows; cols = units.cols }

  -- other columns
  pub cols-held : (cols : VectorState) (made : ℕ) (list : Sequence)
      → UnitStep last doc.cols.made old.cols doc.cols.items list.items (units_of old.cols) (units_of cols) → list.made ≡ made
      → HoldsGrid (grid_state (record old { cols = cols; cols_made = made }) 0 true) (record doc { cols = list }) stages
  cols-held cols made list step m = record {
    rows = h.holds.rows;
    cols = beside-units later.cols;
    rows_made = h.holds.rows_made;
    cols_made = m;
    cells = units-held (record doc { cols = list }) old.rows cols old.cells later;
    stages = stages-move doc (record doc { cols = list }) old.rows old.cols old.rows cols (λ a g t r. r)
        (step-moves last doc.cols old.cols cols list.items h.named.cols sound.cols.proper units.cols step)
        stages old.stages.items h.named.stages h.holds.stages;
  }
    where
      later : HoldsUnits doc.rows.items list.items doc.cells (units_of old.rows) (units_of cols) old.cells
      later = record {
        rows = beside-more (λ x e q. (
          q.0,
          step.carries (λ b g. cell_value (id x) b doc.cells ≡ handle_value old.cells e.unit g)
              (λ b g u n. h.named.cells.cols (id x) b (unused-ahead last doc.cols.made b u) ∙ sym (ap acked_value (sound.held.cols e.unit g n))) q.1,
        )) units.rows;
        cols = step-units last doc.cols.made old.cols doc.cols.items list.items (units_of old.cols) (units_of cols) step units.cols;
      }

  -- other rows or columns, so many of them new
  pub side-held : (target : Target) (v : VectorState) (n : ℕ) (list : Sequence)
      → UnitStep last (rows_or_cols target doc).made (units_at target old) (rows_or_cols target doc).items list.items
      (units_of (units_at target old)) (units_of v)
      → list.made ≡ (rows_or_cols target doc).made + n
      → HoldsGrid (grid_state (with_more_made target n (with_units_at target old v)) 0 true) (with_rows_or_cols target doc list) stages
  side-held Rows v n list step m = rows-held v (old.rows_made + n) list step (m ∙ ap (λ k. k + n) h.holds.rows_made)
  side-held Cols v n list step m = cols-held v (old.cols_made + n) list step (m ∙ ap (λ k. k + n) h.holds.cols_made)

  -- the same with no new ones
  pub side-kept : (target : Target) (v : VectorState) (list : Sequence)
      → UnitStep last (rows_or_cols target doc).made (units_at target old) (rows_or_cols target doc).items list.items
      (units_of (units_at target old)) (units_of v)
      → list.made ≡ (rows_or_cols target doc).made
      → HoldsGrid (grid_state (with_units_at target old v) 0 true) (with_rows_or_cols target doc list) stages
  side-kept Rows v list step m = rows-held v old.rows_made list step (m ∙ h.holds.rows_made)
  side-kept Cols v list step m = cols-held v old.cols_made list step (m ∙ h.holds.cols_made)

  -- a document that counts one more skipped
  pub skip-held : HoldsGrid (grid_state old 0 true) (with_skip doc) stages
  skip-held = record {
    rows = h.holds.rows;
    cols = h.holds.cols;
    rows_made = h.holds.rows_made;
    cols_made = h.holds.cols_made;
    cells = h.holds.cells;
    stages = stages-move doc (with_skip doc) old.rows old.cols old.rows old.cols (λ a g t r. r) (λ a g t r. r) stages old.stages.items h.named.stages h.holds.stages;
  }

  -- the grid after an operation holds what the operation makes
  pub passes : (s c r : ℕ) (op : CellOp) (later : Document) (new : Grid) (count : ℕ) → grid_effect doc s c r op ≡ later
      → HoldsGrid (grid_state new 0 true) later stages
      → later.skipped ≡ doc.skipped + count → Passes last new doc (grid_effect doc s c r op) stages count
  passes s c r op later new count e held n = record {
    now = record {
      named = named-effect last s c r doc stages op h.named;
      holds = subst (λ d. HoldsGrid (grid_state new 0 true) d stages) (sym e) held;
    };
    skipped = ap (λ (d : Document). d.skipped) e ∙ n;
  }

-- ---- splices

replicated : (n : ℕ) → length (replicate n GridUnit) ≡ n
replicated zero = refl
replicated (suc n) = ap suc (replicated n)

pub above-test : (p n : ℕ) → n < p → nat_le p n ≡ false
above-test p n l = grind (arith, nat_tests)

module _ (last s : ℕ) (at : Perspective) (old : Grid) (doc : Document) (stages : List Stage) (sound : IsSound old) (h : Holds last old doc stages) where
  count-at : (target : Target) → len (seen_by at.r at.c) (rows_or_cols target doc).items ≡ len (seen_in (At at)) (units_of (units_at target old))
  count-at Rows = seen-count at (rows-beside (units last old doc stages sound h))
  count-at Cols = seen-count at (units last old doc stages sound h).cols

  skip-side : (target : Target) (v : VectorState) → v ≡ units_at target old → HoldsGrid (grid_state (with_units_at target old v) 0 true) (with_skip doc) stages
  skip-side target v e =
      subst (λ g. HoldsGrid (grid_state g 0 true) (with_skip doc) stages) (sym (ap (with_units_at target old) e ∙ same-side target old)) (skip-held last old doc stages sound h)

  pub insert-refused : (target : Target) (p count : ℕ) (v : VectorState) → Inserts (At at) tree.is_pending (Acked s at.c) p count (units_at target old) v false
      → Passes last (with_units_at target old v) doc (grid_effect doc s at.c at.r (SpliceIn target p count)) stages 1
  insert-refused target p count v i =
      let list = after_insertion s at.c at.r p None [] (replicate count GridUnit) (rows_or_cols target doc) in
      passes last old doc stages sound h s at.c at.r (SpliceIn target p count) (with_skip doc) (with_units_at target old v) 1
      (ap (λ b. cond b (with_rows_or_cols target doc list) (with_skip doc)) (ap (nat_le p) (count-at target) ∙ above-test p _ i.0)) (skip-side target v i.1) refl

  pub insert-taken : (target : Target) (p count : ℕ) (v : VectorState) → Inserts (At at) tree.is_pending (Acked s at.c) p count (units_at target old) v true
      → Passes last (with_more_made target count (with_units_at target old v)) doc (grid_effect doc s at.c at.r (SpliceIn target p count)) stages 0
  insert-taken target p count v i =
      let list = after_insertion s at.c at.r p None [] (replicate count GridUnit) (rows_or_cols target doc) in
      passes last old doc stages sound h s at.c at.r (SpliceIn target p count) (with_rows_or_cols target doc list) (with_more_made target count (with_units_at target old v)) 0
      (ap (λ b. cond b (with_rows_or_cols target doc list) (with_skip doc)) (ap (nat_le p) (count-at target) ∙ from_self p _ i.0))
      (side-held last old doc stages sound h target v count list (insert-step last s at (units_at target old) v (rows_or_cols target doc) p count i.1)
      (ap (λ n. (rows_or_cols target doc).made + n) (replicated count))) (side-skipped target doc list)

  pub remove-done : (target : Target) (p q : ℕ) (v : VectorState) (taken : Bool) → Removes (At at) (Acked s at.c) p q (units_at target old) v taken
      → Passes last (with_units_at target old v) doc (grid_effect doc s at.c at.r (SpliceOut target p q)) stages (skips taken)
  remove-done target p q v false i =
      let list = after_removal s at.c at.r p q (rows_or_cols target doc) in
      passes last old doc stages sound h s at.c at.r (SpliceOut target p q) (with_skip doc) (with_units_at target old v) 1
      (ap (λ b. cond b (with_rows_or_cols target doc list) (with_skip doc)) (ap (nat_le q) (count-at target) ∙ above-test q _ i.0)) (skip-side target v i.1) refl
  remove-done target p q v true i =
      let list = after_removal s at.c at.r p q (rows_or_cols target doc) in
      passes last old doc stages sound h s at.c at.r (SpliceOut target p q) (with_rows_or_cols target doc list) (with_units_at target old v) 0
      (ap (λ b. cond b (with_rows_or_cols target doc list) (with_skip doc)) (ap (nat_le q) (count-at target) ∙ from_self q _ i.0))
      (side-kept last old doc stages sound h target v list (remove-step last s at (units_at target old) v (rows_or_cols target doc) p q i.1) refl) (side-skipped target doc list)
