-- A grid whose pending rows and columns are put in afresh: it stays sound, and holds the document of which this is done.
use Rattle.std.proofs.Common.{◌≡◌, ℕ, ◌≤◌, true, false, nat_eq, nat_le, List, [], ◌∷◌, refl, sym, ◌∙◌, ap, subst, map, arith}
use Rattle.std.specs.List.{list_all, list_any}
use Rattle.std.proofs.lemmas.Bool.Decides.{nat_tests}
use Rattle.std.proofs.lemmas.List.Elements.{recursion_from_All}
use Rattle.ft_base.specs.Scan.{len}
use Rattle.ft_props.specs.Element.{ElementId, id}
use Rattle.ft_props.specs.Steps.{Sequence, is_inserted_by, rebuilt_list}
use Rattle.ft_op.specs.Cells.{cell_value}
use Rattle.ft_op.specs.Document.{Document}
use Rattle.ft_op.specs.Stages.{Stage}
use Rattle.ft_msg.specs.Reconnection.{rebuilt_document}
use Rattle.ft_perm.specs.Vectors.{VectorState}
use Rattle.ft_cells.specs.CellTables.{cell_at}
use Rattle.ft_laws_names.specs.WellNamed.{IsWellNumbered}
use Rattle.ft_laws_names.proofs.Beside.{beside-any, beside-more}
use Rattle.ft_laws_names.proofs.RebuiltLists.{Rises}
use Rattle.ft_rebase.specs.StageLists.{StagesUpTo, inserted_by}
use Rattle.ft_rebase.proofs.NamedLists.{AreStagesOf}
use Rattle.ft_named.proofs.RebuiltSteps.{none-from-len, stages-of, stamps_in}
use Rattle.ft_matrix.specs.declared.grid.Grid.{Grid}
use Rattle.ft_matrix.specs.Applied.{Holds}
use Rattle.ft_matrix.specs.Conditions.{AreItsStages, NumbersRise}
use Rattle.ft_matrix.specs.GridStates.{grid_state, shown_stage}
use Rattle.ft_matrix.specs.HoldsGrid.{HoldsGrid}
use Rattle.ft_matrix.specs.Rebuilt.{RebuildsGrid, RebuildsUnits}
use Rattle.ft_matrix.specs.Sound.{ArePending, IsSound, IsSoundVector, IsStaged, StagesRise, writes_to}
use Rattle.ft_matrix.specs.Units.{units_of}
use Rattle.ft_matrix.proofs.PendingAfresh.{rebuilt-pending}
use Rattle.ft_matrix.proofs.Effects.{units}
use Rattle.ft_matrix.proofs.HeldGrids.{HoldsUnits, Moves, RowHolds, handle_value, rows-beside, stages-move, step-moves, units-held}
use Rattle.ft_matrix.proofs.RebuiltUnits.{stages-up-to, none-first, rebuilt-units}
use Rattle.ft_matrix.proofs.UnitLists.{BesideUnits, HandleNamed, IsUnit, beside-units, unit-inserted}

-- ---- numbers of stages

rises-of : (low last : ℕ) (ks : List ℕ) → NumbersRise low last ks → Rises low ks
rises-of low last [] h = tt
rises-of low last (k ∷ ks) h = (h.0, rises-of k last ks h.1)

most-of : (low last : ℕ) (ks : List ℕ) → NumbersRise low last ks → (low ≤ last) × (list_all (λ m. nat_le m last) ks ≡ true)
most-of low last [] h = (h, refl)
most-of low last (k ∷ ks) h =
    let rest = most-of k last ks h.1 in
    (let up = h.0 in let more = rest.0 in omega arith, rw (le-is k last rest.0, rest.1) refl)
  where
    le-is : (m n : ℕ) → m ≤ n → nat_le m n ≡ true
    le-is m n l = grind (arith, nat_tests)

-- ---- one list

module _ (last : ℕ) (numbers : List ℕ) (list : Sequence) (w : IsWellNumbered last list) (rise : NumbersRise 0 last numbers)
    (its : (k : ℕ) → list_any (nat_eq k) numbers ≡ false → len (is_inserted_by k) list.items ≡ 0) (old new : VectorState) (s : IsSoundVector old) (r : RebuildsUnits old new)
    (b : BesideUnits IsUnit list.items (units_of old)) where
  of : AreStagesOf 0 last list.items numbers
  of = stages-of 0 last list.items numbers (rises-of 0 last numbers rise) (λ j l g. none-from-len j list.items (its j g)) (most-of 0 last numbers rise).1

  up-to : StagesUpTo stamps_in last (units_of old)
  up-to = record {
    first = none-first (units_of old) (recursion_from_All IsStaged (units_of old) s.staged);
    above = λ k l. sym (beside-any (is_inserted_by k) (inserted_by stamps_in k) (λ x e u. unit-inserted x e u k) b) ∙ none-from-len k list.items (w.stages k l);
  }

  -- what held of name and handle at each place still holds
  pub rebuilt-carries : (P : ElementId → ℕ → Type 0) → BesideUnits (HandleNamed P) list.items (units_of old)
      → BesideUnits (HandleNamed P) (rebuilt_list numbers list).items (units_of new)
  rebuilt-carries P h = subst (λ us. BesideUnits (HandleNamed P) (rebuilt_list numbers list).items us) (sym (r.units last up-to)) (rebuilt-units P last numbers list of h)

  pub rebuilt-moves : Moves list.items (units_of old) (rebuilt_list numbers list).items (units_of new)
  rebuilt-moves = step-moves last list old new (rebuilt_list numbers list).items w s.proper b (record { carries = λ P f h. rebuilt-carries P h })

-- ---- the grid

module _ (old new : Grid) (sound : IsSound old) (same : new ≡ record old { rows = new.rows; cols = new.cols }) (vr : IsSoundVector new.rows) (vc : IsSoundVector new.cols)
    (rr : RebuildsUnits old.rows new.rows) (rc : RebuildsUnits old.cols new.cols) where
  pub rebuilt-sound : IsSound new
  rebuilt-sound = record {
    rows = vr;
    cols = vc;
    floors = rc.floor ∙ sound.floors ∙ sym rr.floor;
    held = record {
      rows = λ r c u. ap (λ (x : Grid). cell_at x.cells r c) same ∙ sound.held.rows r c (sym (rr.used r) ∙ u);
      cols = λ r c u. ap (λ (x : Grid). cell_at x.cells r c) same ∙ sound.held.cols r c (sym (rc.used c) ∙ u);
    };
    writes = λ r c. ap (λ (x : Grid). (cell_at x.cells r c).pending) same ∙ sound.writes r c ∙ ap (λ (x : Grid). writes_to r c x.stages.items) (sym same);
    rise = subst (λ (x : Grid). StagesRise 0 x.stages.items) (sym same) sound.rise;
    pending_rows = again old.rows new.rows sound.rows rr sound.pending_rows;
    pending_cols = again old.cols new.cols sound.cols rc sound.pending_cols;
  }
    where
      again : (v w : VectorState) → IsSoundVector v → RebuildsUnits v w → ArePending old.stages.items (units_of v) → ArePending new.stages.items (units_of w)
      again v w s r p =
          let up = stages-up-to v s in
          subst (λ (x : Grid). ArePending x.stages.items (units_of w)) (sym same) (rebuilt-pending old.stages.items up.0 (units_of v) (units_of w) (r.units up.0 up.1) p)

  module _ (last : ℕ) (doc : Document) (stages : List Stage) (numbers : List ℕ) (h : Holds last old doc stages) (its : AreItsStages last numbers doc) where
    abbrev later : Document
    later = rebuilt_document numbers doc

    hu : HoldsUnits doc.rows.items doc.cols.items doc.cells (units_of old.rows) (units_of old.cols) old.cells
    hu = units last old doc stages sound h

    rows-carry : (P : ElementId → ℕ → Type 0) → BesideUnits (HandleNamed P) doc.rows.items (units_of old.rows)
        → BesideUnits (HandleNamed P) later.rows.items (units_of new.rows)
    rows-carry P b = rebuilt-carries last numbers doc.rows h.named.rows its.rise its.rows old.rows new.rows sound.rows rr (rows-beside hu) P b

    cols-carry : (P : ElementId → ℕ → Type 0) → BesideUnits (HandleNamed P) doc.cols.items (units_of old.cols)
        → BesideUnits (HandleNamed P) later.cols.items (units_of new.cols)
    cols-carry P b = rebuilt-carries last numbers doc.cols h.named.cols its.rise its.cols old.cols new.cols sound.cols rc hu.cols P b

    later-units : HoldsUnits later.rows.items later.cols.items doc.cells (units_of new.rows) (units_of new.cols) old.cells
    later-units = record {
      rows = beside-more (λ x e q. (q.0, cols-carry (λ b g. cell_value (id x) b doc.cells ≡ handle_value old.cells e.unit g) q.1))
          (rows-carry (RowHolds doc.cols.items (units_of old.cols) doc.cells old.cells) hu.rows);
      cols = beside-more (λ x e q. q.0) (cols-carry (λ a g. Unit {0}) (beside-more (λ x e u. (u, tt)) hu.cols));
    }

    new-units : HoldsUnits later.rows.items later.cols.items doc.cells (units_of new.rows) (units_of new.cols) new.cells
    new-units = subst (λ (x : Grid). HoldsUnits later.rows.items later.cols.items doc.cells (units_of new.rows) (units_of new.cols) x.cells) (sym same) later-units

    pub rebuilt-held : HoldsGrid (grid_state new 0 true) (rebuilt_document numbers doc) stages
    rebuilt-held = record {
      rows = beside-units (rows-beside new-units);
      cols = beside-units new-units.cols;
      rows_made = h.holds.rows_made ∙ sym (ap (λ (x : Grid). x.rows_made) same);
      cols_made = h.holds.cols_made ∙ sym (ap (λ (x : Grid). x.cols_made) same);
      cells = units-held later new.rows new.cols new.cells new-units;
      stages = stages-move doc later old.rows old.cols new.rows new.cols
          (rebuilt-moves last numbers doc.rows h.named.rows its.rise its.rows old.rows new.rows sound.rows rr (rows-beside hu))
          (rebuilt-moves last numbers doc.cols h.named.cols its.rise its.cols old.cols new.cols sound.cols rc hu.cols)
          stages old.stages.items h.named.stages h.holds.stages
          ∙ ap (λ (x : Grid). map (shown_stage new.rows new.cols) x.stages.items) (sym same);
    }

pub rebuilds-grid : (old new : Grid) → IsSound old → new ≡ record old { rows = new.rows; cols = new.cols } → IsSoundVector new.rows → IsSoundVector new.cols
    → RebuildsUnits old.rows new.rows → RebuildsUnits old.cols new.cols → RebuildsGrid old new
rebuilds-grid old new sound same vr vc rr rc = record {
  sound = rebuilt-sound old new sound same vr vc rr rc;
  floor = rr.floor;
  rebuilt = λ last doc stages numbers h its. rebuilt-held old new sound same vr vc rr rc last doc stages numbers h its;
  rows_nodes = rr.nodes;
  cols_nodes = rc.nodes;
}
