-- What is known of the rows, the columns and the grid's stages of each client that steps made or that keeps one, with places
-- for names.
use Rattle.std.specs.Prelude.{◌≡◌, ◌<◌, ℕ, ◌+◌, All, Bool, true, false, not, ◌&&◌, nat_eq, nat_lt, List, [], ◌∷◌, Option, Some, None, map}
use Rattle.std.specs.List.{list_all, list_any}
use Rattle.ft_base.specs.declared.stamps.Stamp.{Stamp}
use Rattle.ft_base.specs.declared.stamps.Stamp.TheVariants.{Acked, Local}
use Rattle.ft_base.specs.Scan.{len, retain_map}
use Rattle.ft_base.specs.Visibility.{is_acked}
use Rattle.ft_op.specs.declared.operations.CellOp.TheVariants.{SpliceIn}
use Rattle.ft_props.specs.Element.{NamelessElement, nameless}
use Rattle.ft_props.specs.Compaction.{has_collectable_removal}
use Rattle.ft_props.specs.Steps.{is_inserted_by}
use Rattle.ft_op.specs.Operation.{OnGrid, SubOperation}
use Rattle.ft_op.specs.Document.{Document, rows_or_cols}
use Rattle.ft_op.specs.Stages.{Stage}
use Rattle.ft_msg.specs.Client.{NaiveClient, floor, stages_of}
use Rattle.ft_msg.specs.Indexed.{IndexedStage, indexed_stage}
use Rattle.ft_laws_agreement.specs.Sequencing.{is_grid_stage}
use Rattle.ft_laws_compaction.specs.Keeping.{IsMadeOrKept}

-- the stages of the grid, with places
abbrev pub grid_stages : Document → List Stage → List IndexedStage
grid_stages doc stages = retain_map is_grid_stage (indexed_stage doc) stages

-- ---- stages

-- whether the stamp is sequenced, or of a stage below k
abbrev pub is_stamp_below : ℕ → Stamp → Bool
is_stamp_below k (Acked s c) = true
is_stamp_below k (Local j) = nat_lt j k

-- whether all stamps of a unit are
abbrev pub is_unit_below : ℕ → NamelessElement → Bool
is_unit_below k e = is_stamp_below k e.stamps.ins && list_all (is_stamp_below k) e.stamps.dels

-- all that is pending on rows and columns, and all stages of the grid, are below the stage
pub record AreUnitsBelow (stage : ℕ) (doc : Document) (pending : List Stage) : Type 0 where
  pub rows : All (λ e. is_unit_below stage e ≡ true) (map nameless doc.rows.items)
  pub cols : All (λ e. is_unit_below stage e ≡ true) (map nameless doc.cols.items)
  pub stages : All (λ t. t.stage < stage) (grid_stages doc pending)

-- so they are at each stage above the last one
abbrev pub UnitsAreBelow : Type 0
UnitsAreBelow = (start : Document) (kept : NaiveClient) (stage : ℕ) → IsMadeOrKept start kept → kept.last_stage < stage → AreUnitsBelow stage kept.doc (stages_of kept)

-- a splice that puts units in has as many pending units as it says
abbrev pub IsCounted : Document → ℕ → SubOperation → Type 0
IsCounted doc k (OnGrid (SpliceIn target p count)) = len (is_inserted_by k) (rows_or_cols target doc).items ≡ count
IsCounted doc k _ = Unit {0}

abbrev pub AreCounted : Document → List Stage → Type 0
AreCounted doc stages = All (λ t. IsCounted doc t.stage t.sub_operation) stages

abbrev pub SplicesAreCounted : Type 0
SplicesAreCounted = (start : Document) (kept : NaiveClient) → IsMadeOrKept start kept → AreCounted kept.doc (stages_of kept)

-- ---- compaction

-- whether the place is named, if one is
abbrev pub is_place : ℕ → Option ℕ → Bool
is_place i None = false
is_place i (Some j) = nat_eq i j

-- whether the insertion of the first unit is pending
abbrev pub begins_pending : List NamelessElement → Bool
begins_pending [] = false
begins_pending (e ∷ es) = not (is_acked e.stamps.ins)

-- the unit at place i may be taken out, where these stand behind it: nothing is pending on it, no stage names it, and it stands
-- before no pending one
pub record IsFreeUnit (named : List (Option ℕ)) (i : ℕ) (e : NamelessElement) (behind : List NamelessElement) : Type 0 where
  pub insertion : is_acked e.stamps.ins ≡ true
  pub removals : list_all is_acked e.stamps.dels ≡ true
  pub name : list_any (is_place i) named ≡ false
  pub next : begins_pending behind ≡ false

-- each unit that was removed at or below the floor may be taken out, from place i on
abbrev pub AreFreeFrom : ℕ → List (Option ℕ) → ℕ → List NamelessElement → Type 0
AreFreeFrom floor named i [] = Unit {0}
AreFreeFrom floor named i (e ∷ es) =
    (has_collectable_removal floor e.stamps.dels ≡ true → IsFreeUnit named i e es) × AreFreeFrom floor named (i + 1) es

-- in the rows and in the columns
pub record HasFreeUnits (floor : ℕ) (doc : Document) (pending : List Stage) : Type 0 where
  pub rows : AreFreeFrom floor (map (λ t. t.places.first) (grid_stages doc pending)) 0 (map nameless doc.rows.items)
  pub cols : AreFreeFrom floor (map (λ t. t.places.second) (grid_stages doc pending)) 0 (map nameless doc.cols.items)

abbrev pub UnitsAreFree : Type 0
UnitsAreFree = (start : Document) (kept : NaiveClient) → IsMadeOrKept start kept → HasFreeUnits (floor kept) kept.doc (stages_of kept)
