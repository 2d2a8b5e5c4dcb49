-- What the calls ask of a grid, and what they answer.
use Rattle.std.specs.Prelude.{◌≡◌, ◌<◌, ◌≤◌, ℕ, ◌+◌, true, false, nat_eq, All, List, [], ◌∷◌, ◌++◌, Result, Ok, Err, length, map}
use Rattle.std.specs.List.{list_all, list_any}
use Rattle.ft_base.specs.Scan.{len}
use Rattle.ft_msg.specs.declared.faults.EditFault.{EditFault}
use Rattle.ft_msg.specs.declared.faults.EditFault.TheVariants.{OutOfRange, OutOfMemory}
use Rattle.ft_props.specs.Compaction.{KeepsList, has_collectable_removal}
use Rattle.ft_props.specs.Steps.{is_inserted_by}
use Rattle.ft_op.specs.Document.{Document}
use Rattle.ft_op.specs.Stages.{Stage}
use Rattle.ft_msg.specs.Compacted.{stage_holds_col, stage_holds_row}
use Rattle.ft_op.specs.declared.operations.Target.TheVariants.{Rows, Cols}
use Rattle.ft_laws_agreement.specs.Reconnecting.{has_marks_of}
use Rattle.ft_laws_agreement.specs.Sequencing.{inserts_in, is_grid_stage, removes_in}
use Rattle.ft_laws_names.specs.WellNamed.{AreWellNamed}
use Rattle.ft_laws_names.specs.GridFacts.{AreFreeFrom, is_unit_below}
use Rattle.ft_matrix.specs.GridStates.{GridState}
use Rattle.ft_matrix.specs.HoldsGrid.{HoldsGrid}

-- ---- stages

-- the stage is above all that is pending
pub record IsAboveAll (stage : ℕ) (s : GridState) : Type 0 where
  pub rows : All (λ e. is_unit_below stage e ≡ true) s.rows
  pub cols : All (λ e. is_unit_below stage e ≡ true) s.cols
  pub stages : All (λ t. t.stage < stage) s.stages

-- the stages are on the grid, from `first` up to before `end`
abbrev pub AreWithin : ℕ → ℕ → List Stage → Type 0
AreWithin first end ts = All (λ t. (first ≤ t.stage) × (t.stage < end) × (is_grid_stage t ≡ true)) ts

-- those that are left of the stages of an edit, `mine`, those in front of them, and those behind
pub record AreNext (first end : ℕ) (before mine rest : List Stage) : Type 0 where
  pub front : All (λ t. t.stage < first) before
  pub within : AreWithin first end mine
  pub behind : All (λ t. end ≤ t.stage) rest

-- those that are left of the stages of the oldest edit, `acked`, and those behind
pub record AreOldest (first end : ℕ) (acked rest : List Stage) : Type 0 where
  pub within : AreWithin first end acked
  pub behind : All (λ t. end ≤ t.stage) rest

-- what is pending on rows and columns is of these stages
pub record HasItsMarks (stages : List Stage) (doc : Document) : Type 0 where
  pub rows : list_all (has_marks_of (inserts_in Rows) (removes_in Rows) stages) doc.rows.items ≡ true
  pub cols : list_all (has_marks_of (inserts_in Cols) (removes_in Cols) stages) doc.cols.items ≡ true

-- ---- messages

-- a message makes this later document of one whose part the grid held: its names fit, the grid holds its part, and so many of its
-- sub-operations were skipped
pub record TakesOp (last : ℕ) (s : GridState) (later doc : Document) (stages : List Stage) (count : ℕ) : Type 0 where
  pub named : AreWellNamed last later stages
  pub holds : HoldsGrid s later stages
  pub skipped : later.skipped ≡ doc.skipped + count

-- ---- edits

-- an edit made a document whose part the grid holds, with so many stages behind those that were pending
pub record TakesEdit (s : GridState) (stages : List Stage) (made : Result (Document × List Stage) EditFault) (count : ℕ) : Type 0 where
  pub later : Document
  pub taken : List Stage
  pub is : made ≡ Ok (later, taken)
  pub holds : HoldsGrid s later (stages ++ taken)
  pub counted : length taken ≡ count

-- the answer to an edit after these stages: how many stages it took; or the refusal of its sub-operations, and then nothing changed;
-- or OutOfMemory, and then the grid may be used no more
abbrev pub AnswersEdit : List Stage → Result (Document × List Stage) EditFault → GridState → GridState → Result ℕ EditFault → Type 0
AnswersEdit stages made old new (Ok count) = TakesEdit new stages made count
AnswersEdit stages made old new (Err (OutOfRange n)) = (made ≡ Err (OutOfRange n)) × (new ≡ old)
AnswersEdit stages made old new (Err OutOfMemory) = new.usable ≡ false
AnswersEdit stages made old new (Err _) = ⊥

-- ---- compaction

-- in the rows and in the columns
pub record AreFreeUnits (floor : ℕ) (s : GridState) : Type 0 where
  pub rows : AreFreeFrom floor (map (λ t. t.places.first) s.stages) 0 s.rows
  pub cols : AreFreeFrom floor (map (λ t. t.places.second) s.stages) 0 s.cols

-- the document keeps the other one, with these pending stages, but for rows and columns that may be taken out at the floor
pub record KeepsUnits (floor : ℕ) (stages : List Stage) (kept doc : Document) : Type 0 where
  pub rows : KeepsList floor (λ i. list_any (stage_holds_row i) stages) kept.rows doc.rows
  pub cols : KeepsList floor (λ i. list_any (stage_holds_col i) stages) kept.cols doc.cols
  pub rest : kept ≡ record doc { rows = kept.rows; cols = kept.cols }

-- the grid holds such a document
pub record HoldsKept (floor : ℕ) (s : GridState) (doc : Document) (stages : List Stage) : Type 0 where
  pub kept : Document
  pub keeps : KeepsUnits floor stages kept doc
  pub holds : HoldsGrid s kept stages

-- no unit is left that was removed at or below the floor
pub record HasNoTombstone (floor : ℕ) (s : GridState) : Type 0 where
  pub rows : All (λ e. has_collectable_removal floor e.stamps.dels ≡ false) s.rows
  pub cols : All (λ e. has_collectable_removal floor e.stamps.dels ≡ false) s.cols

-- ---- reconnections

-- the numbers rise from above low up to last
abbrev pub NumbersRise : ℕ → ℕ → List ℕ → Type 0
NumbersRise low last [] = low ≤ last
NumbersRise low last (k ∷ ks) = (low < k) × NumbersRise k last ks

-- the numbers rise up to last, and each stage of which the grid has units is among them
pub record AreItsStages (last : ℕ) (numbers : List ℕ) (doc : Document) : Type 0 where
  pub rise : NumbersRise 0 last numbers
  pub rows : (k : ℕ) → list_any (nat_eq k) numbers ≡ false → len (is_inserted_by k) doc.rows.items ≡ 0
  pub cols : (k : ℕ) → list_any (nat_eq k) numbers ≡ false → len (is_inserted_by k) doc.cols.items ≡ 0

-- ---- what stays

-- floor, given stage and use stay
pub record KeepsRest (old new : GridState) : Type 0 where
  pub floor : new.floor ≡ old.floor
  pub given : new.given ≡ old.given
  pub usable : new.usable ≡ old.usable
