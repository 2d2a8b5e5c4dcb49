-- The acknowledgement of stages of one part. No public clause cites this module.
use Rattle.std.specs.Prelude.{◌≡◌, ℕ, true, false, ◌+◌, List, [], ◌∷◌, ◌++◌, map}
use Rattle.std.specs.List.{AllByRecursion, list_all}
use Rattle.ft_props.specs.Element.{ElementId}
use Rattle.ft_op.specs.Document.{Document}
use Rattle.ft_op.specs.Stages.{Stage}
use Rattle.ft_msg.specs.Acknowledgement.{ack_stages, renamed_stage}
use Rattle.ft_laws_names.specs.GridFacts.{AreCounted, IsCounted}
use Rattle.ft_laws_names.specs.WellNamed.{AreWellNamed}
use Rattle.ft_string.specs.Calls.{AreOldest, HoldsAcked, HoldsOldest}
use Rattle.ft_string.specs.Holds.{HoldsText, IsTextSound}
use Rattle.ft_string.specs.State.{KeepsRest as KeepsText, TextState}
use Rattle.ft_matrix.specs.Conditions.{KeepsRest as KeepsGrid}
use Rattle.ft_matrix.specs.GridStates.{GridState}
use Rattle.ft_matrix.specs.HoldsGrid.{HoldsGrid}
use Rattle.ft_client.specs.declared.stages.OwnStage.{OwnStage}
use Rattle.ft_client.specs.declared.own.TreeOwn.{TreeOwn}
use Rattle.ft_client.specs.Parts.{is_grid_part, is_text_part, own_stage}

-- the table of the document after its first stages were acknowledged, with the others
abbrev pub HoldsAckedGrid : GridState → ℕ → ℕ → List Stage → List Stage → Document → Type 0
HoldsAckedGrid s seq conn mine rest doc =
    let acked = ack_stages seq conn (λ i. i) mine doc in
    HoldsGrid s acked.0 (map (renamed_stage acked.1) rest)

-- the number of the last stage, or else this one
abbrev pub last_from : ℕ → List OwnStage → ℕ
last_from k [] = k
last_from k (t ∷ stages) = last_from t.stage stages

-- some document is held whose first stages have those numbers
pub record HoldsFrontGrid (last : ℕ) (own : List OwnStage) (s : GridState) : Type 0 where
  pub doc : Document
  pub mine : List Stage
  pub rest : List Stage
  pub numbers : map own_stage mine ≡ own
  pub named : AreWellNamed last doc (mine ++ rest)
  pub counted : AreCounted doc mine
  pub holds : HoldsGrid s doc (mine ++ rest)

-- they are the first ones of a text and a table, and all of the text or all of the grid
pub record IsFrontOfOne (own : List OwnStage) (text : TextState) (table : GridState) : Type 0 where
  pub of_one : list_all (λ t. is_text_part t.part) own ≡ false → list_all (λ t. is_grid_part t.part) own ≡ true
  pub of_text : list_all (λ t. is_text_part t.part) own ≡ true → (last : ℕ) × HoldsOldest last 1 (1 + last_from 0 own) text
  pub of_grid : list_all (λ t. is_grid_part t.part) own ≡ true → (last : ℕ) × HoldsFrontGrid last own table

-- some of the stages are acknowledged, and these are left: then acknowledging them makes what acknowledging all makes
pub record AcksSome (last s c : ℕ) (g : GridState) (doc : Document) (mine left rest : List Stage) : Type 0 where
  pub between : Document
  pub rename : ElementId → ElementId
  pub named : AreWellNamed last between (map (renamed_stage rename) (left ++ rest))
  pub holds : HoldsGrid g between (map (renamed_stage rename) (left ++ rest))
  pub same : ack_stages s c rename left between ≡ ack_stages s c (λ i. i) mine doc
  pub counted : AllByRecursion (λ t. IsCounted between t.stage t.sub_operation) left

-- what an acknowledgement of the stages up to n makes of the documents whose text is held
abbrev pub AcksText : ℕ → ℕ → ℕ → TextState → TextState → Type 0
AcksText n s c old new = (last : ℕ) (doc : Document) (mine rest : List Stage) → AreOldest 1 (1 + n) mine rest → IsTextSound last doc
    (mine ++ rest) → HoldsText old doc (mine ++ rest)
    → HoldsAcked new s c mine rest doc

-- and what one of these stages makes of those whose table is
abbrev pub AcksGrid : List OwnStage → ℕ → ℕ → GridState → GridState → Type 0
AcksGrid own s c old new = (last : ℕ) (doc : Document) (mine rest : List Stage) → map own_stage mine ≡ own → AreWellNamed last doc (mine ++ rest) → AreCounted doc mine
    → HoldsGrid old doc (mine ++ rest) → HoldsAckedGrid new s c mine rest doc

-- the one or the other, as these stages are of the text or of the grid
pub data AcksPart (own : List OwnStage) (s c : ℕ) (old new : TreeOwn) : Type 0 where
  acks_text : list_all (λ t. is_text_part t.part) own ≡ true → AcksText (last_from 0 own) s c old.text new.text
      → KeepsText old.text new.text → new ≡ record old { text = new.text } → AcksPart own s c old new
  acks_grid : list_all (λ t. is_grid_part t.part) own ≡ true → AcksGrid own s c old.table new.table → KeepsGrid old.table new.table
      → new ≡ record old { table = new.table }
      → AcksPart own s c old new
