-- What is known of a client's document with pending stages.
use Rattle.std.specs.Prelude.{◌≡◌, ℕ, suc, ◌≤◌, true, List, [], ◌∷◌, map}
use Rattle.std.specs.List.{list_all}
use Rattle.ft_props.specs.Element.{ElementId}
use Rattle.ft_op.specs.Document.{Document, sequenced_part}
use Rattle.ft_op.specs.Stages.{Stage}
use Rattle.ft_msg.specs.Acknowledgement.{renamed_stage}
use Rattle.ft_laws_agreement.proofs.SentStages.{SentStage, StageStands, Tells}
use Rattle.ft_laws_agreement.proofs.AgreedStage.{IsSound}
use Rattle.ft_laws_agreement.proofs.OrderedMarks.{is_ordered}
use Rattle.ft_laws_agreement.proofs.WithinStages.{is_within}

-- a pending stage, the number before its own, the reference number of its message, and how the message tells it
pub record ToldStage : Type 0 where
  pub stage : Stage
  pub before : ℕ
  pub ref : ℕ
  pub sent : SentStage

-- the stage with the elements that it names renamed
abbrev pub renamed_told : (ElementId → ElementId) → ToldStage → ToldStage
renamed_told f t = record t { stage = renamed_stage f t.stage }

-- the stages' numbers
abbrev pub stage_numbers : List ToldStage → List ℕ
stage_numbers ts = map (λ t. suc t.before) ts

-- each stage has its number, is told by its message, and has a reference number up to m
abbrev pub AreTold : ℕ → List ToldStage → Type 0
AreTold m [] = Unit {0}
AreTold m (t ∷ ts) = (t.stage.stage ≡ suc t.before) × Tells t.stage.sub_operation t.sent × (t.ref ≤ m) × AreTold m ts

-- the numbers rise, all above j and up to last
abbrev pub Rise : ℕ → ℕ → List ToldStage → Type 0
Rise j last [] = j ≤ last
Rise j last (t ∷ ts) = (j ≤ t.before) × Rise (suc t.before) last ts

-- each stage stands in the document, where all were sent by connection c
abbrev pub AllStand : ℕ → Document → List ToldStage → Type 0
AllStand c doc [] = Unit {0}
AllStand c doc (t ∷ ts) = StageStands t.before t.ref c t.sent t.stage.names doc × AllStand c doc ts

-- what is known of a document with these pending stages, all numbers of which are up to n, and the last stage's up to last:
-- the message of each stage has a reference number up to m and connection c, and pending marks stand in order
pub record Holds (c m n last : ℕ) (ts : List ToldStage) (doc : Document) : Type 0 where
  pub told : AreTold m ts
  pub rising : Rise 0 last ts
  pub text : list_all (is_within n (stage_numbers ts)) doc.text.items ≡ true
  pub rows : list_all (is_within n (stage_numbers ts)) doc.rows.items ≡ true
  pub cols : list_all (is_within n (stage_numbers ts)) doc.cols.items ≡ true
  pub text_order : list_all is_ordered doc.text.items ≡ true
  pub rows_order : list_all is_ordered doc.rows.items ≡ true
  pub cols_order : list_all is_ordered doc.cols.items ≡ true
  pub stand : AllStand c doc ts
  pub sound : IsSound (sequenced_part doc)
