-- The pending stages are given one after another for a reconnection. No public clause cites this module.
use Rattle.std.specs.Prelude.{◌≡◌, ◌<◌, ◌≤◌, ◌^◌, ℕ, ◌+◌, true, false, All, Bool, Option, Some, None, List, [], ◌∷◌, ◌++◌, filter, flat_map, length, map}
use Rattle.std.specs.List.{list_all}
use Rattle.ft_op.specs.declared.operations.BaseOp.{BaseOp}
use Rattle.ft_op.specs.declared.operations.CellOp.{CellOp}
use Rattle.ft_op.specs.declared.operations.ChannelOp.{ChannelOp}
use Rattle.ft_op.specs.declared.operations.ChannelOp.TheVariants.{Grid, Text}
use Rattle.ft_op.specs.declared.operations.GridOp.{GridOp}
use Rattle.ft_op.specs.declared.operations.GridOp.TheVariants as grid
use Rattle.ft_op.specs.declared.operations.TextOp.{TextOp}
use Rattle.ft_op.specs.declared.operations.TextOp.TheVariants as text
use Rattle.ft_op.specs.Document.{Document}
use Rattle.ft_op.specs.Pieces.{op_of, pieces}
use Rattle.ft_op.specs.Stages.{Stage}
use Rattle.ft_laws_agreement.specs.Sequencing.{is_grid_stage}
use Rattle.ft_replica.specs.declared.document.Resent.{Resent}
use Rattle.ft_replica.specs.Own.{resent}
use Rattle.ft_string.specs.Calls.{AreNext, HoldsGiven}
use Rattle.ft_string.specs.State.{TextState}
use Rattle.ft_matrix.specs.GridStates.{GridState}
use Rattle.ft_client.specs.declared.stages.OwnStage.{OwnStage}
use Rattle.ft_msg.specs.Reconnection.{carried_stage}
use Rattle.ft_laws_names.specs.WellNamed.{AreWellNamed}
use Rattle.ft_string.specs.Holds.{HoldsText, IsTextSound, is_on_text}
use Rattle.ft_matrix.specs.HoldsGrid.{HoldsGrid}
use Rattle.ft_client.specs.declared.own.TreeOwn.{TreeOwn}
use Rattle.ft_client.specs.Numbers.{HasNumbers}
use Rattle.ft_client.specs.Parts.{are_of_one_edit, is_text_part, own_stage}

-- the stages as they go on
abbrev pub carried : Document → List Stage → List Stage
carried doc stages = flat_map (carried_stage doc) stages

-- the stages of the text alone
abbrev pub text_only : List Stage → List Stage
text_only stages = filter (λ t. is_on_text t.sub_operation) stages

-- what is known of the document with all its stages
pub record IsRejoining (last : ℕ) (doc : Document) (stages : List Stage) : Type 0 where
  pub named : AreWellNamed last doc stages
  pub sound : IsTextSound last doc stages

-- the stages in front were given and are as they go on, those behind are as they were; the numbers of the stages that go on
-- stand behind those of the others
pub record GivesTree (s : TreeOwn) (low last : ℕ) (doc : Document) (front behind : List Stage) : Type 0 where
  pub known : IsRejoining last doc (front ++ behind)
  pub text : HoldsText s.text doc (carried doc front ++ behind)
  pub table : HoldsGrid s.table doc (carried doc front ++ behind)
  pub stages : s.stages.items ≡ map own_stage behind ++ map own_stage (carried doc front)
  pub numbers : HasNumbers s.numbers doc last
  pub text_usable : s.text.usable ≡ true
  pub table_usable : s.table.usable ≡ true
  pub text_given : All (λ t. s.text.given < t.stage) behind
  pub table_given : All (λ t. s.table.given < t.stage) behind
  pub text_below : All (λ t. t.stage ≤ s.text.given) (text_only front)
  pub text_floor : s.text.floor ≤ low
  pub table_floor : s.table.floor ≤ low

-- some document is held so whose next stages are so many, which may be those of one edit
pub record GivesSome (s : TreeOwn) (count : ℕ) : Type 0 where
  pub low : ℕ
  pub last : ℕ
  pub doc : Document
  pub front : List Stage
  pub mine : List Stage
  pub rest : List Stage
  pub counted : length mine ≡ count
  pub one : are_of_one_edit (map own_stage mine) ≡ true
  pub gives : GivesTree s low last doc front (mine ++ rest)

-- ---- operations joined

-- the members of an operation on the elements of the text, and of one on the grid
abbrev pub base_ops : TextOp → List BaseOp
base_ops (text.One op) = op ∷ []
base_ops (text.Group ops) = ops
base_ops _ = []

abbrev pub cell_ops : GridOp → List CellOp
cell_ops (grid.One op) = op ∷ []
cell_ops (grid.Group ops) = ops

-- an operation goes on with another one of the same part
abbrev pub Joins : ChannelOp → ChannelOp → ChannelOp → Type 0
Joins (Text a) (Text b) op = op ≡ Text (text.Group (base_ops a ++ base_ops b))
Joins (Grid a) (Grid b) op = op ≡ Grid (grid.Group (cell_ops a ++ cell_ops b))
Joins _ _ op = ⊥

-- whether both are on the text, or both on the grid
abbrev pub are_of_one_part : ChannelOp → ChannelOp → Bool
are_of_one_part (Text a) (Text b) = true
are_of_one_part (Grid a) (Grid b) = true
are_of_one_part _ _ = false

-- with another one or none before it
abbrev pub JoinsSome : Option ChannelOp → ChannelOp → ChannelOp → Type 0
JoinsSome None more op = op ≡ more
JoinsSome (Some first) more op = Joins first more op

-- an edit with the pieces of a stage more
abbrev pub AddsPieces : Resent → Option ChannelOp → Resent → Type 0
AddsPieces old None new = new ≡ old
AddsPieces old (Some more) new = (new.stages ≡ old.stages + 1) × ((op : ChannelOp) × (new.op ≡ Some op) × JoinsSome old.op more op)

-- ---- steps

-- the stage was given, and has these pieces
pub record GivesStage (s : TreeOwn) (low last : ℕ) (doc : Document) (front : List Stage) (t : Stage) (rest : List Stage) (op : Option ChannelOp) : Type 0 where
  pub tree : GivesTree s low last doc (front ++ t ∷ []) rest
  pub sent : op ≡ op_of (pieces doc t)

-- so many stages of an edit were given, which are sent again so
pub record GivesEdit (s : TreeOwn) (low last : ℕ) (doc : Document) (front mine rest : List Stage) (edit : Resent) : Type 0 where
  pub tree : GivesTree s low last doc (front ++ mine) rest
  pub again : edit ≡ resent doc mine

-- some document is held so whose next edit has these stages so far, and another one; they may be those of one edit, and are fewer than
-- 2^64
pub record GivesNext (s : TreeOwn) (edit : Resent) : Type 0 where
  pub low : ℕ
  pub last : ℕ
  pub doc : Document
  pub front : List Stage
  pub mine : List Stage
  pub t : Stage
  pub rest : List Stage
  pub one : are_of_one_edit (map own_stage (mine ++ t ∷ [])) ≡ true
  pub few : length mine + 1 < 2 ^ 64
  pub gives : GivesEdit s low last doc front mine (t ∷ rest) edit

-- some document is held so whose edits have so many stages, those of each may be of one edit
pub record GivesEdits (s : TreeOwn) (counts : List ℕ) : Type 0 where
  pub low : ℕ
  pub last : ℕ
  pub doc : Document
  pub edits : List (List Stage)
  pub counted : map (λ stages. length stages) edits ≡ counts
  pub each : list_all (λ stages. are_of_one_edit (map own_stage stages)) edits ≡ true
  pub gives : GivesTree s low last doc [] (flat_map (λ stages. stages) edits)

-- some document is held whose next stage is this one, which was taken off already
pub record GivesFirst (s : TreeOwn) (stage : OwnStage) : Type 0 where
  pub low : ℕ
  pub last : ℕ
  pub doc : Document
  pub front : List Stage
  pub t : Stage
  pub rest : List Stage
  pub is : own_stage t ≡ stage
  pub before : TreeOwn
  pub gives : GivesTree before low last doc front (t ∷ rest)
  pub same : s ≡ record before { stages = s.stages }

-- what a part makes of its stage
pub record GivesText (stage : OwnStage) (given_op : Option ChannelOp) (old new : TextState) : Type 0 where
  pub holds : (last : ℕ) (doc : Document) (front rest : List Stage) (t : Stage) → AreNext old.given stage.stage (stage.stage + 1) front (t ∷ []) rest
      → IsTextSound last doc (front ++ (t ∷ rest)) → HoldsGiven old doc front (t ∷ rest)
      → (given_op ≡ op_of (pieces doc t)) × HoldsGiven new doc (front ++ t ∷ []) rest
  pub given : new.given ≡ stage.stage
  pub floor : new.floor ≡ old.floor
  pub usable : new.usable ≡ true

pub record GivesGrid (stage : OwnStage) (given_op : Option ChannelOp) (old new : GridState) : Type 0 where
  pub holds : (last : ℕ) (doc : Document) (front rest : List Stage) (t : Stage) → t.stage ≡ stage.stage → is_grid_stage t ≡ true
      → AreWellNamed last doc (front ++ (t ∷ rest))
      → HoldsGrid old doc (front ++ (t ∷ rest)) → (given_op ≡ op_of (pieces doc t)) × HoldsGrid new doc (front ++ (carried doc (t ∷ []) ++ rest))
  pub given : new.given ≡ stage.stage
  pub floor : new.floor ≡ old.floor
  pub usable : new.usable ≡ true

-- the one part or the other
pub data GivesPart (stage : OwnStage) (given : Option ChannelOp) (old new : TreeOwn) : Type 0 where
  gives_text : is_text_part stage.part ≡ true → GivesText stage given old.text new.text → new ≡ record old { text = new.text } → GivesPart stage given old new
  gives_grid : is_text_part stage.part ≡ false → GivesGrid stage given old.table new.table → new ≡ record old { table = new.table }
      → GivesPart stage given old new
