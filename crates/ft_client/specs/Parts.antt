-- The pending stages of a document whose text and whose table keep those on their own part: which part each one is on.
use Rattle.std.specs.Prelude.{ℕ, zero, suc, ◌+◌, Bool, true, false, cond, not, ◌||◌, List, [], ◌∷◌, ◌++◌, drop, take}
use Rattle.std.specs.List.{list_all}
use Rattle.ft_op.specs.declared.operations.CellOp.{CellOp}
use Rattle.ft_op.specs.declared.operations.CellOp.TheVariants.{SpliceIn}
use Rattle.ft_op.specs.declared.operations.Target.{Target}
use Rattle.ft_op.specs.declared.operations.TextOp.{TextOp}
use Rattle.ft_op.specs.declared.operations.TextOp.TheVariants.{One, Group}
use Rattle.ft_op.specs.Operation.{OnGrid, OnIntervals, OnText, SubOperation}
use Rattle.ft_op.specs.Same.{same_target}
use Rattle.ft_op.specs.Stages.{Stage}
use Rattle.ft_msg.specs.Indexed.{IndexedStage}
use Rattle.ft_client.specs.declared.stages.OwnStage.{OwnStage}
use Rattle.ft_client.specs.declared.stages.Part.{Part}
use Rattle.ft_client.specs.declared.stages.Part.TheVariants.{Elements, Intervals, Grid}

-- the part that a sub-operation is on
abbrev pub part_of : SubOperation → Part
part_of (OnText op) = Elements
part_of (OnIntervals op) = Intervals
part_of (OnGrid op) = Grid

-- a stage by its number and its part
abbrev pub own_stage : Stage → OwnStage
own_stage t = record { stage = t.stage; part = part_of t.sub_operation }

-- the part that an operation on the text is on
abbrev pub text_part : TextOp → Part
text_part (One op) = Elements
text_part (Group ops) = Elements
text_part _ = Intervals

-- so many stages of one part, from a number on
abbrev pub stages_from : ℕ → ℕ → Part → List OwnStage
stages_from k zero part = []
stages_from k (suc n) part = record { stage = k; part = part } ∷ stages_from (k + 1) n part

-- whether it is the table
abbrev pub is_grid_part : Part → Bool
is_grid_part Grid = true
is_grid_part _ = false

-- the stages in their order, each the next one of its part: of the elements of the text, of its intervals, or of the grid
abbrev pub merged : List Part → List IndexedStage → List IndexedStage → List IndexedStage → List IndexedStage
merged [] es is gs = []
merged (Elements ∷ parts) es is gs = take 1 es ++ merged parts (drop 1 es) is gs
merged (Intervals ∷ parts) es is gs = take 1 is ++ merged parts es (drop 1 is) gs
merged (Grid ∷ parts) es is gs = take 1 gs ++ merged parts es is (drop 1 gs)

-- whether it is the text
abbrev pub is_text_part : Part → Bool
is_text_part part = not (is_grid_part part)

-- whether it is the elements of the text
abbrev pub is_elements_part : Part → Bool
is_elements_part Elements = true
is_elements_part _ = false

-- whether there is one stage
abbrev pub is_alone : List OwnStage → Bool
is_alone (t ∷ []) = true
is_alone _ = false

-- whether stages may be those of one edit: all on the elements of the text, all on the grid, or one alone, as it is on the intervals
abbrev pub are_of_one_edit : List OwnStage → Bool
are_of_one_edit ts = list_all (λ t. is_elements_part t.part) ts || (list_all (λ t. is_grid_part t.part) ts || is_alone ts)

-- how many rows, or columns, an operation puts in
abbrev pub units_by : Target → CellOp → ℕ
units_by target (SpliceIn to p count) = cond (same_target target to) count 0
units_by target _ = 0

abbrev pub units_by_all : Target → List CellOp → ℕ
units_by_all target [] = 0
units_by_all target (op ∷ ops) = units_by target op + units_by_all target ops

-- the same of sub-operations
abbrev pub units_of_one : Target → SubOperation → ℕ
units_of_one target (OnGrid op) = units_by target op
units_of_one target _ = 0

abbrev pub units_of : Target → List SubOperation → ℕ
units_of target [] = 0
units_of target (o ∷ os) = units_of_one target o + units_of target os
