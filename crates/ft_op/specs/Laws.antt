-- Laws of the texts of operations.
use Rattle.std.specs.Prelude.{◌≡◌, Ok}
use Rattle.serde_json.specs.Data.{Data}
use Rattle.serde_json.specs.Written.{compact_text}
use Rattle.ft_op.specs.declared.operations.TextOp.{TextOp}
use Rattle.ft_op.specs.declared.operations.GridOp.{GridOp}
use Rattle.ft_op.specs.declared.operations.ChannelOp.{ChannelOp}
use Rattle.ft_op.specs.declared.operations.ChannelOp.TheVariants.{Text, Grid}
use Rattle.ft_op.specs.GridGrammar.{grid_op}
use Rattle.ft_op.specs.TextGrammar.{text_op}
use Rattle.ft_op.specs.Representable.{IsRepresentableText}
use Rattle.ft_op.specs.WellFormed.{IsWellFormedGrid, IsWellFormedText}
use Rattle.ft_op.specs.Written.{written_grid_op, written_text_op}

-- the value is read as the operation
abbrev pub IsReadAs : ChannelOp → Data → Type 0
IsReadAs (Text op) d = text_op d ≡ Ok op
IsReadAs (Grid op) d = grid_op d ≡ Ok op

-- an operation of the text is read back from what it is written as
abbrev pub TextOpsReadBack : Type 0
TextOpsReadBack = (op : TextOp) → IsRepresentableText op → IsWellFormedText op → text_op (written_text_op op) ≡ Ok op

-- an operation of the grid is read back from what it is written as
abbrev pub GridOpsReadBack : Type 0
GridOpsReadBack = (op : GridOp) → IsWellFormedGrid op → grid_op (written_grid_op op) ≡ Ok op

-- no two operations of the text have one text
abbrev pub TextOpsTellApart : Type 0
TextOpsTellApart = (a b : TextOp) → IsRepresentableText a → IsRepresentableText b → IsWellFormedText a → IsWellFormedText b
    → compact_text (written_text_op a) ≡ compact_text (written_text_op b) → a ≡ b

-- no two operations of the grid have one text
abbrev pub GridOpsTellApart : Type 0
GridOpsTellApart = (a b : GridOp) → IsWellFormedGrid a → IsWellFormedGrid b
    → compact_text (written_grid_op a) ≡ compact_text (written_grid_op b) → a ≡ b
