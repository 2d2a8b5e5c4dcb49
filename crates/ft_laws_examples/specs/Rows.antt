-- Short words for the worked examples.
use Rattle.std.specs.Prelude.{ℕ, List, [], ◌∷◌, Some, None, ℤ, pos, codes}
use Rattle.ft_op.specs.declared.operations.Seg.TheVariants.{Chars}
use Rattle.ft_op.specs.declared.operations.BaseOp.{BaseOp}
use Rattle.ft_op.specs.declared.operations.BaseOp.TheVariants.{Insert, Remove, Annotate}
use Rattle.ft_op.specs.declared.operations.TextOp.TheVariants.{One, Group, IntervalAdd, IntervalChange}
use Rattle.ft_op.specs.declared.operations.CellOp.{CellOp}
use Rattle.ft_op.specs.declared.operations.GridOp.TheVariants as grid
use Rattle.ft_op.specs.declared.operations.ChannelOp.{ChannelOp}
use Rattle.ft_op.specs.declared.operations.ChannelOp.TheVariants.{Text, Grid}
use Rattle.ft_msg.specs.declared.messages.Entry.{Entry}
use Rattle.ft_msg.specs.declared.messages.MsgKind.TheVariants as kind
use Rattle.ft_msg.specs.declared.messages.Body.TheVariants as body
use Rattle.ft_sumdoc.specs.declared.summary.IntervalRec.{IntervalRec}
use Rattle.ft_props.specs.declared.properties.Adjust.{Adjust}
use Rattle.ft_props.specs.Properties.{Characters, PropertySet}
use Rattle.ft_props.specs.Element.{id}
use Rattle.ft_msg.specs.Content.{ViewContent}

-- an insertion of characters
abbrev pub ins : ℕ → List ℕ → BaseOp
ins p text = Insert p (Chars text) []

-- a removal
abbrev pub rem : ℕ → ℕ → BaseOp
rem p q = Remove p q

-- an annotation that sets properties
abbrev pub ann : ℕ → ℕ → PropertySet → BaseOp
ann p q set = Annotate p q (record { props = set; adjust = [] })

-- an annotation that adjusts one key
abbrev pub adjusting : ℕ → ℕ → Characters → Adjust → BaseOp
adjusting p q key a = Annotate p q (record { props = []; adjust = (key, a) ∷ [] })

-- an operation of the text
abbrev pub one : BaseOp → ChannelOp
one op = Text (One op)

-- a group of the text
abbrev pub group : List BaseOp → ChannelOp
group ops = Text (Group ops)

-- a new interval between two elements
abbrev pub add : Characters → Characters → ℕ → ℕ → ChannelOp
add label id a b = Text (IntervalAdd label id (record { start = pos a; end = pos b }) [])

-- a change of an interval that gives neither ends nor properties
abbrev pub bare_change : Characters → Characters → ChannelOp
bare_change label id = Text (IntervalChange label id None [])

-- an operation of the grid
abbrev pub cell : CellOp → ChannelOp
cell op = Grid (grid.One op)

-- a message with number s of connection c with reference number r
abbrev pub message : ℕ → ℕ → ℕ → ChannelOp → Entry
message s c r op = record {
  msg = record { client_id = Some (codes "X"); seq = s; min = 0; client_seq = pos 1; ref_seq = pos r; kind = kind.Op; body = body.Op op };
  origin = c;
}

-- a view of characters alone
abbrev pub plain : List ℕ → ViewContent
plain text = record { text = text; markers = []; runs = []; intervals = []; rows = 0; cols = 0; cells = [] }

-- a shown interval without properties
abbrev pub interval : Characters → Characters → ℤ → ℤ → IntervalRec
interval label id a b = record { label = label; id = id; ends = record { start = a; end = b }; props = [] }
