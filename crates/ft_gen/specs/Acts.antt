-- The event of an act, and what an edit that was drawn is.
use Rattle.std.specs.Prelude.{◌≡◌, ℕ, ◌+◌, ◌≤◌, pos, [], ◌∷◌, ◌++◌, Some, codes, decimal}
use Rattle.ft_op.specs.declared.operations.BaseOp.TheVariants.{Insert, Remove, Annotate}
use Rattle.ft_op.specs.declared.operations.CellOp.TheVariants.{Set, SpliceIn}
use Rattle.ft_op.specs.declared.operations.ChannelOp.{ChannelOp}
use Rattle.ft_op.specs.declared.operations.ChannelOp.TheVariants.{Text, Grid}
use Rattle.ft_op.specs.declared.operations.GridOp.TheVariants as grid
use Rattle.ft_op.specs.declared.operations.Seg.TheVariants.{Chars}
use Rattle.ft_op.specs.declared.operations.TextOp.TheVariants.{One, IntervalAdd}
use Rattle.ft_op.specs.WellFormed.{IsWellFormed}
use Rattle.ft_seqr.specs.declared.events.Event.{Event}
use Rattle.ft_seqr.specs.declared.events.Event.TheVariants as event
use Rattle.ft_gen.specs.declared.acts.Act.{Act}
use Rattle.ft_gen.specs.declared.acts.Deed.{Deed}
use Rattle.ft_gen.specs.declared.acts.Deed.TheVariants as deed
use Rattle.ft_gen.specs.declared.edits.DrawnOp.{DrawnOp}
use Rattle.ft_gen.specs.declared.edits.DrawnOp.TheVariants as drawn
use Rattle.ft_gen.specs.declared.progress.Progress.{Progress}
use Rattle.ft_gen.specs.Edits.{DrawnEdit, letters}
use Rattle.ft_gen.specs.Rounds.{client_name, compacts, connects, is_told, says_nothing, tickets}
use Rattle.ft_gen.specs.Generated.{shows, starts}

-- the operation of an edit that was drawn
abbrev pub op_of : DrawnOp → ChannelOp
op_of (drawn.Insert p count x) = Text (One (Insert p (Chars (letters count x)) []))
op_of (drawn.Remove p q) = Text (One (Remove p q))
op_of (drawn.Annotate p value) = Text (One (Annotate p (p + 1) (record { props = (codes "k", Some (decimal value)) ∷ []; adjust = [] })))
op_of (drawn.Set row col value) = Grid (grid.One (Set row col (decimal value)))
op_of (drawn.Add number p) = Text (IntervalAdd (codes "notes") (codes "i" ++ decimal number) (record { start = pos p; end = pos p }) [])

-- the event of what the client of a number does
abbrev pub event_by : ℕ → Deed → Event
event_by i deed.Start = starts i
event_by i deed.Connect = connects i
event_by i (deed.AddFour target) = event.Edit (client_name i) (Grid (grid.One (SpliceIn target 0 4)))
event_by i deed.Drop = event.Drop (client_name i)
event_by i (deed.Edit op) = event.Edit (client_name i) (op_of op)
event_by i deed.Ticket = tickets i
event_by i deed.Deliver = is_told i
event_by i deed.Noop = says_nothing i
event_by i deed.Compact = compacts i
event_by i deed.Show = shows i

-- the event of an act
abbrev pub act_event : Act → Event
act_event act = event_by act.client act.deed

-- the op and the progress are those of the edit; it is well formed, and raises no number by much
pub record IsDrawn (edit : DrawnEdit) (old : Progress) (op : DrawnOp) (new : Progress) : Type 0 where
  pub drawn : edit ≡ record { op = op_of op; after = new }
  pub well_formed : IsWellFormed (op_of op)
  pub left : new.left ≡ old.left
  pub length : new.length ≤ old.length + 3
  pub intervals : new.intervals ≤ old.intervals + 1
