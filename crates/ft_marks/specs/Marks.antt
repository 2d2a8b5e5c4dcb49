-- Stamps as the marks of a summary, and marks as stamps.
use Rattle.std.specs.Prelude.{ℕ, cond, List, Option, Some, None, map}
use Rattle.ft_base.specs.declared.elements.Element.{Element as ElementStamps}
use Rattle.ft_base.specs.declared.stamps.Stamp.{Stamp}
use Rattle.ft_base.specs.declared.stamps.Stamp.TheVariants.{Acked, Local}
use Rattle.ft_props.specs.Compaction.{is_insertion_at_or_below}
use Rattle.ft_sumdoc.specs.declared.summary.Mark.{Mark}
use Rattle.ft_sumdoc.specs.Stamps.{universal}

-- a mark as a stamp
abbrev pub stamp_of : Mark → Stamp
stamp_of m = Acked m.seq m.conn

-- a sequenced stamp as a mark
abbrev pub mark_of : Stamp → Mark
mark_of (Acked s c) = record { seq = s; conn = c }
mark_of (Local k) = universal

-- the author of an element, (0, 0) where it isn't known
abbrev pub author_mark : Option Stamp → Mark
author_mark None = universal
author_mark (Some stamp) = mark_of stamp

-- the insertion as a summary at this minimum has it: that which everybody sees, where it is at or below the minimum
abbrev pub insertion_mark : ℕ → Stamp → Mark
insertion_mark min ins = cond (is_insertion_at_or_below min ins) universal (mark_of ins)

-- the stamps of an element with these marks
abbrev pub marked_stamps : Mark → List Mark → ElementStamps
marked_stamps ins dels = record { ins = stamp_of ins; dels = map stamp_of dels }
