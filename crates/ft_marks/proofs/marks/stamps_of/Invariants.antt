use Rattle.std.proofs.Common.{◌≡◌, ◌++◌, drop, map}
use Rattle.ft_marks.specs.Marks.{stamp_of}
use Rattle.ft_marks.proofs.marks.stamps_of.Given as goal

-- the stamps so far, and those of the rest, are all
abbrev pub invariant-loop-mark : goal.invariant-loop-mark
invariant-loop-mark l = l.stamps ++ map stamp_of (drop l.mark-index l.marks) ≡ map stamp_of l.marks
