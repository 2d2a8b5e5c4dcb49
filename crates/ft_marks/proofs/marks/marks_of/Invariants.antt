use Rattle.std.proofs.Common.{◌≡◌, ◌++◌, drop, map}
use Rattle.ft_marks.specs.Marks.{mark_of}
use Rattle.ft_marks.proofs.marks.marks_of.Given as goal

-- the marks so far, and those of the rest, are all
abbrev pub invariant-loop-stamp : goal.invariant-loop-stamp
invariant-loop-stamp l = l.marks ++ map mark_of (drop l.stamp-index l.stamps) ≡ map mark_of l.stamps
