use Rattle.std.proofs.Common.{◌≡◌, ◌++◌, drop, map}
use Rattle.ft_change_lines.specs.FromNothing.{set_of}
use Rattle.ft_change_lines.proofs.from_nothing.push_cells.Given as goal

-- the changes so far, and those of the rest, are all
abbrev pub invariant-loop-cell : goal.invariant-loop-cell
invariant-loop-cell l = l.changes ++ map set_of (drop l.cell-index l.cells) ≡ l.initial.changes ++ map set_of l.cells
