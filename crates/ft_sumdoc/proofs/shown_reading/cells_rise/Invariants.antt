use Rattle.std.proofs.Common.{◌≡◌, ◌-◌, drop, map}
use Rattle.ft_sumdoc.specs.Cells.{is_given_cell_before}
use Rattle.ft_sumdoc.specs.Forms.{rises}
use Rattle.ft_sumdoc.specs.Items.{cell_of}
use Rattle.ft_sumdoc.proofs.shown_reading.cells_rise.Given as goal

-- those from the one before decide
abbrev pub invariant-loop-i : goal.invariant-loop-i
invariant-loop-i l = rises is_given_cell_before (map cell_of (drop (l.i - 1) l.cells)) ≡ rises is_given_cell_before (map cell_of l.cells)
