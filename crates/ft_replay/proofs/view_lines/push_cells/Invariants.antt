use Rattle.std.proofs.Common.{◌≡◌, ◌++◌, drop, map, string_bytes}
use Rattle.ft_replay.specs.LineForm.{bytes_of}
use Rattle.ft_seqr.specs.ViewLines.{cell_line}
use Rattle.ft_replay.proofs.view_lines.push_cells.Given as goal

abbrev pub invariant-loop-cell : goal.invariant-loop-cell
invariant-loop-cell l = string_bytes l.text ++ bytes_of (map cell_line (drop l.cell-index l.cells)) ≡ string_bytes l.initial.text ++ bytes_of (map cell_line l.cells)
