use Rattle.std.proofs.Common.{◌≡◌, ◌++◌, drop, map, string_bytes}
use Rattle.ft_replay.specs.LineForm.{bytes_of}
use Rattle.ft_seqr.specs.ViewLines.{marker_line}
use Rattle.ft_replay.proofs.view_lines.push_markers.Given as goal

abbrev pub invariant-loop-marker : goal.invariant-loop-marker
invariant-loop-marker l = string_bytes l.text ++ bytes_of (map marker_line (drop l.marker-index l.markers)) ≡ string_bytes l.initial.text ++ bytes_of (map marker_line l.markers)
