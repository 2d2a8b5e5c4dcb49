use Rattle.std.proofs.Common.{◌≡◌, ◌++◌, drop, map, string_bytes}
use Rattle.ft_replay.specs.LineForm.{bytes_of}
use Rattle.ft_shared_map.specs.Maps.{map_of}
use Rattle.ft_map.specs.MapReport.{entry_line}
use Rattle.ft_replay.proofs.map_lines.push_entries.Given as goal

abbrev pub invariant-loop-pair : goal.invariant-loop-pair
invariant-loop-pair l =
    string_bytes l.text ++ bytes_of (map entry_line (map_of (drop l.pair-index l.pairs))) ≡ string_bytes l.initial.text ++ bytes_of (map entry_line (map_of l.pairs))
