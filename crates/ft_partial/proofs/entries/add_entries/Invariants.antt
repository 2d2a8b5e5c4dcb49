use Rattle.std.proofs.Common.{◌≤◌, ◌+◌, ◌-◌, length, take}
use Rattle.std.specs.Prelude.{vec_len, vec_capacity}
use Rattle.ft_partial.specs.Entries.{AddsEntries}
use Rattle.ft_partial.proofs.entries.add_entries.Given as goal

abbrev pub invariant-loop-i : goal.invariant-loop-i
invariant-loop-i l = record {
  adds : AddsEntries l.initial.entries.items l.entries.items (take l.i l.more);
  room : vec_len l.entries + (length l.more - l.i) ≤ vec_capacity l.entries;
}
