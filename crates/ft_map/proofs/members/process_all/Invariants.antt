-- the client so far, and then the rest, makes what all make
use Rattle.std.proofs.Common.{◌≡◌, drop}
use Rattle.ft_map.specs.MapClient.{after_entries}
use Rattle.ft_map.proofs.members.process_all.Given as goal

abbrev pub invariant-loop-e : goal.invariant-loop-e
invariant-loop-e l = after_entries l.client (drop l.e-index l.entries) ≡ after_entries l.initial.client l.entries
