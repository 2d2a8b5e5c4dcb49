-- the pairs that are done, and then those of the rest, are those of all
use Rattle.std.proofs.Common.{◌≡◌, ◌++◌, drop}
use Rattle.ft_shared_map.specs.Maps.{pairs_of}
use Rattle.ft_shared_map.proofs.shared.pairs_of.Given as goal

abbrev pub invariant-loop-key : goal.invariant-loop-key
invariant-loop-key l = l.pairs.items ++ pairs_of (drop l.key-index l.key-items) ≡ pairs_of l.key-items
