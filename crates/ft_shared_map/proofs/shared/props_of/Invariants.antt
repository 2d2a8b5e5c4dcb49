-- the map so far, and then the rest of the pairs, is all
use Rattle.std.proofs.Common.{◌≡◌, ◌++◌, drop}
use Rattle.ft_shared_map.specs.Maps.{map_of}
use Rattle.ft_shared_map.proofs.shared.props_of.Given as goal

abbrev pub invariant-loop-pair : goal.invariant-loop-pair
invariant-loop-pair l = l.map ++ map_of (drop l.pair-index l.pairs) ≡ map_of l.pairs
