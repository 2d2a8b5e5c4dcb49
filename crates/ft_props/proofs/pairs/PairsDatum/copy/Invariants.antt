use Rattle.std.proofs.Common.{◌≡◌, take}
use Rattle.ft_props.proofs.pairs.PairsDatum.copy.Given as goal

-- what was passed is copied
abbrev pub invariant-loop-pair : goal.invariant-loop-pair
invariant-loop-pair g l = l.items.items ≡ take l.pair-index l.pair-items
