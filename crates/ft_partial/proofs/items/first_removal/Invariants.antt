use Rattle.std.proofs.Common.{take}
use Rattle.ft_partial.specs.Elements.{IsFirst}
use Rattle.ft_partial.proofs.items.first_removal.Given as goal

abbrev pub invariant-loop-stamp : goal.invariant-loop-stamp
invariant-loop-stamp l = IsFirst (take l.stamp-index l.dels) l.first
