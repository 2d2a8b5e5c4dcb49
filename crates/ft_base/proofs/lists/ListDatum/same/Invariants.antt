use Rattle.std.proofs.Common.{◌≡◌, take, length}
use Rattle.ft_base.proofs.lists.ListDatum.same.Given as goal

-- what was passed is the same
abbrev pub invariant-loop-mine : goal.invariant-loop-mine
invariant-loop-mine g l = take (length l.yielded) l.self ≡ take (length l.yielded) l.other
