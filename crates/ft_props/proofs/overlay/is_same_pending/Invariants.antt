use Rattle.std.proofs.Common.{◌≡◌, take, length}
use Rattle.ft_props.proofs.overlay.is_same_pending.Given as goal

-- what was passed is the same
abbrev pub invariant-loop-a : goal.invariant-loop-a
invariant-loop-a l = take (length l.yielded) l.mine ≡ take (length l.yielded) l.theirs
