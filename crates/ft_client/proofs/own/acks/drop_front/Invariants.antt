use Rattle.std.proofs.Common.{◌≡◌, drop}
use Rattle.ft_client.proofs.own.acks.drop_front.Given as goal

-- so many were taken off
abbrev pub invariant-loop-i : goal.invariant-loop-i
invariant-loop-i l = l.stages.items ≡ drop l._i l.initial.stages.items
