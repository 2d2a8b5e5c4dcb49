-- What is added, and then the rest, is all.
use Rattle.std.proofs.Common.{◌≡◌, ◌+◌, drop, fold, map}
use Rattle.ft_op.specs.Operation.{OnText}
use Rattle.ft_seqr.specs.World.{inserted_count}
use Rattle.ft_session.proofs.loads.base_loads.Given as goal

abbrev pub invariant-loop-op : goal.invariant-loop-op
invariant-loop-op l =
    fold (λ n o. n + (1 + inserted_count o)) l.load (map (λ op. OnText op) (drop l.op-index l.ops)) ≡ fold (λ n o. n + (1 + inserted_count o)) 0 (map (λ op. OnText op) l.ops)
