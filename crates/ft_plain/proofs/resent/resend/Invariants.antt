use Rattle.std.proofs.Common.{◌≡◌, ◌≤◌, ◌++◌, drop, length, map}
use Rattle.std.specs.Prelude.{flat_map}
use Rattle.ft_msg.specs.Reconnection.{carried_stage}
use Rattle.ft_replica.specs.Own.{resent}
use Rattle.ft_plain.specs.Cut.{cut, cut_length}
use Rattle.ft_plain.proofs.resent.resend.Given as goal

-- the edits and stages so far, and those of the rest, are all, and the rest has as many as are asked for
abbrev pub invariant-loop-count : goal.invariant-loop-count
invariant-loop-count l =
    let rest = cut (drop l.count-index l.counts) l.rest in
    let all = cut l.counts l.stages in
    record {
      again : l.again.items ++ map (resent l.doc) rest ≡ map (resent l.doc) all;
      carried : l.carried ++ flat_map (λ ss. flat_map (carried_stage l.doc) ss) rest ≡ l.initial.carried ++ flat_map (λ ss. flat_map (carried_stage l.doc) ss) all;
      enough : cut_length (drop l.count-index l.counts) ≤ length l.rest;
    }
