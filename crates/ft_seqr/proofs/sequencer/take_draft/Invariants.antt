use Rattle.std.proofs.Common.{◌≡◌, ◌++◌, cond, drop, map, take}
use Rattle.ft_seqr.specs.Sequencer.{JoinedConnection, is_joined, submitted}
use Rattle.ft_seqr.proofs.sequencer.take_draft.Given as goal

-- the connections so far have taken it; the rest is as it was, and completes the whole once it has
abbrev pub invariant-loop-other : goal.invariant-loop-other
invariant-loop-other l =
    let f : JoinedConnection → JoinedConnection = λ i. cond (is_joined l.conn i) (submitted l.draft i) i in
    record {
      rest : drop l.other-index l.joined ≡ drop l.other-index l.initial.joined;
      taken : take l.other-index l.joined ++ map f (drop l.other-index l.joined) ≡ map f l.initial.joined;
    }
