use Rattle.std.proofs.Common.{◌≡◌, drop, fold, min}
use Rattle.ft_seqr.specs.Sequencer.{least_ref}
use Rattle.ft_seqr.proofs.sequencer.least_ref.Given as goal

-- the least so far and those of the rest is the least of all
abbrev pub invariant-loop-other : goal.invariant-loop-other
invariant-loop-other l = fold (λ n i. min n i.ref_seq) l.least (drop l.other-index l.others) ≡ least_ref l.number l.joined
