use Rattle.std.proofs.Common.{◌≡◌, drop}
use Rattle.std.specs.List.{find}
use Rattle.ft_seqr.specs.Sequencer.{is_joined}
use Rattle.ft_seqr.proofs.sequencer.find_joined.Given as goal

-- the first of the rest is the first of all
abbrev pub invariant-loop-other : goal.invariant-loop-other
invariant-loop-other l = find (is_joined l.conn) (drop l.other-index l.joined) ≡ find (is_joined l.conn) l.joined
