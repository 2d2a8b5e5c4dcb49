-- As the replica starts.
use Rattle.ft_session.proofs.entrances.replica_over.Goals as goal

pub returns-clause-starts : goal.returns-clause-starts
returns-clause-starts g c = record {
  over = c.in_ok-from_summary.ensures.starts;
  stands = λ whole reached gives. c.in_ok-from_summary.ensures.stands whole reached gives;
}
