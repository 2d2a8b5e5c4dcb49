use Rattle.std.proofs.Common.{◌≡◌, ◌≤◌, length}
use Rattle.ft_replay.specs.Generated.{session_events}
use Rattle.ft_replay.proofs.GeneratedLaws.{IsWriting}
use Rattle.ft_replay.proofs.generated.write_generated.Given as goal

-- the lines of the first events are written, and the count of faults doesn't fall
abbrev pub invariant-loop-event : goal.invariant-loop-event
invariant-loop-event g l = record {
  writing : IsWriting (session_events l.fn.settings) l.events (g.K.Sink.contents l.initial.out) (g.K.Sink.contents l.out);
  later : g.K.Sink.faults l.initial.out ≤ g.K.Sink.faults l.out;
  steady : g.K.Sink.faults l.out ≡ g.K.Sink.faults l.initial.out;
}

-- each event brings the session nearer to its end
abbrev pub decreases-loop-event : goal.decreases-loop-event
decreases-loop-event g l = length l.events
