use Rattle.std.proofs.Common.{◌≡◌, ◌≤◌, ◌+◌}
use Rattle.ft_io.specs.Reader.{input_limit, to_come}
use Rattle.ft_replay.specs.Listening.{Follows}
use Rattle.ft_replay.proofs.RunLaws.{Stands}
use Rattle.ft_replay.proofs.forms.read_lines.Given as goal

-- where the run stands, and that counts of faults are as they were
abbrev pub invariant-walk : goal.invariant-walk
invariant-walk g l = record {
  stands : Stands g.L.Listener.form (λ at. Follows (g.L.Listener.holds l.listener) l.count l.refused at)
      (g.S.Source.remaining l.initial.src) (g.S.Source.remaining l.src) l.lines (g.K.Sink.contents l.initial.out) (g.K.Sink.contents l.out);
  counted : l.refused ≤ l.count;
  sized : g.L.Listener.size l.listener ≤ input_limit + l.count;
  source_later : g.S.Source.faults l.initial.src ≤ g.S.Source.faults l.src;
  sink_later : g.K.Sink.faults l.initial.out ≤ g.K.Sink.faults l.out;
  source_steady : g.S.Source.faults l.src ≡ g.S.Source.faults l.initial.src;
  sink_steady : g.K.Sink.faults l.out ≡ g.K.Sink.faults l.initial.out;
}

-- each line brings the input nearer to its end
abbrev pub decreases-walk : goal.decreases-walk
decreases-walk g l = to_come l.lines
