use Rattle.std.proofs.Common.{List, ℕ, append-nil, subst, sym}
use Rattle.ft_io.specs.Lines.{with_lf}
use Rattle.ft_seqr.specs.Refusals.{refused_line}
use Rattle.ft_replay.specs.declared.listener.Told.{Told}
use Rattle.ft_replay.specs.Listening.{told_bytes}
use Rattle.ft_replay.specs.Writing.{WritesBytes}
use Rattle.ft_replay.proofs.replay.write_told.Goals as goal

pub returns-in-Refused-clause-writes : goal.returns-in-Refused-clause-writes
returns-in-Refused-clause-writes g c =
    let before = g.K.Sink.contents c.args.out.now in
    let after = g.K.Sink.contents c.put_text.new.out in
    let line = with_lf (refused_line c.args.line c.in-Refused.refusal) in
    subst (λ (told : Told). WritesBytes {T = Unit {0}} before after (g.K.Sink.faults c.args.out.now) (g.K.Sink.faults c.put_text.new.out) (told_bytes c.args.line told) c.put_text.result)
    (sym c.in-Refused.is)
    (subst (λ (bytes : List ℕ). WritesBytes {T = Unit {0}} before after (g.K.Sink.faults c.args.out.now) (g.K.Sink.faults c.put_text.new.out) bytes c.put_text.result)
    (sym (append-nil line)) (c.put_text.ensures.writes line c.refused_line.ensures))
