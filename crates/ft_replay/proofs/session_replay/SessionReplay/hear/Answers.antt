use Rattle.std.proofs.Common.{◌≡◌, ◌++◌, ◌∷◌, []}
use Rattle.ft_base.proofs.Results.{after-done}
use Rattle.ft_replay.specs.SessionReplays.{HasHeard, line_bytes}
use Rattle.ft_replay.proofs.Written.{writes_after}
use Rattle.ft_replay.proofs.session_replay.SessionReplay.hear.Goals as goal

pub returns-clause-after : goal.returns-clause-after
returns-clause-after g c heard has =
    after-done c.hear_next-heard.result c.after.result
    (λ s. HasHeard s.run.world s.lines s.refused (heard ++ c.args.line.now ∷ [])) c.hear_next-heard.new.self
    (c.hear_next-heard.ensures.after heard has) c.after.ensures.done c.after.ensures.value

pub returns-clause-writes : goal.returns-clause-writes
returns-clause-writes g c heard has =
    writes_after _ _ (g.K.Sink.contents c.args.out.now) (g.K.Sink.contents c.hear_next-heard.new.out) (g.K.Sink.faults c.args.out.now) (g.K.Sink.faults c.hear_next-heard.new.out) (line_bytes heard c.args.line.now)
    c.hear_next-heard.result c.after.result c.after.ensures.done c.after.ensures.err (c.hear_next-heard.ensures.writes heard has)

pub returns-clause-steady : goal.returns-clause-steady
returns-clause-steady g c =
    after-done c.hear_next-heard.result c.after.result
    (λ _. g.K.Sink.faults c.hear_next-heard.new.out ≡ g.K.Sink.faults c.args.out.now) c.hear_next-heard.new.self
    c.hear_next-heard.ensures.steady c.after.ensures.done c.after.ensures.value
