use Rattle.std.proofs.lemmas.Result.{IfOk-weaker}
use Rattle.ft_seqr.specs.Walk.{written_by_item}
use Rattle.ft_replay.specs.LineForm.{bytes_of, form_step}
use Rattle.ft_replay.proofs.Hearing.{follows-on, told-written}
use Rattle.ft_replay.proofs.replay.hear_read.Goals as goal

pub returns-clause-after : goal.returns-clause-after
returns-clause-after g c = λ text at out follows.
    follows-on (g.L.Listener.holds c.args.listener.now) (g.L.Listener.holds c.hear-told.new.listener) c.args.lines c.args.refused at (form_step g.L.Listener.form at.made text)
    c.hear-told.result c.write_heard.result follows (c.hear-told.ensures.step text at.made out follows.holds) c.write_heard.ensures.count

pub returns-clause-writes : goal.returns-clause-writes
returns-clause-writes g c = λ text at out follows.
    let step = form_step g.L.Listener.form at.made text in
    c.write_heard.ensures.writes (bytes_of (written_by_item (form_step g.L.Listener.form) at text))
    (IfOk-weaker c.hear-told.result _ _ (λ told is. told-written (g.L.Listener.holds c.hear-told.new.listener) c.args.lines at told step follows.lines is)
    (c.hear-told.ensures.step text at.made out follows.holds))
