use Rattle.std.proofs.Common.{ap}
use Rattle.ft_replay.specs.LineForm.{bytes_of, last_lines}
use Rattle.ft_replay.proofs.Hearing.{end-lines}
use Rattle.ft_replay.proofs.replay.end_text.Goals as goal

pub returns : goal.returns
returns g c = λ lines at follows.
    let counted = g.L.Listener.form.counted at.made in
    end-lines (g.L.Listener.form.shown at.made) (last_lines at.refused counted) _ _ _
    (c.in_ok-push_last.ensures counted (c.counts.ensures at.made follows.holds))
    (c.in_ok-text.ensures at.made follows.holds) (ap (λ n. bytes_of (last_lines n counted)) follows.refusals)
