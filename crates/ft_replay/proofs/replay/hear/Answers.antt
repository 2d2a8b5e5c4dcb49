use Rattle.std.proofs.Common.{List, ℕ, ◌∙◌, IfOk, subst, sym}
use Rattle.ft_replay.specs.LineForm.{form_step}
use Rattle.ft_replay.specs.Listening.{IsStep}
use Rattle.ft_replay.proofs.Hearing.{handed-full}
use Rattle.ft_replay.proofs.replay.hear.Goals as goal

pub returns-in-Full-clause-step : goal.returns-in-Full-clause-step
returns-in-Full-clause-step g c = λ text made out holds.
    subst (λ (line : List ℕ). IfOk c.hear_text.result (λ told. IsStep (g.L.Listener.holds c.hear_text.new.listener) told (form_step g.L.Listener.form made line)))
    (c.as_slice.ensures ∙ handed-full (g.L.Listener.form.longest made) text c.in-Full.text (sym c.in-Full.is ∙ out.is)) (c.hear_text.ensures.step made holds)
