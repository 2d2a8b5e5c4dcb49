use Rattle.std.proofs.Common.{◌≡◌, IfOk, string_bytes, subst, sym}
use Rattle.ft_replay.specs.Forms.{view_lines}
use Rattle.ft_replay.specs.LineForm.{bytes_of}
use Rattle.ft_replay.specs.LoadRuns.{Loads}
use Rattle.ft_replay.specs.Loading.{Loading, nothing_loaded}
use Rattle.ft_replay.proofs.loading.LoadRunListener.view_text.Goals as goal

pub returns-in-Waiting : goal.returns-in-Waiting
returns-in-Waiting g c = λ made h.
    let at : made ≡ nothing_loaded = subst (λ a. Loads g.R.Replica.state a made) c.in-Waiting.is h in
    subst (λ (m : Loading). IfOk c.first_text.result (λ text. string_bytes text ≡ bytes_of (view_lines m.seen.doc))) (sym at) c.first_text.ensures

pub returns-in-Observing : goal.returns-in-Observing
returns-in-Observing g c = λ made h. c.view_text.ensures made.seen (subst (λ a. Loads g.R.Replica.state a made) c.in-Observing.is h).1
