use Rattle.std.proofs.lemmas.Result.{IfOk-weaker}
use Rattle.ft_replay.proofs.observer.shown_text.Goals as goal

pub returns-in-Ok : goal.returns-in-Ok
returns-in-Ok c = IfOk-weaker c.view_text.result _ _ (λ text is. (c.in-Ok.view, c.in-Ok.is, is)) c.view_text.ensures
