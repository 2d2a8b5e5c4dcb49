use Rattle.std.proofs.Common.{subst}
use Rattle.ft_session.specs.Worlds.{AnswersEvent}
use Rattle.ft_replay.proofs.SessionSteps.{told-by, told-refused}
use Rattle.ft_replay.proofs.session.told_answer.Goals as goal

pub returns-in-Ok : goal.returns-in-Ok
returns-in-Ok c = λ e old new w h answers.
    told-by w e h c.in-Ok.out c.told_output.result (subst (AnswersEvent e old new) c.in-Ok.is answers) c.told_output.ensures.text c.told_output.ensures.taken

pub returns-in-Err : goal.returns-in-Err
returns-in-Err c = λ e old new w h answers.
    told-refused w e h c.in-Err.refusal c.told_refused.result c.told_refused.ensures.told c.told_refused.ensures.found (subst (AnswersEvent e old new) c.in-Err.is answers)
