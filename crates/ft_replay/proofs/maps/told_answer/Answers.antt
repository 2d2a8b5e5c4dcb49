use Rattle.std.proofs.Common.{subst}
use Rattle.ft_map.specs.MapWorlds.{AnswersMapEvent}
use Rattle.ft_replay.proofs.MapSteps.{told-by, told-refused}
use Rattle.ft_replay.proofs.maps.told_answer.Goals as goal

pub returns-in-Ok : goal.returns-in-Ok
returns-in-Ok c = λ e old new w h answers.
    told-by e old new w h c.in-Ok.out c.told_map_output.result (subst (AnswersMapEvent e old new) c.in-Ok.is answers) c.told_map_output.ensures.text c.told_map_output.ensures.taken

pub returns-in-Err : goal.returns-in-Err
returns-in-Err c = λ e old new w h answers.
    told-refused e old new w h c.in-Err.refusal c.told_refused.result c.told_refused.ensures.told c.told_refused.ensures.found (subst (AnswersMapEvent e old new) c.in-Err.is answers)
