use Rattle.std.proofs.Common.{subst}
use Rattle.std.specs.Prelude.{OnOk}
use Rattle.ft_changes.specs.Told.{told_of_edit}
use Rattle.ft_replica.specs.Stopping.{StoppingState}
use Rattle.ft_replica.specs.Telling.{AddsTold}
use Rattle.ft_replica.proofs.stopping.StoppingClient.edit_telling.Goals as goal

pub returns-in_default-2-clause-told : goal.returns-in_default-2-clause-told
returns-in_default-2-clause-told g c =
    let answer = c.edit_telling-answer in
    subst (λ (s : StoppingState _). OnOk answer.result (AddsTold g.D.OwnDocument.holds (λ p. told_of_edit p c.args.op.now) s.client c.args.changes.now answer.new.changes)) c.self.view_is
    answer.ensures.told
