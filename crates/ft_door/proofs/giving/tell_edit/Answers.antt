use Rattle.std.proofs.Common.{◌≡◌, None, Some}
use Rattle.ft_msg.specs.Client.{local_edit}
use Rattle.ft_changes.specs.Told.{told_of_edit}
use Rattle.ft_door.proofs.GivenSteps.{adds-none, adds-some}
use Rattle.ft_door.proofs.giving.tell_edit.Goals as goal

pub returns-in_default-clause-told : goal.returns-in_default-clause-told
returns-in_default-clause-told g c =
    let none : c.args.told.now ≡ None = (cc) in
    adds-none (λ x. local_edit x c.args.op.now) (λ x. told_of_edit x c.args.op.now) (g.R.Replica.state c.args.replica.now) c.args.told.now c.take.new.self none c.take.ensures.after c.edit.result

pub returns-clause-told : goal.returns-clause-told
returns-clause-told g c =
    let some : c.args.told.now ≡ Some c.in-Some.changes = (cc) in
    adds-some (λ x. local_edit x c.args.op.now) (λ x. told_of_edit x c.args.op.now) (g.R.Replica.state c.args.replica.now) c.args.told.now c.replace.new.self c.in-Some.changes c.edit_telling-answer.new.changes some c.replace.ensures.after
    c.edit_telling-answer.result c.edit_telling-answer.ensures.told
