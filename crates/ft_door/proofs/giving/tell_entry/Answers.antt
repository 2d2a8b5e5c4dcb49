use Rattle.std.proofs.Common.{◌≡◌, None, Some}
use Rattle.ft_msg.specs.Process.{process}
use Rattle.ft_changes.specs.Told.{told_of_entry}
use Rattle.ft_door.proofs.GivenSteps.{adds-none, adds-some}
use Rattle.ft_door.proofs.giving.tell_entry.Goals as goal

pub returns-in_default-clause-told : goal.returns-in_default-clause-told
returns-in_default-clause-told g c =
    let none : c.args.told.now ≡ None = (cc) in
    adds-none (λ x. process x c.args.entry.now) (λ x. told_of_entry x c.args.entry.now) (g.R.Replica.state c.args.replica.now) c.args.told.now c.take.new.self none c.take.ensures.after c.process.result

pub returns-clause-told : goal.returns-clause-told
returns-clause-told g c =
    let some : c.args.told.now ≡ Some c.in-Some.changes = (cc) in
    adds-some (λ x. process x c.args.entry.now) (λ x. told_of_entry x c.args.entry.now) (g.R.Replica.state c.args.replica.now) c.args.told.now c.replace.new.self c.in-Some.changes c.process_telling-answer.new.changes some c.replace.ensures.after
    c.process_telling-answer.result c.process_telling-answer.ensures.told
