use Rattle.ft_msg.specs.Answers.{edit_fault_kind}
use Rattle.ft_msg.specs.Client.{local_edit}
use Rattle.ft_seqr.specs.Refusals.{refusal_of_edit}
use Rattle.ft_changes.specs.Told.{told_of_edit}
use Rattle.ft_door.specs.Editors.{on_edit}
use Rattle.ft_door.proofs.GivenSteps.{given-taken, refused-leads, taken-leads}
use Rattle.ft_door.proofs.giving.give_edit.Goals as goal

pub returns-in-Ok-clause-answers : goal.returns-in-Ok-clause-answers
returns-in-Ok-clause-answers g c =
    let state = g.R.Replica.state in
    given-taken edit_fault_kind 0 (λ x. local_edit x c.args.op.now) refusal_of_edit (state c.args.replica.now) (state c.tell_edit.new.replica) c.in-Ok.ensures.answers

pub returns-in-Ok-clause-leads : goal.returns-in-Ok-clause-leads
returns-in-Ok-clause-leads g c =
    let state = g.R.Replica.state in
    let op = c.args.op.now in
    taken-leads edit_fault_kind 0 (λ x. local_edit x op) (λ x. told_of_edit x op) (state c.args.replica.now) (state c.tell_edit.new.replica) c.args.told.now c.tell_edit.new.told
    (λ shown cs ds x y reached h e tells told. on_edit op reached h e tells told) c.in-Ok.ensures.answers c.in-Ok.ensures.told

pub returns-in_ok-refusal-in-Err-clause-leads : goal.returns-in_ok-refusal-in-Err-clause-leads
returns-in_ok-refusal-in-Err-clause-leads g c =
    let state = g.R.Replica.state in
    let op = c.args.op.now in
    refused-leads edit_fault_kind 0 (λ x. local_edit x op) (λ x. told_of_edit x op) (state c.args.replica.now) (state c.tell_edit.new.replica) c.args.told.now c.tell_edit.new.told
    c.in-Err.fault c.in_ok-refusal-in-Err.ensures.kind c.in-Err.ensures.answers c.in-Err.ensures.same
