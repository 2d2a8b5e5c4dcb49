use Rattle.ft_msg.specs.Answers.{process_fault_kind}
use Rattle.ft_msg.specs.Process.{process}
use Rattle.ft_seqr.specs.Refusals.{refusal_of_process}
use Rattle.ft_changes.specs.Told.{told_of_entry}
use Rattle.ft_door.specs.Editors.{on_entry}
use Rattle.ft_door.proofs.GivenSteps.{given-taken, refused-leads, taken-leads}
use Rattle.ft_door.proofs.giving.give_entry.Goals as goal

pub returns-in-Ok-clause-answers : goal.returns-in-Ok-clause-answers
returns-in-Ok-clause-answers g c =
    let state = g.R.Replica.state in
    given-taken process_fault_kind c.args.entry.now.origin (λ x. process x c.args.entry.now) (refusal_of_process c.args.entry.now.msg.seq)
    (state c.args.replica.now) (state c.tell_entry.new.replica) c.in-Ok.ensures.answers

pub returns-in-Ok-clause-leads : goal.returns-in-Ok-clause-leads
returns-in-Ok-clause-leads g c =
    let state = g.R.Replica.state in
    let entry = c.args.entry.now in
    taken-leads process_fault_kind entry.origin (λ x. process x entry) (λ x. told_of_entry x entry) (state c.args.replica.now) (state c.tell_entry.new.replica) c.args.told.now
    c.tell_entry.new.told (λ shown cs ds x y reached h e tells told. on_entry entry reached h e tells told) c.in-Ok.ensures.answers c.in-Ok.ensures.told

pub returns-in_ok-refusal-in-Err-clause-leads : goal.returns-in_ok-refusal-in-Err-clause-leads
returns-in_ok-refusal-in-Err-clause-leads g c =
    let state = g.R.Replica.state in
    let entry = c.args.entry.now in
    refused-leads process_fault_kind entry.origin (λ x. process x entry) (λ x. told_of_entry x entry) (state c.args.replica.now) (state c.tell_entry.new.replica) c.args.told.now
    c.tell_entry.new.told c.in-Err.fault c.in_ok-refusal-in-Err.ensures.kind c.in-Err.ensures.answers c.in-Err.ensures.same
