use Rattle.std.proofs.Common.{true}
use Rattle.ft_msg.specs.Process.{process}
use Rattle.ft_seqr.specs.Refusals.{refusal_of_process}
use Rattle.ft_door.specs.Editors.{joining_as}
use Rattle.ft_door.proofs.GivenSteps.{join-given, join-leads, joins-reached, lead-same, same-shown}
use Rattle.ft_door.proofs.parts.take_join.Goals as goal

pub returns-clause-leads : goal.returns-clause-leads
returns-clause-leads g c = λ x shown reached h leads.
    let entry = c.args.entry.now in
    let z = joining_as true entry.origin x in
    let same = same-shown x entry.origin in
    join-leads shown c.give_entry.new.told x z (process z entry) same c.give_entry.result
    (c.give_entry.ensures.leads z shown (joins-reached x entry.origin reached) (c.in_ok-begin_join.ensures.answers x reached h) (lead-same shown c.args.told.now x z same leads))

pub returns-clause-answers : goal.returns-clause-answers
returns-clause-answers g c = λ x reached h.
    let state = g.R.Replica.state in
    let entry = c.args.entry.now in
    let own = c.requires.join in
    join-given (refusal_of_process entry.msg.seq) (state c.args.replica.now) (state c.begin_join.new.replica) (state c.give_entry.new.replica)
    (process (joining_as true entry.origin x) entry) (process (joining_as true entry.origin own.client) entry) own.after own.takes c.give_entry.result
    (c.give_entry.ensures.answers (joining_as true entry.origin own.client) (joins-reached own.client entry.origin own.reached)
    (c.in_ok-begin_join.ensures.answers own.client own.reached own.runs))
    (c.give_entry.ensures.answers (joining_as true entry.origin x) (joins-reached x entry.origin reached) (c.in_ok-begin_join.ensures.answers x reached h))
