use Rattle.std.proofs.Common.{subst, sym}
use Rattle.std.specs.Prelude.{IfOk}
use Rattle.ft_msg.specs.Process.{process}
use Rattle.ft_seqr.specs.Refusals.{refusal_of_process}
use Rattle.ft_door.specs.Editors.{AnswersStep, Leads, client_after, joining_as}
use Rattle.ft_door.proofs.parts.receive.Goals as goal

pub returns-then-joins-clause-answers : goal.returns-then-joins-clause-answers
returns-then-joins-clause-answers g c = λ x reached h.
    let state = g.R.Replica.state in
    let entry = c.args.entry.now in
    subst (λ b. IfOk c.take_join.result (AnswersStep (refusal_of_process entry.msg.seq) (state c.args.replica.now) (state c.take_join.new.replica)
    (process (joining_as b entry.origin x) entry)))
    (sym c.if-joins.true) (c.take_join.ensures.answers x reached h)

pub returns-then-joins-clause-leads : goal.returns-then-joins-clause-leads
returns-then-joins-clause-leads g c = λ x shown reached h leads.
    let entry = c.args.entry.now in
    subst (λ b. IfOk c.take_join.result (λ _. Leads shown c.take_join.new.told (client_after x (process (joining_as b entry.origin x) entry))))
    (sym c.if-joins.true) (c.take_join.ensures.leads x shown reached h leads)

pub returns-else-joins-clause-leads : goal.returns-else-joins-clause-leads
returns-else-joins-clause-leads g c = λ x shown reached h leads.
    let entry = c.args.entry.now in
    subst (λ b. IfOk c.give_entry.result (λ _. Leads shown c.give_entry.new.told (client_after x (process (joining_as b entry.origin x) entry))))
    (sym c.if-joins.false) (c.give_entry.ensures.leads x shown reached h leads)

pub returns-else-joins-clause-answers : goal.returns-else-joins-clause-answers
returns-else-joins-clause-answers g c = λ x reached h.
    let state = g.R.Replica.state in
    let entry = c.args.entry.now in
    subst (λ b. IfOk c.give_entry.result (AnswersStep (refusal_of_process entry.msg.seq) (state c.args.replica.now) (state c.give_entry.new.replica)
    (process (joining_as b entry.origin x) entry)))
    (sym c.if-joins.false) (c.give_entry.ensures.answers x reached h)
