use Rattle.std.proofs.Common.{sym, ◌∙◌}
use Rattle.ft_props.specs.Overlay.{IsBelowStages}
use Rattle.ft_props.proofs.PendingStages.{acked_props-absent, acked_props-first, below_first, without_stage-absent, without_stage-first}
use Rattle.ft_props.proofs.overlay.Ahead.ack.Goals as goal

pub returns-in_ok-self-clause-acked : goal.returns-in_ok-self-clause-acked
returns-in_ok-self-clause-acked c =
    let pending = c.args.self.now.pending.items in
    let first = rw c.deref.ensures.value at c.in-Some.ensures.value in
    c.in_ok-self.ensures ∙ sym (acked_props-first c.args.stage c.args.self.now.acked c.in-Some.field-0.now pending c.requires.rising first c.if-first-stage.true)

pub returns-in_ok-self-clause-pending : goal.returns-in_ok-self-clause-pending
returns-in_ok-self-clause-pending c =
    let pending = c.args.self.now.pending.items in
    let first = rw c.deref.ensures.value at c.in-Some.ensures.value in
    c.remove.ensures.items ∙ sym (without_stage-first c.args.stage c.in-Some.field-0.now pending c.requires.rising first c.if-first-stage.true)

-- another stage is the first, so all are above
pub returns-else-first-stage-clause-acked : goal.returns-else-first-stage-clause-acked
returns-else-first-stage-clause-acked c =
    let pending = c.args.self.now.pending.items in
    let first = rw c.deref.ensures.value at c.in-Some.ensures.value in
    let below : IsBelowStages c.args.stage pending = below_first c.args.stage c.in-Some.field-0.now pending c.requires.rising c.requires.lowest first c.if-first-stage.false in
    sym (acked_props-absent c.args.stage c.args.self.now.acked pending below)

pub returns-else-first-stage-clause-pending : goal.returns-else-first-stage-clause-pending
returns-else-first-stage-clause-pending c =
    let pending = c.args.self.now.pending.items in
    let first = rw c.deref.ensures.value at c.in-Some.ensures.value in
    let below : IsBelowStages c.args.stage pending = below_first c.args.stage c.in-Some.field-0.now pending c.requires.rising c.requires.lowest first c.if-first-stage.false in
    sym (without_stage-absent c.args.stage pending below)
