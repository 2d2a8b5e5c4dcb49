use Rattle.std.proofs.Common.{◌+◌, subst, sym}
use Rattle.ft_interval_store.specs.State.{text_elements}
use Rattle.ft_string.specs.Rejoins.{GivesOps, NextDue}
use Rattle.ft_string.proofs.SentSoFar.{gives-begin, gives-done, gives-next, shorter}
use Rattle.ft_string.proofs.rejoining.give_due.Goals as goal

pub loop-op-init : goal.loop-op-init
loop-op-init c = gives-begin (text_elements c.args.tree.now) (c.args.last + 1) c.args.ops.now.items c.args.kept.now.items c.args.again.now c.requires.none

pub loop-op-smaller : goal.loop-op-smaller
loop-op-smaller c =
    let n = subst (λ r. NextDue (c.args.last + 1) c.loop-op.ops.items c.next_due.new.ops.items r) c.in-Some.is c.next_due.ensures in
    shorter c.loop-op.ops.items c.next_due.new.ops.items c.in-Some.op n.0

pub loop-op-preserved : goal.loop-op-preserved
loop-op-preserved c =
    let n = subst (λ r. NextDue (c.args.last + 1) c.loop-op.ops.items c.next_due.new.ops.items r) c.in-Some.is c.next_due.ensures in
    gives-next (text_elements c.args.tree.now) (c.args.last + 1) c.args.ops.now.items c.loop-op.ops.items c.next_due.new.ops.items c.args.kept.now.items
    c.loop-op.kept.items c.push_behind_if.new.items.items c.loop-op.again c.push_again-some.new.again c.in-Some.op c.push_again-some.result
    c.loop-op.invariant n.0 n.1 c.push_again-some.ensures.sends c.push_again-some.ensures.some c.in_ok-push_behind_if.ensures

pub returns : goal.returns
returns c =
    let xs = text_elements c.args.tree.now in
    let n = subst (λ r. NextDue (c.args.last + 1) c.loop-op.ops.items c.next_due.new.ops.items r) c.in_default.is c.next_due.ensures in
    subst (λ os. GivesOps xs (c.args.last + 1) c.args.ops.now.items os c.args.kept.now.items c.loop-op.kept.items c.loop-op.again) (sym n.1)
    (gives-done xs (c.args.last + 1) c.args.ops.now.items c.loop-op.ops.items c.args.kept.now.items c.loop-op.kept.items c.loop-op.again c.loop-op.invariant n.0)
