use Rattle.std.proofs.Common.{None, cond, sym, ◌∙◌, ap, subst}
use Rattle.ft_tree_leaves.specs.References.{reference_at}
use Rattle.ft_interval_store.specs.Ends.{AreDistinctEnds, AreLiveEnds, holds_end}
use Rattle.ft_interval_store.specs.State.{HandsOn, placed_intervals, text_elements}
use Rattle.ft_interval_store.proofs.HandedOn.{distinct-ends, distinct-lost, distinct-unused, hands-on, live-before, live-lost, live-unused, places-after}
use Rattle.ft_interval_store.proofs.effects.take_effect.Goals as goal

pub settle_ends-requires-clause-live : goal.settle_ends-requires-clause-live
settle_ends-requires-clause-live c =
    live-before (text_elements c.args.tree.now) c.args.op.now c.args.ends.now c.args.intervals.now c.args.tree.now.refs c.requires.kept

pub settle_ends-requires-clause-once : goal.settle_ends-requires-clause-once
settle_ends-requires-clause-once c =
    distinct-ends (text_elements c.args.tree.now) c.args.op.now c.args.ends.now c.args.intervals.now c.args.tree.now.refs c.requires.kept

pub drop_ends-requires-clause-live : goal.drop_ends-requires-clause-live
drop_ends-requires-clause-live c =
    subst (λ e. AreLiveEnds c.settle_ends.new.tree.refs e) (sym c.in-Ok.ensures.ends.unused)
    (live-unused (text_elements c.args.tree.now) c.args.op.now c.args.ends.now c.args.intervals.now c.args.tree.now.refs c.requires.kept
    c.settle_ends.new.tree.refs c.settle_ends.ensures.refs)

pub drop_ends-requires-clause-once : goal.drop_ends-requires-clause-once
drop_ends-requires-clause-once c =
    subst (λ e. AreDistinctEnds e) (sym c.in-Ok.ensures.ends.unused)
    (distinct-unused (text_elements c.args.tree.now) c.args.op.now c.args.ends.now c.args.intervals.now c.args.tree.now.refs c.requires.kept)

pub drop_ends-requires-in-Ok-clause-live : goal.drop_ends-requires-in-Ok-clause-live
drop_ends-requires-in-Ok-clause-live c =
    let mid = c.settle_ends.new.tree.refs in
    let next = c.drop_ends.new.tree.refs in
    subst (λ e. AreLiveEnds next e) (sym c.in-Ok.ensures.ends.lost)
    (live-lost (text_elements c.args.tree.now) c.args.op.now c.args.ends.now c.args.intervals.now c.args.tree.now.refs c.requires.kept
    mid c.settle_ends.ensures.refs next
    (λ r. c.drop_ends.ensures.refs r ∙ ap (λ e. cond (holds_end r e) None (reference_at mid r)) c.in-Ok.ensures.ends.unused))

pub drop_ends-requires-in-Ok-clause-once : goal.drop_ends-requires-in-Ok-clause-once
drop_ends-requires-in-Ok-clause-once c =
    subst (λ e. AreDistinctEnds e) (sym c.in-Ok.ensures.ends.lost)
    (distinct-lost (text_elements c.args.tree.now) c.args.op.now c.args.ends.now c.args.intervals.now c.args.tree.now.refs c.requires.kept)

pub returns-in-Ok-clause-placed : goal.returns-in-Ok-clause-placed
returns-in-Ok-clause-placed c =
    let mid = c.settle_ends.new.tree.refs in
    let next = c.drop_ends.new.tree.refs in
    let after = c.drop_ends-in-Ok.new.tree.refs in
    ap (λ is. placed_intervals after is) c.in-Ok.ensures.ok
    ∙ places-after (text_elements c.args.tree.now) c.args.op.now c.args.ends.now c.args.intervals.now c.args.tree.now.refs c.requires.kept
    mid c.settle_ends.ensures.refs next
    (λ r. c.drop_ends.ensures.refs r ∙ ap (λ e. cond (holds_end r e) None (reference_at mid r)) c.in-Ok.ensures.ends.unused) after
    (λ r. c.drop_ends-in-Ok.ensures.refs r ∙ ap (λ e. cond (holds_end r e) None (reference_at next r)) c.in-Ok.ensures.ends.lost)

pub returns-in-Ok-clause-refs : goal.returns-in-Ok-clause-refs
returns-in-Ok-clause-refs c =
    let mid = c.settle_ends.new.tree.refs in
    let next = c.drop_ends.new.tree.refs in
    let after = c.drop_ends-in-Ok.new.tree.refs in
    subst (λ is. HandsOn c.args.ends.now c.args.intervals.now is c.args.tree.now.refs after) (sym c.in-Ok.ensures.ok)
    (hands-on (text_elements c.args.tree.now) c.args.op.now c.args.ends.now c.args.intervals.now c.args.tree.now.refs c.requires.kept
    mid c.settle_ends.ensures.refs next
    (λ r. c.drop_ends.ensures.refs r ∙ ap (λ e. cond (holds_end r e) None (reference_at mid r)) c.in-Ok.ensures.ends.unused) after
    (λ r. c.drop_ends-in-Ok.ensures.refs r ∙ ap (λ e. cond (holds_end r e) None (reference_at next r)) c.in-Ok.ensures.ends.lost))
