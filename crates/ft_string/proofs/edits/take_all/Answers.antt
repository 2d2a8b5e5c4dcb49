use Rattle.std.proofs.Common.{◌∙◌, drop, refl}
use Rattle.std.proofs.lemmas.List.{drop_all}
use Rattle.ft_interval_store.specs.State.{text_elements}
use Rattle.ft_string.proofs.Above.{are-above}
use Rattle.ft_string.proofs.Chains.{noted-done, takes-begin, takes-done, takes-here, takes-next, takes-room}
use Rattle.ft_string.proofs.ReadsOfOne.{reads-begin, reads-next}
use Rattle.ft_string.proofs.ToldChains.{own-heard-all, own-hears-next}
use Rattle.ft_string.proofs.edits.take_all.Goals as goal

pub loop-op-init : goal.loop-op-init
loop-op-init g c = (
  takes-begin c.args.first c.args.ops.now c.args.tree.now c.args.pending.now.items c.requires.usable c.requires.formed c.requires.above c.requires.made c.requires.stages,
  reads-begin c.args.ops.now c.args.tree.now c.args.steps.now,
  refl,
)

pub loop-op-preserved : goal.loop-op-preserved
loop-op-preserved g c = (
  takes-next c.args.first c.args.ops.now c.loop-op.op-index c.op-item.result c.loop-op.stage c.args.tree.now c.loop-op.tree c.take_noted.new.tree
      c.args.pending.now.items c.loop-op.pending.items c.take_noted.new.pending.items c.loop-op.invariant.0 c.loop-op-test.true c.op-item.is
      c.in_ok-take_noted.ensures.taken c.in_ok-take_noted.ensures.noted,
  reads-next c.args.ops.now c.loop-op.op-index c.op-item.result c.args.tree.now c.loop-op.tree c.take_noted.new.tree c.args.steps.now c.loop-op.steps
      c.take_noted.new.steps c.loop-op.invariant.1 c.loop-op-test.true c.op-item.is c.take_noted.ensures.reads,
  own-hears-next c.loop-op.listener c.take_noted.new.listener c.args.ops.now c.loop-op.op-index c.op-item.result c.loop-op.stage c.loop-op.tree
      c.take_noted.new.tree c.loop-op-test.true c.op-item.is c.in_ok-take_noted.ensures.taken c.in_ok-take_noted.ensures.told
      ∙ c.loop-op.invariant.2,
)

pub take_noted-requires-clause-usable : goal.take_noted-requires-clause-usable
take_noted-requires-clause-usable g c = c.loop-op.invariant.0.usable

pub take_noted-requires-clause-formed : goal.take_noted-requires-clause-formed
take_noted-requires-clause-formed g c =
    (takes-here c.args.first c.args.ops.now c.loop-op.op-index c.op-item.result c.loop-op.stage c.args.tree.now c.loop-op.tree c.args.pending.now.items c.loop-op.pending.items
    c.loop-op.invariant.0 c.loop-op-test.true c.op-item.is).formed.0

pub take_noted-requires-clause-above : goal.take_noted-requires-clause-above
take_noted-requires-clause-above g c = are-above c.loop-op.stage (text_elements c.loop-op.tree) c.loop-op.invariant.0.above

pub take_noted-requires-clause-made : goal.take_noted-requires-clause-made
take_noted-requires-clause-made g c =
    takes-room c.args.first c.args.ops.now c.loop-op.op-index c.op-item.result c.loop-op.stage c.args.tree.now c.loop-op.tree c.args.pending.now.items c.loop-op.pending.items
    c.loop-op.invariant.0 c.loop-op-test.true c.op-item.is

pub returns-clause-taken : goal.returns-clause-taken
returns-clause-taken g c =
    takes-done c.args.first c.args.ops.now (drop c.loop-op.op-index c.args.ops.now) c.loop-op.stage c.args.tree.now c.loop-op.tree c.args.pending.now.items c.loop-op.pending.items
    c.loop-op.invariant.0 (drop_all c.loop-op.op-index c.args.ops.now c.loop-op-test.false)

pub returns-clause-noted : goal.returns-clause-noted
returns-clause-noted g c =
    noted-done c.args.first c.args.ops.now (drop c.loop-op.op-index c.args.ops.now) c.loop-op.stage c.args.tree.now c.loop-op.tree c.args.pending.now.items c.loop-op.pending.items
    c.loop-op.invariant.0 (drop_all c.loop-op.op-index c.args.ops.now c.loop-op-test.false)

pub returns-clause-reads : goal.returns-clause-reads
returns-clause-reads g c op one short = (c.loop-op.invariant.1 op one short).bound

pub returns-clause-told : goal.returns-clause-told
returns-clause-told g c =
    own-heard-all c.loop-op.listener c.loop-op.stage (drop c.loop-op.op-index c.args.ops.now) c.loop-op.tree
    (drop_all c.loop-op.op-index c.args.ops.now c.loop-op-test.false)
    ∙ c.loop-op.invariant.2
