use Rattle.std.proofs.Common.{◌+◌, ◌∙◌, drop, sym, subst}
use Rattle.std.proofs.Math.ListN.{drop_of_length-le}
use Rattle.ft_string.proofs.Chains.{TriesSoFar, tries-done, tries-next}
use Rattle.ft_string.proofs.ToldChains.{heard-all, hears-next}
use Rattle.ft_string.proofs.effects.try_all.Goals as goal

pub loop-op-preserved : goal.loop-op-preserved
loop-op-preserved g c = (
  subst (λ n. TriesSoFar c.args.seq c.args.at c.args.ops.now (drop (c.loop-op.op-index + 1) c.args.ops.now) n c.args.tree.now c.try_op.new.tree)
      (sym c.in_ok-skipped.ensures)
      (tries-next c.args.seq c.args.at c.args.ops.now c.loop-op.op-index c.op-item.result c.loop-op.skipped c.in_ok-more.more c.args.tree.now
      c.loop-op.tree
      c.try_op.new.tree c.loop-op.invariant.0 c.loop-op-test.true c.op-item.is c.in_ok-more.ensures.tries),
  hears-next c.loop-op.listener c.try_op.new.listener c.args.seq c.args.at c.args.ops.now c.loop-op.op-index c.op-item.result c.in_ok-more.more
      c.loop-op.tree
      c.try_op.new.tree c.loop-op-test.true c.op-item.is c.in_ok-more.ensures.tries c.in_ok-more.ensures.told
      ∙ c.loop-op.invariant.1,
)

pub returns-clause-tries : goal.returns-clause-tries
returns-clause-tries g c =
    tries-done c.args.seq c.args.at c.args.ops.now (drop c.loop-op.op-index c.args.ops.now) c.loop-op.skipped c.args.tree.now
    c.loop-op.tree c.loop-op.invariant.0 (drop_of_length-le c.args.ops.now c.loop-op-test.false)

pub returns-clause-told : goal.returns-clause-told
returns-clause-told g c =
    heard-all c.loop-op.listener c.args.seq c.args.at (drop c.loop-op.op-index c.args.ops.now) c.loop-op.tree
    (drop_of_length-le c.args.ops.now c.loop-op-test.false)
    ∙ c.loop-op.invariant.1
