use Rattle.std.proofs.Common.{◌≡◌, ◌+◌, ◌∙◌}
use Rattle.ft_op.specs.WellFormed.{IsWellFormedCell}
use Rattle.ft_matrix.specs.Applied.{skips}
use Rattle.ft_matrix.proofs.AppliedSteps.{all-done, all-rest, one-more, skipped-none, skipped-one}
use Rattle.ft_matrix.proofs.ToldUnits.{hears-all, hears-next}
use Rattle.ft_matrix.proofs.grid.Grid.apply_all.Goals as goal
use Rattle.ft_matrix.proofs.grid.Grid.apply_all.Goals.{then-not-branch+in_ok-skipped, else-not-branch}

pub loop-op-preserved : goal.loop-op-preserved
loop-op-preserved g c =
    let n : c.if-not-branch.skipped ≡ c.loop-op.skipped + skips c.in_ok-apply.field-0 = elim c.if-not-branch.branch [
      | then-not-branch+in_ok-skipped w ↦ skipped-one c.in_ok-apply.field-0 c.loop-op.skipped _ c.if-not-branch.skipped w.if-not-branch.true w.in_ok-skipped.ensures w.skipped-is
      | else-not-branch w ↦ skipped-none c.in_ok-apply.field-0 c.loop-op.skipped c.if-not-branch.skipped w.if-not-branch.false w.skipped-is
    ] in
    record {
      sound = c.in_ok-apply.ensures.sound;
      floor = c.in_ok-apply.ensures.floor ∙ c.loop-op.invariant.floor;
      formed = (all-rest IsWellFormedCell c.args.ops.now c.loop-op.op-index c.op-item.result c.loop-op-test.true c.op-item.is c.loop-op.invariant.formed).1;
      applied = λ last doc stages h.
          one-more last c.args.seq c.args.at.c c.args.at.r c.loop-op.self c.apply.new.self c.args.ops.now c.loop-op.op-index c.op-item.result doc stages c.loop-op.skipped
          c.if-not-branch.skipped (skips c.in_ok-apply.field-0) n c.loop-op-test.true c.op-item.is
          (λ d k. c.in_ok-apply.ensures.applied last d stages k) (c.loop-op.invariant.applied last doc stages h);
      told = λ last doc stages fits h to.
          hears-next last c.args.seq c.args.at c.loop-op.self c.apply.new.self c.args.listener.now c.loop-op.listener c.tell_op.new.listener
          c.args.ops.now
          c.loop-op.op-index c.op-item.result doc stages (skips c.in_ok-apply.field-0) fits c.loop-op-test.true c.op-item.is c.in_ok-tell_op.ensures
          (λ d k. c.in_ok-apply.ensures.applied last d stages k) (c.loop-op.invariant.told last doc stages fits h to);
    }

pub returns-clause-told : goal.returns-clause-told
returns-clause-told g c = λ last doc stages fits h to.
    hears-all last c.args.seq c.args.at c.loop-op.self c.args.listener.now c.loop-op.listener c.args.ops.now c.loop-op.op-index doc stages
    c.loop-op-test.false
    (c.loop-op.invariant.told last doc stages fits h to)

pub returns-clause-applied : goal.returns-clause-applied
returns-clause-applied g c = λ last doc stages h.
    all-done last c.args.seq c.args.at.c c.args.at.r c.loop-op.self c.args.ops.now c.loop-op.op-index doc stages c.loop-op.skipped c.loop-op-test.false
    (c.loop-op.invariant.applied last doc stages h)
