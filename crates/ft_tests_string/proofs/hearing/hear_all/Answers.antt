use Rattle.std.proofs.Common.{subst}
use Rattle.std.specs.List.{AllByRecursion}
use Rattle.ft_op.specs.WellFormed.{IsWellFormedBase}
use Rattle.ft_string.proofs.Chains.{ahead}
use Rattle.ft_tests_string.proofs.hearing.hear_all.Goals as goal

pub loop-op-init : goal.loop-op-init
loop-op-init g c = record { usable = c.requires.usable; carries = λ d k h. h; formed = c.requires.formed }

pub hear_op-requires-clause-formed : goal.hear_op-requires-clause-formed
hear_op-requires-clause-formed g c =
    (subst (AllByRecursion IsWellFormedBase) (ahead c.args.ops.now c.loop-op.op-index c.op-item.result c.loop-op-test.true c.op-item.is)
    c.loop-op.invariant.formed).0

pub hear_op-requires-clause-usable : goal.hear_op-requires-clause-usable
hear_op-requires-clause-usable g c = c.loop-op.invariant.usable

pub loop-op-preserved : goal.loop-op-preserved
loop-op-preserved g c = record {
  usable = c.in_ok-is_made.ensures.usable;
  carries = λ d k h. c.in_ok-is_made.ensures.carries d k (c.loop-op.invariant.carries d k h);
  formed = (subst (AllByRecursion IsWellFormedBase) (ahead c.args.ops.now c.loop-op.op-index c.op-item.result c.loop-op-test.true c.op-item.is)
      c.loop-op.invariant.formed).1;
}

pub returns : goal.returns
returns g c = c.loop-op.invariant.carries
