use Rattle.std.proofs.Common.{subst, arith}
use Rattle.ft_partial.specs.Elements.{IsFirst}
use Rattle.ft_partial.proofs.ItemLemmas.{first_pending, first_sequenced, first_kept, number-none}
use Rattle.ft_partial.proofs.items.earlier.Goals as goal

pub returns-in_default : goal.returns-in_default
returns-in_default c = λ dels before. first_pending dels c.args.stamp.now c.in_default.field-0 c.args.first.now c.in_default.is before

pub returns-in-None : goal.returns-in-None
returns-in-None c = λ dels before.
    let none = number-none dels (subst (IsFirst dels) c.in-None.is before) in
    first_sequenced dels c.args.stamp.now c.in-Acked.seq c.in-Acked.conn c.in-Acked.is (omega (arith, none))

pub returns-in-Some : goal.returns-in-Some
returns-in-Some c = λ dels before.
    first_kept dels c.args.stamp.now c.in-Acked.seq c.in-Acked.conn c.in-Some.first c.in-Acked.is c.if-first-seq.true (subst (IsFirst dels) c.in-Some.is before)

pub returns-in-Some-2 : goal.returns-in-Some-2
returns-in-Some-2 c = λ dels before.
    let is = subst (IsFirst dels) c.in-Some.is before in
    first_sequenced dels c.args.stamp.now c.in-Acked.seq c.in-Acked.conn c.in-Acked.is (omega (arith, c.if-first-seq.false, is.0))
