use Rattle.std.proofs.Common.{ap, arith}
use Rattle.ft_perm.specs.HandleLaws.{length-numbers_from}
use Rattle.ft_perm.proofs.handles.HandlesContent.split.Goals as goal

pub overflow_add-rear : goal.overflow_add-rear
overflow_add-rear c =
    let count = ap (λ r. r.count) c.self.view_is in
    let size = length-numbers_from c.args.self.now.first c.args.self.now.count in
    omega (arith, count, size, c.requires.high, c.self.invariant.1)

pub overflow_sub-rear : goal.overflow_sub-rear
overflow_sub-rear c =
    let count = ap (λ r. r.count) c.self.view_is in
    let size = length-numbers_from c.args.self.now.first c.args.self.now.count in
    omega (arith, count, size, c.requires.high)

pub invariant_of-rear : goal.invariant_of-rear
invariant_of-rear c =
    let count = ap (λ r. r.count) c.self.view_is in
    let size = length-numbers_from c.args.self.now.first c.args.self.now.count in
    (omega (arith, count, size, c.requires.high), omega (arith, count, size, c.requires.high, c.self.invariant.1))

pub invariant_of-self : goal.invariant_of-self
invariant_of-self c =
    let count = ap (λ r. r.count) c.self.view_is in
    let size = length-numbers_from c.args.self.now.first c.args.self.now.count in
    (c.requires.low, omega (arith, count, size, c.requires.high, c.self.invariant.1))
