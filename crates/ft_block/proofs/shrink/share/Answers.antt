use Rattle.std.proofs.Common.{arith}
use Rattle.std.proofs.lemmas.Result.{IfOk-from_err}
use Rattle.ft_block.proofs.shrink.share.Goals as goal

pub count_of-requires : goal.count_of-requires
count_of-requires g c = c.requires.pair.front_block

pub count_of-requires-2 : goal.count_of-requires-2
count_of-requires-2 g c = c.requires.pair.rear_block

pub balance-requires-clause-forest : goal.balance-requires-clause-forest
balance-requires-clause-forest g c = c.requires.forest

pub balance-requires-clause-pair : goal.balance-requires-clause-pair
balance-requires-clause-pair g c = c.requires.pair

pub balance-requires-clause-floors : goal.balance-requires-clause-floors
balance-requires-clause-floors g c = c.requires.floors

pub balance-requires-clause-sums : goal.balance-requires-clause-sums
balance-requires-clause-sums g c = c.requires.sums

pub balance-requires-clause-fits : goal.balance-requires-clause-fits
balance-requires-clause-fits g c = c.requires.fits

pub balance-requires-clause-many : goal.balance-requires-clause-many
balance-requires-clause-many g c = omega (arith, c.count_of.ensures.value, c.count_of-2.ensures.value, c.if-many-gt8.true)

pub merge-requires-clause-forest : goal.merge-requires-clause-forest
merge-requires-clause-forest g c = c.requires.forest

pub merge-requires-clause-pair : goal.merge-requires-clause-pair
merge-requires-clause-pair g c = c.requires.pair

pub merge-requires-clause-place : goal.merge-requires-clause-place
merge-requires-clause-place g c = c.requires.place

pub merge-requires-clause-next : goal.merge-requires-clause-next
merge-requires-clause-next g c = c.requires.next

pub merge-requires-clause-many : goal.merge-requires-clause-many
merge-requires-clause-many g c = c.requires.many

pub merge-requires-clause-floors : goal.merge-requires-clause-floors
merge-requires-clause-floors g c = c.requires.floors

pub merge-requires-clause-sums : goal.merge-requires-clause-sums
merge-requires-clause-sums g c = c.requires.sums

pub merge-requires-clause-fits : goal.merge-requires-clause-fits
merge-requires-clause-fits g c = c.requires.fits

pub merge-requires-clause-few : goal.merge-requires-clause-few
merge-requires-clause-few g c = omega (arith, c.count_of.ensures.value, c.count_of-2.ensures.value, c.if-many-gt8.false)

pub returns-then-many-gt8-clause-shares : goal.returns-then-many-gt8-clause-shares
returns-then-many-gt8-clause-shares g c = c.in_ok-balance.ensures.shares

pub returns-then-many-gt8-clause-sums : goal.returns-then-many-gt8-clause-sums
returns-then-many-gt8-clause-sums g c = c.in_ok-balance.ensures.sums

pub returns-then-many-gt8-clause-floors : goal.returns-then-many-gt8-clause-floors
returns-then-many-gt8-clause-floors g c = c.in_ok-balance.ensures.floors

pub returns-then-many-gt8-clause-up_kids : goal.returns-then-many-gt8-clause-up_kids
returns-then-many-gt8-clause-up_kids g c = λ _. c.in_ok-balance.ensures.up_kids

pub returns-clause-shares : goal.returns-clause-shares
returns-clause-shares g c = c.in_ok-merge.ensures.shares

pub returns-clause-sums : goal.returns-clause-sums
returns-clause-sums g c = c.in_ok-merge.ensures.sums

pub returns-clause-floors : goal.returns-clause-floors
returns-clause-floors g c = c.in_ok-merge.ensures.floors

pub returns-clause-up_kids : goal.returns-clause-up_kids
returns-clause-up_kids g c = λ e. cc e

pub overflow_add-many : goal.overflow_add-many
overflow_add-many g c = omega (arith, c.count_of.ensures.few, c.count_of-2.ensures.few)

pub returns-in_err-balance : goal.returns-in_err-balance
returns-in_err-balance g c =
    let r = c.from_residual in
    record {
      shares = IfOk-from_err r.result _ r.ensures.0;
      up_kids = IfOk-from_err r.result _ r.ensures.0;
      sums = IfOk-from_err r.result _ r.ensures.0;
      floors = IfOk-from_err r.result _ r.ensures.0;
    }

pub returns-in_err-merge : goal.returns-in_err-merge
returns-in_err-merge g c =
    let r = c.from_residual-in_err-merge in
    record {
      shares = IfOk-from_err r.result _ r.ensures.0;
      up_kids = IfOk-from_err r.result _ r.ensures.0;
      sums = IfOk-from_err r.result _ r.ensures.0;
      floors = IfOk-from_err r.result _ r.ensures.0;
    }
