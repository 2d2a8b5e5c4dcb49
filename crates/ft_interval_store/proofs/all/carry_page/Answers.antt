use Rattle.std.proofs.Common.{◌<◌, ◌≤◌, length, refl, arith}
use Rattle.ft_interval_store.specs.Standing.{HasPlaces, IsCarriedInterval}
use Rattle.ft_interval_store.proofs.WrittenLists.{all-written, next-holds, next-written}
use Rattle.ft_interval_store.proofs.all.carry_page.Goals as goal

pub loop-i-init : goal.loop-i-init
loop-i-init c = record { rest = refl; done = tt }

pub carry-requires-clause-on_leaf : goal.carry-requires-clause-on_leaf
carry-requires-clause-on_leaf c =
    let tree = c.args.tree.now in
    let within : c.loop-i.i-index < length c.loop-i.page = omega (arith, c.loop-i-test.true, c.loop-i.auto.page) in
    next-holds (IsCarriedInterval tree c.args.from c.args.to) c.loop-i.i-index c.args.page.now c.loop-i.page c.loop-i.invariant (HasPlaces tree)
    c.i-item.result within c.requires.on_leaf

pub loop-i-preserved : goal.loop-i-preserved
loop-i-preserved c =
    let within : c.loop-i.i-index < length c.loop-i.page = omega (arith, c.loop-i-test.true, c.loop-i.auto.page) in
    next-written (IsCarriedInterval c.args.tree.now c.args.from c.args.to) c.loop-i.i-index c.args.page.now c.loop-i.page c.loop-i.invariant
    c.i-item.result c.carry.new.i within c.carry.ensures

pub returns : goal.returns
returns c =
    let past : length c.loop-i.page ≤ c.loop-i.i-index = omega (arith, c.loop-i-test.false, c.loop-i.auto.page) in
    all-written (IsCarriedInterval c.args.tree.now c.args.from c.args.to) c.loop-i.i-index c.args.page.now c.loop-i.page c.loop-i.invariant
    c.loop-i-test.false past
