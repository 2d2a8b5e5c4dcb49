use Rattle.ft_client.proofs.GivenEdits.{all-given, next-given, none-given, up-to-next}
use Rattle.ft_client.proofs.own.TreeOwn.give_edit.Goals as goal

pub loop-i-init : goal.loop-i-init
loop-i-init c = none-given c.args.self.now c.args.count

pub give_more-requires : goal.give_more-requires
give_more-requires c = record {
  known = next-given c.args.self.now c.loop-i.self c.args.count c.loop-i._i c.loop-i.again c.loop-i-test.true c.loop-i.invariant c.ranges.count.fits c.requires.known;
}

pub loop-i-preserved : goal.loop-i-preserved
loop-i-preserved c =
    up-to-next c.args.self.now c.loop-i.self c.args.count c.loop-i._i c.loop-i.again c.loop-i-test.true c.loop-i.invariant
    c.give_more.new.self c.in_ok-again.again c.in_ok-again.ensures

pub returns : goal.returns
returns c = all-given c.args.self.now c.loop-i.self c.args.count c.loop-i._i c.loop-i.again c.loop-i-test.false c.loop-i.invariant
