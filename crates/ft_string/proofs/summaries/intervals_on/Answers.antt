use Rattle.std.proofs.Common.{◌∙◌, List, [], ap, subst, sym}
use Rattle.std.proofs.lemmas.List.{take_all}
use Rattle.ft_interval.specs.State.{IndexedState}
use Rattle.ft_tree_leaves.specs.declared.text.TextContent.{TextContent}
use Rattle.ft_sumdoc.specs.declared.summary.IntervalRec.{IntervalRec}
use Rattle.ft_tree.specs.State.{TreeState}
use Rattle.ft_string.specs.Loads.{HasIntervals}
use Rattle.ft_string.proofs.LoadedIntervals.{fits-here, interval-next, none-on}
use Rattle.ft_string.proofs.summaries.intervals_on.Goals as goal

pub loop-i-init : goal.loop-i-init
loop-i-init c = record {
  has = subst (λ (s : IndexedState). HasIntervals [] c.args.tree.now c.args.tree.now s.state) (sym c.new-intervals.ensures.value)
      (none-on c.args.tree.now c.requires.usable c.requires.bare);
  stands = c.new-intervals.ensures.stands c.args.tree.now;
}

pub loop-i-preserved : goal.loop-i-preserved
loop-i-preserved c = record {
  has = interval-next c.args.recs.now c.loop-i.i-index c.i-item.result c.args.tree.now c.loop-i.tree c.add_interval.new.tree
      c.loop-i.intervals.state c.add_interval.new.intervals.state
      c.requires.rise c.loop-i-test.true c.i-item.is c.loop-i.invariant.has c.in_ok-add_interval.ensures.adds;
  stands = c.in_ok-add_interval.ensures.stands;
}

pub add_interval-requires-clause-usable : goal.add_interval-requires-clause-usable
add_interval-requires-clause-usable c = c.loop-i.invariant.has.sound.tree

pub add_interval-requires-clause-floor : goal.add_interval-requires-clause-floor
add_interval-requires-clause-floor c = ap (λ (t : TreeState TextContent). t.floor) c.loop-i.invariant.has.leaves ∙ c.requires.floor

pub add_interval-requires-clause-stands : goal.add_interval-requires-clause-stands
add_interval-requires-clause-stands c = c.loop-i.invariant.stands

pub add_interval-requires-clause-fits : goal.add_interval-requires-clause-fits
add_interval-requires-clause-fits c =
    fits-here c.args.recs.now c.loop-i.i-index c.i-item.result c.args.tree.now c.loop-i.tree c.loop-i.invariant.has.leaves c.loop-i-test.true c.i-item.is c.requires.fit

pub returns-clause-has : goal.returns-clause-has
returns-clause-has c =
    subst (λ (recs : List IntervalRec). HasIntervals recs c.args.tree.now c.loop-i.tree c.loop-i.intervals.state)
    (take_all c.loop-i.i-index c.args.recs.now c.loop-i-test.false) c.loop-i.invariant.has

pub returns-clause-stands : goal.returns-clause-stands
returns-clause-stands c = c.loop-i.invariant.stands
