use Rattle.std.proofs.Common.{◌<◌, ◌≤◌, length, refl, arith}
use Rattle.ft_tree_blocks.proofs.Walks.{stands}
use Rattle.ft_tree_steps.proofs.CutPlaces.{splits_here}
use Rattle.ft_tree_steps.proofs.RangeWalks.{cuts_seen_split, cuts_seen_whole}
use Rattle.ft_tree_steps.proofs.ranges.cut_seen.Goals as goal

pub returns-then-n-left-clause-cut : goal.returns-then-n-left-clause-cut
returns-then-n-left-clause-cut g c =
    cuts_seen_whole g.C.Content.units g.C.Content.by c.args.view c.args.left c.seen_len-n.result c.args.blocks.now.leaves c.args.id c.leaf.result.now
    c.leaf.ensures c.seen_len-n.ensures.seen c.if-n-left.true

pub returns-clause-cut : goal.returns-clause-cut
returns-clause-cut g c =
    let us = g.C.Content.units in
    let by = g.C.Content.by in
    let laws = g.met.C.Content in
    let xs = c.args.blocks.now.leaves in
    let v = c.leaf.result.now in
    let n = c.args.left in
    let new = c.in_ok-_rear._rear in
    let s = stands xs c.args.id v c.first-first.ensures.once c.leaf.ensures in
    let low : 1 ≤ n = c.requires.some in
    let less : n < length (us v.content) = omega (arith, c.seen_len-n.ensures.few, c.if-n-left.false) in
    cuts_seen_split us by c.args.view n xs c.split.new.self.leaves c.args.id new v _ (omega (arith, c.seen_len-n.ensures.seen, c.if-n-left.false)) refl
    (splits_here us by xs c.split.new.self.leaves c.args.id new v n (g.C.Content.front v.content n) (g.C.Content.rear v.content n) s (omega arith)
    (laws.front_units v.content n low less) (laws.front_by v.content n low less)
    (laws.rear_units v.content n low less) (laws.rear_by v.content n low less) _ _ refl refl c.in_ok-_rear.ensures.ok)

pub returns-then-n-left-clause-refs : goal.returns-then-n-left-clause-refs
returns-then-n-left-clause-refs g c = λ r. refl
