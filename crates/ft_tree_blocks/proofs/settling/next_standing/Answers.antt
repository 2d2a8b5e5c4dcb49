use Rattle.std.proofs.Common.{Some, length, subst, sym, ◌∙◌, ap, arith}
use Rattle.ft_tree_leaves.specs.LeafLists.{elements}
use Rattle.ft_tree_leaves.specs.Settling.{first_from, stands}
use Rattle.ft_tree_blocks.specs.LeafPlaces.{stands_at}
use Rattle.ft_tree_blocks.specs.Skips.{Skips}
use Rattle.ft_tree_blocks.specs.Walks.{before_place, from_place}
use Rattle.ft_tree_blocks.proofs.CountedWalks.{walks_on}
use Rattle.ft_tree_blocks.proofs.SettledLeaves.{first_on}
use Rattle.ft_tree_blocks.proofs.SkippedLeaves.{first-found, first-on, skips-leaf, skips-on, skips-start}
use Rattle.ft_tree_blocks.proofs.settling.next_standing.Goals as goal

pub loop-at-init : goal.loop-at-init
loop-at-init g c = record {
  skips = skips-start g.C.Content.units g.C.Content.by c.args.test c.args.blocks.now.leaves c.args.from;
  live = c.requires.place;
}

pub returns-then-stands-clause-first : goal.returns-then-stands-clause-first
returns-then-stands-clause-first g c =
    let us = g.C.Content.units in
    let by = g.C.Content.by in
    let xs = c.args.blocks.now.leaves in
    let on = first_on us by c.args.test xs c.in-Some.id c.leaf-leaf.result.now c.first-first.ensures.once c.leaf-leaf.ensures c.loop-at.at
    c.in-Some.is
    (sym c.stands.ensures ∙ c.if-stands.true) (omega (arith, c.len-len.ensures.value, c.len-len.ensures.some)) in
    sym on ∙ first-on us by c.args.test xs c.args.from c.loop-at.at c.loop-at.invariant.skips

pub loop-at-preserved : goal.loop-at-preserved
loop-at-preserved g c =
    let us = g.C.Content.units in
    let by = g.C.Content.by in
    let xs = c.args.blocks.now.leaves in
    let v = c.leaf-leaf.result.now in
    let step = walks_on us by xs c.loop-at.at c.in-Some.id v c.next-at.result c.first-first.ensures.once c.in-Some.is c.leaf-leaf.ensures
    c.next-at.ensures in
    let leaf = skips-leaf us by c.args.test xs c.loop-at.at c.in-Some.id v c.next-at.result c.first-first.ensures.once c.in-Some.is
    c.leaf-leaf.ensures
    c.next-at.ensures (sym c.stands.ensures ∙ c.if-stands.false) in
    record {
      skips = skips-on us by c.args.test xs c.args.from c.loop-at.at c.next-at.result c.loop-at.invariant.skips leaf;
      live = step.live;
    }

pub loop-at-smaller : goal.loop-at-smaller
loop-at-smaller g c =
    let us = g.C.Content.units in
    let by = g.C.Content.by in
    let xs = c.args.blocks.now.leaves in
    (walks_on us by xs c.loop-at.at c.in-Some.id c.leaf-leaf.result.now c.next-at.result c.first-first.ensures.once c.in-Some.is c.leaf-leaf.ensures
    c.next-at.ensures).fewer

pub returns-in-Some-sums_for-clause-skips : goal.returns-in-Some-sums_for-clause-skips
returns-in-Some-sums_for-clause-skips g c =
    let us = g.C.Content.units in
    let by = g.C.Content.by in
    let xs = c.args.blocks.now.leaves in
    let to = c.next_seen.result in
    let id : Skips us by (stands c.args.test) xs (Some c.in-Some.id) to =
    subst (λ test. Skips us by (stands test) xs (Some c.in-Some.id) to) (sym c.in-Some-sums_for.ensures.view) c.next_seen.ensures.skips in
    skips-on us by c.args.test xs c.args.from c.loop-at.at to c.loop-at.invariant.skips
    (subst (λ at. Skips us by (stands c.args.test) xs at to) (sym c.in-Some.is) id)

pub returns-in-Some-sums_for-clause-first : goal.returns-in-Some-sums_for-clause-first
returns-in-Some-sums_for-clause-first g c =
    let us = g.C.Content.units in
    let by = g.C.Content.by in
    let xs = c.args.blocks.now.leaves in
    let to = c.next_seen.result in
    let view = c.in-Some-sums_for.view in
    let id : Skips us by (stands c.args.test) xs (Some c.in-Some.id) to =
    subst (λ test. Skips us by (stands test) xs (Some c.in-Some.id) to) (sym c.in-Some-sums_for.ensures.view) c.next_seen.ensures.skips in
    let whole = skips-on us by c.args.test xs c.args.from c.loop-at.at to c.loop-at.invariant.skips
    (subst (λ at. Skips us by (stands c.args.test) xs at to) (sym c.in-Some.is) id) in
    first-found us by c.args.test xs to c.first-first.ensures.once c.first-first.ensures.some c.next_seen.ensures.live
    (λ j e. ap (λ test. stands_at test xs j) c.in-Some-sums_for.ensures.view ∙ c.next_seen.ensures.stands j e)
    ∙ first-on us by c.args.test xs c.args.from to whole

pub returns-clause-first : goal.returns-clause-first
returns-clause-first g c =
    let us = g.C.Content.units in
    let by = g.C.Content.by in
    let xs = c.args.blocks.now.leaves in
    sym (ap (λ o. first_from (stands c.args.test) (length (elements us by (before_place xs o))) (elements us by (from_place xs o))) c.in_default.is)
    ∙ first-on us by c.args.test xs c.args.from c.loop-at.at c.loop-at.invariant.skips
