use Rattle.std.proofs.Common.{ℕ, ◌≤◌, ◌<◌, Option, Some, None, length, refl, subst, sym, ◌∙◌, arith}
use Rattle.ft_block.proofs.LeafListLemmas.{value_at_in}
use Rattle.ft_tree_leaves.specs.declared.leaves.TreeLeaf.{TreeLeaf}
use Rattle.ft_tree_steps.specs.LeafSteps.{CutsBehind, IsInLeaf, held_place}
use Rattle.ft_tree_blocks.proofs.Walks.{stands}
use Rattle.ft_tree_steps.proofs.FoundPlaces.{held_here}
use Rattle.ft_tree_steps.proofs.CutPlaces.{cuts_none, cuts_split, cuts_whole, splits_here}
use Rattle.ft_tree_steps.proofs.cuts.cut_at.Goals as goal

pub returns-in_default-clause-cut : goal.returns-in_default-clause-cut
returns-in_default-clause-cut g c =
    let xs = c.args.blocks.now.leaves in
    subst (λ (o : Option ℕ). CutsBehind g.C.Content.units g.C.Content.by (held_place g.C.Content.units g.C.Content.by xs o c.args.found.now.offset) xs xs None)
    (sym c.in_default.is) (cuts_none g.C.Content.units g.C.Content.by xs)

pub leaf-requires-clause-live : goal.leaf-requires-clause-live
leaf-requires-clause-live g c =
    let us = g.C.Content.units in
    let xs = c.args.blocks.now.leaves in
    let n = c.args.found.now.offset in
    let held : IsInLeaf us xs (Some c.in-Some.id) n = subst (λ (o : Option ℕ). IsInLeaf us xs o n) c.in-Some.is c.requires.held in
    value_at_in xs c.in-Some.id (λ (v : TreeLeaf g.row.C.Denot). (1 ≤ n) × (n ≤ length (us v.content))) held

pub returns-then-len-found-clause-cut : goal.returns-then-len-found-clause-cut
returns-then-len-found-clause-cut g c =
    let us = g.C.Content.units in
    let by = g.C.Content.by in
    let xs = c.args.blocks.now.leaves in
    let n = c.args.found.now.offset in
    subst (λ (o : Option ℕ). CutsBehind us by (held_place us by xs o n) xs xs (Some c.in-Some.id)) (sym c.in-Some.is)
    (cuts_whole us by xs c.in-Some.id c.leaf.result.now n c.first-first.ensures.once c.leaf.ensures (sym c.if-len-found.true ∙ c.len.ensures.value))

pub returns-clause-cut : goal.returns-clause-cut
returns-clause-cut g c =
    let us = g.C.Content.units in
    let by = g.C.Content.by in
    let xs = c.args.blocks.now.leaves in
    let now = c.split.new.self.leaves in
    let id = c.in-Some.id in
    let n = c.args.found.now.offset in
    let v = c.leaf.result.now in
    let held : IsInLeaf us xs (Some id) n = subst (λ (o : Option ℕ). IsInLeaf us xs o n) c.in-Some.is c.requires.held in
    let here = held_here us by xs id n v held c.leaf.ensures in
    let less : n < length (us v.content) = omega (arith, here.1, c.if-len-found.false, c.len.ensures.value) in
    let s = stands xs id v c.first-first.ensures.once c.leaf.ensures in
    let front = g.C.Content.front v.content n in
    let rear = g.C.Content.rear v.content n in
    subst (λ (o : Option ℕ). CutsBehind us by (held_place us by xs o n) xs now (Some id)) (sym c.in-Some.is)
    (cuts_split us by n xs now id c.in_ok-_rear._rear _ c.in_ok-_rear.ensures.fresh
    (splits_here us by xs now id c.in_ok-_rear._rear v n front rear s (omega arith)
    (g.met.C.Content.front_units v.content n here.0 less) (g.met.C.Content.front_by v.content n here.0 less)
    (g.met.C.Content.rear_units v.content n here.0 less) (g.met.C.Content.rear_by v.content n here.0 less) _ _ refl refl c.in_ok-_rear.ensures.ok))

pub returns-in_default-clause-refs : goal.returns-in_default-clause-refs
returns-in_default-clause-refs g c = λ r. refl

pub returns-then-len-found-clause-refs : goal.returns-then-len-found-clause-refs
returns-then-len-found-clause-refs g c = λ r. refl
