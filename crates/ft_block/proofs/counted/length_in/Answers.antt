use Rattle.std.proofs.Common.{ℕ, Option, subst, sym, ap, ◌∙◌}
use Rattle.ft_arena.specs.Forest.{entry}
use Rattle.ft_shape.specs.Tree.{IsTree, length_of, length_of_entry, total}
use Rattle.ft_shape.proofs.KindLemmas.{block_live}
use Rattle.ft_shape.proofs.Levels.{total_leaves}
use Rattle.ft_block.specs.declared.leaves.View.{View}
use Rattle.ft_block.specs.Inside.{IsRooted}
use Rattle.ft_block.specs.Tree.{by_view}
use Rattle.ft_block.proofs.KeptLemmas.{node_from}
use Rattle.ft_block.proofs.counted.length_in.Goals as goal

pub kept_view-view-requires : goal.kept_view-view-requires
kept_view-view-requires g c = c.requires.floor

pub read-requires : goal.read-requires
read-requires g c =
    let tree : IsTree c.args.arena.now c.in-Some.root = subst (λ (o : Option ℕ). IsRooted c.args.arena.now o) c.in-Some.is c.requires.sound.rooted in
    block_live (entry c.args.arena.now c.in-Some.root) tree.shape.root_is_block

pub length_at-requires-clause-kept : goal.length_at-requires-clause-kept
length_at-requires-clause-kept g c = c.kept_view-view.ensures.kept

pub length_at-requires-clause-node : goal.length_at-requires-clause-node
length_at-requires-clause-node g c = node_from c.args.floor c.args.arena.now c.in-Some.root c.read.result.now _ c.requires.sound.floors
    c.read.ensures.node

pub returns : goal.returns
returns g c =
    let tree : IsTree c.args.arena.now c.in-Some.root = subst (λ (o : Option ℕ). IsRooted c.args.arena.now o) c.in-Some.is c.requires.sound.rooted in
    let view = c.kept_view-view.result in
    let sums = c.requires.sound.sums c.kept_view-view.result c.kept_view-view.ensures.kept in
    c.length_at.ensures ∙ sym (ap (length_of_entry (by_view g.L.Leaf.size g.L.Leaf.element view)) c.read.ensures.node)
    ∙ sym (total_leaves (by_view g.L.Leaf.size g.L.Leaf.element view) c.args.arena.now c.in-Some.root tree sums)
    ∙ ap (λ (v : View). total (length_of (by_view g.L.Leaf.size g.L.Leaf.element v) c.args.arena.now) c.args.arena.now.leaves)
    c.kept_view-view.ensures.value
