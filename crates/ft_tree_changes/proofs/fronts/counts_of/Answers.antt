use Rattle.std.proofs.Common.{Some, sym, ◌∙◌, ap, length}
use Rattle.ft_block.specs.Leaves.{sees_in, value_at}
use Rattle.ft_tree_leaves.specs.declared.leaves.TreeLeaf.{TreeLeaf}
use Rattle.ft_tree_leaves.specs.LeafLists.{leaf_length}
use Rattle.ft_tree_changes.proofs.RangeWalks.{read_if}
use Rattle.ft_tree_changes.proofs.fronts.counts_of.Goals as goal

pub returns-clause-seen : goal.returns-clause-seen
returns-clause-seen g c =
    read_if (λ (x : TreeLeaf g.row.C.Denot). sees_in c.args.view x.stamps) (λ x. length (g.C.Content.units x.content))
    (value_at c.args.tree.now.leaves c.args.id) _ _
    c.leaf_is_seen-is_seen.ensures c.leaf_len-len.ensures.value
    ∙ ap Some (sym c.count_if-seen.ensures)

pub returns-clause-shown : goal.returns-clause-shown
returns-clause-shown g c =
    read_if (λ (x : TreeLeaf g.row.C.Denot). sees_in c.args.shown x.stamps) (λ x. length (g.C.Content.units x.content))
    (value_at c.args.tree.now.leaves c.args.id) _ _
    c.leaf_is_seen-is_shown.ensures c.leaf_len-len.ensures.value
    ∙ ap Some (sym c.count_if-shown.ensures)

pub returns-clause-both : goal.returns-clause-both
returns-clause-both g c =
    let shown = read_if (λ (x : TreeLeaf g.row.C.Denot). sees_in c.args.shown x.stamps) (λ x. length (g.C.Content.units x.content))
    (value_at c.args.tree.now.leaves c.args.id) _ _
    c.leaf_is_seen-is_shown.ensures c.leaf_len-len.ensures.value
    ∙ ap Some (sym c.count_if-shown.ensures) in
    read_if (λ (x : TreeLeaf g.row.C.Denot). sees_in c.args.view x.stamps) (leaf_length g.C.Content.units c.args.shown)
    (value_at c.args.tree.now.leaves c.args.id) _ _
    c.leaf_is_seen-is_seen.ensures shown
    ∙ ap Some (sym c.count_if-both.ensures)
