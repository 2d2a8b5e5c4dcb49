use Rattle.std.proofs.Common.{ℕ, List, Option, IsSomeAnd, subst, sym, ◌∙◌, ap, arith}
use Rattle.std.specs.Bool.{⊤}
use Rattle.ft_base.specs.declared.elements.Element.{Element as ElementStamps}
use Rattle.ft_block.specs.Leaves.{change_leaf, times_leaf}
use Rattle.ft_tree_leaves.specs.declared.leaves.TreeLeaf.{TreeLeaf}
use Rattle.ft_tree_leaves.specs.Edits.{sequenced_leaf}
use Rattle.ft_tree_leaves.specs.Elements.{sequenced_overlay}
use Rattle.ft_tree_leaves.specs.LeafChanges.{with_leaf_overlay, with_leaf_stamps}
use Rattle.ft_tree_blocks.proofs.WalkEdits.{change-here, change-twice, times-change}
use Rattle.ft_tree_steps.proofs.unmarks.unmark_all_at.Goals as goal

pub change-requires : goal.change-requires
change-requires g c = record {
  usable = c.requires.usable;
  can = subst (λ (o : Option (TreeLeaf g.row.C.Denot)). IsSomeAnd o (λ v. ⊤)) (sym c.leaf.ensures) tt;
}

pub set_stamps-requires : goal.set_stamps-requires
set_stamps-requires g c =
    let xs = c.args.blocks.now.leaves in
    let f : TreeLeaf g.row.C.Denot → TreeLeaf g.row.C.Denot = with_leaf_overlay sequenced_overlay in
    record {
      usable = c.in_ok-change.ensures.usable;
      live = omega (
        arith,
        ap (λ (zs : List (ℕ × TreeLeaf g.row.C.Denot)). times_leaf zs c.args.id) c.in_ok-change.ensures.ok,
        times-change f xs c.args.id c.args.id,
        c.requires.live,
      );
    }

pub returns-clause-leaves : goal.returns-clause-leaves
returns-clause-leaves g c =
    let xs = c.args.blocks.now.leaves in
    let id = c.args.id in
    let v = c.leaf.result.now in
    let e = c.in_ok-e.e in
    let f : TreeLeaf g.row.C.Denot → TreeLeaf g.row.C.Denot = with_leaf_overlay sequenced_overlay in
    let h : TreeLeaf g.row.C.Denot → TreeLeaf g.row.C.Denot = with_leaf_stamps (λ s. e) in
    c.in_ok-set_stamps.ensures.ok ∙ ap (λ (zs : List (ℕ × TreeLeaf g.row.C.Denot)). change_leaf h zs id) c.in_ok-change.ensures.ok ∙ change-twice h f xs id
    ∙ change-here (λ x. h (f x)) sequenced_leaf xs id v c.first-first.ensures.once c.leaf.ensures
    (ap (λ (s : ElementStamps). with_leaf_stamps (λ t. s) (f v)) c.in_ok-e.ensures)

pub returns-clause-refs : goal.returns-clause-refs
returns-clause-refs g c = λ r. c.in_ok-set_stamps.ensures.refs r ∙ c.in_ok-change.ensures.refs r
