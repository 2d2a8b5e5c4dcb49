use Rattle.std.proofs.Common.{◌≡◌, IsSomeAnd, [], Option, refl, subst, sym, ◌∙◌, ap}
use Rattle.std.proofs.lemmas.Result.{on_ok_weaker}
use Rattle.ft_base.specs.declared.elements.Element.{Element as ElementStamps}
use Rattle.ft_base.specs.declared.stamps.Stamp.TheVariants.{Acked}
use Rattle.ft_block.specs.Leaves.{change_leaf}
use Rattle.ft_block.proofs.LeafListLemmas.{value_at_in}
use Rattle.ft_tree_leaves.specs.declared.leaves.TreeLeaf.{TreeLeaf}
use Rattle.ft_tree_leaves.specs.LeafChanges.{with_leaf_stamps}
use Rattle.ft_tree_blocks.proofs.WalkEdits.{change-nothing}
use Rattle.ft_tree_steps.proofs.joins.make_universal.Goals as goal

pub leaf-requires-clause-live : goal.leaf-requires-clause-live
leaf-requires-clause-live g c = value_at_in c.args.blocks.now.leaves c.args.id (λ v. v.stamps.dels ≡ []) c.requires.live

pub set_stamps-requires-clause-live : goal.set_stamps-requires-clause-live
set_stamps-requires-clause-live g c = value_at_in c.args.blocks.now.leaves c.args.id (λ v. v.stamps.dels ≡ []) c.requires.live

pub returns-then-is_universal-clause-ok : goal.returns-then-is_universal-clause-ok
returns-then-is_universal-clause-ok g c =
    let xs = c.args.blocks.now.leaves in
    let v = c.leaf.result.now in
    let f : TreeLeaf g.row.C.Denot → TreeLeaf g.row.C.Denot = with_leaf_stamps (λ s. record { ins = Acked 0 0; dels = [] }) in
    let none = subst (λ (o : Option (TreeLeaf g.row.C.Denot)). IsSomeAnd o (λ w. w.stamps.dels ≡ [])) c.leaf.ensures c.requires.live in
    let ins = c.is_universal.ensures.only c.if-is_universal.true in
    let same : f v ≡ v = λ i. record v { stamps = record { ins = sym ins i; dels = sym none i } } in
    sym (change-nothing f xs c.args.id v c.first-first.ensures.once c.leaf.ensures same)

pub returns-then-is_universal-clause-refs : goal.returns-then-is_universal-clause-refs
returns-then-is_universal-clause-refs g c = λ r. refl

pub returns-clause-ok : goal.returns-clause-ok
returns-clause-ok g c =
    on_ok_weaker c.set_stamps.result
    (λ e. e ∙ ap (λ (s : ElementStamps). change_leaf (with_leaf_stamps (λ t. s)) c.args.blocks.now.leaves c.args.id) c.universal.ensures)
    c.set_stamps.ensures.ok
