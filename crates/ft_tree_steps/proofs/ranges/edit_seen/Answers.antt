use Rattle.std.proofs.Common.{◌≡◌, cond, refl, sym, ◌∙◌, ap}
use Rattle.std.proofs.lemmas.Result.{on_ok_weaker}
use Rattle.ft_base.specs.declared.elements.Element.{Element as ElementStamps}
use Rattle.ft_tree_steps.specs.declared.ranges.RangeEdit.{RangeEdit}
use Rattle.ft_tree_steps.specs.declared.ranges.RangeEdit.TheVariants.{Change}
use Rattle.ft_tree_leaves.specs.declared.leaves.TreeLeaf.{TreeLeaf}
use Rattle.ft_tree_steps.specs.RangeEdits.{edited_leaf}
use Rattle.ft_tree_leaves.specs.LeafChanges.{changed_in, with_leaf_stamps}
use Rattle.ft_tree_blocks.proofs.WalkEdits.{change-here, change-nothing}
use Rattle.ft_tree_steps.proofs.ranges.edit_seen.Goals as goal

pub returns-then-not-is_seen_in-clause-leaves : goal.returns-then-not-is_seen_in-clause-leaves
returns-then-not-is_seen_in-clause-leaves g c =
    let v = c.leaf-leaf.result.now in
    let f : TreeLeaf g.row.C.Denot → TreeLeaf g.row.C.Denot = edited_leaf g.C.Content.stamped c.args.edit.now in
    sym (change-nothing (changed_in c.args.view f) c.args.blocks.now.leaves c.args.id v c.first-first.ensures.once c.leaf-leaf.ensures
    (ap (λ b. cond b (f v) v) (sym c.is_seen_in.ensures ∙ c.if-not-is_seen_in.true)))

pub returns-in_ok-e-in-Remove-clause-leaves : goal.returns-in_ok-e-in-Remove-clause-leaves
returns-in_ok-e-in-Remove-clause-leaves g c =
    let v = c.leaf-leaf.result.now in
    let stamped = g.C.Content.stamped in
    let f : TreeLeaf g.row.C.Denot → TreeLeaf g.row.C.Denot = edited_leaf stamped c.args.edit.now in
    let e = c.in_ok-e-in-Remove.e in
    let same : with_leaf_stamps (λ s. e) v ≡ changed_in c.args.view f v =
    ap (λ (s : ElementStamps). with_leaf_stamps (λ t. s) v) c.in_ok-e-in-Remove.ensures
    ∙ ap (λ (x : RangeEdit). edited_leaf stamped x v) (sym c.in-Remove.is)
    ∙ ap (λ b. cond b (f v) v) (sym (sym c.is_seen_in.ensures ∙ c.if-not-is_seen_in.false)) in
    on_ok_weaker c.set_stamps.result
    (λ p. p ∙ change-here (with_leaf_stamps (λ s. e)) (changed_in c.args.view f) c.args.blocks.now.leaves c.args.id v c.first-first.ensures.once c.leaf-leaf.ensures same)
    c.set_stamps.ensures.ok

pub returns-in-Change-clause-leaves : goal.returns-in-Change-clause-leaves
returns-in-Change-clause-leaves g c =
    let v = c.leaf-leaf.result.now in
    let stamped = g.C.Content.stamped in
    let f : TreeLeaf g.row.C.Denot → TreeLeaf g.row.C.Denot = edited_leaf stamped c.args.edit.now in
    let k : TreeLeaf g.row.C.Denot → TreeLeaf g.row.C.Denot = edited_leaf stamped (Change c.in-Change.c) in
    let same : k v ≡ changed_in c.args.view f v =
    ap (λ (x : RangeEdit). edited_leaf stamped x v) (sym c.in-Change.is)
    ∙ ap (λ b. cond b (f v) v) (sym (sym c.is_seen_in.ensures ∙ c.if-not-is_seen_in.false)) in
    on_ok_weaker c.change.result
    (λ p. p ∙ change-here k (changed_in c.args.view f) c.args.blocks.now.leaves c.args.id v c.first-first.ensures.once c.leaf-leaf.ensures same)
    c.change.ensures.ok

pub returns-then-not-is_seen_in-clause-refs : goal.returns-then-not-is_seen_in-clause-refs
returns-then-not-is_seen_in-clause-refs g c = λ r. refl
