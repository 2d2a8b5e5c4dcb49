use Rattle.std.proofs.Common.{ℕ, List, sym, ◌∙◌, ap, arith, refl}
use Rattle.ft_base.specs.declared.elements.Element.{Element as ElementStamps}
use Rattle.ft_base.specs.Visibility.{is_of_stage}
use Rattle.ft_block.specs.Leaves.{change_leaf, times_leaf}
use Rattle.ft_tree_leaves.specs.declared.leaves.TreeLeaf.{TreeLeaf}
use Rattle.ft_tree_leaves.specs.declared.block_leaf.LeafChange.TheVariants.{Ack}
use Rattle.ft_tree_leaves.specs.BlockChanges.{changed_leaf}
use Rattle.ft_tree_leaves.specs.Edits.{is_marked_by}
use Rattle.ft_tree_leaves.specs.LeafChanges.{acked_leaf, with_leaf_stamps}
use Rattle.ft_tree_blocks.proofs.Acknowledged.{acked_stays, neither, on-ok}
use Rattle.ft_tree_blocks.proofs.WalkEdits.{change-here, change-nothing, change-twice, times-change}
use Rattle.ft_tree_blocks.proofs.acks.ack_at.Goals as goal

pub set_stamps-requires : goal.set_stamps-requires
set_stamps-requires g c =
    let xs = c.args.blocks.now.leaves in
    let done = c.in_ok-stamps.ensures.done in
    let changed = on-ok c.ack_changes-changed.result done.0 done.1 c.ack_changes-changed.ensures.ok in
    let f : TreeLeaf g.row.C.Denot → TreeLeaf g.row.C.Denot = λ x. changed_leaf g.C.Content.stamped x (Ack c.args.stage c.args.seq c.args.conn) in
    record {
      usable = on-ok c.ack_changes-changed.result done.0 done.1 c.ack_changes-changed.ensures.usable;
      live = omega (
        arith,
        ap (λ (zs : List (ℕ × TreeLeaf g.row.C.Denot)). times_leaf zs c.args.id) changed,
        times-change f xs c.args.id c.args.id,
        c.requires.live,
      );
    }

pub returns-then-not-is_touched_by-clause-leaves : goal.returns-then-not-is_touched_by-clause-leaves
returns-then-not-is_touched_by-clause-leaves g c =
    let v = c.leaf-leaf.result.now in
    let k = c.args.stage in
    let n = neither (is_of_stage k v.stamps.ins) (is_marked_by k v) (sym c.is_touched_by.ensures ∙ c.if-not-is_touched_by.true) in
    sym (change-nothing (acked_leaf g.C.Content.stamped k c.args.seq c.args.conn) c.args.blocks.now.leaves c.args.id v c.first-first.ensures.once c.leaf-leaf.ensures
    (acked_stays g.C.Content.stamped k c.args.seq c.args.conn v n.0 n.1))

pub returns-clause-leaves : goal.returns-clause-leaves
returns-clause-leaves g c =
    let xs = c.args.blocks.now.leaves in
    let id = c.args.id in
    let v = c.leaf-leaf.result.now in
    let done = c.in_ok-stamps.ensures.done in
    let changed = on-ok c.ack_changes-changed.result done.0 done.1 c.ack_changes-changed.ensures.ok in
    let e = c.in_ok-stamps.stamps in
    let f : TreeLeaf g.row.C.Denot → TreeLeaf g.row.C.Denot = λ x. changed_leaf g.C.Content.stamped x (Ack c.args.stage c.args.seq c.args.conn) in
    let h : TreeLeaf g.row.C.Denot → TreeLeaf g.row.C.Denot = with_leaf_stamps (λ s. e) in
    c.in_ok-set_stamps.ensures.ok ∙ ap (λ (zs : List (ℕ × TreeLeaf g.row.C.Denot)). change_leaf h zs id) changed ∙ change-twice h f xs id
    ∙ change-here (λ x. h (f x)) (acked_leaf g.C.Content.stamped c.args.stage c.args.seq c.args.conn) xs id v c.first-first.ensures.once c.leaf-leaf.ensures
    (ap (λ (s : ElementStamps). with_leaf_stamps (λ t. s) (f v)) (c.in_ok-stamps.ensures.value ∙ c.in_ok-e.ensures))

pub first-first-requires : goal.first-first-requires
first-first-requires g c = c.requires.usable

pub leaf-leaf-requires-clause-usable : goal.leaf-leaf-requires-clause-usable
leaf-leaf-requires-clause-usable g c = c.requires.usable

pub leaf-leaf-requires-clause-live : goal.leaf-leaf-requires-clause-live
leaf-leaf-requires-clause-live g c = c.requires.live

pub ack_changes-changed-requires-clause-usable : goal.ack_changes-changed-requires-clause-usable
ack_changes-changed-requires-clause-usable g c = c.requires.usable

pub ack_changes-changed-requires-clause-lowest : goal.ack_changes-changed-requires-clause-lowest
ack_changes-changed-requires-clause-lowest g c = c.requires.lowest

pub returns-then-not-is_touched_by-clause-usable : goal.returns-then-not-is_touched_by-clause-usable
returns-then-not-is_touched_by-clause-usable g c = c.requires.usable

pub returns-then-not-is_touched_by-clause-floor : goal.returns-then-not-is_touched_by-clause-floor
returns-then-not-is_touched_by-clause-floor g c = refl

pub returns-clause-usable : goal.returns-clause-usable
returns-clause-usable g c = c.in_ok-set_stamps.ensures.usable

pub returns-in_err-e-clause-floor : goal.returns-in_err-e-clause-floor
returns-in_err-e-clause-floor g c = refl

pub returns-in_err-stamps-clause-floor : goal.returns-in_err-stamps-clause-floor
returns-in_err-stamps-clause-floor g c = c.ack_changes-changed.ensures.floor
