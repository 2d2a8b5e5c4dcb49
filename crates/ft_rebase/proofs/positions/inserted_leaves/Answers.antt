use Rattle.std.proofs.Common.{◌++◌, filter, ap, sym, ◌∙◌, append-nil}
use Rattle.ft_base.specs.Visibility.{is_of_stage}
use Rattle.ft_block.specs.Leaves.{ids}
use Rattle.ft_tree_leaves.specs.Edits.{is_touched_by}
use Rattle.ft_rebase.specs.Moves.{leaf_stamps}
use Rattle.ft_rebase.specs.StageLists.{inserted_by}
use Rattle.ft_rebase.proofs.ListedLeaves.{drop_listed, inserted-touched, listed_at, mapped_value, more_filtered, none_filtered}
use Rattle.ft_rebase.proofs.positions.inserted_leaves.Goals as goal
use Rattle.ft_rebase.proofs.positions.inserted_leaves.Goals.{then-is_of_stage+in_ok-push, else-is_of_stage}

pub loop-leaf-init : goal.loop-leaf-init
loop-leaf-init g c =
    let xs = c.args.tree.now.leaves in
    let t = inserted_by leaf_stamps c.args.stage in
    ap (λ ns. ns ++ ids (filter t (filter (λ x. is_touched_by c.args.stage x.1) xs))) c.new-inserted.ensures.items
    ∙ ap ids (inserted-touched c.args.stage xs)

pub leaf_element-requires-clause-live : goal.leaf_element-requires-clause-live
leaf_element-requires-clause-live g c =
    let s = listed_at (λ x. is_touched_by c.args.stage x.1) c.args.tree.now.leaves c.deref-leaf-items.result.now c.loop-leaf.leaf-index
    c.leaf-item.result c.first_leaf-first.ensures.once (c.deref-leaf-items.ensures.value ∙ c.in_ok-touched.ensures) c.loop-leaf-test.true
    c.leaf-item.is in
    s.live

pub loop-leaf-preserved : goal.loop-leaf-preserved
loop-leaf-preserved g c =
    let k = c.args.stage in
    let i = c.loop-leaf.leaf-index in
    let t = inserted_by leaf_stamps k in
    let s = listed_at (λ x. is_touched_by k x.1) c.args.tree.now.leaves c.deref-leaf-items.result.now i c.leaf-item.result
    c.first_leaf-first.ensures.once (c.deref-leaf-items.ensures.value ∙ c.in_ok-touched.ensures) c.loop-leaf-test.true c.leaf-item.is in
    let stamps = mapped_value (λ x. x.stamps) _ _ _ s.is c.leaf_element.ensures in
    let test = ap (λ e. is_of_stage k e.ins) stamps ∙ sym c.is_of_stage.ensures in
    elim c.if-is_of_stage.branch [
      | then-is_of_stage+in_ok-push w ↦
          more_filtered t _ _ i c.leaf-item.result s c.loop-leaf.inserted.items c.if-is_of_stage.inserted.items
          (test ∙ w.if-is_of_stage.true) (ap (λ v. v.items) w.inserted-is ∙ w.in_ok-push.ensures.items)
          ∙ c.loop-leaf.invariant
      | else-is_of_stage w ↦
          none_filtered t _ _ i c.leaf-item.result s c.loop-leaf.inserted.items c.if-is_of_stage.inserted.items
          (test ∙ w.if-is_of_stage.false) (ap (λ v. v.items) w.inserted-is)
          ∙ c.loop-leaf.invariant
    ]

pub returns : goal.returns
returns g c =
    let t = inserted_by leaf_stamps c.args.stage in
    sym (append-nil c.loop-leaf.inserted.items)
    ∙ sym (ap (λ ys. c.loop-leaf.inserted.items ++ ids (filter t ys))
    (drop_listed (λ x. is_touched_by c.args.stage x.1) c.args.tree.now.leaves c.deref-leaf-items.result.now c.loop-leaf.leaf-index
    (c.deref-leaf-items.ensures.value ∙ c.in_ok-touched.ensures) c.loop-leaf-test.false))
    ∙ c.loop-leaf.invariant
