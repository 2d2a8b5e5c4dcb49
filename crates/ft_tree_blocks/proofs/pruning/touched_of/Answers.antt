use Rattle.std.proofs.Common.{◌≡◌, ℕ, filter, get_or, subst, sym, ◌∙◌, ap}
use Rattle.smallvec.specs.SmallVec.{SmallVec}
use Rattle.ft_tree_blocks.specs.declared.next_stages.Wanted.TheVariants.{Anything}
use Rattle.ft_tree_blocks.specs.Wanted.{is_wanted_at, is_wanted_by}
use Rattle.ft_tree_blocks.proofs.PrunedLists.{filtered-with, filtered-without}
use Rattle.ft_tree_blocks.proofs.pruning.touched_of.Goals as goal
use Rattle.ft_tree_blocks.proofs.pruning.touched_of.Goals.{then-is_touched_by+in_ok-push, else-is_touched_by}

pub loop-id-preserved : goal.loop-id-preserved
loop-id-preserved g c =
    let xs = c.args.blocks.now.leaves in
    let k = c.args.stage in
    let ns = c.args.nodes.now in
    let i = c.loop-id.id-index in
    let id = c.id.inside.0 in
    let is : id ≡ get_or ns i id = subst (λ z. z ≡ get_or ns i z) (sym c.id.view_is) c.id-item.is in
    let ps = c.loop-id.touched.items in
    let qs = c.if-is_touched_by.touched.items in
    let wanted = is_wanted_at Anything xs k in
    let test : is_wanted_at Anything xs k id ≡ c.is_touched_by.result = ap (is_wanted_by Anything k) c.leaf.ensures ∙ sym c.is_touched_by.ensures in
    elim c.if-is_touched_by.branch [
      | then-is_touched_by+in_ok-push w ↦
          filtered-with wanted ns i id c.loop-id-test.true is ps qs (filter wanted ns) (test ∙ w.if-is_touched_by.true)
          (ap (λ (v : SmallVec ℕ). v.items) w.touched-is ∙ w.in_ok-push.ensures.ok) c.loop-id.invariant
      | else-is_touched_by w ↦
          filtered-without wanted ns i id c.loop-id-test.true is ps qs (filter wanted ns) (test ∙ w.if-is_touched_by.false)
          (ap (λ (v : SmallVec ℕ). v.items) w.touched-is) c.loop-id.invariant
    ]
