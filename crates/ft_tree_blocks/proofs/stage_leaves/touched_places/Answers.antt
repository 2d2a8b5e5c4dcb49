use Rattle.std.proofs.Common.{◌≡◌, ℕ, Vec, Global, get_or, subst, sym, ◌∙◌, ap}
use Rattle.ft_tree_blocks.specs.declared.next_stages.Wanted.TheVariants.{Anything}
use Rattle.ft_tree_blocks.specs.StageLeaves.{touched_places}
use Rattle.ft_tree_blocks.specs.Wanted.{is_wanted_at, is_wanted_by}
use Rattle.ft_tree_blocks.proofs.OrderedNodes.{places-with, places-without}
use Rattle.ft_tree_blocks.proofs.stage_leaves.touched_places.Goals as goal
use Rattle.ft_tree_blocks.proofs.stage_leaves.touched_places.Goals.{then-is_touched_by+in_ok-push, else-is_touched_by}

pub loop-id-preserved : goal.loop-id-preserved
loop-id-preserved g c =
    let us = g.C.Content.units in
    let xs = c.args.blocks.now.leaves in
    let k = c.args.stage in
    let ns = c.args.nodes.now in
    let i = c.loop-id.id-index in
    let id = c.id.inside.0 in
    let is : id ≡ get_or ns i id = subst (λ z. z ≡ get_or ns i z) (sym c.id.view_is) c.id-item.is in
    let ps = c.loop-id.places.items in
    let qs = c.if-is_touched_by.places.items in
    let all = touched_places us xs k ns in
    let test : is_wanted_at Anything xs k id ≡ c.is_touched_by.result = ap (is_wanted_by Anything k) c.leaf.ensures ∙ sym c.is_touched_by.ensures in
    elim c.if-is_touched_by.branch [
      | then-is_touched_by+in_ok-push w ↦
          places-with us xs k ns i id c.loop-id-test.true is ps qs all w.position_of.result (test ∙ w.if-is_touched_by.true) w.position_of.ensures
          (ap (λ (v : Vec (ℕ × ℕ) Global). v.items) w.places-is ∙ w.in_ok-push.ensures.items) c.loop-id.invariant
      | else-is_touched_by w ↦
          places-without us xs k ns i id c.loop-id-test.true is ps qs all (test ∙ w.if-is_touched_by.false)
          (ap (λ (v : Vec (ℕ × ℕ) Global). v.items) w.places-is) c.loop-id.invariant
    ]
