use Rattle.std.proofs.Common.{refl, sym, ◌∙◌, ap}
use Rattle.ft_tree_blocks.proofs.WalkEdits.{change-here, change-nothing}
use Rattle.ft_tree_blocks.proofs.Walks.{live_value}
use Rattle.ft_tree_leaves.specs.Edits.{sequenced_leaf}
use Rattle.ft_rebase.specs.Normalised.{carried_leaf, is_gone}
use Rattle.ft_rebase.proofs.CarriedLeaves.{carried-gone, carried-kept}
use Rattle.ft_rebase.proofs.ListedLeaves.{mapped_value}
use Rattle.ft_rebase.proofs.MovedSpots.{rest_same}
use Rattle.ft_rebase.proofs.normalisation.carry_leaf.Goals as goal
use Rattle.ft_rebase.proofs.normalisation.carry_leaf.Goals.{then-not-is_gone-via-then-not-is_gone, then-not-is_gone-via-else-not-is_gone+then-not-has_pending}

pub returns-then-not-is_gone-clause-leaves : goal.returns-then-not-is_gone-clause-leaves
returns-then-not-is_gone-clause-leaves g c =
    let xs = c.args.tree.now.leaves in
    let v = live_value xs c.args.leaf c.requires.live in
    let stamps = mapped_value (λ x. x.stamps) _ _ _ v.1 c.leaf_element.ensures in
    sym (change-nothing carried_leaf xs c.args.leaf v.0 c.first_leaf-first.ensures.once v.1
    (elim c.then-not-is_gone.branch [
      | then-not-is_gone-via-then-not-is_gone w ↦
          carried-kept v.0 (ap is_gone stamps ∙ sym c.is_gone.ensures ∙ w.if-not-is_gone.true)
      | then-not-is_gone-via-else-not-is_gone+then-not-has_pending w ↦
          carried-gone v.0 (ap is_gone stamps ∙ sym c.is_gone.ensures ∙ w.if-not-is_gone.false)
          ∙ w.has_pending.ensures.none w.if-not-has_pending.true v.0 v.1
    ]))

pub returns-clause-leaves : goal.returns-clause-leaves
returns-clause-leaves g c =
    let xs = c.args.tree.now.leaves in
    let v = live_value xs c.args.leaf c.requires.live in
    let stamps = mapped_value (λ x. x.stamps) _ _ _ v.1 c.leaf_element.ensures in
    c.in_ok-unmark_all.ensures.leaves
    ∙ sym (change-here carried_leaf sequenced_leaf xs c.args.leaf v.0 c.first_leaf-first.ensures.once v.1
    (carried-gone v.0 (ap is_gone stamps ∙ sym c.is_gone.ensures ∙ c.if-not-is_gone.false)))

pub returns-then-not-is_gone-clause-stays : goal.returns-then-not-is_gone-clause-stays
returns-then-not-is_gone-clause-stays g c = record { rest = rest_same c.args.tree.now; made = refl; usable = c.requires.usable }

pub returns-clause-stays : goal.returns-clause-stays
returns-clause-stays g c =
    let unmarked = c.in_ok-unmark_all.ensures in
    record { rest = unmarked.rest; made = unmarked.made; usable = unmarked.rest.usable ∙ c.requires.usable }
