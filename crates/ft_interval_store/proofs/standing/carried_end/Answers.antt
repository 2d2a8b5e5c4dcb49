use Rattle.std.proofs.Common.{◌≡◌, ◌-◌, ◌<◌, Some, None, refl, sym, ◌∙◌, subst, arith}
use Rattle.ft_tree_leaves.specs.Edits.{next_removal_above}
use Rattle.ft_interval_store.specs.Numbers.{until}
use Rattle.ft_interval_store.specs.Shown.{settled_end}
use Rattle.ft_interval_store.specs.Standing.{StandsAt}
use Rattle.ft_interval_store.specs.State.{text_elements}
use Rattle.ft_interval_store.proofs.Removals.{last-stands, removal-above, step-stands}
use Rattle.ft_interval_store.proofs.standing.carried_end.Goals as goal

pub loop-k-init : goal.loop-k-init
loop-k-init c = record { upto = c.requires.rises; on_leaf = c.requires.on_leaf; was = λ end s. (end, s, refl) }

pub loop-k-smaller : goal.loop-k-smaller
loop-k-smaller c =
    let to = c.args.to in
    let next : until to (next_removal_above c.loop-k.stage (text_elements c.args.tree.now)) ≡ Some c.in-Some.k = sym c.removal_until.ensures ∙ c.in-Some.is in
    let both = removal-above c.args.tree.now c.loop-k.stage c.in-Some.k to next in
    let less : to - c.in-Some.k < to - c.loop-k.stage = omega (arith, both.0, both.1) in
    less

pub loop-k-preserved : goal.loop-k-preserved
loop-k-preserved c =
    let tree = c.args.tree.now in
    let xs = text_elements tree in
    let to = c.args.to in
    let k = c.in-Some.k in
    let next : until to (next_removal_above c.loop-k.stage xs) ≡ Some k = sym c.removal_until.ensures ∙ c.in-Some.is in
    record {
      upto = (removal-above tree c.loop-k.stage k to next).1;
      on_leaf = c.settled_at-place.ensures.on_leaf;
      was = λ end n. (let w = c.loop-k.invariant.was end n in
          let s = step-stands tree c.loop-k.stage k to w.0 c.loop-k.place c.settled_at-place.result next w.1 c.settled_at-place.ensures in
          (settled_end xs k w.0, s.0, s.1 ∙ w.2));
    }

pub returns : goal.returns
returns c = λ end n.
    let tree = c.args.tree.now in
    let to = c.args.to in
    let w = c.loop-k.invariant.was end n in
    let next : until to (next_removal_above c.loop-k.stage (text_elements tree)) ≡ None = sym c.removal_until.ensures ∙ c.in_default.is in
    subst (λ e. StandsAt tree to e c.loop-k.place) w.2
    (last-stands tree c.loop-k.stage to w.0 c.loop-k.place c.loop-k.invariant.upto next w.1)
