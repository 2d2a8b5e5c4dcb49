use Rattle.std.proofs.Common.{sym, ◌∙◌}
use Rattle.ft_tree_leaves.specs.declared.leaves.Standing.TheVariants.{Unremoved}
use Rattle.ft_tree_blocks.specs.LeafPlaces.{place_on}
use Rattle.ft_tree_blocks.proofs.UnremovedLeaves.{settled_place-alike}
use Rattle.ft_tree_blocks.proofs.slides.slid_on.Goals as goal

pub returns-clause-stands : goal.returns-clause-stands
returns-clause-stands g c = λ p e. sym (c.requires.tells p.owner) ∙ c.settled_on.ensures.stands p e

pub returns-clause-place : goal.returns-clause-place
returns-clause-place g c =
    let us = g.C.Content.units in
    let by = g.C.Content.by in
    let xs = c.args.blocks.now.leaves in
    c.settled_on.ensures.place ∙ settled_place-alike us by c.args.test Unremoved xs (place_on us by xs c.args.at.now) c.first-first.ensures.once
    c.requires.tells
