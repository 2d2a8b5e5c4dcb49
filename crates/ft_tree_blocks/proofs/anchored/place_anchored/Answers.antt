use Rattle.std.proofs.Common.{Option, option_map, sym, ◌∙◌, ap}
use Rattle.ft_refs.specs.declared.numbers.Place.{Place}
use Rattle.ft_tree_blocks.specs.LeafPlaces.{place_on}
use Rattle.ft_tree_blocks.proofs.RefSteps.{live_entry, reference_place-on}
use Rattle.ft_tree_blocks.proofs.anchored.place_anchored.Goals as goal

pub place-requires : goal.place-requires
place-requires g c = live_entry g.C.Content.units g.C.Content.by c.args.blocks.now.leaves c.args.refs.now.anchors c.args.r c.requires.live

pub returns-clause-place : goal.returns-clause-place
returns-clause-place g c =
    let us = g.C.Content.units in
    let by = g.C.Content.by in
    let xs = c.args.blocks.now.leaves in
    let a = c.args.refs.now.anchors in
    ap (λ (o : Option Place). option_map (place_on us by xs) o) c.place.ensures ∙ sym (reference_place-on us by xs a c.args.r)
