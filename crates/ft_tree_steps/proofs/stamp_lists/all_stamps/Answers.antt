use Rattle.std.proofs.Common.{◌≡◌, ℕ, List, Option, [], ◌∷◌, ◌++◌, append-nil, length, map, replicate, subst, refl, sym, ◌∙◌, ap, append_assoc}
use Rattle.std.proofs.lemmas.List.{map-append}
use Rattle.ft_base.specs.declared.stamps.Stamp.{Stamp}
use Rattle.ft_base.specs.declared.elements.Element.{Element as ElementStamps}
use Rattle.ft_props.specs.Overlay.{OverlayState}
use Rattle.ft_block.specs.Leaves.{IsPlaceIn}
use Rattle.ft_tree_leaves.specs.Elements.{TreeElement, element_with}
use Rattle.ft_tree_leaves.specs.LeafLists.{elements, leaf_elements}
use Rattle.ft_tree_blocks.specs.Walks.{from_place}
use Rattle.ft_tree_steps.proofs.FoundPlaces.{walks_first, walks_live}
use Rattle.ft_tree_blocks.proofs.CountedWalks.{walks_on}
use Rattle.ft_tree_steps.proofs.stamp_lists.all_stamps.Goals as goal

-- the stamps of a run are copies
copies : {U : Type 0} (s : ElementStamps) (author : Option Stamp) (overlay : OverlayState) (us : List U)
    → map (λ e. e.stamps) (map (element_with s author overlay) us) ≡ replicate (length us) s
copies s author overlay [] = refl
copies s author overlay (u ∷ us) = ap (λ ss. s ∷ ss) (copies s author overlay us)

pub loop-at-init : goal.loop-at-init
loop-at-init g c =
    let us = g.C.Content.units in
    let by = g.C.Content.by in
    let xs = c.args.blocks.now.leaves in
    let stamps : List (TreeElement g.row.C-Unit.Denot) → List ElementStamps = map (λ e. e.stamps) in
    record {
      stamps = ap (λ ss. ss ++ stamps (elements us by (from_place xs c.first-at.result))) c.new-items.ensures.items
          ∙ ap stamps (walks_first us by xs c.first-at.result c.first-at.ensures.value);
      live = walks_live us by xs c.first-at.result c.first-at.ensures.value;
    }

pub loop-at-preserved : goal.loop-at-preserved
loop-at-preserved g c =
    let us = g.C.Content.units in
    let by = g.C.Content.by in
    let xs = c.args.blocks.now.leaves in
    let v = c.leaf-leaf.result.now in
    let stamps : List (TreeElement g.row.C-Unit.Denot) → List ElementStamps = map (λ e. e.stamps) in
    let step = walks_on us by xs c.loop-at.at c.in-Some.id v c.next-at.result c.first-first.ensures.once c.in-Some.is c.leaf-leaf.ensures c.next-at.ensures in
    let rest = elements us by (from_place xs c.next-at.result) in
    let split = ap stamps step.split ∙ map-append (λ e. e.stamps) (leaf_elements us by v) rest in
    let more = c.in_ok-push_copies.ensures ∙ ap (λ (n : ℕ). c.loop-at.items.items ++ replicate n v.stamps) c.len.ensures.value
    ∙ ap (λ ss. c.loop-at.items.items ++ ss) (sym (copies v.stamps (by v.content) v.overlay (us v.content))) in
    record {
      stamps = ap (λ ss. ss ++ stamps rest) more ∙ append_assoc c.loop-at.items.items (stamps (leaf_elements us by v)) (stamps rest)
          ∙ ap (λ ss. c.loop-at.items.items ++ ss) (sym split) ∙ c.loop-at.invariant.stamps;
      live = step.live;
    }

pub loop-at-smaller : goal.loop-at-smaller
loop-at-smaller g c =
    let xs = c.args.blocks.now.leaves in
    let step = walks_on g.C.Content.units g.C.Content.by xs c.loop-at.at c.in-Some.id c.leaf-leaf.result.now c.next-at.result c.first-first.ensures.once
    c.in-Some.is c.leaf-leaf.ensures c.next-at.ensures in
    step.fewer

pub leaf-leaf-requires : goal.leaf-leaf-requires
leaf-leaf-requires g c = record { usable = c.requires; live = subst (IsPlaceIn c.args.blocks.now.leaves) c.in-Some.is c.loop-at.invariant.live }

pub next-at-requires : goal.next-at-requires
next-at-requires g c = record { usable = c.requires; live = subst (IsPlaceIn c.args.blocks.now.leaves) c.in-Some.is c.loop-at.invariant.live }

pub returns : goal.returns
returns g c =
    let us = g.C.Content.units in
    let by = g.C.Content.by in
    let xs = c.args.blocks.now.leaves in
    let stamps : List (TreeElement g.row.C-Unit.Denot) → List ElementStamps = map (λ e. e.stamps) in
    let all = ap (λ (o : Option ℕ). c.loop-at.items.items ++ stamps (elements us by (from_place xs o))) c.in_default.is
    ∙ append-nil c.loop-at.items.items in
    sym all ∙ c.loop-at.invariant.stamps
