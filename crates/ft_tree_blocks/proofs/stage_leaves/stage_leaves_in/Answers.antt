use Rattle.std.proofs.Common.{ℕ, List, None, map, subst, sym, ◌∙◌, ap, rules}
use Rattle.std.specs.List.Sorted.{IsNonDecreasingBy, IsPermutation}
use Rattle.std.proofs.lemmas.List.Sorted.{IsNonDecreasingBy-from_sort_by_key}
use Rattle.std.proofs.lemmas.Result.{IfOk-weaker}
use Rattle.ft_block.specs.Leaves.{IsLeafIn, value_at}
use Rattle.ft_tree_blocks.specs.StageLeaves.{touched_places, unrepeated}
use Rattle.ft_tree_blocks.proofs.AckedNodes.{all-held}
use Rattle.ft_tree_blocks.proofs.LeastAbove.{wanted_value}
use Rattle.ft_tree_blocks.specs.declared.next_stages.Wanted.TheVariants.{Anything}
use Rattle.ft_tree_blocks.proofs.OrderedNodes.{touched-in_order}
use Rattle.ft_tree_blocks.proofs.StepValues.{is_live}
use Rattle.ft_tree_blocks.proofs.stage_leaves.stage_leaves_in.Goals as goal

pub touched_places-requires : goal.touched_places-requires
touched_places-requires g c =
    let xs = c.args.blocks.now.leaves in
    record {
      usable = c.requires.usable;
      live = all-held (IsLeafIn xs) c.nodes_of.result.now (λ z h. is_live xs z (c.requires.tracks.live c.args.stage z (sym (c.nodes_of.ensures z) ∙ h)));
    }

pub returns : goal.returns
returns g c =
    let us = g.C.Content.units in
    let xs = c.args.blocks.now.leaves in
    let k = c.args.stage in
    let ns = c.nodes_of.result.now in
    let ps = c.sort_unstable_by_key.new.self.items in
    let moved : IsPermutation (touched_places us xs k ns) ps = subst (λ qs. IsPermutation qs ps) c.in_ok-places.ensures c.sort_unstable_by_key.ensures.permutation in
    let up : IsNonDecreasingBy (λ (p : ℕ × ℕ). p.0) ps =
    IsNonDecreasingBy-from_sort_by_key (λ (p : ℕ × ℕ). p.0) ps c.sort_unstable_by_key.ensures.sorted (λ a r q h. search rules) in
    let all = touched-in_order us k xs ns ps c.first-first.ensures.once c.first-first.ensures.some
    (λ z h. is_live xs z (c.requires.tracks.live k z (sym (c.nodes_of.ensures z) ∙ h)))
    (λ z t. let v = wanted_value Anything k (value_at xs z) t in c.nodes_of.ensures z ∙ c.requires.tracks.covers k z v.0 v.1 v.2)
    moved up in
    IfOk-weaker c.unrepeated.result _ _
    (λ v e. e ∙ ap (λ (qs : List (ℕ × ℕ)). unrepeated None (map (λ (p : ℕ × ℕ). p.1) qs)) c.as_slice.ensures.value ∙ all) c.unrepeated.ensures
