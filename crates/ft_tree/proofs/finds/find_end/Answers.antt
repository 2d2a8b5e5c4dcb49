use Rattle.std.proofs.Common.{◌≡◌, ℕ, length, refl, sym, ◌∙◌, ap}
use Rattle.ft_base.specs.Scan.{place}
use Rattle.ft_block.specs.declared.leaves.LenView.TheVariants.{All}
use Rattle.ft_tree_steps.proofs.FoundPlaces.{found_at}
use Rattle.ft_tree_leaves.specs.Elements.{seen_in}
use Rattle.ft_tree_leaves.specs.LeafLists.{elements}
use Rattle.ft_tree_leaves.proofs.LeafRuns.{length-elements}
use Rattle.ft_tree.proofs.FoundEnds.{place-all}
use Rattle.ft_tree.proofs.finds.find_end.Goals as goal

pub returns-clause-held : goal.returns-clause-held
returns-clause-held g c =
    let at = found_at g.C.Content.units g.C.Content.by All c.args.blocks.now.leaves c.length.result c.in-Ok.found c.first-first.ensures.once c.in-Ok.ensures.found in
    at.held

pub returns-clause-place : goal.returns-clause-place
returns-clause-place g c =
    let us = g.C.Content.units in
    let by = g.C.Content.by in
    let xs = c.args.blocks.now.leaves in
    let seen = seen_in {U = g.row.C-Unit.Denot} All in
    let es = elements us by xs in
    let at = found_at us by All xs c.length.result c.in-Ok.found c.first-first.ensures.once c.in-Ok.ensures.found in
    let count : c.length.result ≡ length es = c.length.ensures ∙ sym (length-elements us by xs) in
    sym at.place ∙ ap (λ (n : ℕ). place seen n es) count ∙ place-all seen (λ e. refl) es
