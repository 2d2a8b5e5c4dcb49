use Rattle.std.proofs.Common.{◌≡◌, None, Some, min, zero, suc, rules, sym, ◌∙◌, ap, arith}
use Rattle.ft_base.specs.Scan.{len}
use Rattle.ft_tree_leaves.specs.Elements.{seen_in}
use Rattle.ft_tree_leaves.specs.LeafLists.{elements}
use Rattle.ft_tree_leaves.specs.Places.{seen_before}
use Rattle.ft_tree_blocks.specs.LeafPlaces.{place_on}
use Rattle.ft_tree_blocks.proofs.CountedWalks.{offset_within}
use Rattle.ft_tree_steps.proofs.SettledNumbers.{number_within, settled_number-within}
use Rattle.ft_tree_steps.proofs.scans.settled_number.Goals as goal

pub returns-in_err-last : goal.returns-in_err-last
returns-in_err-last g c =
    let us = g.C.Content.units in
    let by = g.C.Content.by in
    let xs = c.args.blocks.now.leaves in
    let seen = seen_in {U = g.row.C-Unit.Denot} c.args.view in
    let at = place_on us by xs c.args.at.now in
    let all = elements us by xs in
    let none : c.from_residual.result ≡ None = search rules in
    let nothing : len seen all ≡ zero = omega (arith, c.seen_count.ensures, c.in_err-last.ensures) in
    none ∙ sym (settled_number-within seen all at (offset_within us by xs c.args.at.now c.first-first.ensures.once c.requires.on_leaf)
    ∙ ap (number_within (seen_before seen all at)) nothing)

pub returns : goal.returns
returns g c =
    let us = g.C.Content.units in
    let by = g.C.Content.by in
    let xs = c.args.blocks.now.leaves in
    let seen = seen_in {U = g.row.C-Unit.Denot} c.args.view in
    let at = place_on us by xs c.args.at.now in
    let all = elements us by xs in
    let some : len seen all ≡ suc c.in_ok-last.last = omega (arith, c.seen_count.ensures, c.in_ok-last.ensures.0, c.in_ok-last.ensures.1) in
    ap Some (c.min.ensures ∙ ap (λ n. min n c.in_ok-last.last) c.seen_before_on.ensures)
    ∙ sym (settled_number-within seen all at (offset_within us by xs c.args.at.now c.first-first.ensures.once c.requires.on_leaf)
    ∙ ap (number_within (seen_before seen all at)) some)
