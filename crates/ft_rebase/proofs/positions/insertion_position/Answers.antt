use Rattle.std.proofs.Common.{◌≡◌, ◌-◌, Some, None, cond, ap, sym, ◌∙◌}
use Rattle.ft_base.specs.Scan.{len, rank}
use Rattle.ft_block.specs.declared.leaves.LenView.TheVariants.{Stage}
use Rattle.ft_block.specs.Leaves.{left_of}
use Rattle.ft_tree_leaves.specs.Elements.{seen_in}
use Rattle.ft_tree_leaves.specs.LeafLists.{elements}
use Rattle.ft_rebase.specs.Pieces.{is_inserted_by}
use Rattle.ft_rebase.proofs.LeafPieces.{none_inserted, stands_first}
use Rattle.ft_rebase.proofs.ListedLeaves.{first_listed, none_listed}
use Rattle.ft_rebase.proofs.positions.insertion_position.Goals as goal

pub stage_position-requires-clause-live : goal.stage_position-requires-clause-live
stage_position-requires-clause-live g c =
    let xs = c.args.tree.now.leaves in
    let first = first_listed c.deref.result.now c.in-Some.leaf.now c.in-Some.ensures.value in
    let s = stands_first g.C.Content.units g.C.Content.by c.args.stage (Stage 0) xs c.in-Some.leaf.now first.0
    c.first_leaf-first.ensures.once c.first_leaf-first.ensures.some (sym c.in_ok-inserted.ensures ∙ sym c.deref.ensures.value ∙ first.1) in
    s.live

pub returns-in-Some : goal.returns-in-Some
returns-in-Some g c =
    let us = g.C.Content.units in
    let by = g.C.Content.by in
    let k = c.args.stage in
    let xs = c.args.tree.now.leaves in
    let list = elements us by xs in
    let first = first_listed c.deref.result.now c.in-Some.leaf.now c.in-Some.ensures.value in
    let s = stands_first us by k (Stage (k - 1)) xs c.in-Some.leaf.now first.0 c.first_leaf-first.ensures.once
    c.first_leaf-first.ensures.some (sym c.in_ok-inserted.ensures ∙ sym c.deref.ensures.value ∙ first.1) in
    let place : c.stage_position.result ≡ rank (is_inserted_by k) (seen_in (Stage (k - 1))) list =
    c.stage_position.ensures ∙ ap (λ n. len (seen_in (Stage n)) (elements us by (left_of xs c.in-Some.leaf.now))) c.saturating_sub.ensures
    ∙ s.place in
    ap Some place ∙ sym (ap (λ b. cond b (Some (rank (is_inserted_by k) (seen_in (Stage (k - 1))) list)) None) s.some)

pub returns : goal.returns
returns g c =
    let us = g.C.Content.units in
    let by = g.C.Content.by in
    let k = c.args.stage in
    let xs = c.args.tree.now.leaves in
    let none = none_inserted us by k xs
    (sym c.in_ok-inserted.ensures ∙ sym c.deref.ensures.value ∙ none_listed c.deref.result.now c.in-None.ensures.value) in
    sym (ap (λ b. cond b (Some (rank (is_inserted_by k) (seen_in (Stage (k - 1))) (elements us by xs))) None) none)
