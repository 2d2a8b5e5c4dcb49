use Rattle.std.proofs.Common.{◌≡◌, ℕ, ◌<◌, ◌++◌, [], List, Some, length, take, drop, append-nil, refl, subst, sym, ◌∙◌, ap, arith}
use Rattle.std.proofs.Math.Seq.{drop-append_seam, take-append_seam}
use Rattle.ft_block.specs.Leaves.{LeafList, ids}
use Rattle.ft_tree_leaves.specs.declared.leaves.TreeLeaf.{TreeLeaf}
use Rattle.ft_tree_leaves.specs.LeafLists.{elements, leaf_elements}
use Rattle.ft_tree_leaves.specs.Edits.{up_to_place}
use Rattle.ft_tree_leaves.specs.Elements.{elements_with}
use Rattle.ft_tree_leaves.specs.References.{KeepsReferences, reference_place}
use Rattle.ft_tree_leaves.proofs.LeafRuns.{length-elements}
use Rattle.ft_tree_leaves.proofs.RangeLeaves.{extends_trans}
use Rattle.ft_tree_steps.specs.LeafSteps.{held_place}
use Rattle.ft_tree_steps.proofs.CutPlaces.{puts_behind}
use Rattle.ft_props.specs.Overlay.{OverlayState}
use Rattle.ft_props.specs.Properties.{PropertyList}
use Rattle.ft_tree.proofs.RefPlaces.{kept_before}
use Rattle.ft_tree.proofs.edits.append.Goals as goal

-- behind the whole list
behind_all : {A : Type 0} (n : ℕ) (new xs : List A) → n ≡ length xs → take n xs ++ (new ++ drop n xs) ≡ xs ++ new
behind_all n new xs e =
    let all : take n xs ≡ xs = ap (λ k. take k xs) e ∙ ap (take (length xs)) (sym (append-nil xs)) ∙ take-append_seam xs [] in
    let none : drop n xs ≡ [] = ap (λ k. drop k xs) e ∙ ap (drop (length xs)) (sym (append-nil xs)) ∙ drop-append_seam xs [] in
    ap (λ zs. zs ++ (new ++ drop n xs)) all ∙ ap (λ zs. xs ++ (new ++ zs)) none ∙ ap (λ zs. xs ++ zs) (append-nil new)

pub insert_after-requires : goal.insert_after-requires
insert_after-requires g c =
    let us = g.C.Content.units in
    let by = g.C.Content.by in
    let cut = c.in_ok-at.ensures.cut in
    record {
      usable = c.in_ok-at.ensures.usable;
      place = cut.live;
      fits = omega (arith, length-elements us by c.cut_at.new.blocks.leaves, ap length cut.list, c.requires.fits);
      settled = ap (λ (o : OverlayState). o.pending) c.of-overlay.ensures;
    }

pub returns-clause-list : goal.returns-clause-list
returns-clause-list g c =
    let us = g.C.Content.units in
    let by = g.C.Content.by in
    let xs = c.args.blocks.now.leaves in
    let mid = c.cut_at.new.blocks.leaves in
    let cut = c.in_ok-at.ensures.cut in
    let leaf : TreeLeaf g.row.C.Denot = record { content = c.args.content; stamps = c.args.e; overlay = c.of-overlay.result } in
    let overlay : c.of-overlay.result ≡ record { acked = c.args.props.now; pending = [] } =
    c.of-overlay.ensures ∙ ap (λ (ps : PropertyList). record { acked = ps; pending = [] }) c.in_ok-copy.ensures in
    let n : ℕ = length (elements us by xs) in
    let ended = subst (λ (l : LeafList (TreeLeaf g.row.C.Denot)). held_place us by l.leaves c.find_end-end.result.leaf c.find_end-end.result.offset
    ≡ length (elements us by l.leaves))
    c.list.ensures c.find_end-end.ensures.place in
    let place : n ≡ _ = sym (cut.place ∙ ended) in
    let puts = puts_behind us by mid c.insert_after.new.self.leaves c.in_ok-at.at c.in_ok-_id._id n leaf c.first-first.ensures.once cut.live c.in_ok-_id.ensures.ok place in
    puts.list ∙ ap (λ es. take n es ++ (leaf_elements us by leaf ++ drop n es)) cut.list ∙ behind_all n (leaf_elements us by leaf) (elements us by xs) refl
    ∙ ap (λ (o : OverlayState). elements us by xs ++ elements_with c.args.e (by c.args.content) o (us c.args.content)) overlay

pub returns-clause-nodes : goal.returns-clause-nodes
returns-clause-nodes g c =
    let us = g.C.Content.units in
    let by = g.C.Content.by in
    let cut = c.in_ok-at.ensures.cut in
    let leaf : TreeLeaf g.row.C.Denot = record { content = c.args.content; stamps = c.args.e; overlay = c.of-overlay.result } in
    let ended = subst (λ (l : LeafList (TreeLeaf g.row.C.Denot)). held_place us by l.leaves c.find_end-end.result.leaf c.find_end-end.result.offset
    ≡ length (elements us by l.leaves))
    c.list.ensures c.find_end-end.ensures.place in
    let puts = puts_behind us by c.cut_at.new.blocks.leaves c.insert_after.new.self.leaves c.in_ok-at.at c.in_ok-_id._id
    (length (elements us by c.args.blocks.now.leaves)) leaf c.first-first.ensures.once cut.live c.in_ok-_id.ensures.ok
    (sym (cut.place ∙ ended)) in
    extends_trans (ids c.args.blocks.now.leaves) (ids c.cut_at.new.blocks.leaves) (ids c.insert_after.new.self.leaves) cut.nodes puts.nodes

pub returns-clause-refs : goal.returns-clause-refs
returns-clause-refs g c =
    let us = g.C.Content.units in
    let by = g.C.Content.by in
    let cut = c.in_ok-at.ensures.cut in
    let mid = c.cut_at.new.blocks in
    let now = c.insert_after.new.self in
    let leaf : TreeLeaf g.row.C.Denot = record { content = c.args.content; stamps = c.args.e; overlay = c.of-overlay.result } in
    let ended = subst (λ (l : LeafList (TreeLeaf g.row.C.Denot)). held_place us by l.leaves c.find_end-end.result.leaf c.find_end-end.result.offset
    ≡ length (elements us by l.leaves))
    c.list.ensures c.find_end-end.ensures.place in
    let i : ℕ = length (elements us by (up_to_place mid.leaves c.in_ok-at.at)) in
    let place : i ≡ length (elements us by mid.leaves) = cut.place ∙ ended ∙ ap length (sym cut.list) in
    let before : (r j : ℕ) → reference_place mid.refs r ≡ Some j → j < i = λ r j h. omega (arith, place, c.first-first.ensures.inside r j h) in
    let keeps : KeepsReferences mid.refs now.refs = kept_before i (length (us leaf.content)) mid.refs now.refs before c.in_ok-_id.ensures.refs in
    λ r. keeps r ∙ c.in_ok-at.ensures.refs r
