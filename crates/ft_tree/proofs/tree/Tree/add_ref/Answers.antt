use Rattle.std.proofs.Common.{◌≡◌, ℕ, List, None, Option, Some, refl, subst, sym, ◌∙◌, ap, arith}
use Rattle.ft_base.specs.Scan.{len}
use Rattle.ft_block.specs.Leaves.{LeafList}
use Rattle.ft_tree_blocks.specs.LeafPlaces.{place_on}
use Rattle.ft_tree_leaves.specs.declared.leaves.TreeLeaf.{TreeLeaf}
use Rattle.ft_tree_leaves.specs.Elements.{seen_in}
use Rattle.ft_tree_leaves.specs.LeafLists.{elements}
use Rattle.ft_tree_leaves.specs.Places.{place_at}
use Rattle.ft_tree.specs.State.{TreeState}
use Rattle.ft_tree.proofs.RefPlaces.{none_seen, some_seen}
use Rattle.ft_tree.proofs.tree.Tree.add_ref.Goals as goal

pub returns-in_default-clause-refused : goal.returns-in_default-clause-refused
returns-in_default-clause-refused g c =
    let us = g.C.Content.units in
    let by = g.C.Content.by in
    let seen = seen_in {U = g.row.C-Unit.Denot} c.args.view in
    let counted : List (ℕ × TreeLeaf g.row.C.Denot) → ℕ = λ xs. len seen (elements us by xs) in
    let on : List (ℕ × TreeLeaf g.row.C.Denot) → Option ℕ = λ xs. place_at seen c.args.p (elements us by xs) in
    let listed = c.seen_count-length.ensures
    ∙ ap (λ (l : LeafList (TreeLeaf g.row.C.Denot)). counted l.leaves) c.list-in_default.ensures
    ∙ ap (λ (s : TreeState g.row.C.Denot). counted s.leaves) c.self.view_is in
    let none = sym c.in_default.ensures.place in
    let none_here = subst (λ (s : TreeState g.row.C.Denot). on s.leaves ≡ None) c.self.view_is
    (subst (λ (l : LeafList (TreeLeaf g.row.C.Denot)). on l.leaves ≡ None) c.list.ensures none) in
    (listed, omega (arith, none_seen seen 0 c.args.p (elements us by c.args.self.now.leaves) none_here), refl)

pub returns-in-Ok-clause-inside : goal.returns-in-Ok-clause-inside
returns-in-Ok-clause-inside g c =
    let us = g.C.Content.units in
    let by = g.C.Content.by in
    let seen = seen_in {U = g.row.C-Unit.Denot} c.args.view in
    let k = place_on us by c.list.result.now.leaves c.in-Some.at in
    let on : List (ℕ × TreeLeaf g.row.C.Denot) → Option ℕ = λ xs. place_at seen c.args.p (elements us by xs) in
    let some = subst (λ (s : TreeState g.row.C.Denot). on s.leaves ≡ Some k) c.self.view_is
    (subst (λ (l : LeafList (TreeLeaf g.row.C.Denot)). on l.leaves ≡ Some k) c.list.ensures (sym c.in-Some.ensures.place)) in
    some_seen seen c.args.p k (elements us by c.args.self.now.leaves) some
