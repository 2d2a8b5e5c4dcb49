use Rattle.std.proofs.Common.{◌≡◌, ℕ, true, IsTrue, IsSomeAnd, List, [], Option, Some, refl, subst, sym, ◌∙◌, ap}
use Rattle.ft_arena.specs.Ids.{after}
use Rattle.ft_base.specs.declared.elements.Element.{Element as ElementStamps}
use Rattle.ft_base.specs.declared.stamps.Stamp.{Stamp}
use Rattle.ft_base.specs.declared.stamps.Stamp.TheVariants.{Acked}
use Rattle.ft_block.specs.Leaves.{change_leaf, ids, join_leaf, value_after, value_at}
use Rattle.ft_block.proofs.CallerLemmas.{after_is_in}
use Rattle.ft_tree_leaves.specs.declared.leaves.TreeLeaf.{TreeLeaf}
use Rattle.ft_tree_leaves.specs.Edits.{joined_leaf}
use Rattle.ft_tree_leaves.specs.LeafChanges.{with_leaf_stamps}
use Rattle.ft_tree_blocks.proofs.Neighbours.{beside}
use Rattle.ft_tree_steps.proofs.JoinedPairs.{both_joined, front_value, may_join_next, no_next, other_value, rear_value}
use Rattle.ft_tree_blocks.proofs.Walks.{live_value}
use Rattle.ft_tree_steps.proofs.joins.join_at.Goals as goal

-- the stamps of elements whose insertion everybody sees, and which nobody has removed
abbrev everyone : ElementStamps
everyone = record { ins = Acked 0 0; dels = [] }

pub returns-in_default-clause-answer : goal.returns-in_default-clause-answer
returns-in_default-clause-answer g c =
    let xs = c.args.blocks.now.leaves in
    let v = live_value xs c.args.id c.requires.live in
    ((λ t. (cc)), (λ m. absurd (no_next g.C.Content.joins c.args.floor xs c.args.id v.0 v.1 (sym c.next.ensures ∙ c.in_default.is) m)))

pub returns-then-not-may_join-clause-answer : goal.returns-then-not-may_join-clause-answer
returns-then-not-may_join-clause-answer g c =
    let xs = c.args.blocks.now.leaves in
    let both = may_join_next g.C.Content.joins c.args.floor xs c.args.id c.leaf.result.now c.leaf.ensures c.in-Some.next c.leaf-2.result.now
    c.first-first.ensures.once (sym c.next.ensures ∙ c.in-Some.is) c.leaf-2.ensures in
    ((λ t. (cc)), (λ m. let yes : c.may_join.result ≡ true = c.may_join.ensures.1 (both.0 m) in sym c.if-not-may_join.true ∙ yes))

pub make_universal-requires : goal.make_universal-requires
make_universal-requires g c =
    let may = c.may_join.ensures.0 c.if-not-may_join.false in
    record {
      usable = c.requires.usable;
      live = subst (λ (o : Option (TreeLeaf g.row.C.Denot)). IsSomeAnd o (λ v. v.stamps.dels ≡ [])) (sym c.leaf.ensures) may.front.kept;
    }

pub make_universal-requires-2 : goal.make_universal-requires-2
make_universal-requires-2 g c =
    let xs = c.args.blocks.now.leaves in
    let id = c.args.id in
    let n = c.in-Some.next in
    let v = c.leaf.result.now in
    let w = c.leaf-2.result.now in
    let f : TreeLeaf g.row.C.Denot → TreeLeaf g.row.C.Denot = with_leaf_stamps (λ s. everyone) in
    let b = beside xs id n v w c.first-first.ensures.once c.leaf.ensures (sym c.next.ensures ∙ c.in-Some.is) c.leaf-2.ensures in
    let may = c.may_join.ensures.0 c.if-not-may_join.false in
    let there = ap (λ (zs : List (ℕ × TreeLeaf g.row.C.Denot)). value_at zs n) c.in_ok-make_universal.ensures.ok ∙ other_value xs id n v w b f f in
    record {
      usable = c.in_ok-make_universal.ensures.usable;
      live = subst (λ (o : Option (TreeLeaf g.row.C.Denot)). IsSomeAnd o (λ v. v.stamps.dels ≡ [])) (sym there) may.rear.kept;
    }

pub join_next-requires : goal.join_next-requires
join_next-requires g c =
    let xs = c.args.blocks.now.leaves in
    let id = c.args.id in
    let n = c.in-Some.next in
    let v = c.leaf.result.now in
    let w = c.leaf-2.result.now in
    let joins = g.C.Content.joins in
    let f : TreeLeaf g.row.C.Denot → TreeLeaf g.row.C.Denot = with_leaf_stamps (λ s. everyone) in
    let next : after (ids xs) id ≡ Some n = sym c.next.ensures ∙ c.in-Some.is in
    let b = beside xs id n v w c.first-first.ensures.once c.leaf.ensures next c.leaf-2.ensures in
    let may = c.may_join.ensures.0 c.if-not-may_join.false in
    let made : c.make_universal-2.new.blocks.leaves ≡ change_leaf f (change_leaf f xs id) n =
    c.in_ok-make_universal-2.ensures.ok ∙ ap (λ (zs : List (ℕ × TreeLeaf g.row.C.Denot)). change_leaf f zs n) c.in_ok-make_universal.ensures.ok in
    let Both : TreeLeaf g.row.C.Denot → TreeLeaf g.row.C.Denot → Type 0 = λ x y. IsTrue (joins x.content y.content) × (x.stamps ≡ y.stamps) in
    record {
      usable = c.in_ok-make_universal-2.ensures.usable;
      can = subst (λ (zs : List (ℕ × TreeLeaf g.row.C.Denot)). IsSomeAnd (value_at zs id) (λ x. IsSomeAnd (value_after zs id) (Both x))) (sym made)
          (subst (λ (o : Option (TreeLeaf g.row.C.Denot)). IsSomeAnd o (λ x. IsSomeAnd (value_after (change_leaf f (change_leaf f xs id) n) id) (Both x))) (sym
          (front_value xs id n v w b f f))
          (subst (λ (o : Option (TreeLeaf g.row.C.Denot)). IsSomeAnd o (Both (f v))) (sym (rear_value xs id n v w b f f)) (may.contents, refl)));
    }

pub returns-clause-answer : goal.returns-clause-answer
returns-clause-answer g c =
    let xs = c.args.blocks.now.leaves in
    let both = may_join_next g.C.Content.joins c.args.floor xs c.args.id c.leaf.result.now c.leaf.ensures c.in-Some.next c.leaf-2.result.now
    c.first-first.ensures.once (sym c.next.ensures ∙ c.in-Some.is) c.leaf-2.ensures in
    ((λ t. both.1 (c.may_join.ensures.0 c.if-not-may_join.false)), (λ m. refl))

pub returns-clause-leaves : goal.returns-clause-leaves
returns-clause-leaves g c =
    let xs = c.args.blocks.now.leaves in
    let id = c.args.id in
    let n = c.in-Some.next in
    let v = c.leaf.result.now in
    let w = c.leaf-2.result.now in
    let joined = g.C.Content.joined in
    let f : TreeLeaf g.row.C.Denot → TreeLeaf g.row.C.Denot = with_leaf_stamps (λ s. everyone) in
    let next : after (ids xs) id ≡ Some n = sym c.next.ensures ∙ c.in-Some.is in
    let b = beside xs id n v w c.first-first.ensures.once c.leaf.ensures next c.leaf-2.ensures in
    let may = c.may_join.ensures.0 c.if-not-may_join.false in
    let made : c.make_universal-2.new.blocks.leaves ≡ change_leaf f (change_leaf f xs id) n =
    c.in_ok-make_universal-2.ensures.ok ∙ ap (λ (zs : List (ℕ × TreeLeaf g.row.C.Denot)). change_leaf f zs n) c.in_ok-make_universal.ensures.ok in
    let join : TreeLeaf g.row.C.Denot → TreeLeaf g.row.C.Denot → TreeLeaf g.row.C.Denot = λ x y. record x { content = joined x.content y.content } in
    let leaf : List Stamp → TreeLeaf g.row.C.Denot =
    λ ts. record { content = joined v.content w.content; stamps = record { ins = Acked 0 0; dels = ts }; overlay = v.overlay } in
    let same : join (f v) (f w) ≡ joined_leaf joined v w = ap leaf (sym may.front.kept) in
    c.in_ok-join_next.ensures.ok ∙ ap (λ (zs : List (ℕ × TreeLeaf g.row.C.Denot)). join_leaf join zs id) made
    ∙ both_joined xs id n v w b f f join (joined_leaf joined) same

pub leaf-requires-2-clause-live : goal.leaf-requires-2-clause-live
leaf-requires-2-clause-live g c = after_is_in c.args.blocks.now.leaves c.args.id c.in-Some.next (sym c.next.ensures ∙ c.in-Some.is)

pub returns-in_default-clause-refs : goal.returns-in_default-clause-refs
returns-in_default-clause-refs g c = λ r. refl

pub returns-then-not-may_join-clause-refs : goal.returns-then-not-may_join-clause-refs
returns-then-not-may_join-clause-refs g c = λ r. refl

pub returns-clause-refs : goal.returns-clause-refs
returns-clause-refs g c = λ r. c.in_ok-join_next.ensures.refs r ∙ c.in_ok-make_universal-2.ensures.refs r ∙ c.in_ok-make_universal.ensures.refs r
