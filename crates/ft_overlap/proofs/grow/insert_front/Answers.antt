use Rattle.std.proofs.Common.{[], length, ◌≡◌, ◌+◌, ◌≤◌, ℕ, List, ◌∷◌, Some, None, IsSome, sym, subst, ◌∙◌, arith}
use Rattle.ft_arena.specs.Ids.{first}
use Rattle.ft_arena.specs.Forest.{leaf_value, parent_of}
use Rattle.ft_arena.proofs.ArenaLemmas.{count_some_le}
use Rattle.ft_shape.specs.Tree.{insert_before}
use Rattle.ft_shape.proofs.EditLemmas.{before_is_edit, front_is}
use Rattle.ft_shape.proofs.Levels.{some_leaf, height_fits}
use Rattle.ft_shape.proofs.FitLemmas.{leaves_live}
use Rattle.ft_shape.proofs.InsertLemmas.{leaf_heights, leaf_inserts}
use Rattle.ft_shape.proofs.ToldLemmas.{linked_keeps}
use Rattle.ft_overlap.specs.Inside.{IsSpan, SpansLast, IsLeafPlace}
use Rattle.ft_overlap.proofs.Inserted.{linked_known, no_up, beside_up, beside_block, beside_child, beside_place}
use Rattle.ft_overlap.proofs.grow.insert_front.Goals as goal

no_first : (xs : List ℕ) → 1 ≤ length xs → first xs ≡ None → ⊥
no_first [] h e = omega arith
no_first (x ∷ xs) h e = cc

pub unreachable-requires : goal.unreachable-requires
unreachable-requires g c =
    no_first c.args.arena.now.leaves (some_leaf c.args.arena.now c.args.root c.requires.tree) (sym c.first.ensures.value ∙ c.in_default.is)

pub unreachable-requires-in_default-parent : goal.unreachable-requires-in_default-parent
unreachable-requires-in_default-parent g c =
    let is_first : Some c.in-Some.first ≡ first c.args.arena.now.leaves = sym c.in-Some.is ∙ c.first.ensures.value in
    let front = front_is c.args.arena.now.leaves c.in-Some.first c.link_after-id.result is_first
    (λ x. omega (arith, c.requires.tree.shape.forest.leaf_once x, count_some_le (leaf_value c.args.arena.now x))) in
    let live : IsSome (leaf_value c.args.arena.now c.in-Some.first) = leaves_live c.args.arena.now c.requires.tree.shape.forest c.in-Some.first front.1 in
    let l : c.link_after-id.new.self.leaves ≡ insert_before c.args.arena.now.leaves c.in-Some.first c.link_after-id.result = c.link_after-id.ensures.leaves ∙ front.0 in
    no_up (parent_of c.link_after-id.new.self c.in-Some.first) (beside_up c.args.arena.now c.link_after-id.new.self c.args.root c.in-Some.first c.link_after-id.result
    0 (λ xs. insert_before xs c.in-Some.first c.link_after-id.result)
    (before_is_edit c.in-Some.first c.link_after-id.result) c.args.item c.requires.tree live c.link_after-id.ensures.fresh c.link_after-id.ensures.changes l
    c.link_after-id.ensures.sound)
    (sym c.parent.ensures ∙ c.in_default-parent.is)

pub child_place-place-requires-clause-block : goal.child_place-place-requires-clause-block
child_place-place-requires-clause-block g c =
    let is_first : Some c.in-Some.first ≡ first c.args.arena.now.leaves = sym c.in-Some.is ∙ c.first.ensures.value in
    let front = front_is c.args.arena.now.leaves c.in-Some.first c.link_after-id.result is_first
    (λ x. omega (arith, c.requires.tree.shape.forest.leaf_once x, count_some_le (leaf_value c.args.arena.now x))) in
    let live : IsSome (leaf_value c.args.arena.now c.in-Some.first) = leaves_live c.args.arena.now c.requires.tree.shape.forest c.in-Some.first front.1 in
    let l : c.link_after-id.new.self.leaves ≡ insert_before c.args.arena.now.leaves c.in-Some.first c.link_after-id.result = c.link_after-id.ensures.leaves ∙ front.0 in
    beside_block c.args.arena.now c.link_after-id.new.self c.args.root c.in-Some.first c.link_after-id.result 0 (λ xs. insert_before xs c.in-Some.first
    c.link_after-id.result)
    (before_is_edit c.in-Some.first c.link_after-id.result) c.args.item c.requires.tree live c.link_after-id.ensures.fresh c.link_after-id.ensures.changes l
    c.link_after-id.ensures.sound
    c.in-Some-parent.block (sym c.parent.ensures ∙ c.in-Some-parent.is)

pub child_place-place-requires-clause-child : goal.child_place-place-requires-clause-child
child_place-place-requires-clause-child g c =
    let is_first : Some c.in-Some.first ≡ first c.args.arena.now.leaves = sym c.in-Some.is ∙ c.first.ensures.value in
    let front = front_is c.args.arena.now.leaves c.in-Some.first c.link_after-id.result is_first
    (λ x. omega (arith, c.requires.tree.shape.forest.leaf_once x, count_some_le (leaf_value c.args.arena.now x))) in
    let live : IsSome (leaf_value c.args.arena.now c.in-Some.first) = leaves_live c.args.arena.now c.requires.tree.shape.forest c.in-Some.first front.1 in
    let l : c.link_after-id.new.self.leaves ≡ insert_before c.args.arena.now.leaves c.in-Some.first c.link_after-id.result = c.link_after-id.ensures.leaves ∙ front.0 in
    beside_child c.args.arena.now c.link_after-id.new.self c.args.root c.in-Some.first c.link_after-id.result 0 (λ xs. insert_before xs c.in-Some.first
    c.link_after-id.result)
    (before_is_edit c.in-Some.first c.link_after-id.result) c.args.item c.requires.tree live c.link_after-id.ensures.fresh c.link_after-id.ensures.changes l
    c.link_after-id.ensures.sound
    c.in-Some-parent.block (sym c.parent.ensures ∙ c.in-Some-parent.is)

pub put_leaf-requires-clause-place : goal.put_leaf-requires-clause-place
put_leaf-requires-clause-place g c =
    let is_first : Some c.in-Some.first ≡ first c.args.arena.now.leaves = sym c.in-Some.is ∙ c.first.ensures.value in
    let front = front_is c.args.arena.now.leaves c.in-Some.first c.link_after-id.result is_first
    (λ x. omega (arith, c.requires.tree.shape.forest.leaf_once x, count_some_le (leaf_value c.args.arena.now x))) in
    let live : IsSome (leaf_value c.args.arena.now c.in-Some.first) = leaves_live c.args.arena.now c.requires.tree.shape.forest c.in-Some.first front.1 in
    let l : c.link_after-id.new.self.leaves ≡ insert_before c.args.arena.now.leaves c.in-Some.first c.link_after-id.result = c.link_after-id.ensures.leaves ∙ front.0 in
    let e : c.child_place-place.result.0 + 0 ≡ c.child_place-place.result.0 = omega arith in
    subst (λ (n : ℕ). IsLeafPlace c.link_after-id.new.self c.args.root c.in-Some-parent.block n c.link_after-id.result c.args.item) e
    (beside_place c.args.arena.now c.link_after-id.new.self c.args.root c.in-Some.first c.link_after-id.result 0 (λ xs. insert_before xs c.in-Some.first
    c.link_after-id.result)
    (before_is_edit c.in-Some.first c.link_after-id.result) c.args.item c.requires.tree live c.link_after-id.ensures.fresh c.link_after-id.ensures.changes l
    c.link_after-id.ensures.sound
    c.in-Some-parent.block (sym c.parent.ensures ∙ c.in-Some-parent.is) c.child_place-place.result.0 c.child_place-place.ensures.place (omega arith))

pub put_leaf-requires-clause-one : goal.put_leaf-requires-clause-one
put_leaf-requires-clause-one g c =
    linked_keeps IsSpan c.args.arena.now c.link_after-id.new.self c.link_after-id.result c.args.item c.requires.tree.shape.forest c.link_after-id.ensures.fresh
    c.link_after-id.ensures.changes c.requires.one None

pub put_leaf-requires-clause-last : goal.put_leaf-requires-clause-last
put_leaf-requires-clause-last g c =
    linked_keeps (SpansLast (g.P.Places.end_place c.args.places.now)) c.args.arena.now c.link_after-id.new.self c.link_after-id.result c.args.item
    c.requires.tree.shape.forest c.link_after-id.ensures.fresh c.link_after-id.ensures.changes c.requires.last None

pub put_leaf-requires-clause-known : goal.put_leaf-requires-clause-known
put_leaf-requires-clause-known g c =
    linked_known (g.P.Places.Knows c.args.places.now) c.args.arena.now c.link_after-id.new.self c.link_after-id.result c.args.item c.link_after-id.ensures.changes
    c.requires.item c.requires.known

pub put_leaf-requires-clause-spare : goal.put_leaf-requires-clause-spare
put_leaf-requires-clause-spare g c =
    let is_first : Some c.in-Some.first ≡ first c.args.arena.now.leaves = sym c.in-Some.is ∙ c.first.ensures.value in
    let front = front_is c.args.arena.now.leaves c.in-Some.first c.link_after-id.result is_first
    (λ x. omega (arith, c.requires.tree.shape.forest.leaf_once x, count_some_le (leaf_value c.args.arena.now x))) in
    let live : IsSome (leaf_value c.args.arena.now c.in-Some.first) = leaves_live c.args.arena.now c.requires.tree.shape.forest c.in-Some.first front.1 in
    let l : c.link_after-id.new.self.leaves ≡ insert_before c.args.arena.now.leaves c.in-Some.first c.link_after-id.result = c.link_after-id.ensures.leaves ∙ front.0 in
    let h = leaf_heights c.args.arena.now c.link_after-id.new.self c.args.root c.in-Some.first c.link_after-id.result 0 (λ xs. insert_before xs c.in-Some.first
    c.link_after-id.result)
    (before_is_edit c.in-Some.first c.link_after-id.result) c.args.item c.requires.tree live c.link_after-id.ensures.fresh c.link_after-id.ensures.changes l
    c.link_after-id.ensures.sound
    c.args.root in
    omega (arith, h, c.link_after-id.ensures.spare, c.requires.spare)

pub put_leaf-requires-clause-tall : goal.put_leaf-requires-clause-tall
put_leaf-requires-clause-tall g c =
    let is_first : Some c.in-Some.first ≡ first c.args.arena.now.leaves = sym c.in-Some.is ∙ c.first.ensures.value in
    let front = front_is c.args.arena.now.leaves c.in-Some.first c.link_after-id.result is_first
    (λ x. omega (arith, c.requires.tree.shape.forest.leaf_once x, count_some_le (leaf_value c.args.arena.now x))) in
    let live : IsSome (leaf_value c.args.arena.now c.in-Some.first) = leaves_live c.args.arena.now c.requires.tree.shape.forest c.in-Some.first front.1 in
    let l : c.link_after-id.new.self.leaves ≡ insert_before c.args.arena.now.leaves c.in-Some.first c.link_after-id.result = c.link_after-id.ensures.leaves ∙ front.0 in
    let h = leaf_heights c.args.arena.now c.link_after-id.new.self c.args.root c.in-Some.first c.link_after-id.result 0 (λ xs. insert_before xs c.in-Some.first
    c.link_after-id.result)
    (before_is_edit c.in-Some.first c.link_after-id.result) c.args.item c.requires.tree live c.link_after-id.ensures.fresh c.link_after-id.ensures.changes l
    c.link_after-id.ensures.sound
    c.args.root in
    omega (arith, h, height_fits c.args.arena.now c.args.root c.requires.tree c.first.ensures.few)

pub returns-clause-inserts : goal.returns-clause-inserts
returns-clause-inserts g c =
    let is_first : Some c.in-Some.first ≡ first c.args.arena.now.leaves = sym c.in-Some.is ∙ c.first.ensures.value in
    let front = front_is c.args.arena.now.leaves c.in-Some.first c.link_after-id.result is_first
    (λ x. omega (arith, c.requires.tree.shape.forest.leaf_once x, count_some_le (leaf_value c.args.arena.now x))) in
    let live : IsSome (leaf_value c.args.arena.now c.in-Some.first) = leaves_live c.args.arena.now c.requires.tree.shape.forest c.in-Some.first front.1 in
    let l : c.link_after-id.new.self.leaves ≡ insert_before c.args.arena.now.leaves c.in-Some.first c.link_after-id.result = c.link_after-id.ensures.leaves ∙ front.0 in
    let i = leaf_inserts c.args.arena.now c.link_after-id.new.self c.args.root c.in-Some.first c.link_after-id.result 0 (λ xs. insert_before xs c.in-Some.first
    c.link_after-id.result)
    (before_is_edit c.in-Some.first c.link_after-id.result) c.args.item c.requires.tree live c.link_after-id.ensures.fresh c.link_after-id.ensures.changes l
    c.link_after-id.ensures.sound
    c.put_leaf.new.arena c.put_leaf.ensures.leaves c.put_leaf.ensures.leaf_values in
    record { leaves = i.leaves ∙ sym front.0; fresh = i.fresh; value = i.value; others = i.others }
