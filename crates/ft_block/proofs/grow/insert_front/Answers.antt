use Rattle.std.proofs.Common.{[], length, ◌≡◌, ◌≤◌, ℕ, List, ◌∷◌, None, IsSome, ap, sym, ◌∙◌, arith}
use Rattle.ft_arena.specs.Ids.{first}
use Rattle.ft_arena.specs.Forest.{leaf_value}
use Rattle.ft_shape.specs.Tree.{insert_before}
use Rattle.ft_shape.proofs.EditLemmas.{before_is_edit, front_is}
use Rattle.ft_shape.proofs.FitLemmas.{leaves_live}
use Rattle.ft_shape.proofs.InsertLemmas.{room_leaves}
use Rattle.ft_shape.proofs.Levels.{some_leaf}
use Rattle.ft_block.proofs.AddLemmas.{linked_adds, linked_inserts}
use Rattle.ft_block.proofs.MovedLemmas.{without_le}
use Rattle.std.proofs.lemmas.Result.{IfOk-from_err}
use Rattle.ft_block.proofs.grow.insert_front.Goals as goal

no_first : (xs : List ℕ) → 1 ≤ length xs → first xs ≡ None → ⊥
no_first [] h e = omega arith
no_first (x ∷ xs) h e = cc

pub unreachable-requires : goal.unreachable-requires
unreachable-requires g c =
    no_first c.args.arena.now.leaves (some_leaf c.args.arena.now c.args.root c.requires.tree) (sym c.first.ensures.value ∙ c.in_default.is)

pub room_for-requires : goal.room_for-requires
room_for-requires g c = c.requires.tree

pub add_before-requires : goal.add_before-requires
add_before-requires g c =
    let front = front_is c.args.arena.now.leaves c.in-Some.first c.link_after-id.result (sym c.in-Some.is ∙ c.first.ensures.value)
    (without_le c.args.arena.now c.requires.tree.shape.forest) in
    let live : IsSome (leaf_value c.args.arena.now c.in-Some.first) = leaves_live c.args.arena.now c.requires.tree.shape.forest c.in-Some.first front.1 in
    let leaves : c.link_after-id.new.self.leaves ≡ insert_before c.args.arena.now.leaves c.in-Some.first c.link_after-id.result =
    c.link_after-id.ensures.leaves ∙ ap (λ (zs : List ℕ). c.link_after-id.result ∷ zs)
    (room_leaves c.args.arena.now c.room_for.new.arena c.room_for.ensures.kept) ∙ front.0 in
    linked_adds c.args.arena.now c.room_for.new.arena c.link_after-id.new.self c.args.root c.in-Some.first c.link_after-id.result 0
    (λ xs. insert_before xs c.in-Some.first c.link_after-id.result) (before_is_edit c.in-Some.first c.link_after-id.result) c.args.leaf c.requires.tree live
    c.room_for.ensures.kept c.link_after-id.ensures.fresh c.link_after-id.ensures.changes leaves c.link_after-id.ensures.sound
    g.L.Leaf.size g.L.Leaf.element c.args.floor
    c.in_ok-exchange.exchange c.link_after-id.ensures.spare c.in_ok-exchange.ensures.room c.in_ok-exchange.ensures.tall
    c.requires.sums c.requires.floors c.requires.fits c.in_ok-exchange.ensures.exchange

pub returns-clause-inserts : goal.returns-clause-inserts
returns-clause-inserts g c =
    let front = front_is c.args.arena.now.leaves c.in-Some.first c.link_after-id.result (sym c.in-Some.is ∙ c.first.ensures.value)
    (without_le c.args.arena.now c.requires.tree.shape.forest) in
    let live : IsSome (leaf_value c.args.arena.now c.in-Some.first) = leaves_live c.args.arena.now c.requires.tree.shape.forest c.in-Some.first front.1 in
    let leaves : c.link_after-id.new.self.leaves ≡ insert_before c.args.arena.now.leaves c.in-Some.first c.link_after-id.result =
    c.link_after-id.ensures.leaves ∙ ap (λ (zs : List ℕ). c.link_after-id.result ∷ zs)
    (room_leaves c.args.arena.now c.room_for.new.arena c.room_for.ensures.kept) ∙ front.0 in
    let i = linked_inserts c.args.arena.now c.room_for.new.arena c.link_after-id.new.self c.args.root c.in-Some.first c.link_after-id.result 0
    (λ xs. insert_before xs c.in-Some.first c.link_after-id.result) (before_is_edit c.in-Some.first c.link_after-id.result) c.args.leaf c.requires.tree live
    c.room_for.ensures.kept c.link_after-id.ensures.fresh c.link_after-id.ensures.changes leaves c.link_after-id.ensures.sound
    c.add_before.new.arena c.in_ok-top.ensures.leaves c.in_ok-top.ensures.leaf_values in
    record { leaves = i.leaves ∙ sym front.0; fresh = i.fresh; value = i.value; others = i.others }

pub returns-clause-tree : goal.returns-clause-tree
returns-clause-tree g c = c.in_ok-top.ensures.tree

pub returns-clause-sums : goal.returns-clause-sums
returns-clause-sums g c = c.in_ok-top.ensures.sums

pub returns-clause-floors : goal.returns-clause-floors
returns-clause-floors g c = c.in_ok-top.ensures.floors

pub link_after-id-requires-clause-room : goal.link_after-id-requires-clause-room
link_after-id-requires-clause-room g c = omega (arith, c.in_ok-exchange.ensures.room)

pub link_after-id-requires-clause-place : goal.link_after-id-requires-clause-place
link_after-id-requires-clause-place g c = tt

pub returns-in_err-exchange : goal.returns-in_err-exchange
returns-in_err-exchange g c =
    let r = c.from_residual in
    record {
      tree = IfOk-from_err r.result _ r.ensures.0;
      sums = IfOk-from_err r.result _ r.ensures.0;
      floors = IfOk-from_err r.result _ r.ensures.0;
      inserts = IfOk-from_err r.result _ r.ensures.0;
    }

pub returns-in_err-top : goal.returns-in_err-top
returns-in_err-top g c =
    let r = c.from_residual-in_err-top in
    record {
      tree = IfOk-from_err r.result _ r.ensures.0;
      sums = IfOk-from_err r.result _ r.ensures.0;
      floors = IfOk-from_err r.result _ r.ensures.0;
      inserts = IfOk-from_err r.result _ r.ensures.0;
    }
