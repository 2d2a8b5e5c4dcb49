use Rattle.std.proofs.Common.{◌≡◌, ℕ, List, ap, ◌∙◌, IsSome, subst, sym, arith}
use Rattle.ft_arena.specs.Ids.{insert_after}
use Rattle.ft_shape.proofs.EditLemmas.{after_is_edit}
use Rattle.ft_shape.proofs.InsertLemmas.{room_leaves}
use Rattle.ft_block.proofs.AddLemmas.{linked_adds, linked_inserts}
use Rattle.ft_arena.specs.Forest.{Forest, leaf_value}
use Rattle.ft_shape.specs.declared.headed.Headed.{Headed}
use Rattle.ft_block.specs.declared.summaries.Summary.{Summary}
use Rattle.std.proofs.lemmas.Result.{IfOk-from_err}
use Rattle.ft_block.proofs.grow.insert_at.Goals as goal

pub room_for-requires : goal.room_for-requires
room_for-requires g c = c.requires.tree

pub add_after-requires : goal.add_after-requires
add_after-requires g c =
    let leaves : c.link_after-id.new.self.leaves ≡ insert_after c.args.arena.now.leaves c.args.at c.link_after-id.result =
    c.link_after-id.ensures.leaves ∙ ap (λ (zs : List ℕ). insert_after zs c.args.at c.link_after-id.result)
    (room_leaves c.args.arena.now c.room_for.new.arena c.room_for.ensures.kept) in
    linked_adds c.args.arena.now c.room_for.new.arena c.link_after-id.new.self c.args.root c.args.at c.link_after-id.result 1
    (λ xs. insert_after xs c.args.at c.link_after-id.result) (after_is_edit c.args.at c.link_after-id.result) c.args.leaf c.requires.tree
    c.requires.at
    c.room_for.ensures.kept c.link_after-id.ensures.fresh c.link_after-id.ensures.changes leaves c.link_after-id.ensures.sound
    g.L.Leaf.size g.L.Leaf.element c.args.floor
    c.in_ok-exchange.exchange c.link_after-id.ensures.spare c.in_ok-exchange.ensures.room c.in_ok-exchange.ensures.tall
    c.requires.sums c.requires.floors c.requires.fits c.in_ok-exchange.ensures.exchange

pub returns-clause-inserts : goal.returns-clause-inserts
returns-clause-inserts g c =
    let leaves : c.link_after-id.new.self.leaves ≡ insert_after c.args.arena.now.leaves c.args.at c.link_after-id.result =
    c.link_after-id.ensures.leaves ∙ ap (λ (zs : List ℕ). insert_after zs c.args.at c.link_after-id.result)
    (room_leaves c.args.arena.now c.room_for.new.arena c.room_for.ensures.kept) in
    linked_inserts c.args.arena.now c.room_for.new.arena c.link_after-id.new.self c.args.root c.args.at c.link_after-id.result 1
    (λ xs. insert_after xs c.args.at c.link_after-id.result) (after_is_edit c.args.at c.link_after-id.result) c.args.leaf c.requires.tree
    c.requires.at
    c.room_for.ensures.kept c.link_after-id.ensures.fresh c.link_after-id.ensures.changes leaves c.link_after-id.ensures.sound
    c.add_after.new.arena c.in_ok-top.ensures.leaves c.in_ok-top.ensures.leaf_values

pub returns-clause-tree : goal.returns-clause-tree
returns-clause-tree g c = c.in_ok-top.ensures.tree

pub returns-clause-sums : goal.returns-clause-sums
returns-clause-sums g c = c.in_ok-top.ensures.sums

pub returns-clause-floors : goal.returns-clause-floors
returns-clause-floors g c = c.in_ok-top.ensures.floors

pub link_after-id-requires-clause-room : goal.link_after-id-requires-clause-room
link_after-id-requires-clause-room g c = omega (arith, c.in_ok-exchange.ensures.room)

pub link_after-id-requires-clause-place : goal.link_after-id-requires-clause-place
link_after-id-requires-clause-place g c = subst (λ (s : Forest g.row.L.Denot (Headed Summary)). IsSome (leaf_value s c.args.at)) (sym
    c.room_for.ensures.kept) c.requires.at

pub returns-in_err-exchange : goal.returns-in_err-exchange
returns-in_err-exchange g c =
    let r = c.from_residual in
    record {
      tree = IfOk-from_err r.result _ r.ensures.0;
      sums = IfOk-from_err r.result _ r.ensures.0;
      floors = IfOk-from_err r.result _ r.ensures.0;
      inserts = IfOk-from_err r.result _ r.ensures.0;
    }

pub returns-in_err-top : goal.returns-in_err-top
returns-in_err-top g c =
    let r = c.from_residual-in_err-top in
    record {
      tree = IfOk-from_err r.result _ r.ensures.0;
      sums = IfOk-from_err r.result _ r.ensures.0;
      floors = IfOk-from_err r.result _ r.ensures.0;
      inserts = IfOk-from_err r.result _ r.ensures.0;
    }
