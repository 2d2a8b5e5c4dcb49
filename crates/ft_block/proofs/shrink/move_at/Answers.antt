use Rattle.std.proofs.Common.{◌≡◌, ◌≢◌, ◌∷◌, ℕ, List, Option, Some, IsSome, length, ap, sym, subst, ◌∙◌, arith, None}
use Rattle.std.specs.Prelude.{slice_index_or}
use Rattle.std.proofs.lemmas.Result.{on_ok_weaker, IfOk-from_err}
use Rattle.ft_arena.specs.Ids.{times, insert_after, put_after, without, first, after}
use Rattle.ft_arena.specs.Forest.{Forest, IsPlace, leaf_value, Entry, leaf_of_entry}
use Rattle.ft_arena.proofs.IdLemmas.{times-without_same}
use Rattle.ft_shape.specs.declared.headed.Headed.{Headed}
use Rattle.ft_block.specs.declared.summaries.Summary.{Summary}
use Rattle.ft_shape.specs.Tree.{insert_before, height_of}
use Rattle.ft_block.specs.Tree.{by_size}
use Rattle.ft_shape.proofs.EditLemmas.{after_is_edit, before_is_edit, front_is}
use Rattle.ft_shape.proofs.FitLemmas.{leaf_total, leaves_live}
use Rattle.ft_shape.proofs.InsertLemmas.{room_leaves, room_values}
use Rattle.ft_shape.proofs.WithoutLemmas.{times-without_le}
use Rattle.ft_block.proofs.AddLemmas.{moved_adds, moved_stay}
use Rattle.ft_block.proofs.KeptLemmas.{on_ok_both}
use Rattle.ft_block.proofs.MovedLemmas.{after_first, without_once, without_le, without_some}
use Rattle.ft_block.proofs.shrink.move_at.Goals as goal

pub detach-requires-clause-tree : goal.detach-requires-clause-tree
detach-requires-clause-tree g c = c.requires.tree

pub detach-requires-clause-sums : goal.detach-requires-clause-sums
detach-requires-clause-sums g c = c.requires.sums

pub detach-requires-clause-floors : goal.detach-requires-clause-floors
detach-requires-clause-floors g c = c.requires.floors

pub detach-requires-clause-live : goal.detach-requires-clause-live
detach-requires-clause-live g c = c.requires.live

pub detach-requires-clause-more : goal.detach-requires-clause-more
detach-requires-clause-more g c = c.requires.more

pub detach-requires-clause-fits : goal.detach-requires-clause-fits
detach-requires-clause-fits g c = c.requires.fits

pub leaf_at-requires : goal.leaf_at-requires
leaf_at-requires g c = subst (λ (s : Forest g.row.L.Denot (Headed Summary)). IsSome (leaf_value s c.args.id)) (sym c.reserve.ensures.kept)
    c.in_ok-root.ensures.apart.live

pub move_after-requires-clause-live : goal.move_after-requires-clause-live
move_after-requires-clause-live g c =
    subst (λ (s : Forest g.row.L.Denot (Headed Summary)). IsSome (leaf_value s c.args.id)) (sym c.reserve.ensures.kept) c.in_ok-root.ensures.apart.live

pub move_after-requires-clause-place : goal.move_after-requires-clause-place
move_after-requires-clause-place g c =
    let there : IsSome (leaf_value c.args.arena.now c.in-Some.at) = subst (λ (o : Option ℕ). IsPlace c.args.arena.now o) c.in-Some.is c.requires.at in
    let at_leaf : IsSome (leaf_value c.detach.new.arena c.in-Some.at) =
    subst (λ (o : Option g.row.L.Denot). IsSome o) (sym (c.in_ok-root.ensures.leaf_values c.in-Some.at)) there in
    subst (λ (s : Forest g.row.L.Denot (Headed Summary)). IsSome (leaf_value s c.in-Some.at)) (sym c.reserve.ensures.kept) at_leaf

pub move_after-requires-clause-differ : goal.move_after-requires-clause-differ
move_after-requires-clause-differ g c = λ e. c.requires.differ (c.in-Some.is ∙ e)

pub add_after-requires : goal.add_after-requires
add_after-requires g c =
    let there : IsSome (leaf_value c.args.arena.now c.in-Some.at) = subst (λ (o : Option ℕ). IsPlace c.args.arena.now o) c.in-Some.is c.requires.at in
    let at_leaf : IsSome (leaf_value c.detach.new.arena c.in-Some.at) =
    subst (λ (o : Option g.row.L.Denot). IsSome o) (sym (c.in_ok-root.ensures.leaf_values c.in-Some.at)) there in
    let differ : c.in-Some.at ≢ c.args.id = (λ e. c.requires.differ (c.in-Some.is ∙ ap Some e)) in
    let leaves : c.move_after.new.self.leaves ≡ insert_after (without c.detach.new.arena.leaves c.args.id) c.in-Some.at c.args.id =
    c.move_after.ensures.leaves ∙ ap (λ (zs : List ℕ). insert_after (without zs c.args.id) c.in-Some.at c.args.id)
    (room_leaves c.detach.new.arena c.reserve.new.self c.reserve.ensures.kept) in
    moved_adds c.detach.new.arena c.reserve.new.self c.move_after.new.self c.in_ok-root.root c.args.id c.in-Some.at 1
    (λ xs. insert_after xs c.in-Some.at c.args.id) (after_is_edit c.in-Some.at c.args.id) c.in_ok-root.ensures.apart c.reserve.ensures.kept
    c.move_after.ensures.nodes c.move_after.ensures.sound leaves at_leaf differ
    g.L.Leaf.size g.L.Leaf.element c.args.floor (height_of c.args.arena.now c.args.root) c.in_ok-exchange.exchange c.leaf_at.result.now
    (sym (room_values c.detach.new.arena c.reserve.new.self c.reserve.ensures.kept c.args.id) ∙ c.leaf_at.ensures.value) c.move_after.ensures.spare
    (omega (arith, c.in_ok-reserve.ensures.room, c.nodes_needed-needed.ensures)) (omega (arith, c.nodes_needed-needed.ensures))
    c.in_ok-root.ensures.low c.in_ok-root.ensures.sums c.in_ok-root.ensures.floors
    (omega (
      arith,
      leaf_total (by_size g.L.Leaf.size) c.args.arena.now c.detach.new.arena c.requires.tree.shape.forest c.in_ok-root.ensures.leaves
          c.in_ok-root.ensures.leaf_values,
      c.requires.fits,
    )) c.in_ok-exchange.ensures

pub returns-in-Some-clause-tree : goal.returns-in-Some-clause-tree
returns-in-Some-clause-tree g c = c.add_after.ensures.tree

pub returns-in-Some-clause-sums : goal.returns-in-Some-clause-sums
returns-in-Some-clause-sums g c = c.add_after.ensures.sums

pub returns-in-Some-clause-floors : goal.returns-in-Some-clause-floors
returns-in-Some-clause-floors g c = c.add_after.ensures.floors

pub returns-in-Some-clause-moves : goal.returns-in-Some-clause-moves
returns-in-Some-clause-moves g c =
    let there : IsSome (leaf_value c.args.arena.now c.in-Some.at) = subst (λ (o : Option ℕ). IsPlace c.args.arena.now o) c.in-Some.is c.requires.at in
    let at_leaf : IsSome (leaf_value c.detach.new.arena c.in-Some.at) =
    subst (λ (o : Option g.row.L.Denot). IsSome o) (sym (c.in_ok-root.ensures.leaf_values c.in-Some.at)) there in
    let differ : c.in-Some.at ≢ c.args.id = (λ e. c.requires.differ (c.in-Some.is ∙ ap Some e)) in
    let leaves : c.move_after.new.self.leaves ≡ insert_after (without c.detach.new.arena.leaves c.args.id) c.in-Some.at c.args.id =
    c.move_after.ensures.leaves ∙ ap (λ (zs : List ℕ). insert_after (without zs c.args.id) c.in-Some.at c.args.id)
    (room_leaves c.detach.new.arena c.reserve.new.self c.reserve.ensures.kept) in
    let stay = moved_stay c.detach.new.arena c.reserve.new.self c.move_after.new.self c.in_ok-root.root c.args.id c.in-Some.at 1
    (λ xs. insert_after xs c.in-Some.at c.args.id) (after_is_edit c.in-Some.at c.args.id) c.in_ok-root.ensures.apart c.reserve.ensures.kept
    c.move_after.ensures.nodes c.move_after.ensures.sound leaves at_leaf differ in
    on_ok_weaker c.add_after.result (λ h. record {
      leaves = h.0 ∙ leaves ∙ ap (λ (zs : List ℕ). insert_after (without zs c.args.id) c.in-Some.at c.args.id) c.in_ok-root.ensures.leaves
          ∙ ap (λ (o : Option ℕ). put_after (without c.args.arena.now.leaves c.args.id) o c.args.id) (sym c.in-Some.is);
      values = λ x. h.1 x ∙ stay x ∙ c.in_ok-root.ensures.leaf_values x;
    }) (on_ok_both _ _ c.add_after.result c.add_after.ensures.leaves c.add_after.ensures.leaf_values)

pub move_after-requires-in-None-clause-live : goal.move_after-requires-in-None-clause-live
move_after-requires-in-None-clause-live g c =
    subst (λ (s : Forest g.row.L.Denot (Headed Summary)). IsSome (leaf_value s c.args.id)) (sym c.reserve.ensures.kept)
    c.in_ok-root.ensures.apart.live

pub unreachable-requires : goal.unreachable-requires
unreachable-requires g c =
    let all : c.move_after-in-None.new.self.leaves ≡ c.args.id ∷ without c.detach.new.arena.leaves c.args.id =
    c.move_after-in-None.ensures.leaves ∙ ap (λ (zs : List ℕ). c.args.id ∷ without zs c.args.id)
    (room_leaves c.detach.new.arena c.reserve.new.self c.reserve.ensures.kept) in
    without_some c.detach.new.arena.leaves c.args.id (omega (arith, ap length c.in_ok-root.ensures.leaves, c.requires.more))
    (without_le c.detach.new.arena c.in_ok-root.ensures.apart.shape.forest c.args.id) (sym
    (after_first c.args.id (without c.detach.new.arena.leaves c.args.id))
    ∙ ap (λ (zs : List ℕ). after zs c.args.id) (sym all) ∙ sym c.next.ensures ∙ c.in_default.is)

pub add_before-requires : goal.add_before-requires
add_before-requires g c =
    let all : c.move_after-in-None.new.self.leaves ≡ c.args.id ∷ without c.detach.new.arena.leaves c.args.id =
    c.move_after-in-None.ensures.leaves ∙ ap (λ (zs : List ℕ). c.args.id ∷ without zs c.args.id)
    (room_leaves c.detach.new.arena c.reserve.new.self c.reserve.ensures.kept) in
    let is_first : Some c.in-Some-next.first ≡ first (without c.detach.new.arena.leaves c.args.id) =
    sym c.in-Some-next.is ∙ c.next.ensures ∙ ap (λ (zs : List ℕ). after zs c.args.id) all
    ∙ after_first c.args.id (without c.detach.new.arena.leaves c.args.id) in
    let front = front_is (without c.detach.new.arena.leaves c.args.id) c.in-Some-next.first c.args.id is_first
    (without_once c.detach.new.arena c.in_ok-root.ensures.apart.shape.forest c.args.id) in
    let leaves : c.move_after-in-None.new.self.leaves ≡ insert_before (without c.detach.new.arena.leaves c.args.id) c.in-Some-next.first c.args.id =
    all ∙ front.0 in
    let at_leaf : IsSome (leaf_value c.detach.new.arena c.in-Some-next.first) =
    leaves_live c.detach.new.arena c.in_ok-root.ensures.apart.shape.forest c.in-Some-next.first
    (omega (arith, front.1, times-without_le c.detach.new.arena.leaves c.args.id c.in-Some-next.first)) in
    let differ : c.in-Some-next.first ≢ c.args.id =
    λ e. omega (arith, front.1, ap (times (without c.detach.new.arena.leaves c.args.id)) e, times-without_same c.detach.new.arena.leaves c.args.id) in
    moved_adds c.detach.new.arena c.reserve.new.self c.move_after-in-None.new.self c.in_ok-root.root c.args.id c.in-Some-next.first 0
    (λ xs. insert_before xs c.in-Some-next.first c.args.id) (before_is_edit c.in-Some-next.first c.args.id) c.in_ok-root.ensures.apart
    c.reserve.ensures.kept c.move_after-in-None.ensures.nodes c.move_after-in-None.ensures.sound leaves at_leaf differ
    g.L.Leaf.size g.L.Leaf.element c.args.floor (height_of c.args.arena.now c.args.root) c.in_ok-exchange.exchange c.leaf_at.result.now
    (sym (room_values c.detach.new.arena c.reserve.new.self c.reserve.ensures.kept c.args.id) ∙ c.leaf_at.ensures.value) c.move_after-in-None.ensures.spare
    (omega (arith, c.in_ok-reserve.ensures.room, c.nodes_needed-needed.ensures)) (omega (arith, c.nodes_needed-needed.ensures))
    c.in_ok-root.ensures.low c.in_ok-root.ensures.sums c.in_ok-root.ensures.floors
    (omega (
      arith,
      leaf_total (by_size g.L.Leaf.size) c.args.arena.now c.detach.new.arena c.requires.tree.shape.forest c.in_ok-root.ensures.leaves
          c.in_ok-root.ensures.leaf_values,
      c.requires.fits,
    )) c.in_ok-exchange.ensures

pub returns-clause-tree : goal.returns-clause-tree
returns-clause-tree g c = c.add_before.ensures.tree

pub returns-clause-sums : goal.returns-clause-sums
returns-clause-sums g c = c.add_before.ensures.sums

pub returns-clause-floors : goal.returns-clause-floors
returns-clause-floors g c = c.add_before.ensures.floors

pub returns-clause-moves : goal.returns-clause-moves
returns-clause-moves g c =
    let all : c.move_after-in-None.new.self.leaves ≡ c.args.id ∷ without c.detach.new.arena.leaves c.args.id =
    c.move_after-in-None.ensures.leaves ∙ ap (λ (zs : List ℕ). c.args.id ∷ without zs c.args.id)
    (room_leaves c.detach.new.arena c.reserve.new.self c.reserve.ensures.kept) in
    let is_first : Some c.in-Some-next.first ≡ first (without c.detach.new.arena.leaves c.args.id) =
    sym c.in-Some-next.is ∙ c.next.ensures ∙ ap (λ (zs : List ℕ). after zs c.args.id) all
    ∙ after_first c.args.id (without c.detach.new.arena.leaves c.args.id) in
    let front = front_is (without c.detach.new.arena.leaves c.args.id) c.in-Some-next.first c.args.id is_first
    (without_once c.detach.new.arena c.in_ok-root.ensures.apart.shape.forest c.args.id) in
    let leaves : c.move_after-in-None.new.self.leaves ≡ insert_before (without c.detach.new.arena.leaves c.args.id) c.in-Some-next.first c.args.id =
    all ∙ front.0 in
    let at_leaf : IsSome (leaf_value c.detach.new.arena c.in-Some-next.first) =
    leaves_live c.detach.new.arena c.in_ok-root.ensures.apart.shape.forest c.in-Some-next.first
    (omega (arith, front.1, times-without_le c.detach.new.arena.leaves c.args.id c.in-Some-next.first)) in
    let differ : c.in-Some-next.first ≢ c.args.id =
    λ e. omega (arith, front.1, ap (times (without c.detach.new.arena.leaves c.args.id)) e, times-without_same c.detach.new.arena.leaves c.args.id) in
    let stay = moved_stay c.detach.new.arena c.reserve.new.self c.move_after-in-None.new.self c.in_ok-root.root c.args.id c.in-Some-next.first 0
    (λ xs. insert_before xs c.in-Some-next.first c.args.id) (before_is_edit c.in-Some-next.first c.args.id) c.in_ok-root.ensures.apart
    c.reserve.ensures.kept c.move_after-in-None.ensures.nodes c.move_after-in-None.ensures.sound leaves at_leaf differ in
    on_ok_weaker c.add_before.result (λ h. record {
      leaves = h.0 ∙ all ∙ ap (λ (zs : List ℕ). c.args.id ∷ without zs c.args.id) c.in_ok-root.ensures.leaves
          ∙ ap (λ (o : Option ℕ). put_after (without c.args.arena.now.leaves c.args.id) o c.args.id) (sym c.in-None.is);
      values = λ x. h.1 x ∙ stay x ∙ c.in_ok-root.ensures.leaf_values x;
    }) (on_ok_both _ _ c.add_before.result c.add_before.ensures.leaves c.add_before.ensures.leaf_values)

pub nodes_needed-needed-requires : goal.nodes_needed-needed-requires
nodes_needed-needed-requires g c = c.requires.tree

pub move_after-requires-in-None-clause-place : goal.move_after-requires-in-None-clause-place
move_after-requires-in-None-clause-place g c = tt

pub move_after-requires-in-None-clause-differ : goal.move_after-requires-in-None-clause-differ
move_after-requires-in-None-clause-differ g c = λ e. cc e

pub next-requires : goal.next-requires
next-requires g c =
    let live = subst (λ (s : Forest g.row.L.Denot (Headed Summary)). IsSome (leaf_value s c.args.id)) (sym c.reserve.ensures.kept)
    c.in_ok-root.ensures.apart.live in
    subst (λ (ns : List (Option (Entry g.row.L.Denot (Headed Summary)))). IsSome (leaf_of_entry (slice_index_or ns c.args.id None)))
    (sym c.move_after-in-None.ensures.nodes) live

pub returns-in_err-root : goal.returns-in_err-root
returns-in_err-root g c =
    let r = c.from_residual in
    record {
      tree = IfOk-from_err r.result _ r.ensures.0;
      sums = IfOk-from_err r.result _ r.ensures.0;
      floors = IfOk-from_err r.result _ r.ensures.0;
      moves = IfOk-from_err r.result _ r.ensures.0;
    }

pub returns-in_err-reserve : goal.returns-in_err-reserve
returns-in_err-reserve g c =
    let r = c.from_residual-in_err-reserve in
    record {
      tree = IfOk-from_err r.result _ r.ensures.0;
      sums = IfOk-from_err r.result _ r.ensures.0;
      floors = IfOk-from_err r.result _ r.ensures.0;
      moves = IfOk-from_err r.result _ r.ensures.0;
    }

pub returns-in_err-exchange : goal.returns-in_err-exchange
returns-in_err-exchange g c =
    let r = c.from_residual-in_err-exchange in
    record {
      tree = IfOk-from_err r.result _ r.ensures.0;
      sums = IfOk-from_err r.result _ r.ensures.0;
      floors = IfOk-from_err r.result _ r.ensures.0;
      moves = IfOk-from_err r.result _ r.ensures.0;
    }
