use Rattle.std.proofs.Common.{◌≡◌, ℕ, Option, Some, IsSome, IsSomeAnd, refl, sym, subst, ◌∙◌, arith}
use Rattle.std.proofs.lemmas.Result.{on_ok_weaker, IfOk-weaker, IfOk-from_err}
use Rattle.std.proofs.lemmas.Option.{slice_get_within}
use Rattle.ft_arena.specs.Forest.{entry, kids_of, leaf_value, parent_of, block_value}
use Rattle.ft_block.specs.Tree.{MakesExchange, by_view, by_size}
use Rattle.ft_shape.proofs.EditLemmas.{some_of}
use Rattle.ft_shape.proofs.FitLemmas.{leaf_total}
use Rattle.ft_shape.proofs.InsertLemmas.{leaf_live}
use Rattle.ft_shape.proofs.KindLemmas.{kind_block, kind_height}
use Rattle.ft_shape.proofs.TakenLemmas.{took_id, apart_part, SameShape-apart, taken_apart, taken_sums, taken_owes, tk_p_block, tk_high, tk_child}
use Rattle.ft_block.proofs.Floors.{taken_floors}
use Rattle.ft_shape.proofs.TakenLemmas.{tk_up_block, has_parent}
use Rattle.ft_block.proofs.ExchangeLemmas.{goes}
use Rattle.ft_block.proofs.shrink.set_apart.Goals as goal

pub unreachable-requires : goal.unreachable-requires
unreachable-requires g c = has_parent c.args.arena.now c.args.root c.args.id c.requires.tree c.requires.live (sym c.parent.ensures ∙ c.in_default.is)

pub child_place-place-requires-clause-block : goal.child_place-place-requires-clause-block
child_place-place-requires-clause-block g c =
    let up : parent_of c.args.arena.now c.args.id ≡ Some c.in-Some.block = sym c.parent.ensures ∙ c.in-Some.is in
    tk_up_block c.args.arena.now c.args.root c.args.id c.in-Some.block c.requires.tree up

pub child_place-place-requires-clause-child : goal.child_place-place-requires-clause-child
child_place-place-requires-clause-child g c =
    let up : parent_of c.args.arena.now c.args.id ≡ Some c.in-Some.block = sym c.parent.ensures ∙ c.in-Some.is in
    tk_child c.args.arena.now c.args.root c.args.id c.in-Some.block c.requires.tree up

pub take_child-requires : goal.take_child-requires
take_child-requires g c = slice_get_within (kids_of c.args.arena.now c.in-Some.block) c.child_place-place.result.0 c.args.id
    c.child_place-place.ensures.place

pub exchange_up-requires-clause-tree : goal.exchange_up-requires-clause-tree
exchange_up-requires-clause-tree g c =
    let up : parent_of c.args.arena.now c.args.id ≡ Some c.in-Some.block = sym c.parent.ensures ∙ c.in-Some.is in
    let takes = took_id c.args.arena.now c.take_child.new.self c.in-Some.block c.child_place-place.result.0 c.args.id c.take_child.result
    c.child_place-place.ensures.place
    c.take_child.ensures.child c.take_child.ensures.takes in
    apart_part c.take_child.new.self c.args.root c.args.id (Some c.in-Some.block)
    (taken_apart c.args.arena.now c.take_child.new.self c.args.root c.args.id c.in-Some.block c.child_place-place.result.0 c.requires.tree
    c.requires.live up
    c.take_child.ensures.leaves c.take_child.ensures.sound c.child_place-place.ensures.place takes c.requires.more)

pub exchange_up-requires-clause-fits : goal.exchange_up-requires-clause-fits
exchange_up-requires-clause-fits g c = omega (
  arith,
  leaf_total (by_size g.L.Leaf.size) c.args.arena.now c.take_child.new.self c.requires.tree.shape.forest
      c.take_child.ensures.leaves c.take_child.ensures.takes.leaf_values,
  c.requires.fits,
)

pub exchange_up-requires-clause-block : goal.exchange_up-requires-clause-block
exchange_up-requires-clause-block g c = λ b e.
    let up : parent_of c.args.arena.now c.args.id ≡ Some c.in-Some.block = sym c.parent.ensures ∙ c.in-Some.is in
    let takes = took_id c.args.arena.now c.take_child.new.self c.in-Some.block c.child_place-place.result.0 c.args.id c.take_child.result
    c.child_place-place.ensures.place
    c.take_child.ensures.child c.take_child.ensures.takes in
    let q : c.in-Some.block ≡ b = cc e in
    subst (λ (z : ℕ). IsSome (block_value c.take_child.new.self z)) q
    (tk_p_block c.args.arena.now c.take_child.new.self c.args.root c.args.id c.in-Some.block c.child_place-place.result.0 c.requires.tree
    c.requires.live up
    c.take_child.ensures.leaves c.take_child.ensures.sound c.child_place-place.ensures.place takes c.requires.more)

pub exchange_up-requires-clause-floors : goal.exchange_up-requires-clause-floors
exchange_up-requires-clause-floors g c =
    let up : parent_of c.args.arena.now c.args.id ≡ Some c.in-Some.block = sym c.parent.ensures ∙ c.in-Some.is in
    let takes = took_id c.args.arena.now c.take_child.new.self c.in-Some.block c.child_place-place.result.0 c.args.id c.take_child.result
    c.child_place-place.ensures.place
    c.take_child.ensures.child c.take_child.ensures.takes in
    taken_floors c.args.arena.now c.take_child.new.self c.args.root c.args.id c.in-Some.block c.child_place-place.result.0 c.requires.tree
    c.requires.live up
    c.take_child.ensures.leaves c.take_child.ensures.sound c.child_place-place.ensures.place takes c.requires.more c.args.floor c.requires.floors

pub exchange_up-requires-clause-sums : goal.exchange_up-requires-clause-sums
exchange_up-requires-clause-sums g c = λ view k.
    let up : parent_of c.args.arena.now c.args.id ≡ Some c.in-Some.block = sym c.parent.ensures ∙ c.in-Some.is in
    let takes = took_id c.args.arena.now c.take_child.new.self c.in-Some.block c.child_place-place.result.0 c.args.id c.take_child.result
    c.child_place-place.ensures.place
    c.take_child.ensures.child c.take_child.ensures.takes in
    taken_sums c.args.arena.now c.take_child.new.self c.args.root c.args.id c.in-Some.block c.child_place-place.result.0 c.requires.tree
    c.requires.live up
    c.take_child.ensures.leaves c.take_child.ensures.sound c.child_place-place.ensures.place takes c.requires.more (by_view g.L.Leaf.size
    g.L.Leaf.element view)
    (c.requires.sums view k)

pub exchange_up-requires-clause-owes : goal.exchange_up-requires-clause-owes
exchange_up-requires-clause-owes g c =
    let leaf = some_of (leaf_value c.args.arena.now c.args.id) c.requires.live in
    record {
      gone = g.L.Leaf.element leaf.0;
      less = g.L.Leaf.size leaf.0;
      come = g.L.Leaf.element leaf.0;
      more = 0;
      makes = subst (λ (o : Option g.row.L.Denot). IsSomeAnd o (λ v. MakesExchange c.args.floor c.args.exchange.now (g.L.Leaf.element v)
          (g.L.Leaf.size v)
          (g.L.Leaf.element v) 0)) leaf.1 c.requires.makes;
      owes = λ view k.
          let up : parent_of c.args.arena.now c.args.id ≡ Some c.in-Some.block = sym c.parent.ensures ∙ c.in-Some.is in
          let takes = took_id c.args.arena.now c.take_child.new.self c.in-Some.block c.child_place-place.result.0 c.args.id c.take_child.result
          c.child_place-place.ensures.place c.take_child.ensures.child c.take_child.ensures.takes in
          goes g.L.Leaf.size g.L.Leaf.element view c.take_child.new.self (Some c.in-Some.block) leaf.0 (g.L.Leaf.element leaf.0) (g.L.Leaf.size
          leaf.0) refl refl
          (taken_owes c.args.arena.now c.take_child.new.self c.args.root c.args.id c.in-Some.block c.child_place-place.result.0
          c.requires.tree c.requires.live up c.take_child.ensures.leaves c.take_child.ensures.sound c.child_place-place.ensures.place takes
          c.requires.more
          (by_view g.L.Leaf.size g.L.Leaf.element view) (c.requires.sums view k) leaf.0 leaf.1);
    }

pub fill_up-requires-clause-apart : goal.fill_up-requires-clause-apart
fill_up-requires-clause-apart g c =
    let up : parent_of c.args.arena.now c.args.id ≡ Some c.in-Some.block = sym c.parent.ensures ∙ c.in-Some.is in
    let takes = took_id c.args.arena.now c.take_child.new.self c.in-Some.block c.child_place-place.result.0 c.args.id c.take_child.result
    c.child_place-place.ensures.place
    c.take_child.ensures.child c.take_child.ensures.takes in
    SameShape-apart c.take_child.new.self c.exchange_up.new.arena c.args.root c.args.id (Some c.in-Some.block)
    (taken_apart c.args.arena.now c.take_child.new.self c.args.root c.args.id c.in-Some.block c.child_place-place.result.0 c.requires.tree
    c.requires.live up
    c.take_child.ensures.leaves c.take_child.ensures.sound c.child_place-place.ensures.place takes c.requires.more) c.in_ok-exchange_up.ensures.shape

pub fill_up-requires-clause-block : goal.fill_up-requires-clause-block
fill_up-requires-clause-block g c =
    let up : parent_of c.args.arena.now c.args.id ≡ Some c.in-Some.block = sym c.parent.ensures ∙ c.in-Some.is in
    let takes = took_id c.args.arena.now c.take_child.new.self c.in-Some.block c.child_place-place.result.0 c.args.id c.take_child.result
    c.child_place-place.ensures.place
    c.take_child.ensures.child c.take_child.ensures.takes in
    kind_block (entry c.take_child.new.self c.in-Some.block) (entry c.exchange_up.new.arena c.in-Some.block) (c.in_ok-exchange_up.ensures.shape.kinds
    c.in-Some.block)
    (tk_p_block c.args.arena.now c.take_child.new.self c.args.root c.args.id c.in-Some.block c.child_place-place.result.0 c.requires.tree
    c.requires.live up
    c.take_child.ensures.leaves c.take_child.ensures.sound c.child_place-place.ensures.place takes c.requires.more)

pub fill_up-requires-clause-fits : goal.fill_up-requires-clause-fits
fill_up-requires-clause-fits g c = omega (
  arith,
  leaf_total (by_size g.L.Leaf.size) c.args.arena.now c.exchange_up.new.arena c.requires.tree.shape.forest
      (c.in_ok-exchange_up.ensures.shape.leaves ∙ c.take_child.ensures.leaves) (λ x. c.in_ok-exchange_up.ensures.shape.leaf_values x
      ∙ c.take_child.ensures.takes.leaf_values x),
  c.requires.fits,
)

pub returns-clause-low : goal.returns-clause-low
returns-clause-low g c = IfOk-weaker c.fill_up.result _ _ (λ top h.
    let up : parent_of c.args.arena.now c.args.id ≡ Some c.in-Some.block = sym c.parent.ensures ∙ c.in-Some.is in
    let takes = took_id c.args.arena.now c.take_child.new.self c.in-Some.block c.child_place-place.result.0 c.args.id c.take_child.result
    c.child_place-place.ensures.place
    c.take_child.ensures.child c.take_child.ensures.takes in
    omega (
      arith,
      h,
      kind_height (entry c.take_child.new.self c.args.root) (entry c.exchange_up.new.arena c.args.root)
          (c.in_ok-exchange_up.ensures.shape.kinds c.args.root),
      tk_high c.args.arena.now c.take_child.new.self c.args.root c.args.id c.in-Some.block
          c.child_place-place.result.0 c.requires.tree c.requires.live up c.take_child.ensures.leaves c.take_child.ensures.sound
          c.child_place-place.ensures.place takes
          c.requires.more c.args.root,
    )) c.fill_up.ensures.low

pub returns-clause-leaves : goal.returns-clause-leaves
returns-clause-leaves g c = on_ok_weaker c.fill_up.result (λ e. e ∙ c.in_ok-exchange_up.ensures.shape.leaves ∙ c.take_child.ensures.leaves)
    c.fill_up.ensures.leaves

pub returns-clause-leaf_values : goal.returns-clause-leaf_values
returns-clause-leaf_values g c = on_ok_weaker c.fill_up.result (λ e x. e x ∙ c.in_ok-exchange_up.ensures.shape.leaf_values x ∙
    c.take_child.ensures.takes.leaf_values x)
    c.fill_up.ensures.leaf_values

pub fill_up-requires-clause-sums : goal.fill_up-requires-clause-sums
fill_up-requires-clause-sums g c = c.in_ok-exchange_up.ensures.sums

pub fill_up-requires-clause-floors : goal.fill_up-requires-clause-floors
fill_up-requires-clause-floors g c = c.in_ok-exchange_up.ensures.floors

pub returns-clause-apart : goal.returns-clause-apart
returns-clause-apart g c = c.fill_up.ensures.apart

pub returns-clause-sums : goal.returns-clause-sums
returns-clause-sums g c = c.fill_up.ensures.sums

pub returns-clause-floors : goal.returns-clause-floors
returns-clause-floors g c = c.fill_up.ensures.floors

pub parent-requires : goal.parent-requires
parent-requires g c = leaf_live (entry c.args.arena.now c.args.id) c.requires.live

pub returns-in_err-exchange_up : goal.returns-in_err-exchange_up
returns-in_err-exchange_up g c =
    let r = c.from_residual in
    record {
      apart = IfOk-from_err r.result _ r.ensures.0;
      low = IfOk-from_err r.result _ r.ensures.0;
      sums = IfOk-from_err r.result _ r.ensures.0;
      floors = IfOk-from_err r.result _ r.ensures.0;
      leaves = IfOk-from_err r.result _ r.ensures.0;
      leaf_values = IfOk-from_err r.result _ r.ensures.0;
    }
