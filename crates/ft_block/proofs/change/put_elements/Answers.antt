use Rattle.std.proofs.Common.{IsSomeAnd, IsTrue, Option, refl, subst, ◌≡◌, ◌+◌, ap, sym, ◌∙◌, arith}
use Rattle.std.proofs.lemmas.Result.{on_ok_weaker}
use Rattle.ft_arena.specs.Forest.{leaf_value, with_leaf}
use Rattle.ft_shape.specs.Tree.{SumsBut, OwesAt}
use Rattle.ft_block.specs.Tree.{MakesExchange, by_view, by_size}
use Rattle.ft_shape.proofs.InsertLemmas.{changed_tree, changed_sums, changed_owes, changed_total, changed_leaf}
use Rattle.ft_block.proofs.Floors.{changed_floors}
use Rattle.ft_block.proofs.ExchangeLemmas.{tree_part, grows, parent_block, changed_live}
use Rattle.ft_block.proofs.SoundLemmas.{is_some_by}
use Rattle.ft_shape.proofs.RefreshLemmas.{SameShape-tree}
use Rattle.ft_block.proofs.change.put_elements.Goals as goal

pub exchange_up-requires-clause-tree : goal.exchange_up-requires-clause-tree
exchange_up-requires-clause-tree g c = tree_part (with_leaf c.args.arena.now c.args.id c.join_back.new.self) c.args.root
    (changed_tree c.args.arena.now c.args.root c.args.id c.leaf_mut.result.now c.join_back.new.self c.requires.tree c.leaf_mut.ensures.value)

pub exchange_up-requires-clause-fits : goal.exchange_up-requires-clause-fits
exchange_up-requires-clause-fits g c =
    let can = subst (λ (o : Option g.row.L.Denot). IsSomeAnd o (λ v. IsTrue (g.L.Leaf.joins v c.args.other) × (g.L.Leaf.element v ≡ g.L.Leaf.element
    c.args.other)))
    c.leaf_mut.ensures.value c.requires.can in
    let size : g.L.Leaf.size c.join_back.new.self ≡ g.L.Leaf.size c.leaf_mut.result.now + g.L.Leaf.size c.args.other =
    ap g.L.Leaf.size c.in-Ok.ensures.ok ∙ g.met.L.Leaf.joined_size c.leaf_mut.result.now c.args.other can.0 can.1 in
    omega (
      arith,
      changed_total c.args.arena.now c.args.root c.args.id c.leaf_mut.result.now c.join_back.new.self c.requires.tree c.leaf_mut.ensures.value
          (by_size g.L.Leaf.size),
      size,
      c.requires.fits,
    )

pub exchange_up-requires-clause-block : goal.exchange_up-requires-clause-block
exchange_up-requires-clause-block g c = λ b q. parent_block (with_leaf c.args.arena.now c.args.id c.join_back.new.self) c.args.root
    (changed_tree c.args.arena.now c.args.root c.args.id c.leaf_mut.result.now c.join_back.new.self c.requires.tree c.leaf_mut.ensures.value)
    c.args.id b
    (sym c.parent-stale.ensures ∙ q)

pub exchange_up-requires-clause-floors : goal.exchange_up-requires-clause-floors
exchange_up-requires-clause-floors g c = changed_floors c.args.arena.now c.args.root c.args.id c.leaf_mut.result.now c.join_back.new.self
    c.requires.tree
    c.leaf_mut.ensures.value c.args.floor c.requires.floors

pub exchange_up-requires-clause-sums : goal.exchange_up-requires-clause-sums
exchange_up-requires-clause-sums g c = λ view k. subst
    (λ o. SumsBut (by_view g.L.Leaf.size g.L.Leaf.element view) (with_leaf c.args.arena.now c.args.id c.join_back.new.self) o) (sym
    c.parent-stale.ensures)
    (changed_sums c.args.arena.now c.args.root c.args.id c.leaf_mut.result.now c.join_back.new.self c.requires.tree c.leaf_mut.ensures.value
    (by_view g.L.Leaf.size g.L.Leaf.element view) (c.requires.sums view k))

pub exchange_up-requires-clause-owes : goal.exchange_up-requires-clause-owes
exchange_up-requires-clause-owes g c =
    let v = c.leaf_mut.result.now in
    let w = c.join_back.new.self in
    let can = subst (λ (o : Option g.row.L.Denot). IsSomeAnd o (λ x. IsTrue (g.L.Leaf.joins x c.args.other) × (g.L.Leaf.element x ≡ g.L.Leaf.element
    c.args.other)))
    c.leaf_mut.ensures.value c.requires.can in
    record {
      gone = g.L.Leaf.element v;
      less = 0;
      come = g.L.Leaf.element v;
      more = g.L.Leaf.size c.args.other;
      makes = subst (λ (o : Option g.row.L.Denot). IsSomeAnd o (λ x. MakesExchange c.args.floor c.args.exchange.now (g.L.Leaf.element x) 0
          (g.L.Leaf.element x)
          (g.L.Leaf.size c.args.other))) c.leaf_mut.ensures.value c.requires.makes;
      owes = λ view k. grows g.L.Leaf.size g.L.Leaf.element view (with_leaf c.args.arena.now c.args.id w) c.parent-stale.result v w (g.L.Leaf.element
          v)
          (g.L.Leaf.size c.args.other) refl
          (ap g.L.Leaf.element c.in-Ok.ensures.ok ∙ g.met.L.Leaf.joined_element v c.args.other can.0 can.1)
          (ap g.L.Leaf.size c.in-Ok.ensures.ok ∙ g.met.L.Leaf.joined_size v c.args.other can.0 can.1)
          (subst (λ o. OwesAt (by_view g.L.Leaf.size g.L.Leaf.element view) (with_leaf c.args.arena.now c.args.id w) o
          ((by_view g.L.Leaf.size g.L.Leaf.element view).leaf w) ((by_view g.L.Leaf.size g.L.Leaf.element view).leaf v))
          (sym c.parent-stale.ensures) (changed_owes c.args.arena.now c.args.root c.args.id v w c.requires.tree
          c.leaf_mut.ensures.value (by_view g.L.Leaf.size g.L.Leaf.element view) (c.requires.sums view k)));
    }

pub returns-clause-tree : goal.returns-clause-tree
returns-clause-tree g c = on_ok_weaker c.exchange_up.result (λ r. SameShape-tree (with_leaf c.args.arena.now c.args.id c.join_back.new.self)
    c.exchange_up.new.arena
    c.args.root (changed_tree c.args.arena.now c.args.root c.args.id c.leaf_mut.result.now c.join_back.new.self c.requires.tree
    c.leaf_mut.ensures.value) r)
    c.exchange_up.ensures.shape

pub returns-clause-changes : goal.returns-clause-changes
returns-clause-changes g c = on_ok_weaker c.exchange_up.result (λ r. changed_leaf c.args.arena.now c.args.root c.args.id c.leaf_mut.result.now
    c.join_back.new.self
    c.requires.tree c.leaf_mut.ensures.value (λ v. g.L.Leaf.joined v c.args.other) c.in-Ok.ensures.ok c.exchange_up.new.arena r.leaves r.leaf_values)
    c.exchange_up.ensures.shape

pub returns-clause-sums : goal.returns-clause-sums
returns-clause-sums g c = c.exchange_up.ensures.sums

pub returns-clause-floors : goal.returns-clause-floors
returns-clause-floors g c = c.exchange_up.ensures.floors

pub leaf_mut-requires : goal.leaf_mut-requires
leaf_mut-requires g c = is_some_by (leaf_value c.args.arena.now c.args.id)
    (λ x. IsTrue (g.L.Leaf.joins x c.args.other) × (g.L.Leaf.element x ≡ g.L.Leaf.element c.args.other)) c.requires.can

pub join_back-requires-clause-can : goal.join_back-requires-clause-can
join_back-requires-clause-can g c =
    (subst (λ (o : Option g.row.L.Denot). IsSomeAnd o (λ x. IsTrue (g.L.Leaf.joins x c.args.other) × (g.L.Leaf.element x ≡ g.L.Leaf.element
    c.args.other)))
    c.leaf_mut.ensures.value c.requires.can).0

pub join_back-requires-clause-equal : goal.join_back-requires-clause-equal
join_back-requires-clause-equal g c =
    (subst (λ (o : Option g.row.L.Denot). IsSomeAnd o (λ x. IsTrue (g.L.Leaf.joins x c.args.other) × (g.L.Leaf.element x ≡ g.L.Leaf.element
    c.args.other)))
    c.leaf_mut.ensures.value c.requires.can).1

pub parent-stale-requires : goal.parent-stale-requires
parent-stale-requires g c =
    let v = c.leaf_mut.result.now in
    let w = c.join_back.new.self in
    changed_live c.args.arena.now c.args.root c.args.id v w c.requires.tree c.leaf_mut.ensures.value
