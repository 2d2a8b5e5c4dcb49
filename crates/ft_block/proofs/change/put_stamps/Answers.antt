use Rattle.std.proofs.Common.{ℕ, ◌<◌, ◌^◌, Option, IsSomeAnd, refl, subst, ◌≡◌, ap, sym, ◌∙◌, arith}
use Rattle.std.proofs.lemmas.Result.{on_ok_weaker}
use Rattle.ft_arena.specs.Forest.{leaf_value, parent_of, with_leaf}
use Rattle.ft_shape.specs.Tree.{SumsBut, OwesAt}
use Rattle.ft_block.specs.Tree.{MakesExchange, by_view, by_size}
use Rattle.ft_shape.proofs.InsertLemmas.{changed_tree, changed_sums, changed_owes, changed_total, changed_leaf, all_settled}
use Rattle.ft_block.proofs.Floors.{changed_floors}
use Rattle.ft_block.proofs.ExchangeLemmas.{tree_part, turns, leaf_amount, parent_block, changed_live}
use Rattle.ft_block.proofs.SettledLemmas.{same_shown}
use Rattle.ft_block.proofs.SoundLemmas.{is_some_by}
use Rattle.ft_shape.proofs.RefreshLemmas.{SameShape-tree}
use Rattle.ft_block.proofs.change.put_stamps.Goals as goal

pub exchange_up-requires-clause-tree : goal.exchange_up-requires-clause-tree
exchange_up-requires-clause-tree g c = tree_part (with_leaf c.args.arena.now c.args.id c.set_element.new.self) c.args.root
    (changed_tree c.args.arena.now c.args.root c.args.id c.leaf_mut.result.now c.set_element.new.self c.requires.tree c.leaf_mut.ensures.value)

pub exchange_up-requires-clause-fits : goal.exchange_up-requires-clause-fits
exchange_up-requires-clause-fits g c =
    let size : g.L.Leaf.size c.set_element.new.self ≡ g.L.Leaf.size c.leaf_mut.result.now =
    ap g.L.Leaf.size c.set_element.ensures ∙ g.met.L.Leaf.with_element_size c.leaf_mut.result.now c.args.e in
    omega (
      arith,
      changed_total c.args.arena.now c.args.root c.args.id c.leaf_mut.result.now c.set_element.new.self c.requires.tree c.leaf_mut.ensures.value
          (by_size g.L.Leaf.size),
      size,
      c.requires.fits,
    )

pub exchange_up-requires-clause-block : goal.exchange_up-requires-clause-block
exchange_up-requires-clause-block g c = λ b q. parent_block (with_leaf c.args.arena.now c.args.id c.set_element.new.self) c.args.root
    (changed_tree c.args.arena.now c.args.root c.args.id c.leaf_mut.result.now c.set_element.new.self c.requires.tree c.leaf_mut.ensures.value)
    c.args.id b
    (sym c.parent-stale.ensures ∙ q)

pub exchange_up-requires-clause-floors : goal.exchange_up-requires-clause-floors
exchange_up-requires-clause-floors g c = changed_floors c.args.arena.now c.args.root c.args.id c.leaf_mut.result.now c.set_element.new.self
    c.requires.tree
    c.leaf_mut.ensures.value c.args.floor c.requires.floors

pub exchange_up-requires-clause-sums : goal.exchange_up-requires-clause-sums
exchange_up-requires-clause-sums g c = λ view k. subst
    (λ o. SumsBut (by_view g.L.Leaf.size g.L.Leaf.element view) (with_leaf c.args.arena.now c.args.id c.set_element.new.self) o) (sym
    c.parent-stale.ensures)
    (changed_sums c.args.arena.now c.args.root c.args.id c.leaf_mut.result.now c.set_element.new.self c.requires.tree c.leaf_mut.ensures.value
    (by_view g.L.Leaf.size g.L.Leaf.element view) (c.requires.sums view k))

pub exchange_up-requires-clause-owes : goal.exchange_up-requires-clause-owes
exchange_up-requires-clause-owes g c =
    let v = c.leaf_mut.result.now in
    let w = c.set_element.new.self in
    record {
      gone = g.L.Leaf.element v;
      less = g.L.Leaf.size v;
      come = c.args.e;
      more = g.L.Leaf.size v;
      makes = (subst (λ (o : Option g.row.L.Denot). IsSomeAnd o (λ x. (g.L.Leaf.size x < 2 ^ 64) × MakesExchange c.args.floor c.args.exchange.now
          (g.L.Leaf.element x)
          (g.L.Leaf.size x) c.args.e (g.L.Leaf.size x))) c.leaf_mut.ensures.value c.requires.makes).1;
      owes = λ view k. turns g.L.Leaf.size g.L.Leaf.element view (with_leaf c.args.arena.now c.args.id w) c.parent-stale.result v w (g.L.Leaf.element
          v) c.args.e
          (g.L.Leaf.size v) (g.L.Leaf.size v) refl refl (sym (ap g.L.Leaf.element c.set_element.ensures ∙ g.met.L.Leaf.with_element_element v
          c.args.e))
          (sym (ap g.L.Leaf.size c.set_element.ensures ∙ g.met.L.Leaf.with_element_size v c.args.e))
          (subst (λ o. OwesAt (by_view g.L.Leaf.size g.L.Leaf.element view) (with_leaf c.args.arena.now c.args.id w) o
          ((by_view g.L.Leaf.size g.L.Leaf.element view).leaf w) ((by_view g.L.Leaf.size g.L.Leaf.element view).leaf v))
          (sym c.parent-stale.ensures) (changed_owes c.args.arena.now c.args.root c.args.id v w c.requires.tree
          c.leaf_mut.ensures.value (by_view g.L.Leaf.size g.L.Leaf.element view) (c.requires.sums view k)));
    }

pub returns-then-is_nothing-clause-tree : goal.returns-then-is_nothing-clause-tree
returns-then-is_nothing-clause-tree g c =
    changed_tree c.args.arena.now c.args.root c.args.id c.leaf_mut.result.now c.set_element.new.self c.requires.tree c.leaf_mut.ensures.value

pub returns-then-is_nothing-clause-changes : goal.returns-then-is_nothing-clause-changes
returns-then-is_nothing-clause-changes g c = changed_leaf c.args.arena.now c.args.root c.args.id c.leaf_mut.result.now c.set_element.new.self
    c.requires.tree
    c.leaf_mut.ensures.value (λ v. g.L.Leaf.with_element v c.args.e) c.set_element.ensures (with_leaf c.args.arena.now c.args.id
    c.set_element.new.self) refl (λ x. refl)

pub returns-then-is_nothing-clause-floors : goal.returns-then-is_nothing-clause-floors
returns-then-is_nothing-clause-floors g c = changed_floors c.args.arena.now c.args.root c.args.id c.leaf_mut.result.now c.set_element.new.self
    c.requires.tree
    c.leaf_mut.ensures.value c.args.floor c.requires.floors

pub returns-then-is_nothing-clause-sums : goal.returns-then-is_nothing-clause-sums
returns-then-is_nothing-clause-sums g c = λ view k.
    let v = c.leaf_mut.result.now in
    let w = c.set_element.new.self in
    let makes = subst (λ (o : Option g.row.L.Denot). IsSomeAnd o (λ x. (g.L.Leaf.size x < 2 ^ 64) × MakesExchange c.args.floor c.args.exchange.now
    (g.L.Leaf.element x)
    (g.L.Leaf.size x) c.args.e (g.L.Leaf.size x))) c.leaf_mut.ensures.value c.requires.makes in
    let was = leaf_amount g.L.Leaf.size g.L.Leaf.element view v (g.L.Leaf.element v) (g.L.Leaf.size v) refl refl in
    let now = leaf_amount g.L.Leaf.size g.L.Leaf.element view w c.args.e (g.L.Leaf.size v)
    (sym (ap g.L.Leaf.element c.set_element.ensures ∙ g.met.L.Leaf.with_element_element v c.args.e))
    (sym (ap g.L.Leaf.size c.set_element.ensures ∙ g.met.L.Leaf.with_element_size v c.args.e)) in
    let shown = same_shown c.args.floor c.args.exchange.now (g.L.Leaf.element v) c.args.e (g.L.Leaf.size v) makes.0 makes.1
    (c.is_nothing.ensures.0 c.if-is_nothing.true) view k in
    all_settled (by_view g.L.Leaf.size g.L.Leaf.element view) (with_leaf c.args.arena.now c.args.id w) _ _
    (changed_sums c.args.arena.now c.args.root c.args.id v w c.requires.tree c.leaf_mut.ensures.value
    (by_view g.L.Leaf.size g.L.Leaf.element view) (c.requires.sums view k))
    (subst (λ (n : ℕ). OwesAt (by_view g.L.Leaf.size g.L.Leaf.element view) (with_leaf c.args.arena.now c.args.id w)
    (parent_of (with_leaf c.args.arena.now c.args.id w) c.args.id) ((by_view g.L.Leaf.size g.L.Leaf.element view).leaf w) n)
    (sym was ∙ shown ∙ now)
    (changed_owes c.args.arena.now c.args.root c.args.id v w c.requires.tree
    c.leaf_mut.ensures.value (by_view g.L.Leaf.size g.L.Leaf.element view) (c.requires.sums view k)))

pub returns-clause-tree : goal.returns-clause-tree
returns-clause-tree g c = on_ok_weaker c.exchange_up.result (λ r. SameShape-tree (with_leaf c.args.arena.now c.args.id c.set_element.new.self)
    c.exchange_up.new.arena
    c.args.root (changed_tree c.args.arena.now c.args.root c.args.id c.leaf_mut.result.now c.set_element.new.self c.requires.tree
    c.leaf_mut.ensures.value) r)
    c.exchange_up.ensures.shape

pub returns-clause-changes : goal.returns-clause-changes
returns-clause-changes g c = on_ok_weaker c.exchange_up.result (λ r. changed_leaf c.args.arena.now c.args.root c.args.id c.leaf_mut.result.now
    c.set_element.new.self
    c.requires.tree c.leaf_mut.ensures.value (λ v. g.L.Leaf.with_element v c.args.e) c.set_element.ensures c.exchange_up.new.arena r.leaves
    r.leaf_values)
    c.exchange_up.ensures.shape

pub returns-clause-sums : goal.returns-clause-sums
returns-clause-sums g c = c.exchange_up.ensures.sums

pub returns-clause-floors : goal.returns-clause-floors
returns-clause-floors g c = c.exchange_up.ensures.floors

pub leaf_mut-requires : goal.leaf_mut-requires
leaf_mut-requires g c = is_some_by (leaf_value c.args.arena.now c.args.id) (λ x. (g.L.Leaf.size x < 2 ^ 64) × MakesExchange c.args.floor
    c.args.exchange.now
    (g.L.Leaf.element x) (g.L.Leaf.size x) c.args.e (g.L.Leaf.size x)) c.requires.makes

pub parent-stale-requires : goal.parent-stale-requires
parent-stale-requires g c =
    let v = c.leaf_mut.result.now in
    let w = c.set_element.new.self in
    changed_live c.args.arena.now c.args.root c.args.id v w c.requires.tree c.leaf_mut.ensures.value
