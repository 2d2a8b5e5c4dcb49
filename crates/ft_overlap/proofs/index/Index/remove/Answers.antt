use Rattle.std.proofs.Common.{None, option_map, cond, nat_eq, sym, ap, subst, ◌∙◌}
use Rattle.std.specs.BTreeMap as tree_map
use Rattle.std.specs.Ordering.{nat_cmp}
use Rattle.ft_arena.specs.Forest.{leaf_value}
use Rattle.ft_shape.proofs.EditLemmas.{is_some_from}
use Rattle.ft_overlap.specs.declared.index.Keyed.{Keyed}
use Rattle.ft_overlap.specs.Inside.{leaf_in}
use Rattle.ft_overlap.specs.Items.{ItemList, IsRising, id_at, item_at, without_key}
use Rattle.ft_overlap.proofs.ItemLists.{out_none, rising_out}
use Rattle.ft_overlap.proofs.KeyedLeaves.{has_part, ids_changed, keyed_first, keyed_none, keyed_taken, nothing_at}
use Rattle.ft_overlap.proofs.Leaves.{taken_items}
use Rattle.ft_overlap.proofs.Whole.{in_bare, in_forest, in_last, in_ends, all_great}
use Rattle.ft_overlap.proofs.index.Index.remove.Goals as goal

pub returns-in_err-root-clause-ids : goal.returns-in_err-root-clause-ids
returns-in_err-root-clause-ids g c = nothing_at c.args.key c.args.self.now.ids
    (ap (λ (w : ItemList). w.ids) (in_bare (g.P.Places.end_place c.args.at.now) c.self.inside c.args.self.now c.self.view_is c.self.invariant
    c.in_err-root.was))

pub returns-in_default-clause-value : goal.returns-in_default-clause-value
returns-in_default-clause-value g c =
    let none = ap (option_map (λ (v : Keyed). v.leaf)) (sym c.in_default.ensures.value) in
    sym (ap (λ (w : ItemList). item_at c.args.key w.items) (sym c.self.view_is)
    ∙ keyed_none c.self.inside.arena (leaf_in c.self.inside.by_key) c.self.invariant.keyed c.args.key none)

pub returns-in_default-clause-rest : goal.returns-in_default-clause-rest
returns-in_default-clause-rest g c =
    let none = ap (option_map (λ (v : Keyed). v.leaf)) (sym c.in_default.ensures.value) in
    ap (λ (w : ItemList). w.items) c.self.view_is ∙ sym (out_none c.args.key c.args.self.now.items
    (ap (λ (w : ItemList). item_at c.args.key w.items) (sym c.self.view_is)
    ∙ keyed_none c.self.inside.arena (leaf_in c.self.inside.by_key) c.self.invariant.keyed c.args.key none))

pub returns-in_default-clause-ids : goal.returns-in_default-clause-ids
returns-in_default-clause-ids g c = λ k.
    ids_changed c.args.key None c.self.inside.by_key c.remove.new.self c.in_default.ensures.updates.0 k
    ∙ ap (λ (w : ItemList). cond (nat_eq c.args.key k) None (id_at k w.ids)) c.self.view_is

pub take_in-root-requires-clause-live : goal.take_in-root-requires-clause-live
take_in-root-requires-clause-live g c =
    let w = c.self.invariant.keyed.only c.args.key c.in-Some.field-0.leaf (ap (option_map (λ (v : Keyed). v.leaf)) (sym c.in-Some.ensures.value)) in
    is_some_from (leaf_value c.self.inside.arena c.in-Some.field-0.leaf) w.0 w.1

pub take_in-root-requires-clause-last : goal.take_in-root-requires-clause-last
take_in-root-requires-clause-last g c = in_last (g.P.Places.end_place c.args.at.now) c.self.inside c.args.self.now c.self.view_is c.self.invariant c.requires.order

pub take_in-root-requires-clause-known : goal.take_in-root-requires-clause-known
take_in-root-requires-clause-known g c = in_ends (g.P.Places.end_place c.args.at.now) c.self.inside c.args.self.now c.self.view_is c.self.invariant
    (g.P.Places.Knows c.args.at.now) c.requires.known

pub invariant_of-self-2 : goal.invariant_of-self-2
invariant_of-self-2 g c =
    let v = c.in-Some.field-0 in
    record {
      rooted = c.take_in-root.ensures.rooted;
      names = c.take_in-root.ensures.one;
      keyed = keyed_taken c.self.inside.arena (leaf_in c.self.inside.by_key) c.self.invariant.keyed c.take_in-root.new.arena
          (leaf_in c.remove.new.self) c.args.key v.leaf c.take_in-root.result.1 c.take_in-root.ensures.takes
          (ap (option_map (λ (x : Keyed). x.leaf)) (sym c.in-Some.ensures.value))
          (has_part (λ (x : Keyed). x.leaf) c.args.key None (tree_map.get nat_cmp c.self.inside.by_key) (tree_map.get nat_cmp c.remove.new.self)
          c.in-Some.ensures.updates.0);
    }

pub returns-clause-value : goal.returns-clause-value
returns-clause-value g c =
    let forest = in_forest (g.P.Places.end_place c.args.at.now) c.self.inside c.args.self.now c.self.view_is c.self.invariant in
    let first = keyed_first c.self.inside.arena (leaf_in c.self.inside.by_key) c.self.invariant.keyed forest c.args.key c.in-Some.field-0.leaf
    (ap (option_map (λ (v : Keyed). v.leaf)) (sym c.in-Some.ensures.value)) in
    sym c.take_in-root.ensures.takes.was ∙ first.there ∙ sym first.first ∙ ap (λ (w : ItemList). item_at c.args.key w.items) c.self.view_is

pub returns-clause-rest : goal.returns-clause-rest
returns-clause-rest g c =
    let forest = in_forest (g.P.Places.end_place c.args.at.now) c.self.inside c.args.self.now c.self.view_is c.self.invariant in
    let first = keyed_first c.self.inside.arena (leaf_in c.self.inside.by_key) c.self.invariant.keyed forest c.args.key c.in-Some.field-0.leaf
    (ap (option_map (λ (v : Keyed). v.leaf)) (sym c.in-Some.ensures.value)) in
    taken_items c.args.key c.self.inside.arena c.take_in-root.new.arena c.in-Some.field-0.leaf c.take_in-root.result.1 first
    c.take_in-root.ensures.takes
    ∙ ap (without_key c.args.key) (ap (λ (w : ItemList). w.items) c.self.view_is)

pub returns-clause-order : goal.returns-clause-order
returns-clause-order g c =
    let place = g.P.Places.end_place c.args.at.now in
    let forest = in_forest place c.self.inside c.args.self.now c.self.view_is c.self.invariant in
    let first = keyed_first c.self.inside.arena (leaf_in c.self.inside.by_key) c.self.invariant.keyed forest c.args.key c.in-Some.field-0.leaf
    (ap (option_map (λ (v : Keyed). v.leaf)) (sym c.in-Some.ensures.value)) in
    let rest = taken_items c.args.key c.self.inside.arena c.take_in-root.new.arena c.in-Some.field-0.leaf c.take_in-root.result.1 first
    c.take_in-root.ensures.takes
    ∙ ap (without_key c.args.key) (ap (λ (w : ItemList). w.items) c.self.view_is) in
    record {
      rising = subst (IsRising place) (sym rest) (rising_out c.args.key place c.args.self.now.items c.requires.order.rising);
      greatest = all_great place c.take_in-root.new.arena c.take_in-root.result.0 c.take_in-root.ensures.rooted c.take_in-root.ensures.last;
    }

pub returns-clause-ids : goal.returns-clause-ids
returns-clause-ids g c = λ k.
    ids_changed c.args.key None c.self.inside.by_key c.remove.new.self c.in-Some.ensures.updates.0 k
    ∙ ap (λ (w : ItemList). cond (nat_eq c.args.key k) None (id_at k w.ids)) c.self.view_is
