use Rattle.std.proofs.Common.{ℕ, Some, All, cond, nat_eq, rules, refl, sym, ap, subst, ◌∙◌}
use Rattle.std.specs.BTreeMap as tree_map
use Rattle.std.specs.Ordering.{nat_cmp}
use Rattle.std.proofs.lemmas.List.Elements.{All-tail}
use Rattle.ft_shape.specs.Tree.{IsTree}
use Rattle.ft_overlap.specs.declared.grow.Inserted.{Inserted}
use Rattle.ft_overlap.specs.declared.index.Keyed.{Keyed}
use Rattle.ft_overlap.specs.declared.items.Item.{Item}
use Rattle.ft_overlap.specs.Inside.{AddsLeaf, all_blocks, leaf_in}
use Rattle.ft_overlap.specs.Items.{ItemList, IsRising, NamesGreatest, has_key, id_at, put_item}
use Rattle.ft_overlap.proofs.ItemLists.{rising_put}
use Rattle.ft_overlap.proofs.KeyedLeaves.{has_part, ids_changed, keyed_added, keyed_fresh, written_twice}
use Rattle.ft_overlap.proofs.Whole.{in_forest, sound_room, view_room, with_nodes, in_last, in_starts, in_ends, all_great}
use Rattle.ft_overlap.proofs.index.Index.insert.Goals as goal

pub invariant_of-self : goal.invariant_of-self
invariant_of-self g c =
    sound_room c.self.inside c.reserve_in.new.arena c.in_err-reserve_in.ensures.kept c.self.inside.by_key refl c.self.invariant

pub returns-in_err-reserve_in-clause-err : goal.returns-in_err-reserve_in-clause-err
returns-in_err-reserve_in-clause-err g c =
    let same = view_room c.self.inside c.reserve_in.new.arena c.in_err-reserve_in.ensures.kept c.self.inside.by_key refl ∙ c.self.view_is in
    search rules

pub invariant_of-self-in_err-insert : goal.invariant_of-self-in_err-insert
invariant_of-self-in_err-insert g c =
    sound_room c.self.inside c.reserve_in.new.arena c.in_ok-reserve_in.ensures.kept c.insert.new.self c.in_err-insert.ensures.err c.self.invariant

pub returns-in_err-insert-clause-err : goal.returns-in_err-insert-clause-err
returns-in_err-insert-clause-err g c =
    let same = view_room c.self.inside c.reserve_in.new.arena c.in_ok-reserve_in.ensures.kept c.insert.new.self c.in_err-insert.ensures.err
    ∙ c.self.view_is in
    search rules

pub put_in-inserted-requires-clause-rooted : goal.put_in-inserted-requires-clause-rooted
put_in-inserted-requires-clause-rooted g c =
    let s = c.reserve_in.new.arena in
    let a = with_nodes c.self.inside s in
    let is = view_room c.self.inside s c.in_ok-reserve_in.ensures.kept c.self.inside.by_key refl ∙ c.self.view_is in
    let sound = sound_room c.self.inside s c.in_ok-reserve_in.ensures.kept c.self.inside.by_key refl c.self.invariant in
    sound.rooted

pub put_in-inserted-requires-clause-one : goal.put_in-inserted-requires-clause-one
put_in-inserted-requires-clause-one g c =
    let s = c.reserve_in.new.arena in
    let a = with_nodes c.self.inside s in
    let is = view_room c.self.inside s c.in_ok-reserve_in.ensures.kept c.self.inside.by_key refl ∙ c.self.view_is in
    let sound = sound_room c.self.inside s c.in_ok-reserve_in.ensures.kept c.self.inside.by_key refl c.self.invariant in
    sound.names

pub put_in-inserted-requires-clause-last : goal.put_in-inserted-requires-clause-last
put_in-inserted-requires-clause-last g c =
    let s = c.reserve_in.new.arena in
    let a = with_nodes c.self.inside s in
    let is = view_room c.self.inside s c.in_ok-reserve_in.ensures.kept c.self.inside.by_key refl ∙ c.self.view_is in
    let sound = sound_room c.self.inside s c.in_ok-reserve_in.ensures.kept c.self.inside.by_key refl c.self.invariant in
    in_last (g.P.Places.end_place c.args.at.now) a c.args.self.now is sound c.requires.order

pub put_in-inserted-requires-clause-starts : goal.put_in-inserted-requires-clause-starts
put_in-inserted-requires-clause-starts g c =
    let s = c.reserve_in.new.arena in
    let a = with_nodes c.self.inside s in
    let is = view_room c.self.inside s c.in_ok-reserve_in.ensures.kept c.self.inside.by_key refl ∙ c.self.view_is in
    let sound = sound_room c.self.inside s c.in_ok-reserve_in.ensures.kept c.self.inside.by_key refl c.self.invariant in
    in_starts (g.P.Places.end_place c.args.at.now) a c.args.self.now is sound (g.P.Places.Knows c.args.at.now)
    (All-tail (λ (y : Item). g.P.Places.Knows c.args.at.now y.start × g.P.Places.Knows c.args.at.now y.end) c.args.item c.args.self.now.items
    c.requires.known)

pub put_in-inserted-requires-clause-known : goal.put_in-inserted-requires-clause-known
put_in-inserted-requires-clause-known g c =
    let s = c.reserve_in.new.arena in
    let a = with_nodes c.self.inside s in
    let is = view_room c.self.inside s c.in_ok-reserve_in.ensures.kept c.self.inside.by_key refl ∙ c.self.view_is in
    let sound = sound_room c.self.inside s c.in_ok-reserve_in.ensures.kept c.self.inside.by_key refl c.self.invariant in
    in_ends (g.P.Places.end_place c.args.at.now) a c.args.self.now is sound (g.P.Places.Knows c.args.at.now)
    (All-tail (λ (y : Item). g.P.Places.Knows c.args.at.now y.start × g.P.Places.Knows c.args.at.now y.end) c.args.item c.args.self.now.items
    c.requires.known)

pub put_in-inserted-requires-clause-rising : goal.put_in-inserted-requires-clause-rising
put_in-inserted-requires-clause-rising g c =
    let s = c.reserve_in.new.arena in
    let a = with_nodes c.self.inside s in
    let is = view_room c.self.inside s c.in_ok-reserve_in.ensures.kept c.self.inside.by_key refl ∙ c.self.view_is in
    let sound = sound_room c.self.inside s c.in_ok-reserve_in.ensures.kept c.self.inside.by_key refl c.self.invariant in
    subst (IsRising (g.P.Places.end_place c.args.at.now)) (sym (ap (λ (w : ItemList). w.items) is)) c.requires.order.rising

pub returns-clause-ok : goal.returns-clause-ok
returns-clause-ok g c =
    let s = c.reserve_in.new.arena in
    let a = with_nodes c.self.inside s in
    let is = view_room c.self.inside s c.in_ok-reserve_in.ensures.kept c.self.inside.by_key refl ∙ c.self.view_is in
    let sound = sound_room c.self.inside s c.in_ok-reserve_in.ensures.kept c.self.inside.by_key refl c.self.invariant in
    c.put_in-inserted.ensures.items ∙ ap (λ (w : ItemList). put_item (g.P.Places.end_place c.args.at.now) c.args.item w.items) is

pub invariant_of-self-2 : goal.invariant_of-self-2
invariant_of-self-2 g c =
    let s = c.reserve_in.new.arena in
    let a = with_nodes c.self.inside s in
    let is = view_room c.self.inside s c.in_ok-reserve_in.ensures.kept c.self.inside.by_key refl ∙ c.self.view_is in
    let sound = sound_room c.self.inside s c.in_ok-reserve_in.ensures.kept c.self.inside.by_key refl c.self.invariant in
    let forest = in_forest (g.P.Places.end_place c.args.at.now) a c.args.self.now is sound in
    let none = keyed_fresh s (leaf_in c.self.inside.by_key) sound.keyed forest c.args.item.key
    (ap (λ (w : ItemList). has_key c.args.item.key w.items) is ∙ c.requires.fresh) in
    let root = ap (λ (i : Inserted). i.root) c.inserted.view_is in
    let leaf = ap (λ (i : Inserted). i.leaf) c.inserted.view_is in
    let v0 : Keyed = record { leaf = 0; id = c.args.id } in
    let written = written_twice c.args.item.key (Some v0) _ (tree_map.get nat_cmp c.self.inside.by_key) (tree_map.get nat_cmp c.insert.new.self)
    (tree_map.get nat_cmp c.set_leaf.new.by_key) c.in_ok-insert.ensures.updates.0 (c.set_leaf.ensures v0 c.in_ok-insert.ensures.updates.1) in
    record {
      rooted = subst (λ (z : ℕ). IsTree c.put_in-inserted.new.arena z) (sym root) c.put_in-inserted.ensures.tree;
      names = c.put_in-inserted.ensures.one;
      keyed = keyed_added s (leaf_in c.self.inside.by_key) sound.keyed c.put_in-inserted.new.arena (leaf_in c.set_leaf.new.by_key) _ c.args.item
          (subst (λ (z : ℕ). AddsLeaf s c.put_in-inserted.new.arena z c.args.item) (sym leaf) c.put_in-inserted.ensures.leaf) none
          (has_part (λ (x : Keyed). x.leaf) c.args.item.key _ (tree_map.get nat_cmp c.self.inside.by_key)
          (tree_map.get nat_cmp c.set_leaf.new.by_key) written);
    }

pub returns-clause-order : goal.returns-clause-order
returns-clause-order g c =
    let s = c.reserve_in.new.arena in
    let a = with_nodes c.self.inside s in
    let is = view_room c.self.inside s c.in_ok-reserve_in.ensures.kept c.self.inside.by_key refl ∙ c.self.view_is in
    let sound = sound_room c.self.inside s c.in_ok-reserve_in.ensures.kept c.self.inside.by_key refl c.self.invariant in
    let place = g.P.Places.end_place c.args.at.now in
    let root = ap (λ (i : Inserted). i.root) c.inserted.view_is in
    record {
      rising = subst (IsRising place) (sym (c.put_in-inserted.ensures.items ∙ ap (λ (w : ItemList). put_item place c.args.item w.items) is))
          (rising_put place c.args.item c.args.self.now.items c.requires.order.rising);
      greatest = subst (λ (z : ℕ). All (NamesGreatest place) (all_blocks c.put_in-inserted.new.arena (Some z))) (sym root)
          (all_great place c.put_in-inserted.new.arena (Some c.put_in-inserted.result.root) c.put_in-inserted.ensures.tree
          c.put_in-inserted.ensures.last);
    }

pub returns-clause-ids : goal.returns-clause-ids
returns-clause-ids g c = λ k.
    let v0 : Keyed = record { leaf = 0; id = c.args.id } in
    let written = written_twice c.args.item.key (Some v0) _ (tree_map.get nat_cmp c.self.inside.by_key) (tree_map.get nat_cmp c.insert.new.self)
    (tree_map.get nat_cmp c.set_leaf.new.by_key) c.in_ok-insert.ensures.updates.0 (c.set_leaf.ensures v0 c.in_ok-insert.ensures.updates.1) in
    ids_changed c.args.item.key _ c.self.inside.by_key c.set_leaf.new.by_key written k
    ∙ ap (λ (w : ItemList). cond (nat_eq c.args.item.key k) (Some c.args.id) (id_at k w.ids)) c.self.view_is
