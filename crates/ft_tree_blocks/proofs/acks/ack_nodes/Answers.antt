use Rattle.std.proofs.Common.{◌≡◌, ℕ, ◌+◌, List, ◌∷◌, Some, drop, get_or, map, refl, subst, sym, ◌∙◌, ap, arith}
use Rattle.std.proofs.lemmas.List.{drop_all, drop_more}
use Rattle.std.proofs.lemmas.List.Elements.{All-get_or}
use Rattle.ft_block.specs.Leaves.{IsLeafIn, change_leaf, value_at}
use Rattle.ft_tree_leaves.specs.declared.leaves.TreeLeaf.{TreeLeaf}
use Rattle.ft_tree_leaves.specs.Elements.{IsLowestChange}
use Rattle.ft_tree_leaves.specs.LeafChanges.{acked_leaf, acked_pair}
use Rattle.ft_tree_blocks.specs.Touched.{HaveAllOf}
use Rattle.ft_tree_blocks.proofs.AckedNodes.{acked-again, all_done, lowest_at, lowest_stays, none_left, rest_of, same_times, value_and}
use Rattle.ft_tree_blocks.proofs.Walks.{live_value}
use Rattle.ft_tree_blocks.proofs.acks.ack_nodes.Goals as goal

pub loop-id-init : goal.loop-id-init
loop-id-init g c = record {
  acked = refl;
  rest = c.requires.covers;
  lowest = lowest_at g.C.Content.units g.C.Content.by c.args.stage c.args.blocks.now.leaves c.first-first.ensures.some c.requires.lowest;
  usable = c.requires.usable;
  floor = refl;
}

pub loop-id-preserved : goal.loop-id-preserved
loop-id-preserved g c =
    let stamped = g.C.Content.stamped in
    let k = c.args.stage in
    let s = c.args.seq in
    let n = c.args.conn in
    let xs = c.loop-id.blocks.leaves in
    let i = c.loop-id.id-index in
    let ids = c.args.nodes.now in
    let id = c.id.inside.0 in
    let is : id ≡ get_or ids i id = subst (λ z. z ≡ get_or ids i z) (sym c.id.view_is) c.id-item.is in
    let f : ℕ × TreeLeaf g.row.C.Denot → ℕ × TreeLeaf g.row.C.Denot = acked_pair stamped k s n in
    let step : c.ack_at.new.blocks.leaves ≡ change_leaf (acked_leaf stamped k s n) xs id = c.in_ok-ack_at.ensures.leaves in
    let next : drop i ids ≡ id ∷ drop (i + 1) ids = drop_more ids i id c.loop-id-test.true ∙ ap (λ m. m ∷ drop (i + 1) ids) (sym is) in
    record {
      acked = ap (map f) step ∙ acked-again stamped k s n xs id ∙ c.loop-id.invariant.acked;
      rest = subst (λ (ys : List (ℕ × TreeLeaf g.row.C.Denot)). HaveAllOf k ys (drop (i + 1) ids)) (sym step)
          (rest_of stamped k s n xs id (drop (i + 1) ids) (subst (HaveAllOf k xs) next c.loop-id.invariant.rest));
      lowest = subst (λ (ys : List (ℕ × TreeLeaf g.row.C.Denot)). (z : ℕ) (v : TreeLeaf g.row.C.Denot) → value_at ys z ≡ Some v → IsLowestChange k v.overlay) (sym step)
          (lowest_stays stamped k s n xs id c.loop-id.invariant.lowest);
      usable = c.in_ok-ack_at.ensures.usable;
      floor = c.in_ok-ack_at.ensures.floor ∙ c.loop-id.invariant.floor;
    }

pub ack_at-requires : goal.ack_at-requires
ack_at-requires g c =
    let xs = c.loop-id.blocks.leaves in
    let old = c.args.blocks.now.leaves in
    let ids = c.args.nodes.now in
    let i = c.loop-id.id-index in
    let id = c.id.inside.0 in
    let is : id ≡ get_or ids i id = subst (λ z. z ≡ get_or ids i z) (sym c.id.view_is) c.id-item.is in
    let k = c.args.stage in
    let was : IsLeafIn old id = subst (IsLeafIn old) (sym is)
    (All-get_or (λ z. IsLeafIn old z) ids i id c.loop-id-test.true c.requires.live) in
    let live : IsLeafIn xs id = omega (arith, was, same_times g.C.Content.stamped k c.args.seq c.args.conn xs old id c.loop-id.invariant.acked) in
    let v = live_value xs id live in
    record {
      usable = c.loop-id.invariant.usable;
      live = live;
      lowest = value_and (λ (w : TreeLeaf g.row.C.Denot). IsLowestChange k w.overlay) (value_at xs id) v.0 v.1 (c.loop-id.invariant.lowest id v.0 v.1);
    }

pub returns : goal.returns
returns g c =
    let stamped = g.C.Content.stamped in
    let k = c.args.stage in
    let s = c.args.seq in
    let n = c.args.conn in
    let xs = c.loop-id.blocks.leaves in
    let old = c.args.blocks.now.leaves in
    let ids = c.args.nodes.now in
    let none = subst (HaveAllOf k xs) (drop_all c.loop-id.id-index ids c.loop-id-test.false) c.loop-id.invariant.rest in
    record {
      leaves = sym (all_done stamped k s n xs (λ i. omega (arith, c.first-first.ensures.once i, same_times stamped k s n xs old i c.loop-id.invariant.acked))
          (none_left stamped k s n xs none)) ∙ c.loop-id.invariant.acked;
      usable = c.loop-id.invariant.usable;
      floor = c.loop-id.invariant.floor;
    }
