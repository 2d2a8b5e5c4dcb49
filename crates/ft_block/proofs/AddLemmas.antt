-- That a leaf which was linked, or moved in the list, may be put into the tree.
use Rattle.std.proofs.Common.{◌≡◌, ◌≢◌, ℕ, ◌+◌, ◌^◌, ◌<◌, ◌≤◌, List, Some, None, IsSome, refl, sym, ap, ◌∙◌, arith}
use Rattle.ft_base.specs.declared.elements.Element.{Element}
use Rattle.ft_arena.specs.Ids.{without}
use Rattle.ft_arena.specs.declared.nodes.Node.TheVariants.{Leaf}
use Rattle.ft_arena.specs.Forest.{Forest, IsForest, Changes, entry, leaf_value, parent_of}
use Rattle.ft_shape.specs.declared.headed.Headed.{Headed}
use Rattle.ft_shape.specs.Tree.{IsEdit, IsTree, IsApart, height_of, length_of, total}
use Rattle.ft_shape.specs.Steps.{InsertsLeaf}
use Rattle.ft_shape.proofs.InsertLemmas.{leaf_grows, leaf_sums, leaf_owes, leaf_fits, leaf_height, leaf_heights, leaf_inserts, nothing_owed}
use Rattle.ft_shape.proofs.InsertLemmas.{room_entry, room_changes}
use Rattle.ft_block.specs.declared.summaries.Summary.{Summary}
use Rattle.ft_block.specs.declared.summaries.Exchange.{Exchange}
use Rattle.ft_block.specs.Tree.{SumsKeptBut, AreFromFloor, IsToAdd, MakesExchange, by_view, by_size}
use Rattle.ft_block.proofs.Floors.{leaf_floors}
use Rattle.ft_block.proofs.ExchangeLemmas.{comes}
use Rattle.ft_block.proofs.MovedLemmas.{moved_grows, moved_sums, moved_floors, moved_owes, moved_fits, moved_values, moved_at_apart, mv_high}

-- room was made, and then a leaf was linked
module _ {L : Type 0} (s0 s1 s2 : Forest L (Headed Summary)) (root at id step : ℕ) (ed : List ℕ → List ℕ) (E : IsEdit step ed at id) (leaf : L)
    (t : IsTree s0 root) (at_leaf : IsSome (leaf_value s0 at)) (room : s1 ≡ record s0 { spare = s1.spare }) (fresh : entry s1 id ≡ None)
    (c : Changes s1 s2 id (Some record { node = Leaf leaf; parent = None })) (leaves : s2.leaves ≡ ed s0.leaves) (forest : IsForest s2) where
  fresh0 : entry s0 id ≡ None
  fresh0 = sym (room_entry s0 s1 room id) ∙ fresh

  c0 : Changes s0 s2 id (Some record { node = Leaf leaf; parent = None })
  c0 = room_changes s0 s1 room s2 id _ c

  -- once the tree has the leaf, the list has it
  pub linked_inserts : (new : Forest L (Headed Summary)) → new.leaves ≡ s2.leaves → ((x : ℕ) → leaf_value new x ≡ leaf_value s2 x)
      → InsertsLeaf s0 new id leaf ed
  linked_inserts new l v = leaf_inserts s0 s2 root at id step ed E leaf t at_leaf fresh0 c0 leaves forest new l v

  pub linked_adds : (size : L → ℕ) (element : L → Element) (floor : ℕ) (exchange : Exchange) → s1.spare ≡ s2.spare + 1
      → height_of s0 root + 2 ≤ s1.spare → height_of s0 root + 2 < 2 ^ 64 → SumsKeptBut size element floor s0 None → AreFromFloor floor s0
      → total (length_of (by_size size) s0) s0.leaves + size leaf < 2 ^ 64 → MakesExchange floor exchange (element leaf) 0 (element leaf) (size leaf)
      → IsToAdd size element floor s2 root at id ed exchange
  linked_adds size element floor exchange spare enough tall sums floors fits makes =
      let high = leaf_heights s0 s2 root at id step ed E leaf t at_leaf fresh0 c0 leaves forest root in
      record {
        growing = leaf_grows s0 s2 root at id step ed E leaf t at_leaf fresh0 c0 leaves forest;
        sums = λ view k. leaf_sums s0 s2 root at id step ed E leaf t at_leaf fresh0 c0 leaves forest (by_view size element view)
            (λ b h _. sums view k b h (λ e. cc));
        floors = leaf_floors s0 s2 root at id step ed E leaf t at_leaf fresh0 c0 leaves forest floor floors;
        spare = omega (arith, high, spare, enough);
        fits = omega (arith, leaf_fits s0 s2 root at id step ed E leaf t at_leaf fresh0 c0 leaves forest (by_size size), fits);
        tall = omega (arith, high, tall);
        apart = λ e. omega (arith, leaf_height (entry s0 at) at_leaf, t.shape.high root t.shape.root_is_block, ap (height_of s0) e);
        come = element leaf;
        more = size leaf;
        makes = makes;
        owes = λ view k. comes size element view s2 at ed leaf (element leaf) (size leaf) refl refl
            (leaf_owes s0 s2 root at id step ed E leaf t at_leaf fresh0 c0 leaves forest (by_view size element view)
            (λ b h _. sums view k b h (λ e. cc)) 0 0
            (nothing_owed (by_view size element view) s0 (sums view k) root t at));
      }

-- room was made, and then a leaf that is apart from the tree was moved in the list
module _ {L : Type 0} (s s1 s2 : Forest L (Headed Summary)) (root id at step : ℕ) (ed : List ℕ → List ℕ) (E : IsEdit step ed at id)
    (a : IsApart s root id None) (room : s1 ≡ record s { spare = s1.spare }) (nodes : s2.nodes ≡ s1.nodes) (forest : IsForest s2) (leaves : s2.leaves ≡ ed (without s.leaves id))
    (at_leaf : IsSome (leaf_value s at)) (differ : at ≢ id) where
  nodes0 : s2.nodes ≡ s.nodes
  nodes0 = nodes ∙ ap (λ (z : Forest L (Headed Summary)). z.nodes) room

  pub moved_stay : (x : ℕ) → leaf_value s2 x ≡ leaf_value s x
  moved_stay = moved_values s s2 root id at step ed E a nodes0 forest leaves at_leaf differ

  pub moved_adds : (size : L → ℕ) (element : L → Element) (floor high : ℕ) (exchange : Exchange) (leaf : L)
      → leaf_value s id ≡ Some leaf → s2.spare ≡ s1.spare → high + 2 ≤ s1.spare → high + 2 < 2 ^ 64 → height_of s root ≤ high
      → SumsKeptBut size element floor s None → AreFromFloor floor s
      → total (length_of (by_size size) s) s.leaves < 2 ^ 64 → MakesExchange floor exchange (element leaf) 0 (element leaf) (size leaf)
      → IsToAdd size element floor s2 root at id ed exchange
  moved_adds size element floor high exchange leaf is spare enough tall low sums floors fits makes =
      let same = mv_high s s2 root id at step ed E a nodes0 forest leaves at_leaf differ root in
      record {
        growing = moved_grows s s2 root id at step ed E a nodes0 forest leaves at_leaf differ;
        sums = λ view k. moved_sums s s2 root id at step ed E a nodes0 forest leaves at_leaf differ (by_view size element view) (sums view k)
            (parent_of s2 at);
        floors = moved_floors s s2 root id at step ed E a nodes0 forest leaves at_leaf differ floor floors;
        spare = omega (arith, same, spare, enough, low);
        fits = omega (arith, moved_fits s s2 root id at step ed E a nodes0 forest leaves at_leaf differ (by_size size), fits);
        tall = omega (arith, same, tall, low);
        apart = moved_at_apart s s2 root id at step ed E a nodes0 forest leaves at_leaf differ;
        come = element leaf;
        more = size leaf;
        makes = makes;
        owes = λ view k. comes size element view s2 at ed leaf (element leaf) (size leaf) refl refl
            (moved_owes s s2 root id at step ed E a nodes0 forest leaves at_leaf differ (by_view size element view) (sums view k) leaf is);
      }
