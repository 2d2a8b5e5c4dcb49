-- A tree whose arena has a new leaf, which is not in the tree yet, or one of whose leaves has another value.
use Rattle.std.proofs.Common.{◌≡◌, ◌≢◌, ℕ, zero, suc, ◌+◌, ◌-◌, ◌<◌, ◌≤◌, List, [], ◌∷◌, length, Option, Some, None, IsSome, refl, sym, ap, subst, ◌∙◌, inl, inr, arith}
use Rattle.std.proofs.lemmas.Bool.{cases_eq, cases_lt}
use Rattle.std.specs.List.{flat_map}
use Rattle.ft_arena.specs.declared.nodes.Node.{Node}
use Rattle.ft_arena.specs.declared.nodes.Node.TheVariants.{Leaf, Block}
use Rattle.ft_arena.specs.Ids.{same, times, insert_after}
use Rattle.ft_arena.specs.Forest.{Forest, Entry, IsForest, entry, kids_of, parent_of, block_value, leaf_value, leaf_of_entry, block_of_entry, kids_of_entry, kids_of_node}
use Rattle.ft_arena.specs.Forest.{block_of_node, leaf_of_node, parent_of_entry}
use Rattle.ft_shape.specs.declared.headed.Headed.{Headed}
use Rattle.ft_shape.specs.Tree.{total, height_of, height_of_entry, height_of_node, Measure, length_of, length_of_entry, below, IsShape, SumsBut, OwesAt, OwesAbove}
use Rattle.ft_shape.specs.Tree.{IsGrowing, IsTree, IsEdit}
use Rattle.std.proofs.lemmas.List.{get_or_past, get_or-set_same, get_or-set_other}
use Rattle.ft_arena.specs.Forest.{Changes, with_leaf, count_some}
use Rattle.ft_arena.proofs.ArenaLemmas.{IsForest-other}
use Rattle.ft_arena.proofs.KidLemmas.{kept}
use Rattle.ft_shape.specs.Steps.{InsertsLeaf, SplitsLeaf, ChangesLeaf}
use Rattle.ft_shape.proofs.Levels.{points_some, points_at, live_from_parent, block_from_height}
use Rattle.ft_shape.proofs.EditLemmas.{flat_map_same, total_same, total_change, some_of, is_some_from, dead_apart, after_is_edit}
use Rattle.ft_shape.proofs.KindLemmas.{block_live}
use Rattle.ft_shape.proofs.FitLemmas.{leaf_length}

pub leaf_height : {L S : Type 0} (o : Option (Entry L (Headed S))) → IsSome (leaf_of_entry o) → height_of_entry o ≡ 0
leaf_height {L} {S} None h = refl
leaf_height {L} {S} (Some e) h = of_node e.node h
  where
    of_node : (n : Node L (Headed S)) → IsSome (leaf_of_node n) → height_of_node n ≡ 0
    of_node (Leaf v) h = refl
    of_node (Block ks v) h = cc

pub leaf_kids : {L S : Type 0} (o : Option (Entry L (Headed S))) (v : L) → leaf_of_entry o ≡ Some v → kids_of_entry o ≡ []
leaf_kids {L} {S} None v h = refl
leaf_kids {L} {S} (Some e) v h = of_node e.node h
  where
    of_node : (n : Node L (Headed S)) → leaf_of_node n ≡ Some v → kids_of_node n ≡ []
    of_node (Leaf w) h = refl
    of_node (Block ks w) h = cc

pub leaf_block : {L S : Type 0} (o : Option (Entry L (Headed S))) (v : L) → leaf_of_entry o ≡ Some v → block_of_entry o ≡ None
leaf_block {L} {S} None v h = refl
leaf_block {L} {S} (Some e) v h = of_node e.node h
  where
    of_node : (n : Node L (Headed S)) → leaf_of_node n ≡ Some v → block_of_node n ≡ None
    of_node (Leaf w) h = refl
    of_node (Block ks w) h = cc

pub leaf_live : {L S : Type 0} (o : Option (Entry L (Headed S))) → IsSome (leaf_of_entry o) → IsSome o
leaf_live None h = cc
leaf_live (Some e) h = refl

-- room was made before a node was: the nodes and leaves are those of before
module _ {L S : Type 0} (s0 s1 : Forest L (Headed S)) (room : s1 ≡ record s0 { spare = s1.spare }) where
  pub room_entry : (x : ℕ) → entry s1 x ≡ entry s0 x
  room_entry x = ap (λ (s : Forest L (Headed S)). entry s x) room

  pub room_leaves : s1.leaves ≡ s0.leaves
  room_leaves = ap (λ (s : Forest L (Headed S)). s.leaves) room

  below_room : (n j : ℕ) (xs : List ℕ) → below (record s0 { spare = n }) j xs ≡ below s0 j xs
  below_room n zero xs = refl
  below_room n (suc j) xs = below_room n j (flat_map (kids_of s0) xs)

  shape_room : (n root : ℕ) (extra short : Option ℕ) → IsShape s0 root extra short → IsShape (record s0 { spare = n }) root extra short
  shape_room n root extra short t =
      record {
        forest = record { leaf_once = t.forest.leaf_once; child_once = t.forest.child_once; few = t.forest.few };
        root_is_block = t.root_is_block;
        root_is_top = t.root_is_top;
        one_top = t.one_top;
        low = t.low;
        heights = t.heights;
        high = t.high;
        half_full = t.half_full;
        root_filled = t.root_filled;
      }

  pub room_tree : (root : ℕ) → IsTree s0 root → IsTree s1 root
  room_tree root t = subst (λ (z : Forest L (Headed S)). IsTree z root) (sym room) record {
    shape = shape_room s1.spare root None None t.shape;
    leaves =
        t.leaves ∙ sym (below_room s1.spare (height_of s0 root) (root ∷ []));
  }

  pub room_sums : (measure : Measure L S) → SumsBut measure s0 None → SumsBut measure s1 None
  room_sums measure sums = subst (λ (z : Forest L (Headed S)). SumsBut measure z None) (sym room) (λ b h e. sums b h e)

  pub room_values : (x : ℕ) → leaf_value s1 x ≡ leaf_value s0 x
  room_values x = ap (λ (s : Forest L (Headed S)). leaf_value s x) room

  pub room_changes : (s2 : Forest L (Headed S)) (id : ℕ) (e : Option (Entry L (Headed S))) → Changes s1 s2 id e → Changes s0 s2 id e
  room_changes s2 id e c = record { changed = c.changed; others = λ x d. c.others x d ∙ room_entry x }

module _ {L S : Type 0} (s s' : Forest L (Headed S)) (root at id step : ℕ) (ed : List ℕ → List ℕ) (E : IsEdit step ed at id) (leaf : L) (t : IsTree s root)
    (at_leaf : IsSome (leaf_value s at)) (fresh : entry s id ≡ None) (c : Changes s s' id (Some record { node = Leaf leaf; parent = None }))
    (leaves : s'.leaves ≡ ed s.leaves) (forest : IsForest s') where
  in_kids : (x : ℕ) → kids_of s' x ≡ kids_of s x
  in_kids = kept kids_of_entry s s' id _ c (sym (ap kids_of_entry fresh))

  in_parents : (x : ℕ) → parent_of s' x ≡ parent_of s x
  in_parents = kept parent_of_entry s s' id _ c (sym (ap parent_of_entry fresh))

  in_heights : (x : ℕ) → height_of s' x ≡ height_of s x
  in_heights = kept height_of_entry s s' id _ c (sym (ap height_of_entry fresh))

  pub in_blocks : (x : ℕ) → block_value s' x ≡ block_value s x
  in_blocks = kept block_of_entry s s' id _ c (sym (ap block_of_entry fresh))

  in_was_block : (x : ℕ) → IsSome (block_value s' x) → IsSome (block_value s x)
  in_was_block x h = subst (λ (o : Option (Headed S)). IsSome o) (in_blocks x) h

  in_was_live : (x : ℕ) → x ≢ id → IsSome (entry s' x) → IsSome (entry s x)
  in_was_live x d h = subst (λ (o : Option (Entry L (Headed S))). IsSome o) (c.others x d) h

  in_live : (x : ℕ) → IsSome (entry s x) → IsSome (entry s' x)
  in_live x h = subst (λ (o : Option (Entry L (Headed S))). IsSome o) (sym (c.others x (dead_apart (entry s) x id h fresh))) h

  in_at_apart : at ≢ id
  in_at_apart = dead_apart (entry s) at id (leaf_live (entry s at) at_leaf) fresh

  in_at_low : height_of s at ≡ 0
  in_at_low = leaf_height (entry s at) at_leaf

  in_root_apart : id ≢ root
  in_root_apart = λ e. dead_apart (entry s) root id (block_live (entry s root) t.shape.root_is_block) fresh (sym e)

  in_below : (n : ℕ) (xs : List ℕ) → below s' n xs ≡ below s n xs
  in_below zero xs = refl
  in_below (suc n) xs = ap (below s' n) (flat_map_same (kids_of s) (kids_of s') xs (λ x m. in_kids x)) ∙ in_below n (flat_map (kids_of s) xs)

  -- the new leaf is the node to be put into the tree, beside that one
  pub leaf_grows : IsGrowing s' root at id ed
  leaf_grows =
      record {
        shape = record {
          forest = forest;
          root_is_block = subst (λ (o : Option (Headed S)). IsSome o) (sym (in_blocks root)) t.shape.root_is_block;
          root_is_top = in_parents root ∙ t.shape.root_is_top;
          one_top = λ x live d e. subst (λ (o : Option ℕ). IsSome o) (sym (in_parents x)) (t.shape.one_top x (in_was_live x (λ q. e (ap Some (sym q))) live) d (λ q. cc));
          low = λ x live. elim (cases_eq x id) [
            | inl e ↦ omega (arith, in_heights x, ap (height_of s) e, ap height_of_entry fresh)
            | inr d ↦ omega (arith, in_heights x, in_heights root, t.shape.low x (in_was_live x d live))
          ];
          heights = λ x b e. omega (arith, in_heights x, in_heights b, t.shape.heights x b (sym (in_parents x) ∙ e));
          high = λ b h. omega (arith, in_heights b, t.shape.high b (in_was_block b h));
          half_full = λ b h d n. omega (arith, ap length (in_kids b), t.shape.half_full b (in_was_block b h) d n);
          root_filled = omega (arith, ap length (in_kids root), t.shape.root_filled);
        };
        new_live = is_some_from (entry s' id) _ c.changed;
        new_top = ap parent_of_entry c.changed;
        new_apart = in_root_apart;
        at_live = in_live at (leaf_live (entry s at) at_leaf);
        at_apart = in_at_apart;
        at_filled = λ h. absurd (omega (arith, h, in_heights at, in_at_low));
        level = in_heights id ∙ ap height_of_entry fresh ∙ sym (in_heights at ∙ in_at_low);
        leaves = (
            let e : height_of s' at ≡ 0 = in_heights at ∙ in_at_low in
            let h : height_of s root ≡ height_of s' root - height_of s' at = omega (arith, e, in_heights root) in
            leaves ∙ ap ed (t.leaves ∙ sym (in_below (height_of s root) (root ∷ []))) ∙ ap (λ (n : ℕ). ed (below s' n (root ∷ []))) h
            ∙ ap (λ (n : ℕ). below s' n (ed (below s' (height_of s' root - height_of s' at) (root ∷ [])))) (sym e)
            );
      }

  pub leaf_heights : (x : ℕ) → height_of s' x ≡ height_of s x
  leaf_heights = in_heights

  -- once the tree has the leaf, the list has it
  pub leaf_inserts : (new : Forest L (Headed S)) → new.leaves ≡ s'.leaves → ((x : ℕ) → leaf_value new x ≡ leaf_value s' x) → InsertsLeaf s new id leaf ed
  leaf_inserts new l v =
      record {
        leaves = l ∙ leaves;
        fresh = ap leaf_of_entry fresh;
        value = v id ∙ ap leaf_of_entry c.changed;
        others = λ x d. v x ∙ ap leaf_of_entry (c.others x d);
      }

  module _ (measure : Measure L S) (was_sums : SumsBut measure s (parent_of s at)) where
    -- no block's length changes by that
    pub leaf_sums : SumsBut measure s' (parent_of s' at)
    leaf_sums b h stale =
        let block = in_was_block b h in
        let inside : (x : ℕ) → 1 ≤ times (kids_of s b) x → x ≢ id =
        λ x m. dead_apart (entry s) x id (live_from_parent (entry s x) b (points_some (parent_of s x) b (omega (arith, m, t.shape.forest.child_once b x))))
        fresh in
        ap (length_of_entry measure) (c.others b (dead_apart (entry s) b id (block_live (entry s b) block) fresh)) ∙ was_sums b block (λ e. stale (in_parents at ∙ e))
        ∙ sym (total_same (length_of measure s) (length_of measure s') (kids_of s b) (λ x m. ap (length_of_entry measure) (c.others x (inside x m))))
        ∙ ap (total (length_of measure s')) (sym (in_kids b))

    -- its parent owes the new leaf besides what it owed before
    pub leaf_owes : (more less : ℕ) → OwesAt measure s (parent_of s at) more less → OwesAbove measure s' at ed (more + measure.leaf leaf) less
    leaf_owes more less owes p up =
        let old : parent_of s at ≡ Some p = sym (in_parents at) ∙ up in
        let inside : (x : ℕ) → 1 ≤ times (kids_of s p) x → x ≢ id =
        λ x m. dead_apart (entry s) x id (live_from_parent (entry s x) p (points_some (parent_of s x) p (omega (arith, m, t.shape.forest.child_once p x))))
        fresh in
        let kids : total (length_of measure s') (kids_of s p) ≡ total (length_of measure s) (kids_of s p) =
        total_same (length_of measure s) (length_of measure s') (kids_of s p) (λ x m. ap (length_of_entry measure) (c.others x (inside x m))) in
        let block : length_of measure s' p ≡ length_of measure s p =
        ap (length_of_entry measure) (c.others p (dead_apart (entry s) p id
        (block_live (entry s p) (block_from_height (entry s p) (omega (arith, t.shape.heights at p old)))) fresh)) in
        let one : times (kids_of s p) at ≡ 1 = t.shape.forest.child_once p at ∙ points_at (parent_of s at) p old in
        let here : length_of measure s' id ≡ measure.leaf leaf = ap (length_of_entry measure) c.changed in
        omega (arith, block, owes p old, kids, E.totals (length_of measure s') (kids_of s p) one, here, ap (λ ks. total (length_of measure s') (ed ks)) (in_kids p))

  module _ (measure : Measure L S) where
    -- all leaves together are as much longer as the new one is long
    pub leaf_fits : total (length_of measure s') s'.leaves ≡ total (length_of measure s) s.leaves + measure.leaf leaf
    leaf_fits =
        let here : length_of measure s' id ≡ measure.leaf leaf = ap (length_of_entry measure) c.changed in
        let none : times s.leaves id ≡ 0 = t.shape.forest.leaf_once id ∙ ap (λ o. count_some (leaf_of_entry o)) fresh in
        let same_rest : total (length_of measure s') s.leaves ≡ total (length_of measure s) s.leaves =
        total_same (length_of measure s) (length_of measure s') s.leaves
        (λ x m. ap (length_of_entry measure) (c.others x (λ e. omega (arith, m, none, ap (times s.leaves) e)))) in
        let one : times s.leaves at ≡ 1 = t.shape.forest.leaf_once at ∙ counts (leaf_value s at) at_leaf in
        omega (arith, ap (total (length_of measure s')) leaves, E.totals (length_of measure s') s.leaves one, here, same_rest)
      where
        counts : (o : Option L) → IsSome o → count_some o ≡ 1
        counts None h = cc
        counts (Some v) h = refl

-- a leaf that has another value
module _ {L S : Type 0} (s : Forest L (Headed S)) (root at : ℕ) (v w : L) (t : IsTree s root) (found : leaf_value s at ≡ Some v) where
  abbrev ch_s : Forest L (Headed S)
  ch_s = with_leaf s at w

  ch_within : at < length s.nodes
  ch_within = elim (cases_lt at (length s.nodes)) [
    | inl l ↦ l
    | inr g ↦ absurd (let q : leaf_of_entry (entry s at) ≡ None = ap leaf_of_entry (get_or_past s.nodes at None g) in cc (q, found))
  ]

  ch_changes : Changes s ch_s at (Some record { node = Leaf w; parent = parent_of s at })
  ch_changes =
      record {
        changed = get_or-set_same s.nodes at _ None ch_within;
        others = λ x d. get_or-set_other s.nodes at x _ None d;
      }

  ch_kids : (x : ℕ) → kids_of ch_s x ≡ kids_of s x
  ch_kids = kept kids_of_entry s ch_s at _ ch_changes (sym (leaf_kids (entry s at) v found))

  ch_parents : (x : ℕ) → parent_of ch_s x ≡ parent_of s x
  ch_parents = kept parent_of_entry s ch_s at _ ch_changes refl

  ch_heights : (x : ℕ) → height_of ch_s x ≡ height_of s x
  ch_heights = kept height_of_entry s ch_s at _ ch_changes (sym (leaf_height (entry s at) (is_some_from _ v found)))

  pub ch_blocks : (x : ℕ) → block_value ch_s x ≡ block_value s x
  ch_blocks = kept block_of_entry s ch_s at _ ch_changes (sym (leaf_block (entry s at) v found))

  ch_live : (x : ℕ) → IsSome (entry ch_s x) → IsSome (entry s x)
  ch_live x h = elim (cases_eq x at) [
    | inl e ↦ subst (λ (z : ℕ). IsSome (entry s z)) (sym e) (leaf_live (entry s at) (is_some_from _ v found))
    | inr d ↦ subst (λ (o : Option (Entry L (Headed S))). IsSome o) (ch_changes.others x d) h
  ]

  ch_block : (x : ℕ) → IsSome (block_value ch_s x) → IsSome (block_value s x)
  ch_block x h = subst (λ (o : Option (Headed S)). IsSome o) (ch_blocks x) h

  ch_below : (n : ℕ) (xs : List ℕ) → below ch_s n xs ≡ below s n xs
  ch_below zero xs = refl
  ch_below (suc n) xs = ap (below ch_s n) (flat_map_same (kids_of s) (kids_of ch_s) xs (λ x m. ch_kids x)) ∙ ch_below n (flat_map (kids_of s) xs)

  pub changed_forest : IsForest ch_s
  changed_forest =
      let count : (x : ℕ) → count_some (leaf_of_entry (entry ch_s x)) ≡ count_some (leaf_of_entry (entry s x)) =
      kept (λ (o : Option (Entry L (Headed S))). count_some (leaf_of_entry o)) s ch_s at _ ch_changes (sym (ap count_some found)) in
      IsForest-other s ch_s (λ x. t.shape.forest.leaf_once x ∙ sym (count x)) ch_kids ch_parents t.shape.forest

  pub changed_value : leaf_value ch_s at ≡ Some w
  changed_value = ap leaf_of_entry ch_changes.changed

  pub changed_others : (x : ℕ) → x ≢ at → leaf_value ch_s x ≡ leaf_value s x
  changed_others x d = ap leaf_of_entry (ch_changes.others x d)

  module _ (measure : Measure L S) where
    pub changed_total : total (length_of measure ch_s) s.leaves + measure.leaf v ≡ total (length_of measure s) s.leaves + measure.leaf w
    changed_total =
        let one : times s.leaves at ≡ 1 = t.shape.forest.leaf_once at ∙ ap count_some found in
        let e = total_change (length_of measure s) (length_of measure ch_s) s.leaves at one (λ x m d. ap (length_of_entry measure) (ch_changes.others x d)) in
        let new : length_of measure ch_s at ≡ measure.leaf w = ap (length_of_entry measure) ch_changes.changed in
        omega (arith, e, new, leaf_length measure (entry s at) v found)

  pub changed_heights : (x : ℕ) → height_of ch_s x ≡ height_of s x
  changed_heights = ch_heights

  pub changed_shape : IsShape ch_s root None None
  changed_shape =
      record {
        forest = changed_forest;
        root_is_block = subst (λ (o : Option (Headed S)). IsSome o) (sym (ch_blocks root)) t.shape.root_is_block;
        root_is_top = ch_parents root ∙ t.shape.root_is_top;
        one_top = λ x live d e. subst (λ (o : Option ℕ). IsSome o) (sym (ch_parents x)) (t.shape.one_top x (ch_live x live) d e);
        low = λ x live. omega (arith, ch_heights x, ch_heights root, t.shape.low x (ch_live x live));
        heights = λ x b e. omega (arith, ch_heights x, ch_heights b, t.shape.heights x b (sym (ch_parents x) ∙ e));
        high = λ b h. omega (arith, ch_heights b, t.shape.high b (ch_block b h));
        half_full = λ b h d n. omega (arith, ap length (ch_kids b), t.shape.half_full b (ch_block b h) d n);
        root_filled = omega (arith, ap length (ch_kids root), t.shape.root_filled);
      }

  pub changed_leaves : ch_s.leaves ≡ below ch_s (height_of ch_s root) (root ∷ [])
  changed_leaves = t.leaves ∙ sym (ch_below (height_of s root) (root ∷ [])) ∙ ap (λ (n : ℕ). below ch_s n (root ∷ [])) (sym (ch_heights root))

  -- a tree stays a tree
  pub changed_tree : IsTree ch_s root
  changed_tree = record { shape = changed_shape; leaves = changed_leaves }

  -- once the tree is right again, only that leaf has changed
  pub changed_leaf : (f : L → L) → w ≡ f v → (new : Forest L (Headed S)) → new.leaves ≡ ch_s.leaves
      → ((x : ℕ) → leaf_value new x ≡ leaf_value ch_s x) → ChangesLeaf f s new at
  changed_leaf f is new l vs =
      record {
        leaves = l;
        was = v;
        old_value = found;
        new_value = vs at ∙ changed_value ∙ ap Some is;
        others = λ x d. vs x ∙ changed_others x d;
      }

  module _ (measure : Measure L S) (was_sums : SumsBut measure s None) where
    pub changed_sums : SumsBut measure ch_s (parent_of ch_s at)
    changed_sums b h stale =
        let inside : (x : ℕ) → 1 ≤ times (kids_of s b) x → x ≢ at =
        λ x m e. stale (ch_parents at ∙ ap (parent_of s) (sym e) ∙ points_some (parent_of s x) b (omega (arith, m, t.shape.forest.child_once b x))) in
        let apart : b ≢ at = (λ e. let q = some_of (block_value ch_s b) h in let n : block_value ch_s at ≡ None = ap block_of_entry ch_changes.changed in
        cc (n, ap (λ z. block_value ch_s z) e, q.1)) in
        ap (length_of_entry measure) (ch_changes.others b apart) ∙ was_sums b (ch_block b h) (λ e. cc)
        ∙ sym (total_same (length_of measure s) (length_of measure ch_s) (kids_of s b) (λ x m. ap (length_of_entry measure) (ch_changes.others x (inside x m))))
        ∙ ap (total (length_of measure ch_s)) (sym (ch_kids b))

    -- the parent owes the new length, and has the old one too much
    pub changed_owes : OwesAt measure ch_s (parent_of ch_s at) (measure.leaf w) (measure.leaf v)
    changed_owes p up =
        let old : parent_of s at ≡ Some p = sym (ch_parents at) ∙ up in
        let is_block : IsSome (block_value s p) = block_from_height (entry s p) (omega (arith, t.shape.heights at p old)) in
        let apart : p ≢ at = (λ e. let q = some_of (block_value s p) is_block in cc (leaf_block (entry s at) v found, ap (block_value s) e, q.1)) in
        let one : times (kids_of s p) at ≡ 1 = t.shape.forest.child_once p at ∙ points_at (parent_of s at) p old in
        let change = total_change (length_of measure s) (length_of measure ch_s) (kids_of s p) at one (λ x m d. ap (length_of_entry measure) (ch_changes.others x d)) in
        let now : length_of measure ch_s at ≡ measure.leaf w = ap (length_of_entry measure) ch_changes.changed in
        omega (
          arith,
          ap (length_of_entry measure) (ch_changes.others p apart),
          was_sums p is_block (λ e. cc),
          change,
          now,
          leaf_length measure (entry s at) v found,
          ap
              (total (length_of measure ch_s)) (ch_kids p),
        )

    -- no sum is wrong where the length of the leaf stays
    pub changed_sums_same : measure.leaf w ≡ measure.leaf v → SumsBut measure ch_s None
    changed_sums_same same b h stale =
        let all : (x : ℕ) → length_of measure ch_s x ≡ length_of measure s x =
        kept (length_of_entry measure) s ch_s at _ ch_changes (same ∙ sym (leaf_length measure (entry s at) v found)) in
        all b ∙ was_sums b (ch_block b h) (λ e. cc) ∙ sym (total_same (length_of measure s) (length_of measure ch_s) (kids_of s b) (λ x m. all x))
        ∙ ap (total (length_of measure ch_s)) (sym (ch_kids b))

-- a leaf cut in two, whose rest is in the arena and not in the tree yet
module _ {L S : Type 0} (s s' : Forest L (Headed S)) (root at id : ℕ) (v w rest : L) (t : IsTree s root) (found : leaf_value s at ≡ Some v)
    (fresh : entry (with_leaf s at w) id ≡ None) (c : Changes (with_leaf s at w) s' id (Some record { node = Leaf rest; parent = None }))
    (leaves : s'.leaves ≡ insert_after s.leaves at id) (forest : IsForest s') where
  cut_leaf : IsSome (leaf_value (with_leaf s at w) at)
  cut_leaf = is_some_from _ w (changed_value s root at v w t found)

  cut_tree : IsTree (with_leaf s at w) root
  cut_tree = changed_tree s root at v w t found

  pub cut_grows : IsGrowing s' root at id (λ xs. insert_after xs at id)
  cut_grows = leaf_grows (with_leaf s at w) s' root at id 1 (λ xs. insert_after xs at id) (after_is_edit at id) rest cut_tree cut_leaf fresh c leaves forest

  pub cut_heights : (x : ℕ) → height_of s' x ≡ height_of s x
  cut_heights x = leaf_heights (with_leaf s at w) s' root at id 1 (λ xs. insert_after xs at id) (after_is_edit at id) rest cut_tree cut_leaf fresh c leaves forest x
      ∙ changed_heights s root at v w t found x

  cut_apart : at ≢ id
  cut_apart = dead_apart (entry (with_leaf s at w)) at id (leaf_live (entry (with_leaf s at w) at) cut_leaf) fresh

  pub cut_splits : (front rear : L → L) → w ≡ front v → rest ≡ rear v → (new : Forest L (Headed S)) → new.leaves ≡ s'.leaves
      → ((x : ℕ) → leaf_value new x ≡ leaf_value s' x)
      → SplitsLeaf front rear s new at id
  cut_splits front rear is_front is_rear new l vs =
      record {
        leaves = l ∙ leaves;
        fresh = sym (changed_others s root at v w t found id (λ e. cut_apart (sym e))) ∙ ap leaf_of_entry fresh;
        whole = v;
        was = found;
        now = vs at ∙ ap leaf_of_entry (c.others at cut_apart) ∙ changed_value s root at v w t found ∙ ap Some is_front;
        value = vs id ∙ ap leaf_of_entry c.changed ∙ ap Some is_rear;
        others = λ x d n. vs x ∙ ap leaf_of_entry (c.others x n) ∙ changed_others s root at v w t found x d;
      }

  module _ (measure : Measure L S) (was_sums : SumsBut measure s None) where
    pub cut_sums : SumsBut measure s' (parent_of s' at)
    cut_sums = leaf_sums (with_leaf s at w) s' root at id 1 (λ xs. insert_after xs at id) (after_is_edit at id) rest cut_tree cut_leaf fresh c leaves forest measure
        (changed_sums s root at v w t found measure was_sums)

    pub cut_owes : measure.leaf w + measure.leaf rest ≡ measure.leaf v → OwesAbove measure s' at (λ xs. insert_after xs at id) (measure.leaf v) (measure.leaf v)
    cut_owes parts = subst (λ (n : ℕ). OwesAbove measure s' at (λ xs. insert_after xs at id) n (measure.leaf v)) parts
        (leaf_owes (with_leaf s at w) s' root at id 1 (λ xs. insert_after xs at id) (after_is_edit at id) rest cut_tree cut_leaf fresh c leaves forest measure
        (changed_sums s root at v w t found measure was_sums) (measure.leaf w) (measure.leaf v) (changed_owes s root at v w t found measure was_sums))

  module _ (measure : Measure L S) where
    pub cut_total : measure.leaf w + measure.leaf rest ≡ measure.leaf v → total (length_of measure s') s'.leaves ≡ total (length_of measure s) s.leaves
    cut_total parts = omega (
      arith,
      leaf_fits (with_leaf s at w) s' root at id 1 (λ xs. insert_after xs at id) (after_is_edit at id) rest cut_tree cut_leaf fresh c leaves
          forest measure,
      changed_total s root at v w t found measure,
      parts,
    )

module _ {L S : Type 0} (measure : Measure L S) (s : Forest L (Headed S)) where
  -- where all sums are right nothing is owed
  pub nothing_owed : SumsBut measure s None → (root : ℕ) → IsTree s root → (at : ℕ) → OwesAt measure s (parent_of s at) 0 0
  nothing_owed sums root t at p up = omega (arith, sums p (block_from_height (entry s p) (omega (arith, t.shape.heights at p up))) (λ e. cc))

  -- and where nothing is owed all sums are right
  pub all_settled : (stale : Option ℕ) (n : ℕ) → SumsBut measure s stale → OwesAt measure s stale n n → SumsBut measure s None
  all_settled None n sums owes b h _ = sums b h (λ e. cc)
  all_settled (Some q) n sums owes b h _ = elim (cases_eq q b) [
    | inl e ↦ omega (arith, owes b (ap Some e))
    | inr d ↦ sums b h (λ e. d (cc))
  ]
