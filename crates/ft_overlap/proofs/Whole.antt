-- What an index in order says of its nodes, and the other way round.
use Rattle.std.proofs.Common.{◌≡◌, ℕ, zero, suc, ℤ, ◌≤◌, List, [], ◌∷◌, ◌++◌, length, map, Option, Some, None, option_map, All, Contains, refl, sym, ap, subst, ◌∙◌, arith}
use Rattle.std.proofs.lemmas.List.Elements.{All-nil, All-cons, All-append, All-contains}
use Rattle.std.specs.List.{flat_map}
use Rattle.std.specs.BTreeMap.{BTreeMap, is_at}
use Rattle.std.specs.Map.{lookup}
use Rattle.std.specs.Ordering.{nat_cmp}
use Rattle.ft_arena.specs.Forest.{IsForest, kids_of, block_value, leaf_value, block_of_entry, count_some}
use Rattle.ft_arena.proofs.IdLemmas.{same_refl}
use Rattle.ft_shape.specs.declared.headed.Headed.{Headed}
use Rattle.ft_shape.specs.Tree.{IsTree, IsBare, below, height_of}
use Rattle.ft_shape.specs.Told.{sum_of, KeepsBut}
use Rattle.ft_shape.proofs.FitLemmas.{leaves_live}
use Rattle.ft_shape.proofs.Levels.{AllHigh, kids_high, root_high, some_leaf}
use Rattle.ft_shape.proofs.InsertLemmas.{room_tree, room_values}
use Rattle.ft_shape.proofs.ToldLemmas.{bare_keeps, room_keeps}
use Rattle.ft_overlap.specs.declared.items.Item.{Item}
use Rattle.ft_overlap.specs.declared.items.Span.{Span}
use Rattle.ft_overlap.specs.declared.index.Index.TheInside.{Inside}
use Rattle.ft_overlap.specs.declared.index.Keyed.{Keyed}
use Rattle.ft_overlap.specs.Items.{Below, ItemList, no_items, IsInOrder, AreKnown, IsGreatest, NamesGreatest}
use Rattle.ft_overlap.specs.Inside.{Nodes, IsSpan, item_of, items_of, depth_of, items_under, items_below, block_of, blocks_of, blocks_below, all_blocks, ids_of, leaf_in, view_of, IsRooted, IsSound, either_named, span_last, AreGreatest, SpansLast, EndsKnown}
use Rattle.ft_overlap.proofs.Leaves.{items_in}
use Rattle.ft_overlap.proofs.KeyedLeaves.{keyed_bare, keyed_same}
use Rattle.ft_overlap.proofs.Law.{IsPart}
use Rattle.ft_overlap.proofs.Parts.{in_parts}
use Rattle.ft_overlap.proofs.Named.{names_last, are_greatest}
use Rattle.ft_overlap.proofs.InsideLemmas.{in_tree, in_named, in_greatest, in_blocks, block_seen, length-items}

module _ (place : ℕ → ℤ) (s : Nodes) (greatest : AreGreatest place s) where
  great_row : (h : ℕ) (xs : List ℕ) → AllHigh s h xs → All (NamesGreatest place) (blocks_of s h xs)
  great_row h [] high = All-nil (NamesGreatest place)
  great_row h (x ∷ xs) high = of_block (block_value s x) refl (great_row h xs (λ y m. high y (omega arith))) (high x (omega (arith, same_refl x)))
    where
      of_block : (o : Option (Headed Span)) → block_value s x ≡ o → All (NamesGreatest place) (blocks_of s h xs) → height_of s x ≡ h
          → All (NamesGreatest place) (block_of o (items_under s h x) (blocks_of s h xs))
      of_block None e rest q = rest
      of_block (Some v) e rest q = All-cons (NamesGreatest place) record { named = v.sum.last; items = items_under s h x } (blocks_of s h xs)
          (subst (λ (n : ℕ). IsGreatest place v.sum.last (items_under s n x)) q (greatest x v e)) rest

  module _ (root : ℕ) (t : IsTree s root) where
    great_rows : (h : ℕ) (xs : List ℕ) → AllHigh s h xs → All (NamesGreatest place) (blocks_below s h xs)
    great_rows zero xs high = All-nil (NamesGreatest place)
    great_rows (suc h) xs high = All-append (NamesGreatest place) (blocks_of s (suc h) xs) (blocks_below s h (flat_map (kids_of s) xs)) (great_row (suc h) xs high)
        (great_rows h (flat_map (kids_of s) xs) (kids_high s root None t.shape h xs high))

-- where no child ends behind what its block names, each block that callers see names the greatest end
pub all_great : (place : ℕ → ℤ) (s : Nodes) (o : Option ℕ) → IsRooted s o → KeepsBut (SpansLast place) s None → All (NamesGreatest place) (all_blocks s o)
all_great place s None t last = All-nil (NamesGreatest place)
all_great place s (Some root) t last = great_rows place s (are_greatest s root t place last) root t (height_of s root) (root ∷ []) (root_high s root)

module _ (place : ℕ → ℤ) (a : Inside) (v : ItemList) (is : view_of a ≡ v) (inv : IsSound a) where
  pub in_forest : IsForest a.arena
  in_forest = of_root a.root inv.rooted
    where
      of_root : (o : Option ℕ) → IsRooted a.arena o → IsForest a.arena
      of_root None t = t.forest
      of_root (Some root) t = t.shape.forest

  -- without a root there is nothing at all
  pub in_bare : a.root ≡ None → v ≡ no_items
  in_bare e =
      let bare : IsBare a.arena = subst (λ (o : Option ℕ). IsRooted a.arena o) e inv.rooted in
      let made : List Item → Option ℕ → List (ℕ × List ℕ) → ItemList =
      λ items root ids. record { items = items; depth = depth_of a.arena root; blocks = all_blocks a.arena root; ids = ids } in
      sym is ∙ ap (λ xs. made xs a.root (ids_of a.by_key)) (ap (items_of a.arena) bare.leaves) ∙ ap (λ o. made [] o (ids_of a.by_key)) e
      ∙ ap (λ es. made [] None (map (λ (x : ℕ × Keyed). (x.0, x.1.id)) es)) (keyed_bare a.arena a.by_key bare.nodes inv.keyed)

  -- below a root is an item
  pub in_some : (root : ℕ) → a.root ≡ Some root → 1 ≤ length v.items
  in_some root e =
      let tree = in_tree place a v is inv root e in
      subst (λ (w : ItemList). 1 ≤ length w.items) is
      (omega (arith, some_leaf a.arena root tree, length-items a.arena a.arena.leaves (leaves_live a.arena tree.shape.forest)))

  -- in an index in order no child ends behind what its block names
  pub in_last : IsInOrder place v → KeepsBut (SpansLast place) a.arena None
  in_last o = of_root a.root refl
    where
      of_root : (r : Option ℕ) → a.root ≡ r → KeepsBut (SpansLast place) a.arena None
      of_root None e = bare_keeps (SpansLast place) a.arena (subst (λ (r : Option ℕ). IsRooted a.arena r) e inv.rooted) None
      of_root (Some root) e = names_last a.arena root (in_tree place a v is inv root e) place (in_named place a v is inv root e) (in_greatest place a v is inv root e o)

  -- the item of a leaf is one of the index
  in_leaf : (id : ℕ) (x : Item) → leaf_value a.arena id ≡ Some x → Contains v.items x
  in_leaf id x e =
      subst (λ (w : ItemList). Contains w.items x) is
      (items_in a.arena a.arena.leaves id x (omega (arith, in_forest.leaf_once id, ap (λ (o : Option Item). count_some o) e)) e)

  -- so is the one that a block names
  in_block : (b : ℕ) (w : Headed Span) → block_value a.arena b ≡ Some w → Contains v.items w.sum.last
  in_block b w e = of_root a.root refl
    where
      of_root : (r : Option ℕ) → a.root ≡ r → Contains v.items w.sum.last
      of_root None q =
          let bare : IsBare a.arena = subst (λ (r : Option ℕ). IsRooted a.arena r) q inv.rooted in
          absurd (let n : None ≡ Some w = sym (ap block_of_entry (bare.nodes b)) ∙ e in cc n)
      of_root (Some root) q =
          let part = All-contains (IsPart v.items) v.blocks record { named = w.sum.last; items = items_below a.arena b } (in_parts a v is inv)
          (subst (λ (bs : List Below). Contains bs record { named = w.sum.last; items = items_below a.arena b }) (sym (in_blocks place a v is inv root q))
          (block_seen a.arena root b w (in_tree place a v is inv root q) e)) in
          part.0

  module _ (Knows : ℕ → Type 0) (known : AreKnown Knows v.items) where
    pub in_starts : (id : ℕ) (x : Item) → leaf_value a.arena id ≡ Some x → Knows x.start
    in_starts id x e = (All-contains (λ (y : Item). Knows y.start × Knows y.end) v.items x known (in_leaf id x e)).0

    pub in_ends : EndsKnown Knows a.arena
    in_ends id x e = (All-contains (λ (y : Item). Knows y.start × Knows y.end) v.items x known (by (leaf_value a.arena id) (block_value a.arena id) refl refl e)).1
      where
        by : (l : Option Item) (b : Option (Headed Span)) → leaf_value a.arena id ≡ l → block_value a.arena id ≡ b → either_named l (span_last (sum_of b)) ≡ Some x → Contains v.items x
        by (Some y) b el eb q = let d : y ≡ x = cc q in in_leaf id x (el ∙ ap Some d)
        by None (Some w) el eb q = let d : w.sum.last ≡ x = cc q in subst (Contains v.items) d (in_block id w eb)
        by None None el eb q = cc q

-- what an index shows and keeps doesn't look at how many nodes are spare
module _ (s : Nodes) (n : ℕ) where
  items_spared : (ids : List ℕ) → items_of (record s { spare = n }) ids ≡ items_of s ids
  items_spared [] = refl
  items_spared (x ∷ xs) = ap (item_of (leaf_value s x)) (items_spared xs)

  below_spared : (h : ℕ) (xs : List ℕ) → below (record s { spare = n }) h xs ≡ below s h xs
  below_spared zero xs = refl
  below_spared (suc h) xs = below_spared h (flat_map (kids_of s) xs)

  under_spared : (h x : ℕ) → items_under (record s { spare = n }) h x ≡ items_under s h x
  under_spared h x = items_spared (below (record s { spare = n }) h (x ∷ [])) ∙ ap (items_of s) (below_spared h (x ∷ []))

  row_spared : (h : ℕ) (xs : List ℕ) → blocks_of (record s { spare = n }) h xs ≡ blocks_of s h xs
  row_spared h [] = refl
  row_spared h (x ∷ xs) =
      ap (λ (zs : List Item). block_of (block_value s x) zs (blocks_of (record s { spare = n }) h xs)) (under_spared h x)
      ∙ ap (block_of (block_value s x) (items_under s h x)) (row_spared h xs)

  rows_spared : (h : ℕ) (xs : List ℕ) → blocks_below (record s { spare = n }) h xs ≡ blocks_below s h xs
  rows_spared zero xs = refl
  rows_spared (suc h) xs =
      ap (λ (bs : List Below). bs ++ blocks_below (record s { spare = n }) h (flat_map (kids_of s) xs)) (row_spared (suc h) xs)
      ∙ ap (λ (bs : List Below). blocks_of s (suc h) xs ++ bs) (rows_spared h (flat_map (kids_of s) xs))

  depth_spared : (root : Option ℕ) → depth_of (record s { spare = n }) root ≡ depth_of s root
  depth_spared None = refl
  depth_spared (Some root) = refl

  all_spared : (root : Option ℕ) → all_blocks (record s { spare = n }) root ≡ all_blocks s root
  all_spared None = refl
  all_spared (Some root) = rows_spared (height_of s root) (root ∷ [])

  rooted_spared : (root : Option ℕ) → IsRooted s root → IsRooted (record s { spare = n }) root
  rooted_spared None bare =
      record {
        forest = record { leaf_once = bare.forest.leaf_once; child_once = bare.forest.child_once; few = bare.forest.few };
        leaves = bare.leaves;
        nodes = bare.nodes;
      }
  rooted_spared (Some root) tree = room_tree s (record s { spare = n }) refl root tree

-- the same with other nodes
abbrev pub with_nodes : Inside → Nodes → Inside
with_nodes a s = record { arena = s; root = a.root; by_key = a.by_key; alloc = a.alloc }

module _ (a : Inside) (s : Nodes) (room : s ≡ record a.arena { spare = s.spare }) (m : BTreeMap ℕ Keyed) (same : m.entries ≡ a.by_key.entries) where
  pub sound_room : IsSound a → IsSound record { arena = s; root = a.root; by_key = m; alloc = a.alloc }
  sound_room h =
      record {
        rooted = subst (λ (z : Nodes). IsRooted z a.root) (sym room) (rooted_spared a.arena s.spare a.root h.rooted);
        names = room_keeps IsSpan a.arena s room h.names;
        keyed = keyed_same a.arena (leaf_in a.by_key) h.keyed s (leaf_in m) (room_values a.arena s room)
            (λ j. ap (λ es. option_map (λ (v : Keyed). v.leaf) (lookup (is_at (nat_cmp j)) es)) same);
      }

  pub view_room : view_of record { arena = s; root = a.root; by_key = m; alloc = a.alloc } ≡ view_of a
  view_room =
      let shown : Nodes → List (ℕ × List ℕ) → ItemList =
      λ z ids. record { items = items_of z z.leaves; depth = depth_of z a.root; blocks = all_blocks z a.root; ids = ids } in
      let ids : List (ℕ × List ℕ) = ids_of a.by_key in
      let made : List Item → ℕ → List Below → ItemList = λ items depth blocks. record { items = items; depth = depth; blocks = blocks; ids = ids } in
      let z : Nodes = record a.arena { spare = s.spare } in
      ap (shown s) (ap (map (λ (e : ℕ × Keyed). (e.0, e.1.id))) same)
      ∙ ap (λ x. shown x ids) room
      ∙ ap (λ items. made items (depth_of z a.root) (all_blocks z a.root)) (items_spared a.arena s.spare a.arena.leaves)
      ∙ ap (λ depth. made (items_of a.arena a.arena.leaves) depth (all_blocks z a.root)) (depth_spared a.arena s.spare a.root)
      ∙ ap (made (items_of a.arena a.arena.leaves) (depth_of a.arena a.root)) (all_spared a.arena s.spare a.root)
