-- What the fields of `Index` say of the value that callers see.
use Rattle.std.proofs.Common.{◌≡◌, ℕ, zero, suc, ℤ, ◌+◌, ◌-◌, ◌*◌, ◌^◌, ◌≤◌, List, [], ◌∷◌, ◌++◌, length, Option, Some, None, IsSome, Contains, refl, sym, ap, subst, ◌∙◌, inl, inr, arith}
use Rattle.std.proofs.lemmas.Bool.{cases_eq}
use Rattle.std.proofs.lemmas.List.Elements.{All-contains, Contains-append_left, Contains-append_right}
use Rattle.std.specs.List.{flat_map}
use Rattle.ft_arena.specs.Ids.{times}
use Rattle.ft_arena.specs.Forest.{entry, kids_of, block_value, leaf_value}
use Rattle.ft_arena.proofs.IdLemmas.{same_refl, same_other}
use Rattle.ft_shape.specs.declared.headed.Headed.{Headed}
use Rattle.ft_shape.specs.Tree.{IsTree, IsBare, height_of, below}
use Rattle.ft_shape.proofs.Levels.{depth_bound}
use Rattle.ft_shape.proofs.FitLemmas.{on_level, leaves_live}
use Rattle.ft_shape.proofs.EditLemmas.{some_of, is_some_from}
use Rattle.ft_shape.proofs.KindLemmas.{block_live}
use Rattle.ft_overlap.proofs.Named.{are_named}
use Rattle.ft_overlap.specs.declared.items.Item.{Item}
use Rattle.ft_overlap.specs.declared.items.Span.{Span}
use Rattle.ft_overlap.specs.declared.index.Index.TheInside.{Inside}
use Rattle.ft_overlap.specs.Items.{Below, ItemList, keys_within, IsInOrder, IsRising, AreKnown, NamesGreatest}
use Rattle.ft_overlap.specs.Search.{IsCheap}
use Rattle.ft_overlap.specs.Inside.{Nodes, item_of, items_of, items_under, items_below, block_of, blocks_of, blocks_below, depth_of, all_blocks, view_of, IsRooted, IsSound, AreNamed, AreGreatest}

-- the first of a list is in it
first_in : {X : Type 0} (x : X) (xs : List X) → Contains (x ∷ xs) x
first_in x xs = (0, omega arith, refl)

block_first : (o : Option (Headed Span)) (v : Headed Span) (items : List Item) (rest : List Below) → o ≡ Some v
    → Contains (block_of o items rest) record { named = v.sum.last; items = items }
block_first None v items rest e = cc
block_first (Some w) v items rest e =
    let q : w ≡ v = cc in
    subst (λ (u : Headed Span). Contains (block_of (Some w) items rest) record { named = u.sum.last; items = items }) q (first_in record { named = w.sum.last; items = items } rest)

block_later : (o : Option (Headed Span)) (items : List Item) (rest : List Below) (b : Below) → Contains rest b → Contains (block_of o items rest) b
block_later None items rest b h = h
block_later (Some w) items rest b h = Contains-append_right (record { named = w.sum.last; items = items } ∷ []) rest b h

module _ (s : Nodes) where
  -- a block among these nodes is among their blocks
  on_row : (h : ℕ) (xs : List ℕ) (b : ℕ) (v : Headed Span) → 1 ≤ times xs b → block_value s b ≡ Some v
      → Contains (blocks_of s h xs) record { named = v.sum.last; items = items_under s h b }
  on_row h [] b v m e = absurd (omega arith)
  on_row h (x ∷ xs) b v m e = elim (cases_eq x b) [
    | inl q ↦ subst (λ (z : ℕ). Contains (block_of (block_value s x) (items_under s h x) (blocks_of s h xs)) record { named = v.sum.last; items = items_under s h z }) q
        (block_first (block_value s x) v (items_under s h x) (blocks_of s h xs) (ap (block_value s) q ∙ e))
    | inr d ↦ block_later (block_value s x) (items_under s h x) (blocks_of s h xs) record { named = v.sum.last; items = items_under s h b }
        (on_row h xs b v (omega (arith, same_other x b d)) e)
  ]

  -- so is one so many levels below them
  pub on_rows : (j h : ℕ) (xs : List ℕ) (k b : ℕ) (v : Headed Span) → 1 ≤ times (below s j xs) b → h ≡ suc k + j → block_value s b ≡ Some v
      → Contains (blocks_below s h xs) record { named = v.sum.last; items = items_under s (suc k) b }
  on_rows j zero xs k b v m l e = absurd (omega (arith, l))
  on_rows zero (suc h) xs k b v m l e =
      let q : suc h ≡ suc k = omega (arith, l) in
      Contains-append_left (blocks_of s (suc h) xs) (blocks_below s h (flat_map (kids_of s) xs)) record { named = v.sum.last; items = items_under s (suc k) b }
      (subst (λ (n : ℕ). Contains (blocks_of s n xs) record { named = v.sum.last; items = items_under s (suc k) b }) (sym q) (on_row (suc k) xs b v m e))
  on_rows (suc j) (suc h) xs k b v m l e =
      Contains-append_right (blocks_of s (suc h) xs) (blocks_below s h (flat_map (kids_of s) xs)) record { named = v.sum.last; items = items_under s (suc k) b }
      (on_rows j h (flat_map (kids_of s) xs) k b v m (omega (arith, l)) e)

  -- each block of a tree is one that callers see
  pub block_seen : (root b : ℕ) (v : Headed Span) → IsTree s root → block_value s b ≡ Some v
      → Contains (blocks_below s (height_of s root) (root ∷ [])) record { named = v.sum.last; items = items_below s b }
  block_seen root b v t e =
      let block : IsSome (block_value s b) = is_some_from (block_value s b) v e in
      let live : IsSome (entry s b) = block_live (entry s b) block in
      let high : 1 ≤ height_of s b = t.shape.high b block in
      let low : height_of s b ≤ height_of s root = t.shape.low b live in
      let there : 1 ≤ times (below s (height_of s root - height_of s b) (root ∷ [])) b =
      on_level s root None t.shape (height_of s root - height_of s b) b live (λ y h q. cc) (omega (arith, low)) in
      let n : suc (height_of s b - 1) ≡ height_of s b = omega (arith, high) in
      subst (λ (k : ℕ). Contains (blocks_below s (height_of s root) (root ∷ [])) record { named = v.sum.last; items = items_under s k b }) n
      (on_rows (height_of s root - height_of s b) (height_of s root) (root ∷ []) (height_of s b - 1) b v there (omega (arith, high, low)) e)

  pub length-items : (xs : List ℕ) → ((x : ℕ) → 1 ≤ times xs x → IsSome (leaf_value s x)) → length (items_of s xs) ≡ length xs
  length-items [] h = refl
  length-items (x ∷ xs) h =
      let w = some_of (leaf_value s x) (h x (omega (arith, same_refl x))) in
      ap (λ o. length (item_of o (items_of s xs))) w.1 ∙ omega (arith, length-items xs (λ y m. h y (omega arith)))

module _ (place : ℕ → ℤ) (a : Inside) (v : ItemList) (is : view_of a ≡ v) (inv : IsSound a) where
  pub in_depth : 4 ^ v.depth ≤ length v.items + 1
  in_depth = subst (λ (w : ItemList). 4 ^ w.depth ≤ length w.items + 1) is (of_root a.root inv.rooted)
    where
      of_root : (o : Option ℕ) → IsRooted a.arena o → 4 ^ depth_of a.arena o ≤ length (items_of a.arena a.arena.leaves) + 1
      of_root None t = omega arith
      of_root (Some root) t = omega (arith, depth_bound a.arena root t, length-items a.arena a.arena.leaves (leaves_live a.arena t.shape.forest))

  module _ (root : ℕ) (there : a.root ≡ Some root) where
    pub in_tree : IsTree a.arena root
    in_tree = subst (λ (o : Option ℕ). IsRooted a.arena o) there inv.rooted

    pub in_items : v.items ≡ items_below a.arena root
    in_items = ap (λ (w : ItemList). w.items) (sym is) ∙ ap (items_of a.arena) in_tree.leaves

    pub in_height : height_of a.arena root ≡ v.depth + 1
    in_height =
        let e : v.depth ≡ height_of a.arena root - 1 = ap (λ (w : ItemList). w.depth) (sym is) ∙ ap (depth_of a.arena) there in
        omega (arith, e, in_tree.shape.high root in_tree.shape.root_is_block)

    pub in_blocks : v.blocks ≡ blocks_below a.arena (height_of a.arena root) (root ∷ [])
    in_blocks = ap (λ (w : ItemList). w.blocks) (sym is) ∙ ap (all_blocks a.arena) there

    pub in_named : AreNamed a.arena
    in_named = are_named a.arena root in_tree inv.names

    pub in_root_live : IsSome (entry a.arena root)
    in_root_live = block_live (entry a.arena root) in_tree.shape.root_is_block

    pub in_known : (Knows : ℕ → Type 0) → AreKnown Knows v.items → AreKnown Knows (items_below a.arena root)
    in_known Knows h = subst (λ (xs : List Item). AreKnown Knows xs) in_items h

    pub in_rising : IsInOrder place v → IsRising place (items_below a.arena root)
    in_rising o = subst (IsRising place) in_items o.rising

    pub in_greatest : IsInOrder place v → AreGreatest place a.arena
    in_greatest o b w e = All-contains (NamesGreatest place) v.blocks record { named = w.sum.last; items = items_below a.arena b } o.greatest
        (subst (λ (bs : List Below). Contains bs record { named = w.sum.last; items = items_below a.arena b }) (sym in_blocks) (block_seen a.arena root b w in_tree e))

    -- what a search of the root costs and finds, at numbers a' and b' that are a and b
    module _ (a' b' from to : ℤ) (ea : a' ≡ from) (eb : b' ≡ to) where
      pub in_cost : (before after : ℕ) → IsCheap (height_of a.arena root) (length (keys_within place a' b' (items_below a.arena root))) before after
          → after ≤ before + 9 * (v.depth + 1) * (length (keys_within place from to v.items) + 1)
      in_cost before after c =
          let k : length (keys_within place a' b' (items_below a.arena root)) ≡ length (keys_within place from to v.items) =
          ap (λ (xs : List Item). length (keys_within place a' b' xs)) (sym in_items)
          ∙ ap (λ (z : ℤ). length (keys_within place z b' v.items)) ea ∙ ap (λ (z : ℤ). length (keys_within place from z v.items)) eb in
          subst (λ (n : ℕ). after ≤ before + 9 * (v.depth + 1) * (n + 1)) k
          (subst (λ (h : ℕ). after ≤ before + 9 * h * (length (keys_within place a' b' (items_below a.arena root)) + 1)) in_height
          (c.block (in_tree.shape.high root in_tree.shape.root_is_block)))

      pub in_keys : (old new : List ℕ) → old ≡ [] → new ≡ old ++ keys_within place a' b' (items_below a.arena root) → new ≡ keys_within place from to v.items
      in_keys old new e n =
          n ∙ ap (λ (ks : List ℕ). ks ++ keys_within place a' b' (items_below a.arena root)) e ∙ ap (keys_within place a' b') (sym in_items)
          ∙ ap (λ (z : ℤ). keys_within place z b' v.items) ea ∙ ap (λ (z : ℤ). keys_within place from z v.items) eb

  pub in_none : a.root ≡ None → v.items ≡ []
  in_none e =
      let bare : IsBare a.arena = subst (λ (o : Option ℕ). IsRooted a.arena o) e inv.rooted in
      ap (λ (w : ItemList). w.items) (sym is) ∙ ap (items_of a.arena) bare.leaves
