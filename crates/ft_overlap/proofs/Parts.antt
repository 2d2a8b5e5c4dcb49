-- The items below each block that callers see are items of the index, and the block names one of them.
use Rattle.std.proofs.Common.{◌≡◌, ℕ, zero, suc, List, [], ◌∷◌, ◌++◌, Option, Some, None, All, Contains, refl, sym, ap, subst, ◌∙◌, arith}
use Rattle.std.proofs.lemmas.List.Elements.{All-nil, All-cons, All-append, All-weaker, Contains-append_left, Contains-append_right}
use Rattle.std.specs.List.{flat_map}
use Rattle.ft_arena.specs.Forest.{kids_of, block_value}
use Rattle.ft_arena.proofs.IdLemmas.{same_refl}
use Rattle.ft_shape.specs.declared.headed.Headed.{Headed}
use Rattle.ft_shape.specs.Tree.{IsTree, height_of, below}
use Rattle.ft_shape.proofs.Levels.{AllHigh, below-append, kids_high, root_high}
use Rattle.ft_overlap.specs.declared.items.Item.{Item}
use Rattle.ft_overlap.specs.declared.items.Span.{Span}
use Rattle.ft_overlap.specs.declared.index.Index.TheInside.{Inside}
use Rattle.ft_overlap.specs.Items.{ItemList}
use Rattle.ft_overlap.specs.Inside.{Nodes, items_of, items_under, block_of, blocks_of, blocks_below, all_blocks, view_of, IsRooted, IsSound, AreNamed}
use Rattle.ft_overlap.proofs.Under.{items-append}
use Rattle.ft_overlap.proofs.Named.{are_named}
use Rattle.ft_overlap.proofs.Law.{IsPart, each_in}

module _ (s : Nodes) (named : AreNamed s) (all : List Item) where
  part_row : (h : ℕ) (xs : List ℕ) → AllHigh s h xs → ((v : Item) → Contains (items_of s (below s h xs)) v → Contains all v)
      → All (IsPart all) (blocks_of s h xs)
  part_row h [] high sub = All-nil (IsPart all)
  part_row h (x ∷ xs) high sub =
      let e : items_of s (below s h (x ∷ xs)) ≡ items_under s h x ++ items_of s (below s h xs) =
      ap (items_of s) (below-append s h (x ∷ []) xs) ∙ items-append s (below s h (x ∷ [])) (below s h xs) in
      let here : (v : Item) → Contains (items_under s h x) v → Contains all v =
      λ v c. sub v (subst (λ (zs : List Item). Contains zs v) (sym e) (Contains-append_left (items_under s h x) (items_of s (below s h xs)) v c)) in
      let rest = part_row h xs (λ y m. high y (omega arith))
      (λ v c. sub v (subst (λ (zs : List Item). Contains zs v) (sym e) (Contains-append_right (items_under s h x) (items_of s (below s h xs)) v c))) in
      of_block (block_value s x) refl here rest (high x (omega (arith, same_refl x)))
    where
      of_block : (o : Option (Headed Span)) → block_value s x ≡ o → ((v : Item) → Contains (items_under s h x) v → Contains all v)
          → All (IsPart all) (blocks_of s h xs)
          → height_of s x ≡ h → All (IsPart all) (block_of o (items_under s h x) (blocks_of s h xs))
      of_block None e here rest q = rest
      of_block (Some v) e here rest q =
          let one : Contains (items_under s h x) v.sum.last = subst (λ (n : ℕ). Contains (items_under s n x) v.sum.last) q (named x v e) in
          All-cons (IsPart all) record { named = v.sum.last; items = items_under s h x } (blocks_of s h xs)
          (here v.sum.last one, All-weaker (Contains (items_under s h x)) (Contains all) here (items_under s h x) (each_in (items_under s h x))) rest

  module _ (root : ℕ) (t : IsTree s root) where
    part_rows : (h : ℕ) (xs : List ℕ) → AllHigh s h xs → ((v : Item) → Contains (items_of s (below s h xs)) v → Contains all v)
        → All (IsPart all) (blocks_below s h xs)
    part_rows zero xs high sub = All-nil (IsPart all)
    part_rows (suc h) xs high sub = All-append (IsPart all) (blocks_of s (suc h) xs) (blocks_below s h (flat_map (kids_of s) xs)) (part_row (suc h) xs high sub)
        (part_rows h (flat_map (kids_of s) xs) (kids_high s root None t.shape h xs high) sub)

pub in_parts : (a : Inside) (v : ItemList) → view_of a ≡ v → IsSound a → All (IsPart v.items) v.blocks
in_parts a v is inv = subst (λ (w : ItemList). All (IsPart w.items) w.blocks) is (of_root a.root inv.rooted)
  where
    of_root : (o : Option ℕ) → IsRooted a.arena o → All (IsPart (items_of a.arena a.arena.leaves)) (all_blocks a.arena o)
    of_root None t = All-nil (IsPart (items_of a.arena a.arena.leaves))
    of_root (Some root) t = part_rows a.arena (are_named a.arena root t inv.names) (items_of a.arena a.arena.leaves) root t
        (height_of a.arena root) (root ∷ []) (root_high a.arena root)
        (λ v c. subst (λ (zs : List ℕ). Contains (items_of a.arena zs) v) (sym t.leaves) c)
