-- The items below a block, child by child.
use Rattle.std.proofs.Common.{◌≡◌, ℕ, suc, ◌+◌, List, [], ◌∷◌, ◌++◌, drop, slice_get, Option, Some, None, refl, sym, ap, ◌∙◌}
use Rattle.std.proofs.lemmas.List.{append-nil}
use Rattle.ft_arena.specs.Forest.{leaf_value, kids_of}
use Rattle.ft_shape.specs.Tree.{height_of, below}
use Rattle.ft_shape.proofs.Lists.{drop_at}
use Rattle.ft_shape.proofs.Levels.{below-append}
use Rattle.ft_overlap.specs.declared.items.Item.{Item}
use Rattle.ft_overlap.specs.Inside.{Nodes, item_of, items_of, items_under, items_below}

item_of-append : (o : Option Item) (xs ys : List Item) → item_of o (xs ++ ys) ≡ item_of o xs ++ ys
item_of-append None xs ys = refl
item_of-append (Some x) xs ys = refl

pub items-append : (s : Nodes) (xs ys : List ℕ) → items_of s (xs ++ ys) ≡ items_of s xs ++ items_of s ys
items-append s [] ys = refl
items-append s (x ∷ xs) ys = ap (item_of (leaf_value s x)) (items-append s xs ys) ∙ item_of-append (leaf_value s x) (items_of s xs) (items_of s ys)

module _ (s : Nodes) where
  -- of a block they are those of its children
  pub under_kids : (h node : ℕ) (kids : List ℕ) → height_of s node ≡ suc h → kids_of s node ≡ kids → items_below s node ≡ items_of s (below s h kids)
  under_kids h node kids high is =
      ap (λ (n : ℕ). items_under s n node) high ∙ ap (λ ks. items_of s (below s h ks)) (append-nil (kids_of s node) ∙ is)

  -- and of children those of the first and of the others
  pub first_kid : (h i kid : ℕ) (kids : List ℕ) → height_of s kid ≡ h → slice_get kids i ≡ Some kid
      → items_of s (below s h (drop i kids)) ≡ items_below s kid ++ items_of s (below s h (drop (i + 1) kids))
  first_kid h i kid kids high there =
      ap (λ ks. items_of s (below s h ks)) (drop_at kids i kid there)
      ∙ ap (items_of s) (below-append s h (kid ∷ []) (drop (i + 1) kids))
      ∙ items-append s (below s h (kid ∷ [])) (below s h (drop (i + 1) kids))
      ∙ ap (λ (n : ℕ). items_of s (below s n (kid ∷ [])) ++ items_of s (below s h (drop (i + 1) kids))) (sym high)
