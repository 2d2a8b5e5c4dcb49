-- Keeping the items of a list one after another: what was kept, then what is kept of the rest, is what is kept of all.
use Rattle.std.proofs.Common.{◌≡◌, ◌∙◌, ℕ, ◌+◌, ◌<◌, List, [], ◌∷◌, ◌++◌, length, get_or, drop, map, Result, Ok, Err, sym, ap, subst}
use Rattle.std.specs.List.{AllByRecursion}
use Rattle.ft_op.specs.Reading.{read_each}
use Rattle.ft_op.proofs.ReadLists.{joined, next_read, next_refused}
use Rattle.ft_sumdoc.proofs.ReadOptions.{at_item}

module _ {V A B F : Type 0} (keeps : A → Result B F) (of : V → A) where
  pub one_kept : (items : List V) (i : ℕ) (item : V) (done more : List B) (kept : B) (all : Result (List B) F) → i < length items
      → item ≡ get_or items i item
      → keeps (of item) ≡ Ok kept → more ≡ done ++ kept ∷ [] → joined done (read_each keeps (map of (drop i items))) ≡ all
      → joined more (read_each keeps (map of (drop (i + 1) items))) ≡ all
  one_kept items i item done more kept all within is e pushed so_far =
      ap (λ (ys : List B). joined ys (read_each keeps (map of (drop (i + 1) items)))) pushed
      ∙ sym (next_read keeps done (of item) kept (map of (drop (i + 1) items)) e)
      ∙ ap (λ (xs : List V). joined done (read_each keeps (map of xs))) (sym (at_item items i item within is)) ∙ so_far

  pub one_refused : (items : List V) (i : ℕ) (item : V) (done : List B) (fault : F) (all : Result (List B) F) → i < length items
      → item ≡ get_or items i item
      → keeps (of item) ≡ Err fault → joined done (read_each keeps (map of (drop i items))) ≡ all → all ≡ Err fault
  one_refused items i item done fault all within is e so_far =
      sym so_far ∙ ap (λ (xs : List V). joined done (read_each keeps (map of xs))) (at_item items i item within is)
      ∙ next_refused keeps done (of item) fault (map of (drop (i + 1) items)) e

-- what holds of the items from a place on holds of those behind it
pub holds_behind : {V A : Type 0} (P : A → Type 0) (of : V → A) (items : List V) (i : ℕ) (item : V) → i < length items → item ≡ get_or items i item
    → AllByRecursion P (map of (drop i items)) → AllByRecursion P (map of (drop (i + 1) items))
holds_behind P of items i item within is h = (subst (λ (xs : List _). AllByRecursion P (map of xs)) (at_item items i item within is) h).1

-- and of the item there
pub holds_here : {V A : Type 0} (P : A → Type 0) (of : V → A) (items : List V) (i : ℕ) (item : V) → i < length items → item ≡ get_or items i item
    → AllByRecursion P (map of (drop i items)) → P (of item)
holds_here P of items i item within is h = (subst (λ (xs : List _). AllByRecursion P (map of xs)) (at_item items i item within is) h).0
