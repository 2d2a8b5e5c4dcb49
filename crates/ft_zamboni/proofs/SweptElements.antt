-- What a caller knows of the marks of a sweep: they stand on all elements in order, and only such go as compaction may take.
use Rattle.std.proofs.Common.{◌≡◌, ℕ, Bool, true, List, [], ◌∷◌, ◌++◌, map, take, drop, Option, Some, None, refl, sym, ◌∙◌, ap}
use Rattle.std.specs.List.{AllByRecursion}
use Rattle.std.proofs.lemmas.List.{map-append, take-append-drop}
use Rattle.ft_base.specs.declared.stamps.Stamp.{Stamp}
use Rattle.ft_tree_blocks.proofs.Walks.{before-from}
use Rattle.ft_tree_leaves.specs.declared.leaves.TreeLeaf.{TreeLeaf}
use Rattle.ft_tree_leaves.specs.Elements.{TreeElement}
use Rattle.ft_tree_leaves.specs.LeafLists.{elements}
use Rattle.ft_tree_leaves.proofs.LeafRuns.{elements-append}
use Rattle.ft_zamboni.specs.Scours.{ahead, around, is_collectable, left_over, marked, marks, swept, unmarked}
use Rattle.ft_zamboni.proofs.BothSweeps.{second, seconds-marked, seconds-stay}

module _ {U : Type 0} (floor : ℕ) where
  -- an element that goes is one that was removed at or below the floor
  abbrev pub MayGo : Bool × TreeElement U → Type 0
  MayGo m = m.0 ≡ true → is_collectable floor m.1.stamps ≡ true

  both_parts : (xs ys : List (Bool × TreeElement U)) → AllByRecursion MayGo xs → AllByRecursion MayGo ys → AllByRecursion MayGo (xs ++ ys)
  both_parts [] ys h k = k
  both_parts (x ∷ xs) ys h k = (h.0, both_parts xs ys h.1 k)

  marked_go : (es : List (TreeElement U)) → AllByRecursion MayGo (map (marked floor) es)
  marked_go [] = tt
  marked_go (e ∷ es) = (λ h. h, marked_go es)

  unmarked_go : (es : List (TreeElement U)) → AllByRecursion MayGo (map unmarked es)
  unmarked_go [] = tt
  unmarked_go (e ∷ es) = (λ h. (cc), unmarked_go es)

module _ {C U : Type 0} (units : C → List U) (by : C → Option Stamp) (floor budget : ℕ) (xs : List (ℕ × TreeLeaf C)) (sweep : Option ℕ) where
  marks_go : (n : ℕ) (ys : List (ℕ × TreeLeaf C)) → AllByRecursion (MayGo floor) (marks units by floor n ys)
  marks_go n ys = both_parts floor (map (marked floor) (elements units by (take n ys))) (map unmarked (elements units by (drop n ys)))
      (marked_go floor (elements units by (take n ys))) (unmarked_go floor (elements units by (drop n ys)))

  pub swept-go : AllByRecursion (MayGo floor) (swept units by floor budget xs sweep)
  swept-go =
      both_parts floor (marks units by floor (left_over budget xs sweep) (around xs sweep)) (marks units by floor budget (ahead xs sweep))
      (marks_go (left_over budget xs sweep) (around xs sweep)) (marks_go budget (ahead xs sweep))

  marks_list : (n : ℕ) (ys : List (ℕ × TreeLeaf C)) → map second (marks units by floor n ys) ≡ elements units by ys
  marks_list n ys =
      let es = elements units by (take n ys) in
      let fs = elements units by (drop n ys) in
      map-append second (map (marked floor) es) (map unmarked fs)
      ∙ ap (λ zs. zs ++ map second (map unmarked fs)) (seconds-marked (λ e. is_collectable floor e.stamps) es)
      ∙ ap (λ zs. es ++ zs) (seconds-stay fs)
      ∙ sym (elements-append units by (take n ys) (drop n ys)) ∙ ap (elements units by) (take-append-drop n ys)

  whole_list : (o : Option ℕ) → around xs o ++ ahead xs o ≡ xs
  whole_list None = refl
  whole_list (Some id) = before-from xs (Some id)

  pub swept-list : map second (swept units by floor budget xs sweep) ≡ elements units by xs
  swept-list =
      map-append second (marks units by floor (left_over budget xs sweep) (around xs sweep)) (marks units by floor budget (ahead xs sweep))
      ∙ ap (λ zs. zs ++ map second (marks units by floor budget (ahead xs sweep))) (marks_list (left_over budget xs sweep) (around xs sweep))
      ∙ ap (λ zs. elements units by (around xs sweep) ++ zs) (marks_list budget (ahead xs sweep))
      ∙ sym (elements-append units by (around xs sweep) (ahead xs sweep)) ∙ ap (elements units by) (whole_list sweep)
