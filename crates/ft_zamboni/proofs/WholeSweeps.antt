-- What is left of a sweep over all leaves, and a sweep that looks at none.
use Rattle.std.proofs.Common.{◌≡◌, ℕ, zero, suc, ◌-◌, ◌≤◌, Bool, true, false, cond, not, All, List, [], ◌∷◌, ◌++◌, length, map, filter, Option, Some, None, refl, sym, ◌∙◌, ap, arith, length-append}
use Rattle.std.specs.List.{AllByRecursion as ByRecursion}
use Rattle.std.proofs.lemmas.List.Elements.{All-from_recursion, recursion_from_All}
use Rattle.ft_base.specs.declared.stamps.Stamp.{Stamp}
use Rattle.ft_base.specs.Scan.{one_more_if}
use Rattle.ft_tree_leaves.specs.declared.leaves.TreeLeaf.{TreeLeaf}
use Rattle.ft_tree_leaves.specs.declared.references.Reference.{Reference}
use Rattle.ft_tree_leaves.specs.Edits.{with_place}
use Rattle.ft_tree_leaves.specs.Elements.{TreeElement}
use Rattle.ft_tree_leaves.specs.LeafLists.{elements, leaf_elements}
use Rattle.ft_tree_leaves.specs.Places.{seen_before}
use Rattle.ft_tree_leaves.specs.References.{ChangesReferences}
use Rattle.ft_zamboni.specs.Scours.{Writes, ahead, around, is_collectable, left_over, marks, place_among, staying, swept}
use Rattle.ft_zamboni.specs.Scours.Writes.{none, same, universal}
use Rattle.ft_zamboni.proofs.Marks.{gone-stay, stay, staying-stay}
use Rattle.ft_zamboni.proofs.PassedReferences.{changes-none}
use Rattle.ft_zamboni.proofs.Writing.{writes-same}
use Rattle.ft_tree_blocks.proofs.Walks.{before-from}
use Rattle.ft_tree_leaves.proofs.LeafRuns.{elements-append, length-leaf}
use Rattle.std.proofs.lemmas.List.{map-append}

module _ {A : Type 0} (test : A → Bool) where
  pub staying-all : (es : List A) → staying (map (λ e. (test e, e)) es) ≡ filter (λ e. not (test e)) es
  staying-all [] = refl
  staying-all (e ∷ es) = step (test e) (staying-all es)
    where
      step : (b : Bool) → staying (map (λ e. (test e, e)) es) ≡ filter (λ e. not (test e)) es
          → cond (not b) (e ∷ staying (map (λ e. (test e, e)) es)) (staying (map (λ e. (test e, e)) es))
          ≡ cond (not b) (e ∷ filter (λ e. not (test e)) es) (filter (λ e. not (test e)) es)
      step b h = ap (λ zs. cond (not b) (e ∷ zs) zs) h

  pub gone-all : (es : List A) (i : ℕ) → seen_before (λ (x : Bool × A). x.0) (map (λ e. (test e, e)) es) i ≡ seen_before test es i
  gone-all es zero = refl
  gone-all [] (suc i) = refl
  gone-all (e ∷ es) (suc i) = ap (one_more_if (test e)) (gone-all es i)

module _ {U : Type 0} (floor : ℕ) where
  kept_clear : (es : List (TreeElement U))
      → ByRecursion (λ e. is_collectable floor e.stamps ≡ false) (filter (λ e. not (is_collectable floor e.stamps)) es)
  kept_clear [] = tt
  kept_clear (e ∷ es) = step (is_collectable floor e.stamps) refl (kept_clear es)
    where
      step : (b : Bool) → is_collectable floor e.stamps ≡ b
          → ByRecursion (λ e. is_collectable floor e.stamps ≡ false) (filter (λ e. not (is_collectable floor e.stamps)) es)
          → ByRecursion (λ e. is_collectable floor e.stamps ≡ false)
          (cond (not b) (e ∷ filter (λ e. not (is_collectable floor e.stamps)) es) (filter (λ e. not (is_collectable floor e.stamps)) es))
      step true h rest = rest
      step false h rest = (h, rest)

  written_clear : {new old : List (TreeElement U)} → Writes floor new old → ByRecursion (λ e. is_collectable floor e.stamps ≡ false) old
      → ByRecursion (λ e. is_collectable floor e.stamps ≡ false) new
  written_clear none h = h
  written_clear (same w) h = (h.0, written_clear w h.1)
  written_clear (universal below w) h = (h.0, written_clear w h.1)

  -- none is left that was removed at or below the floor
  pub whole-clear : (new es : List (TreeElement U)) → Writes floor new (filter (λ e. not (is_collectable floor e.stamps)) es)
      → All (λ e. is_collectable floor e.stamps ≡ false) new
  whole-clear new es w = All-from_recursion (λ e. is_collectable floor e.stamps ≡ false) new (written_clear w (kept_clear es))

module _ {C U : Type 0} (units : C → List U) (by : C → Option Stamp) where
  -- there are no more leaves than elements
  few_by : (xs : List (ℕ × TreeLeaf C)) → ByRecursion (λ x. 1 ≤ length (units x.1.content)) xs → length xs ≤ length (elements units by xs)
  few_by [] h = omega arith
  few_by (x ∷ xs) h = omega (
    arith,
    h.0,
    few_by xs h.1,
    length-append (leaf_elements units by x.1) (elements units by xs),
    length-leaf
        units by x.1,
  )

  pub few-leaves : (xs : List (ℕ × TreeLeaf C)) → All (λ x. 1 ≤ length (units x.1.content)) xs → length xs ≤ length (elements units by xs)
  few-leaves xs h = few_by xs (recursion_from_All (λ (x : ℕ × TreeLeaf C). 1 ≤ length (units x.1.content)) xs h)

  -- a sweep that looks at nothing
  module _ (floor n : ℕ) (xs : List (ℕ × TreeLeaf C)) (sweep : Option ℕ) (zero_is : n ≡ 0) where
    rest_is : left_over n xs sweep ≡ 0
    rest_is = omega (arith, zero_is)

    whole_list : (o : Option ℕ) → around xs o ++ ahead xs o ≡ xs
    whole_list None = refl
    whole_list (Some id) = before-from xs (Some id)

    idle_marks : swept units by floor n xs sweep ≡ map stay (elements units by xs)
    idle_marks =
        ap (λ k. marks units by floor k (around xs sweep) ++ marks units by floor n (ahead xs sweep)) rest_is
        ∙ ap (λ k. marks units by floor 0 (around xs sweep) ++ marks units by floor k (ahead xs sweep)) zero_is
        ∙ sym (map-append stay (elements units by (around xs sweep)) (elements units by (ahead xs sweep)))
        ∙ ap (map stay) (sym (elements-append units by (around xs sweep) (ahead xs sweep)) ∙ ap (elements units by) (whole_list sweep))

    pub idle-writes : Writes floor (elements units by xs) (staying (swept units by floor n xs sweep))
    idle-writes = rw (idle_marks, staying-stay (elements units by xs)) (writes-same floor (elements units by xs))

    pub idle-refs : (refs : List (ℕ × Reference)) → ChangesReferences (with_place (place_among (swept units by floor n xs sweep))) refs refs
    idle-refs refs =
        changes-none (place_among (swept units by floor n xs sweep)) refs (λ i.
        ap (λ ms. place_among ms i) idle_marks ∙ omega (arith, gone-stay (elements units by xs) i))
