-- Where elements stand once those of the pending stages are put in afresh, told by where they stood before.
use Rattle.std.specs.Prelude.{◌≡◌, ℕ, true, nat_eq, List, Option, filter}
use Rattle.std.specs.List.{enumerate_from}
use Rattle.ft_base.specs.declared.elements.Element.{Element as ElementStamps}
use Rattle.ft_base.specs.declared.stamps.Stamp.{Stamp}
use Rattle.ft_base.specs.Scan.{rank}
use Rattle.ft_tree_leaves.specs.Edits.{with_place}
use Rattle.ft_tree_leaves.specs.LeafLists.{elements}
use Rattle.ft_tree_leaves.specs.References.{ChangesReferences}
use Rattle.ft_tree.specs.State.{TreeState}
use Rattle.ft_rebase.specs.StageLists.{sequenced, with_stages}

module _ {A : Type 0} (stamps : A → ElementStamps) where
  -- the stamps of an element that goes with its place
  abbrev pub placed_stamps : ℕ × A → ElementStamps
  placed_stamps x = stamps x.1

  -- the sequenced elements in their order, with those of the pending stages 1 to last put in afresh, each with the place
  -- where it stood before
  abbrev pub rebuilt_places : ℕ → List A → List (ℕ × A)
  rebuilt_places last xs =
      with_stages placed_stamps (enumerate_from 0 xs) (filter (sequenced placed_stamps) (enumerate_from 0 xs)) last

  -- where in that list the element stands that stood at place j
  abbrev pub rebuilt_place : ℕ → List A → ℕ → ℕ
  rebuilt_place last xs j = rank (λ x. nat_eq x.0 j) (λ x. true) (rebuilt_places last xs)

-- the elements of the pending stages 1 to last are put in afresh, and references go with their elements
pub record MovesStages {C U : Type 0} (units : C → List U) (by : C → Option Stamp) (last : ℕ) (old new : TreeState C) : Type 0 where
  pub list : elements units by new.leaves
      ≡ with_stages (λ e. e.stamps) (elements units by old.leaves) (filter (sequenced (λ e. e.stamps)) (elements units by old.leaves)) last
  pub places : ChangesReferences (with_place (rebuilt_place (λ e. e.stamps) last (elements units by old.leaves))) old.refs new.refs
