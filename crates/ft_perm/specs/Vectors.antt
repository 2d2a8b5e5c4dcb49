-- A vector: a tree whose elements are handles, and which handles are in use.
use Rattle.std.specs.Prelude.{◌≡◌, ℕ, zero, suc, ◌+◌, ◌<◌, ◌≤◌, Bool, true, None, ◌&&◌, cond, nat_eq, nat_le, nat_lt, List, [], ◌∷◌, ◌++◌, All, length}
use Rattle.ft_base.specs.Scan.{len, one_more_if, retain_map}
use Rattle.ft_block.specs.declared.leaves.LenView.{LenView}
use Rattle.ft_tree_leaves.specs.Elements.{TreeElement, seen_in}
use Rattle.ft_tree_leaves.specs.LeafLists.{elements}
use Rattle.ft_tree.specs.State.{TreeState}
use Rattle.ft_perm.specs.Handles.{HandleRun, handles_of, in_run, joined_run, meets}

-- the tree, the next fresh handle, and the runs of those that were recycled and are free
pub record VectorState : Type 0 where
  pub tree : TreeState HandleRun
  pub next : ℕ
  pub free : List HandleRun

-- the elements of the tree, of which each is a handle
abbrev pub vector_elements : TreeState HandleRun → List (TreeElement ℕ)
vector_elements tree = elements handles_of (λ x. None) tree.leaves

-- the handles that the view sees, in order
abbrev pub seen_handles : LenView → TreeState HandleRun → List ℕ
seen_handles view tree = retain_map (seen_in view) (λ e. e.unit) (vector_elements tree)

-- how many of the runs hold the handle
abbrev pub times_held : ℕ → List HandleRun → ℕ
times_held handle runs = len (in_run handle) runs

-- how many runs at the front begin at or before this handle
abbrev pub begun : ℕ → List HandleRun → ℕ
begun handle [] = zero
begun handle (x ∷ xs) = cond (nat_le x.first handle) (suc (begun handle xs)) zero

-- no run begins at or before this handle
abbrev pub AreBehind : ℕ → List HandleRun → Type 0
AreBehind handle [] = Unit {0}
AreBehind handle (x ∷ xs) = (handle < x.first) × AreBehind handle xs

-- the runs have handles, and rise, and no two of them meet
abbrev pub AreApart : List HandleRun → Type 0
AreApart [] = Unit {0}
AreApart (x ∷ xs) = (1 ≤ x.count) × AreBehind (x.first + x.count) xs × AreApart xs

-- the run at place i in one with the run behind it, where they meet
abbrev pub joined_at : ℕ → List HandleRun → List HandleRun
joined_at i [] = []
joined_at i (x ∷ []) = x ∷ []
joined_at zero (x ∷ (y ∷ ys)) = cond (meets x y) (joined_run x y ∷ ys) (x ∷ (y ∷ ys))
joined_at (suc i) (x ∷ (y ∷ ys)) = x ∷ joined_at i (y ∷ ys)

-- whether the handle is in use: it was handed out, and isn't free
abbrev pub in_use : VectorState → ℕ → Bool
in_use v handle = nat_lt handle v.next && nat_eq (times_held handle v.free) 0

-- each handle of the tree is in use, and no two elements have the same one
pub record IsProper (v : VectorState) : Type 0 where
  pub used : All (λ e. in_use v e.unit ≡ true) (vector_elements v.tree)
  pub once : (handle : ℕ) → len (λ e. nat_eq e.unit handle) (vector_elements v.tree) ≤ 1

-- no handle is free twice, and none that was never handed out is free
abbrev pub IsFreeOnce : ℕ → List HandleRun → Type 0
IsFreeOnce next free = (handle : ℕ) → times_held handle free ≤ one_more_if (nat_lt handle next) 0

-- the handles of the run stand in the list from place p on, one beside the other
pub record RunStandsAt (p : ℕ) (run : HandleRun) (handles : List ℕ) : Type 0 where
  pub left : List ℕ
  pub right : List ℕ
  pub is : handles ≡ left ++ (handles_of run ++ right)
  pub place : length left ≡ p
