-- How the leaves of pending insertions are moved in place, stage after stage.
use Rattle.std.specs.Prelude.{◌≡◌, ℕ, zero, suc, ◌+◌, ◌-◌, ◌<◌, ◌≤◌, Bool, false, cond, not, List, [], ◌∷◌, Option, Some, None, filter, length}
use Rattle.std.specs.List.{list_any}
use Rattle.ft_base.specs.declared.elements.Element.{Element as ElementStamps}
use Rattle.ft_base.specs.Scan.{len, no_run, put}
use Rattle.ft_tree_leaves.specs.declared.leaves.TreeLeaf.{TreeLeaf}
use Rattle.ft_rebase.specs.declared.moves.StageMove.{StageMove}
use Rattle.ft_rebase.specs.StageLists.{inserted_by, next_position, seen_by}

-- the stamps of a leaf
abbrev pub leaf_stamps : {C : Type 0} → ℕ × TreeLeaf C → ElementStamps
leaf_stamps x = x.1.stamps

-- no leaf is of stage j
abbrev pub NoneOf : {C : Type 0} → ℕ → List (ℕ × TreeLeaf C) → Type 0
NoneOf j xs = list_any (inserted_by leaf_stamps j) xs ≡ false

-- the elements of the next stage taken out and put in behind the first q that stage k sees
abbrev pub moved_stage : {A : Type 0} → (A → ElementStamps) → ℕ → ℕ → List A → List A
moved_stage stamps k q xs = put (seen_by stamps k) no_run q (filter (inserted_by stamps (suc k)) xs)
    (filter (λ x. not (inserted_by stamps (suc k) x)) xs)

-- the node of the q-th leaf that passes a test, where `last` is the one before the list
abbrev pub seen_node : {L : Type 0} → (ℕ × L → Bool) → ℕ → Option ℕ → List (ℕ × L) → Option ℕ
seen_node see zero last xs = last
seen_node see (suc q) last [] = None
seen_node see (suc q) last (x ∷ xs) = cond (see x) (seen_node see q (Some x.0) xs) (seen_node see (suc q) last xs)

-- how much the first q elements that pass a test are together, each of its size
abbrev pub amount : {A : Type 0} → (A → ℕ) → (A → Bool) → ℕ → List A → ℕ
amount size see zero xs = 0
amount size see (suc q) [] = 0
amount size see (suc q) (x ∷ xs) = cond (see x) (size x + amount size see q xs) (amount size see (suc q) xs)

module _ {C U : Type 0} (units : C → List U) where
  -- how many elements are in the first q leaves that stage k sees
  abbrev pub seen_size : ℕ → ℕ → List (ℕ × TreeLeaf C) → ℕ
  seen_size k q xs = amount (λ x. length (units x.1.content)) (seen_by leaf_stamps k) q xs

  -- stage k sees just so many elements in its first leaves
  pub record EndsLeaf (position k : ℕ) (xs : List (ℕ × TreeLeaf C)) : Type 0 where
    pub count : ℕ
    pub fits : count ≤ len (seen_by leaf_stamps k) xs
    pub is : position ≡ seen_size k count xs

  -- the moves of all pending insertion stages above k, in rising order, each with its position
  abbrev pub AreMoves : ℕ → List StageMove → List (ℕ × TreeLeaf C) → Type 0
  AreMoves k [] xs = (j : ℕ) → k < j → NoneOf j xs
  AreMoves k (m ∷ ms) xs =
      (k < m.stage) × ((j : ℕ) → k < j → j < m.stage → NoneOf j xs)
      × (m.position ≡ seen_size (m.stage - 1) (next_position leaf_stamps (m.stage - 1) xs) xs)
      × AreMoves m.stage ms xs
