-- What a contract sees of `Blocks`: the leaves in order, and what is read of such a list.
use Rattle.std.specs.Prelude.{ℕ, ◌+◌, ◌-◌, ◌≤◌, ◌==◌, Bool, true, false, List, [], ◌∷◌, Option, Some, None, nat_le, if◌then◌else◌}
use Rattle.ft_base.specs.declared.elements.Element.{Element}
use Rattle.ft_base.specs.declared.stamps.Stamp.{Stamp}
use Rattle.ft_base.specs.declared.stamps.Stamp.TheVariants.{Acked}
use Rattle.ft_base.specs.Visibility.{sees, seen_at}
use Rattle.ft_block.specs.declared.leaves.LenView.{LenView}
use Rattle.ft_block.specs.declared.leaves.LenView.TheVariants.{At, Stage, All}
use Rattle.ft_block.specs.declared.blocks.Found.{Found}

-- the leaves from first to last, each with its node, how many blocks stand below the root on the way to a leaf, the
-- floor, and whether the blocks may still be used
pub record LeafList (L : Type 0) : Type 0 where
  pub leaves : List (ℕ × L)
  pub depth : ℕ
  pub floor : ℕ
  pub usable : Bool

-- whether the view sees the element; one view sees all, the removed ones too
abbrev pub sees_in : LenView → Element → Bool
sees_in (At at) e = sees e at.r at.c
sees_in (Stage k) e = seen_at e k
sees_in All e = true

-- the first of these stamps is sequenced
abbrev pub is_first_sequenced : List Stamp → Bool
is_first_sequenced (Acked seq conn ∷ stamps) = true
is_first_sequenced _ = false

-- the element's first removal is sequenced
abbrev pub is_removed : Element → Bool
is_removed e = is_first_sequenced e.dels

-- the view is no perspective with a reference number below the floor
abbrev pub IsFromFloor : ℕ → LenView → Type 0
IsFromFloor floor (At at) = floor ≤ at.r
IsFromFloor floor (Stage k) = Unit {0}
IsFromFloor floor All = Unit {0}

-- the view at the last pending stage, which no stage is above
abbrev pub last_stage : LenView
last_stage = Stage 18446744073709551615

module _ {L : Type 0} where
  -- how many of a leaf's elements the view sees, where a leaf has this size and this element
  abbrev pub seen_length : (L → ℕ) → (L → Element) → LenView → L → ℕ
  seen_length size element view leaf = if sees_in view (element leaf) then size leaf else 0

  -- the same at the last stage
  abbrev pub local_length : (L → ℕ) → (L → Element) → L → ℕ
  local_length size element = seen_length size element last_stage

  -- how many of a leaf's elements have a sequenced removal first
  abbrev pub removed_length : (L → ℕ) → (L → Element) → L → ℕ
  removed_length size element leaf = if is_removed (element leaf) then size leaf else 0

  -- the nodes of the leaves
  abbrev pub ids : List (ℕ × L) → List ℕ
  ids [] = []
  ids (x ∷ xs) = x.0 ∷ ids xs

  -- how often the leaf of this node stands there
  abbrev pub times_leaf : List (ℕ × L) → ℕ → ℕ
  times_leaf [] id = 0
  times_leaf (x ∷ xs) id = (if x.0 == id then 1 else 0) + times_leaf xs id

  -- the leaf of this node stands there
  abbrev pub IsLeafIn : List (ℕ × L) → ℕ → Type 0
  IsLeafIn xs id = 1 ≤ times_leaf xs id

  -- the same where a node is given
  abbrev pub IsPlaceIn : List (ℕ × L) → Option ℕ → Type 0
  IsPlaceIn xs None = Unit {0}
  IsPlaceIn xs (Some id) = IsLeafIn xs id

  -- the value of the leaf of this node
  abbrev pub value_at : List (ℕ × L) → ℕ → Option L
  value_at [] id = None
  value_at (x ∷ xs) id = if x.0 == id then Some x.1 else value_at xs id

  -- the leaves together by this measure
  abbrev pub length_by : (L → ℕ) → List (ℕ × L) → ℕ
  length_by f [] = 0
  length_by f (x ∷ xs) = f x.1 + length_by f xs

  -- the leaf that holds the p-th element by this measure, p counted from 1, and how many of its elements stand up to it
  abbrev pub place_from : (L → ℕ) → List (ℕ × L) → ℕ → Option Found
  place_from f [] p = None
  place_from f (x ∷ xs) p =
      if nat_le p (f x.1) then Some record { leaf = Some x.0; offset = p } else place_from f xs (p - f x.1)

  -- the same, and the head of the list for 0
  abbrev pub place_by : (L → ℕ) → List (ℕ × L) → ℕ → Option Found
  place_by f xs p = if p == 0 then Some record { leaf = None; offset = 0 } else place_from f xs p

  -- the leaves left of that of this node
  abbrev pub left_of : List (ℕ × L) → ℕ → List (ℕ × L)
  left_of [] id = []
  left_of (x ∷ xs) id = if x.0 == id then [] else x ∷ left_of xs id

  -- the leaves with a new one directly after that of this node
  abbrev pub put_leaf_after : List (ℕ × L) → ℕ → ℕ × L → List (ℕ × L)
  put_leaf_after [] at new = []
  put_leaf_after (x ∷ xs) at new =
      if x.0 == at then x ∷ new ∷ put_leaf_after xs at new else x ∷ put_leaf_after xs at new

  -- the same, or the new one first where no node is given
  abbrev pub put_leaf : List (ℕ × L) → Option ℕ → ℕ × L → List (ℕ × L)
  put_leaf xs None new = new ∷ xs
  put_leaf xs (Some at) new = put_leaf_after xs at new

  -- the leaves, of which that of this node has this change of its value
  abbrev pub change_leaf : (L → L) → List (ℕ × L) → ℕ → List (ℕ × L)
  change_leaf f [] id = []
  change_leaf f (x ∷ xs) id = if x.0 == id then (x.0, f x.1) ∷ change_leaf f xs id else x ∷ change_leaf f xs id

  -- the leaves, of which that of this node is cut into its front, which keeps the node, and its rear, which has the new one
  abbrev pub split_leaf : (L → L) → (L → L) → List (ℕ × L) → ℕ → ℕ → List (ℕ × L)
  split_leaf front rear [] id new = []
  split_leaf front rear (x ∷ xs) id new =
      if x.0 == id then (x.0, front x.1) ∷ (new, rear x.1) ∷ split_leaf front rear xs id new
      else x ∷ split_leaf front rear xs id new

  -- the leaves without that of this node
  abbrev pub without_leaf : List (ℕ × L) → ℕ → List (ℕ × L)
  without_leaf [] id = []
  without_leaf (x ∷ xs) id = if x.0 == id then without_leaf xs id else x ∷ without_leaf xs id

  -- the leaves with the one of this value moved directly after the given one, or first
  abbrev pub move_leaf : List (ℕ × L) → ℕ → Option ℕ → Option L → List (ℕ × L)
  move_leaf xs id at None = xs
  move_leaf xs id at (Some v) = put_leaf (without_leaf xs id) at (id, v)

  -- the value of the first leaf
  abbrev pub first_value : List (ℕ × L) → Option L
  first_value [] = None
  first_value (x ∷ xs) = Some x.1

  -- the value of the leaf after that of this node
  abbrev pub value_after : List (ℕ × L) → ℕ → Option L
  value_after [] id = None
  value_after (x ∷ xs) id = if x.0 == id then first_value xs else value_after xs id

  -- the leaf joined with the first of these, which is gone then
  abbrev pub join_first : (L → L → L) → ℕ × L → List (ℕ × L) → List (ℕ × L)
  join_first join x [] = x ∷ []
  join_first join x (y ∷ ys) = (x.0, join x.1 y.1) ∷ ys

  -- the leaves, of which that of this node is joined with the next one, which is gone then
  abbrev pub join_leaf : (L → L → L) → List (ℕ × L) → ℕ → List (ℕ × L)
  join_leaf join [] id = []
  join_leaf join (x ∷ xs) id = if x.0 == id then join_first join x xs else x ∷ join_leaf join xs id
