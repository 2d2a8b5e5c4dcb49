-- Lists of leaves as a walk from leaf to leaf goes along them.
use Rattle.std.specs.Prelude.{ℕ, cond, nat_eq, List, [], ◌∷◌, Option, Some, None}
use Rattle.ft_arena.specs.Ids.{after, first}
use Rattle.ft_block.specs.Leaves.{ids, left_of}

module _ {L : Type 0} where
  -- the leaves from that of this node on, or none where no node is given
  abbrev pub from_leaf : List (ℕ × L) → ℕ → List (ℕ × L)
  from_leaf [] id = []
  from_leaf (x ∷ xs) id = cond (nat_eq x.0 id) (x ∷ xs) (from_leaf xs id)

  abbrev pub from_place : List (ℕ × L) → Option ℕ → List (ℕ × L)
  from_place xs None = []
  from_place xs (Some id) = from_leaf xs id

  -- the leaves before that of this node, or all where no node is given
  abbrev pub before_place : List (ℕ × L) → Option ℕ → List (ℕ × L)
  before_place xs None = xs
  before_place xs (Some id) = left_of xs id

  -- the node of the leaf behind a place: the one after that of this node, or the first where no node is given
  abbrev pub node_behind : List (ℕ × L) → Option ℕ → Option ℕ
  node_behind xs None = first (ids xs)
  node_behind xs (Some id) = after (ids xs) id
