-- How ends follow one another by their places: a detached end is before all others.
use Rattle.std.specs.Prelude.{◌≡◌, IsTrue, ℕ, ◌<◌, ◌≤◌, ℤ, pos, negsuc, Option, Some, None, is_some, ⊤}
use Rattle.ft_tree_leaves.specs.declared.text.TextContent.{TextContent}
use Rattle.ft_tree_leaves.specs.References.{IsReferenceIn, reference_place}
use Rattle.ft_tree.specs.State.{TreeState}
use Rattle.ft_interval_store.specs.Ends.{References}

-- the place of an end as a number, -1 where it is detached
abbrev pub place_number : Option ℕ → ℤ
place_number None = negsuc 0
place_number (Some i) = pos i

-- the first end isn't behind the second
abbrev pub IsAtMost : Option ℕ → Option ℕ → Type 0
IsAtMost None b = ⊤
IsAtMost (Some i) None = ⊥
IsAtMost (Some i) (Some j) = i ≤ j

-- an end is detached, or its place is below n
abbrev pub IsWithin : ℕ → Option ℕ → Type 0
IsWithin n None = ⊤
IsWithin n (Some i) = i < n

-- a change of all ends, from a list of n elements to one of m: none passes another one, and of two ends either both are
-- detached by it or none
pub record KeepsEndOrder (n m : ℕ) (f : Option ℕ → Option ℕ) : Type 0 where
  pub rises : (a b : Option ℕ) → IsWithin n b → IsAtMost a b → IsAtMost (f a) (f b)
  pub within : (a : Option ℕ) → IsWithin n a → IsWithin m (f a)
  pub together : (a b : Option ℕ) → IsWithin n a → IsWithin n b → is_some a ≡ is_some b → is_some (f a) ≡ is_some (f b)
  pub detached : f None ≡ None

-- the place of a reference in the whole list, -1 where it is detached
abbrev pub list_place : References → ℕ → ℤ
list_place refs r = place_number (reference_place refs r)

-- the reference is live in the tree, and its place is a number of 63 bits
abbrev pub IsPlaced : TreeState TextContent → ℕ → Type 0
IsPlaced tree r = IsTrue tree.usable × IsReferenceIn tree.refs r × IsWithin 9223372036854775808 (reference_place tree.refs r)

-- the reference is live in the tree
abbrev pub IsLiveIn : TreeState TextContent → ℕ → Type 0
IsLiveIn tree r = IsTrue tree.usable × IsReferenceIn tree.refs r
