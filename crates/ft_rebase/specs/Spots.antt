-- Where an element stands, told by the node of its leaf, which moves keep; and what all steps keep besides.
use Rattle.std.specs.Prelude.{◌≡◌, ℕ, ◌-◌, true, cond, nat_lt, List, [], ◌∷◌, Option, Some, None, length, option_and_then, option_map}
use Rattle.ft_tree_leaves.specs.declared.leaves.TreeLeaf.{TreeLeaf}
use Rattle.ft_tree_leaves.specs.References.{reference_place, reference_at}
use Rattle.ft_tree.specs.State.{KeepsRest, TreeState}

-- the node of the leaf that holds the element at place j, and its place in the leaf
abbrev pub spot_at : {C U : Type 0} → (C → List U) → List (ℕ × TreeLeaf C) → ℕ → Option (ℕ × ℕ)
spot_at units [] j = None
spot_at units (x ∷ xs) j =
    cond (nat_lt j (length (units x.1.content))) (Some (x.0, j)) (spot_at units xs (j - length (units x.1.content)))

-- each reference keeps its element, by its node and its place in the leaf, and stays acknowledged or pending
pub record KeepsSpots {C U : Type 0} (units : C → List U) (old new : TreeState C) : Type 0 where
  pub spots : (r : ℕ) → option_and_then (spot_at units new.leaves) (reference_place new.refs r)
      ≡ option_and_then (spot_at units old.leaves) (reference_place old.refs r)
  pub acked : (r : ℕ) → option_map (λ x. x.acked) (reference_at new.refs r) ≡ option_map (λ x. x.acked) (reference_at old.refs r)

-- all but the leaves and references stays, and the tree may be used
pub record StaysInUse {C : Type 0} (old new : TreeState C) : Type 0 where
  pub rest : KeepsRest old new
  pub made : new.made ≡ old.made
  pub usable : new.usable ≡ true
