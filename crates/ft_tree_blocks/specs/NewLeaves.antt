-- How a leaf is put in, or cut in two, under a number that no other leaf has; and when the next leaf may be joined to one. No
-- public clause cites this module.
use Rattle.std.specs.Prelude.{◌≡◌, ℕ, Bool, IsSomeAnd, IsTrue, List, Option}
use Rattle.ft_block.specs.Leaves.{put_leaf, split_leaf, times_leaf, value_after, value_at}
use Rattle.ft_tree_leaves.specs.declared.leaves.TreeLeaf.{TreeLeaf}

module _ {C : Type 0} where
  -- a new leaf was put in behind a place
  pub record PutsLeaf (at : Option ℕ) (leaf : TreeLeaf C) (old new : List (ℕ × TreeLeaf C)) (id : ℕ) : Type 0 where
    pub ok : new ≡ put_leaf old at (id, leaf)
    pub fresh : times_leaf old id ≡ 0

  -- a leaf was cut behind so many elements, and its rear is a new leaf
  pub record CutsLeaf (front rear : C → ℕ → C) (leaf at : ℕ) (old new : List (ℕ × TreeLeaf C)) (id : ℕ) : Type 0 where
    pub ok : new ≡ split_leaf (λ v. record v { content = front v.content at }) (λ v. record v { content = rear v.content at }) old leaf id
    pub fresh : times_leaf old id ≡ 0

  -- the leaf and the next one have the same stamps, and their contents join
  abbrev pub CanJoin : (C → C → Bool) → List (ℕ × TreeLeaf C) → ℕ → Type 0
  CanJoin joins leaves id = IsSomeAnd (value_at leaves id) (λ v.
      IsSomeAnd (value_after leaves id) (λ w. IsTrue (joins v.content w.content) × (v.stamps ≡ w.stamps)))
