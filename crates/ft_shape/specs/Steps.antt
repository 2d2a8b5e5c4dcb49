-- What the functions that change a tree leave, each step as one record: first of the shape, then of the lengths by a
-- measure. No public clause cites this module.
use Rattle.std.specs.Prelude.{◌≡◌, ◌≢◌, ℕ, ◌+◌, ◌≤◌, List, Option, IsSome, [], ◌∷◌, ◌++◌, length, take, drop, insert, Some, None}
use Rattle.std.specs.List.{flat_map}
use Rattle.ft_arena.specs.Forest.{Forest, IsForest, entry, kids_of, parent_of, block_value, leaf_value}
use Rattle.ft_arena.specs.Ids.{times, insert_after, put_after, without}
use Rattle.ft_shape.specs.declared.headed.Headed.{Headed}
use Rattle.ft_shape.specs.Tree.{Measure, height_of, length_of, kind_of, total}

module _ {L S : Type 0} where
  -- leaves, children and heights stay
  pub record SameShape (old new : Forest L (Headed S)) : Type 0 where
    pub leaves : new.leaves ≡ old.leaves
    pub forest : IsForest new
    pub spare : new.spare ≡ old.spare
    pub leaf_values : (x : ℕ) → leaf_value new x ≡ leaf_value old x
    pub kinds : (x : ℕ) → kind_of new x ≡ kind_of old x
    pub kids : (x : ℕ) → kids_of new x ≡ kids_of old x

  -- the block's length is that of its children, and every other node keeps its length
  pub record Resums (measure : Measure L S) (old new : Forest L (Headed S)) (block : ℕ) : Type 0 where
    pub others : (x : ℕ) → x ≢ block → length_of measure new x ≡ length_of measure old x
    pub sum : length_of measure new block ≡ total (length_of measure new) (kids_of new block)

  -- the same of two blocks
  pub record ResumsBoth (measure : Measure L S) (old new : Forest L (Headed S)) (block rear : ℕ) : Type 0 where
    pub others : (x : ℕ) → x ≢ block → x ≢ rear → length_of measure new x ≡ length_of measure old x
    pub front_sum : length_of measure new block ≡ total (length_of measure new) (kids_of new block)
    pub rear_sum : length_of measure new rear ≡ total (length_of measure new) (kids_of new rear)

  -- the node stands at this place among the block's children
  pub record PutsAt (old new : Forest L (Headed S)) (block place id : ℕ) : Type 0 where
    pub leaves : new.leaves ≡ old.leaves
    pub forest : IsForest new
    pub leaf_values : (x : ℕ) → leaf_value new x ≡ leaf_value old x
    pub block_values : (x : ℕ) → block_value new x ≡ block_value old x
    pub kids : kids_of new block ≡ insert (kids_of old block) place id
    pub other_kids : (x : ℕ) → x ≢ block → kids_of new x ≡ kids_of old x

  -- the same where the block was full: a new block has the rear ones of its children
  pub record SplitsAt (old new : Forest L (Headed S)) (block place id rear : ℕ) : Type 0 where
    pub leaves : new.leaves ≡ old.leaves
    pub forest : IsForest new
    pub spare : old.spare ≡ new.spare + 1
    pub leaf_values : (x : ℕ) → leaf_value new x ≡ leaf_value old x
    pub fresh : entry old rear ≡ None
    pub kind : kind_of new rear ≡ kind_of old block
    pub kinds : (x : ℕ) → x ≢ rear → kind_of new x ≡ kind_of old x
    pub kids : kids_of new block ++ kids_of new rear ≡ insert (kids_of old block) place id
    pub front_many : 4 ≤ length (kids_of new block)
    pub rear_many : 4 ≤ length (kids_of new rear)
    pub other_kids : (x : ℕ) → x ≢ block → x ≢ rear → kids_of new x ≡ kids_of old x

  -- a new root stands over the old one and another node
  pub record RootsOver (old new : Forest L (Headed S)) (root id top : ℕ) : Type 0 where
    pub leaves : new.leaves ≡ old.leaves
    pub forest : IsForest new
    pub leaf_values : (x : ℕ) → leaf_value new x ≡ leaf_value old x
    pub fresh : entry old top ≡ None
    pub kind : kind_of new top ≡ Some (Some (height_of old root + 1))
    pub kinds : (x : ℕ) → x ≢ top → kind_of new x ≡ kind_of old x
    pub kids : kids_of new top ≡ root ∷ id ∷ []
    pub other_kids : (x : ℕ) → x ≢ top → kids_of new x ≡ kids_of old x

  -- the rear children of the one block are now those of the other
  pub record Halves (old new : Forest L (Headed S)) (block rear : ℕ) : Type 0 where
    pub leaves : new.leaves ≡ old.leaves
    pub forest : IsForest new
    pub spare : new.spare ≡ old.spare
    pub leaf_values : (x : ℕ) → leaf_value new x ≡ leaf_value old x
    pub block_values : (x : ℕ) → block_value new x ≡ block_value old x
    pub front : kids_of new block ≡ take 4 (kids_of old block)
    pub back : kids_of new rear ≡ drop 4 (kids_of old block)
    pub other_kids : (x : ℕ) → x ≢ block → x ≢ rear → kids_of new x ≡ kids_of old x
    pub other_parents : (x : ℕ) → parent_of old x ≡ None → parent_of new x ≡ None

  -- the node stands at this place among the children of the two blocks
  pub record PutsInHalf (old new : Forest L (Headed S)) (block rear place id : ℕ) : Type 0 where
    pub leaves : new.leaves ≡ old.leaves
    pub forest : IsForest new
    pub spare : new.spare ≡ old.spare
    pub leaf_values : (x : ℕ) → leaf_value new x ≡ leaf_value old x
    pub block_values : (x : ℕ) → block_value new x ≡ block_value old x
    pub joined : kids_of new block ++ kids_of new rear ≡ insert (kids_of old block ++ kids_of old rear) place id
    pub front_many : 4 ≤ length (kids_of new block)
    pub rear_many : 4 ≤ length (kids_of new rear)
    pub other_kids : (x : ℕ) → x ≢ block → x ≢ rear → kids_of new x ≡ kids_of old x

  -- the children of two neighbours are shared out anew, so that the front one has this many
  pub record Regroups (old new : Forest L (Headed S)) (front rear want : ℕ) : Type 0 where
    pub leaves : new.leaves ≡ old.leaves
    pub forest : IsForest new
    pub leaf_values : (x : ℕ) → leaf_value new x ≡ leaf_value old x
    pub block_values : (x : ℕ) → block_value new x ≡ block_value old x
    pub joined : kids_of new front ++ kids_of new rear ≡ kids_of old front ++ kids_of old rear
    pub count : length (kids_of new front) ≡ want
    pub other_kids : (x : ℕ) → x ≢ front → x ≢ rear → kids_of new x ≡ kids_of old x

  -- two neighbours below a block share their children anew; the rear one may be gone
  pub record Shares (old new : Forest L (Headed S)) (up front rear : ℕ) : Type 0 where
    pub leaves : new.leaves ≡ old.leaves
    pub forest : IsForest new
    pub leaf_values : (x : ℕ) → leaf_value new x ≡ leaf_value old x
    pub kinds : (x : ℕ) → IsSome (entry new x) → kind_of new x ≡ kind_of old x
    pub live : (x : ℕ) → x ≢ rear → IsSome (entry old x) → IsSome (entry new x)
    pub joined : kids_of new front ++ kids_of new rear ≡ kids_of old front ++ kids_of old rear
    pub other_kids : (x : ℕ) → x ≢ up → x ≢ front → x ≢ rear → kids_of new x ≡ kids_of old x
    pub up_kids : (x : ℕ) → IsSome (entry new x) → times (kids_of new up) x ≡ times (kids_of old up) x
    pub up_levels : flat_map (kids_of new) (kids_of new up) ≡ flat_map (kids_of old) (kids_of old up)
    pub up_filled : 1 ≤ length (kids_of new up)
    pub front_many : 4 ≤ length (kids_of new front)
    pub rear_many : IsSome (entry new rear) → 4 ≤ length (kids_of new rear)

  -- the two stand side by side among the block's children
  pub record IsPair (s : Forest L (Headed S)) (up front rear : ℕ) : Type 0 where
    pub front_up : parent_of s front ≡ Some up
    pub rear_up : parent_of s rear ≡ Some up
    pub differ : front ≢ rear
    pub order : insert_after (without (kids_of s up) rear) front rear ≡ kids_of s up
    pub heights : (x block : ℕ) → parent_of s x ≡ Some block → height_of s block ≡ height_of s x + 1
    pub front_block : IsSome (block_value s front)
    pub rear_block : IsSome (block_value s rear)

  -- their lengths are those of their children, and the block above is as long as before
  pub record ResumsPair (measure : Measure L S) (old new : Forest L (Headed S)) (up front rear : ℕ) : Type 0 where
    pub others : (x : ℕ) → IsSome (entry new x) → x ≢ front → x ≢ rear → length_of measure new x ≡ length_of measure old x
    pub front_sum : length_of measure new front ≡ total (length_of measure new) (kids_of new front)
    pub rear_sum : IsSome (entry new rear) → length_of measure new rear ≡ total (length_of measure new) (kids_of new rear)
    pub up_sum : total (length_of measure new) (kids_of new up) ≡ total (length_of measure old) (kids_of old up)

  -- the root is gone, and its one child is the root
  pub record DropsRoot (old new : Forest L (Headed S)) (root top : ℕ) : Type 0 where
    pub leaves : new.leaves ≡ old.leaves
    pub forest : IsForest new
    pub kids : kids_of old root ≡ top ∷ []
    pub gone : entry new root ≡ None
    pub top_parent : parent_of new top ≡ None
    pub parents : (x : ℕ) → x ≢ root → x ≢ top → parent_of new x ≡ parent_of old x
    pub other_kids : (x : ℕ) → x ≢ root → kids_of new x ≡ kids_of old x
    pub leaf_values : (x : ℕ) → leaf_value new x ≡ leaf_value old x
    pub block_values : (x : ℕ) → x ≢ root → block_value new x ≡ block_value old x

  -- the leaves have a new one, as the edit says, and every other leaf keeps its node and value
  pub record InsertsLeaf (old new : Forest L (Headed S)) (id : ℕ) (leaf : L) (e : List ℕ → List ℕ) : Type 0 where
    pub leaves : new.leaves ≡ e old.leaves
    pub fresh : leaf_value old id ≡ None
    pub value : leaf_value new id ≡ Some leaf
    pub others : (x : ℕ) → x ≢ id → leaf_value new x ≡ leaf_value old x

  -- that leaf is cut in two: its front keeps the node, its rear has a new one
  pub record SplitsLeaf (front rear : L → L) (old new : Forest L (Headed S)) (leaf id : ℕ) : Type 0 where
    pub leaves : new.leaves ≡ insert_after old.leaves leaf id
    pub fresh : leaf_value old id ≡ None
    pub whole : L
    pub was : leaf_value old leaf ≡ Some whole
    pub now : leaf_value new leaf ≡ Some (front whole)
    pub value : leaf_value new id ≡ Some (rear whole)
    pub others : (x : ℕ) → x ≢ leaf → x ≢ id → leaf_value new x ≡ leaf_value old x

  -- that leaf has this change of its value
  pub record ChangesLeaf (f : L → L) (old new : Forest L (Headed S)) (leaf : ℕ) : Type 0 where
    pub leaves : new.leaves ≡ old.leaves
    pub was : L
    pub old_value : leaf_value old leaf ≡ Some was
    pub new_value : leaf_value new leaf ≡ Some (f was)
    pub others : (x : ℕ) → x ≢ leaf → leaf_value new x ≡ leaf_value old x

  -- the leaves are those of before without that one, which had this value
  pub record TakesLeaf (old new : Forest L (Headed S)) (leaf : ℕ) (value : L) : Type 0 where
    pub leaves : new.leaves ≡ without old.leaves leaf
    pub was : leaf_value old leaf ≡ Some value
    pub gone : leaf_value new leaf ≡ None
    pub others : (x : ℕ) → x ≢ leaf → leaf_value new x ≡ leaf_value old x

  -- the leaf stands directly after that one, or first
  pub record MovesLeaf (old new : Forest L (Headed S)) (leaf : ℕ) (at : Option ℕ) : Type 0 where
    pub leaves : new.leaves ≡ put_after (without old.leaves leaf) at leaf
    pub values : (x : ℕ) → leaf_value new x ≡ leaf_value old x
