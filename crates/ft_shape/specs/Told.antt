-- What blocks keep of their children, whatever that is: each block by what its children tell.
use Rattle.std.specs.Prelude.{◌≡◌, ◌≢◌, ℕ, List, map, Option, Some, None}
use Rattle.ft_arena.specs.Forest.{Forest, leaf_value, block_value, kids_of}
use Rattle.ft_shape.specs.declared.headed.Headed.{Headed}

abbrev pub sum_of : {S : Type 0} → Option (Headed S) → Option S
sum_of None = None
sum_of (Some v) = Some v.sum

module _ {L S : Type 0} where
  -- what a node tells the block above it: a leaf its value, a block what it keeps besides its height
  abbrev pub told : Forest L (Headed S) → ℕ → Option L × Option S
  told s id = (leaf_value s id, sum_of (block_value s id))

  -- each block, but one, keeps what is right for what its children tell
  abbrev pub KeepsBut : (S → List (Option L × Option S) → Type 0) → Forest L (Headed S) → Option ℕ → Type 0
  KeepsBut R s stale = (b : ℕ) (v : Headed S) → block_value s b ≡ Some v → stale ≢ Some b → R v.sum (map (told s) (kids_of s b))

  -- the same but for two blocks
  abbrev pub KeepsButBoth : (S → List (Option L × Option S) → Type 0) → Forest L (Headed S) → ℕ → ℕ → Type 0
  KeepsButBoth R s front rear = (b : ℕ) (v : Headed S) → block_value s b ≡ Some v → b ≢ front → b ≢ rear → R v.sum (map (told s) (kids_of s b))

  -- the block keeps what is right, and every other node tells what it told
  pub record Retells (R : S → List (Option L × Option S) → Type 0) (old new : Forest L (Headed S)) (block : ℕ) : Type 0 where
    pub others : (x : ℕ) → x ≢ block → told new x ≡ told old x
    pub right : (v : Headed S) → block_value new block ≡ Some v → R v.sum (map (told new) (kids_of new block))

  -- the same of two blocks
  pub record RetellsBoth (R : S → List (Option L × Option S) → Type 0) (old new : Forest L (Headed S)) (block rear : ℕ) : Type 0 where
    pub others : (x : ℕ) → x ≢ block → x ≢ rear → told new x ≡ told old x
    pub front_right : (v : Headed S) → block_value new block ≡ Some v → R v.sum (map (told new) (kids_of new block))
    pub rear_right : (v : Headed S) → block_value new rear ≡ Some v → R v.sum (map (told new) (kids_of new rear))
