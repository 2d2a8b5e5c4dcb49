-- What a contract sees of a `Tree`.
use Rattle.std.specs.Prelude.{◌≡◌, ℕ, ◌<◌, Bool, false, List, Option}
use Rattle.ft_tree_leaves.specs.declared.leaves.TreeLeaf.{TreeLeaf}
use Rattle.ft_tree_leaves.specs.declared.references.Reference.{Reference}
use Rattle.ft_tree.specs.declared.faults.TreeFault.{TreeFault}
use Rattle.ft_tree.specs.declared.faults.TreeFault.TheVariants.{OutOfRange, OutOfMemory}

-- the leaves from first to last, each with its node; the references, each with its number; the floor; the leaf at which the
-- next sweep begins; how many elements were ever made; how deep a search goes; and whether the tree may still be used
pub record TreeState (C : Type 0) : Type 0 where
  pub leaves : List (ℕ × TreeLeaf C)
  pub refs : List (ℕ × Reference)
  pub floor : ℕ
  pub sweep : Option ℕ
  pub made : ℕ
  pub depth : ℕ
  pub usable : Bool

-- floor, place of the sweep and use stay
pub record KeepsRest {C : Type 0} (old new : TreeState C) : Type 0 where
  pub floor : new.floor ≡ old.floor
  pub sweep : new.sweep ≡ old.sweep
  pub usable : new.usable ≡ old.usable

-- why a call is refused: place p is above this length, and then nothing changed; or there is no memory, and then the tree
-- may be used no more
abbrev pub IsRefused : {C : Type 0} → ℕ → ℕ → TreeState C → TreeState C → TreeFault → Type 0
IsRefused p length old new (OutOfRange l) = (l ≡ length) × (length < p) × (new ≡ old)
IsRefused p length old new OutOfMemory = new.usable ≡ false
