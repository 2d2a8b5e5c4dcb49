-- Lists of leaves on which acknowledged references may have to slide. No public clause cites this module.
use Rattle.std.specs.Prelude.{◌≡◌, ℕ, ◌≤◌, Bool, false, cond, List, [], ◌∷◌, ◌++◌, Some, is_some}
use Rattle.ft_arena.specs.Ids.{first, times}
use Rattle.ft_refs.specs.declared.numbers.Place.{Place}
use Rattle.ft_refs.specs.RefLists.{ids_of, place_of_reference}
use Rattle.ft_tree_leaves.specs.declared.leaves.TreeLeaf.{TreeLeaf}
use Rattle.ft_tree_blocks.specs.Anchors.{AnchorLists, AreAnchored}
use Rattle.ft_tree_blocks.specs.Slides.{AreSettledBut}

-- each node of before is listed
abbrev pub StillListed : List ℕ → List ℕ → Type 0
StillListed old new = (id : ℕ) → 1 ≤ times old id → 1 ≤ times new id

-- the leaf once more at the end, if it has references
abbrev pub noted : AnchorLists → ℕ → List ℕ → List ℕ
noted a id nodes = cond (is_some (first (ids_of a.refs id))) (nodes ++ id ∷ []) nodes

-- each of these leaves so
abbrev pub all_noted : AnchorLists → List ℕ → List ℕ → List ℕ
all_noted a [] nodes = nodes
all_noted a (id ∷ ids) nodes = all_noted a ids (noted a id nodes)

-- the leaf is listed if it has references
pub record Notes (a : AnchorLists) (id : ℕ) (old new : List ℕ) : Type 0 where
  pub still : StillListed old new
  pub listed : (r : ℕ) (p : Place) → place_of_reference a.refs r ≡ Some p → p.owner ≡ id → 1 ≤ times new id
  pub exact : new ≡ noted a id old

-- the same unless acknowledged references may stand on it
pub record NotesUnless (stands : Bool) (a : AnchorLists) (id : ℕ) (old new : List ℕ) : Type 0 where
  pub still : StillListed old new
  pub listed : stands ≡ false → (r : ℕ) (p : Place) → place_of_reference a.refs r ≡ Some p → p.owner ≡ id → 1 ≤ times new id
  pub exact : new ≡ cond stands old (noted a id old)

-- the same of each of these leaves
pub record NotesAll (a : AnchorLists) (ids : List ℕ) (old new : List ℕ) : Type 0 where
  pub still : StillListed old new
  pub listed : (r : ℕ) (p : Place) → place_of_reference a.refs r ≡ Some p → 1 ≤ times ids p.owner → 1 ≤ times new p.owner
  pub exact : new ≡ all_noted a ids old

-- each reference stands on a leaf, and where an acknowledged one may have to slide is listed
pub record IsSoundOn {C U : Type 0} (units : C → List U) (leaves : List (ℕ × TreeLeaf C)) (a : AnchorLists) (nodes : List ℕ) : Type 0 where
  pub anchored : AreAnchored units leaves a
  pub settled : AreSettledBut leaves nodes a
