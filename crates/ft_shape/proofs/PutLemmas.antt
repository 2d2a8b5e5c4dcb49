-- What one put of a child leaves.
use Rattle.std.proofs.Common.{◌≡◌, ℕ}
use Rattle.ft_arena.specs.Forest.{Forest, IsForest}
use Rattle.ft_shape.specs.declared.headed.Headed.{Headed}
use Rattle.ft_shape.specs.Steps.{PutsAt}
use Rattle.ft_arena.specs.Forest.{PutsChild}

module _ {L S : Type 0} where
  pub PutsAt-from : (old mid : Forest L (Headed S)) (block i id : ℕ) → mid.leaves ≡ old.leaves → PutsChild old mid block i id
      → IsForest mid → PutsAt old mid block i id
  PutsAt-from old mid block i id l p f =
      record {
        leaves = l;
        forest = f;
        leaf_values = p.leaf_values;
        block_values = p.block_values;
        kids = p.kids;
        other_kids = p.other_kids;
      }
