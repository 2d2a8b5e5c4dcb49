-- What an `Arena` ends as, where a `&mut` to a value is returned.
use Rattle.std.specs.Prelude.{ℕ}
use Rattle.std.specs.Borrow.{Lends, Fml, RattleType, MutBor}
use Rattle.slab.specs.Slab.{Slab, with_value}
use Rattle.ft_arena.specs.Forest.{Forest, with_leaf, with_block, kids_of_node}
use Rattle.ft_arena.specs.contracts.arena.Arena as arena
use Rattle.ft_arena.specs.contracts.nodes.Node as node
use Rattle.ft_arena.specs.contracts.slots.Slots as slots
use Rattle.ft_arena.specs.declared.nodes.Node.{Node}
use Rattle.ft_arena.specs.declared.nodes.Node.TheVariants.{Leaf, Block}

module _ (L B : RattleType) where
  abbrev pub lends_leaf : MutBor (Forest L.Denot B.Denot) → ℕ → MutBor L.Denot → Fml
  lends_leaf s id r = Lends (arena.the_row L B) L s r (with_leaf s.now id)

  abbrev pub lends_node_leaf : MutBor (Node L.Denot B.Denot) → MutBor L.Denot → Fml
  lends_node_leaf s r = Lends (node.the_row L B) L s r Leaf

  abbrev pub lends_block : MutBor (Forest L.Denot B.Denot) → ℕ → MutBor B.Denot → Fml
  lends_block s id r = Lends (arena.the_row L B) B s r (with_block s.now id)

  abbrev pub lends_node_block : MutBor (Node L.Denot B.Denot) → MutBor B.Denot → Fml
  lends_node_block s r = Lends (node.the_row L B) B s r (λ w. Block (kids_of_node s.now) w)

-- the number has the last value written
abbrev pub lends_value : (T : RattleType) → MutBor (Slab T.Denot) → ℕ → MutBor T.Denot → Fml
lends_value T s key r = Lends (slots.the_row T) T s r (with_value s.now key)
