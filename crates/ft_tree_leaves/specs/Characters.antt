-- The bytes of a run's characters.
use Rattle.std.specs.Prelude.{ℕ, List}
use Rattle.ft_tree_leaves.specs.declared.characters.Characters.{Characters}
use Rattle.ft_tree_leaves.specs.declared.characters.Characters.TheVariants.{Few, Many}

abbrev pub bytes_of : Characters → List ℕ
bytes_of (Few text) = text.bytes
bytes_of (Many text) = text.value
