-- Finite maps as pairs of a key and the text of a value, by rising keys: what operations make of them, and what a client's map is.
use Rattle.std.specs.Prelude.{List, [], ◌∷◌, Option, Some, None, map}
use Rattle.ft_shared_map.specs.declared.ops.MapOp.{MapOp}
use Rattle.ft_shared_map.specs.declared.ops.MapOp.TheVariants.{Set, Delete, Clear}
use Rattle.ft_shared_map.specs.declared.ops.MapPair.{MapPair}
pub use Rattle.ft_props.specs.Properties.{Characters, ValueBytes, key_cmp, put_rising, remove_rising, value_of}

-- a finite map: its keys with their values, by rising keys, so that no key stands twice
abbrev pub FiniteMap : Type 0
FiniteMap = List (Characters × ValueBytes)

-- the map after an operation: a key set, a key taken away, or none left
abbrev pub put : FiniteMap → MapOp → FiniteMap
put m (Set key value) = put_rising key_cmp (key, value) m
put m (Delete key) = remove_rising key_cmp (key, []) m
put m Clear = []

-- the map after operations in order
abbrev pub put_all : FiniteMap → List MapOp → FiniteMap
put_all m [] = m
put_all m (op ∷ ops) = put_all (put m op) ops

-- the value that an operation sets, if there is one and it sets one
abbrev pub written : Option MapOp → Option ValueBytes
written (Some (Set key value)) = Some value
written _ = None

-- a client's map: what was sequenced of it, and the client's own operations that weren't yet, in order
pub record MapState : Type 0 where
  pub acked : FiniteMap
  pub pending : List MapOp

-- what it shows
abbrev pub shown_map : MapState → FiniteMap
shown_map s = put_all s.acked s.pending

-- without the oldest pending operation, which has become sequenced
abbrev pub acknowledged : FiniteMap → List MapOp → MapState
acknowledged m [] = record { acked = m; pending = [] }
acknowledged m (op ∷ ops) = record { acked = put m op; pending = ops }

-- an entry of a map as a pair, and back
abbrev pub pair_of : Characters × ValueBytes → MapPair
pair_of entry = record { key = entry.0; value = entry.1 }

abbrev pub entry_of : MapPair → Characters × ValueBytes
entry_of pair = (pair.key, pair.value)

-- a map as pairs, and back
abbrev pub pairs_of : FiniteMap → List MapPair
pairs_of m = map pair_of m

abbrev pub map_of : List MapPair → FiniteMap
map_of pairs = map entry_of pairs
