-- The leaves that have something of a pending stage, before they are put in order. No public clause cites this module.
use Rattle.std.specs.Prelude.{ℕ, Bool, false, cond, nat_eq, List, [], ◌∷◌, ◌++◌, Option, Some, None, filter, map}
use Rattle.ft_block.specs.Leaves.{left_of, length_by}
use Rattle.ft_block.specs.declared.leaves.LenView.TheVariants.{All}
use Rattle.ft_tree_leaves.specs.declared.leaves.TreeLeaf.{TreeLeaf}
use Rattle.ft_tree_leaves.specs.LeafLists.{leaf_length}
use Rattle.ft_tree_blocks.specs.declared.next_stages.Wanted.TheVariants.{Anything}
use Rattle.ft_tree_blocks.specs.Wanted.{is_wanted_at}

-- how many elements stand left of the leaf of this node
abbrev pub elements_left : {C U : Type 0} → (C → List U) → List (ℕ × TreeLeaf C) → ℕ → ℕ
elements_left units xs id = length_by (leaf_length units All) (left_of xs id)

-- those nodes whose leaf has something of stage k, each with how many elements stand left of it
abbrev pub touched_places : {C U : Type 0} → (C → List U) → List (ℕ × TreeLeaf C) → ℕ → List ℕ → List (ℕ × ℕ)
touched_places units xs k ns = map (λ n. (elements_left units xs n, n)) (filter (is_wanted_at Anything xs k) ns)

-- the node is the given one
abbrev pub is_given_node : Option ℕ → ℕ → Bool
is_given_node None n = false
is_given_node (Some m) n = nat_eq m n

-- the nodes, of equal neighbours the first alone, where the given one stands before them
abbrev pub unrepeated : Option ℕ → List ℕ → List ℕ
unrepeated o [] = []
unrepeated o (n ∷ ns) = cond (is_given_node o n) [] (n ∷ []) ++ unrepeated (Some n) ns
