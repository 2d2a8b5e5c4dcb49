-- What the kind and the values of a node say.
use Rattle.std.proofs.Common.{◌≡◌, ℕ, Option, Some, None, IsSome, is_some, Bool, true, false, refl, sym, ap, ◌∙◌}
use Rattle.ft_arena.specs.declared.nodes.Node.{Node}
use Rattle.ft_arena.specs.declared.nodes.Node.TheVariants.{Leaf, Block}
use Rattle.ft_arena.specs.Forest.{Entry, leaf_of_entry, block_of_entry, block_of_node, leaf_of_node}
use Rattle.ft_shape.specs.declared.headed.Headed.{Headed}
use Rattle.ft_shape.specs.Tree.{height_of_entry, height_of_node, Measure, length_of_entry, length_of_node, kind_of_entry, kind_of_node}

height_of_kind : Option (Option ℕ) → ℕ
height_of_kind None = 0
height_of_kind (Some None) = 0
height_of_kind (Some (Some h)) = h

is_live_kind : Option (Option ℕ) → Bool
is_live_kind None = false
is_live_kind (Some k) = true

is_block_kind : Option (Option ℕ) → Bool
is_block_kind None = false
is_block_kind (Some None) = false
is_block_kind (Some (Some h)) = true

module _ {L S : Type 0} where
  height_by_kind : (o : Option (Entry L (Headed S))) → height_of_entry o ≡ height_of_kind (kind_of_entry o)
  unfolding height_of_kind
  height_by_kind None = refl
  height_by_kind (Some e) = of_node e.node
    where
      of_node : (n : Node L (Headed S)) → height_of_node n ≡ height_of_kind (Some (kind_of_node n))
      of_node (Leaf v) = refl
      of_node (Block ks v) = refl

  live_by_kind : (o : Option (Entry L (Headed S))) → is_some o ≡ is_live_kind (kind_of_entry o)
  unfolding is_live_kind
  live_by_kind None = refl
  live_by_kind (Some e) = refl

  block_by_kind : (o : Option (Entry L (Headed S))) → is_some (block_of_entry o) ≡ is_block_kind (kind_of_entry o)
  unfolding is_block_kind
  block_by_kind None = refl
  block_by_kind (Some e) = of_node e.node
    where
      of_node : (n : Node L (Headed S)) → is_some (block_of_node n) ≡ is_block_kind (Some (kind_of_node n))
      of_node (Leaf v) = refl
      of_node (Block ks v) = refl

  -- nodes of one kind have one height, are live alike, and are blocks alike
  pub kind_height : (o u : Option (Entry L (Headed S))) → kind_of_entry u ≡ kind_of_entry o → height_of_entry u ≡ height_of_entry o
  kind_height o u e = height_by_kind u ∙ ap height_of_kind e ∙ sym (height_by_kind o)

  pub kind_live : (o u : Option (Entry L (Headed S))) → kind_of_entry u ≡ kind_of_entry o → IsSome o → IsSome u
  kind_live o u e h = live_by_kind u ∙ ap is_live_kind e ∙ sym (live_by_kind o) ∙ h

  pub kind_block : (o u : Option (Entry L (Headed S))) → kind_of_entry u ≡ kind_of_entry o → IsSome (block_of_entry o) → IsSome (block_of_entry u)
  kind_block o u e h = block_by_kind u ∙ ap is_block_kind e ∙ sym (block_by_kind o) ∙ h

  pub block_live : (o : Option (Entry L (Headed S))) → IsSome (block_of_entry o) → IsSome o
  block_live None h = cc
  block_live (Some e) h = refl

module _ {L S : Type 0} where
  pub kind_is_height : (o : Option (Entry L (Headed S))) (h : ℕ) → kind_of_entry o ≡ Some (Some h) → height_of_entry o ≡ h
  unfolding height_of_kind
  kind_is_height o h e = height_by_kind o ∙ ap height_of_kind e

  pub kind_is_block : (o : Option (Entry L (Headed S))) (h : ℕ) → kind_of_entry o ≡ Some (Some h) → IsSome (block_of_entry o)
  unfolding is_block_kind
  kind_is_block o h e = block_by_kind o ∙ ap is_block_kind e

kind_by : {X S : Type 0} → Option X → Option (Headed S) → Option (Option ℕ)
kind_by (Some v) b = Some None
kind_by None None = None
kind_by None (Some b) = Some (Some b.height)

module _ {L S : Type 0} where
  length_by : Measure L S → Option L → Option (Headed S) → ℕ
  length_by measure (Some v) b = measure.leaf v
  length_by measure None None = 0
  length_by measure None (Some b) = measure.block b

  kind_is_by : (o : Option (Entry L (Headed S))) → kind_of_entry o ≡ kind_by (leaf_of_entry o) (block_of_entry o)
  unfolding kind_by
  kind_is_by None = refl
  kind_is_by (Some e) = of_node e.node
    where
      of_node : (n : Node L (Headed S)) → Some (kind_of_node n) ≡ kind_by (leaf_of_node n) (block_of_node n)
      of_node (Leaf v) = refl
      of_node (Block ks v) = refl

  length_is_by : (measure : Measure L S) (o : Option (Entry L (Headed S))) → length_of_entry measure o ≡ length_by measure (leaf_of_entry o) (block_of_entry o)
  unfolding length_by
  length_is_by measure None = refl
  length_is_by measure (Some e) = of_node e.node
    where
      of_node : (n : Node L (Headed S)) → length_of_node measure n ≡ length_by measure (leaf_of_node n) (block_of_node n)
      of_node (Leaf v) = refl
      of_node (Block ks v) = refl

  -- the values of a node say its kind and its length
  pub kind_from_values : (o u : Option (Entry L (Headed S))) → leaf_of_entry u ≡ leaf_of_entry o → block_of_entry u ≡ block_of_entry o
      → kind_of_entry u ≡ kind_of_entry o
  kind_from_values o u l b = kind_is_by u ∙ ap (λ z. kind_by z (block_of_entry u)) l ∙ ap (kind_by (leaf_of_entry o)) b ∙ sym (kind_is_by o)

  pub length_from_values : (measure : Measure L S) (o u : Option (Entry L (Headed S))) → leaf_of_entry u ≡ leaf_of_entry o → block_of_entry u ≡ block_of_entry o
      → length_of_entry measure u ≡ length_of_entry measure o
  length_from_values measure o u l b = length_is_by measure u ∙ ap (λ z. length_by measure z (block_of_entry u)) l ∙ ap (length_by measure (leaf_of_entry o)) b
      ∙ sym (length_is_by measure o)
