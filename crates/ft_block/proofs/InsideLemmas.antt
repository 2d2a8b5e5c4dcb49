-- What the fields of `Blocks` say of the value that callers see.
use Rattle.std.proofs.Common.{All, ◌≡◌, ◌≢◌, ℕ, ◌+◌, ◌^◌, ◌<◌, ◌≤◌, List, length, nat_lt, Option, Some, None, IsSome, IsSomeAnd, IsTrue, sym, ap, subst, ◌∙◌, arith, eqb, ◌∷◌, [], refl}
use Rattle.std.proofs.lemmas.Bool.{cond-false, ne_eqb}
use Rattle.std.proofs.lemmas.List.Elements.{All-nil, All-cons}
use Rattle.ft_base.specs.declared.elements.Element.{Element}
use Rattle.ft_arena.specs.Ids.{times, put_after, without}
use Rattle.ft_arena.specs.Forest.{Forest, IsForest, IsPlace, leaf_value, count_some}
use Rattle.ft_arena.proofs.ArenaLemmas.{count_some_le}
use Rattle.ft_shape.specs.declared.headed.Headed.{Headed}
use Rattle.ft_block.specs.declared.summaries.Summary.{Summary}
use Rattle.ft_block.specs.declared.blocks.Blocks.TheInside.{Inside}
use Rattle.ft_block.specs.declared.leaves.LenView.{LenView}
use Rattle.ft_block.specs.declared.leaves.View.{View}
use Rattle.ft_block.specs.Leaves.{LeafList, IsFromFloor, IsLeafIn, IsPlaceIn, ids, times_leaf, value_at, length_by, place_from, place_by, left_of, put_leaf, change_leaf}
use Rattle.ft_block.specs.Leaves.{split_leaf, without_leaf, move_leaf}
use Rattle.ft_block.specs.Inside.{pair_of, pairs_of, depth_of, view_of, IsRooted, IsSound, IsSoundIfUsable}
use Rattle.ft_shape.specs.Tree.{Measure, IsTree, length_of, total, seek, numbers_before}
use Rattle.ft_block.specs.Tree.{KeepsLengths, by_size}
use Rattle.ft_shape.specs.Steps.{InsertsLeaf, SplitsLeaf, ChangesLeaf, TakesLeaf, MovesLeaf}
use Rattle.ft_shape.proofs.FitLemmas.{AllLeaves, leaves_live}
use Rattle.ft_shape.proofs.Levels.{depth_bound}
use Rattle.ft_block.proofs.PositionLemmas.{times-before_le}
use Rattle.ft_block.proofs.SoundLemmas.{rooted_forest}
use Rattle.ft_block.proofs.LeafListLemmas.{to_found, to_found_some, length-pairs, ids-pairs, length_by-pairs, place_from-pairs, times-pairs, value_at-pairs, value_at_in}
use Rattle.ft_block.proofs.LeafListLemmas.{left_of-pairs, pairs-put, pairs-change, pairs-split, pairs-without}
use Rattle.ft_shape.proofs.EditLemmas.{some_of}
use Rattle.ft_shape.proofs.WithoutLemmas.{times-without_le}

rooted_depth : {L : Type 0} (s : Forest L (Headed Summary)) (root : Option ℕ) → IsRooted s root → 4 ^ depth_of s root ≤ length s.leaves + 1
rooted_depth s None t = omega arith
rooted_depth s (Some root) t = depth_bound s root t

place_past_head : {L : Type 0} (f : L → ℕ) (xs : List (ℕ × L)) (p : ℕ) → 1 ≤ p → place_by f xs p ≡ place_from f xs p
place_past_head f xs p h = let d : p ≢ 0 = omega arith in cond-false (eqb p 0) _ _ (ne_eqb p 0 d)

one_filled : {L : Type 0} (size : L → ℕ) (x : ℕ) (o : Option L) (rest : List (ℕ × L)) → ((v : L) → o ≡ Some v → 1 ≤ size v) → All (λ x. 1 ≤ size x.1) rest
    → All (λ x. 1 ≤ size x.1) (pair_of x o rest)
one_filled size x None rest k h = h
one_filled size x (Some v) rest k h = All-cons (λ y. 1 ≤ size y.1) (x, v) rest (k v refl) h

all_filled : {L : Type 0} (size : L → ℕ) (s : Forest L (Headed Summary)) (xs : List ℕ)
    → ((id : ℕ) (v : L) → leaf_value s id ≡ Some v → 1 ≤ size v) → All (λ x. 1 ≤ size x.1) (pairs_of s xs)
all_filled size s [] h = All-nil (λ x. 1 ≤ size x.1)
all_filled size s (x ∷ xs) h = one_filled size x (leaf_value s x) (pairs_of s xs) (h x) (all_filled size s xs h)

module _ {L Change : Type 0} (size : L → ℕ) (element : L → Element) (a : Inside L Change) (v : LeafList L) (is : view_of a ≡ v) (inv : IsSoundIfUsable size element a)
    (usable : IsTrue v.usable) where
  pub in_sound : IsSound size element a.floor a.arena a.root
  in_sound = inv (subst (λ (w : LeafList L). IsTrue w.usable) (sym is) usable)

  pub in_floor : v.floor ≡ a.floor
  in_floor = ap (λ (w : LeafList L). w.floor) (sym is)

  -- the floor that callers see is the one that is kept
  pub in_kept : (view : View) → KeepsLengths v.floor view → KeepsLengths a.floor view
  in_kept view k = subst (λ (n : ℕ). KeepsLengths n view) in_floor k

  pub in_from : (view : LenView) → IsFromFloor v.floor view → IsFromFloor a.floor view
  in_from view k = subst (λ (n : ℕ). IsFromFloor n view) in_floor k

  pub in_tree : (root : ℕ) → a.root ≡ Some root → IsTree a.arena root
  in_tree root e = subst (λ (o : Option ℕ). IsRooted a.arena o) e in_sound.rooted

  pub in_forest : IsForest a.arena
  in_forest = rooted_forest a.arena a.root in_sound.rooted

  in_live : AllLeaves a.arena a.arena.leaves
  in_live = leaves_live a.arena in_forest

  in_leaves : v.leaves ≡ pairs_of a.arena a.arena.leaves
  in_leaves = ap (λ (w : LeafList L). w.leaves) (sym is)

  pub in_ids : ids v.leaves ≡ a.arena.leaves
  in_ids = ap ids in_leaves ∙ ids-pairs a.arena a.arena.leaves in_live

  pub in_times : (id : ℕ) → times_leaf v.leaves id ≡ times a.arena.leaves id
  in_times id = ap (λ ps. times_leaf ps id) in_leaves ∙ times-pairs a.arena a.arena.leaves id in_live

  pub in_once : (id : ℕ) → times_leaf v.leaves id ≤ 1
  in_once id = omega (arith, in_times id, in_forest.leaf_once id, count_some_le (leaf_value a.arena id))

  pub in_leaf : (id : ℕ) → IsLeafIn v.leaves id → IsSome (leaf_value a.arena id)
  in_leaf id h = in_live id (omega (arith, h, in_times id))

  pub in_place : (at : Option ℕ) → IsPlaceIn v.leaves at → IsPlace a.arena at
  in_place None h = tt
  in_place (Some id) h = in_leaf id h

  -- who is no leaf value's node is no leaf's node
  pub in_fresh : (id : ℕ) → leaf_value a.arena id ≡ None → times_leaf v.leaves id ≡ 0
  in_fresh id e = in_times id ∙ in_forest.leaf_once id ∙ ap count_some e

  pub in_value : (id : ℕ) → IsLeafIn v.leaves id → value_at v.leaves id ≡ leaf_value a.arena id
  in_value id h = ap (λ ps. value_at ps id) in_leaves ∙ value_at-pairs a.arena a.arena.leaves id in_live (omega (arith, h, in_times id))

  -- what holds of the value that callers see at a node holds of the leaf there
  pub in_value_and : (id : ℕ) (P : L → Type 0) → IsSomeAnd (value_at v.leaves id) P → IsSomeAnd (leaf_value a.arena id) P
  in_value_and id P h = subst (λ (o : Option L). IsSomeAnd o P) (in_value id (value_at_in v.leaves id P h)) h

  pub in_length : (measure : Measure L Summary) → length_by measure.leaf v.leaves ≡ total (length_of measure a.arena) a.arena.leaves
  in_length measure = ap (length_by measure.leaf) in_leaves ∙ length_by-pairs measure a.arena a.arena.leaves in_live

  pub in_position : (measure : Measure L Summary) (id : ℕ) → length_by measure.leaf (left_of v.leaves id) ≡ total (length_of measure a.arena) (numbers_before a.arena.leaves id)
  in_position measure id =
      ap (λ ps. length_by measure.leaf (left_of ps id)) in_leaves ∙ ap (length_by measure.leaf) (left_of-pairs a.arena a.arena.leaves id in_live)
      ∙ length_by-pairs measure a.arena (numbers_before a.arena.leaves id) (λ x m. in_live x (omega (arith, m, times-before_le a.arena.leaves id x)))

  -- as many leaves stand before a leaf as nodes before its node
  in_left : (id : ℕ) → length (left_of v.leaves id) ≡ length (numbers_before a.arena.leaves id)
  in_left id =
      ap (λ ps. length (left_of ps id)) in_leaves ∙ ap length (left_of-pairs a.arena a.arena.leaves id in_live)
      ∙ length-pairs a.arena (numbers_before a.arena.leaves id) (λ x m. in_live x (omega (arith, m, times-before_le a.arena.leaves id x)))

  -- one leaf stands before another as its node does
  pub in_before : (x y : ℕ) → nat_lt (length (left_of v.leaves x)) (length (left_of v.leaves y))
      ≡ nat_lt (length (numbers_before a.arena.leaves x)) (length (numbers_before a.arena.leaves y))
  in_before x y =
      ap (λ (n : ℕ). nat_lt n (length (left_of v.leaves y))) (in_left x) ∙ ap (λ (n : ℕ). nat_lt (length (numbers_before a.arena.leaves x)) n) (in_left y)

  pub in_found : (measure : Measure L Summary) (p x q : ℕ) → 1 ≤ p → seek (length_of measure a.arena) a.arena.leaves p ≡ Some (x, q)
      → place_by measure.leaf v.leaves p ≡ Some record { leaf = Some x; offset = q }
  in_found measure p x q h e =
      place_past_head measure.leaf v.leaves p h ∙ ap (λ ps. place_from measure.leaf ps p) in_leaves ∙ place_from-pairs measure a.arena a.arena.leaves p in_live
      ∙ ap to_found e ∙ to_found_some x q

  pub in_depth : 4 ^ v.depth ≤ length v.leaves + 1
  in_depth = omega (arith, rooted_depth a.arena a.root in_sound.rooted, ap (λ (w : LeafList L). 4 ^ w.depth) is, ap length in_leaves, length-pairs a.arena a.arena.leaves in_live)

  pub in_few : length_by size v.leaves < 2 ^ 64
  in_few = omega (arith, in_length (by_size size), in_sound.fits)

  pub in_put : (new : Forest L (Headed Summary)) (at : Option ℕ) (id : ℕ) (leaf : L) → InsertsLeaf a.arena new id leaf (λ xs. put_after xs at id)
      → pairs_of new new.leaves ≡ put_leaf v.leaves at (id, leaf)
  in_put new at id leaf i =
      let none : times a.arena.leaves id ≡ 0 = in_forest.leaf_once id ∙ ap count_some i.fresh in
      ap (pairs_of new) i.leaves ∙ pairs-put a.arena new a.arena.leaves at id leaf in_live (λ x m. i.others x (λ e. omega (arith, m, none, ap (times a.arena.leaves) e)))
      i.value ∙ ap (λ (ps : List (ℕ × L)). put_leaf ps at (id, leaf)) (sym in_leaves)

  pub in_split : (front rear : L → L) (new : Forest L (Headed Summary)) (leaf id : ℕ) → SplitsLeaf front rear a.arena new leaf id
      → pairs_of new new.leaves ≡ split_leaf front rear v.leaves leaf id
  in_split front rear new leaf id i =
      let none : times a.arena.leaves id ≡ 0 = in_forest.leaf_once id ∙ ap count_some i.fresh in
      ap (pairs_of new) i.leaves ∙ pairs-split front rear a.arena new a.arena.leaves leaf id i.whole in_live i.was i.now i.value
      (λ x m d. i.others x d (λ e. omega (arith, m, none, ap (times a.arena.leaves) e)))
      ∙ ap (λ (ps : List (ℕ × L)). split_leaf front rear ps leaf id) (sym in_leaves)

  pub in_change : (f : L → L) (new : Forest L (Headed Summary)) (leaf : ℕ) → ChangesLeaf f a.arena new leaf
      → pairs_of new new.leaves ≡ change_leaf f v.leaves leaf
  in_change f new leaf i =
      ap (pairs_of new) i.leaves ∙ pairs-change f a.arena new a.arena.leaves leaf i.was in_live i.old_value i.new_value i.others
      ∙ ap (λ (ps : List (ℕ × L)). change_leaf f ps leaf) (sym in_leaves)

  pub in_some : All (λ x. 1 ≤ size x.1) v.leaves
  in_some = subst (λ (ps : List (ℕ × L)). All (λ x. 1 ≤ size x.1) ps) (sym in_leaves) (all_filled size a.arena a.arena.leaves in_sound.filled)

  pub in_take : (new : Forest L (Headed Summary)) (leaf : ℕ) (value : L) → TakesLeaf a.arena new leaf value
      → pairs_of new new.leaves ≡ without_leaf v.leaves leaf
  in_take new leaf value i = ap (pairs_of new) i.leaves ∙ pairs-without a.arena new a.arena.leaves leaf in_live (λ x m d. i.others x d)
      ∙ ap (λ (ps : List (ℕ × L)). without_leaf ps leaf) (sym in_leaves)

  pub in_move : (new : Forest L (Headed Summary)) (leaf : ℕ) (at : Option ℕ) → IsLeafIn v.leaves leaf → MovesLeaf a.arena new leaf at
      → pairs_of new new.leaves ≡ move_leaf v.leaves leaf at (value_at v.leaves leaf)
  in_move new leaf at there i =
      let w = some_of (leaf_value a.arena leaf) (in_leaf leaf there) in
      let now : value_at v.leaves leaf ≡ Some w.0 = in_value leaf there ∙ w.1 in
      let all : AllLeaves new (without a.arena.leaves leaf) =
      λ x m. subst (λ (o : Option L). IsSome o) (sym (i.values x)) (in_live x (omega (arith, m, times-without_le a.arena.leaves leaf x))) in
      ap (pairs_of new) i.leaves ∙ pairs-put new new (without a.arena.leaves leaf) at leaf w.0 all (λ x m. refl) (i.values leaf ∙ w.1)
      ∙ ap (λ (ps : List (ℕ × L)). put_leaf ps at (leaf, w.0)) (pairs-without a.arena new a.arena.leaves leaf in_live (λ x m d. i.values x)
      ∙ ap (λ (ps : List (ℕ × L)). without_leaf ps leaf) (sym in_leaves)) ∙ sym (ap (move_leaf v.leaves leaf at) now)
