-- A leaf that moves takes its elements along: each keeps its node and its place in the leaf.
use Rattle.std.proofs.Common.{◌≡◌, ℕ, ◌+◌, ◌-◌, ◌<◌, ◌≤◌, Bool, true, false, cond, ◌&&◌, nat_le, nat_lt, List, [], ◌∷◌, ◌++◌, Option, Some, None}
use Rattle.std.proofs.Common.{length, refl, sym, ◌∙◌, ap, arith}
use Rattle.std.proofs.lemmas.Bool.Decides.{nat_tests}
use Rattle.std.specs.Option.{option_and_then, option_map}
use Rattle.ft_arena.specs.Ids.{after}
use Rattle.ft_base.specs.declared.stamps.Stamp.{Stamp}
use Rattle.ft_block.specs.Leaves.{IsLeafIn, IsPlaceIn, ids, left_of, length_by, move_leaf, times_leaf, value_at, without_leaf}
use Rattle.ft_tree_blocks.specs.Walks.{from_place, node_behind}
use Rattle.ft_tree_blocks.proofs.WalkEdits.{put-behind}
use Rattle.ft_tree_blocks.proofs.Walks.{stands, up_to-from}
use Rattle.ft_tree_leaves.specs.declared.references.Reference.{Reference}
use Rattle.ft_tree_leaves.specs.LeafLists.{elements}
use Rattle.ft_tree_leaves.specs.References.{ChangesReferences, reference_at}
use Rattle.ft_tree_leaves.proofs.LeafEdits.{times-without-one}
use Rattle.ft_tree_leaves.proofs.LeafRuns.{length-elements}
use Rattle.ft_tree_leaves.proofs.Standing.{at-value}
use Rattle.ft_tree.specs.State.{KeepsRest, TreeState}
use Rattle.ft_tree_leaves.specs.declared.leaves.TreeLeaf.{TreeLeaf}
use Rattle.ft_tree_leaves.specs.Edits.{leaf_at, moved_by, moved_place, up_to_place, with_place}
use Rattle.ft_tree_leaves.specs.Places.{shifted_place}
use Rattle.ft_rebase.specs.Spots.{KeepsSpots, spot_at}
use Rattle.ft_rebase.proofs.MovedBlocks.{own-node, without-append, without-gone}

module _ {C U : Type 0} (units : C → List U) where
  abbrev Leaves : Type 0
  Leaves = List (ℕ × TreeLeaf C)

  -- how many elements are in the leaves
  abbrev pub total : Leaves → ℕ
  total xs = length_by (λ x. length (units x.content)) xs

  spot-front : (xs ys : Leaves) (j : ℕ) → j < total xs → spot_at units (xs ++ ys) j ≡ spot_at units xs j
  spot-front [] ys j h = absurd (omega arith)
  spot-front (x ∷ xs) ys j h = step (nat_lt j (length (units x.1.content))) refl (spot-front xs ys (j - length (units x.1.content)))
    where
      s : ℕ
      s = length (units x.1.content)

      step : (b : Bool) → nat_lt j (length (units x.1.content)) ≡ b
          → (j - length (units x.1.content) < total xs
          → spot_at units (xs ++ ys) (j - length (units x.1.content)) ≡ spot_at units xs (j - length (units x.1.content)))
          → cond b (Some (x.0, j)) (spot_at units (xs ++ ys) (j - length (units x.1.content)))
          ≡ cond b (Some (x.0, j)) (spot_at units xs (j - length (units x.1.content)))
      step true e ih = refl
      step false e ih = let past : length (units x.1.content) ≤ j = grind (arith, nat_tests) in ih (omega (arith, past, h))

  spot-rear : (xs ys : Leaves) (j : ℕ) → total xs ≤ j → spot_at units (xs ++ ys) j ≡ spot_at units ys (j - total xs)
  spot-rear [] ys j h = ap (spot_at units ys) (omega arith)
  spot-rear (x ∷ xs) ys j h = step (nat_lt j (length (units x.1.content))) refl (spot-rear xs ys (j - length (units x.1.content)))
    where
      same : j - length (units x.1.content) - total xs ≡ j - (length (units x.1.content) + total xs)
      same = omega arith

      step : (b : Bool) → nat_lt j (length (units x.1.content)) ≡ b
          → (total xs ≤ j - length (units x.1.content)
          → spot_at units (xs ++ ys) (j - length (units x.1.content)) ≡ spot_at units ys (j - length (units x.1.content) - total xs))
          → cond b (Some (x.0, j)) (spot_at units (xs ++ ys) (j - length (units x.1.content)))
          ≡ spot_at units ys (j - (length (units x.1.content) + total xs))
      step true e ih = absurd (let low : j < length (units x.1.content) = grind (arith, nat_tests) in omega (arith, low, h))
      step false e ih = ih (omega (arith, h)) ∙ ap (spot_at units ys) same

  spot-behind : (x : ℕ × TreeLeaf C) (xs : Leaves) (j : ℕ) → length (units x.1.content) ≤ j
      → spot_at units (x ∷ xs) j ≡ spot_at units xs (j - length (units x.1.content))
  spot-behind x xs j h =
      let past : nat_lt j (length (units x.1.content)) ≡ false = grind (arith, nat_tests) in
      ap (λ b. cond b (Some (x.0, j)) (spot_at units xs (j - length (units x.1.content)))) past

  -- a leaf more
  spot-shifted : (ps qs : Leaves) (x : ℕ × TreeLeaf C) (c : ℕ)
      → spot_at units (ps ++ x ∷ qs) (shifted_place (total ps) (length (units x.1.content)) c) ≡ spot_at units (ps ++ qs) c
  spot-shifted ps qs x c = step (nat_le (total ps) c) refl
    where
      step : (b : Bool) → nat_le (total ps) c ≡ b
          → spot_at units (ps ++ x ∷ qs) (cond b (c + length (units x.1.content)) c) ≡ spot_at units (ps ++ qs) c
      step true e =
          let n = length (units x.1.content) in
          let low : total ps ≤ c = grind (arith, nat_tests) in
          let place : c + n - total ps - n ≡ c - total ps = omega (arith, low) in
          spot-rear ps (x ∷ qs) (c + n) (omega (arith, low))
          ∙ spot-behind x qs (c + n - total ps) (omega (arith, low))
          ∙ ap (spot_at units qs) place
          ∙ sym (spot-rear ps qs c low)
      step false e =
          let high : c < total ps = grind (arith, nat_tests) in
          spot-front ps (x ∷ qs) c high ∙ sym (spot-front ps qs c high)

  spot-first : (x : ℕ × TreeLeaf C) (xs : Leaves) (j : ℕ) → j < length (units x.1.content) → spot_at units (x ∷ xs) j ≡ Some (x.0, j)
  spot-first x xs j h =
      let low : nat_lt j (length (units x.1.content)) ≡ true = grind (arith, nat_tests) in
      ap (λ b. cond b (Some (x.0, j)) (spot_at units xs (j - length (units x.1.content)))) low

  -- the leaf x moves from behind `ls` to behind `ps`
  pub spot-moved : (ls rs ps qs : Leaves) (x : ℕ × TreeLeaf C) (j : ℕ) → ls ++ rs ≡ ps ++ qs
      → spot_at units (ps ++ x ∷ qs) (moved_place (total ls) (length (units x.1.content)) (total ps) j) ≡ spot_at units (ls ++ x ∷ rs) j
  spot-moved ls rs ps qs x j same =
      step (nat_le (total ls) j) (nat_lt j (total ls + length (units x.1.content))) (nat_lt j (total ls)) refl refl refl
    where
      step : (a b c : Bool) → nat_le (total ls) j ≡ a → nat_lt j (total ls + length (units x.1.content)) ≡ b → nat_lt j (total ls) ≡ c
          → spot_at units (ps ++ x ∷ qs)
          (cond (a && b) (total ps + (j - total ls))
          (shifted_place (total ps) (length (units x.1.content)) (cond c j (j - length (units x.1.content)))))
          ≡ spot_at units (ls ++ x ∷ rs) j
      step true true c e f g =
          let low : total ls ≤ j = grind (arith, nat_tests) in
          let high : j < total ls + length (units x.1.content) = grind (arith, nat_tests) in
          let place : total ps + (j - total ls) - total ps ≡ j - total ls = omega arith in
          spot-rear ps (x ∷ qs) (total ps + (j - total ls)) (omega arith)
          ∙ ap (spot_at units (x ∷ qs)) place
          ∙ spot-first x qs (j - total ls) (omega (arith, low, high))
          ∙ sym (spot-rear ls (x ∷ rs) j low ∙ spot-first x rs (j - total ls) (omega (arith, low, high)))
      step true false true e f g =
          let low : total ls ≤ j = grind (arith, nat_tests) in
          absurd (let high : j < total ls = grind (arith, nat_tests) in omega (arith, low, high))
      step true false false e f g =
          let n = length (units x.1.content) in
          let past : total ls + n ≤ j = grind (arith, nat_tests) in
          let place : j - n - total ls ≡ j - total ls - n = omega arith in
          spot-shifted ps qs x (j - n)
          ∙ ap (λ ys. spot_at units ys (j - n)) (sym same)
          ∙ spot-rear ls rs (j - n) (omega (arith, past))
          ∙ ap (spot_at units rs) place
          ∙ sym (spot-rear ls (x ∷ rs) j (omega (arith, past)) ∙ spot-behind x rs (j - total ls) (omega (arith, past)))
      step false b true e f g =
          let low : j < total ls = grind (arith, nat_tests) in
          spot-shifted ps qs x j
          ∙ ap (λ ys. spot_at units ys j) (sym same)
          ∙ spot-front ls rs j low
          ∙ sym (spot-front ls (x ∷ rs) j low)
      step false b false e f g =
          let low : j < total ls = grind (arith, nat_tests) in
          absurd (let high : total ls ≤ j = grind (arith, nat_tests) in omega (arith, low, high))

  module _ (by : C → Option Stamp) where
    -- a move of a tree keeps the node and the place in the leaf of each element
    pub spot_kept : (xs : Leaves) (id : ℕ) (at : Option ℕ) (v : TreeLeaf C) → ((i : ℕ) → times_leaf xs i ≤ 1) → IsLeafIn xs id
        → value_at xs id ≡ Some v → IsPlaceIn (without_leaf xs id) at → (j : ℕ)
        → spot_at units (move_leaf xs id at (value_at xs id)) (moved_by units by xs id at j) ≡ spot_at units xs j
    spot_kept xs id at v once live e place j =
        let w = without_leaf xs id in
        let ls = left_of xs id in
        let rs = from_place xs (after (ids xs) id) in
        let ps = up_to_place w at in
        let qs = from_place w (node_behind w at) in
        let s = stands xs id v once e in
        let one : times_leaf xs id ≡ 1 = omega (arith, live, once id) in
        let once_w : (i : ℕ) → times_leaf w i ≤ 1 = λ i. omega (arith, times-without-one xs id i one, once i) in
        let gone : w ≡ ls ++ rs = ap (λ ys. without_leaf ys id) s.whole ∙ without-append id ls ((id, v) ∷ rs) s.left
        ∙ ap (λ ys. ls ++ ys) (ap (λ b. cond b (without_leaf rs id) ((id, v) ∷ without_leaf rs id)) (own-node (id, v))
        ∙ without-gone rs id s.right) in
        let moved : move_leaf xs id at (value_at xs id) ≡ ps ++ (id, v) ∷ qs = ap (move_leaf xs id at) e
        ∙ put-behind w at (id, v) once_w place in
        let left : length (elements units by ls) ≡ total ls = length-elements units by ls in
        let own : length (elements units by (leaf_at xs id)) ≡ length (units v.content) =
        ap (λ ys. length (elements units by ys)) (at-value xs id v (once id) e) ∙ length-elements units by ((id, v) ∷ []) ∙ omega arith in
        let front : length (elements units by ps) ≡ total ps = length-elements units by ps in
        ap (λ ys. spot_at units ys (moved_by units by xs id at j)) moved
        ∙ ap (λ i. spot_at units (ps ++ (id, v) ∷ qs) (moved_place i (length (elements units by (leaf_at xs id)))
        (length (elements units by ps)) j)) left
        ∙ ap (λ n. spot_at units (ps ++ (id, v) ∷ qs) (moved_place (total ls) n (length (elements units by ps)) j)) own
        ∙ ap (λ d. spot_at units (ps ++ (id, v) ∷ qs) (moved_place (total ls) (length (units v.content)) d j)) front
        ∙ spot-moved ls rs ps qs (id, v) j (sym gone ∙ sym (up_to-from w at once_w place))
        ∙ ap (λ ys. spot_at units ys j) (sym s.whole)

    pub keeps_spots : (old new : TreeState C) (id : ℕ) (at : Option ℕ) (v : TreeLeaf C) → ((i : ℕ) → times_leaf old.leaves i ≤ 1)
        → IsLeafIn old.leaves id → value_at old.leaves id ≡ Some v → IsPlaceIn (without_leaf old.leaves id) at
        → new.leaves ≡ move_leaf old.leaves id at (value_at old.leaves id)
        → ChangesReferences (with_place (moved_by units by old.leaves id at)) old.refs new.refs → KeepsSpots units old new
    keeps_spots old new id at v once live e place moved refs = record {
      spots = λ r.
          ap (λ o. option_and_then (spot_at units new.leaves) (option_and_then (λ x. x.place) o)) (refs r)
          ∙ ap (λ ys. option_and_then (spot_at units ys) (option_and_then (λ x. x.place)
          (option_map (with_place f) (reference_at old.refs r)))) moved
          ∙ one (reference_at old.refs r);
      acked = λ r. ap (option_map (λ x. x.acked)) (refs r) ∙ same (reference_at old.refs r);
    }
      where
        f : ℕ → ℕ
        f = moved_by units by old.leaves id at

        one : (o : Option Reference)
            → option_and_then (spot_at units (move_leaf old.leaves id at (value_at old.leaves id)))
            (option_and_then (λ x. x.place) (option_map (with_place (moved_by units by old.leaves id at)) o))
            ≡ option_and_then (spot_at units old.leaves) (option_and_then (λ x. x.place) o)
        one None = refl
        one (Some x) = placed x.place
          where
            placed : (p : Option ℕ)
                → option_and_then (spot_at units (move_leaf old.leaves id at (value_at old.leaves id)))
                (option_map (moved_by units by old.leaves id at) p)
                ≡ option_and_then (spot_at units old.leaves) p
            placed None = refl
            placed (Some j) = spot_kept old.leaves id at v once live e place j

        same : (o : Option Reference) → option_map (λ x. x.acked) (option_map (with_place (moved_by units by old.leaves id at)) o)
            ≡ option_map (λ x. x.acked) o
        same None = refl
        same (Some x) = refl

-- one after another
pub spots_same : {C U : Type 0} {units : C → List U} (tree : TreeState C) → KeepsSpots units tree tree
spots_same tree = record { spots = λ r. refl; acked = λ r. refl }

pub spots_more : {C U : Type 0} {units : C → List U} {old mid new : TreeState C} → KeepsSpots units old mid → KeepsSpots units mid new
    → KeepsSpots units old new
spots_more a b = record { spots = λ r. b.spots r ∙ a.spots r; acked = λ r. b.acked r ∙ a.acked r }

pub rest_same : {C : Type 0} (tree : TreeState C) → KeepsRest tree tree
rest_same tree = record { floor = refl; sweep = refl; usable = refl }

pub rest_more : {C : Type 0} {old mid new : TreeState C} → KeepsRest old mid → KeepsRest mid new → KeepsRest old new
rest_more a b = record { floor = b.floor ∙ a.floor; sweep = b.sweep ∙ a.sweep; usable = b.usable ∙ a.usable }
