-- Two leaves side by side.
use Rattle.std.proofs.Common.{◌≡◌, ℕ, ◌≤◌, List, [], ◌∷◌, ◌++◌, Some, sym, ◌∙◌, ap, arith}
use Rattle.ft_arena.specs.Ids.{after}
use Rattle.ft_block.specs.Leaves.{ids, left_of, times_leaf, value_at}
use Rattle.ft_tree_blocks.specs.Walks.{before_place, from_place}
use Rattle.ft_tree_blocks.proofs.Walks.{before-after, stands}

module _ {L : Type 0} where
  -- two leaves stand side by side
  pub record Beside (xs : List (ℕ × L)) (id n : ℕ) (v w : L) : Type 0 where
    pub rest : List (ℕ × L)
    pub whole : xs ≡ left_of xs id ++ (id, v) ∷ (n, w) ∷ rest
    pub apart : times_leaf (left_of xs id) id ≡ 0
    pub once : times_leaf ((n, w) ∷ rest) id ≡ 0
    pub front : times_leaf (left_of xs id ++ (id, v) ∷ []) n ≡ 0
    pub behind : times_leaf rest n ≡ 0

  pub beside : (xs : List (ℕ × L)) (id n : ℕ) (v w : L) → ((i : ℕ) → times_leaf xs i ≤ 1) → value_at xs id ≡ Some v → after (ids xs) id ≡ Some n
      → value_at xs n ≡ Some w → Beside xs id n v w
  beside xs id n v w once e next d =
      let s = stands xs id v once e in
      let t = stands xs n w once d in
      let rest = from_place xs (after (ids xs) n) in
      let tail : from_place xs (after (ids xs) id) ≡ (n, w) ∷ rest = ap (from_place xs) next ∙ t.from in
      let left : left_of xs n ≡ left_of xs id ++ (id, v) ∷ [] = ap (before_place xs) (sym next) ∙ before-after xs id v s in
      record {
        rest = rest;
        whole = s.whole ∙ ap (λ zs. left_of xs id ++ (id, v) ∷ zs) tail;
        apart = s.left;
        once = omega (arith, ap (λ zs. times_leaf zs id) tail, s.right);
        front = omega (arith, ap (λ zs. times_leaf zs n) left, t.left);
        behind = t.right;
      }
