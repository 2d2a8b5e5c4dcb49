use Rattle.std.proofs.Common.{◌≡◌, ◌≢◌, ◌+◌, ◌++◌, ℕ, take, drop, None}
use Rattle.ft_arena.specs.Forest.{IsForest, kids_of, leaf_value, block_value, parent_of}
use Rattle.ft_shape.proofs.children.move_half.Given as goal

abbrev pub invariant-loop-k : goal.invariant-loop-k
invariant-loop-k g l =
    record {
      leaves : l.arena.leaves ≡ l.initial.arena.leaves;
      forest : IsForest l.arena;
      spare : l.arena.spare ≡ l.initial.arena.spare;
      leaf_values : (x : ℕ) → leaf_value l.arena x ≡ leaf_value l.initial.arena x;
      block_values : (x : ℕ) → block_value l.arena x ≡ block_value l.initial.arena x;
      front : kids_of l.arena l.block ≡ take 4 (kids_of l.initial.arena l.block) ++ drop (4 + l.k) (kids_of l.initial.arena l.block);
      back : kids_of l.arena l.rear ≡ take l.k (drop 4 (kids_of l.initial.arena l.block));
      other_kids : (x : ℕ) → x ≢ l.block → x ≢ l.rear → kids_of l.arena x ≡ kids_of l.initial.arena x;
      other_parents : (x : ℕ) → parent_of l.initial.arena x ≡ None → parent_of l.arena x ≡ None;
    }
