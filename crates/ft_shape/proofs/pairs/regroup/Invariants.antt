use Rattle.std.proofs.Common.{◌≡◌, ◌≢◌, ◌≤◌, ◌-◌, ◌++◌, ℕ, length}
use Rattle.ft_arena.specs.Forest.{IsForest, kids_of, leaf_value, block_value}
use Rattle.ft_shape.proofs.pairs.regroup.Given as goal

abbrev pub invariant-fill : goal.invariant-fill
invariant-fill g l =
    record {
      leaves : l.arena.leaves ≡ l.initial.arena.leaves;
      forest : IsForest l.arena;
      leaf_values : (x : ℕ) → leaf_value l.arena x ≡ leaf_value l.initial.arena x;
      block_values : (x : ℕ) → block_value l.arena x ≡ block_value l.initial.arena x;
      joined : kids_of l.arena l.front ++ kids_of l.arena l.rear ≡ kids_of l.initial.arena l.front ++ kids_of l.initial.arena l.rear;
      count : l.count ≡ length (kids_of l.arena l.front);
      other_kids : (x : ℕ) → x ≢ l.front → x ≢ l.rear → kids_of l.arena x ≡ kids_of l.initial.arena x;
    }

abbrev pub decreases-fill : goal.decreases-fill
decreases-fill g l = l.want - l.count

abbrev pub invariant-spill : goal.invariant-spill
invariant-spill g l =
    record {
      leaves : l.arena.leaves ≡ l.initial.arena.leaves;
      forest : IsForest l.arena;
      leaf_values : (x : ℕ) → leaf_value l.arena x ≡ leaf_value l.initial.arena x;
      block_values : (x : ℕ) → block_value l.arena x ≡ block_value l.initial.arena x;
      joined : kids_of l.arena l.front ++ kids_of l.arena l.rear ≡ kids_of l.initial.arena l.front ++ kids_of l.initial.arena l.rear;
      count : l.count ≡ length (kids_of l.arena l.front);
      other_kids : (x : ℕ) → x ≢ l.front → x ≢ l.rear → kids_of l.arena x ≡ kids_of l.initial.arena x;
      enough : l.want ≤ l.count;
    }

abbrev pub decreases-spill : goal.decreases-spill
decreases-spill g l = l.count - l.want
