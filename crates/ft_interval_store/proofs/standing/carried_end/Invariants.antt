use Rattle.std.proofs.Common.{◌≡◌, ◌≤◌, ◌-◌, ℕ, Option}
use Rattle.ft_interval_store.specs.Shown.{carried_end}
use Rattle.ft_interval_store.specs.Standing.{IsOnTree, StandsAt}
use Rattle.ft_interval_store.specs.State.{text_elements}
use Rattle.ft_interval_store.proofs.standing.carried_end.Given as goal

-- the element is that of an end at the present stage, from which it comes to the same place in the end
abbrev pub invariant-loop-k : goal.invariant-loop-k
invariant-loop-k l =
    let xs = text_elements l.tree in
    record {
      upto : l.stage ≤ l.to;
      on_leaf : IsOnTree l.tree l.place;
      was : (end : Option ℕ) → StandsAt l.tree l.from end l.fn.at
          → (now : Option ℕ) × StandsAt l.tree l.stage now l.place × (carried_end xs l.stage (l.to - l.stage) now ≡ carried_end xs l.from (l.to - l.from) end);
    }

abbrev pub decreases-loop-k : goal.decreases-loop-k
decreases-loop-k l = l.to - l.stage
