use Rattle.std.proofs.Common.{◌≡◌, ◌-◌, ◌≤◌}
use Rattle.ft_gen.specs.Draws.{state_after}
use Rattle.ft_gen.proofs.draws.skip.Given as goal

-- the draws that are left lead to the same state
abbrev pub invariant-loop-i : goal.invariant-loop-i
invariant-loop-i l = record {
  within : l._i ≤ l.count;
  left : state_after (l.count - l._i) l.state ≡ state_after l.count l.fn.state;
}
