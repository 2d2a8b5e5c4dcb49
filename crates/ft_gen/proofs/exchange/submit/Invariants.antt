use Rattle.std.proofs.Common.{◌≡◌, ◌+◌, ◌≤◌}
use Rattle.ft_gen.specs.Rounds.{from, others}
use Rattle.ft_gen.proofs.exchange.submit.Given as goal

-- the clients so far are dropped
abbrev pub invariant-loop-client : goal.invariant-loop-client
invariant-loop-client l = record {
  within : l.client ≤ l.clients + 1;
  skipped : others l.dropped (from l.clients l.fn.first) ≡ others l.dropped (from l.clients l.client);
}
