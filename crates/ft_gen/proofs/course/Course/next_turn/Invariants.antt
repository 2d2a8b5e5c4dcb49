use Rattle.std.proofs.Common.{◌≡◌, ◌+◌, ◌≤◌}
use Rattle.ft_gen.specs.Rounds.{from}
use Rattle.ft_gen.specs.Course.{IsBeforeTurn, turns_on}
use Rattle.ft_gen.proofs.course.Course.next_turn.Given as goal

-- the clients so far make no edits
abbrev pub invariant-loop-client : goal.invariant-loop-client
invariant-loop-client l = record {
  within : l.client ≤ l.self.clients + 1;
  numbers : IsBeforeTurn l.self.round l.roles l.agreed l.client l.progress;
  told : turns_on l.self.clients l.self.round l.roles l.agreed (from l.self.clients l.first) l.self.progress ≡ turns_on l.self.clients l.self.round l.roles l.agreed (from l.self.clients l.client) l.progress;
}
