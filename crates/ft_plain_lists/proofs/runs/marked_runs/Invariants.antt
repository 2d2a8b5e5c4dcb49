use Rattle.std.proofs.Common.{◌≡◌, ◌≤◌, [], drop}
use Rattle.ft_plain_lists.proofs.PlacedRuns.{marked_places, with_places}
use Rattle.ft_plain_lists.proofs.runs.marked_runs.Given as goal

-- the runs so far, with the places of the rest behind them, are those of all places
abbrev pub invariant-loop-e : goal.invariant-loop-e
invariant-loop-e g l =
    let seen = g.T.ElementTest.test l.seen in
    let marked = g.M.ElementTest.test l.marked in
    record {
      counted : l.place ≤ l.e-index;
      all : with_places l.runs.items (marked_places l.place seen marked (drop l.e-index l.items)) ≡ with_places [] (marked_places 0 seen marked l.items);
    }
