use Rattle.std.proofs.Common.{◌≡◌, ◌≤◌, [], drop}
use Rattle.ft_changes.proofs.RunsInOrder.{gone_places, with_all_gone}
use Rattle.ft_plain_lists.proofs.changes.gone_runs.Given as goal

-- the runs so far, with the places of the rest behind them, are those of all places
abbrev pub invariant-loop-e : goal.invariant-loop-e
invariant-loop-e g l =
    let seen = g.S.ElementTest.test l.seen in
    let shown = g.T.ElementTest.test l.shown in
    record {
      counted : l.place ≤ l.e-index;
      kept : l.left ≤ l.e-index;
      all : with_all_gone l.runs.items (gone_places l.place l.left seen shown l.p l.q (drop l.e-index l.items)) ≡ with_all_gone [] (gone_places 0 0 seen shown l.p l.q l.items);
    }
