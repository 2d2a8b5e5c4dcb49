use Rattle.std.proofs.Common.{◌≡◌, ◌≤◌, [], drop}
use Rattle.ft_sumdoc.specs.WellFormed.{same_props}
use Rattle.ft_changes.specs.Shown.{shown_properties}
use Rattle.ft_changes.proofs.RunsInOrder.{changed_places, with_all_changed}
use Rattle.ft_plain_lists.proofs.changes.changed_runs.Given as goal

-- the runs so far, with the places of the rest behind them, are those of all places
abbrev pub invariant-loop-e : goal.invariant-loop-e
invariant-loop-e g l =
    let seen = g.S.ElementTest.test l.seen in
    let shown = g.T.ElementTest.test l.shown in
    let places = changed_places same_props shown_properties (g.M.ElementMark.marked l.mark) in
    record {
      counted : l.place ≤ l.e-index;
      before : l.count ≤ l.e-index;
      all : with_all_changed same_props l.runs.items (places l.place l.count seen shown l.p l.q (drop l.e-index l.items)) ≡ with_all_changed same_props [] (places 0 0 seen shown l.p l.q l.items);
    }
