use Rattle.std.proofs.Common.{◌≡◌, ◌≤◌, ◌++◌, drop}
use Rattle.ft_msg.specs.Content.{markers_from, stage_view}
use Rattle.ft_plain_lists.proofs.shown.shown_markers.Given as goal

-- the markers so far, and those of the rest of the elements, are all
abbrev pub invariant-loop-e : goal.invariant-loop-e
invariant-loop-e l = record {
  counted : l.place ≤ l.e-index;
  all : l.markers ++ markers_from l.place (stage_view l.stage (drop l.e-index l.items)) ≡ markers_from 0 (stage_view l.stage l.items);
}
