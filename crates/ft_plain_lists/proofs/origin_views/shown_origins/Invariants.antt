use Rattle.std.proofs.Common.{◌≡◌, ◌≤◌, ◌++◌, drop, length, map}
use Rattle.ft_msg.specs.Blame.{origin_of}
use Rattle.ft_msg.specs.Content.{stage_view}
use Rattle.ft_plain_lists.proofs.origin_views.shown_origins.Given as goal

-- the origins so far, and those of the rest of the elements, are all
abbrev pub invariant-loop-e : goal.invariant-loop-e
invariant-loop-e l = record {
  counted : length l.origins ≤ l.e-index;
  all : l.origins ++ map (λ e. origin_of e.by) (stage_view l.stage (drop l.e-index l.items)) ≡ map (λ e. origin_of e.by) (stage_view l.stage l.items);
}
