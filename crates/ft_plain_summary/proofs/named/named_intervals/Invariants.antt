use Rattle.std.proofs.Common.{◌≡◌, ◌++◌, drop, map}
use Rattle.ft_plain_summary.specs.NamedPlaces.{named_interval}
use Rattle.ft_plain_summary.proofs.named.named_intervals.Given as goal

-- the intervals so far, and those of the rest, are all
abbrev pub invariant-loop-rec : goal.invariant-loop-rec
invariant-loop-rec l = l.intervals ++ map (named_interval l.names) (drop l.rec-index l.recs) ≡ map (named_interval l.names) l.recs
