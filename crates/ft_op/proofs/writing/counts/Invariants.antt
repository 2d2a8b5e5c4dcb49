use Rattle.std.proofs.Common.{◌≡◌, map, drop}
use Rattle.serde_json.specs.Data.{no_members}
use Rattle.serde_json.specs.View.{members_view}
use Rattle.ft_op.specs.Written.{put_counts}
use Rattle.ft_op.proofs.writing.counts.Given as goal

-- what was put, then the rest, is what all give
abbrev pub invariant-loop-key : goal.invariant-loop-key
invariant-loop-key l = put_counts (map (λ c. (c.0.now, c.1)) (drop l.key-index l.given)) (members_view l.members.entries)
    ≡ put_counts (map (λ c. (c.0.now, c.1)) l.given) no_members
