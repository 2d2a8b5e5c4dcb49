-- The texts of the first messages.
use Rattle.std.proofs.Common.{◌≡◌, map, take}
use Rattle.serde_json.specs.Written.{compact_text}
use Rattle.ft_msg.specs.Written.{written_draft}
use Rattle.ft_session.proofs.asked.queue_texts.Given as goal

abbrev pub invariant-loop-i : goal.invariant-loop-i
invariant-loop-i g l = l.values ≡ map compact_text (map written_draft (take l.i (g.R.Replica.state l.replica).client.queue))
