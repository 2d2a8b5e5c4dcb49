use Rattle.std.proofs.Common.{length}
use Rattle.ft_uses.proofs.server.Server.submit.Given as goal

-- how many drafts aren't sent yet
abbrev pub decreases-loop-draft : goal.decreases-loop-draft
decreases-loop-draft g l = length (g.R.Replica.state l.client).client.queue
