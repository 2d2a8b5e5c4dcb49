use Rattle.std.proofs.lemmas.Bool.Decides.{same_from_decides}
use Rattle.ft_seqr.specs.SameMessage.{same_message}
use Rattle.ft_seqr.proofs.SameMessages.{same_message-Decides}
use Rattle.ft_seqr.proofs.same_message.same_message.Goals as goal

pub returns : goal.returns
returns c = same_from_decides _ (same_message c.args.a.now c.args.b.now) c.same.ensures (same_message-Decides c.args.a.now c.args.b.now)
