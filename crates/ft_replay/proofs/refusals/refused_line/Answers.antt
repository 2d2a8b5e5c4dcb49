use Rattle.std.proofs.Common.{◌∙◌, append_assoc}
use Rattle.ft_seqr.specs.Refusals.{refused_line}
use Rattle.ft_replay.proofs.refusals.refused_line.Goals as goal

pub returns : goal.returns
unfolding refused_line
returns c = c.in_ok-text.ensures.ok ∙ rw c.number-number.ensures (simp append_assoc)
