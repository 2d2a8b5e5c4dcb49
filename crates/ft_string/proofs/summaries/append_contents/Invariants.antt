use Rattle.ft_string.proofs.Appended.{AppendsSoFar}
use Rattle.ft_string.proofs.summaries.append_contents.Given as goal

-- the contents that were gone over stand at the end
abbrev pub invariant-loop-content : goal.invariant-loop-content
invariant-loop-content l = AppendsSoFar l.seg l.fn.contents.items l.yielded l.content-iterator.rest.items l.fn.tree l.tree
