use Rattle.std.proofs.Common.{chars, length}
use denote.Text.{Utf8}
use denote.Shadow.{shadow}
use Rattle.ft_text.specs.Contents.{contents_in}
use Rattle.ft_text.proofs.RunsSoFar.{RunsSoFar}
use Rattle.ft_text.proofs.contents.runs_of.Given as goal

-- the runs so far and the characters ahead are all
abbrev pub invariant-loop-rest : goal.invariant-loop-rest
invariant-loop-rest l = shadow (Utf8 l.rest) × RunsSoFar (chars l.text) (contents_in l.contents) (chars l.rest)

abbrev pub decreases-loop-rest : goal.decreases-loop-rest
decreases-loop-rest l = length (chars l.rest)
