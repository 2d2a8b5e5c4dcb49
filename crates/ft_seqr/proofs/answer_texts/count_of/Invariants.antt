use Rattle.std.proofs.Common.{◌≡◌, drop}
use Rattle.ft_attrib.specs.Totals.{count_of}
use Rattle.ft_seqr.proofs.answer_texts.count_of.Given as goal

-- the count in the rest is that in all
abbrev pub invariant-loop-total : goal.invariant-loop-total
invariant-loop-total l = count_of l.conn (drop l.total-index l.totals) ≡ count_of l.conn l.totals
