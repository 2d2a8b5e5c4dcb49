use Rattle.std.proofs.Common.{◌≡◌, Ok, Result, ap}
use Rattle.ft_sumdoc.specs.declared.summary.SumDoc.{SumDoc}
use Rattle.ft_sumdoc.specs.declared.summary.SumFault.{SumFault}
use Rattle.ft_sumdoc.specs.Summary.{summary}
use Rattle.ft_sumdoc.proofs.ReadBack.{summary_back}
use Rattle.ft_sumdoc.proofs.laws.summaries_are_read_back.Goals as goal

pub returns-clause-read_back : goal.returns-clause-read_back
returns-clause-read_back c = λ sum r v w. summary_back sum (record { texts = r; valid = v; conns = w.conns }) w.text

same_summary : (a b : SumDoc) (r s : Result SumDoc SumFault) → r ≡ Ok a → s ≡ Ok b → r ≡ s → a ≡ b
same_summary a b r s h g e = cc

pub returns-clause-tell_apart : goal.returns-clause-tell_apart
returns-clause-tell_apart c = λ a b ra rb va vb wa wb same.
    same_summary a b _ _ (summary_back a (record { texts = ra; valid = va; conns = wa.conns }) wa.text) (summary_back b (record { texts = rb; valid = vb; conns = wb.conns }) wb.text) (ap summary same)
