use Rattle.std.proofs.Common.{◌≡◌, ◌∙◌, Ok, ap, map}
use Rattle.std.proofs.lemmas.Result.{IfOk-at_ok, IfOk-weaker}
use Rattle.ft_marks.specs.Marks.{mark_of}
use Rattle.ft_plain_summary.proofs.segments.marks_beside.Goals as goal

pub returns-clause-dels : goal.returns-clause-dels
returns-clause-dels c =
    IfOk-weaker c.beside.result (λ pair. c.marks_of.result ≡ Ok pair.0) (λ pair. pair.0 ≡ map mark_of c.args.e.now.dels)
    (λ pair made. IfOk-at_ok (λ ms. ms ≡ map mark_of c.dels.result.now) made c.marks_of.ensures ∙ ap (map mark_of) c.dels.ensures)
    c.beside.ensures.made
