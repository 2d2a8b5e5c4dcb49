use Rattle.std.proofs.Common.{◌≡◌, ◌∙◌, List, Global, ap, subst, sym}
use Rattle.std.specs.declared.vec.Vec.{Vec}
use Rattle.std.proofs.lemmas.Result.{IfOk-weaker}
use Rattle.ft_attrib.specs.declared.attribution.Origin.{Origin}
use Rattle.ft_attrib.specs.declared.attribution.Total.{Total}
use Rattle.ft_attrib.specs.Totals.{AreTotals, totals}
use Rattle.ft_attrib.specs.Pieces.{spread}
use Rattle.ft_attrib.proofs.Counts.{are_totals}
use Rattle.ft_attrib.proofs.attribution.Attribution.totals.Goals as goal

counted : (os : List Origin) (ts : List Total) → ts ≡ totals os → AreTotals os ts
counted os ts e = subst (AreTotals os) (sym e) (are_totals os)

pub returns-clause-counts : goal.returns-clause-counts
returns-clause-counts c =
    let same : spread 0 c.as_slice.result.now ≡ c.args.self.now = ap (spread 0) c.as_slice.ensures.value ∙ c.self.view_is in
    let exact = rw same at c.totals_of.ensures in
    IfOk-weaker _ _ _ (λ (v : Vec Total Global) e. counted c.args.self.now v.items e) exact
