use Rattle.std.proofs.Common.{refl, subst, sym}
use Rattle.ft_plain.specs.Own.{HoldsExactly, PlainState}
use Rattle.ft_plain.proofs.PlainSteps.{any-ok, small-held}
use Rattle.ft_plain.proofs.own.PlainOwnOwnDocument.summary.Goals as goal

pub returns-clause-small : goal.returns-clause-small
returns-clause-small c = λ held named h.
    let i = c.self.inside in
    let d : PlainState = record { doc = i.doc; stages = i.stages } in
    any-ok c.summary_of.result (small-held d held (c.if-not-is_small.ensures refl) (subst (λ (d : PlainState). HoldsExactly d held) (sym c.self.view_is) h))
