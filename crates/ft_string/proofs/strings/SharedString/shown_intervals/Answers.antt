use Rattle.std.proofs.Common.{◌++◌, ◌∙◌, subst, sym}
use Rattle.ft_string.specs.Holds.{HoldsText}
use Rattle.ft_string.proofs.CarriedIntervals.{intervals-alike}
use Rattle.ft_string.proofs.strings.SharedString.shown_intervals.Goals as goal

pub returns : goal.returns
returns c last doc stages sound holds =
    let a = c.self.inside in
    let here = subst (λ s. HoldsText s doc stages) (sym c.self.view_is) holds in
    c.of.ensures ∙ c.in_ok-all.ensures
    ∙ intervals-alike a.tree a.intervals.state (a.again.items ++ a.ops.items) a.given last a.usable doc stages sound here
    c.first_stage-first.ensures.names
    (c.made_in-made.ensures.few 18446744073709551615)
