use Rattle.std.proofs.Common.{◌≡◌, ◌++◌, IfOk, subst, sym}
use Rattle.ft_string.specs.Holds.{HoldsText}
use Rattle.ft_string.proofs.ShownOrigins.{origins-alike}
use Rattle.ft_string.proofs.strings.SharedString.attribution.Goals as goal

pub returns : goal.returns
returns c last doc stages sound holds =
    let a = c.self.inside in
    subst (λ os. IfOk c.origins_of.result (λ origins. origins ≡ os))
    (origins-alike a.tree a.intervals.state (a.again.items ++ a.ops.items) a.given last a.usable doc stages sound (subst (λ s. HoldsText s doc stages) (sym c.self.view_is) holds))
    c.origins_of.ensures
