use Rattle.std.proofs.Common.{◌∙◌, ap, nat_eq, subst, sym}
use Rattle.std.specs.List.{list_any}
use Rattle.std.specs.List.Sorted.{IsNonDecreasingBy}
use Rattle.ft_replica.proofs.FoundNumbers.{found}
use Rattle.ft_replica.proofs.connections.Connections.has.Goals as goal

pub returns-then-self : goal.returns-then-self
returns-then-self c =
    c.is_ok.ensures.value
    ∙ found c.args.conn c.as_slice.result.now c.binary_search.result c.binary_search.ensures.position
    (subst (IsNonDecreasingBy (λ n. n)) (sym c.as_slice.ensures.value) (c.self.invariant.0 c.if-self.true))
    ∙ ap (list_any (nat_eq c.args.conn)) (c.as_slice.ensures.value ∙ c.self.view_is)
