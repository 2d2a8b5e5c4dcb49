use Rattle.std.proofs.Common.{sym, ◌∙◌, ap, arith}
use Rattle.ft_interval_store.specs.Intervals.{place_of_operation}
use Rattle.ft_interval_store.specs.State.{ends_of_name}
use Rattle.ft_interval_store.proofs.OperationEnds.{operation-in_range, own-found, own-missing}
use Rattle.ft_interval_store.proofs.intervals.Intervals.find.Goals as goal

pub index-requires : goal.index-requires
index-requires g c =
    let op = c.args.op.now in
    let place = ap (place_of_operation op) c.self.view_is ∙ sym c.place_of.ensures ∙ c.in-Ok.is in
    omega (arith, operation-in_range op c.in-Ok.i c.self.inside.items place)

pub returns-in-Ok-clause-ends : goal.returns-in-Ok-clause-ends
returns-in-Ok-clause-ends g c = λ n on.
    let op = c.args.op.now in
    let items = c.self.inside.items in
    let place = ap (place_of_operation op) c.self.view_is ∙ sym c.place_of.ensures ∙ c.in-Ok.is in
    c.ends.ensures ∙ ap (λ x. x.ends) c.index.ensures ∙ own-found op c.in-Ok.i c.index.result.now items place n on ∙ ap (ends_of_name n) c.self.view_is

pub returns-in-Err-clause-ends : goal.returns-in-Err-clause-ends
returns-in-Err-clause-ends g c = λ n on. c.none.ensures ∙ own-missing c.args.op.now c.in-Err.i c.args.self.now (sym c.place_of.ensures ∙ c.in-Err.is) n on
