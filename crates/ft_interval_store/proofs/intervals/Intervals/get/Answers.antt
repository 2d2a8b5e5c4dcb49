use Rattle.std.proofs.Common.{sym, ◌∙◌, ap, Some, arith}
use Rattle.ft_interval_store.specs.Intervals.{Name, interval_of, place_of_name}
use Rattle.ft_interval_store.proofs.RisingNames.{found-in_range, interval_of-found, interval_of-missing}
use Rattle.ft_interval_store.proofs.intervals.Intervals.get.Goals as goal

pub index-requires : goal.index-requires
index-requires g c =
    let n : Name = (c.args.label.now, c.args.id.now) in
    omega (arith, found-in_range n c.in-Ok.i c.self.inside.items (ap (place_of_name n) c.self.view_is ∙ sym c.search.ensures ∙ c.in-Ok.is))

pub returns-in-Ok : goal.returns-in-Ok
returns-in-Ok g c =
    let n : Name = (c.args.label.now, c.args.id.now) in
    let place = ap (place_of_name n) c.self.view_is ∙ sym c.search.ensures ∙ c.in-Ok.is in
    ap Some c.get.ensures ∙ ap Some c.index.ensures ∙ sym (interval_of-found n c.in-Ok.i c.index.result.now c.self.inside.items place) ∙ ap (interval_of n) c.self.view_is

pub returns-in-Err : goal.returns-in-Err
returns-in-Err g c =
    let n : Name = (c.args.label.now, c.args.id.now) in
    sym (interval_of-missing n c.in-Err.field-0 c.args.self.now (sym c.search.ensures ∙ c.in-Err.is))
