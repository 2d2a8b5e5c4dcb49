use Rattle.std.proofs.Common.{[], sym, ◌∙◌, ap, subst, arith, refl}
use Rattle.ft_interval_store.specs.Intervals.{Name, NamesRise, place_of_name, without_name}
use Rattle.ft_interval_store.specs.State.{ends_of_name}
use Rattle.ft_interval_store.proofs.OperationEnds.{ends-delete, ends_in}
use Rattle.ft_interval_store.proofs.RisingNames.{NamesRise-without, found-in_range, interval_of-found, interval_of-missing, without-found, without-missing}
use Rattle.ft_interval_store.proofs.intervals.Intervals.delete.Goals as goal

pub remove-requires : goal.remove-requires
remove-requires g c =
    let n : Name = c.requires.place.0 in
    let place = ap (place_of_name n) c.self.view_is ∙ sym c.requires.place.1 ∙ c.in-Ok.is in
    omega (arith, found-in_range n c.in-Ok.i c.self.inside.items place)

pub invariant_of-self : goal.invariant_of-self
invariant_of-self g c =
    let n : Name = c.requires.place.0 in
    let items = c.self.inside.items in
    let place = ap (place_of_name n) c.self.view_is ∙ sym c.requires.place.1 ∙ c.in-Ok.is in
    rw (c.remove.ensures.items, ← without-found n c.in-Ok.i items place) (NamesRise-without n items c.self.invariant)

pub returns-in-Ok-clause-ok : goal.returns-in-Ok-clause-ok
returns-in-Ok-clause-ok g c = λ n p.
    let items = c.self.inside.items in
    let place = ap (place_of_name n) c.self.view_is ∙ sym p ∙ c.in-Ok.is in
    c.remove.ensures.items ∙ sym (without-found n c.in-Ok.i items place) ∙ ap (without_name n) c.self.view_is

pub returns-in-Ok-clause-ends : goal.returns-in-Ok-clause-ends
returns-in-Ok-clause-ends g c = λ n p.
    let items = c.self.inside.items in
    let place = ap (place_of_name n) c.self.view_is ∙ sym p ∙ c.in-Ok.is in
    let lost = c.ends-lost.ensures ∙ ap (λ x. x.ends) c.remove.ensures.value ∙ sym (ap ends_in (interval_of-found n c.in-Ok.i c.remove.result items place))
    ∙ ap (λ is. ends_of_name n is) c.self.view_is in
    ends-delete n.0 n.1 c.args.ends [] c.args.self.now c.remove.new.self (subst (λ ys. NamesRise ys) c.self.view_is c.self.invariant)
    (returns-in-Ok-clause-ok g c n p) _ c.none.ensures refl lost

pub returns-in-Err-clause-ok : goal.returns-in-Err-clause-ok
returns-in-Err-clause-ok g c = λ n p. sym (without-missing n c.in-Err.field-0 c.args.self.now (sym p ∙ c.in-Err.is))

pub returns-in-Err-clause-ends : goal.returns-in-Err-clause-ends
returns-in-Err-clause-ends g c = λ n p.
    let is = c.args.self.now in
    let missing = interval_of-missing n c.in-Err.field-0 is (sym p ∙ c.in-Err.is) in
    ends-delete n.0 n.1 c.args.ends [] is is (subst (λ ys. NamesRise ys) c.self.view_is c.self.invariant)
    (returns-in-Err-clause-ok g c n p) _ (ap (λ x. x.kept) c.missing.ensures) (ap (λ x. x.unused) c.missing.ensures)
    (ap (λ x. x.lost) c.missing.ensures ∙ sym (ap ends_in missing))
