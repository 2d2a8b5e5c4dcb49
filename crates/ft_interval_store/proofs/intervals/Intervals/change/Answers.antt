use Rattle.std.proofs.Common.{Some, sym, ◌∙◌, ap, subst, arith, set}
use Rattle.std.proofs.lemmas.Result.{on_ok_weaker}
use Rattle.ft_interval_store.specs.Intervals.{Name, NamesRise, changed_interval, interval_of, name_of, place_of_name, with_changed}
use Rattle.ft_interval_store.proofs.OperationEnds.{both-if-ok, ends-change-missing, ends-change-there}
use Rattle.ft_interval_store.proofs.RisingNames.{NamesRise-at, changed-found, changed-missing, found-in_range, interval_of-found, interval_of-missing}
use Rattle.ft_interval_store.proofs.intervals.Intervals.change.Goals as goal

pub index_mut-requires : goal.index_mut-requires
index_mut-requires g c =
    let n : Name = c.requires.place.0 in
    let place = ap (place_of_name n) c.self.view_is ∙ sym c.requires.place.1 ∙ c.in-Ok.is in
    omega (arith, found-in_range n c.in-Ok.i c.self.inside.items place)

pub invariant_of-self : goal.invariant_of-self
invariant_of-self g c =
    let n : Name = c.requires.place.0 in
    let items = c.self.inside.items in
    let place = ap (place_of_name n) c.self.view_is ∙ sym c.requires.place.1 ∙ c.in-Ok.is in
    let was = c.index_mut.result.now in
    let name = c.change.ensures.name ∙ ap (λ x. name_of x) c.index_mut.ensures.value in
    NamesRise-at c.in-Ok.i c.change.new.self was items (found-in_range n c.in-Ok.i items place) name c.self.invariant

pub returns-in-Ok-clause-ok : goal.returns-in-Ok-clause-ok
returns-in-Ok-clause-ok g c = λ n p.
    let items = c.self.inside.items in
    let place = ap (place_of_name n) c.self.view_is ∙ sym p ∙ c.in-Ok.is in
    let was = c.index_mut.result.now in
    let f = changed_interval c.args.given c.args.ends c.args.props.now in
    on_ok_weaker c.change.result
    (λ e. ap (λ x. set items c.in-Ok.i x) (e ∙ ap f c.index_mut.ensures.value) ∙ sym (changed-found n f c.in-Ok.i was items place) ∙ ap (with_changed n f) c.self.view_is)
    c.change.ensures.ok

pub returns-in-Ok-clause-ends : goal.returns-in-Ok-clause-ends
returns-in-Ok-clause-ends g c = λ n p.
    let items = c.self.inside.items in
    let place = ap (place_of_name n) c.self.view_is ∙ sym p ∙ c.in-Ok.is in
    let was = c.index_mut.result.now in
    let there = sym (ap (interval_of n) c.self.view_is) ∙ interval_of-found n c.in-Ok.i was items place ∙ sym (ap Some c.index_mut.ensures.value) in
    let rise = subst (λ ys. NamesRise ys) c.self.view_is c.self.invariant in
    both-if-ok c.change.result _ _ _
    (λ after e a. ends-change-there n.0 n.1 c.args.ends c.args.props.now c.args.self.now (set items c.in-Ok.i c.change.new.self) rise
    c.args.given e after was there a)
    (returns-in-Ok-clause-ok g c n p) c.change.ensures.ends

pub returns-in-Err-clause-ok : goal.returns-in-Err-clause-ok
returns-in-Err-clause-ok g c = λ n p.
    let f = changed_interval c.args.given c.args.ends c.args.props.now in
    sym (changed-missing n f c.in-Err.field-0 c.args.self.now (sym p ∙ c.in-Err.is))

pub returns-in-Err-clause-ends : goal.returns-in-Err-clause-ends
returns-in-Err-clause-ends g c = λ n p.
    let is = c.args.self.now in
    let missing = interval_of-missing n c.in-Err.field-0 is (sym p ∙ c.in-Err.is) in
    ends-change-missing n.0 n.1 c.args.ends c.args.props.now is is (subst (λ ys. NamesRise ys) c.self.view_is c.self.invariant)
    c.args.given (returns-in-Err-clause-ok g c n p) _ missing c.missing.ensures
