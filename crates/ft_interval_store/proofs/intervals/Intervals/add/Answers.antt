use Rattle.std.proofs.Common.{Some, sym, ◌∙◌, ap, subst, arith, cond, is_some, refl}
use Rattle.ft_props.specs.Keys.{put_rising}
use Rattle.ft_interval_store.specs.Intervals.{Name, NamesRise, added_interval, interval_cmp, interval_of, name_of, place_of_name}
use Rattle.ft_interval_store.proofs.OperationEnds.{ends-add-new, ends-add-there}
use Rattle.ft_interval_store.proofs.RisingNames.{NamesRise-put, found-in_range, interval_of-found, interval_of-missing, missing-in_range, put-missing}
use Rattle.ft_interval_store.proofs.intervals.Intervals.add.Goals as goal

pub index-requires : goal.index-requires
index-requires g c =
    let n : Name = (c.args.label.now, c.args.id.now) in
    let place = ap (place_of_name n) c.self.view_is ∙ sym c.requires.place ∙ c.in-Ok.is in
    omega (arith, found-in_range n c.in-Ok.i c.self.inside.items place)

pub returns-in-Ok-clause-ok : goal.returns-in-Ok-clause-ok
returns-in-Ok-clause-ok g c = λ given.
    let n : Name = (c.args.label.now, c.args.id.now) in
    let items = c.self.inside.items in
    let place = ap (place_of_name n) c.self.view_is ∙ sym c.requires.place ∙ c.in-Ok.is in
    let is = c.args.self.now in
    let there = sym (ap (interval_of n) c.self.view_is) ∙ interval_of-found n c.in-Ok.i c.index.result.now items place in
    sym (ap (λ o. cond (is_some o) is (put_rising interval_cmp (added_interval c.args.label.now c.args.id.now c.args.ends c.args.props.now) is)) there)

pub returns-in-Ok-clause-ends : goal.returns-in-Ok-clause-ends
returns-in-Ok-clause-ends g c = λ given.
    let n : Name = (c.args.label.now, c.args.id.now) in
    let items = c.self.inside.items in
    let place = ap (place_of_name n) c.self.view_is ∙ sym c.requires.place ∙ c.in-Ok.is in
    let is = c.args.self.now in
    let there = sym (ap (interval_of n) c.self.view_is) ∙ interval_of-found n c.in-Ok.i c.index.result.now items place ∙ sym (ap Some c.index.ensures) in
    ends-add-there c.args.label.now c.args.id.now c.args.ends c.args.props.now is is (subst (λ ys. NamesRise ys) c.self.view_is c.self.invariant)
    given (returns-in-Ok-clause-ok g c given) _ c.index.result.now there c.ends.ensures refl c.none.ensures

pub insert-requires : goal.insert-requires
insert-requires g c =
    let n : Name = (c.args.label.now, c.args.id.now) in
    let place = ap (place_of_name n) c.self.view_is ∙ sym c.requires.place ∙ c.in-Err.is in
    omega (arith, missing-in_range n c.in-Err.i c.self.inside.items place)

pub invariant_of-self-in-Err : goal.invariant_of-self-in-Err
invariant_of-self-in-Err g c =
    let n : Name = (c.args.label.now, c.args.id.now) in
    let items = c.self.inside.items in
    let place = ap (place_of_name n) c.self.view_is ∙ sym c.requires.place ∙ c.in-Err.is in
    let held = c.in_ok-held-in-Err.held in
    let named = ap (λ x. place_of_name (name_of x) items) c.in_ok-held-in-Err.ensures ∙ place in
    rw (c.in_ok-insert-in-Err.ensures.ok, ← put-missing held c.in-Err.i items named) (NamesRise-put held items c.self.invariant)

pub returns-in_ok-insert-in-Err-clause-ok : goal.returns-in_ok-insert-in-Err-clause-ok
returns-in_ok-insert-in-Err-clause-ok g c = λ given.
    let n : Name = (c.args.label.now, c.args.id.now) in
    let items = c.self.inside.items in
    let place = ap (place_of_name n) c.self.view_is ∙ sym c.requires.place ∙ c.in-Err.is in
    let is = c.args.self.now in
    let held = c.in_ok-held-in-Err.held in
    let new = added_interval c.args.label.now c.args.id.now c.args.ends c.args.props.now in
    let named = ap (λ x. place_of_name (name_of x) items) c.in_ok-held-in-Err.ensures ∙ place in
    let missing = interval_of-missing n c.in-Err.i is (sym c.requires.place ∙ c.in-Err.is) in
    c.in_ok-insert-in-Err.ensures.ok ∙ sym (put-missing held c.in-Err.i items named) ∙ ap (put_rising interval_cmp held) c.self.view_is
    ∙ ap (λ x. put_rising interval_cmp x is) c.in_ok-held-in-Err.ensures
    ∙ sym (ap (λ o. cond (is_some o) is (put_rising interval_cmp new is)) missing)

pub returns-in_ok-insert-in-Err-clause-ends : goal.returns-in_ok-insert-in-Err-clause-ends
returns-in_ok-insert-in-Err-clause-ends g c = λ given.
    let n : Name = (c.args.label.now, c.args.id.now) in
    let is = c.args.self.now in
    let missing = interval_of-missing n c.in-Err.i is (sym c.requires.place ∙ c.in-Err.is) in
    ends-add-new c.args.label.now c.args.id.now c.args.ends c.args.props.now is c.insert.new.self (subst (λ ys. NamesRise ys) c.self.view_is c.self.invariant)
    given (returns-in_ok-insert-in-Err-clause-ok g c given) _ missing refl c.none-in-Err.ensures c.none-in-Err-2.ensures
