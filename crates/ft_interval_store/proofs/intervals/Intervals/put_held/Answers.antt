use Rattle.std.proofs.Common.{sym, ◌∙◌, ap, arith}
use Rattle.std.specs.List.{insert}
use Rattle.std.proofs.lemmas.Result.{on_ok_weaker}
use Rattle.ft_props.specs.Keys.{put_rising}
use Rattle.ft_interval_store.specs.Intervals.{NamesRise, interval_cmp, name_of, place_of_name}
use Rattle.ft_interval_store.proofs.PageLists.{on-either}
use Rattle.ft_interval_store.proofs.RisingNames.{NamesRise-put, found-in_range, missing-in_range, put-found, put-missing}
use Rattle.ft_interval_store.proofs.intervals.Intervals.put_held.Goals as goal

pub index_mut-requires : goal.index_mut-requires
index_mut-requires g c =
    let n = name_of c.args.held in
    let place =
    ap (place_of_name n) c.self.view_is ∙ sym (ap (λ x. place_of_name (name_of x) c.args.self.now) c.get-interval.ensures)
    ∙ sym c.search.ensures ∙ c.in-Ok.is in
    omega (arith, found-in_range n c.in-Ok.i c.self.inside.items place)

pub invariant_of-self : goal.invariant_of-self
invariant_of-self g c =
    let place =
    ap (place_of_name (name_of c.args.held)) c.self.view_is ∙ sym (ap (λ x. place_of_name (name_of x) c.args.self.now) c.get-interval.ensures)
    ∙ sym c.search.ensures ∙ c.in-Ok.is in
    rw (← put-found c.args.held c.in-Ok.i c.self.inside.items place) (NamesRise-put c.args.held c.self.inside.items c.self.invariant)

pub insert-requires : goal.insert-requires
insert-requires g c =
    let n = name_of c.args.held in
    let place =
    ap (place_of_name n) c.self.view_is ∙ sym (ap (λ x. place_of_name (name_of x) c.args.self.now) c.get-interval.ensures)
    ∙ sym c.search.ensures ∙ c.in-Err.is in
    omega (arith, missing-in_range n c.in-Err.i c.self.inside.items place)

pub invariant_of-self-in-Err : goal.invariant_of-self-in-Err
invariant_of-self-in-Err g c =
    let place =
    ap (place_of_name (name_of c.args.held)) c.self.view_is ∙ sym (ap (λ x. place_of_name (name_of x) c.args.self.now) c.get-interval.ensures)
    ∙ sym c.search.ensures ∙ c.in-Err.is in
    let items = c.self.inside.items in
    on-either (λ is. NamesRise is) c.insert.result c.insert.new.self (insert items c.in-Err.i c.args.held) items c.insert.ensures.ok c.insert.ensures.err
    (rw (← put-missing c.args.held c.in-Err.i items place) (NamesRise-put c.args.held items c.self.invariant)) c.self.invariant

pub returns-in-Ok-clause-ok : goal.returns-in-Ok-clause-ok
returns-in-Ok-clause-ok g c =
    let place =
    ap (place_of_name (name_of c.args.held)) c.self.view_is ∙ sym (ap (λ x. place_of_name (name_of x) c.args.self.now) c.get-interval.ensures)
    ∙ sym c.search.ensures ∙ c.in-Ok.is in
    sym (put-found c.args.held c.in-Ok.i c.self.inside.items place) ∙ ap (put_rising interval_cmp c.args.held) c.self.view_is

pub returns-in-Err-clause-ok : goal.returns-in-Err-clause-ok
returns-in-Err-clause-ok g c =
    let place =
    ap (place_of_name (name_of c.args.held)) c.self.view_is ∙ sym (ap (λ x. place_of_name (name_of x) c.args.self.now) c.get-interval.ensures)
    ∙ sym c.search.ensures ∙ c.in-Err.is in
    on_ok_weaker c.insert.result
    (λ e. e ∙ sym (put-missing c.args.held c.in-Err.i c.self.inside.items place) ∙ ap (put_rising interval_cmp c.args.held) c.self.view_is)
    c.insert.ensures.ok
