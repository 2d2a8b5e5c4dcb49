use Rattle.std.proofs.Common.{Option, None, refl, subst, sym, ◌∙◌, ap}
use Rattle.ft_refs.specs.declared.numbers.Place.{Place}
use Rattle.ft_interval_store.specs.Shown.{settled_end}
use Rattle.ft_interval_store.specs.Standing.{IsOnTree, StandsAt, end_place}
use Rattle.ft_interval_store.specs.State.{text_elements}
use Rattle.ft_interval_store.proofs.SettledEnds.{settled-twice}
use Rattle.ft_interval_store.proofs.standing.settled_at.Goals as goal

pub returns-in_err-place : goal.returns-in_err-place
returns-in_err-place c =
    let tree = c.args.tree.now in
    let xs = text_elements tree in
    let k = c.args.stage in
    let none : StandsAt tree k (settled_end xs k (end_place tree None)) None = record { on_leaf = tt; is = refl; seen = refl } in
    subst (λ (r : Option Place). StandsAt tree k (settled_end xs k (end_place tree c.args.at)) r) (sym c.from_residual.ensures)
    (subst (λ (p : Option Place). StandsAt tree k (settled_end xs k (end_place tree p)) None) (sym c.in_err-place.was) none)

pub settled_at-requires-clause-on_leaf : goal.settled_at-requires-clause-on_leaf
settled_at-requires-clause-on_leaf c = subst (λ (p : Option Place). IsOnTree c.args.tree.now p) c.in_ok-place.was c.requires.on_leaf

pub returns : goal.returns
returns c =
    let tree = c.args.tree.now in
    let xs = text_elements tree in
    let k = c.args.stage in
    let same = c.settled_at.ensures.place ∙ ap (λ (p : Option Place). settled_end xs k (end_place tree p)) (sym c.in_ok-place.was) in
    record { on_leaf = c.settled_at.ensures.on_leaf; is = same; seen = settled-twice xs k (end_place tree c.args.at) }
