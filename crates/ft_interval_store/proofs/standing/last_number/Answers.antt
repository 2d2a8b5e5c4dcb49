use Rattle.std.proofs.Common.{ℕ, Option, Some, ap, subst, sym, ◌∙◌}
use Rattle.ft_refs.specs.declared.numbers.Place.{Place}
use Rattle.ft_interval_store.specs.Numbers.{number_of}
use Rattle.ft_interval_store.specs.Shown.{last}
use Rattle.ft_interval_store.specs.Standing.{IsOnTree, end_place}
use Rattle.ft_interval_store.specs.State.{text_elements}
use Rattle.ft_interval_store.proofs.standing.last_number.Goals as goal

pub number_at-requires-clause-on_leaf : goal.number_at-requires-clause-on_leaf
number_at-requires-clause-on_leaf c = subst (λ (p : Option Place). IsOnTree c.args.tree.now p) c.in_ok-place.was c.requires.on_leaf

pub returns-in_err-place : goal.returns-in_err-place
returns-in_err-place c =
    let tree = c.args.tree.now in
    c.from_residual.ensures ∙ sym (ap (λ (p : Option Place). number_of (text_elements tree) last (end_place tree p)) c.in_err-place.was)

pub returns : goal.returns
returns c =
    let tree = c.args.tree.now in
    ap (λ (n : ℕ). Some n) c.number_at.ensures
    ∙ sym (ap (λ (p : Option Place). number_of (text_elements tree) last (end_place tree p)) c.in_ok-place.was)
