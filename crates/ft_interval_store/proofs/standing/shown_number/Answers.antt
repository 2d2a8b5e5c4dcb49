use Rattle.std.proofs.Common.{Some, rules, w64, ◌∙◌, ap}
use Rattle.std.proofs.lemmas.Int.{to_z-of_z}
use Rattle.ft_interval_store.specs.Ends.{place_of_end}
use Rattle.ft_interval_store.specs.Numbers.{number_or_none}
use Rattle.ft_interval_store.specs.Shown.{settled_end}
use Rattle.ft_interval_store.specs.Standing.{end_place}
use Rattle.ft_interval_store.specs.State.{text_elements}
use Rattle.ft_interval_store.proofs.WrittenNumbers.{shown-number}
use Rattle.ft_interval_store.proofs.standing.shown_number.Goals as goal

pub carried_end-requires-clause-on_leaf : goal.carried_end-requires-clause-on_leaf
carried_end-requires-clause-on_leaf c = c.settled_end-place.ensures.on_leaf

pub last_number-requires-clause-on_leaf : goal.last_number-requires-clause-on_leaf
last_number-requires-clause-on_leaf c =
    let xs = text_elements c.args.tree.now in
    (c.carried_end.ensures (settled_end xs 0 (place_of_end c.args.tree.now.refs (Some c.args.r))) c.settled_end-place.ensures).on_leaf

pub returns : goal.returns
returns c =
    let tree = c.args.tree.now in
    let xs = text_elements tree in
    let at = (c.carried_end.ensures (settled_end xs 0 (place_of_end tree.refs (Some c.args.r))) c.settled_end-place.ensures).is in
    to_z-of_z w64 c.number.result (search rules) ∙ shown-number xs tree.refs c.args.r (end_place tree c.carried_end.result) c.number.result
    (c.number.ensures ∙ ap number_or_none c.last_number.ensures) at
