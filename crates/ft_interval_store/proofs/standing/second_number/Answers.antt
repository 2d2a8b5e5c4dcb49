use Rattle.std.proofs.Common.{ap, ◌∙◌, refl}
use Rattle.ft_interval_store.specs.Numbers.{number_of}
use Rattle.ft_interval_store.specs.Shown.{last}
use Rattle.ft_interval_store.specs.Standing.{end_place}
use Rattle.ft_interval_store.specs.State.{text_elements}
use Rattle.ft_interval_store.proofs.standing.second_number.Goals as goal

pub returns-then-are_on_one : goal.returns-then-are_on_one
returns-then-are_on_one c =
    let tree = c.args.tree.now in
    c.requires.first ∙ ap (λ at. number_of (text_elements tree) last (end_place tree at)) (c.if-are_on_one.ensures refl)
