use Rattle.std.proofs.Common.{ap, ◌∙◌}
use Rattle.ft_interval_store.specs.Numbers.{number_or_none}
use Rattle.ft_interval_store.specs.Shown.{last}
use Rattle.ft_interval_store.specs.Standing.{end_place}
use Rattle.ft_interval_store.specs.State.{text_elements}
use Rattle.ft_interval_store.proofs.WrittenNumbers.{number-shown}
use Rattle.ft_interval_store.proofs.standing.shown_numbers.Goals as goal

pub returns : goal.returns
returns c =
    let tree = c.args.tree.now in
    let xs = text_elements tree in
    let first = ap number_or_none c.last_number-start.ensures ∙ number-shown xs last (end_place tree c.args.ends.start) in
    let second = ap number_or_none c.second_number-end.ensures ∙ number-shown xs last (end_place tree c.args.ends.end) in
    c.ends_of_numbers.ensures ∙ (λ t. record { start = first t; end = second t })
