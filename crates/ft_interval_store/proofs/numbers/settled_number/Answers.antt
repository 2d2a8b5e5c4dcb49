use Rattle.std.proofs.Common.{option_and_then, sym, ◌∙◌, ap}
use Rattle.ft_block.specs.declared.leaves.LenView.TheVariants.{Stage}
use Rattle.ft_tree_leaves.specs.Elements.{seen_in}
use Rattle.ft_tree_leaves.specs.Places.{settled_number}
use Rattle.ft_interval_store.specs.Ends.{place_of_end}
use Rattle.ft_interval_store.specs.State.{text_elements}
use Rattle.ft_interval_store.proofs.SettledEnds.{settled-number}
use Rattle.ft_interval_store.proofs.numbers.settled_number.Goals as goal

pub returns : goal.returns
returns c =
    let xs = text_elements c.args.tree.now in
    let refs = c.args.tree.now.refs in
    settled-number xs c.args.stage (place_of_end refs c.args.end) c.ref_place.result
    (c.ref_place.ensures ∙ ap (λ e. option_and_then (settled_number (seen_in (Stage c.args.stage)) xs) (place_of_end refs e)) (sym c.in_ok-end.was))
