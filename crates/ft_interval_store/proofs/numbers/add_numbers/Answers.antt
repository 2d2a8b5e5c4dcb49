use Rattle.std.proofs.Common.{◌<◌, ℕ, List, ap, subst, sym}
use Rattle.std.specs.Prelude.{IfSome}
use Rattle.ft_base.specs.Scan.{len}
use Rattle.ft_block.specs.declared.leaves.LenView.TheVariants.{Stage}
use Rattle.ft_props.specs.Element.{ElementContent}
use Rattle.ft_tree_leaves.specs.Elements.{TreeElement, seen_in}
use Rattle.ft_interval_store.specs.declared.intervals.EndPair.{EndPair}
use Rattle.ft_interval_store.specs.State.{text_elements}
use Rattle.ft_interval_store.proofs.WrittenNumbers.{number-within, numbers-added}
use Rattle.ft_interval_store.proofs.numbers.add_numbers.Goals as goal

pub add_number-requires-clause-there : goal.add_number-requires-clause-there
add_number-requires-clause-there c =
    let ends = c.requires.there.0 in
    number-within (text_elements c.args.tree.now) c.args.stage ends.start c.args.numbers.now.start c.requires.there.1.start

pub add_number-requires-2-clause-there : goal.add_number-requires-2-clause-there
add_number-requires-2-clause-there c =
    let ends = c.requires.there.0 in
    let number = c.args.numbers.now.end in
    subst (λ (xs : List (TreeElement ElementContent)). IfSome number (λ p. p < len (seen_in (Stage c.args.stage)) xs))
    (sym (ap text_elements c.in_ok-add_number.ensures.rest))
    (number-within (text_elements c.args.tree.now) c.args.stage ends.end number c.requires.there.1.end)

pub returns-clause-ends : goal.returns-clause-ends
returns-clause-ends c = λ ends n.
    let e : EndPair ℕ = record { start = c.in_ok-add_number.field-0; end = c.in_ok-add_number-2.field-0 } in
    numbers-added (text_elements c.args.tree.now) (text_elements c.add_number.new.tree) c.args.stage ends c.args.numbers.now e
    c.args.tree.now.refs c.add_number.new.tree.refs c.add_number-2.new.tree.refs (ap text_elements c.in_ok-add_number.ensures.rest) n
    c.in_ok-add_number.ensures.end c.in_ok-add_number-2.ensures.end
