use Rattle.std.proofs.Common.{sym, ap, ◌∙◌}
use Rattle.ft_refs.specs.RefLists.{place_of_reference, references_of}
use Rattle.ft_tree_blocks.specs.Anchors.{AnchorLists}
use Rattle.ft_tree_blocks.proofs.SentReferences.{all_below}
use Rattle.ft_tree_blocks.proofs.anchors.Anchors.join.Goals as goal

pub splice-requires-clause-fits : goal.splice-requires-clause-fits
splice-requires-clause-fits c =
    let now = c.self.inside.refs in
    all_below now c.args.next c.args.count 18446744073709551616 (references_of now c.args.next) (c.self.invariant.refs.on c.args.next)
    (λ r offset e. c.requires.fits r offset (sym (ap (λ (a : AnchorLists). place_of_reference a.refs r) c.self.view_is) ∙ e))
