use Rattle.ft_tree_leaves.specs.LeafLists.{elements}
use Rattle.ft_tree_leaves.specs.References.{slid_reference}
use Rattle.ft_tree_leaves.specs.TextLeaves.{text_author, text_units}
use Rattle.ft_tests_tree.proofs.PassingLaws.{passes_ack}
use Rattle.ft_tests_tree.proofs.texts.acknowledge.Goals as goal

pub returns : goal.returns
returns c =
    let new = elements text_units (λ x. x.by) c.ack.new.self.leaves in
    passes_ack c.args.stage c.args.seq 1 (text_author c.args.seq 1) (slid_reference new) c.args.tree.now c.ack.new.self
    c.in_ok-ack.ensures.elements c.in_ok-ack.ensures.refs c.in_ok-ack.ensures.rest
