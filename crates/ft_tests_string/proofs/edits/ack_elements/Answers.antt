use Rattle.ft_interval_store.specs.State.{text_elements}
use Rattle.ft_tests_string.proofs.PlayingLaws.{acked-elements, calm-lowest}
use Rattle.ft_tests_string.proofs.edits.ack_elements.Goals as goal

pub ack-requires-clause-lowest : goal.ack-requires-clause-lowest
ack-requires-clause-lowest c = calm-lowest c.args.stage (text_elements c.args.tree.now) c.requires.calm

pub returns : goal.returns
returns c =
    let e = c.in_ok-ack.ensures in
    acked-elements c.args.stage c.args.seq c.args.tree.now c.ack.new.self e.elements e.refs e.rest
