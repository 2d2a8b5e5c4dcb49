use Rattle.ft_interval_store.specs.Ends.{map_ends, slid_end}
use Rattle.ft_interval_store.specs.State.{text_elements}
use Rattle.ft_tests_string.proofs.PlayingLaws.{acked-interval}
use Rattle.ft_tests_string.proofs.edits.ack_interval.Goals as goal

pub returns-in_ok-ack : goal.returns-in_ok-ack
returns-in_ok-ack c k h =
    let e = c.in_ok-ack.ensures in
    acked-interval (map_ends (slid_end (text_elements c.args.tree.now))) c.args.tree.now c.ack.new.tree c.args.intervals.now c.ack.new.self
    e.effect e.refs e.rest e.stands k h
