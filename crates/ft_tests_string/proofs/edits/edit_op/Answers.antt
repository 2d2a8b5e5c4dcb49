use Rattle.std.proofs.Common.{◌≡◌, ◌+◌, false, arith, rules}
use Rattle.ft_interval_store.proofs.LocalEdits.{above-more}
use Rattle.ft_tests_string.specs.Playing.{is_annotation}
use Rattle.ft_tests_string.proofs.PlayingLaws.{took}
use Rattle.ft_tests_string.proofs.edits.edit_op.Goals as goal

pub returns-in-Ok : goal.returns-in-Ok
returns-in-Ok g c d h =
    let kind : is_annotation c.args.op.now ≡ false = search rules in
    took c.args.stage c.args.op.now c.args.tree.now c.take_op.new.tree kind c.in-Ok.ensures d c.args.stage (c.args.stage + 1) h
    (omega arith) (above-more c.args.stage (c.args.stage + 1) d.state (omega arith) h.above)
