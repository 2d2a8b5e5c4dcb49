use Rattle.std.proofs.Common.{◌+◌, arith}
use Rattle.ft_interval_store.proofs.LocalEdits.{above-pushed}
use Rattle.ft_tests_string.proofs.PlayingLaws.{kept}
use Rattle.ft_tests_string.proofs.edits.edit_interval.Goals as goal

pub returns-in-Ok : goal.returns-in-Ok
returns-in-Ok c =
    let e = c.in-Ok.ensures in
    kept c.args.tree.now c.take_interval.new.tree c.args.intervals.now c.take_interval.new.intervals c.args.stage (c.args.stage + 1)
    c.requires.together e.taken.rest e.taken.refs e.stands (omega arith) (above-pushed e.taken c.requires.together.above)
