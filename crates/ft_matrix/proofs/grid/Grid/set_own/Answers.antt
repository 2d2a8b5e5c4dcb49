use Rattle.std.proofs.Common.{arith, refl}
use Rattle.ft_matrix.specs.OwnEdits.{write_stage}
use Rattle.ft_matrix.proofs.OwnCounts.{col-uncounted, row-uncounted, write-counted}
use Rattle.ft_matrix.proofs.OwnSound.{later-units, next-above, units-below}
use Rattle.ft_matrix.proofs.OwnWrites.{own-handle-in-use, own-no-col, own-no-row, own-set-taken, own-write-sound, pending-below}
use Rattle.ft_matrix.proofs.grid.Grid.set_own.Goals as goal

pub write_pending-requires : goal.write_pending-requires
write_pending-requires c = pending-below c.args.self.now c.args.stage c.requires.sound c.requires.above

pub returns-in-None-clause-edited : goal.returns-in-None-clause-edited
returns-in-None-clause-edited c = λ last doc stages e h.
    own-no-row last c.args.stage e (omega (arith, c.ranges.stage.fits)) c.args.self.now doc stages c.requires.sound h c.requires.above
    c.args.i c.args.j c.args.value.now c.seen_count.result
    c.in-None.ensures c.seen_count.ensures

pub returns-in-None-handle_at-clause-edited : goal.returns-in-None-handle_at-clause-edited
returns-in-None-handle_at-clause-edited c = λ last doc stages e h.
    own-no-col last c.args.stage e (omega (arith, c.ranges.stage.fits)) c.args.self.now doc stages c.requires.sound h c.requires.above c.args.i c.args.j c.args.value.now
    c.seen_count-in-None-handle_at.result c.in-Some.row c.in-Some.ensures c.in-None-handle_at.ensures c.seen_count-in-None-handle_at.ensures

pub returns-in_ok-push_write_stage-in-Some-handle_at-clause-sound : goal.returns-in_ok-push_write_stage-in-Some-handle_at-clause-sound
returns-in_ok-push_write_stage-in-Some-handle_at-clause-sound c =
    let s = c.requires.sound in
    own-write-sound c.args.self.now (record c.args.self.now { stages = c.push_write_stage.new.stages }) c.args.stage c.args.i c.args.j
    c.in-Some.row c.in-Some-handle_at.col c.args.value.now
    c.write_pending.new.cells s c.requires.above c.requires.some
    (own-handle-in-use c.args.self.now.rows s.rows.proper c.args.i c.in-Some.row c.in-Some.ensures)
    (own-handle-in-use c.args.self.now.cols s.cols.proper c.args.j c.in-Some-handle_at.col c.in-Some-handle_at.ensures)
    c.in_ok-write_pending-in-Some-handle_at.ensures c.in_ok-push_write_stage-in-Some-handle_at.ensures

pub returns-in_ok-push_write_stage-in-Some-handle_at-clause-above : goal.returns-in_ok-push_write_stage-in-Some-handle_at-clause-above
returns-in_ok-push_write_stage-in-Some-handle_at-clause-above c = λ none.
    next-above c.args.self.now (record c.args.self.now { cells = c.write_pending.new.cells; stages = c.push_write_stage.new.stages }) c.args.stage
    (write_stage c.args.stage c.args.i c.args.j c.args.value.now c.in-Some.row c.in-Some-handle_at.col) c.requires.above refl
    c.in_ok-push_write_stage-in-Some-handle_at.ensures
    (later-units c.args.stage c.args.self.now.rows (units-below c.args.stage c.args.self.now.rows c.requires.above.rows))
    (later-units c.args.stage c.args.self.now.cols (units-below c.args.stage c.args.self.now.cols c.requires.above.cols))

pub returns-in_ok-push_write_stage-in-Some-handle_at-clause-edited : goal.returns-in_ok-push_write_stage-in-Some-handle_at-clause-edited
returns-in_ok-push_write_stage-in-Some-handle_at-clause-edited c = λ last doc stages e h.
    own-set-taken last c.args.stage e (omega (arith, c.ranges.stage.fits)) c.args.self.now doc stages c.requires.sound h c.requires.above c.args.i c.args.j c.args.value.now
    c.write_pending.new.cells (record c.args.self.now { stages = c.push_write_stage.new.stages }) c.in-Some.row c.in-Some-handle_at.col
    c.in_ok-write_pending-in-Some-handle_at.ensures c.in_ok-push_write_stage-in-Some-handle_at.ensures
    c.in-Some.ensures c.in-Some-handle_at.ensures

pub returns-in-None-clause-counts : goal.returns-in-None-clause-counts
returns-in-None-clause-counts c = row-uncounted c.args.i c.args.j c.args.value.now c.args.self.now c.seen_count.result c.in-None.ensures c.seen_count.ensures

pub returns-in-None-handle_at-clause-counts : goal.returns-in-None-handle_at-clause-counts
returns-in-None-handle_at-clause-counts c =
    col-uncounted c.args.i c.args.j c.args.value.now c.args.self.now c.seen_count-in-None-handle_at.result c.in-Some.row c.in-Some.ensures c.in-None-handle_at.ensures
    c.seen_count-in-None-handle_at.ensures

pub returns-in_ok-push_write_stage-in-Some-handle_at-clause-counts : goal.returns-in_ok-push_write_stage-in-Some-handle_at-clause-counts
returns-in_ok-push_write_stage-in-Some-handle_at-clause-counts c =
    write-counted c.args.i c.args.j c.args.value.now c.args.self.now c.in-Some.row c.in-Some-handle_at.col c.write_pending.new.cells
    (record c.args.self.now { stages = c.push_write_stage.new.stages }) c.in-Some.ensures c.in-Some-handle_at.ensures
