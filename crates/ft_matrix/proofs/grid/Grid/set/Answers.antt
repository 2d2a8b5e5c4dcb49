use Rattle.std.proofs.Common.{subst}
use Rattle.ft_matrix.proofs.Writes.{IsWritten, handle-in-use, set-skipped-col, set-skipped-row, set-taken, write-sound}
use Rattle.ft_matrix.proofs.grid.Grid.set.Goals as goal

pub returns-in-None-clause-applied : goal.returns-in-None-clause-applied
returns-in-None-clause-applied c = λ last seq doc stages h.
    set-skipped-row last seq c.args.at c.args.self.now doc stages c.requires.sound h c.args.row c.args.col c.args.value.now c.in-None.ensures

pub returns-in-None-handle_at-clause-applied : goal.returns-in-None-handle_at-clause-applied
returns-in-None-handle_at-clause-applied c = λ last seq doc stages h.
    set-skipped-col last seq c.args.at c.args.self.now doc stages c.requires.sound h c.args.row c.args.col c.args.value.now c.in-None-handle_at.ensures

pub returns-in_ok-set_acked-in-Some-handle_at-clause-sound : goal.returns-in_ok-set_acked-in-Some-handle_at-clause-sound
returns-in_ok-set_acked-in-Some-handle_at-clause-sound c =
    let s = c.requires.sound in
    write-sound c.args.self.now c.in-Some.row c.in-Some-handle_at.col _ c.set_acked.new.self s
    (handle-in-use c.args.self.now.rows s.rows.proper c.args.at c.args.row c.in-Some.row c.in-Some.ensures)
    (handle-in-use c.args.self.now.cols s.cols.proper c.args.at c.args.col c.in-Some-handle_at.col c.in-Some-handle_at.ensures) c.in_ok-set_acked-in-Some-handle_at.ensures.ok

pub returns-in_ok-set_acked-in-Some-handle_at-clause-applied : goal.returns-in_ok-set_acked-in-Some-handle_at-clause-applied
returns-in_ok-set_acked-in-Some-handle_at-clause-applied c = λ last seq doc stages h.
    set-taken last seq c.args.at c.args.self.now doc stages c.requires.sound h c.args.row c.args.col c.args.value.now c.set_acked.new.self c.in-Some.row c.in-Some-handle_at.col
    (subst (λ v. IsWritten c.in-Some.row c.in-Some-handle_at.col v c.args.self.now.cells c.set_acked.new.self)
    c.in_ok-copy-in-Some-handle_at.ensures c.in_ok-set_acked-in-Some-handle_at.ensures.ok)
    c.in-Some.ensures c.in-Some-handle_at.ensures
