use Rattle.std.proofs.Common.{refl}
use Rattle.ft_matrix.proofs.SeenHandles.{place-before, place-fits, place-none, place-there, placed}
use Rattle.ft_matrix.proofs.seen.SeenRuns.place_of.Goals as goal

pub returns-in_err-run : goal.returns-in_err-run
returns-in_err-run c = λ hs h. rw c.from_residual.ensures
    (place-none hs c.args.self.now c.args.handle c.range.result (c.range.ensures.in_range tt) h c.in_err-run.ensures.steps.0)

pub returns-then-handle-run : goal.returns-then-handle-run
returns-then-handle-run c = λ hs h. place-before hs c.args.self.now c.args.handle c.range.result (c.range.ensures.in_range tt) h
    (c.in_ok-run.field-0-0.now, c.in_ok-run.run'.now) (rw c.in_ok-run.ensures.steps refl) c.if-handle-run.true

pub returns : goal.returns
returns c = λ hs h.
    let there = place-there hs c.args.self.now c.args.handle c.range.result (c.range.ensures.in_range tt) h
    (c.in_ok-run.field-0-0.now, c.in_ok-run.run'.now) (rw c.in_ok-run.ensures.steps refl) c.if-handle-run.false in
    let fits = place-fits hs c.args.self.now c.args.handle c.range.result (c.range.ensures.in_range tt) h
    (c.in_ok-run.field-0-0.now, c.in_ok-run.run'.now) (rw c.in_ok-run.ensures.steps refl) c.if-handle-run.false in
    placed hs c.args.handle _ c.checked_add.result c.checked_add.ensures fits there
