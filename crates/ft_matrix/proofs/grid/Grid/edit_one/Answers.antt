use Rattle.std.proofs.Common.{◌≤◌, ◌+◌, ◌*◌, ◌∙◌, IfOk, true, ap, subst, sym}
use Rattle.ft_matrix.specs.GridStates.{depth_of, grid_state}
use Rattle.ft_matrix.specs.OwnEdits.{Counts, EditsOne}
use Rattle.ft_matrix.proofs.SideLaws.{same-target, side-depth}
use Rattle.ft_matrix.proofs.grid.Grid.edit_one.Goals as goal

pub returns-in-SpliceIn-clause-reads : goal.returns-in-SpliceIn-clause-reads
returns-in-SpliceIn-clause-reads g c = λ target p count e.
    subst (λ d. c.insert_own.new.steps ≤ c.args.steps.now + 9 * (d + 1))
    (side-depth c.in-SpliceIn.target c.args.self.now ∙ ap (λ t. depth_of t (grid_state c.args.self.now 0 true))
    (same-target c.in-SpliceIn.target target c.in-SpliceIn.pos c.in-SpliceIn.count p count (sym c.in-SpliceIn.is ∙ e)))
    c.insert_own.ensures.reads

pub returns-in-SpliceIn-clause-sound : goal.returns-in-SpliceIn-clause-sound
returns-in-SpliceIn-clause-sound g c = c.insert_own.ensures.sound

pub returns-in-SpliceIn-clause-floor : goal.returns-in-SpliceIn-clause-floor
returns-in-SpliceIn-clause-floor g c = c.insert_own.ensures.floor

pub returns-in-SpliceIn-clause-above : goal.returns-in-SpliceIn-clause-above
returns-in-SpliceIn-clause-above g c = c.insert_own.ensures.above

pub returns-in-SpliceIn-clause-edited : goal.returns-in-SpliceIn-clause-edited
returns-in-SpliceIn-clause-edited g c = λ last doc stages e h.
    subst (λ op. IfOk c.insert_own.result (λ refused. EditsOne last c.args.stage doc stages op c.args.self.now c.insert_own.new.self refused))
    (sym c.in-SpliceIn.is)
    (c.insert_own.ensures.edited last doc stages e h)

pub returns-in-SpliceIn-clause-counts : goal.returns-in-SpliceIn-clause-counts
returns-in-SpliceIn-clause-counts g c =
    subst (λ op. IfOk c.insert_own.result (λ refused. Counts op c.args.self.now c.insert_own.new.self refused)) (sym c.in-SpliceIn.is)
    c.insert_own.ensures.counts

pub returns-in-SpliceOut-clause-sound : goal.returns-in-SpliceOut-clause-sound
returns-in-SpliceOut-clause-sound g c = c.remove_own.ensures.sound

pub returns-in-SpliceOut-clause-floor : goal.returns-in-SpliceOut-clause-floor
returns-in-SpliceOut-clause-floor g c = c.remove_own.ensures.floor

pub returns-in-SpliceOut-clause-above : goal.returns-in-SpliceOut-clause-above
returns-in-SpliceOut-clause-above g c = c.remove_own.ensures.above

pub returns-in-SpliceOut-clause-edited : goal.returns-in-SpliceOut-clause-edited
returns-in-SpliceOut-clause-edited g c = λ last doc stages e h.
    subst (λ op. IfOk c.remove_own.result (λ refused. EditsOne last c.args.stage doc stages op c.args.self.now c.remove_own.new.self refused))
    (sym c.in-SpliceOut.is)
    (c.remove_own.ensures.edited last doc stages e h)

pub returns-in-SpliceOut-clause-counts : goal.returns-in-SpliceOut-clause-counts
returns-in-SpliceOut-clause-counts g c =
    subst (λ op. IfOk c.remove_own.result (λ refused. Counts op c.args.self.now c.remove_own.new.self refused)) (sym c.in-SpliceOut.is)
    c.remove_own.ensures.counts

pub returns-in-Set-clause-sound : goal.returns-in-Set-clause-sound
returns-in-Set-clause-sound g c = c.set_own.ensures.sound

pub returns-in-Set-clause-floor : goal.returns-in-Set-clause-floor
returns-in-Set-clause-floor g c = c.set_own.ensures.floor

pub returns-in-Set-clause-above : goal.returns-in-Set-clause-above
returns-in-Set-clause-above g c = c.set_own.ensures.above

pub returns-in-Set-clause-edited : goal.returns-in-Set-clause-edited
returns-in-Set-clause-edited g c = λ last doc stages e h.
    subst (λ op. IfOk c.set_own.result (λ refused. EditsOne last c.args.stage doc stages op c.args.self.now c.set_own.new.self refused))
    (sym c.in-Set.is)
    (c.set_own.ensures.edited last doc stages e h)

pub returns-in-Set-clause-counts : goal.returns-in-Set-clause-counts
returns-in-Set-clause-counts g c =
    subst (λ op. IfOk c.set_own.result (λ refused. Counts op c.args.self.now c.set_own.new.self refused)) (sym c.in-Set.is) c.set_own.ensures.counts
