use Rattle.std.proofs.Common.{◌≡◌, ◌∙◌, Err, IfOk, None, ap, arith, map, refl, sym, subst}
use Rattle.ft_changes.specs.Listeners.{heard}
use Rattle.ft_changes.specs.Told.{told_locals}
use Rattle.ft_op.specs.declared.operations.ChannelOp.TheVariants.{Grid}
use Rattle.ft_op.specs.declared.operations.CellOp.TheVariants.{SpliceIn}
use Rattle.ft_op.specs.declared.operations.GridOp.TheVariants.{Group, One}
use Rattle.ft_op.specs.Operation.{OnGrid, sub_operations}
use Rattle.ft_op.specs.WellFormed.{IsWellFormedGrid}
use Rattle.ft_msg.specs.declared.faults.EditFault.TheVariants.{OutOfRange}
use Rattle.ft_msg.specs.Client.{local_sub_operations}
use Rattle.ft_matrix.specs.OwnEdits.{TakesStages, refusal, seen_units}
use Rattle.ft_matrix.proofs.Refusals.{group-refused}
use Rattle.ft_matrix.proofs.ToldUnits.{own-alone-told}
use Rattle.ft_matrix.proofs.grid.Grid.edit_op.Goals as goal

pub edit_all-requires-clause-within : goal.edit_all-requires-clause-within
edit_all-requires-clause-within g c =
    let refused = refusal (seen_units c.args.self.now.rows) (seen_units c.args.self.now.cols) in
    ap refused (c.as_slice-in-Group.ensures ∙ sym c.as_slice.ensures) ∙ sym c.in_ok-length-in-Group.ensures ∙ c.in_default.is

pub returns-in-Some-clause-edited : goal.returns-in-Some-clause-edited
returns-in-Some-clause-edited g c = λ last doc stages e h. (
  subst (λ o. local_sub_operations doc stages c.args.first (sub_operations (Grid o)) ≡ Err (OutOfRange c.in-Some.length)) (sym c.in-Group.is)
      (group-refused last c.args.first c.in-Some.length c.args.self.now doc stages c.in-Group.ops e (omega (arith, c.ranges.first.fits)) c.requires.sound h c.requires.above
      (subst IsWellFormedGrid c.in-Group.is c.requires.formed) (ap (refusal (seen_units c.args.self.now.rows) (seen_units c.args.self.now.cols)) (sym c.as_slice.ensures)
      ∙ sym c.in_ok-length-in-Group.ensures ∙ c.in-Some.is)),
  refl,
)

pub returns-in_ok-tell_own-in-One-clause-sound : goal.returns-in_ok-tell_own-in-One-clause-sound
returns-in_ok-tell_own-in-One-clause-sound g c = c.edit_one.ensures.sound

pub returns-in_ok-tell_own-in-One-clause-floor : goal.returns-in_ok-tell_own-in-One-clause-floor
returns-in_ok-tell_own-in-One-clause-floor g c = c.edit_one.ensures.floor

pub returns-in_ok-tell_own-in-One-clause-reads : goal.returns-in_ok-tell_own-in-One-clause-reads
returns-in_ok-tell_own-in-One-clause-reads g c = λ target p count e.
    let one : One c.in-One.op ≡ One (SpliceIn target p count) = sym c.in-One.is ∙ e in
    c.edit_one.ensures.reads target p count (cc)

pub returns-in_ok-edit_all-in-Group-clause-sound : goal.returns-in_ok-edit_all-in-Group-clause-sound
returns-in_ok-edit_all-in-Group-clause-sound g c = c.in_ok-edit_all-in-Group.ensures.sound

pub returns-in_ok-edit_all-in-Group-clause-floor : goal.returns-in_ok-edit_all-in-Group-clause-floor
returns-in_ok-edit_all-in-Group-clause-floor g c = c.in_ok-edit_all-in-Group.ensures.floor

pub returns-in_ok-edit_all-in-Group-clause-edited : goal.returns-in_ok-edit_all-in-Group-clause-edited
returns-in_ok-edit_all-in-Group-clause-edited g c = λ last doc stages e h.
    subst (λ o. TakesStages last c.args.first c.edit_all.new.self doc stages (sub_operations (Grid o))) (sym c.in-Group.is)
    (subst (λ ops. TakesStages last c.args.first c.edit_all.new.self doc stages (map (λ op. OnGrid op) ops)) c.as_slice-in-Group.ensures
    (c.in_ok-edit_all-in-Group.ensures.edited last doc stages e h))

pub returns-in_ok-edit_all-in-Group-clause-reads : goal.returns-in_ok-edit_all-in-Group-clause-reads
returns-in_ok-edit_all-in-Group-clause-reads g c = λ target p count e.
    let other : Group c.in-Group.ops ≡ One (SpliceIn target p count) = sym c.in-Group.is ∙ e in
    (cc)

pub returns-in-Some-clause-reads : goal.returns-in-Some-clause-reads
returns-in-Some-clause-reads g c = λ target p count e.
    let other : Group c.in-Group.ops ≡ One (SpliceIn target p count) = sym c.in-Group.is ∙ e in
    (cc)

pub returns-in_ok-tell_own-in-One-clause-told : goal.returns-in_ok-tell_own-in-One-clause-told
returns-in_ok-tell_own-in-One-clause-told g c = λ last doc stages e h.
    subst (λ o. IfOk c.edit_one.result (λ refused. refused ≡ None → c.tell_own.new.listener ≡ heard c.args.listener.now
    (told_locals doc stages c.args.first (sub_operations (Grid o)))))
    (sym c.in-One.is)
    (own-alone-told last c.args.first e (omega (arith, e, c.ranges.first.fits)) c.args.self.now c.edit_one.new.self c.requires.above c.in-One.op
    doc stages
    c.args.listener.now c.tell_own.new.listener h c.in_ok-tell_own-in-One.ensures c.edit_one.result (c.edit_one.ensures.edited last doc stages e h))

pub returns-in_ok-edit_all-in-Group-clause-told : goal.returns-in_ok-edit_all-in-Group-clause-told
returns-in_ok-edit_all-in-Group-clause-told g c = λ last doc stages e h none.
    subst (λ o. c.edit_all.new.listener ≡ heard c.args.listener.now (told_locals doc stages c.args.first (sub_operations (Grid o))))
    (sym c.in-Group.is)
    (subst (λ ops. c.edit_all.new.listener ≡ heard c.args.listener.now (told_locals doc stages c.args.first (map (λ op. OnGrid op) ops)))
    c.as_slice-in-Group.ensures
    (c.in_ok-edit_all-in-Group.ensures.told last doc stages e h))
