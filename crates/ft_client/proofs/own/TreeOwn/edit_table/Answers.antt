use Rattle.std.proofs.Common.{◌∙◌, ap, refl, sym}
use Rattle.ft_op.specs.declared.operations.ChannelOp.TheVariants.{Grid as GridOf}
use Rattle.ft_op.specs.Operation.{sub_operations}
use Rattle.ft_msg.specs.Client.{local_sub_operations}
use Rattle.ft_client.specs.declared.stages.Part.TheVariants.{Grid}
use Rattle.ft_client.specs.Holds.{HoldsTree}
use Rattle.ft_client.specs.Notes.{Notes}
use Rattle.ft_client.specs.Numbers.{NumberState}
use Rattle.ft_client.proofs.Answered.{not-err, on-ok}
use Rattle.ft_client.proofs.Edits.{above-table, grid-taken, next-first, noted-answer}
use Rattle.ft_client.proofs.own.TreeOwn.edit_table.Goals as goal

pub edit_telling-requires-clause-above : goal.edit_telling-requires-clause-above
edit_telling-requires-clause-above g c = above-table c.args.self.now c.args.first c.requires.known

pub note-requires : goal.note-requires
note-requires g c =
    let counted = not-err c.count_units.result c.count_units.ensures (sym c.is_err.ensures.value ∙ c.if-is_err.false) in
    next-first c.args.self.now c.args.first c.requires.known c.count_units.new.self (ap (λ (n : NumberState). n.last) counted)

pub returns-clause-answers : goal.returns-clause-answers
returns-clause-answers g c = λ held named e h.
    let old = c.args.self.now in
    let new = record c.args.self.now { table = c.edit_telling.new.self; stages = c.note.new.stages; numbers = c.note.new.numbers } in
    let mid = c.count_units.new.self in
    noted-answer (HoldsTree new) held (local_sub_operations held.doc held.stages c.args.first (sub_operations (GridOf c.args.op.now)))
    (λ n. Notes c.args.first c.in_ok-count.count Grid n old.stages.items new.stages.items mid new.numbers) c.note.result c.note.ensures.noted c.note.ensures.err
    (λ n notes. grid-taken old new held h c.args.first c.args.op.now c.in_ok-count.count n c.in-Ok.rows c.in-Ok-units_of.cols mid
    (c.in_ok-count.ensures.answers held.last held.doc held.stages (sym e) named h.table) c.in_ok-count.ensures.rest refl c.in-Ok.ensures c.in-Ok-units_of.ensures
    (not-err c.count_units.result c.count_units.ensures (sym c.is_err.ensures.value ∙ c.if-is_err.false)) notes)

pub returns-clause-told : goal.returns-clause-told
returns-clause-told g c = λ held named e h.
    on-ok c.note.result (c.in_ok-count.ensures.told held.last held.doc held.stages (sym e) named h.table)
