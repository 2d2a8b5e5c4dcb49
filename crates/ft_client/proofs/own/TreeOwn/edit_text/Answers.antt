use Rattle.std.proofs.Common.{refl, subst}
use Rattle.std.proofs.lemmas.Result.{err_from_is_err_and}
use Rattle.ft_op.specs.Operation.{text_sub_operations}
use Rattle.ft_msg.specs.Client.{local_sub_operations}
use Rattle.ft_client.specs.Holds.{HoldsTree}
use Rattle.ft_client.specs.Notes.{Notes}
use Rattle.ft_client.proofs.Answered.{on-ok}
use Rattle.ft_client.proofs.Edits.{holds-some, next-first, noted-answer, sound-before, text-refused, text-taken}
use Rattle.ft_client.proofs.own.TreeOwn.edit_text.Goals as goal

pub edit_telling-requires-clause-held : goal.edit_telling-requires-clause-held
edit_telling-requires-clause-held g c = holds-some c.args.self.now c.args.first c.requires.known

pub note-requires : goal.note-requires
note-requires g c = next-first c.args.self.now c.args.first c.requires.known c.args.self.now.numbers refl

pub returns-in_err-count-clause-answers : goal.returns-in_err-count-clause-answers
returns-in_err-count-clause-answers g c = λ held named e h.
    let p = err_from_is_err_and c.from_residual.result c.from_residual.ensures.1 in
    rw (p.1, p.2)
    (text-refused c.args.self.now (record c.args.self.now { text = c.edit_telling.new.self }) held h c.args.first _ c.in_err-count.field-0.0
    (c.in_err-count.ensures.answers held.doc held.stages (sound-before c.args.self.now c.args.first c.requires.known held named e h) h.text) c.in_err-count.ensures.leaves refl)

pub returns-clause-answers : goal.returns-clause-answers
returns-clause-answers g c = λ held named e h.
    let old = c.args.self.now in
    let new = record c.args.self.now { text = c.edit_telling.new.self; stages = c.note.new.stages; numbers = c.note.new.numbers } in
    noted-answer (HoldsTree new) held (local_sub_operations held.doc held.stages c.args.first (text_sub_operations c.args.op.now))
    (λ n. Notes c.args.first c.in_ok-count.count c.text_part.result n old.stages.items new.stages.items old.numbers new.numbers)
    c.note.result c.note.ensures.noted c.note.ensures.err
    (λ n notes. text-taken old new held h c.args.first c.args.op.now c.in_ok-count.count n
    (c.in_ok-count.ensures.answers held.doc held.stages (sound-before old c.args.first c.requires.known held named e h) h.text) c.in_ok-count.ensures.rest refl
    (subst (λ part. Notes c.args.first c.in_ok-count.count part n old.stages.items new.stages.items old.numbers new.numbers) c.text_part.ensures notes))

pub returns-clause-told : goal.returns-clause-told
returns-clause-told g c = λ held named e h.
    on-ok c.note.result (c.in_ok-count.ensures.told held.doc held.stages
    (sound-before c.args.self.now c.args.first c.requires.known held named e h) h.text)
