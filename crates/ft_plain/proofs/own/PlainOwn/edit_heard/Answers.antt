use Rattle.std.proofs.Common.{◌≡◌, ◌+◌, List, Err, ap, refl, subst, sym, ◌∙◌, rules}
use Rattle.ft_op.specs.Operation.{sub_operations}
use Rattle.ft_op.specs.Stages.{Stage}
use Rattle.ft_msg.specs.Client.{local_sub_operations}
use Rattle.ft_plain.specs.Own.{HoldsExactly, PlainState}
use Rattle.ft_plain.proofs.PlainSteps.{edit-refused}
use Rattle.ft_plain.proofs.own.PlainOwn.edit_heard.Goals as goal

-- each document that it holds refuses the edit, and it still holds it
pub returns-in-Err-Refused-clause-answers : goal.returns-in-Err-Refused-clause-answers
returns-in-Err-Refused-clause-answers c = λ held last h.
    let i = c.self.inside in
    let ops = sub_operations c.args.op.now in
    let old : PlainState = record { doc = i.doc; stages = i.stages } in
    let new : PlainState = record { doc = c.edit.new.self; stages = i.stages } in
    let first : c.in-Some.first ≡ c.args.last + 1 = search rules in
    let answer = rw c.in-Err-Refused.field-0-is at c.in-Err-Refused.ensures.answers in
    let made : local_sub_operations i.doc i.stages (c.args.last + 1) ops ≡ Err c.in-Err-Refused.fault =
    ap (λ k. local_sub_operations i.doc i.stages k ops) (sym first) ∙ ap (λ (ss : List Stage). local_sub_operations i.doc ss c.in-Some.first ops) (sym c.as_slice.ensures) ∙ answer in
    let same = rw c.in-Err-Refused.field-0-is at c.in-Err-Refused.ensures.refused in
    edit-refused old new c.args.last ops held (subst (λ (d : PlainState). HoldsExactly d held) (sym c.self.view_is) h) c.in-Err-Refused.fault made same refl
