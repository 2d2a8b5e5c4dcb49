use Rattle.std.proofs.Common.{rules, ◌≡◌, ◌++◌, ◌∷◌, [], map, length, ◌+◌, arith, ap, sym, ◌∙◌, length-append}
use Rattle.ft_op.specs.Stages.{Stage}
use Rattle.ft_msg.specs.Client.{local_sub_operations}
use Rattle.ft_plain_document.specs.OwnEdits.{with_stages}
use Rattle.ft_plain_document.specs.SubOperations.{sub_operation_of}
use Rattle.ft_changes.specs.Told.{told_local, told_locals}
use Rattle.ft_changes.specs.Listeners.{heard}
use Rattle.ft_changes.proofs.HeardChanges.{heard-more}
use Rattle.ft_plain_document.proofs.OwnSteps.{first_taken, first_told}
use Rattle.ft_plain_document.proofs.documents.PlainDocument.take_all.Goals as goal

pub loop-op-preserved : goal.loop-op-preserved
loop-op-preserved c =
    let l = c.loop-op in
    let pending = c.args.pending.now in
    let op = c.in-Some.op in
    let rest = c.pop_front.new.self.items in
    let new = c.take_one.new.self in
    let taken = c.in_ok-take_one.ensures.taken in
    let names = taken.names in
    let here : Stage = record { stage = l.stage; sub_operation = sub_operation_of op; names = names } in
    let popped : l.ops.items ≡ op ∷ rest = search rules in
    let pushed : c.take_one.new.stages ≡ l.stages ++ (here ∷ []) = taken.adds in
    let next : c.in_ok-stage.stage ≡ l.stage + 1 = search rules in
    let one_longer = length-append l.stages (here ∷ []) in
    let made = sym (first_taken l.self pending l.stages l.stage (sub_operation_of op) (map sub_operation_of rest) (new, names) taken.takes)
    ∙ ap (λ ops. with_stages l.stages (local_sub_operations l.self (pending ++ l.stages) l.stage (map sub_operation_of ops))) (sym popped)
    ∙ l.invariant.made in
    let sub = sub_operation_of op in
    let others = map sub_operation_of rest in
    let behind = told_locals new (pending ++ (l.stages ++ (here ∷ []))) (l.stage + 1) others in
    let told = ap (λ listener. heard listener behind) c.in_ok-tell_local.ensures
    ∙ heard-more l.listener (told_local l.stage l.self sub) behind
    ∙ ap (heard l.listener) (sym (first_told l.self pending l.stages l.stage sub others (new, names) taken.takes))
    ∙ ap (λ ops. heard l.listener (told_locals l.self (pending ++ l.stages) l.stage (map sub_operation_of ops))) (sym popped)
    ∙ l.invariant.told in
    record {
      made = rw (pushed, next) made;
      counted = omega (arith, l.invariant.counted, ap length popped, ap length pushed, one_longer);
      told = rw (pushed, next) told;
      untouched = λ none. absurd (omega (arith, ap length (sym pushed ∙ none), one_longer));
    }
