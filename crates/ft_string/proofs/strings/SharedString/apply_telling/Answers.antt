use Rattle.std.proofs.Common.{rules, ◌≡◌, true, IfOk, OnOk, map, sym, ◌∙◌, ap, subst}
use Rattle.std.proofs.lemmas.Result.{on_ok_weaker}
use Rattle.ft_changes.specs.Listeners.{heard}
use Rattle.ft_changes.specs.Told.{told_sub_operations}
use Rattle.ft_interval_store.specs.State.{is_interval_operation}
use Rattle.ft_op.specs.Document.{effects}
use Rattle.ft_op.specs.Operation.{OnText, text_sub_operations}
use Rattle.ft_string.specs.Calls.{IsApplied}
use Rattle.ft_string.proofs.KindsOfText.{one_on_intervals}
use Rattle.ft_string.proofs.ToldTexts.{intervals-silent}
use Rattle.ft_string.proofs.strings.SharedString.apply_telling.Goals as goal

pub returns-in-One-clause-applied : goal.returns-in-One-clause-applied
returns-in-One-clause-applied g c last doc stages sound holds =
    let same : map (λ op. OnText op) c.from_ref.result.now ≡ text_sub_operations c.args.op.now =
    ap (λ os. map (λ op. OnText op) os) c.from_ref.ensures.value ∙ sym (ap text_sub_operations c.in-One.is) in
    subst (λ os. IfOk c.apply_to_elements.result (IsApplied c.apply_to_elements.new.self doc
    (effects doc c.args.seq c.args.at.c c.args.at.r os) stages)) same
    (c.apply_to_elements.ensures.applied last doc stages sound holds)

pub returns-in-IntervalAdd-clause-applied : goal.returns-in-IntervalAdd-clause-applied
returns-in-IntervalAdd-clause-applied g c last doc stages sound holds =
    let kind : is_interval_operation c.args.op.now ≡ true = search rules in
    subst (λ os. IfOk c.apply_to_intervals.result (IsApplied c.apply_to_intervals.new.self doc
    (effects doc c.args.seq c.args.at.c c.args.at.r os) stages))
    (sym (one_on_intervals c.args.op.now kind)) (c.apply_to_intervals.ensures.applied last doc stages sound holds)

pub returns-in-One-clause-told : goal.returns-in-One-clause-told
returns-in-One-clause-told g c last doc stages sound holds =
    let same : map (λ op. OnText op) c.from_ref.result.now ≡ text_sub_operations c.args.op.now =
    ap (λ os. map (λ op. OnText op) os) c.from_ref.ensures.value ∙ sym (ap text_sub_operations c.in-One.is) in
    subst (λ os. OnOk c.apply_to_elements.result (c.apply_to_elements.new.listener ≡ heard c.args.listener.now
    (told_sub_operations last doc c.args.seq c.args.at.c c.args.at.r os))) same
    (c.apply_to_elements.ensures.told last doc stages sound holds)

pub returns-in-IntervalAdd-clause-told : goal.returns-in-IntervalAdd-clause-told
returns-in-IntervalAdd-clause-told g c last doc stages sound holds =
    let kind : is_interval_operation c.args.op.now ≡ true = search rules in
    on_ok_weaker c.apply_to_intervals.result
    (λ keeps. intervals-silent c.args.listener.now last c.args.seq c.args.at.c c.args.at.r doc c.args.op.now kind) c.apply_to_intervals.ensures.rest
