use Rattle.std.proofs.Common.{sym, ◌∙◌, ap, subst}
use Rattle.std.specs.Prelude.{IfOk}
use Rattle.std.proofs.lemmas.Result.{on_ok_weaker}
use Rattle.ft_op.specs.declared.operations.TextOp.{TextOp}
use Rattle.ft_interval_store.specs.Intervals.{Name, after_operation, place_of_operation}
use Rattle.ft_interval_store.specs.State.{IsEndsAfter}
use Rattle.ft_interval_store.proofs.intervals.Intervals.apply.Goals as goal

pub returns-in-IntervalAdd-clause-ok : goal.returns-in-IntervalAdd-clause-ok
returns-in-IntervalAdd-clause-ok g c =
    on_ok_weaker c.add.result (λ e. e ∙ ap (λ o. after_operation o c.args.ends c.args.self.now) (sym c.in-IntervalAdd.is)) (c.add.ensures.ok c.in-IntervalAdd.ends)

pub returns-in-IntervalChange-clause-ok : goal.returns-in-IntervalChange-clause-ok
returns-in-IntervalChange-clause-ok g c =
    let n : Name = (c.in-IntervalChange.label, c.in-IntervalChange.id) in
    let place = c.requires.place ∙ ap (λ (o : TextOp). place_of_operation o c.args.self.now) c.in-IntervalChange.is in
    on_ok_weaker c.change.result (λ e. e ∙ ap (λ o. after_operation o c.args.ends c.args.self.now) (sym c.in-IntervalChange.is)) (c.change.ensures.ok n place)

pub returns-in-IntervalChange-clause-ends : goal.returns-in-IntervalChange-clause-ends
returns-in-IntervalChange-clause-ends g c =
    let n : Name = (c.in-IntervalChange.label, c.in-IntervalChange.id) in
    let place = c.requires.place ∙ ap (λ (o : TextOp). place_of_operation o c.args.self.now) c.in-IntervalChange.is in
    subst (λ (o : TextOp). IfOk c.change.result (IsEndsAfter o c.args.ends c.args.self.now c.change.new.self)) (sym c.in-IntervalChange.is) (c.change.ensures.ends n place)

pub returns-in-IntervalDelete-clause-ok : goal.returns-in-IntervalDelete-clause-ok
returns-in-IntervalDelete-clause-ok g c =
    let n : Name = (c.in-IntervalDelete.label, c.in-IntervalDelete.id) in
    let place = c.requires.place ∙ ap (λ (o : TextOp). place_of_operation o c.args.self.now) c.in-IntervalDelete.is in
    c.delete.ensures.ok n place ∙ ap (λ o. after_operation o c.args.ends c.args.self.now) (sym c.in-IntervalDelete.is)

pub returns-in-IntervalDelete-clause-ends : goal.returns-in-IntervalDelete-clause-ends
returns-in-IntervalDelete-clause-ends g c =
    let n : Name = (c.in-IntervalDelete.label, c.in-IntervalDelete.id) in
    let place = c.requires.place ∙ ap (λ (o : TextOp). place_of_operation o c.args.self.now) c.in-IntervalDelete.is in
    subst (λ (o : TextOp). IsEndsAfter o c.args.ends c.args.self.now c.delete.new.self c.delete.result) (sym c.in-IntervalDelete.is) (c.delete.ensures.ends n place)
