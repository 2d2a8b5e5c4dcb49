use Rattle.std.proofs.Common.{Option, Some, sym, ◌∙◌, ap}
use Rattle.std.specs.Option.{option_and}
use Rattle.ft_op.specs.declared.operations.Ends.{Ends}
use Rattle.ft_op.specs.declared.operations.TextOp.{TextOp}
use Rattle.ft_op.specs.declared.operations.TextOp.TheVariants.{IntervalAdd, IntervalChange}
use Rattle.ft_interval_store.specs.Shown.{regenerated}
use Rattle.ft_interval_store.proofs.WrittenNumbers.{changed-again}
use Rattle.ft_interval_store.proofs.numbers.with_ends.Goals as goal

pub returns-in-IntervalAdd : goal.returns-in-IntervalAdd
returns-in-IntervalAdd c = λ xs k now n.
    ap (λ (e : Ends). IntervalAdd c.in-IntervalAdd.label c.in-IntervalAdd.id e c.in-IntervalAdd.props) n
    ∙ sym (ap (λ (o : TextOp). regenerated xs k now o) c.in-IntervalAdd.is)

pub returns-in-IntervalChange : goal.returns-in-IntervalChange
returns-in-IntervalChange c = λ xs k now n.
    let given = c.in-IntervalChange.given in
    let again = c.and.ensures ∙ ap (λ (e : Ends). option_and given (Some e)) n in
    ap (λ (e : Option Ends). IntervalChange c.in-IntervalChange.label c.in-IntervalChange.id e c.in-IntervalChange.props) again
    ∙ changed-again xs k now given c.in-IntervalChange.label c.in-IntervalChange.id c.in-IntervalChange.props
    ∙ sym (ap (λ (o : TextOp). regenerated xs k now o) c.in-IntervalChange.is)
