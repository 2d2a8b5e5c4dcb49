use Rattle.std.proofs.Common.{◌≡◌, ◌∙◌, List, ap, filter, inl, inr, map, subst, sym}
use Rattle.std.specs.Prelude.{IfOk}
use Rattle.ft_op.specs.declared.operations.TextOp.{TextOp}
use Rattle.ft_sumdoc.specs.declared.summary.IntervalRec.{IntervalRec}
use Rattle.ft_interval_store.specs.Intervals.{is_on}
use Rattle.ft_interval_store.specs.Named.{name_of_record}
use Rattle.ft_interval_store.specs.Shown.{shown_intervals, shown_record}
use Rattle.ft_interval_store.specs.State.{placed_intervals, placed_operations, text_elements}
use Rattle.ft_interval_store.proofs.NamedIntervals.{filter-none}
use Rattle.ft_interval_store.proofs.named.shown_of_text.Goals as goal

pub returns-in-IntervalAdd : goal.returns-in-IntervalAdd
returns-in-IntervalAdd c =
    let xs = text_elements c.args.tree.now in
    let refs = c.args.tree.now.refs in
    let all = map (shown_record xs) (shown_intervals xs (placed_intervals refs c.args.acked.now) (placed_operations refs c.args.pending.now.items)) in
    let d = c.shown_named in
    subst (λ (o : TextOp). IfOk d.result (λ some. some.items ≡ filter (λ i. is_on (name_of_record i) o) all)) (sym c.in-IntervalAdd.is) d.ensures

pub returns-in-IntervalChange : goal.returns-in-IntervalChange
returns-in-IntervalChange c =
    let xs = text_elements c.args.tree.now in
    let refs = c.args.tree.now.refs in
    let all = map (shown_record xs) (shown_intervals xs (placed_intervals refs c.args.acked.now) (placed_operations refs c.args.pending.now.items)) in
    let d = c.shown_named-in-IntervalChange in
    subst (λ (o : TextOp). IfOk d.result (λ some. some.items ≡ filter (λ i. is_on (name_of_record i) o) all)) (sym c.in-IntervalChange.is) d.ensures

pub returns-in-IntervalDelete : goal.returns-in-IntervalDelete
returns-in-IntervalDelete c =
    let xs = text_elements c.args.tree.now in
    let refs = c.args.tree.now.refs in
    let all = map (shown_record xs) (shown_intervals xs (placed_intervals refs c.args.acked.now) (placed_operations refs c.args.pending.now.items)) in
    let d = c.shown_named-in-IntervalDelete in
    subst (λ (o : TextOp). IfOk d.result (λ some. some.items ≡ filter (λ i. is_on (name_of_record i) o) all)) (sym c.in-IntervalDelete.is) d.ensures

pub returns-in-One : goal.returns-in-One
returns-in-One c =
    let xs = text_elements c.args.tree.now in
    let refs = c.args.tree.now.refs in
    let all = map (shown_record xs) (shown_intervals xs (placed_intervals refs c.args.acked.now) (placed_operations refs c.args.pending.now.items)) in
    let some : TextOp → List IntervalRec = λ o. filter (λ i. is_on (name_of_record i) o) all in
    c.new.ensures.items ∙ sym (elim c.in-One.is [ inl h ↦ ap some h.1 ∙ filter-none all | inr h ↦ ap some h.1 ∙ filter-none all ])
