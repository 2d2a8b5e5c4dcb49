use Rattle.std.proofs.Common.{map, sym, subst}
use Rattle.std.specs.Prelude.{OnOk}
use Rattle.ft_op.specs.declared.operations.TextOp.{TextOp}
use Rattle.ft_interval_store.specs.Gathered.{Gathers}
use Rattle.ft_interval_store.specs.Intervals.{is_on}
use Rattle.ft_interval_store.specs.Named.{AddsNoOther}
use Rattle.ft_interval_store.specs.Shown.{settled_interval}
use Rattle.ft_interval_store.specs.State.{placed_intervals, text_elements}
use Rattle.ft_interval_store.proofs.all.add_changed.Goals as goal

pub returns-in-IntervalAdd-clause-gathers : goal.returns-in-IntervalAdd-clause-gathers
returns-in-IntervalAdd-clause-gathers c =
    let from = map (settled_interval (text_elements c.args.tree.now) 0) (placed_intervals c.args.tree.now.refs c.args.acked.now) in
    let d = c.add_named in
    subst (λ (o : TextOp). OnOk d.result (Gathers c.args.tree.now from (λ n. is_on n o) c.args.all.now d.new.all)) (sym c.in-IntervalAdd.is) d.ensures.gathers

pub returns-in-IntervalAdd-clause-only : goal.returns-in-IntervalAdd-clause-only
returns-in-IntervalAdd-clause-only c =
    let d = c.add_named in
    subst (λ (o : TextOp). OnOk d.result (AddsNoOther (λ n. is_on n o) c.args.all.now d.new.all)) (sym c.in-IntervalAdd.is) d.ensures.only

pub returns-in-IntervalChange-clause-gathers : goal.returns-in-IntervalChange-clause-gathers
returns-in-IntervalChange-clause-gathers c =
    let from = map (settled_interval (text_elements c.args.tree.now) 0) (placed_intervals c.args.tree.now.refs c.args.acked.now) in
    let d = c.add_named-in-IntervalChange in
    subst (λ (o : TextOp). OnOk d.result (Gathers c.args.tree.now from (λ n. is_on n o) c.args.all.now d.new.all)) (sym c.in-IntervalChange.is) d.ensures.gathers

pub returns-in-IntervalChange-clause-only : goal.returns-in-IntervalChange-clause-only
returns-in-IntervalChange-clause-only c =
    let d = c.add_named-in-IntervalChange in
    subst (λ (o : TextOp). OnOk d.result (AddsNoOther (λ n. is_on n o) c.args.all.now d.new.all)) (sym c.in-IntervalChange.is) d.ensures.only

pub returns-in-IntervalDelete-clause-gathers : goal.returns-in-IntervalDelete-clause-gathers
returns-in-IntervalDelete-clause-gathers c =
    let from = map (settled_interval (text_elements c.args.tree.now) 0) (placed_intervals c.args.tree.now.refs c.args.acked.now) in
    let d = c.add_named-in-IntervalDelete in
    subst (λ (o : TextOp). OnOk d.result (Gathers c.args.tree.now from (λ n. is_on n o) c.args.all.now d.new.all)) (sym c.in-IntervalDelete.is) d.ensures.gathers

pub returns-in-IntervalDelete-clause-only : goal.returns-in-IntervalDelete-clause-only
returns-in-IntervalDelete-clause-only c =
    let d = c.add_named-in-IntervalDelete in
    subst (λ (o : TextOp). OnOk d.result (AddsNoOther (λ n. is_on n o) c.args.all.now d.new.all)) (sym c.in-IntervalDelete.is) d.ensures.only
