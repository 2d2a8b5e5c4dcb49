use Rattle.std.proofs.Common.{◌++◌, ◌||◌, ◌∙◌, ap, filter, map, subst, sym}
use Rattle.ft_op.specs.Operation.{sub_operations}
use Rattle.ft_op.specs.Stages.{Stage}
use Rattle.ft_sumdoc.specs.declared.summary.IntervalRec.{IntervalRec}
use Rattle.ft_changes.specs.Beside.{is_changed_by}
use Rattle.ft_interval_store.specs.Gathered.{is_on_any}
use Rattle.ft_interval_store.specs.Named.{is_operation_on, name_of_record}
use Rattle.ft_string.specs.Holds.{HoldsText}
use Rattle.ft_string.proofs.CarriedIntervals.{intervals-alike}
use Rattle.ft_string.proofs.NamedStages.{filter-alike, operation-alike, pending-alike, swapped}
use Rattle.ft_string.proofs.strings.SharedString.shown_around.Goals as goal

pub returns : goal.returns
returns c last doc stages sound holds =
    let a = c.self.inside in
    let op = c.args.op.now in
    let here = subst (λ s. HoldsText s doc stages) (sym c.self.view_is) holds in
    let same = intervals-alike a.tree a.intervals.state (a.again.items ++ a.ops.items) a.given last a.usable doc stages sound here
    c.first_stage-first.ensures.names (c.made_in-made.ensures.few 18446744073709551615) in
    let pending = a.intervals.state.pending in
    let own = λ (i : IntervalRec). is_changed_by (sub_operations op) i in
    let theirs = λ (i : IntervalRec). is_changed_by (map (λ (t : Stage). t.sub_operation) stages) i in
    let alike = λ (i : IntervalRec).
    ap (λ b. b || is_operation_on (name_of_record i) op) (pending-alike i a.tree.refs doc pending stages here.interval_ops)
    ∙ ap (λ b. theirs i || b) (operation-alike op i) ∙ swapped (theirs i) (own i) in
    c.of.ensures ∙ c.in_ok-some.ensures
    ∙ filter-alike (λ i. is_on_any (name_of_record i) pending || is_operation_on (name_of_record i) op) (λ i. own i || theirs i) alike _
    ∙ ap (filter (λ i. own i || theirs i)) same
