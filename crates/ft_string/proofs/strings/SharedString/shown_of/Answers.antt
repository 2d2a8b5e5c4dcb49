use Rattle.std.proofs.Common.{◌++◌, ◌∙◌, ap, filter, subst, sym}
use Rattle.ft_op.specs.Operation.{sub_operations}
use Rattle.ft_changes.specs.Beside.{is_changed_by}
use Rattle.ft_interval_store.specs.Named.{is_operation_on, name_of_record}
use Rattle.ft_string.specs.Holds.{HoldsText}
use Rattle.ft_string.proofs.CarriedIntervals.{intervals-alike}
use Rattle.ft_string.proofs.NamedStages.{filter-alike, operation-alike}
use Rattle.ft_string.proofs.strings.SharedString.shown_of.Goals as goal

pub returns : goal.returns
returns c last doc stages sound holds =
    let a = c.self.inside in
    let op = c.args.op.now in
    let here = subst (λ s. HoldsText s doc stages) (sym c.self.view_is) holds in
    let same = intervals-alike a.tree a.intervals.state (a.again.items ++ a.ops.items) a.given last a.usable doc stages sound here
    c.first_stage-first.ensures.names (c.made_in-made.ensures.few 18446744073709551615) in
    c.of.ensures ∙ c.in_ok-some.ensures ∙ filter-alike (λ i. is_operation_on (name_of_record i) op) (is_changed_by (sub_operations op)) (operation-alike op) _
    ∙ ap (filter (is_changed_by (sub_operations op))) same
