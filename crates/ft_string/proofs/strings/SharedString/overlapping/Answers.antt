use Rattle.std.proofs.Common.{◌≡◌, ℕ, ◌+◌, ◌≤◌, ◌++◌, ◌∙◌, ap, arith, filter, length}
use Rattle.std.proofs.lemmas.Result.{IfOk-weaker}
use Rattle.ft_interval_index.specs.Indexes.{index_of, list_in}
use Rattle.ft_string.specs.State.{TextState, has_label}
use Rattle.ft_string.proofs.FewNodes.{as-labelled, as-many, few-nodes, same-shown}
use Rattle.ft_string.proofs.strings.SharedString.overlapping.Goals as goal

no-deeper : (p items acked all : ℕ) → p ≤ items + 1 → items ≤ acked → acked ≡ all → p ≤ all + 1
no-deeper p items acked all deep few same = omega (arith, deep, few, same)

pub returns-clause-found : goal.returns-clause-found
returns-clause-found g c last doc stages sound holds =
    let a = c.self.inside in
    IfOk-weaker c.overlapping.result _ _ (λ found h. h ∙ same-shown a.tree a.intervals.state (a.again.items ++ a.ops.items) a.given last a.usable c.args.self.now
    c.self.view_is doc stages sound holds c.first_stage-first.ensures.names (c.made_in-made.ensures.few 18446744073709551615)
    c.args.label.now c.args.a c.args.b) c.overlapping.ensures.found

pub returns-clause-cost : goal.returns-clause-cost
returns-clause-cost g c last doc stages sound holds =
    let a = c.self.inside in
    let e = c.overlapping.ensures in
    let d = (list_in (index_of c.args.label.now a.intervals.indexes)).depth in
    let all = as-many a.tree.refs a.intervals.state.acked ∙ ap (λ (s : TextState). length s.intervals) c.self.view_is in
    few-nodes a.tree a.intervals.state (a.again.items ++ a.ops.items) a.given last a.usable c.args.self.now c.self.view_is doc stages sound holds
    c.first_stage-first.ensures.names (c.made_in-made.ensures.few 18446744073709551615) c.args.label.now c.args.a c.args.b d _ c.args.steps.now c.overlapping.new.steps
    (no-deeper _ _ _ _ e.depth e.few all) e.cost

pub returns-clause-labelled : goal.returns-clause-labelled
returns-clause-labelled g c last doc stages sound holds =
    let a = c.self.inside in
    let e = c.overlapping.ensures in
    let label = c.args.label.now in
    let d = (list_in (index_of label a.intervals.indexes)).depth in
    let all = as-labelled a.tree.refs label a.intervals.state.acked ∙ ap (λ (s : TextState). length (filter (has_label label) s.intervals)) c.self.view_is in
    few-nodes a.tree a.intervals.state (a.again.items ++ a.ops.items) a.given last a.usable c.args.self.now c.self.view_is doc stages sound holds
    c.first_stage-first.ensures.names (c.made_in-made.ensures.few 18446744073709551615) label c.args.a c.args.b d _ c.args.steps.now c.overlapping.new.steps
    (no-deeper _ _ _ _ e.depth e.labelled all) e.cost
