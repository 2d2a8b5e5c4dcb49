use Rattle.std.proofs.Common.{◌≡◌, ◌+◌, ◌*◌, ◌^◌, ◌≤◌, ℕ, List, filter, length, map, sym, subst}
use Rattle.std.specs.Prelude.{IfOk}
use Rattle.ft_props.specs.Keys.{Characters}
use Rattle.ft_sumdoc.specs.declared.summary.IntervalRec.{IntervalRec}
use Rattle.ft_sumdoc.specs.Meeting.{meets}
use Rattle.ft_tree_leaves.specs.declared.text.TextContent.{TextContent}
use Rattle.ft_tree.specs.State.{TreeState}
use Rattle.ft_interval_store.specs.Intervals.{has_label}
use Rattle.ft_interval_store.specs.Shown.{shown_intervals, shown_record}
use Rattle.ft_interval_store.specs.State.{CollectionsState, placed_intervals, placed_operations, text_elements}
use Rattle.ft_interval_index.specs.Indexes.{index_of, list_in}
use Rattle.ft_interval.specs.State.{IndexedState, StandsOn}
use Rattle.ft_interval.proofs.collections.Collections.overlapping.Goals as goal

-- those that are shown and meet the range
abbrev answers : TreeState TextContent → Characters → ℕ → ℕ → CollectionsState → List IntervalRec
answers tree label a b c =
    let xs = text_elements tree in
    filter (meets label a b) (map (shown_record xs) (shown_intervals xs (placed_intervals tree.refs c.acked) (placed_operations tree.refs c.pending)))

pub overlapping-requires-clause-live : goal.overlapping-requires-clause-live
overlapping-requires-clause-live g c = (subst (λ (x : IndexedState). StandsOn c.args.tree.now x) (sym c.self.view_is) c.requires.stands).live

pub overlapping-requires-clause-listed : goal.overlapping-requires-clause-listed
overlapping-requires-clause-listed g c =
    let tree = c.args.tree.now in
    (subst (λ (x : IndexedState). StandsOn tree x) (sym c.self.view_is) c.requires.stands).listed

pub returns-clause-found : goal.returns-clause-found
returns-clause-found g c =
    subst (λ (x : IndexedState). IfOk c.overlapping.result (λ found. found.items ≡ answers c.args.tree.now c.args.label.now c.args.a c.args.b x.state))
    c.self.view_is c.overlapping.ensures.found

pub returns-clause-cost : goal.returns-clause-cost
returns-clause-cost g c =
    let label = c.args.label.now in
    subst (λ (x : IndexedState). c.overlapping.new.steps ≤ c.args.steps.now + 9 * ((list_in (index_of label x.indexes)).depth + 1)
    * (length (answers c.args.tree.now label c.args.a c.args.b x.state) + length x.state.pending + 1)) c.self.view_is c.overlapping.ensures.cost

pub returns-clause-depth : goal.returns-clause-depth
returns-clause-depth g c =
    let label = c.args.label.now in
    subst (λ (x : IndexedState). 4 ^ (list_in (index_of label x.indexes)).depth ≤ length (list_in (index_of label x.indexes)).items + 1)
    c.self.view_is c.overlapping.ensures.depth

pub returns-clause-few : goal.returns-clause-few
returns-clause-few g c =
    let label = c.args.label.now in
    subst (λ (x : IndexedState). length (list_in (index_of label x.indexes)).items ≤ length x.state.acked) c.self.view_is c.overlapping.ensures.few

pub returns-clause-labelled : goal.returns-clause-labelled
returns-clause-labelled g c =
    let label = c.args.label.now in
    subst (λ (x : IndexedState). length (list_in (index_of label x.indexes)).items ≤ length (filter (has_label label) x.state.acked)) c.self.view_is
    c.overlapping.ensures.labelled
