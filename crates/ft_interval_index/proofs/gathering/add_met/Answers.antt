use Rattle.std.proofs.Common.{List, ℕ, subst, ◌∙◌, map}
use Rattle.ft_interval_store.specs.Gathered.{Gathers}
use Rattle.ft_interval_store.specs.Shown.{settled_interval}
use Rattle.ft_interval_store.specs.State.{placed_intervals, text_elements}
use Rattle.ft_interval_index.specs.Indexes.{is_found, labelled}
use Rattle.ft_interval_index.proofs.gathering.add_met.Goals as goal

pub returns-clause-part : goal.returns-clause-part
returns-clause-part g c =
    let tree = c.args.tree.now in
    let from = map (settled_interval (text_elements tree) 0) (placed_intervals tree.refs c.args.store.now.acked) in
    subst (λ (keys : List ℕ). Gathers tree from (λ n. is_found n (labelled c.args.label.now c.args.index.now) keys) c.args.all c.add_found.new.all)
    (c.as_slice.ensures.value ∙ c.in_ok-keys.ensures.keys) c.in_ok-add_found.ensures
