use Rattle.std.proofs.Common.{get_or, ◌+◌, ◌&&◌, ◌||◌, ℕ, List, [], Some, map, take, sym, ◌∙◌, subst}
use Rattle.std.specs.Ordering.{is_eq}
use Rattle.std.proofs.lemmas.List.{take_all}
use Rattle.ft_props.specs.Keys.{text_cmp}
use Rattle.ft_interval_store.specs.Gathered.{Gathers}
use Rattle.ft_interval_store.specs.Shown.{settled_interval}
use Rattle.ft_interval_store.specs.State.{placed_intervals, text_elements}
use Rattle.ft_interval_index.specs.Indexes.{id_in, is_found, is_id, labelled}
use Rattle.ft_interval_index.proofs.GatheringSteps.{found-more, gathers-less, gathers-none, gathers-then, none-found}
use Rattle.ft_interval_index.proofs.gathering.add_found.Goals as goal

pub loop-key-init : goal.loop-key-init
loop-key-init c =
    let tree = c.args.tree.now in
    let from = map (settled_interval (text_elements tree) 0) (placed_intervals tree.refs c.args.store.now.acked) in
    gathers-none tree from (λ n. is_found n (labelled c.args.label.now c.args.index.now) []) c.args.all.now (λ n. none-found n (labelled
    c.args.label.now c.args.index.now))

pub loop-key-preserved : goal.loop-key-preserved
loop-key-preserved c =
    let tree = c.args.tree.now in
    let x = labelled c.args.label.now c.args.index.now in
    let from = map (settled_interval (text_elements tree) 0) (placed_intervals tree.refs c.args.store.now.acked) in
    let i = c.loop-key.key-index in
    let keys = c.args.keys.now in
    let k = get_or keys i 0 in
    gathers-less tree from (λ n. is_found n x (take i keys) || (is_eq (text_cmp n.0 x.label) && is_id n.1 (id_in (Some x) k))) (λ n. is_found n x (take (i + 1) keys))
    c.args.all.now c.add_found_one.new.all (λ n e. sym (found-more n x keys i c.loop-key-test.true) ∙ e)
    (gathers-then tree from (λ n. is_found n x (take i keys)) (λ n. is_eq (text_cmp n.0 x.label) && is_id n.1 (id_in (Some x) k))
    c.args.all.now c.loop-key.all c.add_found_one.new.all c.loop-key.invariant c.in_ok-add_found_one.ensures)

pub returns : goal.returns
returns c =
    let tree = c.args.tree.now in
    let from = map (settled_interval (text_elements tree) 0) (placed_intervals tree.refs c.args.store.now.acked) in
    subst (λ (keys : List ℕ). Gathers tree from (λ n. is_found n (labelled c.args.label.now c.args.index.now) keys) c.args.all.now c.loop-key.all)
    (take_all c.loop-key.key-index c.args.keys.now c.loop-key-test.false) c.loop-key.invariant
