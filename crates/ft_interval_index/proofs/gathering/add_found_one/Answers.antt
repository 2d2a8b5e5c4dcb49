use Rattle.std.proofs.Common.{◌≡◌, ◌&&◌, None, Some, option_copied, map, sym, ◌∙◌, ap}
use Rattle.std.specs.Ordering.{is_eq}
use Rattle.std.proofs.lemmas.Result.{on_ok_weaker}
use Rattle.ft_props.specs.Keys.{text_cmp}
use Rattle.ft_interval_store.specs.Intervals.{name_cmp}
use Rattle.ft_interval_store.specs.Shown.{settled_interval}
use Rattle.ft_interval_store.specs.State.{placed_intervals, text_elements}
use Rattle.ft_interval_index.specs.Indexes.{id_in, is_id, labelled}
use Rattle.ft_interval_index.proofs.GatheringSteps.{gathers-less, gathers-none, name-parts, no-id}
use Rattle.ft_interval_index.proofs.gathering.add_found_one.Goals as goal

pub returns-in-Some : goal.returns-in-Some
returns-in-Some c =
    let tree = c.args.tree.now in
    let x = labelled c.args.label.now c.args.index.now in
    let from = map (settled_interval (text_elements tree) 0) (placed_intervals tree.refs c.args.store.now.acked) in
    let id = c.in-Some.id.now in
    let there : id_in (Some x) c.args.key.now ≡ Some id = sym c.id_of.ensures ∙ ap option_copied c.in-Some.is in
    on_ok_weaker c.add_named.result (λ g. gathers-less tree from (λ n. is_eq (name_cmp n (x.label, id))) (λ n. is_eq (text_cmp n.0 x.label) && is_id n.1 (id_in (Some x) c.args.key.now)) c.args.all.now c.add_named.new.all
    (λ n e. name-parts n x.label id ∙ ap (λ o. is_eq (text_cmp n.0 x.label) && is_id n.1 o) (sym there) ∙ e) g) c.add_named.ensures

pub returns-in-None : goal.returns-in-None
returns-in-None c =
    let tree = c.args.tree.now in
    let x = labelled c.args.label.now c.args.index.now in
    let from = map (settled_interval (text_elements tree) 0) (placed_intervals tree.refs c.args.store.now.acked) in
    let gone : id_in (Some x) c.args.key.now ≡ None = sym c.id_of.ensures ∙ ap option_copied c.in-None.is in
    gathers-none tree from (λ n. is_eq (text_cmp n.0 x.label) && is_id n.1 (id_in (Some x) c.args.key.now)) c.args.all.now (λ n. no-id n x (id_in (Some x) c.args.key.now) gone)
