use Rattle.std.proofs.Common.{sym, subst, cond}
use Rattle.std.specs.Prelude.{OnOk}
use Rattle.ft_interval_store.specs.Ends.{map_ends, places_of_ends}
use Rattle.ft_interval_store.specs.Intervals.{after_operation}
use Rattle.ft_interval_store.specs.Shown.{carried, settled_end}
use Rattle.ft_interval_store.specs.Standing.{ShowsAll}
use Rattle.ft_interval_store.specs.State.{text_elements}
use Rattle.ft_interval_store.proofs.ShownAll.{carried-all}
use Rattle.ft_interval_store.proofs.named.take_next_if.Goals as goal

pub returns-then-asked-clause-shown : goal.returns-then-asked-clause-shown
returns-then-asked-clause-shown c = λ is h.
    let tree = c.args.tree.now in
    let xs = text_elements tree in
    let t = c.args.t.now in
    let ends = map_ends (settled_end xs t.stage) (places_of_ends tree.refs t.ends) in
    let there = carried xs c.args.from t.stage is in
    subst (λ b. OnOk c.take_next.result (ShowsAll tree t.stage (cond b (after_operation t.op ends there) there) c.take_next.new.all)) (sym c.if-asked.true)
    (c.take_next.ensures.shown is h)

pub returns-clause-shown : goal.returns-clause-shown
returns-clause-shown c = λ is h.
    let tree = c.args.tree.now in
    let xs = text_elements tree in
    let t = c.args.t.now in
    let ends = map_ends (settled_end xs t.stage) (places_of_ends tree.refs t.ends) in
    let there = carried xs c.args.from t.stage is in
    subst (λ b. ShowsAll tree t.stage (cond b (after_operation t.op ends there) there) c.carry_all.new.all) (sym c.if-asked.false)
    (carried-all tree c.args.from t.stage is c.args.all.now c.carry_all.new.all h c.carry_all.ensures)
