use Rattle.std.proofs.Common.{sym, subst}
use Rattle.std.proofs.lemmas.Result.{on_ok_weaker}
use Rattle.ft_interval_store.specs.Ends.{map_ends, places_of_ends}
use Rattle.ft_interval_store.specs.Intervals.{after_operation}
use Rattle.ft_interval_store.specs.Shown.{carried, settled_end}
use Rattle.ft_interval_store.specs.Standing.{ShowsAll}
use Rattle.ft_interval_store.specs.State.{text_elements}
use Rattle.ft_interval_store.proofs.ShownAll.{after-shown, carried-all}
use Rattle.ft_interval_store.proofs.all.take_next.Goals as goal

pub returns-clause-shown : goal.returns-clause-shown
returns-clause-shown c = λ is h.
    let xs = text_elements c.args.tree.now in
    let k = c.args.t.now.stage in
    let op = c.args.t.now.op in
    let ends = map_ends (settled_end xs k) (places_of_ends c.args.tree.now.refs c.args.t.now.ends) in
    let was = carried xs c.args.from k is in
    let shows = carried-all c.args.tree.now c.args.from k is c.args.all.now c.carry_all.new.all h c.carry_all.ensures in
    on_ok_weaker c.follow.result
    (λ e. subst (λ js. ShowsAll c.args.tree.now k (after_operation op ends was) js) (sym e)
    (after-shown c.args.tree.now k op ends c.settled.result c.settled.ensures was c.carry_all.new.all shows))
    c.follow.ensures.ok
