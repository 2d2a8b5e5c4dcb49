use Rattle.std.proofs.Common.{sym, ◌∙◌, ap}
use Rattle.std.proofs.lemmas.List.{drop_all}
use Rattle.ft_plain_lists.proofs.PlacedRuns.{marked_places, marked_runs-placed, with_places}
use Rattle.ft_plain_lists.proofs.runs.marked_runs.Goals as goal

pub returns : goal.returns
returns g c =
    let seen = g.T.ElementTest.test c.args.seen in
    let marked = g.M.ElementTest.test c.args.marked in
    let xs = c.args.items.now in
    ap (λ ys. with_places c.loop-e.runs.items (marked_places c.loop-e.place seen marked ys)) (sym (drop_all c.loop-e.e-index xs c.loop-e-test.false))
    ∙ c.loop-e.invariant.all
    ∙ sym (marked_runs-placed 0 seen marked xs)
