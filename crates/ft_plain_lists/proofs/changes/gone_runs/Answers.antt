use Rattle.std.proofs.Common.{sym, ◌∙◌, ap}
use Rattle.std.proofs.lemmas.List.{drop_all}
use Rattle.ft_changes.proofs.RunsInOrder.{gone_places, gone_runs-placed, with_all_gone}
use Rattle.ft_plain_lists.proofs.changes.gone_runs.Goals as goal

pub returns : goal.returns
returns g c =
    let seen = g.S.ElementTest.test c.args.seen in
    let shown = g.T.ElementTest.test c.args.shown in
    let xs = c.args.items.now in
    ap (λ ys. with_all_gone c.loop-e.runs.items (gone_places c.loop-e.place c.loop-e.left seen shown c.args.p c.args.q ys)) (sym (drop_all c.loop-e.e-index xs c.loop-e-test.false))
    ∙ c.loop-e.invariant.all
    ∙ sym (gone_runs-placed seen shown c.args.p c.args.q 0 0 xs)
