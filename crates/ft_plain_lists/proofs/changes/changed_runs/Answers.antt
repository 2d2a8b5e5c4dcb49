use Rattle.std.proofs.Common.{drop}
use Rattle.std.proofs.lemmas.List.{drop_all}
use Rattle.ft_changes.specs.Shown.{shown_properties}
use Rattle.ft_changes.proofs.SameShown.{all_found}
use Rattle.ft_plain_lists.proofs.changes.changed_runs.Goals as goal

pub returns : goal.returns
returns g c =
    let seen = g.S.ElementTest.test c.args.seen in
    let shown = g.T.ElementTest.test c.args.shown in
    let marked = g.M.ElementMark.marked c.args.mark.now in
    let xs = c.args.items.now in
    let l = c.loop-e in
    all_found shown_properties marked seen shown c.args.p c.args.q xs (drop l.e-index xs) l.place l.count l.runs.items l.invariant.all
    (drop_all l.e-index xs c.loop-e-test.false)
