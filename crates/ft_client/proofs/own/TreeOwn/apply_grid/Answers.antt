use Rattle.std.proofs.Common.{◌+◌, ◌∙◌, ◌≤◌, ap, refl, subst, sym}
use Rattle.ft_client.specs.Numbers.{NumberState}
use Rattle.ft_client.proofs.Answered.{on-ok, then-ok}
use Rattle.ft_client.proofs.ForeignSteps.{grid-applied, made-grows}
use Rattle.ft_client.proofs.Known.{is-named}
use Rattle.ft_client.proofs.ToldParts.{held-above}
use Rattle.ft_client.proofs.own.TreeOwn.apply_grid.Goals as goal

pub more-rows-requires : goal.more-rows-requires
more-rows-requires g c =
    let k = c.requires.known in
    let m = made-grows c.args.self.now c.apply_telling.new.self c.args.seq c.args.at.c c.args.at.r c.args.op.now c.in_ok-skipped.skipped k
    (c.in_ok-skipped.ensures.applied k.client.last_stage k.client.doc _ (is-named k.start k.client k.made) k.document.table) in
    subst (λ n. c.rows_made-rows.result ≤ n) (sym c.rows_made.ensures)
    (subst (λ n. n ≤ c.apply_telling.new.self.rows_made) (sym c.rows_made-rows.ensures) m.0)

pub more-cols-requires : goal.more-cols-requires
more-cols-requires g c =
    let k = c.requires.known in
    let m = made-grows c.args.self.now c.apply_telling.new.self c.args.seq c.args.at.c c.args.at.r c.args.op.now c.in_ok-skipped.skipped k
    (c.in_ok-skipped.ensures.applied k.client.last_stage k.client.doc _ (is-named k.start k.client k.made) k.document.table) in
    subst (λ n. c.cols_made-cols.result ≤ n) (sym c.cols_made.ensures)
    (subst (λ n. n ≤ c.apply_telling.new.self.cols_made) (sym c.cols_made-cols.ensures) m.1)

pub returns-clause-applied : goal.returns-clause-applied
returns-clause-applied g c = λ held named h.
    let old = c.args.self.now in
    let new = record c.args.self.now { table = c.apply_telling.new.self; numbers = c.skip.new.self } in
    let e = c.in_ok-skipped.ensures in
    then-ok c.skip.result c.skip.ensures
    (λ numbers. grid-applied old new held h c.args.seq c.args.at.c c.args.at.r c.args.op.now c.in_ok-skipped.skipped c.more-rows.result c.more-cols.result held.last
    (e.applied held.last held.doc held.stages named h.table) e.rest refl
    (numbers ∙ ap (λ (n : NumberState). record n { skipped = n.skipped + c.in_ok-skipped.skipped }) c.in_ok-count_units.ensures)
    (sym c.rows_made.ensures ∙ c.more-rows.ensures ∙ ap (λ n. n + c.more-rows.result) c.rows_made-rows.ensures)
    (sym c.cols_made.ensures ∙ c.more-cols.ensures ∙ ap (λ n. n + c.more-cols.result) c.cols_made-cols.ensures))

pub returns-clause-told : goal.returns-clause-told
returns-clause-told g c = λ held named h.
    on-ok c.skip.result
    (c.in_ok-skipped.ensures.told held.last held.doc held.stages h.numbers.fits named h.table
    (held-above c.args.self.now c.requires.known held named h))
