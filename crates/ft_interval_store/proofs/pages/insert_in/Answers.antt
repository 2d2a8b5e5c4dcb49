use Rattle.std.proofs.Common.{ap, ◌∙◌}
use Rattle.std.specs.List.{insert}
use Rattle.ft_interval_store.proofs.PageLists.{inserted, on-any, same-page}
use Rattle.ft_interval_store.proofs.pages.insert_in.Goals as goal

pub returns-in_err-insert-clause-err : goal.returns-in_err-insert-clause-err
returns-in_err-insert-clause-err g c =
    on-any c.from_residual.result (same-page c.args.gap.page c.args.pages.now.items c.insert.new.self c.index_mut.result.now c.requires.gap.1.page
    (c.in_err-insert.ensures.items ∙ ap (λ v. v.items) c.index_mut.ensures.value))

pub returns-clause-ok : goal.returns-clause-ok
returns-clause-ok g c = λ place gap.
    let ps = c.args.pages.now.items in
    let was = c.index_mut.result.now in
    let o = c.args.gap.offset in
    inserted c.args.gap.page o place ps was gap.page gap.sum c.insert.new.self c.args.element (gap.offset was)
    (c.in_ok-insert.ensures.items ∙ ap (λ v. insert v.items o c.args.element) c.index_mut.ensures.value)
