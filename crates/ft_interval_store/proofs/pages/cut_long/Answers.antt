use Rattle.std.proofs.Common.{◌∙◌, ap, arith, drop, subst, sym, take, set, get_or, ◌+◌}
use Rattle.std.specs.List.{insert}
use Rattle.std.proofs.lemmas.List.{get_or_default}
use Rattle.ft_interval_store.specs.Pages.{AreFilled, from_pages}
use Rattle.ft_interval_store.proofs.PageLists.{cut, filled-cut}
use Rattle.ft_interval_store.proofs.pages.cut_long.Goals as goal

pub unreachable-requires : goal.unreachable-requires
unreachable-requires g c = omega (arith, c.in_default-insert.ensures.full, c.in-Ok.ensures.ok)

pub returns-clause-list : goal.returns-clause-list
returns-clause-list g c =
    let k = c.args.page in
    let was = c.index_mut.result.now in
    let ps = c.args.pages.now.items in
    let front = c.split_off.new.self in
    let rear = c.in-Ok-split_off.rear in
    let at = c.index_mut.ensures.value ∙ ap (λ xs. get_or xs k was) c.reserve.ensures.items in
    ap from_pages (c.in-Ok-insert.ensures.items ∙ ap (λ xs. insert (set xs k front) (k + 1) rear) c.reserve.ensures.items)
    ∙ cut k ps front rear was 256 c.requires.page (c.in-Ok-split_off.ensures.items ∙ ap (λ v. take 256 v.items) at)
    (c.in-Ok-split_off.ensures.tail ∙ ap (λ v. drop 256 v.items) at)

pub returns-clause-filled : goal.returns-clause-filled
returns-clause-filled g c =
    let k = c.args.page in
    let ps = c.args.pages.now.items in
    let front = c.split_off.new.self in
    let rear = c.in-Ok-split_off.rear in
    let was = c.index_mut.result.now in
    let at = c.index_mut.ensures.value ∙ ap (λ xs. get_or xs k was) c.reserve.ensures.items in
    let same = c.index.ensures ∙ get_or_default ps k c.index.result.now was c.requires.page ∙ sym at in
    subst (λ xs. AreFilled xs) (sym (c.in-Ok-insert.ensures.items ∙ ap (λ xs. insert (set xs k front) (k + 1) rear) c.reserve.ensures.items))
    (filled-cut k ps front rear c.requires.page (omega (arith, c.in-Ok-split_off.ensures.len, front.ok.0))
    (omega (arith, c.in-Ok-split_off.ensures.tail_len, c.if-len-lt-MOST.false, c.len.ensures, ap (λ v. v.len) same, rear.ok.0)) c.requires.filled)
