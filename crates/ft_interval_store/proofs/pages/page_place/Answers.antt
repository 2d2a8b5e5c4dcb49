use Rattle.std.proofs.Common.{◌<◌, length, ◌∙◌, ap, arith, subst}
use Rattle.std.proofs.lemmas.List.{get_or_default}
use Rattle.ft_interval_store.proofs.PageLists.{count-all, next-place}
use Rattle.ft_interval_store.proofs.pages.page_place.Goals as goal

pub loop-page-preserved : goal.loop-page-preserved
loop-page-preserved g c =
    let ps = c.args.pages.now in
    let d = c.index-pages-page.result in
    next-place c.loop-page.page c.loop-page.offset c.args.place c.len-length.result ps d c.loop-page-test.true
    (omega (arith, c.len-length.ensures, d.ok.0, ap (λ v. length v.items) c.index-pages-page.is)) c.if-offset-length.false c.loop-page.invariant

pub returns-then-offset-length : goal.returns-then-offset-length
returns-then-offset-length g c =
    let ps = c.args.pages.now in
    let k = c.loop-page.page in
    let d = c.index-pages-page.result in
    record {
      page = c.loop-page-test.true;
      offset = λ e. subst (λ v. c.loop-page.offset < length v.items) (c.index-pages-page.is ∙ get_or_default ps k d e c.loop-page-test.true)
          (omega (arith, c.len-length.ensures, d.ok.0, c.if-offset-length.true));
      sum = c.loop-page.invariant;
    }

pub unreachable-requires : goal.unreachable-requires
unreachable-requires g c =
    omega (arith, count-all c.loop-page.page c.args.pages.now c.loop-page-test.false, c.loop-page.invariant, c.requires)
