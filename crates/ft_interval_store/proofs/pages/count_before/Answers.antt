use Rattle.std.proofs.Common.{◌≡◌, ◌+◌, ◌<◌, length, suc, ap, arith}
use Rattle.ft_interval_store.specs.Pages.{count_before}
use Rattle.ft_interval_store.proofs.PageLists.{next-count, up-to}
use Rattle.ft_interval_store.proofs.pages.count_before.Goals as goal

pub overflow_add-count : goal.overflow_add-count
overflow_add-count g c =
    let ps = c.args.pages.now in
    let k = c.loop-k.k in
    let d = c.index-pages-k.result in
    let within : k < length ps = omega (arith, c.loop-k-test.true, c.requires.page) in
    omega (arith, c.loop-k.invariant, up-to k ps d within, c.len-count.ensures, d.ok.0, ap (λ v. length v.items) c.index-pages-k.is, c.requires.fits)

pub loop-k-preserved : goal.loop-k-preserved
loop-k-preserved g c =
    let ps = c.args.pages.now in
    let k = c.loop-k.k in
    let d = c.index-pages-k.result in
    let within : k < length ps = omega (arith, c.loop-k-test.true, c.requires.page) in
    let next : k + 1 ≡ suc k = omega arith in
    omega (
      arith,
      c.loop-k.invariant,
      ap (λ m. count_before m ps) next,
      next-count k ps d within,
      c.len-count.ensures,
      d.ok.0,
      ap (λ v. length v.items) c.index-pages-k.is,
    )
