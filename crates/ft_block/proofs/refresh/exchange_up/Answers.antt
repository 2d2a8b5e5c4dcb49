use Rattle.std.proofs.Common.{ℕ, Option, refl, sym, subst, arith}
use Rattle.ft_arena.specs.Forest.{with_block, block_value, entry}
use Rattle.ft_partial.specs.Entries.{amount}
use Rattle.ft_shape.specs.declared.headed.Headed.{Headed}
use Rattle.ft_block.specs.declared.summaries.Summary.{Summary}
use Rattle.ft_block.specs.Tree.{shows, SumsKeptBut}
use Rattle.ft_shape.specs.Tree.{SumsBut, OwesAt}
use Rattle.ft_block.specs.Tree.{by_view, by_size}
use Rattle.ft_shape.proofs.FitLemmas.{leaf_total}
use Rattle.ft_shape.proofs.RefreshLemmas.{SameShape-refl, SameShape-then, SameShape-part}
use Rattle.ft_block.proofs.Floors.{written_floors}
use Rattle.ft_block.proofs.ExchangeLemmas.{ex_shape, ex_sums, ex_owes, ex_next, ex_smaller}
use Rattle.ft_shape.proofs.EditLemmas.{is_some_from}
use Rattle.ft_shape.proofs.KindLemmas.{block_live, kind_block}
use Rattle.std.proofs.lemmas.Result.{IfOk-from_err}
use Rattle.ft_block.proofs.refresh.exchange_up.Goals as goal

pub up-init : goal.up-init
up-init g c =
    record {
      tree = c.requires.tree;
      same = SameShape-refl c.args.arena.now c.requires.tree.shape.forest;
      fits = c.requires.fits;
      block = c.requires.block;
      floors = c.requires.floors;
      sums = c.requires.sums;
      owes = c.requires.owes;
    }

pub up-smaller : goal.up-smaller
up-smaller g c =
    let w : Headed Summary = record { height = c.block_mut.result.now.height; sum = c.fold_and_exchange.new.self } in
    ex_smaller c.up.arena c.args._root c.args._apart c.args._short c.up.invariant.tree c.in-Some.block c.block_mut.result.now w
    c.block_mut.ensures.value refl c.up.stale c.parent-stale.result c.in-Some.is c.parent-stale.ensures

pub up-preserved : goal.up-preserved
up-preserved g c =
    let s = c.up.arena in
    let i = c.up.invariant in
    let owed = i.owes in
    let b = c.in-Some.block in
    let v = c.block_mut.result.now in
    let w : Headed Summary = record { height = c.block_mut.result.now.height; sum = c.fold_and_exchange.new.self } in
    let r = ex_shape g.L.Leaf.size g.L.Leaf.element c.args.floor s c.args._root c.args._apart c.args._short i.tree i.fits b v w c.block_mut.ensures.value
    refl in
    record {
      tree = SameShape-part s (with_block s b w) c.args._root c.args._apart c.args._short i.tree r;
      same = SameShape-then c.args.arena.now s (with_block s b w) i.same r;
      fits = omega (arith, leaf_total (by_size g.L.Leaf.size) s (with_block s b w) i.tree.shape.forest r.leaves r.leaf_values, i.fits);
      block = ex_next s c.args._root c.args._apart c.args._short i.tree b v w c.block_mut.ensures.value refl c.parent-stale.result c.parent-stale.ensures;
      floors = written_floors c.args.floor s b v w c.block_mut.ensures.value c.fold_and_exchange.ensures.floor i.floors;
      sums = λ view k. subst (λ (o : Option ℕ). SumsBut (by_view g.L.Leaf.size g.L.Leaf.element view) (with_block s b w) o) (sym c.parent-stale.ensures)
          (ex_sums g.L.Leaf.size g.L.Leaf.element c.args.floor s c.args._root c.args._apart c.args._short i.tree i.fits b v w c.block_mut.ensures.value
          refl view (subst (λ (o : Option ℕ). SumsBut (by_view g.L.Leaf.size g.L.Leaf.element view) s o) c.in-Some.is (i.sums view k))
          (amount (shows view owed.come) owed.more) (amount (shows view owed.gone) owed.less) c.fold_and_exchange.ensures.low
          (c.in_ok-fold_and_exchange.ensures.exchanges owed.gone owed.come owed.less owed.more owed.makes view k)
          (subst (λ (o : Option ℕ). OwesAt (by_view g.L.Leaf.size g.L.Leaf.element view) s o (amount (shows view owed.come) owed.more)
          (amount (shows view owed.gone) owed.less)) c.in-Some.is (owed.owes view k)));
      owes = record {
        gone = owed.gone;
        less = owed.less;
        come = owed.come;
        more = owed.more;
        makes = owed.makes;
        owes = λ view k. subst (λ (o : Option ℕ). OwesAt (by_view g.L.Leaf.size g.L.Leaf.element view) (with_block s b w) o
            (amount (shows view owed.come) owed.more) (amount (shows view owed.gone) owed.less)) (sym c.parent-stale.ensures)
            (ex_owes g.L.Leaf.size g.L.Leaf.element c.args.floor s c.args._root c.args._apart c.args._short i.tree i.fits b v w c.block_mut.ensures.value
            refl view (subst (λ (o : Option ℕ). SumsBut (by_view g.L.Leaf.size g.L.Leaf.element view) s o) c.in-Some.is (i.sums view k))
            (amount (shows view owed.come) owed.more) (amount (shows view owed.gone) owed.less) c.fold_and_exchange.ensures.low
            (c.in_ok-fold_and_exchange.ensures.exchanges owed.gone owed.come owed.less owed.more owed.makes view k)
            (subst (λ (o : Option ℕ). OwesAt (by_view g.L.Leaf.size g.L.Leaf.element view) s o (amount (shows view owed.come) owed.more)
            (amount (shows view owed.gone) owed.less)) c.in-Some.is (owed.owes view k)));
      };
    }

pub returns-clause-shape : goal.returns-clause-shape
returns-clause-shape g c = c.up.invariant.same

pub returns-clause-floors : goal.returns-clause-floors
returns-clause-floors g c = c.up.invariant.floors

pub block_mut-requires : goal.block_mut-requires
block_mut-requires g c = c.up.invariant.block c.in-Some.block c.in-Some.is

pub fold_and_exchange-requires : goal.fold_and_exchange-requires
fold_and_exchange-requires g c = c.up.invariant.floors c.in-Some.block c.block_mut.result.now c.block_mut.ensures.value

pub parent-stale-requires : goal.parent-stale-requires
parent-stale-requires g c =
    let s = c.up.arena in
    let b = c.in-Some.block in
    let w : Headed Summary = record { height = c.block_mut.result.now.height; sum = c.fold_and_exchange.new.self } in
    let r = ex_shape g.L.Leaf.size g.L.Leaf.element c.args.floor s c.args._root c.args._apart c.args._short c.up.invariant.tree c.up.invariant.fits b
    c.block_mut.result.now w
    c.block_mut.ensures.value refl in
    block_live (entry (with_block s b w) b) (kind_block (entry s b) (entry (with_block s b w) b) (r.kinds b)
    (is_some_from (block_value s b) c.block_mut.result.now c.block_mut.ensures.value))

pub returns-clause-sums : goal.returns-clause-sums
returns-clause-sums g c = subst (λ (o : Option ℕ). SumsKeptBut g.L.Leaf.size g.L.Leaf.element c.args.floor c.up.arena o) c.in_default.is
    c.up.invariant.sums

pub returns-in_err-fold_and_exchange : goal.returns-in_err-fold_and_exchange
returns-in_err-fold_and_exchange g c =
    let r = c.from_residual in
    record {
      shape = IfOk-from_err r.result _ r.ensures.0;
      floors = IfOk-from_err r.result _ r.ensures.0;
      sums = IfOk-from_err r.result _ r.ensures.0;
    }
