use Rattle.std.proofs.Common.{sym, subst, rules}
use Rattle.std.proofs.lemmas.Result.{err_from_is_err_and}
use Rattle.std.specs.List.{AllByRecursion}
use Rattle.ft_op.proofs.ReadLists.{all_and_last}
use Rattle.ft_sumdoc.proofs.KeptItems.{holds_behind, holds_here, one_kept, one_refused}
use Rattle.ft_sumdoc.proofs.item_reading.keep_each.Goals as goal

pub keep-requires : goal.keep-requires
keep-requires g c =
    let l = c.loop-item in
    holds_here g.I.KeptItem.IsGiven g.I.KeptItem.meaning c.args.items.now l.item-index c.item-item.result c.loop-item-test.true c.item-item.is
    l.invariant.left

pub returns-in_err-keep : goal.returns-in_err-keep
returns-in_err-keep g c =
    let l = c.loop-item in
    let p = err_from_is_err_and c.from_residual.result c.from_residual.ensures.1 in
    record {
      ok = search rules;
      err = rw (p.1, p.2) (λ h.
          one_refused g.I.KeptItem.kept g.I.KeptItem.meaning c.args.items.now l.item-index c.item-item.result l.records c.in_err-keep.field-0.0 _
          c.loop-item-test.true c.item-item.is
          (c.in_err-keep.ensures.err h) l.invariant.kept);
      formed = search rules;
    }

pub loop-item-preserved : goal.loop-item-preserved
loop-item-preserved g c =
    let l = c.loop-item in
    let kept = c.in_ok-keep in
    let pushed = c.in_ok-push.ensures.ok in
    record {
      kept =
          one_kept g.I.KeptItem.kept g.I.KeptItem.meaning c.args.items.now l.item-index c.item-item.result l.records c.push.new.self kept.field-0 _
          c.loop-item-test.true c.item-item.is
          kept.ensures.ok pushed l.invariant.kept;
      values =
          subst (AllByRecursion g.I.KeptItem.IsFormed) (sym pushed)
          (all_and_last g.I.KeptItem.IsFormed l.records kept.field-0 l.invariant.values kept.ensures.formed);
      left = holds_behind g.I.KeptItem.IsGiven g.I.KeptItem.meaning c.args.items.now l.item-index c.item-item.result
          c.loop-item-test.true c.item-item.is l.invariant.left;
    }
