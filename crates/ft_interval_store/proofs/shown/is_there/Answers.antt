use Rattle.std.proofs.Common.{◌≡◌, ◌+◌, ◌-◌, ◌<◌, drop, length, sym, ◌∙◌, ap, arith}
use Rattle.std.proofs.lemmas.List.{drop_all}
use Rattle.ft_interval_store.specs.Intervals.{Name}
use Rattle.ft_interval_store.specs.Shown.{is_there}
use Rattle.ft_interval_store.proofs.ShownOne.{there-more, there-told}
use Rattle.ft_interval_store.proofs.shown.is_there.Goals as goal

pub back-init : goal.back-init
back-init c =
    let n : Name = (c.args.label.now, c.args.id.now) in
    let ts = c.args.pending.now.items in
    record {
      within = omega (arith, c.len-i.ensures, c.args.pending.now.ok.0);
      behind = λ b. ap (λ us. is_there n us b) (drop_all c.len-i.result ts (omega (arith, c.len-i.ensures, c.args.pending.now.ok.0)));
    }

pub returns-in-Some : goal.returns-in-Some
returns-in-Some c =
    let n : Name = (c.args.label.now, c.args.id.now) in
    let ts = c.args.pending.now.items in
    let i = c.back.i - 1 in
    let within : i < length ts = omega (arith, c.back-test.true, c.back.invariant.within) in
    let next : i + 1 ≡ c.back.i = omega (arith, c.back-test.true) in
    sym (there-told n ts i c.back.i next c.index.result.now within c.index.ensures c.back.invariant.behind c.in-Some.there
    (sym c.told_there.ensures ∙ c.in-Some.is) c.args.acked)

pub back-preserved : goal.back-preserved
back-preserved c =
    let n : Name = (c.args.label.now, c.args.id.now) in
    let ts = c.args.pending.now.items in
    let i = c.back.i - 1 in
    let within : i < length ts = omega (arith, c.back-test.true, c.back.invariant.within) in
    let next : i + 1 ≡ c.back.i = omega (arith, c.back-test.true) in
    record {
      within = omega (arith, within);
      behind = there-more n ts i c.back.i next c.index.result.now within c.index.ensures c.back.invariant.behind
          (sym c.told_there.ensures ∙ c.in_default.is);
    }

pub returns : goal.returns
returns c =
    let n : Name = (c.args.label.now, c.args.id.now) in
    let zero : c.back.i ≡ 0 = omega (arith, c.back-test.false) in
    sym (c.back.invariant.behind c.args.acked) ∙ ap (λ k. is_there n (drop k c.args.pending.now.items) c.args.acked) zero
