use Rattle.std.proofs.Common.{◌<◌, ◌≤◌, List, [], All, map, take, length, sym, ap, subst, arith}
use Rattle.std.proofs.lemmas.List.{take_all}
use Rattle.std.proofs.lemmas.List.Elements.{All-nil}
use Rattle.ft_refs.specs.declared.numbers.Place.{Place}
use Rattle.ft_interval_store.specs.declared.intervals.Interval.{Interval}
use Rattle.ft_interval_store.specs.declared.pending.Operation.{Operation}
use Rattle.ft_interval_store.specs.Gathered.{IsPartOf, is_on_any}
use Rattle.ft_interval_store.specs.Intervals.{interval_of}
use Rattle.ft_interval_store.specs.Named.{HasNoOther}
use Rattle.ft_interval_store.specs.Shown.{last, settled_interval}
use Rattle.ft_interval_store.specs.Standing.{ShowsAll}
use Rattle.ft_interval_store.specs.State.{placed_intervals, text_elements}
use Rattle.ft_interval_store.proofs.Gathered.{next-fits, next-part, none-part}
use Rattle.ft_interval_store.proofs.NamedIntervals.{next-only}
use Rattle.ft_interval_store.proofs.all.places_of_pending.Goals as goal

pub next-init : goal.next-init
next-init c =
    let from = map (settled_interval (text_elements c.args.tree.now) 0) (placed_intervals c.args.tree.now.refs c.args.acked.now) in
    record {
      part = (
        [],
        subst (λ (js : List (Interval Place)). ShowsAll c.args.tree.now 0 [] js) (sym c.new-all.ensures) tt,
        none-part from c.args.pending.now.items,
      );
      fits = All-nil (λ (t : Operation). t.stage ≤ last);
      only = λ n h. ap (interval_of n) c.new-all.ensures;
    }

pub next-preserved : goal.next-preserved
next-preserved c =
    let inside : c.next.i < length c.args.pending.now.items = omega (arith, c.next-test.true, c.len.ensures, c.args.pending.now.ok.0) in
    let from = map (settled_interval (text_elements c.args.tree.now) 0) (placed_intervals c.args.tree.now.refs c.args.acked.now) in
    let ts = c.args.pending.now.items in
    let i = c.next.i in
    let t = c.index-t.result.now in
    let w = c.next.invariant.part in
    let r = c.in_ok-add_changed.ensures.gathers w.0 (λ n. is_on_any n (take i ts)) w.1 w.2 in
    record {
      part = (r.0, r.1, next-part from r.0 ts i t inside c.index-t.ensures r.2);
      fits = next-fits ts i t inside c.index-t.ensures c.stage-stage.ensures.fits c.next.invariant.fits;
      only = next-only ts i t inside c.index-t.ensures c.add_changed.new.all
          (c.in_ok-add_changed.ensures.only (λ n. is_on_any n (take i ts)) c.next.invariant.only);
    }

pub returns-clause-part : goal.returns-clause-part
returns-clause-part c =
    let past : length c.args.pending.now.items ≤ c.next.i = omega (arith, c.next-test.false, c.len.ensures, c.args.pending.now.ok.0) in
    let from = map (settled_interval (text_elements c.args.tree.now) 0) (placed_intervals c.args.tree.now.refs c.args.acked.now) in
    let w = c.next.invariant.part in
    (w.0, w.1, subst (λ (ts : List Operation). IsPartOf from w.0 (λ n. is_on_any n ts)) (take_all c.next.i c.args.pending.now.items past) w.2)

pub returns-clause-fits : goal.returns-clause-fits
returns-clause-fits c =
    let past : length c.args.pending.now.items ≤ c.next.i = omega (arith, c.next-test.false, c.len.ensures, c.args.pending.now.ok.0) in
    subst (λ (ts : List Operation). All (λ (t : Operation). t.stage ≤ last) ts) (take_all c.next.i c.args.pending.now.items past)
    c.next.invariant.fits

pub returns-clause-only : goal.returns-clause-only
returns-clause-only c =
    let past : length c.args.pending.now.items ≤ c.next.i = omega (arith, c.next-test.false, c.len.ensures, c.args.pending.now.ok.0) in
    subst (λ (ts : List Operation). HasNoOther (λ n. is_on_any n ts) c.next.all) (take_all c.next.i c.args.pending.now.items past) c.next.invariant.only
