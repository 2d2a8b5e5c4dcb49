use Rattle.std.proofs.Common.{◌≡◌, ◌<◌, ◌≤◌, [], drop, length, option_map, refl, sym, ◌∙◌, subst, arith}
use Rattle.std.proofs.Math.ListN.{drop_of_length-le}
use Rattle.ft_interval_store.specs.Ends.{places_of_ends}
use Rattle.ft_interval_store.specs.Intervals.{Name, interval_of}
use Rattle.ft_interval_store.specs.Shown.{last, settled_interval, shown_one_from}
use Rattle.ft_interval_store.specs.Standing.{ShowsEnds}
use Rattle.ft_interval_store.specs.State.{placed_operations, text_elements, with_mapped_ends}
use Rattle.ft_interval_store.proofs.ShownOne.{interval_of-shown}
use Rattle.ft_interval_store.proofs.ShownSteps.{last-shown, next-le, next-live, next-shows, rest-live, rest-rises}
use Rattle.ft_interval_store.proofs.StandingEnds.{shows-on}
use Rattle.ft_interval_store.proofs.shown.shown_ends.Goals as goal

pub next-init : goal.next-init
next-init c =
    let xs = text_elements c.args.tree.now in
    let n : Name = (c.args.label.now, c.args.id.now) in
    record {
      rising = c.requires.rising;
      fits = omega arith;
      live = c.requires.pending;
      shows = (
        option_map (settled_interval xs 0) (option_map (with_mapped_ends (places_of_ends c.args.tree.now.refs)) (interval_of n c.args.acked.now)),
        c.first_shown-shown.ensures,
        refl,
      );
    }

pub shown_after-shown-requires-clause-live : goal.shown_after-shown-requires-clause-live
shown_after-shown-requires-clause-live c =
    let inside : c.next.i < length c.args.pending.now.items = omega (arith, c.next-test.true, c.len.ensures, c.args.pending.now.ok.0) in
    next-live c.args.pending.now.items c.next.i c.index-t.result.now inside c.index-t.ensures c.args.tree.now.refs c.next.invariant.live

pub shown_after-shown-requires-clause-on_leaf : goal.shown_after-shown-requires-clause-on_leaf
shown_after-shown-requires-clause-on_leaf c =
    shows-on c.args.tree.now c.next.stage c.next.invariant.shows.0 c.next.shown c.next.invariant.shows.1

pub shown_after-shown-requires-clause-rises : goal.shown_after-shown-requires-clause-rises
shown_after-shown-requires-clause-rises c =
    let inside : c.next.i < length c.args.pending.now.items = omega (arith, c.next-test.true, c.len.ensures, c.args.pending.now.ok.0) in
    next-le c.args.pending.now.items c.next.i c.index-t.result.now inside c.index-t.ensures c.next.stage c.next.invariant.rising

pub next-preserved : goal.next-preserved
next-preserved c =
    let inside : c.next.i < length c.args.pending.now.items = omega (arith, c.next-test.true, c.len.ensures, c.args.pending.now.ok.0) in
    let xs = text_elements c.args.tree.now in
    let refs = c.args.tree.now.refs in
    let n : Name = (c.args.label.now, c.args.id.now) in
    let w = c.next.invariant.shows in
    let all = shown_one_from xs n 0 (placed_operations refs c.args.pending.now.items)
    (option_map (settled_interval xs 0) (option_map (with_mapped_ends (places_of_ends refs)) (interval_of n c.args.acked.now))) in
    record {
      rising = rest-rises c.args.pending.now.items c.next.i c.index-t.result.now inside c.index-t.ensures c.next.stage c.next.invariant.rising;
      fits = c.shown_after-shown.ensures.fits;
      live = rest-live c.args.pending.now.items c.next.i c.index-t.result.now inside c.index-t.ensures refs c.next.invariant.live;
      shows = next-shows c.args.pending.now.items c.next.i c.index-t.result.now inside c.index-t.ensures c.args.tree.now refs n
          c.next.stage w.0 c.shown_after-shown.result all
          (c.shown_after-shown.ensures.shown w.0 w.1) w.2;
    }

pub carried_shown-requires-clause-on_leaf : goal.carried_shown-requires-clause-on_leaf
carried_shown-requires-clause-on_leaf c =
    shows-on c.args.tree.now c.next.stage c.next.invariant.shows.0 c.next.shown c.next.invariant.shows.1

pub returns : goal.returns
returns c =
    let past : length c.args.pending.now.items ≤ c.next.i = omega (arith, c.next-test.false, c.len.ensures, c.args.pending.now.ok.0) in
    let xs = text_elements c.args.tree.now in
    let refs = c.args.tree.now.refs in
    let n : Name = (c.args.label.now, c.args.id.now) in
    let w = c.next.invariant.shows in
    let none : drop c.next.i c.args.pending.now.items ≡ [] = drop_of_length-le c.args.pending.now.items past in
    let shown = last-shown xs refs n c.next.stage c.next.i c.args.pending.now.items w.0 none ∙ w.2
    ∙ sym (interval_of-shown xs n refs c.args.acked.now (placed_operations refs c.args.pending.now.items) c.pages-all.ensures.rising) in
    subst (λ i. ShowsEnds c.args.tree.now last i c.carried_shown.result) shown (c.carried_shown.ensures w.0 w.1)

pub carried_shown-requires-clause-rises : goal.carried_shown-requires-clause-rises
carried_shown-requires-clause-rises c = c.next.invariant.fits
