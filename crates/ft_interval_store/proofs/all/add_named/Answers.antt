use Rattle.std.proofs.Common.{◌≡◌, ℕ, List, None, Some, map, option_copied, option_map, sym, ◌∙◌, ap, subst}
use Rattle.std.specs.Ordering.{is_eq}
use Rattle.ft_props.specs.Keys.{put_rising}
use Rattle.ft_refs.specs.declared.numbers.Place.{Place}
use Rattle.ft_interval_store.specs.declared.intervals.Interval.{Interval}
use Rattle.ft_interval_store.specs.Ends.{places_of_ends}
use Rattle.ft_interval_store.specs.Intervals.{Name, interval_cmp, interval_of, name_cmp, name_of}
use Rattle.ft_interval_store.specs.Named.{AddsNoOther}
use Rattle.ft_interval_store.specs.Shown.{settled_interval}
use Rattle.ft_interval_store.specs.Standing.{ShowsAll}
use Rattle.ft_interval_store.specs.State.{placed_intervals, text_elements, with_mapped_ends}
use Rattle.ft_interval_store.proofs.Gathered.{from-at, part-with, part-without}
use Rattle.ft_interval_store.proofs.KeptEnds.{live-named}
use Rattle.ft_interval_store.proofs.NamedIntervals.{none-added, one-added}
use Rattle.ft_interval_store.proofs.RisingLists.{found-name}
use Rattle.ft_interval_store.proofs.ShownAll.{put-shown}
use Rattle.ft_interval_store.proofs.all.add_named.Goals as goal

pub placed-requires-clause-live : goal.placed-requires-clause-live
placed-requires-clause-live c =
    let n : Name = (c.args.label.now, c.args.id.now) in
    live-named c.args.tree.now.refs n c.args.acked.now c.in-Some.i.now c.requires.acked (sym c.get.ensures ∙ ap option_copied c.in-Some.is)

pub returns-in_ok-put-clause-gathers : goal.returns-in_ok-put-clause-gathers
returns-in_ok-put-clause-gathers c = λ is before h p.
    let tree = c.args.tree.now in
    let xs = text_elements tree in
    let n : Name = (c.args.label.now, c.args.id.now) in
    let from = map (settled_interval xs 0) (placed_intervals tree.refs c.args.acked.now) in
    let x : Interval ℕ = settled_interval xs 0 (with_mapped_ends (places_of_ends tree.refs) c.in-Some.i.now) in
    let there : interval_of n c.args.acked.now ≡ Some c.in-Some.i.now = sym c.get.ensures ∙ ap option_copied c.in-Some.is in
    let found = from-at xs tree.refs c.args.acked.now n ∙ ap (λ o. option_map (settled_interval xs 0) (option_map (with_mapped_ends (places_of_ends tree.refs)) o)) there in (
      put_rising interval_cmp x is,
      subst (λ (js : List (Interval Place)). ShowsAll tree 0 (put_rising interval_cmp x is) js) (sym c.in_ok-put.ensures.ok)
          (put-shown tree 0 x c.in_ok-placed.field-0 is c.args.all.now c.in_ok-placed.ensures h),
      part-with from is before n p x found,
    )

pub returns-in_default-clause-gathers : goal.returns-in_default-clause-gathers
returns-in_default-clause-gathers c = λ is before h p.
    let tree = c.args.tree.now in
    let xs = text_elements tree in
    let n : Name = (c.args.label.now, c.args.id.now) in
    let from = map (settled_interval xs 0) (placed_intervals tree.refs c.args.acked.now) in
    let none : interval_of n c.args.acked.now ≡ None = sym c.get.ensures ∙ ap option_copied c.in_default.is in
    let gone = from-at xs tree.refs c.args.acked.now n ∙ ap (λ o. option_map (settled_interval xs 0) (option_map (with_mapped_ends (places_of_ends tree.refs)) o)) none in
    (is, h, part-without from is before n p gone)

pub returns-in_ok-put-clause-only : goal.returns-in_ok-put-clause-only
returns-in_ok-put-clause-only c =
    let n : Name = (c.args.label.now, c.args.id.now) in
    let there : interval_of n c.args.acked.now ≡ Some c.in-Some.i.now = sym c.get.ensures ∙ ap option_copied c.in-Some.is in
    let x = c.in_ok-placed.field-0 in
    let shown = c.in_ok-placed.ensures in
    let named : name_of x ≡ n = (let a = shown.label in let b = shown.id in λ t. (a t, b t)) ∙ found-name n c.args.acked.now c.in-Some.i.now there in
    subst (λ (js : List (Interval Place)). AddsNoOther (λ m. is_eq (name_cmp m n)) c.args.all.now js) (sym c.in_ok-put.ensures.ok) (one-added n x c.args.all.now named)

pub returns-in_default-clause-only : goal.returns-in_default-clause-only
returns-in_default-clause-only c =
    let n : Name = (c.args.label.now, c.args.id.now) in
    none-added (λ m. is_eq (name_cmp m n)) c.args.all.now
