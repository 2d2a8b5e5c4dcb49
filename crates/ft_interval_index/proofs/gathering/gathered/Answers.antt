use Rattle.std.proofs.Common.{◌≡◌, ◌||◌, ◌+◌, ◌*◌, ◌≤◌, ℕ, Bool, true, false, List, None, Option, option_copied, length, map, refl, sym, ap, subst, inl, inr}
use Rattle.std.proofs.lemmas.Result.{IfOk-weaker}
use Rattle.ft_overlap.specs.Items.{AreKnown, IsInOrder}
use Rattle.ft_refs.specs.declared.numbers.Place.{Place}
use Rattle.ft_interval_store.specs.declared.intervals.Interval.{Interval}
use Rattle.ft_interval_store.specs.Gathered.{IsPartOf, is_on_any}
use Rattle.ft_interval_store.specs.Shown.{settled_interval, shown_place}
use Rattle.ft_interval_store.specs.Standing.{ShowsAll}
use Rattle.ft_interval_store.specs.State.{placed_intervals, text_elements}
use Rattle.ft_interval_store.proofs.Gathered.{part-less}
use Rattle.ft_interval_index.specs.Indexes.{LabelIndex, is_met, keys_meeting, labelled_if, list_in}
use Rattle.ft_interval_index.specs.Order.{IsLiveIn}
use Rattle.ft_interval_index.proofs.gathering.gathered.Goals as goal

pub add_met-requires-clause-known : goal.add_met-requires-clause-known
add_met-requires-clause-known g c =
    subst (λ (x : Option LabelIndex). AreKnown (IsLiveIn c.args.tree.now) (list_in x).items) (ap (λ o. labelled_if c.args.label.now (option_copied
    o)) c.in-Some.is) c.requires.known

pub add_met-requires-clause-order : goal.add_met-requires-clause-order
add_met-requires-clause-order g c =
    subst (λ (x : Option LabelIndex). IsInOrder (shown_place (text_elements c.args.tree.now) c.args.tree.now.refs) (list_in x)) (ap (λ o.
    labelled_if c.args.label.now (option_copied o)) c.in-Some.is) c.requires.order

pub returns-in_err-all-clause-cost : goal.returns-in_err-all-clause-cost
returns-in_err-all-clause-cost g c = inl refl

pub returns-in-Some-clause-part : goal.returns-in-Some-clause-part
returns-in-Some-clause-part g c =
    let tree = c.args.tree.now in
    let ts = c.args.store.now.pending in
    let place = shown_place (text_elements tree) tree.refs in
    let from = map (settled_interval (text_elements tree) 0) (placed_intervals tree.refs c.args.store.now.acked) in
    let w = c.in_ok-all.ensures.part in
    let Part = λ (x : Option LabelIndex) (all : List (Interval Place)). (is : List (Interval ℕ)) × ShowsAll tree 0 is all
    × IsPartOf from is (λ n. is_on_any n ts || is_met place c.args.a c.args.b n x) in
    IfOk-weaker c.add_met.result _ _ (λ all h. subst (λ (x : Option LabelIndex). Part x all) (sym (ap (λ o. labelled_if c.args.label.now
    (option_copied o)) c.in-Some.is))
    (h w.0 (λ n. is_on_any n ts) w.1 w.2)) c.add_met.ensures.part

pub returns-in-Some-clause-fits : goal.returns-in-Some-clause-fits
returns-in-Some-clause-fits g c = IfOk-weaker c.add_met.result _ _ (λ all h. c.in_ok-all.ensures.fits) c.add_met.ensures.part

pub returns-in-Some-clause-cost : goal.returns-in-Some-clause-cost
returns-in-Some-clause-cost g c =
    let tree = c.args.tree.now in
    let place = shown_place (text_elements tree) tree.refs in
    let Few = λ (x : Option LabelIndex). c.add_met.new.steps ≤ c.args.steps.now + 9 * ((list_in x).depth + 1)
    * (length (keys_meeting place c.args.a c.args.b (list_in x).items) + 1) in
    inr (c.in_ok-all.ensures.fits, subst Few (sym (ap (λ o. labelled_if c.args.label.now (option_copied o)) c.in-Some.is)) c.add_met.ensures.cost)

pub returns-in-None-clause-part : goal.returns-in-None-clause-part
returns-in-None-clause-part g c =
    let tree = c.args.tree.now in
    let ts = c.args.store.now.pending in
    let place = shown_place (text_elements tree) tree.refs in
    let from = map (settled_interval (text_elements tree) 0) (placed_intervals tree.refs c.args.store.now.acked) in
    let w = c.in_ok-all.ensures.part in
    let less = part-less from w.0 (λ n. is_on_any n ts) (λ n. is_on_any n ts || is_met place c.args.a c.args.b n None) (λ n e. or-false (is_on_any n ts) e) w.2 in (
      w.0,
      w.1,
      subst (λ (x : Option LabelIndex). IsPartOf from w.0 (λ n. is_on_any n ts || is_met place c.args.a c.args.b n x)) (sym (ap (λ o.
          labelled_if c.args.label.now (option_copied o)) c.in-None.is)) less,
    )
  where
    or-false : (b : Bool) → b || false ≡ true → b ≡ true
    or-false true e = refl
    or-false false e = e

pub returns-in-None-clause-cost : goal.returns-in-None-clause-cost
returns-in-None-clause-cost g c = inl refl
