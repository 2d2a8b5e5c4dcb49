use Rattle.std.proofs.Common.{◌≡◌, List, ◌++◌, [], ◌∷◌, All, map, append-nil, append_assoc, subst, sym, ◌∙◌, ap, arith}
use Rattle.std.proofs.lemmas.List.{nil_from_length}
use Rattle.std.proofs.lemmas.List.Elements.{All-head, All-tail}
use Rattle.ft_sumdoc.specs.declared.summary.IntervalRec.{IntervalRec}
use Rattle.ft_refs.specs.declared.numbers.Place.{Place}
use Rattle.ft_interval_store.specs.declared.intervals.Interval.{Interval}
use Rattle.ft_interval_store.specs.Standing.{AreOnTree, HasPlaces, record_at}
use Rattle.ft_interval_store.proofs.all.add_records.Goals as goal

pub loop-i-init : goal.loop-i-init
loop-i-init c =
    let tree = c.args.tree.now in
    let whole = c.into_iter-i-iterator.ensures.into_iter_gives.0 in
    record {
      on_leaf = subst (λ (is : List (Interval Place)). All (HasPlaces tree) is) (sym whole) c.requires.on_leaf;
      made = ap (λ (is : List (Interval Place)). c.args.records.now.items ++ map (record_at tree) is) whole;
    }

pub record_at-requires-clause-on_leaf : goal.record_at-requires-clause-on_leaf
record_at-requires-clause-on_leaf c =
    let tree = c.args.tree.now in
    let rest = c.next.new.self.rest.items in
    subst (λ (i : Interval Place). AreOnTree tree i.ends) (sym c.into_interval.ensures)
    (All-head (HasPlaces tree) c.in-Some.i rest (subst (λ (is : List (Interval Place)). All (HasPlaces tree) is) c.in-Some.ensures.steps.0 c.loop-i.invariant.on_leaf))

pub loop-i-preserved : goal.loop-i-preserved
loop-i-preserved c =
    let tree = c.args.tree.now in
    let rest = c.next.new.self.rest.items in
    let made : List IntervalRec = c.loop-i.records.items in
    let all : List (Interval Place) → List IntervalRec = map (record_at tree) in
    record {
      on_leaf = All-tail (HasPlaces tree) c.in-Some.i rest
          (subst (λ (is : List (Interval Place)). All (HasPlaces tree) is) c.in-Some.ensures.steps.0 c.loop-i.invariant.on_leaf);
      made = ap (λ rs. rs ++ all rest) c.in_ok-push.ensures.items ∙ ap (λ r. (made ++ r ∷ []) ++ all rest) (c.record_at.ensures ∙ ap (record_at tree) c.into_interval.ensures)
          ∙ append_assoc made (record_at tree c.in-Some.i ∷ []) (all rest) ∙ ap (λ is. made ++ all is) (sym c.in-Some.ensures.steps.0) ∙ c.loop-i.invariant.made;
    }

pub returns : goal.returns
returns c =
    let tree = c.args.tree.now in
    let rest = c.loop-i.i-iterator.rest in
    let none : rest.items ≡ [] = nil_from_length rest.items (omega (arith, c.in-None.ensures.steps.0, rest.ok.0)) in
    sym (ap (λ (is : List (Interval Place)). c.loop-i.records.items ++ map (record_at tree) is) none ∙ append-nil c.loop-i.records.items) ∙ c.loop-i.invariant.made
