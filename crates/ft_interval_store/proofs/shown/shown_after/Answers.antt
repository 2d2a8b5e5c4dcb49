use Rattle.std.proofs.Common.{◌≡◌, ℕ, false, cond, Option, option_map, ap, subst, sym, ◌∙◌}
use Rattle.ft_interval_store.specs.declared.intervals.Interval.{Interval}
use Rattle.ft_interval_store.specs.Ends.{map_ends, places_of_ends}
use Rattle.ft_interval_store.specs.Intervals.{after_own, is_on}
use Rattle.ft_interval_store.specs.Shown.{carried_interval, settled_end}
use Rattle.ft_interval_store.specs.Standing.{ShowsEnds}
use Rattle.ft_interval_store.specs.State.{text_elements}
use Rattle.ft_interval_store.proofs.shown.shown_after.Goals as goal

pub returns-then-not-is_on-clause-shown : goal.returns-then-not-is_on-clause-shown
returns-then-not-is_on-clause-shown c = λ i s.
    let xs = text_elements c.args.tree.now in
    let k = c.args.t.now.stage in
    let op = c.args.t.now.op in
    let ends = map_ends (settled_end xs k) (places_of_ends c.args.tree.now.refs c.args.t.now.ends) in
    let before = option_map (carried_interval xs c.args.from k) i in
    let off : is_on (c.args.label.now, c.args.id.now) op ≡ false = sym c.is_on.ensures ∙ c.if-not-is_on.true in
    subst (λ (j : Option (Interval ℕ)). ShowsEnds c.args.tree.now k j c.carried_shown-before.result) (sym (ap (λ b. cond b (after_own op ends before) before) off))
    (c.carried_shown-before.ensures i s)

pub returns-clause-shown : goal.returns-clause-shown
returns-clause-shown c = λ i s.
    let xs = text_elements c.args.tree.now in
    let k = c.args.t.now.stage in
    let op = c.args.t.now.op in
    let ends = map_ends (settled_end xs k) (places_of_ends c.args.tree.now.refs c.args.t.now.ends) in
    let before = option_map (carried_interval xs c.args.from k) i in
    let on = sym c.is_on.ensures ∙ c.if-not-is_on.false in
    subst (λ (j : Option (Interval ℕ)). ShowsEnds c.args.tree.now k j c.after_own.result) (sym (ap (λ b. cond b (after_own op ends before) before) on))
    (c.after_own.ensures c.args.tree.now k ends before c.settled.ensures (c.carried_shown-before.ensures i s))
