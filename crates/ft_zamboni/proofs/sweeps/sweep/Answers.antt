use Rattle.std.proofs.Common.{◌≡◌, ℕ, suc, ◌+◌, Option, subst, sym, ◌∙◌, ap, arith}
use Rattle.ft_arena.specs.Ids.{after}
use Rattle.ft_block.specs.Leaves.{ids}
use Rattle.ft_zamboni.specs.Sweeps.{short_of}
use Rattle.ft_zamboni.proofs.SweepSteps.{SweepAt, sweep-ended, sweep-free, sweep-full, sweep-last, sweep-live, sweep-start, sweep-step}
use Rattle.ft_zamboni.proofs.sweeps.sweep.Goals as goal

pub loop-i-init : goal.loop-i-init
loop-i-init g c =
    let us = g.C.Content.units in
    let by = g.C.Content.by in
    let old = c.args.tree.now in
    let base = c.args.taken.now.items in
    subst (λ (o : Option ℕ). SweepAt us by old c.args.from c.args.end base old 0 o _ base) (sym c.short_of-next.ensures)
    (sweep-start us by old c.args.from c.args.end base c.requires.usable c.requires.from)

pub returns-in_default : goal.returns-in_default
returns-in_default g c =
    let us = g.C.Content.units in
    let by = g.C.Content.by in
    let base = c.args.taken.now.items in
    let s = subst (λ (o : Option ℕ). SweepAt us by c.args.tree.now c.args.from c.args.end base c.loop-i.tree c.loop-i.i o c.loop-i.last
    c.loop-i.taken.items)
    c.in_default.is c.loop-i.invariant in
    sweep-ended us by c.args.tree.now c.args.from c.args.end base c.loop-i.tree c.loop-i.i c.args.budget c.loop-i.last
    c.loop-i.taken.items s c.loop-i.auto.i-end

pub first_leaf-first-requires : goal.first_leaf-first-requires
first_leaf-first-requires g c = c.loop-i.invariant.swept.goes.usable

pub next_leaf-requires-clause-usable : goal.next_leaf-requires-clause-usable
next_leaf-requires-clause-usable g c = c.loop-i.invariant.swept.goes.usable

pub next_leaf-requires-clause-live : goal.next_leaf-requires-clause-live
next_leaf-requires-clause-live g c =
    let us = g.C.Content.units in
    let by = g.C.Content.by in
    let base = c.args.taken.now.items in
    sweep-live us by c.args.tree.now c.args.from c.args.end base c.loop-i.tree c.loop-i.i c.in-Some.id c.loop-i.last c.loop-i.taken.items
    (subst (λ (o : Option ℕ). SweepAt us by c.args.tree.now c.args.from c.args.end base c.loop-i.tree c.loop-i.i o c.loop-i.last
    c.loop-i.taken.items)
    c.in-Some.is c.loop-i.invariant)

pub look_at-requires-clause-usable : goal.look_at-requires-clause-usable
look_at-requires-clause-usable g c = c.loop-i.invariant.swept.goes.usable

pub look_at-requires-clause-live : goal.look_at-requires-clause-live
look_at-requires-clause-live g c =
    let us = g.C.Content.units in
    let by = g.C.Content.by in
    let base = c.args.taken.now.items in
    sweep-live us by c.args.tree.now c.args.from c.args.end base c.loop-i.tree c.loop-i.i c.in-Some.id c.loop-i.last c.loop-i.taken.items
    (subst (λ (o : Option ℕ). SweepAt us by c.args.tree.now c.args.from c.args.end base c.loop-i.tree c.loop-i.i o c.loop-i.last
    c.loop-i.taken.items)
    c.in-Some.is c.loop-i.invariant)

pub look_at-requires-clause-last : goal.look_at-requires-clause-last
look_at-requires-clause-last g c =
    let us = g.C.Content.units in
    let by = g.C.Content.by in
    let base = c.args.taken.now.items in
    sweep-last us by c.args.tree.now c.args.from c.args.end base c.loop-i.tree c.loop-i.i c.in-Some.id c.loop-i.last c.loop-i.taken.items
    (subst (λ (o : Option ℕ). SweepAt us by c.args.tree.now c.args.from c.args.end base c.loop-i.tree c.loop-i.i o c.loop-i.last
    c.loop-i.taken.items)
    c.in-Some.is c.loop-i.invariant)

pub look_at-requires-clause-free : goal.look_at-requires-clause-free
look_at-requires-clause-free g c =
    let us = g.C.Content.units in
    let by = g.C.Content.by in
    let base = c.args.taken.now.items in
    sweep-free us by c.args.tree.now c.args.from c.args.end base c.loop-i.tree c.loop-i.i c.in-Some.id c.loop-i.last c.loop-i.taken.items
    (subst (λ (o : Option ℕ). SweepAt us by c.args.tree.now c.args.from c.args.end base c.loop-i.tree c.loop-i.i o c.loop-i.last
    c.loop-i.taken.items)
    c.in-Some.is c.loop-i.invariant)
    c.first_leaf-first.ensures.once c.requires.clear

pub loop-i-preserved : goal.loop-i-preserved
loop-i-preserved g c =
    let us = g.C.Content.units in
    let by = g.C.Content.by in
    let laws = g.met.C.Content in
    let old = c.args.tree.now in
    let from = c.args.from in
    let end = c.args.end in
    let base = c.args.taken.now.items in
    let new = c.look_at.new.tree in
    let kept = c.in_ok-last.last in
    let given = c.look_at.new.taken.items in
    let s = subst (λ (o : Option ℕ). SweepAt us by old from end base c.loop-i.tree c.loop-i.i o c.loop-i.last c.loop-i.taken.items)
    c.in-Some.is c.loop-i.invariant in
    let on = sweep-step us by old from end base c.loop-i.tree c.loop-i.i c.in-Some.id c.loop-i.last c.loop-i.taken.items s
    c.first_leaf-first.ensures.once
    g.C.Content.joins g.C.Content.joined laws.joined_units laws.joined_by laws.joins_by new kept given c.requires.end c.requires.clear
    c.in_ok-last.ensures.goes c.in_ok-last.ensures.step in
    let next : suc c.loop-i.i ≡ c.loop-i.i + 1 = omega arith in
    subst (λ (o : Option ℕ). SweepAt us by old from end base new (c.loop-i.i + 1) o kept given)
    (sym (c.short_of-next-in-loop-i.ensures ∙ ap (λ (o : Option ℕ). short_of o end) c.next_leaf.ensures))
    (subst (λ (n : ℕ). SweepAt us by old from end base new n (short_of (after (ids c.loop-i.tree.leaves) c.in-Some.id) end) kept given)
    next on)

pub returns : goal.returns
returns g c =
    let us = g.C.Content.units in
    let by = g.C.Content.by in
    let base = c.args.taken.now.items in
    let full : c.loop-i.i ≡ c.args.budget = omega (arith, c.loop-i.auto.i-end, c.loop-i-test.false) in
    sweep-full us by c.args.tree.now c.args.from c.args.end base c.loop-i.tree c.args.budget c.loop-i.next c.loop-i.last
    c.loop-i.taken.items
    (subst (λ (n : ℕ). SweepAt us by c.args.tree.now c.args.from c.args.end base c.loop-i.tree n c.loop-i.next c.loop-i.last
    c.loop-i.taken.items) full c.loop-i.invariant)
