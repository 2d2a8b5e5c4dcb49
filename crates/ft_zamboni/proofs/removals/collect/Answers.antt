use Rattle.std.proofs.Common.{◌+◌, refl, subst, sym, arith}
use Rattle.std.proofs.lemmas.Result.{on_ok_weaker}
use Rattle.ft_tree.specs.State.{TreeState}
use Rattle.ft_zamboni.specs.Collections.{Collects, CollectsAll}
use Rattle.ft_zamboni.proofs.CollectedLeaves.{collect-ends, collect-start, collect-stops, collect-within, kept-few, stops-free, stops-live, stops-smaller, stops-step, stops-within}
use Rattle.ft_zamboni.proofs.removals.collect.Goals as goal

pub leaves-init : goal.leaves-init
leaves-init g c = collect-start g.C.Content.units g.C.Content.by c.args.tree.now c.args.taken.now.items c.requires.usable

pub next_removed-requires-clause-usable : goal.next_removed-requires-clause-usable
next_removed-requires-clause-usable g c = c.leaves.invariant.sweeps.goes.usable

pub next_removed-requires-clause-within : goal.next_removed-requires-clause-within
next_removed-requires-clause-within g c =
    collect-within g.C.Content.units g.C.Content.by c.args.tree.now c.args.taken.now.items c.leaves.tree c.leaves.passed c.leaves.taken.items
    c.leaves.invariant

pub leaf_len-len-requires-clause-live : goal.leaf_len-len-requires-clause-live
leaf_len-len-requires-clause-live g c =
    let us = g.C.Content.units in
    let by = g.C.Content.by in
    let laws = g.met.C.Content in
    let old = c.args.tree.now in
    let base = c.args.taken.now.items in
    let now = c.leaves.tree in
    let taken = c.leaves.taken.items in
    let once = c.next_removed.ensures.once in
    let clear = c.requires.clear in
    let stop = collect-stops us by old base now taken once clear g.C.Content.joins g.C.Content.joined laws.joined_units laws.joined_by
    laws.joins_by c.leaves.passed c.leaves.invariant c.next_removed.ensures.some c.in-Some.id (sym c.in-Some.ensures.value) in
    stops-live us by old base now taken once clear c.leaves.passed c.in-Some.id stop

pub look_at-requires-clause-usable : goal.look_at-requires-clause-usable
look_at-requires-clause-usable g c = c.leaves.invariant.sweeps.goes.usable

pub look_at-requires-clause-live : goal.look_at-requires-clause-live
look_at-requires-clause-live g c =
    let us = g.C.Content.units in
    let by = g.C.Content.by in
    let laws = g.met.C.Content in
    let old = c.args.tree.now in
    let base = c.args.taken.now.items in
    let now = c.leaves.tree in
    let taken = c.leaves.taken.items in
    let once = c.next_removed.ensures.once in
    let clear = c.requires.clear in
    let stop = collect-stops us by old base now taken once clear g.C.Content.joins g.C.Content.joined laws.joined_units laws.joined_by
    laws.joins_by c.leaves.passed c.leaves.invariant c.next_removed.ensures.some c.in-Some.id (sym c.in-Some.ensures.value) in
    stops-live us by old base now taken once clear c.leaves.passed c.in-Some.id stop

pub look_at-requires-clause-free : goal.look_at-requires-clause-free
look_at-requires-clause-free g c =
    let us = g.C.Content.units in
    let by = g.C.Content.by in
    let laws = g.met.C.Content in
    let old = c.args.tree.now in
    let base = c.args.taken.now.items in
    let now = c.leaves.tree in
    let taken = c.leaves.taken.items in
    let once = c.next_removed.ensures.once in
    let clear = c.requires.clear in
    let stop = collect-stops us by old base now taken once clear g.C.Content.joins g.C.Content.joined laws.joined_units laws.joined_by
    laws.joins_by c.leaves.passed c.leaves.invariant c.next_removed.ensures.some c.in-Some.id (sym c.in-Some.ensures.value) in
    stops-free us by old base now taken once clear c.leaves.passed c.in-Some.id stop

pub overflow_add-passed : goal.overflow_add-passed
overflow_add-passed g c =
    let us = g.C.Content.units in
    let by = g.C.Content.by in
    let laws = g.met.C.Content in
    let old = c.args.tree.now in
    let base = c.args.taken.now.items in
    let now = c.leaves.tree in
    let taken = c.leaves.taken.items in
    let once = c.next_removed.ensures.once in
    let clear = c.requires.clear in
    let stop = collect-stops us by old base now taken once clear g.C.Content.joins g.C.Content.joined laws.joined_units laws.joined_by
    laws.joins_by c.leaves.passed c.leaves.invariant c.next_removed.ensures.some c.in-Some.id (sym c.in-Some.ensures.value) in
    let within = stops-within us by old base now taken once clear c.leaves.passed c.in-Some.id stop c.leaf_len-len.result
    c.leaf_len-len.ensures.value in
    omega (
      arith,
      within,
      c.next_removed.ensures.few,
      c.length_kept-passed.ensures,
      kept-few c.in_ok-kept.kept c.leaf_len-len.result,
    )

pub leaves-preserved : goal.leaves-preserved
leaves-preserved g c =
    let us = g.C.Content.units in
    let by = g.C.Content.by in
    let laws = g.met.C.Content in
    let old = c.args.tree.now in
    let base = c.args.taken.now.items in
    let now = c.leaves.tree in
    let taken = c.leaves.taken.items in
    let once = c.next_removed.ensures.once in
    let clear = c.requires.clear in
    let stop = collect-stops us by old base now taken once clear g.C.Content.joins g.C.Content.joined laws.joined_units laws.joined_by
    laws.joins_by c.leaves.passed c.leaves.invariant c.next_removed.ensures.some c.in-Some.id (sym c.in-Some.ensures.value) in
    let on = stops-step us by old base now taken once clear c.leaves.passed c.in-Some.id stop c.leaf_len-len.result
    c.leaf_len-len.ensures.value g.C.Content.joins g.C.Content.joined laws.joined_units laws.joined_by
    laws.joins_by c.look_at.new.tree c.in_ok-kept.ensures.goes _ c.in_ok-kept.kept taken c.look_at.new.taken.items refl refl
    c.in_ok-kept.ensures.step in
    subst (λ n. Collects us by old c.look_at.new.tree (c.leaves.passed + n) base c.look_at.new.taken.items)
    (sym c.length_kept-passed.ensures) on

pub leaves-smaller : goal.leaves-smaller
leaves-smaller g c =
    let us = g.C.Content.units in
    let by = g.C.Content.by in
    let laws = g.met.C.Content in
    let old = c.args.tree.now in
    let base = c.args.taken.now.items in
    let now = c.leaves.tree in
    let taken = c.leaves.taken.items in
    let once = c.next_removed.ensures.once in
    let clear = c.requires.clear in
    let stop = collect-stops us by old base now taken once clear g.C.Content.joins g.C.Content.joined laws.joined_units laws.joined_by
    laws.joins_by c.leaves.passed c.leaves.invariant c.next_removed.ensures.some c.in-Some.id (sym c.in-Some.ensures.value) in
    let less = stops-smaller us by old base now taken once clear c.leaves.passed c.in-Some.id stop c.leaf_len-len.result
    c.leaf_len-len.ensures.value g.C.Content.joins g.C.Content.joined laws.joined_units laws.joined_by
    laws.joins_by c.look_at.new.tree c.in_ok-kept.ensures.goes _ c.in_ok-kept.kept taken c.look_at.new.taken.items refl
    c.in_ok-kept.ensures.step in
    omega (arith, c.length_kept-passed.ensures, less)

pub returns : goal.returns
returns g c =
    let us = g.C.Content.units in
    let by = g.C.Content.by in
    let laws = g.met.C.Content in
    let old = c.args.tree.now in
    let base = c.args.taken.now.items in
    let now = c.leaves.tree in
    let taken = c.leaves.taken.items in
    let all = collect-ends us by old base now taken c.next_removed.ensures.once c.requires.clear g.C.Content.joins g.C.Content.joined
    laws.joined_units laws.joined_by laws.joins_by c.leaves.passed c.leaves.invariant c.next_removed.ensures.some (sym c.in_default.ensures.value) in
    subst (λ (t : TreeState g.row.C.Denot). CollectsAll us by old t base taken) (sym c.set_sweep.ensures) all
