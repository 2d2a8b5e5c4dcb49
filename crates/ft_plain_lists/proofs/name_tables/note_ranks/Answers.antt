use Rattle.std.proofs.Common.{◌≡◌, ◌+◌, ◌-◌, ap, arith, drop, length}
use Rattle.std.proofs.lemmas.List.{drop_all}
use Rattle.ft_base.specs.Scan.{len}
use Rattle.ft_plain_lists.proofs.NotedAnswers.{HasAnswers-none, HasRanks, front, left-above, left-passed, left-taken, ranks-more, seen_before}
use Rattle.ft_plain_lists.proofs.name_tables.note_ranks.Goals as goal
use Rattle.ft_plain_lists.proofs.name_tables.note_ranks.Goals.{then-passes, else-passes}

pub loop-i-init : goal.loop-i-init
loop-i-init g c =
    let seen = g.T.ElementTest.test c.args.seen in
    let xs = c.args.items.now in
    let none = drop_all (length xs) xs (omega arith) in
    let count : len seen (drop (length xs) xs) ≡ 0 = ap (len seen) none in
    let all = c.seen_count.ensures in
    record {
      inside = omega arith;
      counted = omega (arith, count, all);
      right = HasAnswers-none (seen_before seen xs) (len seen xs) (drop (length xs) xs) c.args.table.now none c.requires;
    }

pub overflow_sub-left : goal.overflow_sub-left
overflow_sub-left g c =
    let seen = g.T.ElementTest.test c.args.seen in
    let xs = c.args.items.now in
    let e = c.index-items-i.result in
    let at_front = front xs c.loop-i.i e c.loop-i-test.true c.loop-i.invariant.inside c.index-items-i.is in
    left-above seen xs c.loop-i.i e at_front c.loop-i.left c.if-passes.ensures c.loop-i.invariant.counted

pub loop-i-preserved : goal.loop-i-preserved
loop-i-preserved g c =
    let seen = g.T.ElementTest.test c.args.seen in
    let xs = c.args.items.now in
    let i = c.loop-i.i in
    let e = c.index-items-i.result in
    let at_front = front xs i e c.loop-i-test.true c.loop-i.invariant.inside c.index-items-i.is in
    let before = c.loop-i.invariant.counted in
    let count : c.if-passes.left + len seen (drop (i - 1) xs) ≡ len seen xs = elim c.if-passes.branch [
      | then-passes w ↦ left-taken seen xs i e at_front c.loop-i.left c.if-passes.left w.if-passes.ensures w.left-is before
      | else-passes w ↦ left-passed seen xs i e at_front c.loop-i.left c.if-passes.left w.if-passes.ensures w.left-is before
    ] in
    record {
      inside = omega arith;
      counted = count;
      right = ranks-more seen xs i e at_front c.if-passes.left c.loop-i.table c.note.new.self c.name.result count c.name.ensures c.note.ensures c.loop-i.invariant.right;
    }

pub returns : goal.returns
returns g c = HasRanks (g.T.ElementTest.test c.args.seen) c.args.items.now c.loop-i.i c.loop-i.table c.loop-i-test.false c.loop-i.invariant.right
