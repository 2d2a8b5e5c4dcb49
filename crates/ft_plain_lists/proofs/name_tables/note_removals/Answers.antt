use Rattle.std.proofs.Common.{◌-◌, arith, drop, length}
use Rattle.std.proofs.lemmas.List.{drop_all}
use Rattle.ft_plain_lists.proofs.NotedAnswers.{front, removals-all, removals-more, removals-none}
use Rattle.ft_plain_lists.proofs.name_tables.note_removals.Goals as goal

pub loop-i-init : goal.loop-i-init
loop-i-init c =
    let xs = c.args.items.now in
    record {
      inside = omega arith;
      right = removals-none (drop (length xs) xs) c.args.table.now (drop_all (length xs) xs (omega arith)) c.requires;
    }

pub loop-i-preserved : goal.loop-i-preserved
loop-i-preserved c =
    let xs = c.args.items.now in
    let i = c.loop-i.i in
    let e = c.index-items-i.result in
    let at_front = front xs i e c.loop-i-test.true c.loop-i.invariant.inside c.index-items-i.is in
    record {
      inside = omega arith;
      right = removals-more e (drop i xs) (drop (i - 1) xs) c.loop-i.table c.note_removal.new.table at_front c.note_removal.ensures.removed
          c.note_removal.ensures.other c.loop-i.invariant.right;
    }

pub returns : goal.returns
returns c = removals-all c.args.items.now c.loop-i.i c.loop-i.table c.loop-i-test.false c.loop-i.invariant.right
