use Rattle.std.proofs.Common.{None, sym, ap, ◌∙◌, arith, drop, length}
use Rattle.std.proofs.lemmas.List.{drop_all}
use Rattle.ft_plain_lists.proofs.NotedAnswers.{HasAnswers-none, HasSettled, front, next-more, next_or_last, settled-more}
use Rattle.ft_plain_lists.proofs.name_tables.note_settled.Goals as goal

pub loop-i-init : goal.loop-i-init
loop-i-init g c =
    let seen = g.T.ElementTest.test c.args.seen in
    let xs = c.args.items.now in
    let none = drop_all (length xs) xs (omega arith) in
    record {
      inside = omega arith;
      sent = c.last_seen-next.ensures ∙ sym (ap (next_or_last seen xs) none);
      right = HasAnswers-none (next_or_last seen xs) None (drop (length xs) xs) c.args.table.now none c.requires;
    }

pub loop-i-preserved : goal.loop-i-preserved
loop-i-preserved g c =
    let seen = g.T.ElementTest.test c.args.seen in
    let xs = c.args.items.now in
    let i = c.loop-i.i in
    let e = c.index-items-i.result in
    let at_front = front xs i e c.loop-i-test.true c.loop-i.invariant.inside c.index-items-i.is in
    let sent = next-more seen xs i e at_front c.loop-i.next c.next_from-next.result c.next_from-next.ensures c.loop-i.invariant.sent in
    record {
      inside = omega arith;
      sent = sent;
      right = settled-more seen xs i e at_front c.next_from-next.result c.loop-i.table c.note.new.self c.name.result sent c.name.ensures
          c.note.ensures c.loop-i.invariant.right;
    }

pub returns : goal.returns
returns g c = HasSettled (g.T.ElementTest.test c.args.seen) c.args.items.now c.loop-i.i c.loop-i.table c.loop-i-test.false c.loop-i.invariant.right
