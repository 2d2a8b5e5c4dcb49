use Rattle.std.proofs.Common.{◌≡◌, ◌++◌, length}
use Rattle.ft_replica.specs.Linked.{sent_parts, with_parts}
use Rattle.ft_replica.proofs.linked.reconnections.send_again.Given as goal

-- the edits and messages so far, and those of the rest, are all
abbrev pub invariant-loop-op : goal.invariant-loop-op
invariant-loop-op l =
    let rest = sent_parts l.entry.origin l.entry.msg.seq l.outbox.next l.resent.items in
    let all = sent_parts l.entry.origin l.entry.msg.seq l.initial.outbox.next l.fn.resent.items in
    record {
      edits : l.pending ++ rest ≡ l.initial.pending ++ all;
      box : with_parts rest l.outbox ≡ with_parts all l.initial.outbox;
    }

abbrev pub decreases-loop-op : goal.decreases-loop-op
decreases-loop-op l = length l.resent.items
