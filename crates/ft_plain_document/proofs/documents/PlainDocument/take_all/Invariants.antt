use Rattle.std.proofs.Common.{◌≡◌, ◌+◌, [], ◌++◌, length, map}
use Rattle.ft_msg.specs.Client.{local_sub_operations}
use Rattle.ft_changes.specs.Told.{told_locals}
use Rattle.ft_changes.specs.Listeners.{heard}
use Rattle.ft_plain_document.specs.OwnEdits.{with_stages}
use Rattle.ft_plain_document.specs.SubOperations.{sub_operation_of}
use Rattle.ft_plain_document.proofs.documents.PlainDocument.take_all.Given as goal

-- what the steps make of the rest, with the stages so far before them, is what they make of all; the document is as at first while
-- there are no stages; and the listener hears the rest of what is told of all
abbrev pub invariant-loop-op : goal.invariant-loop-op
invariant-loop-op l =
    let all = map sub_operation_of l.initial.ops.items in
    let rest = map sub_operation_of l.ops.items in
    record {
      made : with_stages l.stages (local_sub_operations l.self (l.pending ++ l.stages) l.stage rest)
          ≡ local_sub_operations l.initial.self l.pending l.first all;
      counted : length l.stages + length l.ops.items ≡ length l.initial.ops.items;
      untouched : l.stages ≡ [] → l.self ≡ l.initial.self;
      told : heard l.listener (told_locals l.self (l.pending ++ l.stages) l.stage rest) ≡ heard l.initial.listener (told_locals l.initial.self l.pending l.first all);
    }

abbrev pub decreases-loop-op : goal.decreases-loop-op
decreases-loop-op l = length l.ops.items
