use Rattle.std.proofs.Common.{◌≡◌, drop, map}
use Rattle.ft_op.specs.Operation.{OnText}
use Rattle.ft_op.specs.Document.{effects}
use Rattle.ft_changes.specs.Told.{told_sub_operations}
use Rattle.ft_changes.specs.Listeners.{heard}
use Rattle.ft_plain_document.proofs.documents.PlainDocument.apply_text_ops.Given as goal

-- the rest of the operations makes of the document what all made of the one at first, and the listener hears the rest of what is told
-- of them
abbrev pub invariant-loop-op : goal.invariant-loop-op
invariant-loop-op l =
    let all = map (λ op. OnText op) l.ops in
    let rest = map (λ op. OnText op) (drop l.op-index l.ops) in
    record {
      applied : effects l.self l.seq l.at.c l.at.r rest ≡ effects l.initial.self l.seq l.at.c l.at.r all;
      told : heard l.listener (told_sub_operations l.last l.self l.seq l.at.c l.at.r rest)
          ≡ heard l.initial.listener (told_sub_operations l.last l.initial.self l.seq l.at.c l.at.r all);
    }
