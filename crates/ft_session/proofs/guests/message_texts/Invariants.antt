-- The texts of the first messages, and then those of the rest.
use Rattle.std.proofs.Common.{◌≡◌, ◌++◌, drop, map}
use Rattle.serde_json.specs.Written.{compact_text}
use Rattle.ft_msg.specs.Written.{written_message}
use Rattle.ft_session.proofs.guests.message_texts.Given as goal

abbrev pub invariant-loop-entry : goal.invariant-loop-entry
invariant-loop-entry l =
    l.values ++ map compact_text (map (λ entry. written_message entry.msg) (drop l.entry-index l.entries)) ≡ map compact_text (map (λ entry. written_message entry.msg) l.entries)
