use Rattle.std.proofs.Common.{◌≡◌, ◌≤◌, ◌-◌, ◌+◌, ◌++◌, drop, length, map}
use Rattle.serde_json.specs.Written.{compact_text}
use Rattle.ft_seqr.specs.AnswerTexts.{known_authors}
use Rattle.ft_seqr.proofs.answer_texts.known_author_texts.Given as goal

-- the texts so far, and those of the names from this connection on, are all
abbrev pub invariant-loop-name : goal.invariant-loop-name
invariant-loop-name l = record {
  first : 1 ≤ l.conn;
  texts : l.texts.items ++ map compact_text (known_authors l.conn (drop (l.conn - 1) l.names) l.origins) ≡ map compact_text (known_authors 1 l.names l.origins);
}

abbrev pub decreases-loop-name : goal.decreases-loop-name
decreases-loop-name l = length l.names + 1 - l.conn
