-- The texts of the first, and then those of the rest.
use Rattle.std.proofs.Common.{◌≡◌, ◌++◌, drop, map}
use Rattle.serde_json.specs.Written.{compact_text}
use Rattle.ft_seqr.specs.AnswerTexts.{written_overlap}
use Rattle.ft_session.proofs.asked.overlap_texts.Given as goal

abbrev pub invariant-loop-interval : goal.invariant-loop-interval
invariant-loop-interval l = l.values ++ map compact_text (map written_overlap (drop l.interval-index l.intervals)) ≡ map compact_text (map written_overlap l.intervals)
