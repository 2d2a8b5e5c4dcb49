-- The texts of the first, and then those of the rest.
use Rattle.std.proofs.Common.{◌≡◌, ◌++◌, drop, map}
use Rattle.serde_json.specs.Written.{compact_text}
use Rattle.ft_seqr.specs.AnswerTexts.{written_origin_run}
use Rattle.ft_session.proofs.asked.run_texts.Given as goal

abbrev pub invariant-loop-run : goal.invariant-loop-run
invariant-loop-run l = l.values ++ map compact_text (map (written_origin_run l.names) (drop l.run-index l.runs)) ≡ map compact_text (map (written_origin_run l.names) l.runs)
