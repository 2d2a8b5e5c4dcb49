use Rattle.std.proofs.Common.{◌≡◌, ◌++◌, drop, string_bytes}
use Rattle.ft_change_lines.specs.ChangeTexts.{changes_text}
use Rattle.ft_change_lines.proofs.texts.push_changes.Given as goal

-- the lines so far, and those of the rest, are all
abbrev pub invariant-loop-change : goal.invariant-loop-change
invariant-loop-change l = string_bytes l.text ++ changes_text (drop l.change-index l.changes) ≡ string_bytes l.initial.text ++ changes_text l.changes
