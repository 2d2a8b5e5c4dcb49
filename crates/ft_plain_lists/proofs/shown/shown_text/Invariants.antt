use Rattle.std.proofs.Common.{◌≡◌, ◌++◌, chars, drop, string_bytes}
use Rattle.ft_msg.specs.Content.{stage_view, text_characters}
use Rattle.ft_plain_lists.proofs.shown.shown_text.Given as goal

-- the characters so far, and those of the rest of the elements, are all
abbrev pub invariant-loop-e : goal.invariant-loop-e
invariant-loop-e l = chars (string_bytes l.text) ++ text_characters (stage_view l.stage (drop l.e-index l.items)) ≡ text_characters (stage_view l.stage l.items)
