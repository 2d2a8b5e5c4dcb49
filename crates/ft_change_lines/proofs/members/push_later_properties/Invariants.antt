use Rattle.std.proofs.Common.{◌≡◌, ◌++◌, drop, string_bytes}
use Rattle.ft_seqr.specs.ViewLines.{later_members}
use Rattle.ft_change_lines.proofs.members.push_later_properties.Given as goal

-- the members so far, and those of the rest, are all
abbrev pub invariant-loop-property : goal.invariant-loop-property
invariant-loop-property l = string_bytes l.text ++ later_members (drop l.property-index l.properties) ≡ string_bytes l.initial.text ++ later_members l.properties
