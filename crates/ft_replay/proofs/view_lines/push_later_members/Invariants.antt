use Rattle.std.proofs.Common.{◌≡◌, ◌++◌, drop, string_bytes}
use Rattle.ft_seqr.specs.ViewLines.{later_members}
use Rattle.ft_replay.proofs.view_lines.push_later_members.Given as goal

abbrev pub invariant-loop-member : goal.invariant-loop-member
invariant-loop-member l = string_bytes l.text ++ later_members (drop l.member-index l.members) ≡ string_bytes l.initial.text ++ later_members l.members
