use Rattle.std.proofs.Common.{◌≡◌, drop}
use Rattle.ft_plain_document.proofs.RenamedNames.{renamed_through}
use Rattle.ft_plain_document.proofs.renamings.Renaming.name.Given as goal

-- the rest of the stages makes of the name what all make of the one at first
abbrev pub invariant-loop-stage : goal.invariant-loop-stage
invariant-loop-stage l = renamed_through (drop l.stage-index l.self) l.new ≡ renamed_through l.self l.fn.name
