use Rattle.std.proofs.Common.{◌≡◌, ◌++◌}
use Rattle.ft_client.specs.Parts.{stages_from}
use Rattle.ft_client.proofs.own.edits.push_stages.Given as goal

-- so many stages stand behind those from before
abbrev pub invariant-loop-i : goal.invariant-loop-i
invariant-loop-i l = l.stages.items ≡ l.initial.stages.items ++ stages_from l.first l.i l.part
