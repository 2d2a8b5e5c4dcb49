use Rattle.std.proofs.Common.{◌≡◌, ◌++◌, drop, map}
use Rattle.ft_plain.proofs.resent.stage_numbers.Given as goal

-- the numbers so far, and those of the rest of the stages, are all
abbrev pub invariant-loop-stage : goal.invariant-loop-stage
invariant-loop-stage l = l.numbers.items ++ map (λ t. t.stage) (drop l.stage-index l.stages) ≡ map (λ t. t.stage) l.stages
