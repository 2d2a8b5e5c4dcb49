use Rattle.std.proofs.Common.{◌≡◌, ◌≤◌, length, nat_lt, arith, rules, tests}
use Rattle.std.proofs.lemmas.List.Sorted.{IsPartitionPoint-from_clause}
use Rattle.ft_matrix.specs.declared.stages.GridStage.{GridStage}
use Rattle.ft_matrix.proofs.ResubmitSteps.{partitioned, point-is}
use Rattle.ft_matrix.proofs.reconnection.first_from.Goals as goal

pub returns : goal.returns
returns c =
    let xs = c.args.stages.now.items in
    let k = c.args.first in
    let len : c.args.stages.now.len ≡ length xs = search rules in
    let bound : c.partition_point.result ≤ length xs = omega (arith, c.partition_point.ensures.bound, len) in
    point-is (λ (s : GridStage). nat_lt s.stage k) xs c.partition_point.result bound
    (IsPartitionPoint-from_clause (λ (s : GridStage). nat_lt s.stage k) xs c.partition_point.result c.partition_point.ensures.partitioned (partitioned k xs c.requires)
    (λ a r f' h. search (rules, tests)))
