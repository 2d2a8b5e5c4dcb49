use Rattle.std.proofs.Common.{◌≡◌, ◌≤◌, nat_lt, length, arith, rules, tests}
use Rattle.std.proofs.lemmas.List.Sorted.{IsPartitionPoint-from_clause}
use Rattle.ft_interval_store.specs.declared.pending.Operation.{Operation}
use Rattle.ft_interval_store.proofs.StagePlaces.{partitioned, point-is}
use Rattle.ft_interval_store.proofs.pending.first_from.Goals as goal

pub returns : goal.returns
returns c =
    let xs = c.args.pending.now.items in
    let k = c.args.stage in
    let len : c.args.pending.now.len ≡ length xs = search rules in
    let bound : c.partition_point.result ≤ length xs = omega (arith, c.partition_point.ensures.bound, len) in
    point-is (λ (t : Operation). nat_lt t.stage k) xs c.partition_point.result bound
    (IsPartitionPoint-from_clause (λ (t : Operation). nat_lt t.stage k) xs c.partition_point.result c.partition_point.ensures.partitioned
    (partitioned k xs c.requires) (λ a r f' h. search (rules, tests)))
