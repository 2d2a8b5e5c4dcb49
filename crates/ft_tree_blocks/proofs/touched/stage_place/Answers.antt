use Rattle.std.proofs.Common.{◌≡◌, ◌≤◌, length, nat_lt, arith, rules, tests}
use Rattle.std.proofs.lemmas.List.Sorted.{IsPartitionPoint-from_clause}
use Rattle.ft_tree_blocks.proofs.TouchedLists.{partitioned, point_is}
use Rattle.ft_tree_blocks.proofs.touched.stage_place.Goals as goal

pub returns-clause-place : goal.returns-clause-place
returns-clause-place c =
    let xs = c.args.touched.now.items in
    let k = c.args.stage in
    let len : c.args.touched.now.len ≡ length xs = search rules in
    let bound : c.partition_point.result ≤ length xs = omega (arith, c.partition_point.ensures.bound, len) in
    point_is (λ s. nat_lt s.stage k) xs c.partition_point.result bound
    (IsPartitionPoint-from_clause (λ s. nat_lt s.stage k) xs c.partition_point.result c.partition_point.ensures.partitioned (partitioned k xs c.requires)
    (λ a r f' h. search (rules, tests)))
