use Rattle.std.proofs.Common.{nat_le, rules, tests}
use Rattle.std.proofs.lemmas.List.Sorted.{IsPartitionPoint-from_clause}
use Rattle.ft_perm.proofs.ApartRuns.{partitioned, point_begun}
use Rattle.ft_perm.proofs.free.place_for.Goals as goal

pub returns-clause-place : goal.returns-clause-place
returns-clause-place c =
    let xs = c.args.free.now in
    let h = c.args.first in
    point_begun h c.partition_point.result xs c.partition_point.ensures.bound
    (IsPartitionPoint-from_clause (λ x. nat_le x.first h) xs c.partition_point.result c.partition_point.ensures.partitioned (partitioned h xs
    c.requires)
    (λ a r f' k. search (rules, tests)))
