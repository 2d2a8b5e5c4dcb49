use Rattle.std.proofs.Common.{nat_lt, rules, tests}
use Rattle.std.proofs.lemmas.List.Sorted.{IsPartitionPoint-from_clause}
use Rattle.ft_cells.proofs.Writes.{partitioned}
use Rattle.ft_cells.proofs.values.lower_writes.Goals as goal

pub returns-clause-end : goal.returns-clause-end
returns-clause-end c =
    IsPartitionPoint-from_clause (λ w. nat_lt w.0 c.args.stage) c.args.pending.now.items c.partition_point.result c.partition_point.ensures.partitioned
    (partitioned c.args.stage c.args.pending.now.items c.requires) (λ a r f' h. search (rules, tests))
