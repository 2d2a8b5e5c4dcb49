use Rattle.std.proofs.Common.{arith, rules}
use Rattle.std.proofs.lemmas.List.Sorted.{IsPartitionPoint-from_clause}
use Rattle.ft_interval_store.specs.Intervals.{Name, begins_by}
use Rattle.ft_interval_store.proofs.NamesOnPages.{partitioned}
use Rattle.ft_interval_store.proofs.search.pages_by.Goals as goal

pub returns : goal.returns
returns g c =
    let n : Name = (c.args.label.now, c.args.id.now) in
    let ps = c.args.pages.now in
    let point = IsPartitionPoint-from_clause (λ y. begins_by n y.items) ps c.partition_point.result c.partition_point.ensures.partitioned
    (partitioned n ps c.requires.filled c.requires.rising) (λ a r f' h. search rules) in
    record {
      within = c.partition_point.ensures.bound;
      by = λ i y l. point.0 i y (omega arith) l;
      behind = λ i y l m. point.1 i y l m;
    }
