use Rattle.std.proofs.Common.{◌+◌, ◌-◌, ◌%◌, refl, [], arith}
use Rattle.ft_partial.specs.EntryLists.{entries_of}
use Rattle.ft_partial.specs.Tables.{Lengths}
use Rattle.ft_partial.proofs.LifespanLemmas.{exchanges_lifespans}
use Rattle.ft_partial.proofs.changes.Change.of_lifespans.Goals as goal

pub returns : goal.returns
returns c =
    let last = (c.staying-more.result + (18446744073709551616 - c.staying-less.result)) % 18446744073709551616 in
    let change : Lengths = record { floor = 0; last = last; entries = entries_of c.push_lifespan-2.new.entries } in
    exchanges_lifespans change [] (entries_of c.push_lifespan.new.entries) c.args.gone.now c.args.come.now c.args.len c.args.new_len
    ((0 + (18446744073709551616 - c.args.len)) % 18446744073709551616) c.staying-less.result c.staying-more.result (omega arith) (omega arith) refl
    c.in_ok-push_lifespan.ensures c.in_ok-push_lifespan-2.ensures c.staying-less.ensures c.staying-more.ensures (omega arith) (omega arith)
