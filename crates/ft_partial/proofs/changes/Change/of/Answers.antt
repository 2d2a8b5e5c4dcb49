use Rattle.std.proofs.Common.{◌+◌, ◌-◌, ◌%◌, sym, refl, [], arith}
use Rattle.ft_partial.proofs.TableLemmas.{exchanges_change}
use Rattle.ft_partial.specs.EntryLists.{entries_of}
use Rattle.ft_partial.proofs.changes.Change.of.Goals as goal

pub returns : goal.returns
returns c = λ old new floor change.
    let last = (c.last_length-come.result + (18446744073709551616 - c.last_length-gone.result)) % 18446744073709551616 in
    exchanges_change old new c.args.floor [] (entries_of c.push_item.new.entries) (entries_of c.push_item-2.new.entries)
    c.args.e.now c.args.new.now c.args.len c.args.new_len ((0 + (18446744073709551616 - c.args.len)) % 18446744073709551616) last c.last_length-gone.result
    c.last_length-come.result (omega arith) (omega arith) (sym floor) refl c.in_ok-push_item.ensures c.in_ok-push_item-2.ensures
    c.last_length-gone.ensures c.last_length-come.ensures (omega arith) (omega arith) change
