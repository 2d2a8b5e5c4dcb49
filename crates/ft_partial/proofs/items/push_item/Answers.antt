use Rattle.std.proofs.Common.{ℕ, ◌+◌, ◌-◌, ◌%◌, subst, arith}
use Rattle.std.proofs.lemmas.Result.{on_ok_weaker}
use Rattle.ft_partial.specs.Elements.{AddsBut}
use Rattle.ft_partial.proofs.ItemLemmas.{adds_alive, adds_gone}
use Rattle.ft_partial.specs.EntryLists.{entries_of}
use Rattle.ft_partial.proofs.items.push_item.Goals as goal

pub returns-in-None : goal.returns-in-None
returns-in-None c =
    on_ok_weaker c.push_but.result
    (adds_alive c.args.floor (entries_of c.args.entries.now) (entries_of c.push_but.new.entries) c.args.e.now c.args.len ((0 + (18446744073709551616 - c.args.len)) % 18446744073709551616) c.in-Acked.seq c.in-Acked.conn c.as_slice-dels.result.now
    c.in-Acked.is c.as_slice-dels.ensures (omega arith) (omega arith) c.in-None.ensures) c.push_but.ensures

pub returns-in_ok-push_but-in-Some : goal.returns-in_ok-push_but-in-Some
returns-in_ok-push_but-in-Some c =
    let least = λ (k : ℕ). AddsBut c.args.floor (entries_of c.push_but-in-Some.new.entries) (entries_of c.push_but-in-Some-2.new.entries) k ((0 + (18446744073709551616 - c.args.len)) % 18446744073709551616) c.in-Acked.conn c.as_slice-dels.result.now in
    on_ok_weaker c.push_but-in-Some-2.result
    (λ back. adds_gone c.args.floor (entries_of c.args.entries.now) (entries_of c.push_but-in-Some.new.entries) (entries_of c.push_but-in-Some-2.new.entries) c.args.e.now c.args.len ((0 + (18446744073709551616 - c.args.len)) % 18446744073709551616) c.in-Acked.seq
    c.in-Acked.conn c.in-Some.first c.as_slice-dels.result.now c.in-Acked.is c.as_slice-dels.ensures (omega arith) (omega arith) c.in-Some.ensures
    c.in_ok-push_but-in-Some.ensures (subst least c.min.ensures back)) c.push_but-in-Some-2.ensures
