use Rattle.std.proofs.Common.{◌+◌, ◌-◌, ◌%◌, sym, ◌∙◌, arith}
use Rattle.std.proofs.lemmas.Bool.Decides.{nat_tests}
use Rattle.ft_partial.proofs.ItemLemmas.{takes_one}
use Rattle.ft_partial.specs.EntryLists.{entries_of}
use Rattle.ft_partial.proofs.items.take_one.Goals as goal

pub returns-in_ok-push : goal.returns-in_ok-push
returns-in_ok-push c =
    takes_one (entries_of c.args.entries.now) _ c.args.seq c.args.by ((0 + (18446744073709551616 - c.args.by)) % 18446744073709551616) c.args.conn c.in-Acked.maker c.in-Acked.seq c.args.before.now c.args.stamp c.in-Acked.is (omega arith) (omega arith)
    (grind (arith, nat_tests)) (sym c.is_any_by.ensures ∙ c.if-not-is_any_by.true) c.in_ok-push.ensures
