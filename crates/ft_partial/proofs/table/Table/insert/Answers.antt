use Rattle.std.proofs.Common.{◌+◌, ◌-◌, ◌%◌, ap, arith, rules}
use Rattle.std.proofs.lemmas.Result.{on_ok_weaker}
use Rattle.ft_partial.specs.Items.{inserted_element}
use Rattle.ft_partial.proofs.TableLemmas.{adds_inserted, adds_inserted_low, stands-add}
use Rattle.ft_partial.proofs.table.Table.insert.Goals as goal

pub returns-then-seq-self-clause-adds : goal.returns-then-seq-self-clause-adds
returns-then-seq-self-clause-adds c =
    adds_inserted_low c.args.self.now c.add_for_all.new.self c.args.seq c.args.conn c.args.len c.self.inside.floor (ap (λ t. t.floor) c.self.view_is) c.if-seq-self.true
    c.add_for_all.ensures.lengths

pub returns-then-seq-self-clause-ok : goal.returns-then-seq-self-clause-ok
returns-then-seq-self-clause-ok c =
    stands-add c.args.self.now c.add_for_all.new.self (inserted_element c.args.seq c.args.conn) c.args.len (returns-then-seq-self-clause-adds c) c.add_for_all.ensures.floor

pub returns-clause-adds : goal.returns-clause-adds
returns-clause-adds c =
    on_ok_weaker c.put_in.result
    (adds_inserted c.args.self.now c.put_in.new.self c.from_ref.result.now c.args.seq c.args.conn c.args.len ((0 + (18446744073709551616 - c.args.len)) % 18446744073709551616)
    (omega arith) (omega arith) (search rules)) c.put_in.ensures.lengths

pub returns-clause-ok : goal.returns-clause-ok
returns-clause-ok c =
    on_ok_weaker c.put_in.result (λ adds. stands-add c.args.self.now c.put_in.new.self (inserted_element c.args.seq c.args.conn) c.args.len adds c.put_in.ensures.floor)
    (returns-clause-adds c)
