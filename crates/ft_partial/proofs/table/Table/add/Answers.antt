use Rattle.std.proofs.lemmas.Result.{on_ok_weaker}
use Rattle.ft_partial.proofs.TableLemmas.{adds_item, stands-add}
use Rattle.ft_partial.proofs.table.Table.add.Goals as goal

pub returns-clause-adds : goal.returns-clause-adds
returns-clause-adds c = on_ok_weaker c.replace.result (adds_item c.args.self.now c.replace.new.self c.args.e.now c.args.len) c.replace.ensures.exchanges

pub returns-clause-ok : goal.returns-clause-ok
returns-clause-ok c =
    on_ok_weaker c.replace.result (λ adds. stands-add c.args.self.now c.replace.new.self c.args.e.now c.args.len adds c.replace.ensures.floor) (returns-clause-adds c)
