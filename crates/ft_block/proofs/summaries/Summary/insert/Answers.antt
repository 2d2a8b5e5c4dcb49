use Rattle.std.proofs.Common.{refl}
use Rattle.std.proofs.lemmas.Result.{on_ok_weaker}
use Rattle.ft_block.proofs.SettledLemmas.{inserted_exchange}
use Rattle.ft_block.proofs.summaries.Summary.insert.Goals as goal

pub returns-clause-exchanges : goal.returns-clause-exchanges
returns-clause-exchanges c =
    on_ok_weaker c.insert.result
    (λ adds floor is. inserted_exchange c.args.self.now _ floor c.args.at.seq c.args.at.conn c.args.len c.args.self.now.whole is c.add_for_all.ensures.lengths adds refl refl refl)
    c.insert.ensures.adds
