use Rattle.std.proofs.Common.{refl}
use Rattle.std.proofs.lemmas.Result.{on_ok_weaker}
use Rattle.ft_block.proofs.KeptLemmas.{exchange_raised}
use Rattle.ft_block.proofs.summaries.Summary.fold_and_exchange.Goals as goal

pub returns-clause-exchanges : goal.returns-clause-exchanges
returns-clause-exchanges c =
    on_ok_weaker c.add_exchange.result
    (λ adds e f n m is. exchange_raised c.args.floor c.args.self.now _ c.add_exchange.new.self e f n m refl refl (λ r c. refl) c.fold_to.ensures.lengths
    (is _ c.add_exchange.new.self c.fold_to.ensures.floor c.add_exchange.ensures.stages adds))
    c.add_exchange.ensures.adds
