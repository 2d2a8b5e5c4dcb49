use Rattle.std.proofs.Common.{subst}
use Rattle.std.proofs.lemmas.Result.{on_ok_weaker}
use Rattle.ft_base.specs.declared.elements.Element.{Element}
use Rattle.ft_block.specs.Tree.{KeepsExchange}
use Rattle.ft_block.proofs.summaries.Summary.add_elements.Goals as goal

pub returns-in-Some-clause-exchanges : goal.returns-in-Some-clause-exchanges
returns-in-Some-clause-exchanges c =
    let P : Element → Type 0 = λ e. KeepsExchange c.args.floor c.args.self.now c.insert.new.self e 0 e c.args.len in
    on_ok_weaker c.insert.result (λ keeps. subst P c.in-Some.ensures.element (keeps c.args.floor c.requires.floor)) c.insert.ensures.exchanges

pub returns-in_ok-exchange-in-None-clause-exchanges : goal.returns-in_ok-exchange-in-None-clause-exchanges
returns-in_ok-exchange-in-None-clause-exchanges c =
    on_ok_weaker c.add_exchange.result (c.in_ok-exchange-in-None.ensures c.args.self.now c.add_exchange.new.self c.requires.floor
    c.add_exchange.ensures.stages) c.add_exchange.ensures.adds
