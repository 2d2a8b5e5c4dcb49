use Rattle.std.proofs.Common.{arith}
use Rattle.ft_block.proofs.KeptLemmas.{exchange_keeps}
use Rattle.ft_block.proofs.summaries.Exchange.of.Goals as goal

pub returns : goal.returns
returns c = λ old new from none adds.
    exchange_keeps c.args.floor old new c.shown_in-cleared.result c.shown_in-removed.result c.args.len c.args.new_len
    c.args.e.now c.args.new.now (omega arith) (omega arith) c.shown_in-cleared.ensures c.shown_in-removed.ensures from adds.whole adds.removed
    (c.in_ok-of.ensures old.table new.table from adds.table) (c.in_ok-stages_change.ensures old.stages new.stages none adds.stages)
