use Rattle.std.proofs.lemmas.Result.{IfOk-weaker}
use Rattle.ft_partial.specs.Tables.{Lengths}
use Rattle.ft_block.proofs.SettledLemmas.{stages_exchange}
use Rattle.ft_block.proofs.summaries.stages_change.Goals as goal

pub returns : goal.returns
returns c =
    IfOk-weaker c.of_lifespans.result _ _
    (λ (change : Lengths). stages_exchange change c.args.e.now c.args.new.now c.stages_of-gone.result c.stages_of-come.result c.args.len c.args.new_len c.stages_of-gone.ensures
    c.stages_of-come.ensures) c.of_lifespans.ensures
