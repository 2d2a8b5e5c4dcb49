use Rattle.std.proofs.Common.{◌∙◌, sym}
use Rattle.ft_base.proofs.Results.{ok-holds}
use Rattle.ft_matrix.proofs.matrix.SharedMatrix.load.Goals as goal

pub invariant_of-table : goal.invariant_of-table
invariant_of-table c = λ usable. (ok-holds c.load-loaded.result (sym c.is_ok-usable.ensures.value ∙ usable) c.load-loaded.ensures).sound
