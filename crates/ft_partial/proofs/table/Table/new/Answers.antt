use Rattle.std.proofs.Common.{refl}
use Rattle.ft_partial.proofs.TableLemmas.{stands-none}
use Rattle.ft_partial.proofs.table.Table.new.Goals as goal

pub returns-clause-stands : goal.returns-clause-stands
returns-clause-stands c = stands-none _ refl refl
