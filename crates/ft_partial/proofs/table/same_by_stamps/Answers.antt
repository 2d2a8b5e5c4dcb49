use Rattle.ft_partial.proofs.TableLemmas.{stands-same}
use Rattle.ft_partial.proofs.table.same_by_stamps.Goals as goal

pub returns : goal.returns
returns c = stands-same c.args.table.now
