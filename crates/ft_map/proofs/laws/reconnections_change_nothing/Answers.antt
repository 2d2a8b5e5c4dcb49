use Rattle.ft_map.proofs.Views.{reconnections}
use Rattle.ft_map.proofs.laws.reconnections_change_nothing.Goals as goal

pub returns : goal.returns
returns c = reconnections
