use Rattle.ft_map.proofs.Views.{idle_clients}
use Rattle.ft_map.proofs.laws.idle_clients_agree.Goals as goal

pub returns : goal.returns
returns c = idle_clients c.views_are_agreed_maps.ensures
