use Rattle.ft_map.proofs.KnownSessions.{views}
use Rattle.ft_map.proofs.laws.views_are_agreed_maps.Goals as goal

pub returns : goal.returns
returns c = views
