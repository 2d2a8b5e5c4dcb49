use Rattle.ft_replay.specs.Observation.{nothing_observed}
use Rattle.ft_replay.proofs.loading.first_text.Goals as goal

pub returns : goal.returns
returns g c = c.view_text.ensures nothing_observed c.in_ok-observer.ensures.first
