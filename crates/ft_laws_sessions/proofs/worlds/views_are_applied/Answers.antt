use Rattle.ft_laws_sessions.proofs.WorldLaws.{clients-show-the_same, views-are-applied}
use Rattle.ft_laws_sessions.proofs.worlds.views_are_applied.Goals as goal

pub returns-clause-applied : goal.returns-clause-applied
returns-clause-applied c = views-are-applied

pub returns-clause-same : goal.returns-clause-same
returns-clause-same c = clients-show-the_same
