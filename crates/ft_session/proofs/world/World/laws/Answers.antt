-- The laws hold of each world.
use Rattle.ft_session.proofs.WorldLaws.{joins-keep-views, same-numbers-count, same-numbers-show, shows-applied}
use Rattle.ft_session.proofs.world.World.laws.Goals as goal

pub returns-clause-views : goal.returns-clause-views
returns-clause-views g c = shows-applied c.args.self.now

pub returns-clause-counts : goal.returns-clause-counts
returns-clause-counts g c = same-numbers-count c.args.self.now

pub returns-clause-same : goal.returns-clause-same
returns-clause-same g c = same-numbers-show c.args.self.now

pub returns-clause-joins : goal.returns-clause-joins
returns-clause-joins g c = joins-keep-views c.args.self.now
