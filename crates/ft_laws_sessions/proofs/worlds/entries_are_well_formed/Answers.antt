use Rattle.ft_laws_sessions.proofs.FormedLaws.{entries-are-well_formed}
use Rattle.ft_laws_sessions.proofs.worlds.entries_are_well_formed.Goals as goal

pub returns : goal.returns
returns c = entries-are-well_formed
