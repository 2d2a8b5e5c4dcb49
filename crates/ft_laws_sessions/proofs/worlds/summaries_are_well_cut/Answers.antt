use Rattle.ft_laws_sessions.proofs.ValidLaws.{summaries-are-well_cut}
use Rattle.ft_laws_sessions.proofs.worlds.summaries_are_well_cut.Goals as goal

pub returns : goal.returns
returns c = summaries-are-well_cut
