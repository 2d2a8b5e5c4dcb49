use Rattle.ft_laws_sessions.proofs.ClientDrafts.{drafts-of_clients-are_formed}
use Rattle.ft_laws_sessions.proofs.formed.client_drafts_are_well_formed.Goals as goal

pub returns : goal.returns
returns c = drafts-of_clients-are_formed
