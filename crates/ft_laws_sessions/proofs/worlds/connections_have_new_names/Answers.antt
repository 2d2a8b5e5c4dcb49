use Rattle.ft_laws_sessions.proofs.NameLaws.{connections-have-new_names, guests-have-new_names}
use Rattle.ft_laws_sessions.proofs.worlds.connections_have_new_names.Goals as goal

pub returns-clause-clients : goal.returns-clause-clients
returns-clause-clients c = connections-have-new_names

pub returns-clause-guests : goal.returns-clause-guests
returns-clause-guests c = guests-have-new_names
