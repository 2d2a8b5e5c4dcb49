use Rattle.ft_laws_sessions.proofs.WorldLaws.{clients-of-log}
use Rattle.ft_laws_sessions.proofs.worlds.clients_are_of_the_log.Goals as goal

pub returns : goal.returns
returns c = clients-of-log
