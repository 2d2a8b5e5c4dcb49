use Rattle.ft_laws_sessions.proofs.WorldLaws.{log-in-order}
use Rattle.ft_laws_sessions.proofs.worlds.logs_are_in_order.Goals as goal

pub returns : goal.returns
returns c = log-in-order
