use Rattle.ft_replay.proofs.SessionPieces.{lines-are_refused_once, lines-counted, lines-grow, reports-end}
use Rattle.ft_replay.proofs.session_replay.session_pieces.Goals as goal

pub returns-clause-grow : goal.returns-clause-grow
returns-clause-grow c = lines-grow

pub returns-clause-end : goal.returns-clause-end
returns-clause-end c = reports-end

pub returns-clause-counted : goal.returns-clause-counted
returns-clause-counted c = lines-counted

pub returns-clause-refused : goal.returns-clause-refused
returns-clause-refused c = lines-are_refused_once
