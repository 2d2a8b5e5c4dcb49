use Rattle.ft_replay.proofs.showing.Showing.add_line.Goals as goal

pub returns-clause-lines : goal.returns-clause-lines
returns-clause-lines c d is = c.in_ok-push_client_line.ensures d is
