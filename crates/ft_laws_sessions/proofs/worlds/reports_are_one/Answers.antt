use Rattle.ft_laws_sessions.proofs.ReportLaws.{opened-reports-are_one, reports-are_one}
use Rattle.ft_laws_sessions.proofs.worlds.reports_are_one.Goals as goal

pub returns-clause-whole : goal.returns-clause-whole
returns-clause-whole c = reports-are_one

pub returns-clause-opened : goal.returns-clause-opened
returns-clause-opened c = opened-reports-are_one
