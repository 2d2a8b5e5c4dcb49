use Rattle.ft_laws_sessions.proofs.FormedReads.{drafts-are-formed, events-are-formed, messages-are-formed, session-entries-are-well_formed}
use Rattle.ft_laws_sessions.proofs.formed.reads_are_well_formed.Goals as goal

pub returns-clause-drafts : goal.returns-clause-drafts
returns-clause-drafts c = drafts-are-formed

pub returns-clause-messages : goal.returns-clause-messages
returns-clause-messages c = messages-are-formed

pub returns-clause-events : goal.returns-clause-events
returns-clause-events c = events-are-formed

pub returns-clause-entries : goal.returns-clause-entries
returns-clause-entries c = session-entries-are-well_formed
