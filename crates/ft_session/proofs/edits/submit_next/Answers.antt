-- The oldest message is what is first in the queue.
use Rattle.std.proofs.Common.{◌∙◌, sym}
use Rattle.ft_session.proofs.Submissions.{next-memory, next-service}
use Rattle.ft_session.proofs.edits.submit_next.Goals as goal

pub returns-in-Some-clause-service : goal.returns-in-Some-clause-service
returns-in-Some-clause-service g c = next-service c.args.conn c.in-Some.draft _ (sym c.take_outgoing.ensures.oldest ∙ c.in-Some.is) c.args.service.now c.submit.new.self c.submit.result c.submit.ensures

pub returns-in-Some-clause-memory : goal.returns-in-Some-clause-memory
returns-in-Some-clause-memory g c = next-memory c.args.conn c.in-Some.draft _ (sym c.take_outgoing.ensures.oldest ∙ c.in-Some.is) c.args.service.now c.submit.new.self c.requires c.submit.result c.submit.ensures
