-- Each of the things that happen to a client is its step.
use Rattle.std.proofs.Common.{subst}
use Rattle.ft_session.specs.Acts.{IsWellFormedClientAct, offered_client}
use Rattle.ft_session.specs.Worlds.{AnswersClient}
use Rattle.ft_session.proofs.ActSteps.{as-asked, as-client, without-effect}
use Rattle.ft_session.proofs.session.happen_to_member.Goals as goal

pub returns-in-Connect-clause-answers : goal.returns-in-Connect-clause-answers
returns-in-Connect-clause-answers g c = as-client c.in-Connect.is c.connect.ensures.answers

pub returns-in-Drop-clause-answers : goal.returns-in-Drop-clause-answers
returns-in-Drop-clause-answers g c = as-client c.in-Drop.is c.drop_link.ensures.answers

pub returns-in-Edit-clause-answers : goal.returns-in-Edit-clause-answers
returns-in-Edit-clause-answers g c = as-client c.in-Edit.is c.edit.ensures.answers

pub returns-in-Ticket-clause-answers : goal.returns-in-Ticket-clause-answers
returns-in-Ticket-clause-answers g c = as-client c.in-Ticket.is c.ticket.ensures.answers

pub returns-in-Deliver-clause-answers : goal.returns-in-Deliver-clause-answers
returns-in-Deliver-clause-answers g c = as-client c.in-Deliver.is c.deliver.ensures.answers

pub returns-in-Noop-clause-answers : goal.returns-in-Noop-clause-answers
returns-in-Noop-clause-answers g c = as-client c.in-Noop.is c.noop.ensures.answers

pub returns-in-Show-clause-answers : goal.returns-in-Show-clause-answers
returns-in-Show-clause-answers g c = as-asked c.in-Show.is c.show.ensures.answers

pub returns-in-Queue-clause-answers : goal.returns-in-Queue-clause-answers
returns-in-Queue-clause-answers g c = as-asked c.in-Queue.is c.queue.ensures

pub returns-in-Compact-clause-answers : goal.returns-in-Compact-clause-answers
returns-in-Compact-clause-answers g c = as-client c.in-Compact.is c.compact.ensures.answers

pub returns-in-Summary-clause-answers : goal.returns-in-Summary-clause-answers
returns-in-Summary-clause-answers g c = as-asked c.in-Summary.is c.summarize.ensures

pub returns-in-Offer-clause-answers : goal.returns-in-Offer-clause-answers
returns-in-Offer-clause-answers g c = as-client c.in-Offer.is (subst
    (λ read. AnswersClient (λ w member. offered_client w member read) c.args.member.now c.offer.new.member c.args.service.now c.args.service.now c.offer.result)
    c.deref.ensures c.offer.ensures.answers)

pub returns-in-Overlap-clause-answers : goal.returns-in-Overlap-clause-answers
returns-in-Overlap-clause-answers g c = as-asked c.in-Overlap.is c.overlap.ensures

pub returns-in-Blame-clause-answers : goal.returns-in-Blame-clause-answers
returns-in-Blame-clause-answers g c = as-asked c.in-Blame.is c.blame.ensures

pub returns-in-Authors-clause-answers : goal.returns-in-Authors-clause-answers
returns-in-Authors-clause-answers g c = as-asked c.in-Authors.is c.authors.ensures

pub returns-in-Connect-clause-effect : goal.returns-in-Connect-clause-effect
returns-in-Connect-clause-effect g c = without-effect g.R.Replica.COMPACTS _ c.in-Connect.is c.connect.result (λ out. tt)

pub returns-in-Drop-clause-effect : goal.returns-in-Drop-clause-effect
returns-in-Drop-clause-effect g c = without-effect g.R.Replica.COMPACTS _ c.in-Drop.is c.drop_link.result (λ out. tt)

pub returns-in-Edit-clause-effect : goal.returns-in-Edit-clause-effect
returns-in-Edit-clause-effect g c = without-effect g.R.Replica.COMPACTS _ c.in-Edit.is c.edit.result (λ out. tt)

pub returns-in-Ticket-clause-effect : goal.returns-in-Ticket-clause-effect
returns-in-Ticket-clause-effect g c = without-effect g.R.Replica.COMPACTS _ c.in-Ticket.is c.ticket.result (λ out. tt)

pub returns-in-Deliver-clause-effect : goal.returns-in-Deliver-clause-effect
returns-in-Deliver-clause-effect g c = without-effect g.R.Replica.COMPACTS _ c.in-Deliver.is c.deliver.result (λ out. tt)

pub returns-in-Noop-clause-effect : goal.returns-in-Noop-clause-effect
returns-in-Noop-clause-effect g c = without-effect g.R.Replica.COMPACTS _ c.in-Noop.is c.noop.result (λ out. tt)

pub returns-in-Queue-clause-effect : goal.returns-in-Queue-clause-effect
returns-in-Queue-clause-effect g c = without-effect g.R.Replica.COMPACTS _ c.in-Queue.is c.queue.result (λ out. tt)

pub returns-in-Summary-clause-effect : goal.returns-in-Summary-clause-effect
returns-in-Summary-clause-effect g c = without-effect g.R.Replica.COMPACTS _ c.in-Summary.is c.summarize.result (λ out. tt)

pub returns-in-Offer-clause-effect : goal.returns-in-Offer-clause-effect
returns-in-Offer-clause-effect g c = without-effect g.R.Replica.COMPACTS _ c.in-Offer.is c.offer.result (λ out. tt)

pub returns-in-Overlap-clause-effect : goal.returns-in-Overlap-clause-effect
returns-in-Overlap-clause-effect g c = without-effect g.R.Replica.COMPACTS _ c.in-Overlap.is c.overlap.result (λ out. tt)

pub returns-in-Blame-clause-effect : goal.returns-in-Blame-clause-effect
returns-in-Blame-clause-effect g c = without-effect g.R.Replica.COMPACTS _ c.in-Blame.is c.blame.result (λ out. tt)

pub returns-in-Authors-clause-effect : goal.returns-in-Authors-clause-effect
returns-in-Authors-clause-effect g c = without-effect g.R.Replica.COMPACTS _ c.in-Authors.is c.authors.result (λ out. tt)

pub edit-requires-clause-formed : goal.edit-requires-clause-formed
edit-requires-clause-formed g c = subst IsWellFormedClientAct c.in-Edit.is c.requires.formed

pub overlap-requires-clause-range : goal.overlap-requires-clause-range
overlap-requires-clause-range g c = subst IsWellFormedClientAct c.in-Overlap.is c.requires.formed

pub blame-requires-clause-range : goal.blame-requires-clause-range
blame-requires-clause-range g c = subst IsWellFormedClientAct c.in-Blame.is c.requires.formed
