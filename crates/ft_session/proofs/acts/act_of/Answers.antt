-- Each event is what it says.
use Rattle.std.proofs.Common.{subst, sym}
use Rattle.std.specs.Prelude.{IfOk}
use Rattle.ft_seqr.specs.declared.events.Event.{Event}
use Rattle.ft_session.specs.Acts.{IsAct}
use Rattle.ft_session.proofs.acts.act_of.Goals as goal

pub returns-in-Start : goal.returns-in-Start
returns-in-Start c = c.in-Start.is

pub returns-in-Connect : goal.returns-in-Connect
returns-in-Connect c = c.in-Connect.is

pub returns-in-Drop : goal.returns-in-Drop
returns-in-Drop c = c.in-Drop.is

pub returns-in-Edit : goal.returns-in-Edit
returns-in-Edit c = c.in-Edit.is

pub returns-in-Ticket : goal.returns-in-Ticket
returns-in-Ticket c = c.in-Ticket.is

pub returns-in-Deliver : goal.returns-in-Deliver
returns-in-Deliver c = c.in-Deliver.is

pub returns-in-Noop : goal.returns-in-Noop
returns-in-Noop c = c.in-Noop.is

pub returns-in-Show : goal.returns-in-Show
returns-in-Show c = c.in-Show.is

pub returns-in-Queue : goal.returns-in-Queue
returns-in-Queue c = c.in-Queue.is

pub returns-in-Compact : goal.returns-in-Compact
returns-in-Compact c = c.in-Compact.is

pub returns-in-Summary : goal.returns-in-Summary
returns-in-Summary c = c.in-Summary.is

pub returns-in-Offer : goal.returns-in-Offer
returns-in-Offer c = subst (λ (e : Event). IfOk c.offer.result (λ act. IsAct act e)) (sym c.in-Offer.is) c.offer.ensures

pub returns-in-History : goal.returns-in-History
returns-in-History c = c.in-History.is

pub returns-in-Guest : goal.returns-in-Guest
returns-in-Guest c = c.in-Guest.is

pub returns-in-Submit : goal.returns-in-Submit
returns-in-Submit c = subst (λ (e : Event). IfOk c.submission.result (λ act. IsAct act e)) (sym c.in-Submit.is) c.submission.ensures

pub returns-in-Part : goal.returns-in-Part
returns-in-Part c = c.in-Part.is

pub returns-in-Overlap : goal.returns-in-Overlap
returns-in-Overlap c = c.in-Overlap.is

pub returns-in-Blame : goal.returns-in-Blame
returns-in-Blame c = c.in-Blame.is

pub returns-in-Authors : goal.returns-in-Authors
returns-in-Authors c = c.in-Authors.is
