-- Each of the things that happen to a client is its turn.
use Rattle.ft_map.proofs.Turns.{as-turn}
use Rattle.ft_map.proofs.world.happen_to_member.Goals as goal

pub returns-in-Connect-clause-answers : goal.returns-in-Connect-clause-answers
returns-in-Connect-clause-answers c = as-turn c.args.member.now c.connect.new.member c.args.service.now c.connect.new.service c.connect.result c.in-Connect.is c.connect.ensures.answers

pub returns-in-Drop-clause-answers : goal.returns-in-Drop-clause-answers
returns-in-Drop-clause-answers c = as-turn c.args.member.now c.drop_link.new.member c.args.service.now c.drop_link.new.service c.drop_link.result c.in-Drop.is c.drop_link.ensures.answers

pub returns-in-Edit-clause-answers : goal.returns-in-Edit-clause-answers
returns-in-Edit-clause-answers c = as-turn c.args.member.now c.edit.new.member c.args.service.now c.args.service.now c.edit.result c.in-Edit.is c.edit.ensures.answers

pub returns-in-Ticket-clause-answers : goal.returns-in-Ticket-clause-answers
returns-in-Ticket-clause-answers c = as-turn c.args.member.now c.ticket.new.member c.args.service.now c.ticket.new.service c.ticket.result c.in-Ticket.is c.ticket.ensures.answers

pub returns-in-Deliver-clause-answers : goal.returns-in-Deliver-clause-answers
returns-in-Deliver-clause-answers c = as-turn c.args.member.now c.deliver.new.member c.args.service.now c.args.service.now c.deliver.result c.in-Deliver.is c.deliver.ensures.answers

pub returns-in-Show-clause-answers : goal.returns-in-Show-clause-answers
returns-in-Show-clause-answers c = as-turn c.args.member.now c.args.member.now c.args.service.now c.args.service.now c.show.result c.in-Show.is c.show.ensures

pub returns-in-Summary-clause-answers : goal.returns-in-Summary-clause-answers
returns-in-Summary-clause-answers c = as-turn c.args.member.now c.args.member.now c.args.service.now c.args.service.now c.summarize.result c.in-Summary.is c.summarize.ensures
