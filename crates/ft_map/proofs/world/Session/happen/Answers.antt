-- Each event of a client is its turn.
use Rattle.ft_map.proofs.Turns.{as-event, no-nack_as}
use Rattle.ft_map.proofs.world.Session.happen.Goals as goal

pub returns-in-Start : goal.returns-in-Start
returns-in-Start c = as-event c.args.self.now c.start.new.self c.start.result c.in-Start.is c.start.ensures

pub happen_to-requires : goal.happen_to-requires
happen_to-requires c = no-nack_as c.args.self.now c.in-Connect.is c.requires

pub returns-in-Connect : goal.returns-in-Connect
returns-in-Connect c = as-event c.args.self.now c.happen_to.new.self c.happen_to.result c.in-Connect.is c.happen_to.ensures

pub happen_to-requires-in-Drop : goal.happen_to-requires-in-Drop
happen_to-requires-in-Drop c = no-nack_as c.args.self.now c.in-Drop.is c.requires

pub returns-in-Drop : goal.returns-in-Drop
returns-in-Drop c = as-event c.args.self.now c.happen_to-in-Drop.new.self c.happen_to-in-Drop.result c.in-Drop.is c.happen_to-in-Drop.ensures

pub happen_to-requires-in-Edit : goal.happen_to-requires-in-Edit
happen_to-requires-in-Edit c = no-nack_as c.args.self.now c.in-Edit.is c.requires

pub returns-in-Edit : goal.returns-in-Edit
returns-in-Edit c = as-event c.args.self.now c.happen_to-in-Edit.new.self c.happen_to-in-Edit.result c.in-Edit.is c.happen_to-in-Edit.ensures

pub happen_to-requires-in-Ticket : goal.happen_to-requires-in-Ticket
happen_to-requires-in-Ticket c = no-nack_as c.args.self.now c.in-Ticket.is c.requires

pub returns-in-Ticket : goal.returns-in-Ticket
returns-in-Ticket c = as-event c.args.self.now c.happen_to-in-Ticket.new.self c.happen_to-in-Ticket.result c.in-Ticket.is c.happen_to-in-Ticket.ensures

pub happen_to-requires-in-Deliver : goal.happen_to-requires-in-Deliver
happen_to-requires-in-Deliver c = no-nack_as c.args.self.now c.in-Deliver.is c.requires

pub returns-in-Deliver : goal.returns-in-Deliver
returns-in-Deliver c = as-event c.args.self.now c.happen_to-in-Deliver.new.self c.happen_to-in-Deliver.result c.in-Deliver.is c.happen_to-in-Deliver.ensures

pub happen_to-requires-in-Show : goal.happen_to-requires-in-Show
happen_to-requires-in-Show c = no-nack_as c.args.self.now c.in-Show.is c.requires

pub returns-in-Show : goal.returns-in-Show
returns-in-Show c = as-event c.args.self.now c.happen_to-in-Show.new.self c.happen_to-in-Show.result c.in-Show.is c.happen_to-in-Show.ensures

pub happen_to-requires-in-Summary : goal.happen_to-requires-in-Summary
happen_to-requires-in-Summary c = no-nack_as c.args.self.now c.in-Summary.is c.requires

pub returns-in-Summary : goal.returns-in-Summary
returns-in-Summary c = as-event c.args.self.now c.happen_to-in-Summary.new.self c.happen_to-in-Summary.result c.in-Summary.is c.happen_to-in-Summary.ensures
