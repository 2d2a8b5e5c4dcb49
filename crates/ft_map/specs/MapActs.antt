-- What happens to the clients of a map session, as the code has it.
use Rattle.ft_map.specs.declared.world.MapAct.{MapAct}
use Rattle.ft_map.specs.declared.world.MapAct.TheVariants as act
use Rattle.ft_map.specs.MapSession.{MapService, MapTurned, NamedMapClient, connect_client, deliver_client, drop_client, edit_client, show_client, summary_client, ticket_client}

-- what becomes of it
abbrev pub turn_of : MapAct → MapService → NamedMapClient → MapTurned
turn_of act.Connect = connect_client
turn_of act.Drop = drop_client
turn_of (act.Edit op) = edit_client op.now
turn_of (act.Ticket many) = ticket_client many
turn_of (act.Deliver many) = deliver_client many
turn_of act.Show = show_client
turn_of act.Summary = summary_client
