-- The events that have a client alone.
use Rattle.ft_props.specs.Properties.{Characters}
use Rattle.ft_seqr.specs.declared.events.Event.{Event}
use Rattle.ft_seqr.specs.declared.events.Event.TheVariants as event
use Rattle.ft_seqr.specs.declared.reading.OfClient.{OfClient}
use Rattle.ft_seqr.specs.declared.reading.OfClient.TheVariants.{Connect, Drop, Noop, Show, Queue, Compact, Summary, Authors}

-- the event that does this to the client
abbrev pub event_that : OfClient → Characters → Event
event_that Connect = event.Connect
event_that Drop = event.Drop
event_that Noop = event.Noop
event_that Show = event.Show
event_that Queue = event.Queue
event_that Compact = event.Compact
event_that Summary = event.Summary
event_that Authors = event.Authors
