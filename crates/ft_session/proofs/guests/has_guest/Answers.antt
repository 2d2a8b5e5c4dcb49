-- A place is found.
use Rattle.std.proofs.Common.{◌∙◌, ap, is_some}
use Rattle.ft_seqr.specs.World.{is_guest}
use Rattle.ft_session.proofs.Naming.{any-found}
use Rattle.ft_session.proofs.guests.has_guest.Goals as goal

pub returns : goal.returns
returns c = c.is_some.ensures ∙ ap is_some c.guest_place.ensures ∙ any-found (is_guest c.args.name.now) c.args.guests.now
