-- Who inserted each visible element of the text.
use Rattle.std.specs.Prelude.{cond, ◌&&◌, nat_eq, List, Option, Some, None, map}
use Rattle.ft_base.specs.declared.stamps.Stamp.{Stamp}
use Rattle.ft_base.specs.declared.stamps.Stamp.TheVariants.{Acked, Local}
use Rattle.ft_attrib.specs.declared.attribution.Origin.{Origin}
use Rattle.ft_attrib.specs.declared.attribution.Origin.TheVariants.{Known, Unknown, Pending}
use Rattle.ft_msg.specs.Client.{NaiveClient}
use Rattle.ft_msg.specs.Content.{stage_view}

-- the origin that `by` tells: pending without one, unknown at (0, 0)
abbrev pub origin_of : Option Stamp → Origin
origin_of None = Pending
origin_of (Some (Acked s c)) = cond (nat_eq s 0 && nat_eq c 0) Unknown (Known s c)
origin_of (Some (Local k)) = Pending

-- the origin of each visible element of the text, in order
abbrev pub blame : NaiveClient → List Origin
blame x = map (λ e. origin_of e.by) (stage_view x.last_stage x.doc.text.items)
