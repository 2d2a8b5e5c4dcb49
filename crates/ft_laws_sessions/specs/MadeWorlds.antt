-- Worlds that well-formed events made of the empty one.
use Rattle.std.specs.Prelude.{◌≡◌, ◌≤◌, ◌^◌, List}
use Rattle.ft_seqr.specs.declared.events.Event.{Event}
use Rattle.ft_seqr.specs.World.{NaiveWorld, new_world}
use Rattle.ft_laws_sessions.specs.FormedLogs.{AllMayBeTaken}
use Rattle.ft_laws_sessions.specs.Worlds.{reached}

-- well-formed events made the world of the empty one, and its load is at most 2^52
pub record IsMade (w : NaiveWorld) : Type 0 where
  pub events : List Event
  pub taken : AllMayBeTaken new_world events
  pub made : reached events ≡ w
  pub load : w.load ≤ 2 ^ 52
