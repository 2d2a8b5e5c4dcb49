-- The world of a run of the command `map`.
use Rattle.std.specs.Prelude.{false}
use Rattle.ft_map.specs.MapSession.{MapSession}
use Rattle.ft_map.specs.MapWorlds.{MapWorldState}

-- a world that found memory for each event so far
abbrev pub running : MapSession → MapWorldState
running w = record { session = w; stopped = false }
