-- The run of a handle that is open.
use Rattle.std.specs.Prelude.{Bool, Option, None, if◌then◌else◌}
use Rattle.vemiktag_c.specs.declared.runs.ClientRun.{ClientRun}

abbrev pub open_run : Bool → Option ClientRun → Option ClientRun
open_run is_open run = if is_open then run else None
