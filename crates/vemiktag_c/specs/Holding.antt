-- What a handle owns: the run at the pointer, with the right to free its block; or nothing.
use Rattle.std.specs.Prelude.{Option, Some, None}
use base.Fml.{Fml, ftrue}
use denote.RawPtr.{Ptr}
use Rattle.std.specs.Box.Ownership.{box_owns}
use Rattle.std.specs.Global.{Global}
use Rattle.std_heap.specs.contracts.GlobalAllocator.TheImpl.{ghosts}
use Rattle.vemiktag_c.specs.contracts.runs.ClientRun.{the_row}

abbrev pub holding : Global → Ptr → Option the_row.Denot → Fml
holding alloc at None = ftrue
holding alloc at (Some run) = box_owns (ghosts.dealloc_token alloc) the_row at run
