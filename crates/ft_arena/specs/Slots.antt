-- What `Slots` shows of the kit's `Slab`, whose room is no bound on its numbers. No public clause cites this module.
use Rattle.std.specs.Prelude.{◌≤◌, length, cond, nat_le}
use Rattle.slab.specs.Slab.{Slab}
use Rattle.ft_arena.specs.declared.slots.TheConstants.{MOST_SLOTS}

module _ {T : Type 0} where
  -- the slab with the room that there are links for: none where it has room for more
  abbrev pub capped : Slab T → Slab T
  capped s = record { slots = s.slots; vacant_key = s.vacant_key; capacity = cond (nat_le s.capacity MOST_SLOTS) s.capacity 0 }

  -- there is a link to each number
  abbrev pub AreFew : Slab T → Type 0
  AreFew s = length s.slots ≤ MOST_SLOTS
