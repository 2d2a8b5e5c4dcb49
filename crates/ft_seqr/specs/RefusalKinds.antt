-- What a refusal says: OutOfMemory, a stop before, or that the naive session refuses.
use Rattle.std.specs.Prelude.{Bool, true, false}
use Rattle.ft_seqr.specs.declared.refusals.Refusal.{Refusal}
use Rattle.ft_seqr.specs.declared.refusals.Refusal.TheVariants.{OutOfMemory, Stopped}

pub data RefusalKind : Type 0 where
  WantsMemory : RefusalKind
  HadStopped : RefusalKind
  Refused : RefusalKind

-- which of these it says
abbrev pub refusal_kind : Refusal → RefusalKind
refusal_kind OutOfMemory = WantsMemory
refusal_kind Stopped = HadStopped
refusal_kind _ = Refused

-- what it means where nothing had stopped: the first, or where the naive session refuses the second
abbrev pub MeansOf : RefusalKind → Type 0 → Type 0 → Type 0
MeansOf WantsMemory wants refuses = wants
MeansOf HadStopped wants refuses = ⊥
MeansOf Refused wants refuses = refuses

-- whether it is OutOfMemory
abbrev pub wants_memory : RefusalKind → Bool
wants_memory WantsMemory = true
wants_memory _ = false

abbrev pub is_want : Refusal → Bool
is_want why = wants_memory (refusal_kind why)
