-- Kinds of refusals.
use Rattle.std.specs.Prelude.{⊤}
use Rattle.ft_seqr.specs.RefusalKinds.{HadStopped, MeansOf, RefusalKind, Refused, WantsMemory}

-- a refusal means less
pub means-weaker : {A B : Type 0} (k : RefusalKind) → (A → B) → MeansOf k ⊤ A → MeansOf k ⊤ B
means-weaker WantsMemory f h = tt
means-weaker HadStopped f h = absurd h
means-weaker Refused f h = f h
