-- What a call does to a sink that is to write some bytes.
use Rattle.std.specs.Prelude.{◌≡◌, ℕ, ◌≤◌, List, ◌++◌, Option, Result, Ok, Err}
use Rattle.std.specs.Io.KnownBytes.{Appends}
use Rattle.ft_io.specs.Streams.{Rose}
use Rattle.ft_replay.specs.declared.endings.Fault.{Fault}
use Rattle.ft_replay.specs.declared.endings.Fault.TheVariants.{Write, OutOfMemory}

-- the whole begins with the front
pub record Begins (front whole : List ℕ) : Type 0 where
  pub later : List ℕ
  pub place : whole ≡ front ++ later

-- what an answer says of the bytes written: all of them at Ok; the first of them at OutOfMemory, and where the sink failed, whose count rose then
abbrev pub SaysOfWritten : {T : Type 0} → Type 0 → List ℕ → List ℕ → Result T Fault → Type 0
SaysOfWritten rose bytes written (Ok _) = written ≡ bytes
SaysOfWritten rose bytes written (Err Write) = rose × Begins written bytes
SaysOfWritten rose bytes written (Err OutOfMemory) = Begins written bytes
SaysOfWritten rose bytes written (Err _) = ⊥

-- a call that is to write these bytes: what the sink took in it, and what its answer says of that
pub record WritesBytes {T : Type 0} (held holds : Option (List ℕ)) (before now : ℕ) (bytes : List ℕ) (result : Result T Fault) : Type 0 where
  pub written : List ℕ
  pub takes : Appends held holds written
  pub later : before ≤ now
  pub says : SaysOfWritten (Rose before now) bytes written result
