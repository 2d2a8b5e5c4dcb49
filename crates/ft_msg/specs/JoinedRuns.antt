-- Runs of units that are put before others.
use Rattle.std.specs.Prelude.{◌+◌, cond, List, [], ◌∷◌}
use Rattle.ft_sumdoc.specs.declared.summary.RunRec.{RunRec}
use Rattle.ft_sumdoc.specs.WellFormed.{same_stamps}

-- runs with a run before them, joined to the first one where their stamps are equal
abbrev pub with_run : RunRec → List RunRec → List RunRec
with_run run [] = run ∷ []
with_run run (next ∷ runs) =
    cond (same_stamps run.ins run.dels next.ins next.dels) (record next { count = next.count + run.count } ∷ runs) (run ∷ next ∷ runs)
