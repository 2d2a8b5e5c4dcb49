-- The runs of units as they are made from the front: one is open, and the next unit is counted in it or ends it.
use Rattle.std.specs.Prelude.{◌+◌, cond, List, [], ◌∷◌, Option, Some, None}
use Rattle.ft_sumdoc.specs.declared.summary.Mark.{Mark}
use Rattle.ft_sumdoc.specs.declared.summary.RunRec.{RunRec}
use Rattle.ft_sumdoc.specs.WellFormed.{same_stamps}
use Rattle.ft_props.specs.Element.{ListElement}
use Rattle.ft_msg.specs.JoinedRuns.{with_run}
use Rattle.ft_msg.specs.SummaryOf.{unit_runs}

-- the open run, if a unit with these stamps ends it
abbrev pub ended_runs : Option RunRec → Mark → List Mark → List RunRec
ended_runs None ins dels = []
ended_runs (Some run) ins dels = cond (same_stamps run.ins run.dels ins dels) [] (run ∷ [])

-- the run that is open then
abbrev pub open_run : Option RunRec → Mark → List Mark → RunRec
open_run None ins dels = record { count = 1; ins = ins; dels = dels }
open_run (Some run) ins dels =
    cond (same_stamps run.ins run.dels ins dels) (record { count = run.count + 1; ins = ins; dels = dels }) (record { count = 1; ins = ins; dels = dels })

-- the runs of units, where this one is open before them
abbrev pub runs_behind : Option RunRec → List ListElement → List RunRec
runs_behind None xs = unit_runs xs
runs_behind (Some run) xs = with_run run (unit_runs xs)
