-- The runs of the rows or the columns of a summary: their form, and how many units they have.
use Rattle.std.specs.Prelude.{ℕ, ◌+◌, ◌^◌, nat_le, List, [], ◌∷◌, Option, None, option_and_then}
use Rattle.serde_json.specs.Data.{Data}
use Rattle.ft_json.specs.declared.fields.Field.TheVariants.{RunLength}
use Rattle.ft_json.specs.Reading.{count, field, items}
use Rattle.ft_sumdoc.specs.declared.summary.RunRec.{RunRec}
use Rattle.ft_sumdoc.specs.Forms.{◌>>=◌, each_of, where_true}
use Rattle.ft_sumdoc.specs.Segments.{unless_removed}
use Rattle.ft_sumdoc.specs.Stamps.{GivenStamps, given_insertion, stamps_with}

-- ---- form

-- a run as an object gives it
pub record GivenRun : Type 0 where
  pub units : ℕ
  pub stamps : GivenStamps

-- how many units all these runs have
abbrev pub given_units : List GivenRun → ℕ
given_units [] = 0
given_units (run ∷ runs) = run.units + given_units runs

-- the run that a value is; a field for an author is none that has a name here
abbrev pub run_form : Data → Option GivenRun
run_form d = do
  n ← option_and_then count (field d RunLength)
  stamps ← stamps_with None d
  where_true (nat_le 1 n) (record { units = n; stamps = stamps })

-- at most 2^52 units
abbrev pub units_in_range : List GivenRun → Option (List GivenRun)
units_in_range runs = where_true (nat_le (given_units runs) (2 ^ 52)) runs

-- the runs that an array is
abbrev pub runs_form : Data → Option (List GivenRun)
runs_form d = do
  ds ← items d
  runs ← each_of run_form ds
  units_in_range runs

-- a run as it is kept
abbrev pub kept_run : GivenRun → RunRec
kept_run run = record { count = run.units; ins = given_insertion run.stamps; dels = run.stamps.removals }

-- ---- units

-- how many units runs have
abbrev pub unit_count : List RunRec → ℕ
unit_count [] = 0
unit_count (run ∷ runs) = run.count + unit_count runs

-- how many units of runs aren't removed
abbrev pub unremoved_units : List RunRec → ℕ
unremoved_units [] = 0
unremoved_units (run ∷ runs) = unless_removed run.dels run.count + unremoved_units runs
