-- What stands before the lists of a summary: its version, its numbers, and the names of connections.
use Rattle.std.specs.Prelude.{ℕ, Bool, true, not, ◌&&◌, ◌||◌, nat_eq, nat_lt, List, [], ◌∷◌, length, Option, option_and_then, Result, Ok, Err, bytes_eq, if◌then◌else◌}
use Rattle.std.specs.List.{list_any}
use Rattle.serde_json.specs.Data.{Data}
use Rattle.ft_json.specs.declared.fields.Field.TheVariants.{Conns, Min, Other, Seq, Skipped, Version as VersionField}
use Rattle.ft_json.specs.Reading.{count_field, items, needed_field}
use Rattle.ft_props.specs.Properties.{Characters}
use Rattle.ft_op.specs.Reading.{◌>>=◌}
use Rattle.ft_sumdoc.specs.declared.summary.SumCause.TheVariants.{WrongKind}
use Rattle.ft_sumdoc.specs.declared.summary.SumFault.{SumFault}
use Rattle.ft_sumdoc.specs.declared.summary.SumFault.TheVariants.{Malformed, Version}
use Rattle.ft_sumdoc.specs.Faults.{field_of_summary}
use Rattle.ft_sumdoc.specs.Forms.{characters, each_of, where_true}
use Rattle.ft_sumdoc.specs.Stamps.{Bounds}

-- the version, the numbers and the names of connections
pub record Head : Type 0 where
  pub version : ℕ
  pub seq : ℕ
  pub min : ℕ
  pub skipped : ℕ
  pub other : ℕ
  pub conns : List Characters

-- what stamps are tested with
abbrev pub bounds_of : Head → Bounds
bounds_of h = record { min = h.min; seq = h.seq; conns = length h.conns }

-- the version, if it is one that is read
abbrev pub known_version : ℕ → Result ℕ SumFault
known_version n = if nat_eq n 1 || nat_eq n 2 then Ok n else Err (Version n)

-- whether no name stands twice
abbrev pub are_distinct_names : List Characters → Bool
are_distinct_names [] = true
are_distinct_names (name ∷ names) = not (list_any (bytes_eq name) names) && are_distinct_names names

-- the names that a list of strings is, none twice
abbrev pub distinct_names : List Data → Option (List Characters)
distinct_names ds = option_and_then (λ names. where_true (are_distinct_names names) names) (each_of characters ds)

-- the names of connections that an array of strings is
abbrev pub names_form : Data → Option (List Characters)
names_form d = option_and_then distinct_names (items d)

-- the numbers, the minimum being at most the sequence number, and then the names
abbrev pub head_with : ℕ → ℕ → ℕ → ℕ → ℕ → Data → Result Head SumFault
head_with version seq min skipped other d =
    if nat_lt seq min then Err (Malformed (WrongKind Min))
    else (do
      conns ← field_of_summary (needed_field names_form d Conns)
      Ok (record { version = version; seq = seq; min = min; skipped = skipped; other = other; conns = conns }))

-- what stands before the lists of the summary that an object is
unfoldable pub head : Data → Result Head SumFault
head d = do
  n ← field_of_summary (count_field d VersionField)
  version ← known_version n
  seq ← field_of_summary (count_field d Seq)
  min ← field_of_summary (count_field d Min)
  skipped ← field_of_summary (count_field d Skipped)
  other ← field_of_summary (count_field d Other)
  head_with version seq min skipped other d
