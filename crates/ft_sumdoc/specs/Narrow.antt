-- The forms as the code reads them: a number of a connection is kept in 32 bits, and a greater one as 0, which is no number
-- of a connection either. The segments of all chunks stand in one list.
use Rattle.std.specs.Prelude.{◌≡◌, refl, ℕ, ◌^◌, ◌++◌, nat_eq, nat_le, nat_lt, List, [], ◌∷◌, Option, Some, None, option_and_then, option_map, unwrap_or, if◌then◌else◌}
use Rattle.serde_json.specs.Data.{Data}
use Rattle.ft_json.specs.declared.fields.Field.TheVariants.{Inserter, Insertion, Removals, RunLength, SegmentMarker, SegmentProps, SegmentText}
use Rattle.ft_json.specs.Reading.{count, field, items}
use Rattle.ft_sumdoc.specs.declared.summary.Mark.{Mark}
use Rattle.ft_sumdoc.specs.Forms.{◌>>=◌, array_form, each_of, optional, where_true}
use Rattle.ft_sumdoc.specs.Runs.{GivenRun, units_in_range}
use Rattle.ft_sumdoc.specs.Segments.{GivenSegment, given_body, has_some, not_empty, segment_props}
use Rattle.ft_sumdoc.specs.Stamps.{GivenStamps, stamp_form}
use Rattle.ft_sumdoc.specs.Summary.{given_length}

-- ---- stamps

-- the number of a connection in 32 bits
abbrev pub narrow_conn : ℕ → ℕ
narrow_conn conn = if nat_lt conn (2 ^ 32) then conn else 0

-- a stamp with such a number
abbrev pub narrow : Mark → Mark
narrow m = record { seq = m.seq; conn = narrow_conn m.conn }

-- the stamp that a value is
abbrev pub narrow_form : Data → Option Mark
narrow_form d = option_map narrow (stamp_form d)

-- the stamps that an array gives
abbrev pub narrow_list : Data → Option (List Mark)
narrow_list d = items d >>= each_of narrow_form

-- the author that an object gives, in a summary of version 2
abbrev pub narrow_author : ℕ → Data → Option (Option Mark)
narrow_author version d = if nat_eq version 2 then optional narrow_form (field d Inserter) else Some None

-- the removals of a field that may be absent
abbrev pub narrow_removals : Option Data → Option (List Mark)
narrow_removals o = option_map (λ ms. unwrap_or ms []) (optional narrow_list o)

-- the stamps that an object gives, beside this author
abbrev pub narrow_stamps : Option Mark → Data → Option GivenStamps
narrow_stamps author d = do
  insertion ← optional narrow_form (field d Insertion)
  removals ← narrow_removals (field d Removals)
  Some (record { author = author; insertion = insertion; removals = removals })

-- ---- segments

-- the segment that a value is, in a summary of this version
abbrev pub narrow_segment : ℕ → Data → Option GivenSegment
narrow_segment version d = do
  body ← given_body (field d SegmentText) (field d SegmentMarker)
  props ← segment_props (field d SegmentProps)
  author ← narrow_author version d
  stamps ← narrow_stamps author d
  Some (record { body = body; props = props; stamps = stamps })

-- the chunk of segments that an array is
abbrev pub narrow_chunk : ℕ → Data → Option (List GivenSegment)
narrow_chunk version d = do
  ds ← items d
  segs ← each_of (narrow_segment version) ds
  not_empty segs

-- it is an array of such segments, at least one
some_segments : (o : Option (List GivenSegment)) → (o >>= not_empty) ≡ (o >>= λ segs. where_true (has_some segs) segs)
some_segments None = refl
some_segments (Some []) = refl
some_segments (Some (seg ∷ segs)) = refl

listed_segments : (version : ℕ) (o : Option (List Data))
    → (o >>= λ ds. each_of (narrow_segment version) ds >>= not_empty)
    ≡ (o >>= λ ds. each_of (narrow_segment version) ds >>= λ segs. where_true (has_some segs) segs)
listed_segments version None = refl
listed_segments version (Some ds) = some_segments (each_of (narrow_segment version) ds)

pub chunk_array : (version : ℕ) (d : Data) → narrow_chunk version d ≡ array_form (narrow_segment version) has_some d
chunk_array version d = listed_segments version (items d)

-- the segments of chunks, and how many elements each chunk has
pub record TextParts : Type 0 where
  pub segs : List GivenSegment
  pub lengths : List ℕ

-- those of no chunk
abbrev pub no_parts : TextParts
no_parts = record { segs = []; lengths = [] }

-- parts with those of a chunk before them
abbrev pub with_chunk : List GivenSegment → TextParts → TextParts
with_chunk chunk parts = record { segs = chunk ++ parts.segs; lengths = given_length chunk ∷ parts.lengths }

-- the chunks that values are
abbrev pub narrow_chunks : ℕ → List Data → Option TextParts
narrow_chunks version [] = Some no_parts
narrow_chunks version (d ∷ ds) = do
  chunk ← narrow_chunk version d
  parts ← narrow_chunks version ds
  Some (with_chunk chunk parts)

-- the text that an array is
abbrev pub narrow_text : ℕ → Data → Option TextParts
narrow_text version d = items d >>= narrow_chunks version

-- ---- runs

-- the run that a value is
abbrev pub narrow_run : Data → Option GivenRun
narrow_run d = do
  n ← option_and_then count (field d RunLength)
  stamps ← narrow_stamps None d
  where_true (nat_le 1 n) (record { units = n; stamps = stamps })

-- the runs that an array is
abbrev pub narrow_runs : Data → Option (List GivenRun)
narrow_runs d = do
  ds ← items d
  runs ← each_of narrow_run ds
  units_in_range runs
