-- Of what is read by its form no property and no cell is null, and the units of runs are few.
use Rattle.std.proofs.Common.{◌≡◌, ℕ, ◌+◌, ◌^◌, ◌≤◌, Bool, true, false, not, ◌&&◌, List, [], ◌∷◌, ◌++◌, map, Option, Some, None, Ok, refl, ap, subst, nat_le, nat_lt, leb-true, arith}
use Rattle.std.specs.Prelude.{is_some}
use Rattle.std.specs.List.{AllByRecursion}
use Rattle.std.proofs.lemmas.Option.{same_Some}
use Rattle.serde_json.specs.Data.{Data}
use Rattle.serde_json.specs.Find.{as_null}
use Rattle.ft_base.proofs.Booleans.{all_three}
use Rattle.ft_json.specs.declared.fields.Field.{Field}
use Rattle.ft_json.specs.declared.fields.Field.TheVariants.{Cells, Intervals, SegmentMarker, SegmentProps, SegmentText, Text}
use Rattle.ft_json.specs.Reading.{count, field, items, needed_field, pairs}
use Rattle.ft_op.proofs.ReadSteps.{field_value}
use Rattle.ft_sumdoc.specs.Cells.{GivenCell, cell_form, cell_of_three, cells_form, is_given_cell_before}
use Rattle.ft_sumdoc.specs.Faults.{fault_of_field, field_of_summary}
use Rattle.ft_sumdoc.specs.Forms.{GivenProps, characters, each_of, has_no_null, place_number, props_form, rises}
use Rattle.ft_sumdoc.specs.Intervals.{GivenInterval, are_shown_ends, interval_form, interval_of_five, intervals_form, is_given_interval_before}
use Rattle.ft_sumdoc.specs.Narrow.{TextParts, narrow_author, narrow_chunk, narrow_chunks, narrow_run, narrow_runs, narrow_segment, narrow_stamps, narrow_text, no_parts, with_chunk}
use Rattle.ft_sumdoc.specs.Runs.{GivenRun, given_units, kept_run, unit_count, units_in_range}
use Rattle.ft_sumdoc.specs.Segments.{GivenSegment, given_body, not_empty, segment_props}
use Rattle.ft_sumdoc.proofs.ReadForms.{ok_before}
use Rattle.ft_sumdoc.proofs.ReadValid.{all_of, some_step, where_held}

props_form-no_null : (d : Data) (ps : GivenProps) → props_form d ≡ Some ps → has_no_null ps ≡ true
props_form-no_null d ps e =
    let all = some_step _ (pairs d) ps e in
    let kept = where_held (has_no_null all.0) all.0 ps all.2 in
    subst (λ (qs : GivenProps). has_no_null qs ≡ true) kept.1 kept.0

-- ---- segments

segment_props-no_null : (o : Option Data) (ps : GivenProps) → segment_props o ≡ Some ps → has_no_null ps ≡ true
segment_props-no_null None ps e = subst (λ (qs : GivenProps). has_no_null qs ≡ true) (same_Some [] ps e) refl
segment_props-no_null (Some d) ps e = props_form-no_null d ps e

abbrev pub SegHasNoNull : GivenSegment → Type 0
SegHasNoNull g = has_no_null g.props ≡ true

segment-no_null : (version : ℕ) (d : Data) (g : GivenSegment) → narrow_segment version d ≡ Some g → SegHasNoNull g
segment-no_null version d g e =
    let body = some_step _ (given_body (field d SegmentText) (field d SegmentMarker)) g e in
    let props = some_step _ (segment_props (field d SegmentProps)) g body.2 in
    let author = some_step _ (narrow_author version d) g props.2 in
    let stamps = some_step _ (narrow_stamps author.0 d) g author.2 in
    subst SegHasNoNull (same_Some (record { body = body.0; props = props.0; stamps = stamps.0 }) g stamps.2) (segment_props-no_null (field d SegmentProps) props.0 props.1)

not_empty-same : (segs got : List GivenSegment) → not_empty segs ≡ Some got → segs ≡ got
not_empty-same [] got e = (cc)
not_empty-same (seg ∷ segs) got e = same_Some (seg ∷ segs) got e

chunk-no_null : (version : ℕ) (d : Data) (gs : List GivenSegment) → narrow_chunk version d ≡ Some gs → AllByRecursion SegHasNoNull gs
chunk-no_null version d gs e =
    let ds = some_step _ (items d) gs e in
    let segs = some_step not_empty (each_of (narrow_segment version) ds.0) gs ds.2 in
    subst (AllByRecursion SegHasNoNull) (not_empty-same segs.0 gs segs.2) (all_of SegHasNoNull (narrow_segment version) (segment-no_null version) ds.0 segs.0 segs.1)

all_both : (xs ys : List GivenSegment) → AllByRecursion SegHasNoNull xs → AllByRecursion SegHasNoNull ys → AllByRecursion SegHasNoNull (xs ++ ys)
all_both [] ys h k = k
all_both (x ∷ xs) ys h k = (h.0, all_both xs ys h.1 k)

abbrev PartsHaveNoNull : TextParts → Type 0
PartsHaveNoNull parts = AllByRecursion SegHasNoNull parts.segs

chunks-no_null : (version : ℕ) (ds : List Data) (parts : TextParts) → narrow_chunks version ds ≡ Some parts → PartsHaveNoNull parts
chunks-no_null version [] parts e = subst PartsHaveNoNull (same_Some no_parts parts e) tt
chunks-no_null version (d ∷ ds) parts e =
    let chunk = some_step _ (narrow_chunk version d) parts e in
    let rest = some_step _ (narrow_chunks version ds) parts chunk.2 in
    subst PartsHaveNoNull (same_Some (with_chunk chunk.0 rest.0) parts rest.2) (all_both chunk.0 rest.0.segs (chunk-no_null version d chunk.0 chunk.1) (chunks-no_null version ds rest.0 rest.1))

pub text-no_null : (version : ℕ) (d : Data) (parts : TextParts) → field_of_summary (needed_field (narrow_text version) d Text) ≡ Ok parts → AllByRecursion SegHasNoNull parts.segs
text-no_null version d parts e =
    let there = field_value (narrow_text version) Text (field d Text) parts (ok_before fault_of_field (needed_field (narrow_text version) d Text) parts e) in
    let ds = some_step (narrow_chunks version) (items there.0) parts there.1 in
    chunks-no_null version ds.0 parts ds.2

-- ---- intervals

abbrev pub IntervalHasNoNull : GivenInterval → Type 0
IntervalHasNoNull g = has_no_null g.props ≡ true

five-no_null : (n : ℕ) (ds : List Data) (g : GivenInterval) → interval_of_five n ds ≡ Some g → IntervalHasNoNull g
five-no_null n (l ∷ i ∷ s ∷ e ∷ p ∷ []) g h =
    let label = some_step _ (characters l) g h in
    let id = some_step _ (characters i) g label.2 in
    let start = some_step _ (place_number s) g id.2 in
    let end = some_step _ (place_number e) g start.2 in
    let props = some_step _ (props_form p) g end.2 in
    let kept = where_held (are_shown_ends n (record { start = start.0; end = end.0 })) _ g props.2 in
    subst IntervalHasNoNull kept.1 (props_form-no_null p props.0 props.1)
five-no_null n [] g h = (cc)
five-no_null n (l ∷ []) g h = (cc)
five-no_null n (l ∷ i ∷ []) g h = (cc)
five-no_null n (l ∷ i ∷ s ∷ []) g h = (cc)
five-no_null n (l ∷ i ∷ s ∷ e ∷ []) g h = (cc)
five-no_null n (l ∷ i ∷ s ∷ e ∷ p ∷ q ∷ ds) g h = (cc)

interval-no_null : (n : ℕ) (d : Data) (g : GivenInterval) → interval_form n d ≡ Some g → IntervalHasNoNull g
interval-no_null n d g e = let ds = some_step _ (items d) g e in five-no_null n ds.0 g ds.2

pub intervals-no_null : (n : ℕ) (d : Data) (gs : List GivenInterval) → field_of_summary (needed_field (intervals_form n) d Intervals) ≡ Ok gs → AllByRecursion IntervalHasNoNull gs
intervals-no_null n d gs e =
    let there = field_value (intervals_form n) Intervals (field d Intervals) gs (ok_before fault_of_field (needed_field (intervals_form n) d Intervals) gs e) in
    let ds = some_step _ (items there.0) gs there.1 in
    let all = some_step _ (each_of (interval_form n) ds.0) gs ds.2 in
    let kept = where_held (rises is_given_interval_before all.0) all.0 gs all.2 in
    subst (AllByRecursion IntervalHasNoNull) kept.1 (all_of IntervalHasNoNull (interval_form n) (interval-no_null n) ds.0 all.0 all.1)

-- ---- cells

abbrev pub CellIsNotNull : GivenCell → Type 0
CellIsNotNull c = is_some (as_null c.value) ≡ false

untrue : (b : Bool) → not b ≡ true → b ≡ false
untrue true h = (cc)
untrue false h = refl

three-not_null : (rows cols : ℕ) (ds : List Data) (c : GivenCell) → cell_of_three rows cols ds ≡ Some c → CellIsNotNull c
three-not_null rows cols (r ∷ k ∷ v ∷ []) c h =
    let row = some_step _ (count r) c h in
    let col = some_step _ (count k) c row.2 in
    let kept = where_held (nat_lt row.0 rows && nat_lt col.0 cols && not (is_some (as_null v))) _ c col.2 in
    let parts = all_three (nat_lt row.0 rows) (nat_lt col.0 cols) (not (is_some (as_null v))) kept.0 in
    subst CellIsNotNull kept.1 (untrue (is_some (as_null v)) parts.2)
three-not_null rows cols [] c h = (cc)
three-not_null rows cols (r ∷ []) c h = (cc)
three-not_null rows cols (r ∷ k ∷ []) c h = (cc)
three-not_null rows cols (r ∷ k ∷ v ∷ w ∷ ds) c h = (cc)

cell-not_null : (rows cols : ℕ) (d : Data) (c : GivenCell) → cell_form rows cols d ≡ Some c → CellIsNotNull c
cell-not_null rows cols d c e = let ds = some_step _ (items d) c e in three-not_null rows cols ds.0 c ds.2

pub cells-not_null : (rows cols : ℕ) (d : Data) (cs : List GivenCell) → field_of_summary (needed_field (cells_form rows cols) d Cells) ≡ Ok cs → AllByRecursion CellIsNotNull cs
cells-not_null rows cols d cs e =
    let there = field_value (cells_form rows cols) Cells (field d Cells) cs (ok_before fault_of_field (needed_field (cells_form rows cols) d Cells) cs e) in
    let ds = some_step _ (items there.0) cs there.1 in
    let all = some_step _ (each_of (cell_form rows cols) ds.0) cs ds.2 in
    let kept = where_held (rises is_given_cell_before all.0) all.0 cs all.2 in
    subst (AllByRecursion CellIsNotNull) kept.1 (all_of CellIsNotNull (cell_form rows cols) (cell-not_null rows cols) ds.0 all.0 all.1)

-- ---- runs

all_units : (gs : List GivenRun) → unit_count (map kept_run gs) ≡ given_units gs
all_units [] = refl
all_units (g ∷ gs) = ap (λ n. g.units + n) (all_units gs)

pub runs-few : (f : Field) (d : Data) (gs : List GivenRun) → field_of_summary (needed_field narrow_runs d f) ≡ Ok gs → unit_count (map kept_run gs) ≤ 2 ^ 52
runs-few f d gs e =
    let there = field_value narrow_runs f (field d f) gs (ok_before fault_of_field (needed_field narrow_runs d f) gs e) in
    let ds = some_step _ (items there.0) gs there.1 in
    let runs = some_step units_in_range (each_of narrow_run ds.0) gs ds.2 in
    let kept = where_held (nat_le (given_units runs.0) (2 ^ 52)) runs.0 gs runs.2 in
    let few : nat_le (given_units gs) (2 ^ 52) ≡ true = subst (λ (rs : List GivenRun). nat_le (given_units rs) (2 ^ 52) ≡ true) kept.1 kept.0 in
    omega (arith, all_units gs, leb-true (given_units gs) (2 ^ 52) few)
