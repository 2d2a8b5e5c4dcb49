-- The lists of elements as the code reads them are those of the grammar, where fewer than 2^32 connections have names.
use Rattle.std.proofs.Common.{◌≡◌, ◌∙◌, ℕ, ◌<◌, ◌^◌, length, List, [], ◌∷◌, ◌++◌, map, Option, Some, None, Result, Ok, Err, refl, sym, ap, ap₂, subst}
use Rattle.std.specs.Prelude.{option_map, unwrap_or}
use Rattle.std.specs.Option.{ok_or}
use Rattle.serde_json.specs.Data.{Data}
use Rattle.ft_json.specs.declared.faults.FieldFault.{FieldFault}
use Rattle.ft_json.specs.declared.faults.FieldFault.TheVariants.{WrongKind}
use Rattle.ft_json.specs.declared.faults.JsonFault.{JsonFault}
use Rattle.ft_json.specs.declared.fields.Field.{Field}
use Rattle.ft_json.specs.declared.fields.Field.TheVariants.{Cols, Rows, Text}
use Rattle.ft_json.specs.Reading.{field, needed_field, read_or_fault}
use Rattle.ft_op.specs.Reading.{◌>>=◌, read_each, with_fault}
use Rattle.ft_op.proofs.ReadSteps.{same_value}
use Rattle.ft_props.specs.Properties.{PropertyList}
use Rattle.ft_sumdoc.specs.declared.summary.Mark.{Mark}
use Rattle.ft_sumdoc.specs.declared.summary.RunRec.{RunRec}
use Rattle.ft_sumdoc.specs.declared.summary.SegRec.{SegRec}
use Rattle.ft_sumdoc.specs.declared.summary.SumFault.{SumFault}
use Rattle.ft_sumdoc.specs.Counts.{Head, bounds_of}
use Rattle.ft_sumdoc.specs.Faults.{fault_of_field, fault_of_json, field_of_summary}
use Rattle.ft_sumdoc.specs.Narrow.{TextParts, narrow, narrow_runs, narrow_text}
use Rattle.ft_sumdoc.specs.NarrowLists.{narrow_lists, runs_beside, segments_stamps}
use Rattle.ft_sumdoc.specs.Runs.{GivenRun, kept_run, runs_form}
use Rattle.ft_sumdoc.specs.Segments.{GivenSegment, text_form}
use Rattle.ft_sumdoc.specs.Stamps.{Bounds, GivenStamps, given_author, given_insertion, places_behind}
use Rattle.ft_sumdoc.specs.Summary.{Lists, given_length, lists, lists_with, run_stamps, segment_stamps}
use Rattle.ft_sumdoc.specs.Values.{kept_each, kept_props, kept_segment}
use Rattle.ft_sumdoc.proofs.NarrowForms.{narrow_grun, narrow_parts, narrow_seg, runs-narrow, text-narrow}
use Rattle.ft_sumdoc.proofs.NarrowStamps.{good-same, insertion_of-narrow, narrow_given, places-narrow}
use Rattle.ft_sumdoc.proofs.ReadChunks.{flat, map-both}
use Rattle.ft_sumdoc.proofs.ReadObjects.{pair}
use Rattle.ft_sumdoc.proofs.ReadStamps.{AreGood}
use Rattle.ft_sumdoc.proofs.ReadValid.{all_gives, good_places, good_split, gives}

-- what is given, changed
abbrev changed : {A B F : Type 0} → (A → B) → Result A F → Result B F
changed f (Ok x) = Ok (f x)
changed f (Err fault) = Err fault

-- ---- fields

asked : {A B : Type 0} (g : A → B) (o : Option A) (fault : FieldFault) → with_fault fault_of_field (ok_or (option_map g o) fault) ≡ changed g (with_fault fault_of_field (ok_or o fault))
asked g None fault = refl
asked g (Some x) fault = refl

needed_of : {A B : Type 0} (narrowed : Data → Option B) (form : Data → Option A) (g : A → B) → ((d : Data) → narrowed d ≡ option_map g (form d)) → (f : Field) (o : Option Data)
    → field_of_summary (read_or_fault narrowed f o) ≡ changed g (field_of_summary (read_or_fault form f o))
needed_of narrowed form g e f None = refl
needed_of narrowed form g e f (Some d) = rw (e d) (asked g (form d) (WrongKind f))

-- ---- kept segments

abbrev narrow_rec : SegRec → SegRec
narrow_rec seg = record { body = seg.body; props = seg.props; by = narrow seg.by; ins = narrow seg.ins; dels = map narrow seg.dels }

author_of-narrow : (a : Option Mark) (m : Mark) → unwrap_or (option_map narrow a) (narrow m) ≡ narrow (unwrap_or a m)
author_of-narrow None m = refl
author_of-narrow (Some n) m = refl

author-narrow : (s : GivenStamps) → given_author (narrow_given s) ≡ narrow (given_author s)
author-narrow s = ap (unwrap_or (option_map narrow s.author)) (insertion_of-narrow s.insertion) ∙ author_of-narrow s.author (given_insertion s)

abbrev kept_with : GivenSegment → Mark → Mark → List Mark → Result PropertyList JsonFault → Result SegRec JsonFault
kept_with g by ins dels r = r >>= (λ props. Ok (record { body = g.body; props = props; by = by; ins = ins; dels = dels }))

kept_with-narrow : (g : GivenSegment) (by ins : Mark) (dels : List Mark) (r : Result PropertyList JsonFault) → kept_with g (narrow by) (narrow ins) (map narrow dels) r ≡ changed narrow_rec (kept_with g by ins dels r)
kept_with-narrow g by ins dels (Ok props) = refl
kept_with-narrow g by ins dels (Err fault) = refl

kept-narrow : (g : GivenSegment) → kept_segment (narrow_seg g) ≡ changed narrow_rec (kept_segment g)
kept-narrow g =
    ap₂ (λ (by ins : Mark). kept_with g by ins (map narrow g.stamps.removals) (kept_props g.props)) (author-narrow g.stamps) (insertion_of-narrow g.stamps.insertion)
    ∙ kept_with-narrow g (given_author g.stamps) (given_insertion g.stamps) g.stamps.removals (kept_props g.props)

next_kept : (r : Result SegRec JsonFault) (rest : Result (List SegRec) JsonFault)
    → (changed narrow_rec r >>= λ y. changed (map narrow_rec) rest >>= λ ys. Ok (y ∷ ys)) ≡ changed (map narrow_rec) (r >>= λ y. rest >>= λ ys. Ok (y ∷ ys))
next_kept (Err fault) rest = refl
next_kept (Ok y) (Err fault) = refl
next_kept (Ok y) (Ok ys) = refl

each-narrow : (gs : List GivenSegment) → read_each kept_segment (map narrow_seg gs) ≡ changed (map narrow_rec) (read_each kept_segment gs)
each-narrow [] = refl
each-narrow (g ∷ gs) = rw (kept-narrow g, each-narrow gs) (next_kept (kept_segment g) (read_each kept_segment gs))

fault-changed : (r : Result (List SegRec) JsonFault) → with_fault fault_of_json (changed (map narrow_rec) r) ≡ changed (map narrow_rec) (with_fault fault_of_json r)
fault-changed (Ok segs) = refl
fault-changed (Err fault) = refl

all_kept-narrow : (gs : List GivenSegment) → kept_each kept_segment (map narrow_seg gs) ≡ changed (map narrow_rec) (kept_each kept_segment gs)
all_kept-narrow gs = ap (with_fault fault_of_json) (each-narrow gs) ∙ fault-changed (read_each kept_segment gs)

-- ---- stamps of all

stamps_of-segs : (gs : List GivenSegment) → segments_stamps (map narrow_seg gs) ≡ map narrow_given (map gives gs)
stamps_of-segs [] = refl
stamps_of-segs (g ∷ gs) = ap (λ rest. narrow_given g.stamps ∷ rest) (stamps_of-segs gs)

stamps_of-runs : (gs : List GivenRun) → run_stamps (map narrow_grun gs) ≡ map narrow_given (run_stamps gs)
stamps_of-runs [] = refl
stamps_of-runs (g ∷ gs) = ap (λ rest. narrow_given g.stamps ∷ rest) (stamps_of-runs gs)

-- the stamps of all elements
abbrev all_stamps : List (List GivenSegment) → List GivenRun → List GivenRun → List GivenStamps
all_stamps chunks rows cols = segment_stamps chunks ++ run_stamps rows ++ run_stamps cols

three : (xs ys zs : List GivenStamps) → map narrow_given xs ++ map narrow_given ys ++ map narrow_given zs ≡ map narrow_given (xs ++ ys ++ zs)
three xs ys zs = ap (λ front. front ++ map narrow_given zs) (map-both narrow_given xs ys) ∙ map-both narrow_given (xs ++ ys) zs

all_stamps-narrow : (chunks : List (List GivenSegment)) (rows cols : List GivenRun)
    → segments_stamps (map narrow_seg (flat chunks)) ++ run_stamps (map narrow_grun rows) ++ run_stamps (map narrow_grun cols) ≡ map narrow_given (all_stamps chunks rows cols)
all_stamps-narrow chunks rows cols =
    rw (stamps_of-segs (flat chunks), stamps_of-runs rows, stamps_of-runs cols, all_gives chunks) (three (map gives (flat chunks)) (run_stamps rows) (run_stamps cols))

-- ---- where all stamps are good, nothing is changed

abbrev with_stamps : GivenSegment → GivenStamps → GivenSegment
with_stamps g s = record { body = g.body; props = g.props; stamps = s }

abbrev units_with : GivenRun → GivenStamps → GivenRun
units_with g s = record { units = g.units; stamps = s }

segs-same : (b : Bounds) (gs : List GivenSegment) → b.conns < 2 ^ 32 → AreGood b (map gives gs) → map narrow_seg gs ≡ gs
segs-same b [] small h = refl
segs-same b (g ∷ gs) small h =
    ap₂ (λ (x : GivenSegment) (xs : List GivenSegment). x ∷ xs) (ap (with_stamps g) (good-same b g.stamps small h.0)) (segs-same b gs small h.1)

runs-same : (b : Bounds) (gs : List GivenRun) → b.conns < 2 ^ 32 → AreGood b (run_stamps gs) → map narrow_grun gs ≡ gs
runs-same b [] small h = refl
runs-same b (g ∷ gs) small h =
    ap₂ (λ (x : GivenRun) (xs : List GivenRun). x ∷ xs) (ap (units_with g) (good-same b g.stamps small h.0)) (runs-same b gs small h.1)

text-same : (b : Bounds) (chunks : List (List GivenSegment)) (text : List SegRec) → b.conns < 2 ^ 32 → AreGood b (map gives (flat chunks)) → kept_each kept_segment (flat chunks) ≡ Ok text
    → map narrow_rec text ≡ text
text-same b chunks text small good e =
    same_value (map narrow_rec text) text (kept_each kept_segment (flat chunks))
    (sym (ap (kept_each kept_segment) (segs-same b (flat chunks) small good)) ∙ all_kept-narrow (flat chunks) ∙ ap (changed (map narrow_rec)) e)
    e

abbrev lists_made : List SegRec → List GivenRun → List GivenRun → List ℕ → Lists
lists_made text rows cols lengths = record { text = text; rows = map kept_run rows; cols = map kept_run cols; chunk_lengths = lengths }

by_places : (b : Bounds) (chunks : List (List GivenSegment)) (text : List SegRec) (rows cols : List GivenRun) (r : Result ℕ SumFault) → b.conns < 2 ^ 32
    → kept_each kept_segment (flat chunks) ≡ Ok text → places_behind b 0 (all_stamps chunks rows cols) ≡ r → (lists : Lists) (narrowed : Lists)
    → lists ≡ lists_made text rows cols (map given_length chunks) → narrowed ≡ lists_made (map narrow_rec text) (map narrow_grun rows) (map narrow_grun cols) (map given_length chunks)
    → (r >>= λ places. Ok narrowed) ≡ (r >>= λ places. Ok lists)
by_places b chunks text rows cols (Err fault) small e p lists narrowed x y = refl
by_places b chunks text rows cols (Ok n) small e p lists narrowed x y =
    let good = good_places b 0 n (all_stamps chunks rows cols) p in
    let front = good_split b (segment_stamps chunks ++ run_stamps rows) (run_stamps cols) good in
    let parts = good_split b (segment_stamps chunks) (run_stamps rows) front.0 in
    let segs : AreGood b (map gives (flat chunks)) = subst (AreGood b) (all_gives chunks) parts.0 in
    let t = text-same b chunks text small segs e in
    ap (λ l. Ok l)
    (y ∙ rw (t, runs-same b rows small parts.1, runs-same b cols small front.1) (sym x))

-- the lists of these segments, rows and columns, unless stamps are bad
abbrev narrow_lists_with : Bounds → TextParts → List SegRec → List GivenRun → List GivenRun → Result Lists SumFault
narrow_lists_with b parts text rows cols =
    places_behind b 0 (segments_stamps parts.segs ++ run_stamps rows ++ run_stamps cols) >>= λ places. Ok (lists_made text rows cols parts.lengths)

lists_with-narrow : (b : Bounds) (chunks : List (List GivenSegment)) (text : List SegRec) (rows cols : List GivenRun) → b.conns < 2 ^ 32 → kept_each kept_segment (flat chunks) ≡ Ok text
    → narrow_lists_with b (narrow_parts chunks) (map narrow_rec text) (map narrow_grun rows) (map narrow_grun cols) ≡ lists_with b chunks text rows cols
lists_with-narrow b chunks text rows cols small e =
    rw (all_stamps-narrow chunks rows cols, places-narrow b 0 (all_stamps chunks rows cols) small)
    (by_places b chunks text rows cols (places_behind b 0 (all_stamps chunks rows cols)) small e refl (lists_made text rows cols (map given_length chunks))
    (lists_made (map narrow_rec text) (map narrow_grun rows) (map narrow_grun cols) (map given_length chunks)) refl refl)

-- ---- lists

behind_runs : (b : Bounds) (chunks : List (List GivenSegment)) (text : List SegRec) (rows cols : Result (List GivenRun) SumFault) → b.conns < 2 ^ 32 → kept_each kept_segment (flat chunks) ≡ Ok text
    → (changed (map narrow_grun) rows >>= λ r. changed (map narrow_grun) cols >>= λ c. narrow_lists_with b (narrow_parts chunks) (map narrow_rec text) r c)
    ≡ (rows >>= λ r. cols >>= λ c. lists_with b chunks text r c)
behind_runs b chunks text (Err fault) cols small e = refl
behind_runs b chunks text (Ok r) (Err fault) small e = refl
behind_runs b chunks text (Ok r) (Ok c) small e = lists_with-narrow b chunks text r c small e

behind_text : (b : Bounds) (chunks : List (List GivenSegment)) (text : Result (List SegRec) SumFault) (rows cols : Result (List GivenRun) SumFault) → b.conns < 2 ^ 32 → kept_each kept_segment (flat chunks) ≡ text
    → (changed (map narrow_rec) text >>= λ t. changed (map narrow_grun) rows >>= λ r. changed (map narrow_grun) cols >>= λ c. narrow_lists_with b (narrow_parts chunks) t r c)
    ≡ (text >>= λ t. rows >>= λ r. cols >>= λ c. lists_with b chunks t r c)
behind_text b chunks (Err fault) rows cols small e = refl
behind_text b chunks (Ok text) rows cols small e = behind_runs b chunks text rows cols small e

behind_chunks : (b : Bounds) (chunks : Result (List (List GivenSegment)) SumFault) (rows cols : Result (List GivenRun) SumFault) → b.conns < 2 ^ 32
    → (changed narrow_parts chunks >>= λ p. kept_each kept_segment p.segs >>= λ t. changed (map narrow_grun) rows >>= λ r. changed (map narrow_grun) cols >>= λ c. narrow_lists_with b p t r c)
    ≡ (chunks >>= λ cs. kept_each kept_segment (flat cs) >>= λ t. rows >>= λ r. cols >>= λ c. lists_with b cs t r c)
behind_chunks b (Err fault) rows cols small = refl
behind_chunks b (Ok chunks) rows cols small =
    rw (all_kept-narrow (flat chunks)) (behind_text b chunks (kept_each kept_segment (flat chunks)) rows cols small refl)

-- ---- rows and columns in one step

-- the lists of this text and these rows and columns
abbrev lists_from : List SegRec → List ℕ → List RunRec → List RunRec → Lists
lists_from text lengths rows cols = record { text = text; rows = rows; cols = cols; chunk_lengths = lengths }

after_places : (places : Result ℕ SumFault) (rows cols : List RunRec) (f : List RunRec → List RunRec → Lists)
    → ((places >>= λ n. Ok (pair rows cols)) >>= λ runs. Ok (f runs.0 runs.1)) ≡ (places >>= λ n. Ok (f rows cols))
after_places (Ok n) rows cols f = refl
after_places (Err fault) rows cols f = refl

after_runs : (rows cols : Result (List GivenRun) SumFault) (places : List GivenRun → List GivenRun → Result ℕ SumFault)
    (f : List RunRec → List RunRec → Lists)
    → ((rows >>= λ r. cols >>= λ c. places r c >>= λ n. Ok (pair (map kept_run r) (map kept_run c))) >>= λ runs. Ok (f runs.0 runs.1))
    ≡ (rows >>= λ r. cols >>= λ c. places r c >>= λ n. Ok (f (map kept_run r) (map kept_run c)))
after_runs (Err fault) cols places f = refl
after_runs (Ok r) (Err fault) places f = refl
after_runs (Ok r) (Ok c) places f = after_places (places r c) (map kept_run r) (map kept_run c) f

after_text : (b : Bounds) (parts : TextParts) (text : Result (List SegRec) SumFault) (d : Data)
    → (text >>= λ t. runs_beside b parts.segs d >>= λ runs. Ok (lists_from t parts.lengths runs.0 runs.1))
    ≡ (text >>= λ t. field_of_summary (needed_field narrow_runs d Rows) >>= λ r. field_of_summary (needed_field narrow_runs d Cols) >>= λ c.
    narrow_lists_with b parts t r c)
unfolding runs_beside
after_text b parts (Err fault) d = refl
after_text b parts (Ok t) d =
    after_runs (field_of_summary (needed_field narrow_runs d Rows)) (field_of_summary (needed_field narrow_runs d Cols))
    (λ (r c : List GivenRun). places_behind b 0 (segments_stamps parts.segs ++ run_stamps r ++ run_stamps c)) (lists_from t parts.lengths)

after_parts : (b : Bounds) (parts : Result TextParts SumFault) (d : Data)
    → (parts >>= λ p. kept_each kept_segment p.segs >>= λ t. runs_beside b p.segs d >>= λ runs. Ok (lists_from t p.lengths runs.0 runs.1))
    ≡ (parts >>= λ p. kept_each kept_segment p.segs >>= λ t. field_of_summary (needed_field narrow_runs d Rows) >>= λ r. field_of_summary
    (needed_field narrow_runs d Cols) >>= λ c. narrow_lists_with b p t r c)
after_parts b (Err fault) d = refl
after_parts b (Ok p) d = after_text b p (kept_each kept_segment p.segs) d

-- the lists, step by step
abbrev narrow_steps : Head → Data → Result Lists SumFault
narrow_steps h d =
    field_of_summary (needed_field (narrow_text h.version) d Text) >>= λ p. kept_each kept_segment p.segs >>= λ t.
    field_of_summary (needed_field narrow_runs d Rows) >>= λ r. field_of_summary (needed_field narrow_runs d Cols) >>= λ c. narrow_lists_with
    (bounds_of h) p t r c

steps-narrow : (h : Head) (d : Data) → length h.conns < 2 ^ 32 → narrow_steps h d ≡ lists h d
unfolding lists
steps-narrow h d small =
    rw (
      needed_of (narrow_text h.version) (text_form h.version) narrow_parts (text-narrow h.version) Text (field d Text),
      needed_of narrow_runs runs_form (map narrow_grun) runs-narrow Rows (field d Rows),
      needed_of narrow_runs runs_form (map narrow_grun) runs-narrow Cols (field d Cols),
    )
    (behind_chunks (bounds_of h) (field_of_summary (needed_field (text_form h.version) d Text)) (field_of_summary (needed_field runs_form d Rows)) (field_of_summary (needed_field runs_form d Cols)) small)

pub lists-narrow : (h : Head) (d : Data) → length h.conns < 2 ^ 32 → narrow_lists h d ≡ lists h d
unfolding narrow_lists
lists-narrow h d small = after_parts (bounds_of h) (field_of_summary (needed_field (narrow_text h.version) d Text)) d ∙ steps-narrow h d small
