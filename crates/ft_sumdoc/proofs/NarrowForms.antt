-- What the code reads of the forms is what the grammar gives, with the numbers of connections kept in 32 bits.
use Rattle.std.proofs.Common.{◌≡◌, ◌∙◌, ℕ, ◌+◌, ◌^◌, nat_eq, nat_le, Bool, true, false, cond, List, [], ◌∷◌, map, Option, Some, None, refl, ap, ap₂}
use Rattle.std.specs.Prelude.{option_and_then, option_map, unwrap_or}
use Rattle.serde_json.specs.Data.{Data}
use Rattle.ft_json.specs.declared.fields.Field.TheVariants.{Inserter, Insertion, Removals, RunLength, SegmentMarker, SegmentProps, SegmentText}
use Rattle.ft_json.specs.Reading.{count, field, items}
use Rattle.ft_sumdoc.specs.declared.summary.Mark.{Mark}
use Rattle.ft_sumdoc.specs.declared.summary.Seg.{Seg}
use Rattle.ft_sumdoc.specs.Forms.{◌>>=◌, GivenProps, each_of, optional, where_true}
use Rattle.ft_sumdoc.specs.Narrow.{TextParts, narrow, narrow_author, narrow_chunk, narrow_chunks, narrow_form, narrow_list, narrow_removals, narrow_run, narrow_runs, narrow_segment, narrow_stamps, narrow_text, with_chunk}
use Rattle.ft_sumdoc.specs.Runs.{GivenRun, given_units, run_form, runs_form, units_in_range}
use Rattle.ft_sumdoc.specs.Segments.{GivenSegment, body_length, chunk_form, given_body, not_empty, segment_form, segment_props, text_form}
use Rattle.ft_sumdoc.specs.Stamps.{GivenStamps, author_form, stamp_form, stamps_form, stamps_with}
use Rattle.ft_sumdoc.specs.Summary.{given_length}
use Rattle.ft_sumdoc.proofs.NarrowStamps.{narrow_given}
use Rattle.ft_sumdoc.proofs.ReadChunks.{flat, map-both}

-- ---- options and lists

-- a form that gives what another gives, changed
abbrev Changes : {A B : Type 0} → (A → Option B) → (A → Option B) → (B → B) → Type 0
Changes {A} f h g = (x : A) → f x ≡ option_map g (h x)

bind-map : {A B C : Type 0} (f : A → Option B) (h : A → Option C) (g : C → B) → ((x : A) → f x ≡ option_map g (h x)) → (o : Option A) → (o >>= f) ≡ option_map g (o >>= h)
bind-map f h g p None = refl
bind-map f h g p (Some x) = p x

next-map : {B : Type 0} (g : B → B) (o : Option B) (r : Option (List B))
    → option_and_then (λ y. option_and_then (λ ys. Some (y ∷ ys)) (option_map (map g) r)) (option_map g o) ≡ option_map (map g) (option_and_then (λ y. option_and_then (λ ys. Some (y ∷ ys)) r) o)
next-map g None r = refl
next-map g (Some y) None = refl
next-map g (Some y) (Some ys) = refl

each-map : {A B : Type 0} (f h : A → Option B) (g : B → B) → ((x : A) → f x ≡ option_map g (h x)) → (xs : List A) → each_of f xs ≡ option_map (map g) (each_of h xs)
each-map f h g p [] = refl
each-map f h g p (x ∷ xs) = rw (p x, each-map f h g p xs) (next-map g (h x) (each_of h xs))

-- ---- stamps

optional_of : (o : Option Mark) → option_map (λ y. Some y) (option_map narrow o) ≡ option_map (option_map narrow) (option_map (λ y. Some y) o)
optional_of None = refl
optional_of (Some m) = refl

optional-narrow : (o : Option Data) → optional narrow_form o ≡ option_map (option_map narrow) (optional stamp_form o)
optional-narrow None = refl
optional-narrow (Some d) = optional_of (stamp_form d)

list-narrow : (d : Data) → narrow_list d ≡ option_map (map narrow) (stamps_form d)
list-narrow d = bind-map (each_of narrow_form) (each_of stamp_form) (map narrow) (λ ds. each-map narrow_form stamp_form narrow (λ x. refl) ds) (items d)

removals_of : (o : Option (List Mark)) → option_map (λ ms. unwrap_or ms []) (option_map (λ y. Some y) (option_map (map narrow) o)) ≡ option_map (map narrow) (option_map (λ ms. unwrap_or ms []) (option_map (λ y. Some y) o))
removals_of None = refl
removals_of (Some ms) = refl

removals-narrow : (o : Option Data) → narrow_removals o ≡ option_map (map narrow) (option_map (λ ms. unwrap_or ms []) (optional stamps_form o))
removals-narrow None = refl
removals-narrow (Some d) = rw (list-narrow d) (removals_of (stamps_form d))

-- the stamps of these parts
abbrev with_parts : Option Mark → Option (Option Mark) → Option (List Mark) → Option GivenStamps
with_parts author i r = option_and_then (λ insertion. option_and_then (λ removals. Some (record { author = author; insertion = insertion; removals = removals })) r) i

parts-narrow : (a : Option Mark) (i : Option (Option Mark)) (r : Option (List Mark)) → with_parts (option_map narrow a) (option_map (option_map narrow) i) (option_map (map narrow) r) ≡ option_map narrow_given (with_parts a i r)
parts-narrow a None r = refl
parts-narrow a (Some i) None = refl
parts-narrow a (Some i) (Some ms) = refl

given-parts : (a : Option Mark) (i : Option (Option Mark)) (r : Option (Option (List Mark)))
    → with_parts a i (option_map (λ ms. unwrap_or ms []) r) ≡ option_and_then (λ insertion. option_and_then (λ removals. Some (record { author = a; insertion = insertion; removals = unwrap_or removals [] })) r) i
given-parts a None r = refl
given-parts a (Some i) None = refl
given-parts a (Some i) (Some ms) = refl

stamps-narrow : (a : Option Mark) (d : Data) → narrow_stamps (option_map narrow a) d ≡ option_map narrow_given (stamps_with a d)
stamps-narrow a d =
    ap₂ (with_parts (option_map narrow a)) (optional-narrow (field d Insertion)) (removals-narrow (field d Removals))
    ∙ parts-narrow a (optional stamp_form (field d Insertion)) (option_map (λ ms. unwrap_or ms []) (optional stamps_form (field d Removals)))
    ∙ ap (option_map narrow_given) (given-parts a (optional stamp_form (field d Insertion)) (optional stamps_form (field d Removals)))

author_if : (second : Bool) (d : Data) → cond second (optional narrow_form (field d Inserter)) (Some None) ≡ option_map (option_map narrow) (cond second (optional stamp_form (field d Inserter)) (Some None))
author_if true d = optional-narrow (field d Inserter)
author_if false d = refl

author-narrow : (version : ℕ) (d : Data) → narrow_author version d ≡ option_map (option_map narrow) (author_form version d)
author-narrow version d = author_if (nat_eq version 2) d

-- ---- segments

abbrev pub narrow_seg : GivenSegment → GivenSegment
narrow_seg g = record { body = g.body; props = g.props; stamps = narrow_given g.stamps }

-- the segment of these parts
abbrev of_parts : Option Seg → Option GivenProps → Option (Option Mark) → (Option Mark → Option GivenStamps) → Option GivenSegment
of_parts b p a s = option_and_then (λ body. option_and_then (λ props. option_and_then (λ author. option_and_then (λ stamps. Some (record { body = body; props = props; stamps = stamps })) (s author)) a) p) b

made : (body : Seg) (props : GivenProps) (s : Option GivenStamps)
    → option_and_then (λ stamps. Some (record { body = body; props = props; stamps = stamps })) (option_map narrow_given s) ≡ option_map narrow_seg (option_and_then (λ stamps. Some (record { body = body; props = props; stamps = stamps })) s)
made body props None = refl
made body props (Some s) = refl

parts-seg : (b : Option Seg) (p : Option GivenProps) (a : Option (Option Mark)) (f h : Option Mark → Option GivenStamps) → ((x : Option Mark) → f (option_map narrow x) ≡ option_map narrow_given (h x))
    → of_parts b p (option_map (option_map narrow) a) f ≡ option_map narrow_seg (of_parts b p a h)
parts-seg None p a f h e = refl
parts-seg (Some b) None a f h e = refl
parts-seg (Some b) (Some p) None f h e = refl
parts-seg (Some b) (Some p) (Some a) f h e = rw (e a) (made b p (h a))

segment-narrow : (version : ℕ) (d : Data) → narrow_segment version d ≡ option_map narrow_seg (segment_form version d)
segment-narrow version d =
    let b = given_body (field d SegmentText) (field d SegmentMarker) in
    let p = segment_props (field d SegmentProps) in
    let f : Option Mark → Option GivenStamps = λ a. narrow_stamps a d in
    let h : Option Mark → Option GivenStamps = λ a. stamps_with a d in
    ap (λ a. of_parts b p a f) (author-narrow version d) ∙ parts-seg b p (author_form version d) f h (λ a. stamps-narrow a d)

-- ---- chunks

not_empty-map : (segs : List GivenSegment) → not_empty (map narrow_seg segs) ≡ option_map (map narrow_seg) (not_empty segs)
not_empty-map [] = refl
not_empty-map (seg ∷ segs) = refl

some_segments : (o : Option (List GivenSegment)) → (option_map (map narrow_seg) o >>= not_empty) ≡ option_map (map narrow_seg) (o >>= not_empty)
some_segments None = refl
some_segments (Some segs) = not_empty-map segs

chunk-narrow : (version : ℕ) (d : Data) → narrow_chunk version d ≡ option_map (map narrow_seg) (chunk_form version d)
chunk-narrow version d =
    bind-map (λ ds. each_of (narrow_segment version) ds >>= not_empty) (λ ds. each_of (segment_form version) ds >>= not_empty) (map narrow_seg)
    (λ ds. rw (each-map (narrow_segment version) (segment_form version) narrow_seg (segment-narrow version) ds) (some_segments (each_of (segment_form version) ds)))
    (items d)

-- the parts of chunks
abbrev pub narrow_parts : List (List GivenSegment) → TextParts
narrow_parts chunks = record { segs = map narrow_seg (flat chunks); lengths = map given_length chunks }

length-narrow : (segs : List GivenSegment) → given_length (map narrow_seg segs) ≡ given_length segs
length-narrow [] = refl
length-narrow (seg ∷ segs) = ap (λ n. body_length seg.body + n) (length-narrow segs)

abbrev parts_with : List GivenSegment → List ℕ → TextParts
parts_with segs lengths = record { segs = segs; lengths = lengths }

with_chunk-narrow : (chunk : List GivenSegment) (chunks : List (List GivenSegment)) → with_chunk (map narrow_seg chunk) (narrow_parts chunks) ≡ narrow_parts (chunk ∷ chunks)
with_chunk-narrow chunk chunks = ap₂ parts_with (map-both narrow_seg chunk (flat chunks)) (ap (λ n. n ∷ map given_length chunks) (length-narrow chunk))

next_chunk : (o : Option (List GivenSegment)) (r : Option (List (List GivenSegment)))
    → option_and_then (λ chunk. option_and_then (λ parts. Some (with_chunk chunk parts)) (option_map narrow_parts r)) (option_map (map narrow_seg) o)
    ≡ option_map narrow_parts (option_and_then (λ y. option_and_then (λ ys. Some (y ∷ ys)) r) o)
next_chunk None r = refl
next_chunk (Some chunk) None = refl
next_chunk (Some chunk) (Some chunks) = ap (λ p. Some p) (with_chunk-narrow chunk chunks)

chunks-narrow : (version : ℕ) (ds : List Data) → narrow_chunks version ds ≡ option_map narrow_parts (each_of (chunk_form version) ds)
chunks-narrow version [] = refl
chunks-narrow version (d ∷ ds) = rw (chunk-narrow version d, chunks-narrow version ds) (next_chunk (chunk_form version d) (each_of (chunk_form version) ds))

pub text-narrow : (version : ℕ) (d : Data) → narrow_text version d ≡ option_map narrow_parts (text_form version d)
text-narrow version d = bind-map (narrow_chunks version) (each_of (chunk_form version)) narrow_parts (chunks-narrow version) (items d)

-- ---- runs

abbrev pub narrow_grun : GivenRun → GivenRun
narrow_grun g = record { units = g.units; stamps = narrow_given g.stamps }

abbrev run_with : Option ℕ → Option GivenStamps → Option GivenRun
run_with o s = option_and_then (λ n. option_and_then (λ stamps. where_true (nat_le 1 n) (record { units = n; stamps = stamps })) s) o

where-map : (test : Bool) (run : GivenRun) → where_true test (narrow_grun run) ≡ option_map narrow_grun (where_true test run)
where-map true run = refl
where-map false run = refl

run_with-narrow : (o : Option ℕ) (s : Option GivenStamps) → run_with o (option_map narrow_given s) ≡ option_map narrow_grun (run_with o s)
run_with-narrow None s = refl
run_with-narrow (Some n) None = refl
run_with-narrow (Some n) (Some s) = where-map (nat_le 1 n) (record { units = n; stamps = s })

run-narrow : (d : Data) → narrow_run d ≡ option_map narrow_grun (run_form d)
run-narrow d =
    let n = option_and_then count (field d RunLength) in
    ap (run_with n) (stamps-narrow None d) ∙ run_with-narrow n (stamps_with None d)

units-narrow : (runs : List GivenRun) → given_units (map narrow_grun runs) ≡ given_units runs
units-narrow [] = refl
units-narrow (run ∷ runs) = ap (λ n. run.units + n) (units-narrow runs)

where-runs : (test : Bool) (runs : List GivenRun) → where_true test (map narrow_grun runs) ≡ option_map (map narrow_grun) (where_true test runs)
where-runs true runs = refl
where-runs false runs = refl

few_runs : (o : Option (List GivenRun)) → (option_map (map narrow_grun) o >>= units_in_range) ≡ option_map (map narrow_grun) (o >>= units_in_range)
few_runs None = refl
few_runs (Some runs) = rw (units-narrow runs) (where-runs (nat_le (given_units runs) (2 ^ 52)) runs)

pub runs-narrow : (d : Data) → narrow_runs d ≡ option_map (map narrow_grun) (runs_form d)
runs-narrow d =
    bind-map (λ ds. each_of narrow_run ds >>= units_in_range) (λ ds. each_of run_form ds >>= units_in_range) (map narrow_grun)
    (λ ds. rw (each-map narrow_run run_form narrow_grun run-narrow ds) (few_runs (each_of run_form ds)))
    (items d)
