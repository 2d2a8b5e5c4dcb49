-- A summary that was read is valid, if its values are.
use Rattle.std.proofs.Common.{◌≡◌, ◌∙◌, ℕ, suc, ◌+◌, ◌^◌, Bool, true, false, ◌||◌, List, [], ◌∷◌, ◌++◌, map, Option, Some, None, Ok, refl, sym, ap, subst, cond, nat_le, nat_lt, nat_eq, arith, lt-ltb}
use Rattle.std.specs.Prelude.{IsTrue, option_and_then, option_map, unwrap_or}
use Rattle.std.specs.List.{AllByRecursion, list_all}
use Rattle.std.proofs.lemmas.Bool.Decides.{nat_tests}
use Rattle.std.proofs.lemmas.Option.{same_Some}
use Rattle.serde_json.specs.Data.{Data}
use Rattle.ft_base.proofs.Booleans.{all_four, all_three}
use Rattle.ft_json.specs.declared.fields.Field.TheVariants.{RunLength, SegmentMarker, SegmentProps, SegmentText}
use Rattle.ft_json.specs.Reading.{count, field, items}
use Rattle.ft_json.proofs.Counts.{count-below}
use Rattle.ft_props.specs.Properties.{Characters}
use Rattle.ft_op.specs.Reading.{read_each}
use Rattle.ft_op.proofs.ReadSteps.{read_step, same_value, test_held}
use Rattle.ft_sumdoc.specs.declared.summary.Mark.{Mark}
use Rattle.ft_sumdoc.specs.declared.summary.Seg.{Seg}
use Rattle.ft_sumdoc.specs.declared.summary.Seg.TheVariants.{Chars, Marker}
use Rattle.ft_sumdoc.specs.declared.summary.SegRec.{SegRec}
use Rattle.ft_sumdoc.specs.Forms.{characters, each_of}
use Rattle.ft_sumdoc.specs.Runs.{GivenRun, given_units, kept_run, run_form, runs_form, unit_count, units_in_range}
use Rattle.ft_sumdoc.specs.Segments.{GivenSegment, given_body, chunk_form, not_empty, segment_form, segment_props, some_characters, text_form}
use Rattle.ft_sumdoc.specs.Stamps.{Bounds, GivenStamps, are_good_stamps, are_removals, author_form, given_author, given_insertion, is_good_author, is_good_insertion, is_old, is_recent, is_universal, is_within_bounds, places_behind, same_mark, stamps_with, universal}
use Rattle.ft_sumdoc.specs.Summary.{run_stamps, segment_stamps}
use Rattle.ft_sumdoc.specs.Valid.{AreRuns, HasValues, IsSegment, are_stamps, is_author, is_segment_body, is_run}
use Rattle.ft_sumdoc.specs.Values.{kept_props, kept_segment}
use Rattle.ft_sumdoc.proofs.ReadChunks.{flat, map-both}
use Rattle.ft_sumdoc.proofs.ReadStamps.{AreGood}

-- ---- steps

pub some_step : {A B : Type 0} (f : A → Option B) (o : Option A) (y : B) → option_and_then f o ≡ Some y → (x : A) × (o ≡ Some x) × (f x ≡ Some y)
some_step f None y e = (cc)
some_step f (Some x) y e = (x, refl, e)

pub where_held : {A : Type 0} (test : Bool) (x y : A) → cond test (Some x) None ≡ Some y → (test ≡ true) × (x ≡ y)
where_held true x y e = (refl, cc)
where_held false x y e = (cc)

-- ---- stamps

pub good_places : (b : Bounds) (n m : ℕ) (ss : List GivenStamps) → places_behind b n ss ≡ Ok m → AreGood b ss
good_places b n m [] e = tt
good_places b n m (s ∷ ss) e =
    let tested = test_held (are_good_stamps b s) (places_behind b (suc n) ss) _ m e in
    (tested.0, good_places b (suc n) m ss tested.1)

pub good_split : (b : Bounds) (xs ys : List GivenStamps) → AreGood b (xs ++ ys) → AreGood b xs × AreGood b ys
good_split b [] ys h = (tt, h)
good_split b (x ∷ xs) ys h = let rest = good_split b xs ys h.1 in ((h.0, rest.0), rest.1)

or_right : (a b : Bool) → b ≡ true → (a || b) ≡ true
or_right true b h = refl
or_right false b h = h

valid_insertion : (b : Bounds) (o : Option Mark) → is_good_insertion b o ≡ true → (is_universal (unwrap_or o universal) || is_recent b (unwrap_or o universal)) ≡ true
valid_insertion b None h = refl
valid_insertion b (Some m) h = or_right (is_universal m) (is_recent b m) h

pub valid_stamps : (b : Bounds) (s : GivenStamps) → are_good_stamps b s ≡ true → IsTrue (are_stamps b (given_insertion s) s.removals)
valid_stamps b s h =
    let parts = all_three (is_good_author b s.author s.insertion) (is_good_insertion b s.insertion) (are_removals b (given_insertion s).seq s.removals) h in
    rw (valid_insertion b s.insertion parts.1, parts.2)

same_itself : (m : Mark) → same_mark m m ≡ true
same_itself m = grind (arith, nat_tests)

not_zero : (n low : ℕ) → nat_lt low n ≡ true → nat_eq n 0 ≡ false
not_zero n low h = grind (arith, nat_tests)

not_universal : (low high : ℕ) (b : Bounds) (m : Mark) → is_within_bounds low high b m ≡ true → is_universal m ≡ false
not_universal low high b m h =
    rw (not_zero m.seq low (all_four (nat_lt low m.seq) (nat_le m.seq high) (nat_lt 0 m.conn) (nat_le m.conn b.conns) h).0)

valid_author_of : (b : Bounds) (author insertion : Option Mark) → is_good_author b author insertion ≡ true → is_good_insertion b insertion ≡ true
    → is_author b (unwrap_or insertion universal) (unwrap_or author (unwrap_or insertion universal)) ≡ true
valid_author_of b None None h k = refl
valid_author_of b None (Some m) h k = rw (not_universal b.min b.seq b m k, same_itself m)
valid_author_of b (Some a) None h k = or_right (is_universal a) (is_old b a) h
valid_author_of b (Some a) (Some m) h k = (cc)

pub valid_author : (b : Bounds) (s : GivenStamps) → are_good_stamps b s ≡ true → IsTrue (is_author b (given_insertion s) (given_author s))
valid_author b s h =
    let parts = all_three (is_good_author b s.author s.insertion) (is_good_insertion b s.insertion) (are_removals b (given_insertion s).seq s.removals) h in
    valid_author_of b s.author s.insertion parts.0 parts.1

-- ---- forms

pub all_of : {A B : Type 0} (Q : B → Type 0) (form : A → Option B) → ((x : A) (y : B) → form x ≡ Some y → Q y) → (xs : List A) (ys : List B) → each_of form xs ≡ Some ys → AllByRecursion Q ys
all_of Q form f [] ys e = subst (AllByRecursion Q) (same_Some [] ys e) tt
all_of Q form f (x ∷ xs) ys e =
    let first = some_step _ (form x) ys e in
    let rest = some_step _ (each_of form xs) ys first.2 in
    subst (AllByRecursion Q) (same_Some (first.0 ∷ rest.0) ys rest.2) (f x first.0 first.1, all_of Q form f xs rest.0 rest.1)

some_characters-body : (cs : Characters) (body : Seg) → some_characters cs ≡ Some body → is_segment_body body ≡ true
some_characters-body [] body e = (cc)
some_characters-body (c ∷ cs) body e = subst (λ x. is_segment_body x ≡ true) (same_Some (Chars (c ∷ cs)) body e) refl

marker-body : (d : Data) (o : Option ℕ) (body : Seg) → count d ≡ o → option_map (λ ref_type. Marker ref_type) o ≡ Some body → is_segment_body body ≡ true
marker-body d None body h e = (cc)
marker-body d (Some n) body h e = subst (λ x. is_segment_body x ≡ true) (same_Some (Marker n) body e) (lt-ltb n (2 ^ 53) (count-below d n h))

body_of-body : (text marker : Option Data) (body : Seg) → given_body text marker ≡ Some body → is_segment_body body ≡ true
body_of-body (Some text) None body e = let cs = some_step some_characters (characters text) body e in some_characters-body cs.0 body cs.2
body_of-body None (Some marker) body e = marker-body marker (count marker) body refl e
body_of-body None None body e = (cc)
body_of-body (Some text) (Some marker) body e = (cc)

abbrev HasBody : GivenSegment → Type 0
HasBody g = is_segment_body g.body ≡ true

segment_form-body : (version : ℕ) (d : Data) (g : GivenSegment) → segment_form version d ≡ Some g → HasBody g
segment_form-body version d g e =
    let body = some_step _ (given_body (field d SegmentText) (field d SegmentMarker)) g e in
    let props = some_step _ (segment_props (field d SegmentProps)) g body.2 in
    let author = some_step _ (author_form version d) g props.2 in
    let stamps = some_step _ (stamps_with author.0 d) g author.2 in
    subst HasBody (same_Some (record { body = body.0; props = props.0; stamps = stamps.0 }) g stamps.2) (body_of-body (field d SegmentText) (field d SegmentMarker) body.0 body.1)

not_empty-same : (segs got : List GivenSegment) → not_empty segs ≡ Some got → segs ≡ got
not_empty-same [] got e = (cc)
not_empty-same (seg ∷ segs) got e = same_Some (seg ∷ segs) got e

chunk_form-bodies : (version : ℕ) (d : Data) (gs : List GivenSegment) → chunk_form version d ≡ Some gs → AllByRecursion HasBody gs
chunk_form-bodies version d gs e =
    let ds = some_step _ (items d) gs e in
    let segs = some_step _ (each_of (segment_form version) ds.0) gs ds.2 in
    subst (AllByRecursion HasBody) (not_empty-same segs.0 gs segs.2) (all_of HasBody (segment_form version) (segment_form-body version) ds.0 segs.0 segs.1)

all_both : {A : Type 0} (Q : A → Type 0) (xs ys : List A) → AllByRecursion Q xs → AllByRecursion Q ys → AllByRecursion Q (xs ++ ys)
all_both Q [] ys h k = k
all_both Q (x ∷ xs) ys h k = (h.0, all_both Q xs ys h.1 k)

all_flat : {A : Type 0} (Q : A → Type 0) (xss : List (List A)) → AllByRecursion (AllByRecursion Q) xss → AllByRecursion Q (flat xss)
all_flat Q [] h = tt
all_flat Q (xs ∷ xss) h = all_both Q xs (flat xss) h.0 (all_flat Q xss h.1)

pub text_form-bodies : (version : ℕ) (d : Data) (chunks : List (List GivenSegment)) → text_form version d ≡ Some chunks → AllByRecursion HasBody (flat chunks)
text_form-bodies version d chunks e =
    let ds = some_step _ (items d) chunks e in
    all_flat HasBody chunks (all_of (AllByRecursion HasBody) (chunk_form version) (chunk_form-bodies version) ds.0 chunks ds.2)

-- ---- segments that are kept

abbrev HasValidProps : SegRec → Type 0
HasValidProps seg = HasValues seg.props

abbrev pub gives : GivenSegment → GivenStamps
gives seg = seg.stamps

kept-valid : (b : Bounds) (g : GivenSegment) (seg : SegRec) → kept_segment g ≡ Ok seg → HasBody g → are_good_stamps b g.stamps ≡ true → HasValues seg.props → IsSegment b seg
kept-valid b g seg e body good values =
    let props = read_step (kept_props g.props) _ seg e in
    let made : SegRec = record { body = g.body; props = props.0; by = given_author g.stamps; ins = given_insertion g.stamps; dels = g.stamps.removals } in
    let same : made ≡ seg = same_value made seg _ refl props.2 in
    subst (IsSegment b) same (record {
      body = body;
      props = subst HasValidProps (sym same) values;
      stamps = valid_stamps b g.stamps good;
      author = valid_author b g.stamps good;
    })

pub all_kept-valid : (b : Bounds) (gs : List GivenSegment) (segs : List SegRec) → read_each kept_segment gs ≡ Ok segs → AllByRecursion HasBody gs → AreGood b (map gives gs) → AllByRecursion HasValidProps segs
    → AllByRecursion (IsSegment b) segs
all_kept-valid b [] segs e bodies good values = subst (AllByRecursion (IsSegment b)) (same_value [] segs _ refl e) tt
all_kept-valid b (g ∷ gs) segs e bodies good values =
    let first = read_step (kept_segment g) _ segs e in
    let rest = read_step (read_each kept_segment gs) _ segs first.2 in
    let same = same_value (first.0 ∷ rest.0) segs _ refl rest.2 in
    let each_has = subst (AllByRecursion HasValidProps) (sym same) values in
    subst (AllByRecursion (IsSegment b)) same (kept-valid b g first.0 first.1 bodies.0 good.0 each_has.0, all_kept-valid b gs rest.0 rest.1 bodies.1 good.1 each_has.1)

pub all_gives : (chunks : List (List GivenSegment)) → segment_stamps chunks ≡ map gives (flat chunks)
all_gives [] = refl
all_gives (chunk ∷ chunks) = ap (λ rest. map gives chunk ++ rest) (all_gives chunks) ∙ map-both gives chunk (flat chunks)

-- ---- runs

abbrev HasUnits : GivenRun → Type 0
HasUnits run = nat_le 1 run.units ≡ true

run_form-units : (d : Data) (g : GivenRun) → run_form d ≡ Some g → HasUnits g
run_form-units d g e =
    let n = some_step _ (option_and_then count (field d RunLength)) g e in
    let stamps = some_step _ (stamps_with None d) g n.2 in
    let kept = where_held (nat_le 1 n.0) _ g stamps.2 in
    subst HasUnits kept.1 kept.0

runs_form-units : (d : Data) (gs : List GivenRun) → runs_form d ≡ Some gs → AllByRecursion HasUnits gs × (nat_le (given_units gs) (2 ^ 52) ≡ true)
runs_form-units d gs e =
    let ds = some_step _ (items d) gs e in
    let runs = some_step units_in_range (each_of run_form ds.0) gs ds.2 in
    let kept = where_held (nat_le (given_units runs.0) (2 ^ 52)) runs.0 gs runs.2 in
    (subst (AllByRecursion HasUnits) kept.1 (all_of HasUnits run_form run_form-units ds.0 runs.0 runs.1), subst (λ rs. nat_le (given_units rs) (2 ^ 52) ≡ true) kept.1 kept.0)

each_run : (b : Bounds) (gs : List GivenRun) → AllByRecursion HasUnits gs → AreGood b (run_stamps gs) → list_all (is_run b) (map kept_run gs) ≡ true
each_run b [] h good = refl
each_run b (g ∷ gs) h good = rw (h.0, valid_stamps b g.stamps good.0, each_run b gs h.1 good.1)

all_units : (gs : List GivenRun) → unit_count (map kept_run gs) ≡ given_units gs
all_units [] = refl
all_units (g ∷ gs) = ap (λ n. g.units + n) (all_units gs)

pub kept_runs-valid : (b : Bounds) (d : Data) (gs : List GivenRun) → runs_form d ≡ Some gs → AreGood b (run_stamps gs) → AreRuns b (map kept_run gs)
kept_runs-valid b d gs e good =
    let parts = runs_form-units d gs e in
    record { each = each_run b gs parts.0 good; units = ap (λ n. nat_le n (2 ^ 52)) (all_units gs) ∙ parts.1 }
