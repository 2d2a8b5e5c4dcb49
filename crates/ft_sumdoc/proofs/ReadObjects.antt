-- What is read of an object part by part.
use Rattle.std.proofs.Common.{◌≡◌, ◌∙◌, ℕ, suc, cond, Bool, true, false, List, [], ◌∷◌, ◌++◌, Result, Ok, Err, refl, ap}
use Rattle.std.specs.Prelude.{IfOk, IfErr}
use Rattle.serde_json.specs.Data.{Data}
use Rattle.ft_json.specs.declared.fields.Field.TheVariants.{Cells, Intervals}
use Rattle.ft_json.specs.Reading.{needed_field}
use Rattle.ft_op.specs.Reading.{◌>>=◌}
use Rattle.ft_sumdoc.specs.declared.summary.CellRec.{CellRec}
use Rattle.ft_sumdoc.specs.declared.summary.IntervalRec.{IntervalRec}
use Rattle.ft_sumdoc.specs.declared.summary.SumDoc.{SumDoc}
use Rattle.ft_sumdoc.specs.declared.summary.SumFault.{SumFault}
use Rattle.ft_sumdoc.specs.declared.summary.SumFault.TheVariants.{BadStamp}
use Rattle.ft_sumdoc.specs.Cells.{cells_form}
use Rattle.ft_sumdoc.specs.Counts.{Head, head}
use Rattle.ft_sumdoc.specs.Faults.{field_of_summary}
use Rattle.ft_sumdoc.specs.Intervals.{intervals_form}
use Rattle.ft_sumdoc.specs.Runs.{unremoved_units}
use Rattle.ft_sumdoc.specs.Segments.{unremoved_text}
use Rattle.ft_sumdoc.specs.Shown.{cells_of, intervals_of, shown_beside}
use Rattle.ft_sumdoc.specs.Stamps.{Bounds, GivenStamps, are_good_stamps, places_behind}
use Rattle.ft_sumdoc.specs.Summary.{Lists, element_count, lists, summary_of_object}
use Rattle.ft_sumdoc.specs.Values.{kept_cell, kept_each, kept_interval}

-- ---- places

places_if : (b : Bounds) (n : ℕ) (xs ys : List GivenStamps) (good : Bool) → (places_behind b (suc n) (xs ++ ys)) ≡ (places_behind b (suc n) xs >>= λ m. places_behind b m ys)
    → cond good (places_behind b (suc n) (xs ++ ys)) (Err (BadStamp n)) ≡ (cond good (places_behind b (suc n) xs) (Err (BadStamp n)) >>= λ m. places_behind b m ys)
places_if b n xs ys true h = h
places_if b n xs ys false h = refl

places_both : (b : Bounds) (n : ℕ) (xs ys : List GivenStamps) → places_behind b n (xs ++ ys) ≡ (places_behind b n xs >>= λ m. places_behind b m ys)
places_both b n [] ys = refl
places_both b n (x ∷ xs) ys = places_if b n xs ys (are_good_stamps b x) (places_both b (suc n) xs ys)

pub places_one : (b : Bounds) (xs ys zs : List GivenStamps) (fault : SumFault) → Err fault ≡ places_behind b 0 xs → places_behind b 0 (xs ++ ys ++ zs) ≡ Err fault
places_one b xs ys zs fault e = places_both b 0 (xs ++ ys) zs ∙ rw (places_both b 0 xs ys, ← e) refl

pub places_three : (b : Bounds) (xs ys zs : List GivenStamps) (m : ℕ) (two : Result ℕ SumFault) → Ok m ≡ places_behind b 0 xs → two ≡ places_behind b m ys
    → places_behind b 0 (xs ++ ys ++ zs) ≡ (two >>= λ k. places_behind b k zs)
places_three b xs ys zs m two e f = places_both b 0 (xs ++ ys) zs ∙ rw (places_both b 0 xs ys, ← e, ← f) refl

-- what was found is what was expected
pub if_ok-same : {A F : Type 0} (expected found : Result A F) → expected ≡ found → IfOk found (λ x. expected ≡ Ok x)
if_ok-same expected (Ok x) e = e
if_ok-same expected (Err fault) e = tt

pub if_err-same : {A F : Type 0} (P : F → Type 0) (expected found : Result A F) → expected ≡ found → IfErr found (λ fault. P fault → expected ≡ Err fault)
if_err-same P expected (Ok x) e = tt
if_err-same P expected (Err fault) e = λ _. e

-- ---- objects

-- the summary of these parts
abbrev pub made : Head → Lists → List IntervalRec → List CellRec → SumDoc
made h ls is cs = record { seq = h.seq; min = h.min; skipped = h.skipped; other = h.other; conns = h.conns; text = ls.text; rows = ls.rows; cols = ls.cols; intervals = is; cells = cs }

-- both as one value
abbrev pub pair : {A B : Type 0} → A → B → A × B
pair a b = (a, b)

-- what is shown, read in one step, makes what is made of it step by step
bound_cells : {I C S F : Type 0} (is : I) (cells : Result C F) (f : I → C → S)
    → (cells >>= λ cs. Ok (f is cs)) ≡ ((cells >>= λ cs. Ok (pair is cs)) >>= λ s. Ok (f s.0 s.1))
bound_cells is (Ok cs) f = refl
bound_cells is (Err fault) f = refl

bound_intervals : {I G C S F : Type 0} (intervals : Result I F) (given : Result G F) (kept : G → Result C F) (f : I → C → S)
    → (intervals >>= λ is. given >>= λ g. kept g >>= λ cs. Ok (f is cs))
    ≡ ((intervals >>= λ is. (given >>= kept) >>= λ cs. Ok (pair is cs)) >>= λ s. Ok (f s.0 s.1))
bound_intervals (Err fault) given kept f = refl
bound_intervals (Ok is) (Err fault) kept f = refl
bound_intervals (Ok is) (Ok g) kept f = bound_cells is (kept g) f

bound_all : {N J I G C S F : Type 0} (count : Result N F) (found : Result J F) (read : J → Result I F) (given : Result G F)
    (kept : G → Result C F) (f : I → C → S)
    → (count >>= λ n. found >>= λ j. read j >>= λ is. given >>= λ g. kept g >>= λ cs. Ok (f is cs))
    ≡ ((count >>= λ n. (found >>= read) >>= λ is. (given >>= kept) >>= λ cs. Ok (pair is cs)) >>= λ s. Ok (f s.0 s.1))
bound_all (Err fault) found read given kept f = refl
bound_all (Ok n) (Err fault) read given kept f = refl
bound_all (Ok n) (Ok j) read given kept f = bound_intervals (read j) given kept f

pub object-read : (d : Data) (h : Head) (ls : Lists) (shown : Result (List IntervalRec × List CellRec) SumFault) → head d ≡ Ok h
    → lists h d ≡ Ok ls → shown_beside ls d ≡ shown
    → summary_of_object d ≡ (shown >>= λ s. Ok (made h ls s.0 s.1))
unfolding summary_of_object shown_beside intervals_of cells_of
object-read d h ls shown e f g =
    rw (e, f) (bound_all (element_count ls d) (field_of_summary (needed_field (intervals_form (unremoved_text ls.text)) d Intervals))
    (kept_each kept_interval)
    (field_of_summary (needed_field (cells_form (unremoved_units ls.rows) (unremoved_units ls.cols)) d Cells)) (kept_each kept_cell) (made h ls)
    ∙ ap (λ (r : Result (List IntervalRec × List CellRec) SumFault). r >>= λ s. Ok (made h ls s.0 s.1)) g)

-- ---- what is shown

pub shown-intervals : (ls : Lists) (d : Data) (n : ℕ) (intervals : Result (List IntervalRec) SumFault) → element_count ls d ≡ Ok n
    → intervals_of (unremoved_text ls.text) d ≡ intervals
    → shown_beside ls d ≡ (intervals >>= λ is. cells_of (unremoved_units ls.rows) (unremoved_units ls.cols) d >>= λ cs. Ok (is, cs))
unfolding shown_beside
shown-intervals ls d n intervals e f = rw (e, f) refl

pub shown-cells : (ls : Lists) (d : Data) (n : ℕ) (is : List IntervalRec) (cells : Result (List CellRec) SumFault) → element_count ls d ≡ Ok n
    → intervals_of (unremoved_text ls.text) d ≡ Ok is
    → cells_of (unremoved_units ls.rows) (unremoved_units ls.cols) d ≡ cells → shown_beside ls d ≡ (cells >>= λ cs. Ok (is, cs))
shown-cells ls d n is cells e f g = shown-intervals ls d n (Ok is) e f ∙ ap (λ (r : Result (List CellRec) SumFault). r >>= λ cs. Ok (is, cs)) g
