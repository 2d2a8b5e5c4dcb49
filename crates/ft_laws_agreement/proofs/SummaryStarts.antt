-- The document of a valid summary is one that a client may begin with.
use Rattle.std.proofs.Common.{◌≡◌, ℕ, zero, suc, ◌+◌, ◌≤◌, ◌<◌, Bool, true, false, cond, not, ◌&&◌, ◌||◌, nat_eq, nat_le, nat_lt, List, [], ◌∷◌, ◌++◌, Option, Some, None, length, map, option_map, replicate, pos, negsuc, ℤ, refl, sym, ◌∙◌, ap, subst, arith}
use Rattle.std.specs.List.{AllByRecursion, list_all, list_any}
use Rattle.std.proofs.lemmas.Bool.{or_right}
use Rattle.std.proofs.lemmas.Bool.Decides.{nat_tests}
use Rattle.ft_base.proofs.Booleans.{all_three, both}
use Rattle.ft_base.specs.declared.stamps.Stamp.{Stamp}
use Rattle.ft_base.specs.declared.stamps.Stamp.TheVariants.{Acked}
use Rattle.ft_base.specs.Scan.{at, len}
use Rattle.ft_sumdoc.specs.declared.summary.Mark.{Mark}
use Rattle.ft_sumdoc.specs.declared.summary.SegRec.{SegRec}
use Rattle.ft_sumdoc.specs.declared.summary.RunRec.{RunRec}
use Rattle.ft_sumdoc.specs.declared.summary.IntervalRec.{IntervalRec}
use Rattle.ft_sumdoc.specs.declared.summary.CellRec.{CellRec}
use Rattle.ft_sumdoc.specs.declared.summary.SumDoc.{SumDoc}
use Rattle.ft_props.specs.Properties.{PropertyList, ValueBytes}
use Rattle.ft_props.specs.Element.{ElementContent, ElementId, GridUnit, ListElement, has_id, id, is_sequenced, is_unremoved, new_elements}
use Rattle.ft_op.specs.Cells.{Cell, is_null}
use Rattle.ft_op.specs.Document.{Document}
use Rattle.ft_op.specs.Intervals.{element_at_end}
use Rattle.ft_msg.specs.Client.{NaiveClient}
use Rattle.ft_msg.specs.Reached.{IsReached, IsStart, from_nothing, from_summary}
use Rattle.ft_marks.specs.Marks.{stamp_of}
use Rattle.ft_msg.specs.Summary.{cell_at, cells_of, doc_of, interval_of, list_of, run_items, segment_bodies, segment_items}
use Rattle.ft_sumdoc.specs.Stamps.{Bounds, are_removals, is_recent, is_universal, removals_rise}
use Rattle.ft_sumdoc.specs.Valid.{AreRuns, IsCell, IsSegment, IsValidSummary, IsValue, are_stamps, bounds, is_run}
use Rattle.ft_laws_agreement.specs.Sequencing.{is_cell_below, is_name_below}
use Rattle.ft_laws_agreement.specs.Starts.{IsRunFrom, IsSoundStart, is_sequenced_up_to, is_settled}
use Rattle.ft_laws_agreement.specs.Trimming.{IsNumbered, are_distinct_elements, has_ends_on, has_value, is_end_on, is_numbered_below}
use Rattle.ft_laws_agreement.proofs.AnyAndAll.{all-append}
use Rattle.ft_laws_agreement.proofs.OwnNames.{all-weaker}
use Rattle.ft_laws_agreement.proofs.SoundStarts.{empty-sound}
use Rattle.ft_laws_agreement.proofs.SlidEnds.{same_id-refl}

-- ---- elements that are numbered one after another

-- whether the elements are sequenced, and numbered in order from n on
abbrev pub count_from : ℕ → List ListElement → Bool
count_from n [] = true
count_from n (e ∷ xs) = (is_sequenced e && nat_eq e.nth n) && count_from (n + 1) xs

same_nat : (n : ℕ) → nat_eq n n ≡ true
same_nat n = grind (arith, nat_tests)

count-append : (n : ℕ) (xs ys : List ListElement) → count_from n xs ≡ true → count_from (n + length xs) ys ≡ true → count_from n (xs ++ ys) ≡ true
count-append n [] ys h g =
    let same : n + 0 ≡ n = omega arith in
    subst (λ i. count_from i ys ≡ true) same g
count-append n (x ∷ xs) ys h g =
    let p = both (is_sequenced x && nat_eq x.nth n) (count_from (n + 1) xs) h in
    let next : n + suc (length xs) ≡ n + 1 + length xs = omega arith in
    rw (p.0) (count-append (n + 1) xs ys p.1 (ap (λ i. count_from i ys) (sym next) ∙ g))

count-new : (n s c : ℕ) (dels : List Stamp) (by : Option Stamp) (props : PropertyList) (bs : List ElementContent)
    → count_from n (new_elements n (Acked s c) dels by props bs) ≡ true
count-new n s c dels by props [] = refl
count-new n s c dels by props (b ∷ bs) = rw (same_nat n) (count-new (n + 1) s c dels by props bs)

length-new : (n : ℕ) (ins : Stamp) (dels : List Stamp) (by : Option Stamp) (props : PropertyList) (bs : List ElementContent)
    → length (new_elements n ins dels by props bs) ≡ length bs
length-new n ins dels by props [] = refl
length-new n ins dels by props (b ∷ bs) = ap suc (length-new (n + 1) ins dels by props bs)

length-replicate : (n : ℕ) → length (replicate n GridUnit) ≡ n
length-replicate zero = refl
length-replicate (suc n) = ap suc (length-replicate n)

pub count-segments : (n : ℕ) (segs : List SegRec) → count_from n (segment_items n segs) ≡ true
count-segments n [] = refl
count-segments n (s ∷ segs) =
    let bs = segment_bodies s.body in
    let new = new_elements n (stamp_of s.ins) (map stamp_of s.dels) (Some (stamp_of s.by)) s.props bs in
    count-append n new (segment_items (n + length bs) segs) (count-new n s.ins.seq s.ins.conn (map stamp_of s.dels) (Some (stamp_of s.by)) s.props bs)
    (ap (λ i. count_from (n + i) (segment_items (n + length bs) segs)) (length-new n (stamp_of s.ins) (map stamp_of s.dels) (Some (stamp_of s.by)) s.props bs)
    ∙ count-segments (n + length bs) segs)

pub count-runs : (n : ℕ) (runs : List RunRec) → count_from n (run_items n runs) ≡ true
count-runs n [] = refl
count-runs n (r ∷ runs) =
    let bs = replicate r.count GridUnit in
    let new = new_elements n (stamp_of r.ins) (map stamp_of r.dels) None [] bs in
    count-append n new (run_items (n + r.count) runs) (count-new n r.ins.seq r.ins.conn (map stamp_of r.dels) None [] bs)
    (ap (λ i. count_from (n + i) (run_items (n + r.count) runs)) (length-new n (stamp_of r.ins) (map stamp_of r.dels) None [] bs ∙ length-replicate r.count)
    ∙ count-runs (n + r.count) runs)

below-one : (n m : ℕ) (e : ListElement) → n < m → is_sequenced e && nat_eq e.nth n ≡ true → is_numbered_below m e ≡ true
below-one n m e l h = grind (arith, nat_tests)

counted-below : (n m : ℕ) (xs : List ListElement) → n + length xs ≤ m → count_from n xs ≡ true → list_all (is_numbered_below m) xs ≡ true
counted-below n m [] l h = refl
counted-below n m (e ∷ xs) l h =
    let p = both (is_sequenced e && nat_eq e.nth n) (count_from (n + 1) xs) h in
    rw (below-one n m e (omega arith) p.0) (counted-below (n + 1) m xs (omega arith) p.1)

other-name : (k n : ℕ) (d e : ListElement) → k < n → is_sequenced d && nat_eq d.nth k ≡ true → is_sequenced e && nat_eq e.nth n ≡ true → has_id (id d) e ≡ false
other-name k n d e l h g = grind (arith, nat_tests)

none-later : (k n : ℕ) (d : ListElement) (xs : List ListElement) → k < n → is_sequenced d && nat_eq d.nth k ≡ true → count_from n xs ≡ true → list_any (has_id (id d)) xs ≡ false
none-later k n d [] l h g = refl
none-later k n d (e ∷ xs) l h g =
    let p = both (is_sequenced e && nat_eq e.nth n) (count_from (n + 1) xs) g in
    rw (other-name k n d e l h p.0) (none-later k (n + 1) d xs (omega arith) h p.1)

counted-distinct : (n : ℕ) (xs : List ListElement) → count_from n xs ≡ true → are_distinct_elements xs ≡ true
counted-distinct n [] h = refl
counted-distinct n (e ∷ xs) h =
    let p = both (is_sequenced e && nat_eq e.nth n) (count_from (n + 1) xs) h in
    rw (none-later n (n + 1) e xs (omega arith) p.0 p.1) (counted-distinct (n + 1) xs p.1)

pub counted-numbered : (xs : List ListElement) → count_from 0 xs ≡ true → IsNumbered (list_of xs)
counted-numbered xs h = record { below = counted-below 0 (length xs) xs (omega arith) h; distinct = counted-distinct 0 xs h }

-- ---- their stamps

settled-new : (n m : ℕ) (ins : Stamp) (dels : List Stamp) (by : Option Stamp) (props : PropertyList) (bs : List ElementContent) → is_sequenced_up_to n ins
    ≡ true → list_all (is_sequenced_up_to n) dels ≡ true
    → list_all (is_settled n) (new_elements m ins dels by props bs) ≡ true
settled-new n m ins dels by props [] h g = refl
settled-new n m ins dels by props (b ∷ bs) h g = rw (h, g) (settled-new n (m + 1) ins dels by props bs h g)

universal-known : (m : Mark) (n : ℕ) → is_universal m ≡ true → nat_le m.seq n ≡ true
universal-known m n h = grind (arith, nat_tests)

recent-known : (b : Bounds) (m : Mark) → is_recent b m ≡ true → nat_le m.seq b.seq ≡ true
recent-known b m h = grind (arith, nat_tests)

ins-known : (b : Bounds) (m : Mark) → is_universal m || is_recent b m ≡ true → nat_le m.seq b.seq ≡ true
ins-known b m h = either (is_universal m) refl h
  where
    either : (u : Bool) → is_universal m ≡ u → u || is_recent b m ≡ true → nat_le m.seq b.seq ≡ true
    either true e g = universal-known m b.seq e
    either false e g = recent-known b m g

dels-known : (b : Bounds) (ms : List Mark) → list_all (is_recent b) ms ≡ true → list_all (is_sequenced_up_to b.seq) (map stamp_of ms) ≡ true
dels-known b [] h = refl
dels-known b (m ∷ ms) h =
    let p = both (is_recent b m) (list_all (is_recent b) ms) h in
    rw (recent-known b m p.0) (dels-known b ms p.1)

stamps-known : (b : Bounds) (ins : Mark) (dels : List Mark) → are_stamps b ins dels ≡ true → (is_sequenced_up_to b.seq (stamp_of ins) ≡ true)
    × (list_all (is_sequenced_up_to b.seq) (map stamp_of dels) ≡ true)
stamps-known b ins dels h =
    let p = both (is_universal ins || is_recent b ins) (are_removals b ins.seq dels) h in
    (ins-known b ins p.0, dels-known b dels (both (list_all (is_recent b) dels) (removals_rise ins.seq dels) p.1).0)

settled-segments : (b : Bounds) (n : ℕ) (segs : List SegRec) → AllByRecursion (IsSegment b) segs → list_all (is_settled b.seq) (segment_items n segs) ≡ true
settled-segments b n [] h = refl
settled-segments b n (s ∷ segs) h =
    let k = stamps-known b s.ins s.dels h.0.stamps in
    let bs = segment_bodies s.body in
    let new = new_elements n (stamp_of s.ins) (map stamp_of s.dels) (Some (stamp_of s.by)) s.props bs in
    all-append (is_settled b.seq) new (segment_items (n + length bs) segs)
    (settled-new b.seq n (stamp_of s.ins) (map stamp_of s.dels) (Some (stamp_of s.by)) s.props bs k.0 k.1) (settled-segments b (n + length bs) segs h.1)

settled-runs : (b : Bounds) (n : ℕ) (runs : List RunRec) → list_all (is_run b) runs ≡ true → list_all (is_settled b.seq) (run_items n runs) ≡ true
settled-runs b n [] h = refl
settled-runs b n (r ∷ runs) h =
    let p = both (is_run b r) (list_all (is_run b) runs) h in
    let q = both (nat_le 1 r.count) (are_stamps b r.ins r.dels) p.0 in
    let k = stamps-known b r.ins r.dels q.1 in
    let bs = replicate r.count GridUnit in
    let new = new_elements n (stamp_of r.ins) (map stamp_of r.dels) None [] bs in
    all-append (is_settled b.seq) new (run_items (n + r.count) runs)
    (settled-new b.seq n (stamp_of r.ins) (map stamp_of r.dels) None [] bs k.0 k.1) (settled-runs b (n + r.count) runs p.1)

-- ---- ends and cells

-- the element that a scan finds is in the list
end-there : (p : ℕ) (xs : List ListElement) → is_end_on xs (option_map id (at is_unremoved p xs)) ≡ true
end-there p [] = refl
end-there p (x ∷ xs) = step p (is_unremoved x) refl (λ q. end-there q xs)
  where
    more : (o : Option ElementId) → is_end_on xs o ≡ true → is_end_on (x ∷ xs) o ≡ true
    more None h = refl
    more (Some a) h = or_right (has_id a x && is_unremoved x) (list_any (λ e. has_id a e && is_unremoved e) xs) h

    step : (q : ℕ) (b : Bool) → is_unremoved x ≡ b → ((i : ℕ) → is_end_on xs (option_map id (at is_unremoved i xs)) ≡ true)
        → is_end_on (x ∷ xs) (option_map id (at is_unremoved q (x ∷ xs))) ≡ true
    step zero true e ih = rw (e, same_id-refl (id x), e) refl
    step zero false e ih = rw e (more (option_map id (at is_unremoved 0 xs)) (ih 0))
    step (suc q) true e ih = rw e (more (option_map id (at is_unremoved q xs)) (ih q))
    step (suc q) false e ih = rw e (more (option_map id (at is_unremoved (suc q) xs)) (ih (suc q)))

end-on : (xs : List ListElement) (z : ℤ) → is_end_on xs (element_at_end is_unremoved xs z) ≡ true
end-on xs (pos p) = end-there p xs
end-on xs (negsuc p) = refl

pub ends-on : (xs : List ListElement) (is : List IntervalRec) → list_all (has_ends_on xs) (map (interval_of xs) is) ≡ true
ends-on xs [] = refl
ends-on xs (i ∷ is) = rw (end-on xs i.ends.start, end-on xs i.ends.end) (ends-on xs is)

-- whether the element that a scan finds passes
abbrev passes : (ListElement → Bool) → Option ListElement → Bool
passes P None = true
passes P (Some e) = P e

at-passes : (P test : ListElement → Bool) (p : ℕ) (xs : List ListElement) → list_all P xs ≡ true → passes P (at test p xs) ≡ true
at-passes P test p [] h = refl
at-passes P test zero (x ∷ xs) h =
    let g = both (P x) (list_all P xs) h in step (test x) g.0 (at-passes P test zero xs g.1)
  where
    step : (b : Bool) → P x ≡ true → passes P (at test zero xs) ≡ true → passes P (cond b (Some x) (at test zero xs)) ≡ true
    step true a c = a
    step false a c = c
at-passes P test (suc p) (x ∷ xs) h =
    let g = both (P x) (list_all P xs) h in step (test x) (at-passes P test p xs g.1) (at-passes P test (suc p) xs g.1)
  where
    step : (b : Bool) → passes P (at test p xs) ≡ true → passes P (at test (suc p) xs) ≡ true → passes P (at test (cond b p (suc p)) xs) ≡ true
    step true a c = a
    step false a c = c

name-below : (n : ℕ) (e : ListElement) → is_numbered_below n e ≡ true → is_name_below n (id e) ≡ true
name-below n e h = grind (arith, nat_tests)

-- whether the cell has a value, and a row and a column that were made
abbrev is_good : ℕ → ℕ → Cell → Bool
is_good rows cols c = has_value c && is_cell_below rows cols c

good-cell : (m n : ℕ) (row col : Option ListElement) (c : CellRec) → not (is_null c.value) ≡ true → passes (is_numbered_below m) row ≡ true
    → passes (is_numbered_below n) col ≡ true
    → list_all (is_good m n) (cell_at row col c) ≡ true
good-cell m n None col c v h g = refl
good-cell m n (Some row) None c v h g = refl
good-cell m n (Some row) (Some col) c v h g = rw (v, name-below m row h, name-below n col g) refl

not-null : (v : ValueBytes) → IsValue v → not (is_null v) ≡ true
not-null v h = ap not h.1

pub good-cells : (rows cols : List ListElement) (a b : ℕ) (cs : List CellRec) → list_all (is_numbered_below (length rows)) rows ≡ true
    → list_all (is_numbered_below (length cols)) cols ≡ true → AllByRecursion (IsCell a b) cs
    → list_all (is_good (length rows) (length cols)) (cells_of rows cols cs) ≡ true
good-cells rows cols a b [] h g k = refl
good-cells rows cols a b (c ∷ cs) h g k =
    all-append (is_good (length rows) (length cols)) (cell_at (at is_unremoved c.row rows) (at is_unremoved c.col cols) c) (cells_of rows cols cs)
    (good-cell (length rows) (length cols) (at is_unremoved c.row rows) (at is_unremoved c.col cols) c (not-null c.value k.0.1)
    (at-passes (is_numbered_below (length rows)) is_unremoved c.row rows h) (at-passes (is_numbered_below (length cols)) is_unremoved c.col cols g))
    (good-cells rows cols a b cs h g k.1)

first-part : (m n : ℕ) (c : Cell) → is_good m n c ≡ true → has_value c ≡ true
first-part m n c h = (both (has_value c) (is_cell_below m n c) h).0

second-part : (m n : ℕ) (c : Cell) → is_good m n c ≡ true → is_cell_below m n c ≡ true
second-part m n c h = (both (has_value c) (is_cell_below m n c) h).1

-- ---- the document

pub summary-sound : (sum : SumDoc) → IsValidSummary sum → IsSoundStart (doc_of sum)
summary-sound sum h =
    let text = segment_items 0 sum.text in
    let rows = run_items 0 sum.rows in
    let cols = run_items 0 sum.cols in
    let numbered_rows = counted-numbered rows (count-runs 0 sum.rows) in
    let numbered_cols = counted-numbered cols (count-runs 0 sum.cols) in
    let good = good-cells rows cols _ _ sum.cells numbered_rows.below numbered_cols.below h.cells in
    let m = length rows in
    let n = length cols in
    record {
      consistent = record {
        text = counted-numbered text (count-segments 0 sum.text);
        rows = numbered_rows;
        cols = numbered_cols;
        ends = ends-on text sum.intervals;
        cells = all-weaker (is_good m n) has_value (first-part m n) (cells_of rows cols sum.cells) good;
      };
      numbers = at_most sum.min sum.seq h.min;
      text = settled-segments (bounds sum) 0 sum.text h.text;
      rows = settled-runs (bounds sum) 0 sum.rows h.rows.each;
      cols = settled-runs (bounds sum) 0 sum.cols h.cols.each;
      cells = all-weaker (is_good m n) (is_cell_below m n) (second-part m n) (cells_of rows cols sum.cells) good;
    }
  where
    at_most : (m n : ℕ) → nat_le m n ≡ true → m ≤ n
    at_most m n g = grind (arith, nat_tests)

-- each document that a client of which promises speak began with
pub start-sound : {doc : Document} → IsStart doc → IsSoundStart doc
start-sound from_nothing = empty-sound
start-sound (from_summary {sum} h) = summary-sound sum h

pub reached-run : (x : NaiveClient) (r : IsReached x) → IsRunFrom r.start r.steps x
reached-run x r = record { sound = start-sound r.starts; made = r.made; bodies = r.bodies }
