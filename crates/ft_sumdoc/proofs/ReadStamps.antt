-- Written stamps are read back, and those of a valid summary are good.
use Rattle.std.proofs.Common.{◌≡◌, ℕ, suc, ◌≤◌, ◌^◌, nat_le, nat_lt, leb-true, ltb-true, lt-ltb, arith, Bool, true, false, ◌||◌, List, [], ◌∷◌, ◌++◌, map, Option, Some, None, Ok, refl, sym, ap, ap₂, cond}
use Rattle.std.specs.Prelude.{IsTrue, nat_eq, unwrap_or, ⊤}
use Rattle.std.specs.List.{AllByRecursion, list_all}
use Rattle.std.proofs.lemmas.Bool.{eqb-true}
use Rattle.serde_json.specs.Data.{Data, object}
use Rattle.ft_base.proofs.Booleans.{all_four, both}
use Rattle.ft_json.specs.declared.fields.Field.TheVariants.{Inserter, Insertion, Removals}
use Rattle.ft_json.specs.Fields.{field_name}
use Rattle.ft_json.specs.Reading.{items}
use Rattle.ft_op.specs.WellFormed.{is_count}
use Rattle.ft_op.proofs.ReadFields.{count_written, field_is, found, items_written}
use Rattle.ft_op.proofs.WrittenFields.{fields}
use Rattle.ft_sumdoc.specs.declared.summary.Mark.{Mark}
use Rattle.ft_sumdoc.specs.Forms.{optional}
use Rattle.ft_sumdoc.specs.Stamps.{Bounds, GivenStamps, are_good_stamps, are_removals, author_form, is_good_author, is_good_insertion, is_old, is_recent, is_universal, is_within_bounds, places_behind, removals_rise, same_mark, stamp_form, stamps_form, stamps_with, universal, unless_universal}
use Rattle.ft_sumdoc.specs.Valid.{are_stamps, is_author}
use Rattle.ft_sumdoc.specs.Written.{author_beside, given_mark, given_marks, written_mark}
use Rattle.ft_sumdoc.proofs.ReadForms.{each_of_back}

-- ---- form

-- the numbers of a stamp are counts
pub record HasCounts (m : Mark) : Type 0 where
  pub seq : IsTrue (is_count m.seq)
  pub conn : IsTrue (is_count m.conn)

abbrev pub HasCountsIfGiven : Option Mark → Type 0
HasCountsIfGiven None = ⊤
HasCountsIfGiven (Some m) = HasCounts m

stamp_back : (m : Mark) → HasCounts m → stamp_form (written_mark m) ≡ Some m
unfolding items
stamp_back m h = rw (count_written m.seq h.seq, count_written m.conn h.conn)

optional_back : (o : Option Mark) → HasCountsIfGiven o → optional stamp_form (given_mark o) ≡ Some o
optional_back None h = refl
optional_back (Some m) h = rw (stamp_back m h)

-- the removals, if there are any
abbrev unless_empty : List Mark → Option (List Mark)
unless_empty [] = None
unless_empty (m ∷ ms) = Some (m ∷ ms)

or_empty : (ms : List Mark) → unwrap_or (unless_empty ms) [] ≡ ms
or_empty [] = refl
or_empty (m ∷ ms) = refl

map_id : (ms : List Mark) → map (λ m. m) ms ≡ ms
map_id [] = refl
map_id (m ∷ ms) = ap (λ rest. m ∷ rest) (map_id ms)

marks_back : (ms : List Mark) → AllByRecursion HasCounts ms → optional stamps_form (given_marks ms) ≡ Some (unless_empty ms)
marks_back [] h = refl
marks_back (m ∷ ms) h = rw (items_written written_mark (m ∷ ms), each_of_back stamp_form written_mark (λ n. n) HasCounts stamp_back (m ∷ ms) h, map_id ms)

-- the stamps of an object with these fields
pub stamps_back : (author ins : Option Mark) (dels : List Mark) (fs : List (List ℕ × Option Data)) → found (field_name Insertion) fs ≡ given_mark ins → found (field_name Removals) fs ≡ given_marks dels
    → HasCountsIfGiven ins → AllByRecursion HasCounts dels → stamps_with author (object (fields fs)) ≡ Some (record { author = author; insertion = ins; removals = dels })
stamps_back author ins dels fs i r h k =
    rw (field_is fs Insertion (given_mark ins) i, field_is fs Removals (given_marks dels) r, optional_back ins h, marks_back dels k, or_empty dels)

pub author_back : (author : Option Mark) (fs : List (List ℕ × Option Data)) → found (field_name Inserter) fs ≡ given_mark author → HasCountsIfGiven author
    → author_form 2 (object (fields fs)) ≡ Some author
author_back author fs a h = rw (field_is fs Inserter (given_mark author) a, optional_back author h)

-- ---- what is given of an insertion and its author

abbrev mark_of : ℕ → ℕ → Mark
mark_of s c = record { seq = s; conn = c }

pub is_universal-same : (m : Mark) → is_universal m ≡ true → m ≡ universal
is_universal-same m h =
    let parts = both (nat_eq m.seq 0) (nat_eq m.conn 0) h in ap₂ mark_of (eqb-true m.seq 0 parts.0) (eqb-true m.conn 0 parts.1)

pub same_mark-same : (a b : Mark) → same_mark a b ≡ true → a ≡ b
same_mark-same a b h =
    let parts = both (nat_eq a.seq b.seq) (nat_eq a.conn b.conn) h in ap₂ mark_of (eqb-true a.seq b.seq parts.0) (eqb-true a.conn b.conn parts.1)

insertion_if : (ins : Mark) (u : Bool) → is_universal ins ≡ u → unwrap_or (cond u None (Some ins)) universal ≡ ins
insertion_if ins true h = sym (is_universal-same ins h)
insertion_if ins false h = refl

pub insertion_back : (ins : Mark) → unwrap_or (unless_universal ins) universal ≡ ins
insertion_back ins = insertion_if ins (is_universal ins) refl

author_if : (b : Bounds) (ins by : Mark) (u : Bool) → is_universal ins ≡ u → IsTrue (cond u (is_universal by || is_old b by) (same_mark by ins)) → unwrap_or (cond u (unless_universal by) None) ins ≡ by
author_if b ins by true h k = rw (is_universal-same ins h) (insertion_back by)
author_if b ins by false h k = sym (same_mark-same by ins k)

pub author_of_back : (b : Bounds) (ins by : Mark) → IsTrue (is_author b ins by) → unwrap_or (author_beside ins by) ins ≡ by
author_of_back b ins by h = author_if b ins by (is_universal ins) refl h

-- ---- good stamps

-- the stamps that a valid segment or run gives
abbrev pub stamps_of : Option Mark → Mark → List Mark → GivenStamps
stamps_of author ins dels = record { author = author; insertion = unless_universal ins; removals = dels }

author_known : (b : Bounds) (by : Mark) (u : Bool) → is_universal by ≡ u → (u || is_old b by) ≡ true → is_good_author b (cond u None (Some by)) None ≡ true
author_known b by true h k = refl
author_known b by false h k = k

good_author_if : (b : Bounds) (ins by : Mark) (u : Bool) → is_universal ins ≡ u → IsTrue (cond u (is_universal by || is_old b by) (same_mark by ins))
    → is_good_author b (cond u (unless_universal by) None) (cond u None (Some ins)) ≡ true
good_author_if b ins by true h k = author_known b by (is_universal by) refl k
good_author_if b ins by false h k = refl

good_author : (b : Bounds) (ins by : Mark) → IsTrue (is_author b ins by) → is_good_author b (author_beside ins by) (unless_universal ins) ≡ true
good_author b ins by h = good_author_if b ins by (is_universal ins) refl h

good_insertion : (b : Bounds) (ins : Mark) (u : Bool) → (u || is_recent b ins) ≡ true → is_good_insertion b (cond u None (Some ins)) ≡ true
good_insertion b ins true h = refl
good_insertion b ins false h = h

pub good_stamps : (b : Bounds) (author : Option Mark) (ins : Mark) (dels : List Mark) → is_good_author b author (unless_universal ins) ≡ true → IsTrue (are_stamps b ins dels)
    → are_good_stamps b (stamps_of author ins dels) ≡ true
good_stamps b author ins dels h k =
    let parts = both (is_universal ins || is_recent b ins) (are_removals b ins.seq dels) k in
    rw (h, good_insertion b ins (is_universal ins) parts.0, insertion_back ins, parts.1)

pub good_segment_stamps : (b : Bounds) (ins by : Mark) (dels : List Mark) → IsTrue (are_stamps b ins dels) → IsTrue (is_author b ins by) → are_good_stamps b (stamps_of (author_beside ins by) ins dels) ≡ true
good_segment_stamps b ins by dels h k = good_stamps b (author_beside ins by) ins dels (good_author b ins by k) h

pub good_run_stamps : (b : Bounds) (ins : Mark) (dels : List Mark) → IsTrue (are_stamps b ins dels) → are_good_stamps b (stamps_of None ins dels) ≡ true
good_run_stamps b ins dels h = good_stamps b None ins dels refl h

-- ---- places

abbrev pub AreGood : Bounds → List GivenStamps → Type 0
AreGood b ss = AllByRecursion (λ s. are_good_stamps b s ≡ true) ss

pub good_all : {A : Type 0} (b : Bounds) (P : A → Type 0) (given : A → GivenStamps) → ((x : A) → P x → are_good_stamps b (given x) ≡ true) → (xs : List A) → AllByRecursion P xs → AreGood b (map given xs)
good_all b P given f [] h = tt
good_all b P given f (x ∷ xs) h = (f x h.0, good_all b P given f xs h.1)

pub good_both : (b : Bounds) (xs ys : List GivenStamps) → AreGood b xs → AreGood b ys → AreGood b (xs ++ ys)
good_both b [] ys h k = k
good_both b (x ∷ xs) ys h k = (h.0, good_both b xs ys h.1 k)

-- the place behind stamps the first of which has place n
abbrev pub place_after : ℕ → List GivenStamps → ℕ
place_after n [] = n
place_after n (s ∷ ss) = place_after (suc n) ss

pub places_back : (b : Bounds) (n : ℕ) (ss : List GivenStamps) → AreGood b ss → places_behind b n ss ≡ Ok (place_after n ss)
places_back b n [] h = refl
places_back b n (s ∷ ss) h = rw (h.0) (places_back b (suc n) ss h.1)

-- ---- numbers of valid stamps

in_range : (s high seq : ℕ) → nat_le s high ≡ true → high ≤ seq → IsTrue (is_count seq) → IsTrue (is_count s)
in_range s high seq h k e = lt-ltb s (2 ^ 53) (omega (arith, leb-true s high h, ltb-true seq (2 ^ 53) e))

pub counts_within : (low high seq : ℕ) (b : Bounds) (m : Mark) → is_within_bounds low high b m ≡ true → high ≤ seq → IsTrue (is_count seq) → IsTrue (is_count b.conns) → HasCounts m
counts_within low high seq b m h k e g =
    let parts = all_four (nat_lt low m.seq) (nat_le m.seq high) (nat_lt 0 m.conn) (nat_le m.conn b.conns) h in
    record { seq = in_range m.seq high seq parts.1 k e; conn = in_range m.conn b.conns b.conns parts.3 (omega arith) g }

-- the sequence number and the number of connections are counts, and the minimum is at most the sequence number
pub record AreCounts (b : Bounds) : Type 0 where
  pub seq : IsTrue (is_count b.seq)
  pub conns : IsTrue (is_count b.conns)
  pub min : b.min ≤ b.seq

insertion_counts_if : (b : Bounds) (ins : Mark) (u : Bool) → AreCounts b → (u || is_recent b ins) ≡ true → HasCountsIfGiven (cond u None (Some ins))
insertion_counts_if b ins true c h = tt
insertion_counts_if b ins false c h = counts_within b.min b.seq b.seq b ins h (omega arith) c.seq c.conns

author_counts_if : (b : Bounds) (by : Mark) (u : Bool) → AreCounts b → (u || is_old b by) ≡ true → HasCountsIfGiven (cond u None (Some by))
author_counts_if b by true c h = tt
author_counts_if b by false c h = counts_within 0 b.min b.seq b by h c.min c.seq c.conns

author_counts_with : (b : Bounds) (ins by : Mark) (u : Bool) → AreCounts b → IsTrue (cond u (is_universal by || is_old b by) (same_mark by ins)) → HasCountsIfGiven (cond u (unless_universal by) None)
author_counts_with b ins by true c h = author_counts_if b by (is_universal by) c h
author_counts_with b ins by false c h = tt

pub author_counts : (b : Bounds) (ins by : Mark) → AreCounts b → IsTrue (is_author b ins by) → HasCountsIfGiven (author_beside ins by)
author_counts b ins by c h = author_counts_with b ins by (is_universal ins) c h

removal_counts : (b : Bounds) (dels : List Mark) → AreCounts b → list_all (is_recent b) dels ≡ true → AllByRecursion HasCounts dels
removal_counts b [] c h = tt
removal_counts b (m ∷ ms) c h =
    let parts = both (is_recent b m) (list_all (is_recent b) ms) h in
    (counts_within b.min b.seq b.seq b m parts.0 (omega arith) c.seq c.conns, removal_counts b ms c parts.1)

pub stamps_counts : (b : Bounds) (ins : Mark) (dels : List Mark) → AreCounts b → IsTrue (are_stamps b ins dels) → HasCountsIfGiven (unless_universal ins) × AllByRecursion HasCounts dels
stamps_counts b ins dels c h =
    let parts = both (is_universal ins || is_recent b ins) (are_removals b ins.seq dels) h in
    let removals = both (list_all (is_recent b) dels) (removals_rise ins.seq dels) parts.1 in
    (insertion_counts_if b ins (is_universal ins) c parts.0, removal_counts b dels c removals.0)
