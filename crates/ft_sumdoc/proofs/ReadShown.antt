-- Written intervals and cells are read back.
use Rattle.std.proofs.Common.{◌≡◌, ℕ, ◌-◌, ◌^◌, ◌≤◌, ℤ, pos, negsuc, Bool, true, false, ◌&&◌, ◌||◌, List, [], ◌∷◌, map, Some, Ok, refl, ap, arith, nat_lt, leb-true, ltb-true, lt-ltb, le-ltb, ◌⊎◌, inl, inr}
use Rattle.std.specs.Prelude.{IsTrue, int_le, int_lt}
use Rattle.std.specs.Ordering.{int_eq}
use Rattle.std.specs.List.{AllByRecursion}
use Rattle.std.proofs.lemmas.Bool.Decides.{Decides-int_eq}
use Rattle.std.proofs.lemmas.Str.{chars-encodes}
use Rattle.serde_json.specs.Data.{array}
use Rattle.ft_base.proofs.Booleans.{all_three, both}
use Rattle.ft_json.specs.Canonical.{value_of}
use Rattle.ft_json.specs.Reading.{is_within, items}
use Rattle.ft_op.specs.WellFormed.{is_count}
use Rattle.ft_op.specs.Written.{written_items}
use Rattle.ft_op.proofs.ReadFields.{count_written, items_written, whole_written}
use Rattle.ft_op.proofs.ReadProperties.{named}
use Rattle.ft_sumdoc.specs.declared.summary.CellRec.{CellRec}
use Rattle.ft_sumdoc.specs.declared.summary.Ends2.{Ends2}
use Rattle.ft_sumdoc.specs.declared.summary.IntervalRec.{IntervalRec}
use Rattle.ft_sumdoc.specs.Cells.{GivenCell, cell_form, cells_form}
use Rattle.ft_sumdoc.specs.Cells as given_cells
use Rattle.ft_sumdoc.specs.Forms.{rises}
use Rattle.ft_sumdoc.specs.Intervals.{GivenInterval, are_shown_ends, interval_form, intervals_form}
use Rattle.ft_sumdoc.specs.Intervals as given_intervals
use Rattle.ft_sumdoc.specs.Representable.{IsRepresentableInterval}
use Rattle.ft_sumdoc.specs.Valid.{IsCell, IsInterval, is_cell_before, is_interval_before}
use Rattle.ft_sumdoc.specs.Values.{kept_cell, kept_interval}
use Rattle.ft_sumdoc.specs.Written.{written_cell_record, written_interval_record}
use Rattle.ft_sumdoc.proofs.ReadForms.{canonical_again, each_of_back, kept_props_back, props_form_back, value_not_null}

-- what is in order is in order as it is given
pub rises-map : {A B : Type 0} (before : B → B → Bool) (given : A → B) (xs : List A) → rises before (map given xs) ≡ rises (λ x y. before (given x) (given y)) xs
rises-map before given [] = refl
rises-map before given (x ∷ []) = refl
rises-map before given (x ∷ y ∷ xs) = ap (λ b. before (given x) (given y) && b) (rises-map before given (y ∷ xs))

-- ---- ends

either : (a b : Bool) → (a || b) ≡ true → (a ≡ true) ⊎ (b ≡ true)
either true b h = inl refl
either false b h = inr h

place_below : (p q n : ℕ) → int_le (pos p) (pos q) ≡ true → int_lt (pos q) (pos n) ≡ true → n ≤ 2 ^ 53 → (is_within (negsuc 0) (pos (2 ^ 53 - 1)) (pos p) ≡ true) × (is_within (negsuc 0) (pos (2 ^ 53 - 1)) (pos q) ≡ true)
place_below p q n h k e =
    let low = leb-true p q h in
    let high = ltb-true q n k in
    (rw (le-ltb (2 ^ 53 - 1) p (omega (arith, low, high, e))), rw (le-ltb (2 ^ 53 - 1) q (omega (arith, high, e))))

abbrev AreNumbers : Ends2 → Type 0
AreNumbers e = (is_within (negsuc 0) (pos (2 ^ 53 - 1)) e.start ≡ true) × (is_within (negsuc 0) (pos (2 ^ 53 - 1)) e.end ≡ true)

attached : (a b : ℤ) (n : ℕ) → n ≤ 2 ^ 53 → int_le (pos 0) a ≡ true → int_le a b ≡ true → int_lt b (pos n) ≡ true → AreNumbers (record { start = a; end = b })
attached (pos p) (pos q) n small low order high = place_below p q n order high small
attached (pos p) (negsuc q) n small low order high = (cc)
attached (negsuc p) b n small low order high = (cc)

detached : (a b : ℤ) → int_eq a (negsuc 0) ≡ true → int_eq b (negsuc 0) ≡ true → AreNumbers (record { start = a; end = b })
detached a b h k = rw ((Decides-int_eq a (negsuc 0)).0 h, (Decides-int_eq b (negsuc 0)).0 k) (refl, refl)

pub are_numbers : (n : ℕ) (e : Ends2) → n ≤ 2 ^ 53 → are_shown_ends n e ≡ true → AreNumbers e
are_numbers n e small h =
    elim (either (int_eq e.start (negsuc 0) && int_eq e.end (negsuc 0)) _ h) [
      | inl at_end ↦ let parts = both (int_eq e.start (negsuc 0)) (int_eq e.end (negsuc 0)) at_end in detached e.start e.end parts.0 parts.1
      | inr on ↦ let parts = all_three (int_le (pos 0) e.start) (int_le e.start e.end) (int_lt e.end (pos n)) on in attached e.start e.end n small parts.0 parts.1 parts.2
    ]

-- ---- intervals

-- what a written interval gives
abbrev pub given_interval : IntervalRec → GivenInterval
given_interval i = record { label = i.label; id = i.id; ends = i.ends; props = map (named value_of) i.props }

-- an interval that is valid on so many elements and of texts
pub record IsSoundInterval (n : ℕ) (i : IntervalRec) : Type 0 where
  pub texts : IsRepresentableInterval i
  pub valid : IsInterval n i

interval_back : (n : ℕ) → n ≤ 2 ^ 53 → (i : IntervalRec) → IsSoundInterval n i → interval_form n (written_interval_record i) ≡ Some (given_interval i)
unfolding items
interval_back n small i h =
    let numbers = are_numbers n i.ends small h.valid.0 in
    rw (
      chars-encodes i.label h.texts.0,
      chars-encodes i.id h.texts.1,
      whole_written i.ends.start (negsuc 0) (pos (2 ^ 53 - 1)) numbers.0,
      whole_written i.ends.end (negsuc 0) (pos (2 ^ 53 - 1)) numbers.1,
      props_form_back i.props h.texts.2.1 h.valid.1,
      h.valid.0,
    )

pub intervals_back : (n : ℕ) → n ≤ 2 ^ 53 → (is : List IntervalRec) → AllByRecursion (IsSoundInterval n) is → rises is_interval_before is ≡ true
    → intervals_form n (array (written_items written_interval_record is)) ≡ Some (map given_interval is)
intervals_back n small is h order =
    rw (
      items_written written_interval_record is,
      each_of_back (interval_form n) written_interval_record given_interval (IsSoundInterval n) (interval_back n small) is h,
      rises-map given_intervals.is_given_interval_before given_interval is,
      order,
    )

pub kept_interval_back : (n : ℕ) (i : IntervalRec) → IsSoundInterval n i → kept_interval (given_interval i) ≡ Ok i
kept_interval_back n i h = rw (kept_props_back i.props h.valid.1)

-- ---- cells

-- what a written cell gives
abbrev pub given_cell : CellRec → GivenCell
given_cell c = record { row = c.row; col = c.col; value = value_of c.value }

pub below_is_count : (i n : ℕ) → nat_lt i n ≡ true → n ≤ 2 ^ 52 → IsTrue (is_count i)
below_is_count i n h k = lt-ltb i (2 ^ 53) (omega (arith, ltb-true i n h, k))

cell_back : (rows cols : ℕ) → rows ≤ 2 ^ 52 → cols ≤ 2 ^ 52 → (c : CellRec) → IsCell rows cols c → cell_form rows cols (written_cell_record c) ≡ Some (given_cell c)
unfolding items
cell_back rows cols few_rows few_cols c h =
    let parts = both (nat_lt c.row rows) (nat_lt c.col cols) h.0 in
    rw (
      count_written c.row (below_is_count c.row rows parts.0 few_rows),
      count_written c.col (below_is_count c.col cols parts.1 few_cols),
      parts.0,
      parts.1,
      value_not_null c.value h.1,
    )

pub cells_back : (rows cols : ℕ) → rows ≤ 2 ^ 52 → cols ≤ 2 ^ 52 → (cs : List CellRec) → AllByRecursion (IsCell rows cols) cs → rises is_cell_before cs ≡ true
    → cells_form rows cols (array (written_items written_cell_record cs)) ≡ Some (map given_cell cs)
cells_back rows cols few_rows few_cols cs h order =
    rw (
      items_written written_cell_record cs,
      each_of_back (cell_form rows cols) written_cell_record given_cell (IsCell rows cols) (cell_back rows cols few_rows few_cols) cs h,
      rises-map given_cells.is_given_cell_before given_cell cs,
      order,
    )

pub kept_cell_back : (rows cols : ℕ) (c : CellRec) → IsCell rows cols c → kept_cell (given_cell c) ≡ Ok c
kept_cell_back rows cols c h = rw (canonical_again c.value h.1.0)
