-- Intervals and cells stand in order, in what is shown and in what is kept.
use Rattle.std.proofs.Common.{◌≡◌, ℕ, ◌+◌, ◌-◌, ◌<◌, ◌≤◌, ◌⊎◌, inl, inr, Bool, true, false, cond, nat_le, nat_lt, List, [], ◌∷◌, ◌++◌, Option, Some, None, refl, sym, ◌∙◌, ap, arith, filter, map}
use Rattle.std.proofs.lemmas.Bool.Decides.{nat_tests}
use Rattle.std.specs.declared.cmp.Ordering.{Ordering}
use Rattle.std.specs.declared.cmp.Ordering.TheVariants.{Less, Equal, Greater}
use Rattle.ft_props.specs.Element.{ElementId, ListElement, id}
use Rattle.ft_props.specs.Keys.{put_rising, remove_rising}
use Rattle.ft_props.specs.Properties.{ValueBytes}
use Rattle.ft_op.specs.declared.operations.Target.{Target}
use Rattle.ft_op.specs.declared.operations.Target.TheVariants.{Rows, Cols}
use Rattle.ft_op.specs.Cells.{Cell, cell_value}
use Rattle.ft_op.specs.Stages.{Stage}
use Rattle.ft_sumdoc.specs.declared.summary.CellRec.{CellRec}
use Rattle.ft_sumdoc.specs.declared.summary.IntervalRec.{IntervalRec}
use Rattle.ft_msg.specs.Content.{all_cells, cell_record, row_cells, shown_cell_value}
use Rattle.ft_changes.specs.declared.changes.ViewChange.{ViewChange}
use Rattle.ft_changes.specs.declared.changes.ViewChange.TheVariants.{Put, Take, Style, PutUnits, TakeUnits, SetCell, ClearCell, SetInterval, DropInterval}
use Rattle.ft_changes.specs.Shown.{ShownContent, after_change, after_changes, at_number, cell_at_place, cell_order, interval_of_name, interval_order, moved_cells, number_after_put, number_after_take, with_moved_ends}
use Rattle.ft_changes.proofs.Orders.{behind-cell, cell-behind, cell_order-is, interval_order-is}
use Rattle.ft_changes.proofs.ToldItems.{AreBehind, IsKeyOrder, Rise, behind-alike, behind-further}

-- ---- what is put and removed

module _ {A : Type 0} (order : A → A → Ordering) (is : IsKeyOrder order) where
  put-behind : (x y : A) (ys : List A) → order x y ≡ Greater → AreBehind order y ys → AreBehind order y (put_rising order x ys)
  put-behind x y [] e b = (e, tt)
  put-behind x y (z ∷ ys) e b = by (order x z) (put-behind x y ys e b.1)
    where
      by : (o : Ordering) → AreBehind order y (put_rising order x ys)
          → AreBehind order y (elim o as (λ _. List A) [ Less ↦ x ∷ z ∷ ys | Equal ↦ x ∷ ys | Greater ↦ z ∷ put_rising order x ys ])
      by Less rest = (e, b)
      by Equal rest = (e, b.1)
      by Greater rest = (b.0, rest)

  pub put-rise : (x : A) (ys : List A) → Rise order ys → Rise order (put_rising order x ys)
  put-rise x [] r = (tt, tt)
  put-rise x (y ∷ ys) r = by (order x y) refl (put-rise x ys r.1)
    where
      by : (o : Ordering) → order x y ≡ o → Rise order (put_rising order x ys)
          → Rise order (elim o as (λ _. List A) [ Less ↦ x ∷ y ∷ ys | Equal ↦ x ∷ ys | Greater ↦ y ∷ put_rising order x ys ])
      by Less e rest = let b = is.back x y e in ((b, behind-further order is x y ys b r.0), r)
      by Equal e rest = (behind-alike order is x y ys e r.0, r.1)
      by Greater e rest = (put-behind x y ys e r.0, rest)

  remove-behind : (x y : A) (ys : List A) → AreBehind order y ys → AreBehind order y (remove_rising order x ys)
  remove-behind x y [] b = tt
  remove-behind x y (z ∷ ys) b = by (order x z) (remove-behind x y ys b.1)
    where
      by : (o : Ordering) → AreBehind order y (remove_rising order x ys)
          → AreBehind order y (elim o as (λ _. List A) [ Less ↦ z ∷ ys | Equal ↦ ys | Greater ↦ z ∷ remove_rising order x ys ])
      by Less rest = b
      by Equal rest = b.1
      by Greater rest = (b.0, rest)

  pub remove-rise : (x : A) (ys : List A) → Rise order ys → Rise order (remove_rising order x ys)
  remove-rise x [] r = tt
  remove-rise x (y ∷ ys) r = by (order x y) (remove-rise x ys r.1)
    where
      by : (o : Ordering) → Rise order (remove_rising order x ys)
          → Rise order (elim o as (λ _. List A) [ Less ↦ y ∷ ys | Equal ↦ ys | Greater ↦ y ∷ remove_rising order x ys ])
      by Less rest = r
      by Equal rest = r.1
      by Greater rest = (remove-behind x y ys r.0, rest)

filter-behind : {A : Type 0} (order : A → A → Ordering) (keep : A → Bool) (y : A) (ys : List A) → AreBehind order y ys → AreBehind order y (filter keep ys)
filter-behind order keep y [] b = tt
filter-behind order keep y (z ∷ ys) b = by (keep z) (filter-behind order keep y ys b.1)
  where
    by : (o : Bool) → AreBehind order y (filter keep ys) → AreBehind order y (cond o (z ∷ filter keep ys) (filter keep ys))
    by true rest = (b.0, rest)
    by false rest = rest

pub filter-rise : {A : Type 0} (order : A → A → Ordering) (keep : A → Bool) (ys : List A) → Rise order ys → Rise order (filter keep ys)
filter-rise order keep [] r = tt
filter-rise order keep (y ∷ ys) r = by (keep y) (filter-rise order keep ys r.1)
  where
    by : (o : Bool) → Rise order (filter keep ys) → Rise order (cond o (y ∷ filter keep ys) (filter keep ys))
    by true rest = (filter-behind order keep y ys r.0, rest)
    by false rest = rest

module _ {A B : Type 0} (order : A → A → Ordering) (after : B → B → Ordering) (f : A → B) (same : (a b : A) → after (f a) (f b) ≡ order a b) where
  map-behind : (y : A) (ys : List A) → AreBehind order y ys → AreBehind after (f y) (map f ys)
  map-behind y [] b = tt
  map-behind y (z ∷ ys) b = (same z y ∙ b.0, map-behind y ys b.1)

  pub map-rise : (ys : List A) → Rise order ys → Rise after (map f ys)
  map-rise [] r = tt
  map-rise (y ∷ ys) r = (map-behind y ys r.0, map-rise ys r.1)

-- ---- cells that move with their row or column

some-is : {A : Type 0} (x y : A) → Some x ≡ Some y → x ≡ y
some-is x y e = ap (λ o. elim o as (λ _. _) [ None ↦ x | Some z ↦ z ]) e

abbrev IsMonotone : (ℕ → Option ℕ) → Type 0
IsMonotone f = (a b i j : ℕ) → a < b → f a ≡ Some i → f b ≡ Some j → i < j

put-monotone : (p n : ℕ) → IsMonotone (number_after_put p n)
put-monotone p n a b i j less e d = by (nat_le p a) (nat_le p b) refl refl (some-is _ _ e) (some-is _ _ d)
  where
    by : (x y : Bool) → nat_le p a ≡ x → nat_le p b ≡ y → cond x (a + n) a ≡ i → cond y (b + n) b ≡ j → i < j
    by true true s t e d = omega arith
    by true false s t e d = let l : p ≤ a = grind (arith, nat_tests) in let g : b < p = grind (arith, nat_tests) in omega arith
    by false true s t e d = omega arith
    by false false s t e d = omega arith

take-monotone : (p n : ℕ) → IsMonotone (number_after_take p n)
take-monotone p n a b i j less e d = by (nat_lt a p) (nat_le (p + n) a) (nat_lt b p) (nat_le (p + n) b) refl refl refl refl e d
  where
    by : (x y z w : Bool) → nat_lt a p ≡ x → nat_le (p + n) a ≡ y → nat_lt b p ≡ z → nat_le (p + n) b ≡ w
        → cond x (Some a) (cond y (Some (a - n)) None) ≡ Some i → cond z (Some b) (cond w (Some (b - n)) None) ≡ Some j → i < j
    by true y true w s t u v e d = let k = some-is _ _ e in let l = some-is _ _ d in omega arith
    by true y false true s t u v e d =
        let k = some-is _ _ e in let l = some-is _ _ d in let g : a < p = grind (arith, nat_tests) in let h : p + n ≤ b = grind (arith, nat_tests) in omega arith
    by true y false false s t u v e d = absurd (cc)
    by false true true w s t u v e d = let g : p + n ≤ a = grind (arith, nat_tests) in let h : b < p = grind (arith, nat_tests) in absurd (omega arith)
    by false true false true s t u v e d =
        let k = some-is _ _ e in let l = some-is _ _ d in let g : p + n ≤ a = grind (arith, nat_tests) in let h : p + n ≤ b = grind (arith, nat_tests) in omega arith
    by false true false false s t u v e d = absurd (cc)
    by false false z w s t u v e d = absurd (cc)

module _ (f : ℕ → Option ℕ) (mono : IsMonotone f) where
  rows-behind : (c : CellRec) (i : ℕ) (cells : List CellRec) → f c.row ≡ Some i → AreBehind cell_order c cells → AreBehind cell_order (record c { row = i }) (moved_cells Rows f cells)
  rows-behind c i [] e b = tt
  rows-behind c i (d ∷ cells) e b = by (f d.row) refl (rows-behind c i cells e b.1)
    where
      by : (o : Option ℕ) → f d.row ≡ o → AreBehind cell_order (record c { row = i }) (moved_cells Rows f cells)
          → AreBehind cell_order (record c { row = i }) (at_number Rows o d ++ moved_cells Rows f cells)
      by None s rest = rest
      by (Some j) s rest = (cell-behind (record c { row = i }) (record d { row = j }) (place (behind-cell c d b.0)), rest)
        where
          place : (c.row < d.row) ⊎ ((d.row ≡ c.row) × (c.col < d.col)) → (i < j) ⊎ ((j ≡ i) × (c.col < d.col))
          place (inl l) = inl (mono c.row d.row i j l e s)
          place (inr k) = inr (some-is j i (sym s ∙ ap f k.0 ∙ e), k.1)

  cols-behind : (c : CellRec) (i : ℕ) (cells : List CellRec) → f c.col ≡ Some i → AreBehind cell_order c cells → AreBehind cell_order (record c { col = i }) (moved_cells Cols f cells)
  cols-behind c i [] e b = tt
  cols-behind c i (d ∷ cells) e b = by (f d.col) refl (cols-behind c i cells e b.1)
    where
      by : (o : Option ℕ) → f d.col ≡ o → AreBehind cell_order (record c { col = i }) (moved_cells Cols f cells)
          → AreBehind cell_order (record c { col = i }) (at_number Cols o d ++ moved_cells Cols f cells)
      by None s rest = rest
      by (Some j) s rest = (cell-behind (record c { col = i }) (record d { col = j }) (place (behind-cell c d b.0)), rest)
        where
          place : (c.row < d.row) ⊎ ((d.row ≡ c.row) × (c.col < d.col)) → (c.row < d.row) ⊎ ((d.row ≡ c.row) × (i < j))
          place (inl l) = inl l
          place (inr k) = inr (k.0, mono c.col d.col i j k.1 e s)

  pub moved-rise : (target : Target) (cells : List CellRec) → Rise cell_order cells → Rise cell_order (moved_cells target f cells)
  moved-rise target [] r = tt
  moved-rise Rows (c ∷ cells) r = by (f c.row) refl (moved-rise Rows cells r.1)
    where
      by : (o : Option ℕ) → f c.row ≡ o → Rise cell_order (moved_cells Rows f cells) → Rise cell_order (at_number Rows o c ++ moved_cells Rows f cells)
      by None s rest = rest
      by (Some i) s rest = (rows-behind c i cells s r.0, rest)
  moved-rise Cols (c ∷ cells) r = by (f c.col) refl (moved-rise Cols cells r.1)
    where
      by : (o : Option ℕ) → f c.col ≡ o → Rise cell_order (moved_cells Cols f cells) → Rise cell_order (at_number Cols o c ++ moved_cells Cols f cells)
      by None s rest = rest
      by (Some i) s rest = (cols-behind c i cells s r.0, rest)

-- ---- what is kept

-- its intervals and its cells stand in order
pub record Rises (s : ShownContent) : Type 0 where
  pub intervals : Rise interval_order s.intervals
  pub cells : Rise cell_order s.cells

ends-rise : (f : _) (is : List IntervalRec) → Rise interval_order is → Rise interval_order (map (with_moved_ends f) is)
ends-rise f is r = map-rise interval_order interval_order (with_moved_ends f) (λ a b. refl) is r

pub change-rises : (s : ShownContent) (c : ViewChange) → Rises s → Rises (after_change s c)
change-rises s (Put p seg props) r = record { intervals = ends-rise _ s.intervals r.intervals; cells = r.cells }
change-rises s (Take p n) r = record { intervals = ends-rise _ s.intervals r.intervals; cells = r.cells }
change-rises s (Style p n props) r = record { intervals = r.intervals; cells = r.cells }
change-rises s (PutUnits Rows p n) r = record { intervals = r.intervals; cells = moved-rise (number_after_put p n) (put-monotone p n) Rows s.cells r.cells }
change-rises s (PutUnits Cols p n) r = record { intervals = r.intervals; cells = moved-rise (number_after_put p n) (put-monotone p n) Cols s.cells r.cells }
change-rises s (TakeUnits Rows p n) r = record { intervals = r.intervals; cells = moved-rise (number_after_take p n) (take-monotone p n) Rows s.cells r.cells }
change-rises s (TakeUnits Cols p n) r = record { intervals = r.intervals; cells = moved-rise (number_after_take p n) (take-monotone p n) Cols s.cells r.cells }
change-rises s (SetCell i j value) r = record { intervals = r.intervals; cells = put-rise cell_order cell_order-is (record { row = i; col = j; value = value }) s.cells r.cells }
change-rises s (ClearCell i j) r = record { intervals = r.intervals; cells = remove-rise cell_order cell_order-is (cell_at_place i j) s.cells r.cells }
change-rises s (SetInterval interval) r = record { intervals = put-rise interval_order interval_order-is interval s.intervals r.intervals; cells = r.cells }
change-rises s (DropInterval label name) r = record { intervals = remove-rise interval_order interval_order-is (interval_of_name label name) s.intervals r.intervals; cells = r.cells }

pub changes-rise : (s : ShownContent) (cs : List ViewChange) → Rises s → Rises (after_changes s cs)
changes-rise s [] r = r
changes-rise s (c ∷ cs) r = changes-rise (after_change s c) cs (change-rises s c r)

-- ---- the cells of a view

module _ (cells : List Cell) (stages : List Stage) where
  row-behind : (c : CellRec) (i j : ℕ) (row : ElementId) (cols : List ListElement) → c.row ≡ i → c.col < j → AreBehind cell_order c (row_cells cells stages i row j cols)
  row-behind c i j row [] e l = tt
  row-behind c i j row (col ∷ cols) e l = by (shown_cell_value row (id col) (cell_value row (id col) cells) stages) (row-behind c i (j + 1) row cols e (omega arith))
    where
      by : (v : Option ValueBytes) → AreBehind cell_order c (row_cells cells stages i row (j + 1) cols) → AreBehind cell_order c (cell_record i j v ++ row_cells cells stages i row (j + 1) cols)
      by None rest = rest
      by (Some v) rest = (cell-behind c (record { row = i; col = j; value = v }) (inr (sym e, l)), rest)

  append-behind : (c : CellRec) (xs ys : List CellRec) → AreBehind cell_order c xs → AreBehind cell_order c ys → AreBehind cell_order c (xs ++ ys)
  append-behind c [] ys b d = d
  append-behind c (x ∷ xs) ys b d = (b.0, append-behind c xs ys b.1 d)

  -- a cell of an earlier row stands before a whole row
  later-row : (c : CellRec) (i j : ℕ) (row : ElementId) (cols : List ListElement) → c.row < i → AreBehind cell_order c (row_cells cells stages i row j cols)
  later-row c i j row [] l = tt
  later-row c i j row (col ∷ cols) l = by (shown_cell_value row (id col) (cell_value row (id col) cells) stages) (later-row c i (j + 1) row cols l)
    where
      by : (v : Option ValueBytes) → AreBehind cell_order c (row_cells cells stages i row (j + 1) cols) → AreBehind cell_order c (cell_record i j v ++ row_cells cells stages i row (j + 1) cols)
      by None rest = rest
      by (Some v) rest = (cell-behind c (record { row = i; col = j; value = v }) (inl l), rest)

  later-rows : (c : CellRec) (i : ℕ) (cols rows : List ListElement) → c.row < i → AreBehind cell_order c (all_cells cells stages cols i rows)
  later-rows c i cols [] l = tt
  later-rows c i cols (row ∷ rows) l = append-behind c (row_cells cells stages i (id row) 0 cols) _ (later-row c i 0 (id row) cols l) (later-rows c (i + 1) cols rows (omega arith))

  -- the cells of a row, and cells behind all of that row
  row-rise : (i j : ℕ) (row : ElementId) (cols : List ListElement) (later : List CellRec) → ((c : CellRec) → c.row ≡ i → AreBehind cell_order c later) → Rise cell_order later
      → Rise cell_order (row_cells cells stages i row j cols ++ later)
  row-rise i j row [] later b r = r
  row-rise i j row (col ∷ cols) later b r = by (shown_cell_value row (id col) (cell_value row (id col) cells) stages) (row-rise i (j + 1) row cols later b r)
    where
      rest_of : List CellRec
      rest_of = row_cells cells stages i row (j + 1) cols

      by : (v : Option ValueBytes) → Rise cell_order (rest_of ++ later) → Rise cell_order ((cell_record i j v ++ rest_of) ++ later)
      by None rest = rest
      by (Some v) rest =
          let c : CellRec = record { row = i; col = j; value = v } in
          (append-behind c rest_of later (row-behind c i (j + 1) row cols refl (omega arith)) (b c refl), rest)

  pub cells-rise : (i : ℕ) (cols rows : List ListElement) → Rise cell_order (all_cells cells stages cols i rows)
  cells-rise i cols [] = tt
  cells-rise i cols (row ∷ rows) =
      row-rise i 0 (id row) cols (all_cells cells stages cols (i + 1) rows) (λ c e. later-rows c (i + 1) cols rows (let l : c.row ≡ i = e in omega arith)) (cells-rise (i + 1) cols rows)
