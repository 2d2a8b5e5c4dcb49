-- Cells by places: lists of them are equal just where the values at equal places are.
use Rattle.std.proofs.Common.{◌≡◌, ℕ, ◌+◌, ◌<◌, Bool, true, false, ◌||◌, nat_eq, List, [], ◌∷◌, ◌++◌, Option, Some, None, refl, sym, ◌∙◌, ap, arith}
use Rattle.std.specs.List.{list_all, list_any}
use Rattle.std.proofs.lemmas.Bool.Decides.{nat_tests}
use Rattle.ft_base.proofs.Booleans.{both}
use Rattle.ft_sumdoc.specs.declared.summary.CellRec.{CellRec}
use Rattle.ft_props.specs.Properties.{ValueBytes}
use Rattle.ft_props.specs.Element.{ListElement, id}
use Rattle.ft_op.specs.Cells.{Cell, cell_value}
use Rattle.ft_op.specs.Stages.{Stage}
use Rattle.ft_msg.specs.Content.{all_cells, cell_record, row_cells, shown_cell_value}
use Rattle.ft_laws_agreement.proofs.SlidEnds.{true-false}
use Rattle.ft_laws_names.proofs.Beside.{Beside, ends, next}
use Rattle.ft_matrix.specs.Units.{placed_cells, placed_row}

-- ---- the cells of a document

-- the shown value of the cell of two elements
abbrev pub shown_at : List Cell → List Stage → ListElement → ListElement → Option ValueBytes
shown_at cells stages x y = shown_cell_value (id x) (id y) (cell_value (id x) (id y) cells) stages

row-placed : (cells : List Cell) (stages : List Stage) (i : ℕ) (row : ListElement) (j : ℕ) (cols : List ListElement)
    → row_cells cells stages i (id row) j cols ≡ placed_row (shown_at cells stages row) i j cols
row-placed cells stages i row j [] = refl
row-placed cells stages i row j (col ∷ cols) =
    ap (λ cs. cell_record i j (shown_at cells stages row col) ++ cs) (row-placed cells stages i row (j + 1) cols)

pub all-placed : (cells : List Cell) (stages : List Stage) (cols : List ListElement) (i : ℕ) (rows : List ListElement)
    → all_cells cells stages cols i rows ≡ placed_cells (shown_at cells stages) cols i rows
all-placed cells stages cols i [] = refl
all-placed cells stages cols i (row ∷ rows) =
    ap (λ cs. cs ++ all_cells cells stages cols (i + 1) rows) (row-placed cells stages i row 0 cols)
    ∙ ap (λ cs. placed_row (shown_at cells stages row) i 0 cols ++ cs) (all-placed cells stages cols (i + 1) rows)

-- ---- equal values

module _ {C D : Type 0} where
  pub placed-row : (v : C → Option ValueBytes) (w : D → Option ValueBytes) (i j : ℕ) {cols : List C} {ds : List D}
      → Beside C D (λ c d. v c ≡ w d) cols ds → placed_row v i j cols ≡ placed_row w i j ds
  placed-row v w i j ends = refl
  placed-row v w i j (next {x = c} {y = d} {xs = cs} {ys = ds} e es) =
      ap (λ o. cell_record i j o ++ placed_row v i (j + 1) cs) e ∙ ap (λ rs. cell_record i j (w d) ++ rs) (placed-row v w i (j + 1) es)

  pub placed-cells : {R S : Type 0} (v : R → C → Option ValueBytes) (w : S → D → Option ValueBytes) (cols : List C) (ds : List D) (i : ℕ)
      {rows : List R} {ss : List S} → Beside R S (λ r s. Beside C D (λ c d. v r c ≡ w s d) cols ds) rows ss
      → placed_cells v cols i rows ≡ placed_cells w ds i ss
  placed-cells v w cols ds i ends = refl
  placed-cells v w cols ds i (next {x = r} {y = s} {xs = rs} {ys = ss} e es) =
      ap (λ us. us ++ placed_cells v cols (i + 1) rs) (placed-row (v r) (w s) i 0 e)
      ∙ ap (λ us. placed_row (w s) i 0 ds ++ us) (placed-cells v w cols ds (i + 1) es)

-- ---- and back

-- two lists split by one test
split-by : (test : CellRec → Bool) (us vs ws zs : List CellRec) → list_all test us ≡ true → list_all test vs ≡ true → list_any test ws ≡ false
    → list_any test zs ≡ false → us ++ ws ≡ vs ++ zs → (us ≡ vs) × (ws ≡ zs)
split-by test [] [] ws zs a b c d h = (refl, h)
split-by test [] (v ∷ vs) [] zs a b c d h = (cc)
split-by test [] (v ∷ vs) (w ∷ ws) zs a b c d h =
    let same : w ≡ v = (cc) in
    absurd (true-false (sym (ap test same ∙ (both (test v) (list_all test vs) b).0) ∙ first (test w) (list_any test ws) c))
  where
    first : (i j : Bool) → i || j ≡ false → i ≡ false
    first true j g = (cc)
    first false j g = refl
split-by test (u ∷ us) [] ws [] a b c d h = (cc)
split-by test (u ∷ us) [] ws (z ∷ zs) a b c d h =
    let same : u ≡ z = (cc) in
    absurd (true-false (sym (both (test u) (list_all test us) a).0 ∙ ap test same ∙ first (test z) (list_any test zs) d))
  where
    first : (i j : Bool) → i || j ≡ false → i ≡ false
    first true j g = (cc)
    first false j g = refl
split-by test (u ∷ us) (v ∷ vs) ws zs a b c d h =
    let same : u ≡ v = (cc) in
    let rest : us ++ ws ≡ vs ++ zs = (cc) in
    let r = split-by test us vs ws zs (both (test u) (list_all test us) a).1 (both (test v) (list_all test vs) b).1 c d rest in
    (ap (λ i. i ∷ us) same ∙ ap (λ is. v ∷ is) r.0, r.1)

none-append : (test : CellRec → Bool) (us vs : List CellRec) → list_any test us ≡ false → list_any test vs ≡ false → list_any test (us ++ vs) ≡ false
none-append test [] vs a b = b
none-append test (u ∷ us) vs a b = step (test u) a (λ g. none-append test us vs g b)
  where
    step : (i : Bool) → i || list_any test us ≡ false → (list_any test us ≡ false → list_any test (us ++ vs) ≡ false) → i || list_any test (us ++ vs) ≡ false
    step true g ih = (cc)
    step false g ih = ih g

all-append : (test : CellRec → Bool) (us vs : List CellRec) → list_all test us ≡ true → list_all test vs ≡ true → list_all test (us ++ vs) ≡ true
all-append test [] vs a b = b
all-append test (u ∷ us) vs a b = let p = both (test u) (list_all test us) a in rw (p.0, all-append test us vs p.1 b) refl

same-number : (n : ℕ) → nat_eq n n ≡ true
same-number n = grind (arith, nat_tests)

above : (i j : ℕ) → i < j → nat_eq j i ≡ false
above i j l = grind (arith, nat_tests)

module _ {C : Type 0} where
  row-passes : (v : C → Option ValueBytes) (i j : ℕ) (cols : List C) → list_all (λ (c : CellRec). nat_eq c.row i) (placed_row v i j cols) ≡ true
  row-passes v i j [] = refl
  row-passes v i j (col ∷ cols) = all-append (λ (c : CellRec). nat_eq c.row i) (cell_record i j (v col)) (placed_row v i (j + 1) cols) (here (v col)) (row-passes v i (j + 1) cols)
    where
      here : (o : Option ValueBytes) → list_all (λ (c : CellRec). nat_eq c.row i) (cell_record i j o) ≡ true
      here None = refl
      here (Some w) = rw (same-number i) refl

  row-misses : (v : C → Option ValueBytes) (k i : ℕ) → k < i → (j : ℕ) (cols : List C)
      → list_any (λ (c : CellRec). nat_eq c.row k) (placed_row v i j cols) ≡ false
  row-misses v k i l j [] = refl
  row-misses v k i l j (col ∷ cols) =
      none-append (λ (c : CellRec). nat_eq c.row k) (cell_record i j (v col)) (placed_row v i (j + 1) cols) (here (v col)) (row-misses v k i l (j + 1) cols)
    where
      here : (o : Option ValueBytes) → list_any (λ (c : CellRec). nat_eq c.row k) (cell_record i j o) ≡ false
      here None = refl
      here (Some w) = rw (above k i l) refl

  cols-miss : (v : C → Option ValueBytes) (i k j : ℕ) → k < j → (cols : List C) → list_any (λ (c : CellRec). nat_eq c.col k) (placed_row v i j cols) ≡ false
  cols-miss v i k j l [] = refl
  cols-miss v i k j l (col ∷ cols) =
      none-append (λ (c : CellRec). nat_eq c.col k) (cell_record i j (v col)) (placed_row v i (j + 1) cols) (here (v col)) (cols-miss v i k (j + 1) (omega arith) cols)
    where
      here : (o : Option ValueBytes) → list_any (λ (c : CellRec). nat_eq c.col k) (cell_record i j o) ≡ false
      here None = refl
      here (Some w) = rw (above k j l) refl

  rows-miss : {R : Type 0} (v : R → C → Option ValueBytes) (cols : List C) (k i : ℕ) → k < i → (rows : List R)
      → list_any (λ (c : CellRec). nat_eq c.row k) (placed_cells v cols i rows) ≡ false
  rows-miss v cols k i l [] = refl
  rows-miss v cols k i l (row ∷ rows) =
      none-append (λ (c : CellRec). nat_eq c.row k) (placed_row (v row) i 0 cols) (placed_cells v cols (i + 1) rows)
      (row-misses (v row) k i l 0 cols) (rows-miss v cols k (i + 1) (omega arith) rows)

cell-passes : (i j : ℕ) (v : Option ValueBytes) → list_all (λ (c : CellRec). nat_eq c.col j) (cell_record i j v) ≡ true
cell-passes i j None = refl
cell-passes i j (Some v) = rw (same-number j) refl

same-value : (i j : ℕ) (v w : Option ValueBytes) → cell_record i j v ≡ cell_record i j w → v ≡ w
same-value i j None None h = refl
same-value i j None (Some w) h = (cc)
same-value i j (Some v) None h = (cc)
same-value i j (Some v) (Some w) h = ap (λ (cs : List CellRec). first cs) h
  where
    first : List CellRec → Option ValueBytes
    first [] = None
    first (c ∷ cs) = Some c.value

module _ {C D : Type 0} {Q : C → D → Type 0} where
  -- equal rows have equal values
  row-of : (v : C → Option ValueBytes) (w : D → Option ValueBytes) (i j : ℕ) {cols : List C} {ds : List D} → Beside C D Q cols ds
      → placed_row v i j cols ≡ placed_row w i j ds → Beside C D (λ c d. Q c d × (v c ≡ w d)) cols ds
  row-of v w i j ends h = ends
  row-of v w i j (next {x = c} {y = d} {xs = cs} {ys = ds} q qs) h =
      let s = split-by (λ (r : CellRec). nat_eq r.col j) (cell_record i j (v c)) (cell_record i j (w d)) (placed_row v i (j + 1) cs)
      (placed_row w i (j + 1) ds) (cell-passes i j (v c)) (cell-passes i j (w d)) (cols-miss v i j (j + 1) (omega arith) cs)
      (cols-miss w i j (j + 1) (omega arith) ds) h in
      next (q, same-value i j (v c) (w d) s.0) (row-of v w i (j + 1) qs s.1)

  -- and so have equal lists of cells
  pub values-of : {R S : Type 0} {P : R → S → Type 0} (v : R → C → Option ValueBytes) (w : S → D → Option ValueBytes) (cols : List C) (ds : List D)
      → Beside C D Q cols ds → (i : ℕ) {rows : List R} {ss : List S} → Beside R S P rows ss → placed_cells v cols i rows ≡ placed_cells w ds i ss
      → Beside R S (λ r s. P r s × Beside C D (λ c d. Q c d × (v r c ≡ w s d)) cols ds) rows ss
  values-of v w cols ds k i ends h = ends
  values-of v w cols ds k i (next {x = r} {y = s} {xs = rs} {ys = ss} q qs) h =
      let e = split-by (λ (c : CellRec). nat_eq c.row i) (placed_row (v r) i 0 cols) (placed_row (w s) i 0 ds)
      (placed_cells v cols (i + 1) rs) (placed_cells w ds (i + 1) ss) (row-passes (v r) i 0 cols) (row-passes (w s) i 0 ds)
      (rows-miss v cols i (i + 1) (omega arith) rs) (rows-miss w ds i (i + 1) (omega arith) ss) h in
      next (q, row-of (v r) (w s) i 0 k e.0) (values-of v w cols ds k (i + 1) qs e.1)
