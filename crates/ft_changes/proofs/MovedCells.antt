-- The changes of the lists lead the cells to where their rows and columns stand then.
use Rattle.std.proofs.Common.{◌≡◌, ℕ, zero, suc, ◌+◌, ◌-◌, ◌≤◌, Bool, true, false, cond, nat_le, nat_lt, List, [], ◌∷◌, ◌++◌, Option, Some, None, refl, sym, ◌∙◌, ap, arith, append_assoc, append-nil, length}
use Rattle.std.proofs.lemmas.Bool.Decides.{nat_tests}
use Rattle.ft_props.specs.Element.{ElementId, ListElement, id, seen}
use Rattle.ft_base.specs.Scan.{retain_map}
use Rattle.ft_props.specs.Properties.{ValueBytes}
use Rattle.ft_op.specs.declared.operations.Target.{Target}
use Rattle.ft_op.specs.declared.operations.Target.TheVariants.{Cols, Rows}
use Rattle.ft_op.specs.Cells.{Cell, cell_value}
use Rattle.ft_op.specs.Stages.{Stage}
use Rattle.ft_sumdoc.specs.declared.summary.CellRec.{CellRec}
use Rattle.ft_msg.specs.Content.{all_cells, cell_record, row_cells, shown_cell_value, stage_view}
use Rattle.ft_laws_agreement.specs.Sequencing.{Each}
use Rattle.ft_changes.specs.Shown.{at_number, moved_cells, number_after_put, number_after_take, number_in}
use Rattle.ft_changes.specs.ShownRuns.{put_in, take_out, without_first}

-- ---- blocks of cells, one for each number of a row or of a column

moved-append : (target : Target) (f : ℕ → Option ℕ) (xs ys : List CellRec) → moved_cells target f (xs ++ ys)
    ≡ moved_cells target f xs ++ moved_cells target f ys
moved-append target f [] ys = refl
moved-append target f (c ∷ xs) ys =
    let here = at_number target (f (number_in target c)) c in
    ap (λ cs. here ++ cs) (moved-append target f xs ys) ∙ sym (append_assoc here (moved_cells target f xs) (moved_cells target f ys))

-- the blocks of things numbered from i on
abbrev pub numbered : {A : Type 0} → (ℕ → A → List CellRec) → ℕ → List A → List CellRec
numbered block i [] = []
numbered block i (x ∷ xs) = block i x ++ numbered block (i + 1) xs

-- the block at the number, if there is one
abbrev at_place : {A : Type 0} → (ℕ → A → List CellRec) → A → Option ℕ → List CellRec
at_place block x None = []
at_place block x (Some i) = block i x

put-before : (p n i : ℕ) → i + 1 ≤ p → number_after_put p n i ≡ Some i
put-before p n i l = let test : nat_le p i ≡ false = grind (arith, nat_tests) in ap (λ b. Some (cond b (i + n) i)) test

put-behind : (p n i : ℕ) → p ≤ i → number_after_put p n i ≡ Some (i + n)
put-behind p n i l = let test : nat_le p i ≡ true = grind (arith, nat_tests) in ap (λ b. Some (cond b (i + n) i)) test

take-before : (p n i : ℕ) → i + 1 ≤ p → number_after_take p n i ≡ Some i
take-before p n i l =
    let test : nat_lt i p ≡ true = grind (arith, nat_tests) in
    ap (λ b. cond b (Some i) (cond (nat_le (p + n) i) (Some (i - n)) None)) test

take-here : (p n i : ℕ) → p ≤ i → i + 1 ≤ p + n → number_after_take p n i ≡ None
take-here p n i l m =
    let first : nat_lt i p ≡ false = grind (arith, nat_tests) in
    let second : nat_le (p + n) i ≡ false = grind (arith, nat_tests) in
    ap (λ b. cond b (Some i) (cond (nat_le (p + n) i) (Some (i - n)) None)) first ∙ ap (λ b. cond b (Some (i - n)) None) second

take-behind : (p n i j : ℕ) → p ≤ j → i ≡ j + n → number_after_take p n i ≡ Some j
take-behind p n i j l e =
    let first : nat_lt i p ≡ false = grind (arith, nat_tests) in
    let second : nat_le (p + n) i ≡ true = grind (arith, nat_tests) in
    let less : i - n ≡ j = omega arith in
    ap (λ b. cond b (Some i) (cond (nat_le (p + n) i) (Some (i - n)) None)) first ∙ ap (λ b. cond b (Some (i - n)) None) second ∙ ap Some less

module _ {A : Type 0} (target : Target) (block : ℕ → A → List CellRec)
    (moves : (f : ℕ → Option ℕ) (i : ℕ) (x : A) → moved_cells target f (block i x) ≡ at_place block x (f i)) where
  -- the block of the first thing goes to another number, or away
  first-to : (f : ℕ → Option ℕ) (i : ℕ) (x : A) (xs : List A) (o : Option ℕ) (rest : List CellRec) → f i ≡ o
      → moved_cells target f (numbered block (i + 1) xs) ≡ rest
      → moved_cells target f (numbered block i (x ∷ xs)) ≡ at_place block x o ++ rest
  first-to f i x xs o rest e d =
      moved-append target f (block i x) (numbered block (i + 1) xs) ∙ ap (λ cs. cs ++ moved_cells target f (numbered block (i + 1) xs)) (moves f i x
      ∙ ap (at_place block x) e)
      ∙ ap (λ cs. at_place block x o ++ cs) d

  all-behind : (p n i : ℕ) (xs : List A) → p ≤ i → moved_cells target (number_after_put p n) (numbered block i xs) ≡ numbered block (i + n) xs
  all-behind p n i [] l = refl
  all-behind p n i (x ∷ xs) l =
      let next : i + 1 + n ≡ i + n + 1 = omega arith in
      first-to (number_after_put p n) i x xs (Some (i + n)) (numbered block (i + n + 1) xs) (put-behind p n i l)
      (all-behind p n (i + 1) xs (omega arith) ∙ ap (λ j. numbered block j xs) next)

  -- things without cells
  none-in : (new : List A) → Each (λ x. (i : ℕ) → block i x ≡ []) new → (i : ℕ) (xs : List A) → numbered block i (new ++ xs)
      ≡ numbered block (i + length new) xs
  none-in [] h i xs = let same : i ≡ i + 0 = omega arith in ap (λ j. numbered block j xs) same
  none-in (x ∷ new) h i xs =
      let next : i + 1 + length new ≡ i + suc (length new) = omega arith in
      ap (λ cs. cs ++ numbered block (i + 1) (new ++ xs)) (h.0 i) ∙ none-in new h.1 (i + 1) xs ∙ ap (λ j. numbered block j xs) next

  none-alone : (new : List A) → Each (λ x. (i : ℕ) → block i x ≡ []) new → (i : ℕ) → numbered block i new ≡ []
  none-alone new h i = ap (numbered block i) (sym (append-nil new)) ∙ none-in new h i []

  put-moved : (at i p : ℕ) (new xs : List A) → Each (λ x. (j : ℕ) → block j x ≡ []) new → at ≡ i + p
      → moved_cells target (number_after_put at (length new)) (numbered block i xs) ≡ numbered block i (put_in p new xs)
  put-moved at i zero new xs h e = all-behind at (length new) i xs (omega arith) ∙ sym (none-in new h i xs)
  put-moved at i (suc p) new [] h e = sym (none-alone new h i)
  put-moved at i (suc p) new (x ∷ xs) h e =
      first-to (number_after_put at (length new)) i x xs (Some i) (numbered block (i + 1) (put_in p new xs)) (put-before at (length new) i (omega
      arith))
      (put-moved at (i + 1) p new xs h (omega arith))

  all-back : (p n i j : ℕ) (xs : List A) → p ≤ j → i ≡ j + n → moved_cells target (number_after_take p n) (numbered block i xs) ≡ numbered block j xs
  all-back p n i j [] l e = refl
  all-back p n i j (x ∷ xs) l e =
      first-to (number_after_take p n) i x xs (Some j) (numbered block (j + 1) xs) (take-behind p n i j l e) (all-back p n (i + 1) (j + 1) xs (omega
      arith) (omega arith))

  -- where m of the n are gone already
  first-gone : (p n m i left : ℕ) (xs : List A) → i ≡ p + m → n ≡ m + left → moved_cells target (number_after_take p n) (numbered block i xs)
      ≡ numbered block p (without_first left xs)
  first-gone p n m i zero xs e d = all-back p n i p xs (omega arith) (omega arith)
  first-gone p n m i (suc left) [] e d = refl
  first-gone p n m i (suc left) (x ∷ xs) e d =
      first-to (number_after_take p n) i x xs None (numbered block p (without_first left xs)) (take-here p n i (omega arith) (omega arith))
      (first-gone p n (m + 1) (i + 1) left xs (omega arith) (omega arith))

  take-moved : (at i p n : ℕ) (xs : List A) → at ≡ i + p → moved_cells target (number_after_take at n) (numbered block i xs)
      ≡ numbered block i (take_out p n xs)
  take-moved at i zero n xs e =
      let same : at ≡ i = omega arith in
      ap (λ p. moved_cells target (number_after_take p n) (numbered block i xs)) same ∙ first-gone i n 0 i n xs (omega arith) (omega arith)
  take-moved at i (suc p) n [] e = refl
  take-moved at i (suc p) n (x ∷ xs) e =
      first-to (number_after_take at n) i x xs (Some i) (numbered block (i + 1) (take_out p n xs)) (take-before at n i (omega arith)) (take-moved at
      (i + 1) p n xs (omega arith))

-- ---- the cells of names, by their values

module _ (value : ElementId → ElementId → Option ValueBytes) where
  -- a column's cell in row i
  abbrev pub cell_of : ℕ → ElementId → ℕ → ElementId → List CellRec
  cell_of i a j b = cell_record i j (value a b)

  -- a row
  abbrev pub line : List ElementId → ℕ → ElementId → List CellRec
  line bs i a = numbered (cell_of i a) 0 bs

  -- rows from 0 on
  abbrev pub table : List ElementId → List ElementId → List CellRec
  table rows cols = numbered (line cols) 0 rows

  cell-cols : (i : ℕ) (a : ElementId) (f : ℕ → Option ℕ) (j : ℕ) (b : ElementId) → moved_cells Cols f (cell_of i a j b)
      ≡ at_place (cell_of i a) b (f j)
  cell-cols i a f j b = by (value a b) (f j) refl
    where
      by : (v : Option ValueBytes) (o : Option ℕ) → f j ≡ o → moved_cells Cols f (cell_record i j v)
          ≡ elim o as (λ _. List CellRec) [ None ↦ [] | Some m ↦ cell_record i m v ]
      by None None e = refl
      by None (Some m) e = refl
      by (Some w) None e = ap (λ p. at_number Cols p (record { row = i; col = j; value = w }) ++ []) e
      by (Some w) (Some m) e = ap (λ p. at_number Cols p (record { row = i; col = j; value = w }) ++ []) e

  cell-rows : (i : ℕ) (a : ElementId) (f : ℕ → Option ℕ) (j : ℕ) (b : ElementId) → moved_cells Rows f (cell_of i a j b)
      ≡ at_place (λ (m : ℕ) (d : ElementId). cell_of m a j d) b (f i)
  cell-rows i a f j b = by (value a b) (f i) refl
    where
      by : (v : Option ValueBytes) (o : Option ℕ) → f i ≡ o → moved_cells Rows f (cell_record i j v)
          ≡ elim o as (λ _. List CellRec) [ None ↦ [] | Some m ↦ cell_record m j v ]
      by None None e = refl
      by None (Some m) e = refl
      by (Some w) None e = ap (λ p. at_number Rows p (record { row = i; col = j; value = w }) ++ []) e
      by (Some w) (Some m) e = ap (λ p. at_number Rows p (record { row = i; col = j; value = w }) ++ []) e

  -- a row from column j on, at the number of its row, if there is one
  abbrev line_at : ElementId → ℕ → List ElementId → Option ℕ → List CellRec
  line_at a j bs None = []
  line_at a j bs (Some i) = numbered (cell_of i a) j bs

  line-at : (f : ℕ → Option ℕ) (i : ℕ) (a : ElementId) (j : ℕ) (bs : List ElementId) → moved_cells Rows f (numbered (cell_of i a) j bs)
      ≡ line_at a j bs (f i)
  line-at f i a j [] = none (f i)
    where
      none : (o : Option ℕ) → [] ≡ line_at a j [] o
      none None = refl
      none (Some m) = refl
  line-at f i a j (b ∷ bs) =
      let rest = numbered (cell_of i a) (j + 1) bs in
      moved-append Rows f (cell_of i a j b) rest
      ∙ ap (λ cs. cs ++ moved_cells Rows f rest) (cell-rows i a f j b)
      ∙ ap (λ cs. at_place (λ (m : ℕ) (d : ElementId). cell_of m a j d) b (f i) ++ cs) (line-at f i a (j + 1) bs) ∙ joined (f i)
    where
      joined : (o : Option ℕ) → at_place (λ (m : ℕ) (d : ElementId). cell_of m a j d) b o ++ line_at a (j + 1) bs o ≡ line_at a j (b ∷ bs) o
      joined None = refl
      joined (Some m) = refl

  line-rows : (cols : List ElementId) (f : ℕ → Option ℕ) (i : ℕ) (a : ElementId) → moved_cells Rows f (line cols i a) ≡ at_place (line cols) a (f i)
  line-rows cols f i a = line-at f i a 0 cols ∙ same (f i)
    where
      same : (o : Option ℕ) → line_at a 0 cols o ≡ at_place (line cols) a o
      same None = refl
      same (Some m) = refl

  none-line : (a : ElementId) → ((b : ElementId) → value a b ≡ None) → (i j : ℕ) (bs : List ElementId) → numbered (cell_of i a) j bs ≡ []
  none-line a h i j [] = refl
  none-line a h i j (b ∷ bs) = ap (λ v. cell_record i j v ++ numbered (cell_of i a) (j + 1) bs) (h b) ∙ none-line a h i (j + 1) bs

  -- rows and columns that have no cells
  abbrev pub HasNoCells : Target → ElementId → Type 0
  HasNoCells Rows a = (b : ElementId) → value a b ≡ None
  HasNoCells Cols b = (a : ElementId) → value a b ≡ None

  none-rows : (cols new : List ElementId) → Each (HasNoCells Rows) new → Each (λ a. (i : ℕ) → line cols i a ≡ []) new
  none-rows cols [] h = tt
  none-rows cols (a ∷ new) h = ((λ i. none-line a h.0 i 0 cols), none-rows cols new h.1)

  none-cols : (i : ℕ) (a : ElementId) (new : List ElementId) → Each (HasNoCells Cols) new → Each (λ b. (j : ℕ) → cell_of i a j b ≡ []) new
  none-cols i a [] h = tt
  none-cols i a (b ∷ new) h = ((λ j. ap (cell_record i j) (h.0 a)), none-cols i a new h.1)

  -- what is done to each row is done to all
  each-line : (f : ℕ → Option ℕ) (cols others : List ElementId) → ((i : ℕ) (a : ElementId) → moved_cells Cols f (line cols i a) ≡ line others i a)
      → (i : ℕ) (rows : List ElementId) → moved_cells Cols f (numbered (line cols) i rows) ≡ numbered (line others) i rows
  each-line f cols others h i [] = refl
  each-line f cols others h i (a ∷ rows) =
      moved-append Cols f (line cols i a) (numbered (line cols) (i + 1) rows)
      ∙ ap (λ cs. cs ++ moved_cells Cols f (numbered (line cols) (i + 1) rows)) (h i a)
      ∙ ap (λ cs. line others i a ++ cs) (each-line f cols others h (i + 1) rows)

  -- ---- rows and columns that go in, and that go away

  pub rows-put : (p : ℕ) (new rows cols : List ElementId) → Each (HasNoCells Rows) new
      → moved_cells Rows (number_after_put p (length new)) (table rows cols) ≡ table (put_in p new rows) cols
  rows-put p new rows cols h = put-moved Rows (line cols) (line-rows cols) p 0 p new rows (none-rows cols new h) (omega arith)

  pub cols-put : (p : ℕ) (new rows cols : List ElementId) → Each (HasNoCells Cols) new
      → moved_cells Cols (number_after_put p (length new)) (table rows cols) ≡ table rows (put_in p new cols)
  cols-put p new rows cols h =
      each-line (number_after_put p (length new)) cols (put_in p new cols)
      (λ i a. put-moved Cols (cell_of i a) (cell-cols i a) p 0 p new cols (none-cols i a new h) (omega arith)) 0 rows

  pub rows-taken : (p n : ℕ) (rows cols : List ElementId) → moved_cells Rows (number_after_take p n) (table rows cols)
      ≡ table (take_out p n rows) cols
  rows-taken p n rows cols = take-moved Rows (line cols) (line-rows cols) p 0 p n rows (omega arith)

  pub cols-taken : (p n : ℕ) (rows cols : List ElementId) → moved_cells Cols (number_after_take p n) (table rows cols)
      ≡ table rows (take_out p n cols)
  cols-taken p n rows cols =
      each-line (number_after_take p n) cols (take_out p n cols) (λ i a. take-moved Cols (cell_of i a) (cell-cols i a) p 0 p n cols (omega arith)) 0
      rows

-- ---- the cells that are shown

-- the names of the elements of a list that are shown
abbrev pub shown_names : ℕ → List ListElement → List ElementId
shown_names k xs = retain_map (seen k) id xs

-- the value that is shown of a cell
abbrev pub value_over : List Cell → List Stage → ElementId → ElementId → Option ValueBytes
value_over cells stages a b = shown_cell_value a b (cell_value a b cells) stages

module _ (k : ℕ) (cells : List Cell) (stages : List Stage) where
  as-line : (i j : ℕ) (a : ElementId) (cols : List ListElement)
      → row_cells cells stages i a j (stage_view k cols) ≡ numbered (cell_of (value_over cells stages) i a) j (shown_names k cols)
  as-line i j a [] = refl
  as-line i j a (d ∷ cols) = by (seen k d) (λ m. as-line i m a cols)
    where
      by : (b : Bool) → ((m : ℕ) → row_cells cells stages i a m (stage_view k cols) ≡ numbered (cell_of (value_over cells stages) i a) m (shown_names
          k cols))
          → row_cells cells stages i a j (cond b (d ∷ stage_view k cols) (stage_view k cols))
          ≡ numbered (cell_of (value_over cells stages) i a) j (cond b (id d ∷ shown_names k cols) (shown_names k cols))
      by true rest = ap (λ cs. cell_record i j (value_over cells stages a (id d)) ++ cs) (rest (j + 1))
      by false rest = rest j

  pub as-table : (cols : List ListElement) (i : ℕ) (rows : List ListElement)
      → all_cells cells stages (stage_view k cols) i (stage_view k rows) ≡ numbered (line (value_over cells stages) (shown_names k cols)) i
      (shown_names k rows)
  as-table cols i [] = refl
  as-table cols i (e ∷ rows) = by (seen k e) (λ m. as-table cols m rows)
    where
      by : (b : Bool)
          → ((m : ℕ) → all_cells cells stages (stage_view k cols) m (stage_view k rows) ≡ numbered (line (value_over cells stages) (shown_names k
          cols)) m (shown_names k rows))
          → all_cells cells stages (stage_view k cols) i (cond b (e ∷ stage_view k rows) (stage_view k rows))
          ≡ numbered (line (value_over cells stages) (shown_names k cols)) i (cond b (id e ∷ shown_names k rows) (shown_names k rows))
      by true rest =
          ap (λ cs. cs ++ all_cells cells stages (stage_view k cols) (i + 1) (stage_view k rows)) (as-line i 0 (id e) cols)
          ∙ ap (λ cs. line (value_over cells stages) (shown_names k cols) i (id e) ++ cs) (rest (i + 1))
      by false rest = rest i
