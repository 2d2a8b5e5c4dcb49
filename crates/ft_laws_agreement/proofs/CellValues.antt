-- The value of a cell after a write.
use Rattle.std.proofs.Common.{◌≡◌, Bool, true, false, cond, not, List, [], ◌∷◌, Some, None, refl, sym, ◌∙◌, ap, arith, find, filter}
use Rattle.std.specs.Option.{option_map}
use Rattle.std.specs.List.{list_all}
use Rattle.ft_base.proofs.Booleans.{both}
use Rattle.ft_props.specs.Element.{ElementId, same_id}
use Rattle.ft_op.specs.Cells.{Cell, is_cell, is_null, put_cell, write_cell, cell_value}
use Rattle.ft_msg.specs.Content.{value_unless_null}
use Rattle.ft_laws_agreement.specs.Trimming.{has_value}
use Rattle.ft_laws_agreement.proofs.SlidEnds.{same_id-eq}

-- a cell is looked for by its row and its column
is_cell-same : (row col : ElementId) (a b : Cell) → is_cell a.row a.col b ≡ true → is_cell row col b ≡ is_cell row col a
is_cell-same row col a b h =
    let p = both (same_id a.row b.row) (same_id a.col b.col) h in
    let q : a.row ≡ b.row = same_id-eq a.row b.row p.0 in
    let r : a.col ≡ b.col = same_id-eq a.col b.col p.1 in
    rw (q, r) refl

is_cell-other : (row col : ElementId) (a b : Cell) → is_cell a.row a.col b ≡ false → is_cell row col a ≡ true → is_cell row col b ≡ false
is_cell-other row col a b h k =
    let p = both (same_id row a.row) (same_id col a.col) k in
    let q : row ≡ a.row = same_id-eq row a.row p.0 in
    let r : col ≡ a.col = same_id-eq col a.col p.1 in
    rw (q, r) h

same-choice : {A : Type 0} (b : Bool) (x : A) → x ≡ cond b x x
same-choice true x = refl
same-choice false x = refl

module _ (row col : ElementId) (cell : Cell) where
  put-same : (other : Cell) (cells : List Cell) (b : Bool) → is_cell row col other ≡ is_cell row col cell
      → option_map (λ (c : Cell). c.value) (cond (is_cell row col cell) (Some cell) (find (is_cell row col) cells))
      ≡ cond (is_cell row col cell) (Some cell.value) (option_map (λ (c : Cell). c.value) (cond (is_cell row col other) (Some other) (find (is_cell row col) cells)))
  put-same other cells b e = rw e (step (is_cell row col cell))
    where
      step : (b : Bool) → option_map (λ (c : Cell). c.value) (cond b (Some cell) (find (is_cell row col) cells))
          ≡ cond b (Some cell.value) (option_map (λ (c : Cell). c.value) (cond b (Some other) (find (is_cell row col) cells)))
      step true = refl
      step false = refl

  put-other : (other : Cell) (cells : List Cell) (a b : Bool) → (b ≡ true → a ≡ false) → cell_value row col (put_cell cell cells)
      ≡ cond b (Some cell.value) (cell_value row col cells)
      → option_map (λ (c : Cell). c.value) (cond a (Some other) (find (is_cell row col) (put_cell cell cells)))
      ≡ cond b (Some cell.value) (option_map (λ (c : Cell). c.value) (cond a (Some other) (find (is_cell row col) cells)))
  put-other other cells true true f h = cc (f refl)
  put-other other cells true false f h = refl
  put-other other cells false b f h = h

  value-put : (cells : List Cell) → cell_value row col (put_cell cell cells) ≡ cond (is_cell row col cell) (Some cell.value) (cell_value row col cells)
  value-put [] = step (is_cell row col cell)
    where
      step : (b : Bool) → option_map (λ (c : Cell). c.value) (cond b (Some cell) None) ≡ cond b (Some cell.value) None
      step true = refl
      step false = refl
  value-put (other ∷ cells) = step (is_cell cell.row cell.col other) refl (value-put cells)
    where
      step : (b : Bool) → is_cell cell.row cell.col other ≡ b → cell_value row col (put_cell cell cells) ≡ cond (is_cell row col cell) (Some cell.value) (cell_value row col cells)
          → cell_value row col (cond b (cell ∷ cells) (other ∷ put_cell cell cells)) ≡ cond (is_cell row col cell) (Some cell.value) (cell_value row col (other ∷ cells))
      step true e h = put-same other cells true (is_cell-same row col cell other e)
      step false e h = put-other other cells (is_cell row col other) (is_cell row col cell) (λ k. is_cell-other row col cell other e k) h

  value-filter : (cells : List Cell) → cell_value row col (filter (λ other. not (is_cell cell.row cell.col other)) cells)
      ≡ cond (is_cell row col cell) None (cell_value row col cells)
  value-filter [] = same-choice (is_cell row col cell) None
  value-filter (other ∷ cells) = step (is_cell cell.row cell.col other) refl (value-filter cells)
    where
      rest : List Cell
      rest = filter (λ other. not (is_cell cell.row cell.col other)) cells

      here : (a b : Bool) → (b ≡ true → a ≡ false) → cell_value row col rest ≡ cond b None (cell_value row col cells)
          → option_map (λ (c : Cell). c.value) (cond a (Some other) (find (is_cell row col) rest))
          ≡ cond b None (option_map (λ (c : Cell). c.value) (cond a (Some other) (find (is_cell row col) cells)))
      here true true f h = cc (f refl)
      here true false f h = refl
      here false b f h = h

      gone : (a b : Bool) → a ≡ b → cell_value row col rest ≡ cond b None (cell_value row col cells)
          → cell_value row col rest ≡ cond b None (option_map (λ (c : Cell). c.value) (cond a (Some other) (find (is_cell row col) cells)))
      gone true true e h = h
      gone false false e h = h
      gone true false e h = (cc)
      gone false true e h = (cc)

      step : (b : Bool) → is_cell cell.row cell.col other ≡ b → cell_value row col rest ≡ cond (is_cell row col cell) None (cell_value row col cells)
          → cell_value row col (cond (not b) (other ∷ rest) rest) ≡ cond (is_cell row col cell) None (cell_value row col (other ∷ cells))
      step true e h = gone (is_cell row col other) (is_cell row col cell) (is_cell-same row col cell other e) h
      step false e h = here (is_cell row col other) (is_cell row col cell) (λ k. is_cell-other row col cell other e k) h

  -- a write gives its cell the value, and leaves the others
  pub value-write : (cells : List Cell) → cell_value row col (write_cell cell cells) ≡ cond (is_cell row col cell) (value_unless_null cell.value) (cell_value row col cells)
  value-write cells = step (is_null cell.value)
    where
      step : (b : Bool) → cell_value row col (cond b (filter (λ other. not (is_cell cell.row cell.col other)) cells) (put_cell cell cells))
          ≡ cond (is_cell row col cell) (cond b None (Some cell.value)) (cell_value row col cells)
      step true = value-filter cells
      step false = value-put cells

  -- what a write leaves of each cell goes by what was there
  pub write-agrees : (ks cs : List Cell) → cell_value row col ks ≡ cell_value row col cs → cell_value row col (write_cell cell ks) ≡ cell_value row col (write_cell cell cs)
  write-agrees ks cs h = step (is_null cell.value)
    where
      written : (cells : List Cell) (b : Bool) → List Cell
      written cells b = cond b (filter (λ other. not (is_cell cell.row cell.col other)) cells) (put_cell cell cells)

      step : (b : Bool) → cell_value row col (cond b (filter (λ other. not (is_cell cell.row cell.col other)) ks) (put_cell cell ks))
          ≡ cell_value row col (cond b (filter (λ other. not (is_cell cell.row cell.col other)) cs) (put_cell cell cs))
      step true = value-filter ks ∙ ap (cond (is_cell row col cell) None) h ∙ sym (value-filter cs)
      step false = value-put ks ∙ ap (cond (is_cell row col cell) (Some cell.value)) h ∙ sym (value-put cs)

  -- where a write leaves no value, and there was none, it leaves none
  pub write-none : (ks cs : List Cell) → (cell_value row col cs ≡ None → cell_value row col ks ≡ None) → cell_value row col (write_cell cell cs) ≡ None
      → cell_value row col (write_cell cell ks) ≡ None
  write-none ks cs h e = value-write ks ∙ step (is_cell row col cell) (sym (value-write cs) ∙ e)
    where
      step : (b : Bool) → cond b (value_unless_null cell.value) (cell_value row col cs) ≡ None → cond b (value_unless_null cell.value) (cell_value row col ks) ≡ None
      step true f = f
      step false f = h f

-- a value that isn't there isn't among some of the cells
pub none-filtered : (row col : ElementId) (keep : Cell → Bool) (cells : List Cell) → cell_value row col cells ≡ None → cell_value row col (filter keep cells) ≡ None
none-filtered row col keep [] h = h
none-filtered row col keep (c ∷ cells) h = step (is_cell row col c) refl (keep c) h (λ g. none-filtered row col keep cells g)
  where
    step : (a : Bool) → is_cell row col c ≡ a → (b : Bool) → option_map (λ (d : Cell). d.value) (cond a (Some c) (find (is_cell row col) cells)) ≡ None
        → (cell_value row col cells ≡ None → cell_value row col (filter keep cells) ≡ None)
        → cell_value row col (cond b (c ∷ filter keep cells) (filter keep cells)) ≡ None
    step true e b g ih = (cc)
    step false e true g ih = ap (λ b. option_map (λ (d : Cell). d.value) (cond b (Some c) (find (is_cell row col) (filter keep cells)))) e ∙ ih g
    step false e false g ih = ih g

-- no cell holds null after a write either
pub write-values : (cell : Cell) (cells : List Cell) → list_all has_value cells ≡ true → list_all has_value (write_cell cell cells) ≡ true
write-values cell cells h = step (is_null cell.value) refl
  where
    filtered : (keep : Cell → Bool) (cs : List Cell) → list_all has_value cs ≡ true → list_all has_value (filter keep cs) ≡ true
    filtered keep [] h = refl
    filtered keep (c ∷ cs) h = grind (arith, filtered keep cs)

    stands : has_value cell ≡ true → (cs : List Cell) → list_all has_value cs ≡ true → list_all has_value (put_cell cell cs) ≡ true
    stands v [] h = rw v refl
    stands v (c ∷ cs) h = grind (arith, stands v cs)

    step : (b : Bool) → is_null cell.value ≡ b → list_all has_value (cond b (filter (λ other. not (is_cell cell.row cell.col other)) cells) (put_cell cell cells)) ≡ true
    step true e = filtered (λ other. not (is_cell cell.row cell.col other)) cells h
    step false e = stands (ap not e) cells h

-- a cell of which all that it could be are kept has its value
pub value-kept : (row col : ElementId) (keep : Cell → Bool) (cells : List Cell) → list_all has_value cells ≡ true
    → ((c : Cell) → has_value c ≡ true → row ≡ c.row → col ≡ c.col → keep c ≡ true)
    → cell_value row col (filter keep cells) ≡ cell_value row col cells
value-kept row col keep [] v h = refl
value-kept row col keep (c ∷ cells) v h =
    let p = both (has_value c) (list_all has_value cells) v in
    step (is_cell row col c) (keep c) refl refl p.0 (value-kept row col keep cells p.1 h)
  where
    rest : List Cell
    rest = filter keep cells

    step : (a b : Bool) → is_cell row col c ≡ a → keep c ≡ b → has_value c ≡ true → cell_value row col (filter keep cells) ≡ cell_value row col cells
        → cell_value row col (cond b (c ∷ filter keep cells) (filter keep cells)) ≡ option_map (λ (x : Cell). x.value) (cond a (Some c) (find (is_cell row col) cells))
    step true true e k w q = ap (λ b. option_map (λ (x : Cell). x.value) (cond b (Some c) (find (is_cell row col) (filter keep cells)))) e
    step false true e k w q = ap (λ b. option_map (λ (x : Cell). x.value) (cond b (Some c) (find (is_cell row col) (filter keep cells)))) e ∙ q
    step true false e k w q =
        let p = both (same_id row c.row) (same_id col c.col) e in
        cc (h c w (same_id-eq row c.row p.0) (same_id-eq col c.col p.1))
    step false false e k w q = q
