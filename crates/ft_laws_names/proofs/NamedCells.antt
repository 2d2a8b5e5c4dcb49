-- The cells of named units hold what the records at their places say.
use Rattle.std.proofs.Common.{◌≡◌, ℕ, zero, suc, ◌+◌, ◌≤◌, Bool, true, false, cond, ◌&&◌, ◌||◌, nat_eq, List, [], ◌∷◌, ◌++◌, Option, Some, None, refl, sym, ◌∙◌, ap, subst, arith, find, append_assoc, append-nil}
use Rattle.std.specs.List.{list_any}
use Rattle.std.specs.Option.{option_map}
use Rattle.std.proofs.lemmas.Bool.Decides.{nat_tests}
use Rattle.ft_sumdoc.specs.declared.summary.CellRec.{CellRec}
use Rattle.ft_base.specs.Scan.{len, one_more_if, rank}
use Rattle.ft_props.specs.Properties.{ValueBytes}
use Rattle.ft_props.specs.Element.{ElementId, ListElement, has_id, id, same_id}
use Rattle.ft_op.specs.Cells.{Cell, cell_value, is_cell}
use Rattle.ft_msg.specs.Content.{all_cells, cell_record, row_cells}
use Rattle.ft_laws_agreement.proofs.SlidEnds.{Once, once-tail, same_id-eq, same_id-refl, true-false}
use Rattle.ft_laws_names.specs.Naming.{name_at_place, named_cell, named_cells}
use Rattle.ft_laws_names.proofs.Indexing.{cols-miss, rows-miss}

-- the place of a name
abbrev pub element_place : List ListElement → ElementId → ℕ
element_place xs a = rank (has_id a) (λ _. true) xs

only-there : (b : Bool) (n : ℕ) → one_more_if b n ≤ 1 → 1 ≤ n → b ≡ false
only-there true n l h = absurd (omega arith)
only-there false n l h = refl

-- what stands at a place has that place
pub rank-at : (ys : List ListElement) → Once ys → (k : ℕ) (b : ElementId) → name_at_place ys k ≡ Some b → (rank (has_id b) (λ _. true) ys ≡ k) × (1 ≤ len (has_id b) ys)
rank-at [] o k b e = (cc)
rank-at (y ∷ ys) o zero b e =
    let same : id y ≡ b = (cc) in
    subst (λ i. (rank (has_id i) (λ _. true) (y ∷ ys) ≡ 0) × (1 ≤ len (has_id i) (y ∷ ys))) same (
      ap (λ c. cond c 0 (suc (rank (has_id (id y)) (λ _. true) ys))) (same_id-refl (id y)),
      subst (λ c. 1 ≤ one_more_if c (len (has_id (id y)) ys))
          (sym (same_id-refl (id y))) (omega arith),
    )
rank-at (y ∷ ys) o (suc k) b e =
    let r = rank-at ys (once-tail y ys o) k b e in
    let away = only-there (has_id b y) (len (has_id b) ys) (o b) r.1 in
    (ap (λ c. cond c 0 (suc (rank (has_id b) (λ _. true) ys))) away ∙ ap suc r.0, subst (λ c. 1 ≤ one_more_if c (len (has_id b) ys)) (sym away) r.1)

-- and a name that stands is at its place
at-rank : (ys : List ListElement) (a : ElementId) → 1 ≤ len (has_id a) ys → name_at_place ys (rank (has_id a) (λ _. true) ys) ≡ Some a
at-rank [] a l = absurd (omega arith)
at-rank (y ∷ ys) a l = step (has_id a y) refl l (λ g. at-rank ys a g)
  where
    step : (b : Bool) → has_id a y ≡ b → 1 ≤ one_more_if b (len (has_id a) ys) → (1 ≤ len (has_id a) ys → name_at_place ys (rank (has_id a) (λ _. true) ys) ≡ Some a)
        → name_at_place (y ∷ ys) (cond b 0 (suc (rank (has_id a) (λ _. true) ys))) ≡ Some a
    step true e g ih = ap Some (sym (same_id-eq a (id y) e))
    step false e g ih = ih g

same-number : (n : ℕ) → nat_eq n n ≡ true
same-number n = grind (arith, nat_tests)

module _ (ys : List ListElement) (once : Once ys) (a : ElementId) (there : 1 ≤ len (has_id a) ys) where
  match-some : (k : ℕ) (b : ElementId) → name_at_place ys k ≡ Some b → same_id a b ≡ nat_eq k (rank (has_id a) (λ _. true) ys)
  match-some k b e = step (same_id a b) refl (nat_eq k (rank (has_id a) (λ _. true) ys)) refl
    where
      step : (c : Bool) → same_id a b ≡ c → (d : Bool) → nat_eq k (rank (has_id a) (λ _. true) ys) ≡ d → c ≡ d
      step true f true g = refl
      step false f false g = refl
      step true f false g =
          let place = ap (λ i. rank (has_id i) (λ _. true) ys) (same_id-eq a b f) ∙ (rank-at ys once k b e).0 in
          absurd (true-false (sym (same-number k) ∙ ap (nat_eq k) (sym place) ∙ g))
      step false f true g =
          let place : k ≡ rank (has_id a) (λ _. true) ys = grind (arith, nat_tests) in
          let both : Some b ≡ Some a = sym e ∙ ap (name_at_place ys) place ∙ at-rank ys a there in
          let same : b ≡ a = (cc) in
          absurd (true-false (sym (same_id-refl a) ∙ ap (same_id a) (sym same) ∙ f))

  match-none : (k : ℕ) → name_at_place ys k ≡ None → nat_eq k (rank (has_id a) (λ _. true) ys) ≡ false
  match-none k e = step (nat_eq k (rank (has_id a) (λ _. true) ys)) refl
    where
      step : (d : Bool) → nat_eq k (rank (has_id a) (λ _. true) ys) ≡ d → d ≡ false
      step false g = refl
      step true g =
          let place : k ≡ rank (has_id a) (λ _. true) ys = grind (arith, nat_tests) in
          let both : None ≡ Some a = sym e ∙ ap (name_at_place ys) place ∙ at-rank ys a there in
          (cc)

-- the value that the records tell of two places
abbrev pub lookup : ℕ → ℕ → List CellRec → Option ValueBytes
lookup i j [] = None
lookup i j (c ∷ cs) = cond (nat_eq c.row i && nat_eq c.col j) (Some c.value) (lookup i j cs)

never : (b : Bool) → b && false ≡ false
never true = refl
never false = refl

-- a named cell holds what is told of its places
pub value-named : (ys vs : List ListElement) → Once ys → Once vs → (a c : ElementId) → 1 ≤ len (has_id a) ys → 1 ≤ len (has_id c) vs → (cs : List CellRec)
    → cell_value a c (named_cells ys vs cs) ≡ lookup (rank (has_id a) (λ _. true) ys) (rank (has_id c) (λ _. true) vs) cs
value-named ys vs o w a c l m [] = refl
value-named ys vs o w a c l m (r ∷ cs) = step (name_at_place ys r.row) refl (name_at_place vs r.col) refl (value-named ys vs o w a c l m cs)
  where
    i : ℕ
    i = rank (has_id a) (λ _. true) ys

    j : ℕ
    j = rank (has_id c) (λ _. true) vs

    chosen : (b : Bool) (cell : Cell) (rest : List Cell) → cell_value a c rest ≡ lookup i j cs
        → option_map (λ (x : Cell). x.value) (cond b (Some cell) (find (is_cell a c) rest)) ≡ cond b (Some cell.value) (lookup i j cs)
    chosen true cell rest ih = refl
    chosen false cell rest ih = ih

    step : (p : Option ElementId) → name_at_place ys r.row ≡ p → (q : Option ElementId) → name_at_place vs r.col ≡ q → cell_value a c (named_cells ys vs cs) ≡ lookup i j cs
        → cell_value a c (named_cell p q r.value ++ named_cells ys vs cs) ≡ cond (nat_eq r.row i && nat_eq r.col j) (Some r.value) (lookup i j cs)
    step None e q f ih = ih ∙ sym (ap (λ b. cond (b && nat_eq r.col j) (Some r.value) (lookup i j cs)) (match-none ys o a l r.row e))
    step (Some b) e None f ih = ih ∙ sym (ap (λ x. cond x (Some r.value) (lookup i j cs)) (ap (λ x. nat_eq r.row i && x) (match-none vs w c m r.col f) ∙ never (nat_eq r.row i)))
    step (Some b) e (Some d) f ih =
        chosen (same_id a b && same_id c d) (record { row = b; col = d; value = r.value }) (named_cells ys vs cs) ih
        ∙ ap (λ x. cond (x && same_id c d) (Some r.value) (lookup i j cs)) (match-some ys o a l r.row b e)
        ∙ ap (λ x. cond (nat_eq r.row i && x) (Some r.value) (lookup i j cs)) (match-some vs w c m r.col d f)

-- ---- what the records tell

or-parts : (a b : Bool) → a || b ≡ false → (a ≡ false) × (b ≡ false)
or-parts true b h = (cc)
or-parts false b h = (refl, h)

skip-row : (i j : ℕ) (us ws : List CellRec) → list_any (λ (c : CellRec). nat_eq c.row i) us ≡ false → lookup i j (us ++ ws) ≡ lookup i j ws
skip-row i j [] ws h = refl
skip-row i j (u ∷ us) ws h =
    let p = or-parts (nat_eq u.row i) (list_any (λ (c : CellRec). nat_eq c.row i) us) h in
    ap (λ b. cond (b && nat_eq u.col j) (Some u.value) (lookup i j (us ++ ws))) p.0 ∙ skip-row i j us ws p.1

skip-col : (i j : ℕ) (us ws : List CellRec) → list_any (λ (c : CellRec). nat_eq c.col j) us ≡ false → lookup i j (us ++ ws) ≡ lookup i j ws
skip-col i j [] ws h = refl
skip-col i j (u ∷ us) ws h =
    let p = or-parts (nat_eq u.col j) (list_any (λ (c : CellRec). nat_eq c.col j) us) h in
    ap (λ b. cond b (Some u.value) (lookup i j (us ++ ws))) (ap (λ b. nat_eq u.row i && b) p.0 ∙ never (nat_eq u.row i)) ∙ skip-col i j us ws p.1

none-row : (i j : ℕ) (ws : List CellRec) → list_any (λ (c : CellRec). nat_eq c.row i) ws ≡ false → lookup i j ws ≡ None
none-row i j ws h = ap (lookup i j) (sym (append-nil ws)) ∙ skip-row i j ws [] h

look-row : (n : ℕ) (cells : List Cell) (a c : ElementId) (rest : List CellRec) → list_any (λ (r : CellRec). nat_eq r.row n) rest ≡ false
    → (j : ℕ) (cols : List ListElement) → 1 ≤ len (has_id c) cols
    → lookup n (j + rank (has_id c) (λ _. true) cols) (row_cells cells [] n a j cols ++ rest) ≡ cell_value a c cells
look-row n cells a c rest h j [] l = absurd (omega arith)
look-row n cells a c rest h j (u ∷ us) l =
    ap (lookup n (j + rank (has_id c) (λ _. true) (u ∷ us))) (append_assoc (cell_record n j (cell_value a (id u) cells)) (row_cells cells [] n a (j + 1) us) rest)
    ∙ step (has_id c u) refl l (λ g. look-row n cells a c rest h (j + 1) us g)
  where
    others : List CellRec
    others = row_cells cells [] n a (j + 1) us ++ rest

    plus-zero : (i : ℕ) → i + 0 ≡ i
    plus-zero i = omega arith

    plus-suc : (i m : ℕ) → i + suc m ≡ i + 1 + m
    plus-suc i m = omega arith

    higher : (i m : ℕ) → nat_eq i (i + suc m) ≡ false
    higher i m = grind (arith, nat_tests)

    here : (v : Option ValueBytes) → lookup n j (cell_record n j v ++ (row_cells cells [] n a (j + 1) us ++ rest)) ≡ v
    here None = skip-col n j (row_cells cells [] n a (j + 1) us) rest (cols-miss n j (j + 1) (omega arith) cells a us) ∙ none-row n j rest h
    here (Some w) = ap (λ b. cond (b && nat_eq j j) (Some w) (lookup n j (row_cells cells [] n a (j + 1) us ++ rest))) (same-number n)
        ∙ ap (λ b. cond b (Some w) (lookup n j (row_cells cells [] n a (j + 1) us ++ rest))) (same-number j)

    other : (m : ℕ) (v : Option ValueBytes) → list_any (λ (r : CellRec). nat_eq r.col (j + suc m)) (cell_record n j v) ≡ false
    other m None = refl
    other m (Some w) = ap (λ b. b || false) (higher j m)

    step : (b : Bool) → has_id c u ≡ b → 1 ≤ one_more_if b (len (has_id c) us)
        → (1 ≤ len (has_id c) us → lookup n (j + 1 + rank (has_id c) (λ _. true) us) (row_cells cells [] n a (j + 1) us ++ rest) ≡ cell_value a c cells)
        → lookup n (j + cond b 0 (suc (rank (has_id c) (λ _. true) us))) (cell_record n j (cell_value a (id u) cells) ++
        (row_cells cells [] n a (j + 1) us ++ rest)) ≡ cell_value a c cells
    step true e g ih =
        ap (λ i. lookup n i (cell_record n j (cell_value a (id u) cells) ++ (row_cells cells [] n a (j + 1) us ++ rest))) (plus-zero j)
        ∙ here (cell_value a (id u) cells) ∙ ap (λ i. cell_value a i cells) (sym (same_id-eq c (id u) e))
    step false e g ih =
        skip-col n (j + suc (rank (has_id c) (λ _. true) us)) (cell_record n j (cell_value a (id u) cells)) (row_cells cells [] n a (j + 1) us ++ rest)
        (other (rank (has_id c) (λ _. true) us) (cell_value a (id u) cells))
        ∙ ap (λ i. lookup n i (row_cells cells [] n a (j + 1) us ++ rest)) (plus-suc j (rank (has_id c) (λ _. true) us)) ∙ ih g

-- the records of all cells tell their values
pub look-all : (cells : List Cell) (a c : ElementId) (cols : List ListElement) → 1 ≤ len (has_id c) cols → (n : ℕ) (xs : List ListElement) → 1 ≤ len (has_id a) xs
    → lookup (n + rank (has_id a) (λ _. true) xs) (0 + rank (has_id c) (λ _. true) cols) (all_cells cells [] cols n xs) ≡ cell_value a c cells
look-all cells a c cols m n [] l = absurd (omega arith)
look-all cells a c cols m n (x ∷ xs) l = step (has_id a x) refl l (λ g. look-all cells a c cols m (n + 1) xs g)
  where
    plus-zero : (i : ℕ) → i + 0 ≡ i
    plus-zero i = omega arith

    plus-suc : (i k : ℕ) → i + suc k ≡ i + 1 + k
    plus-suc i k = omega arith

    step : (b : Bool) → has_id a x ≡ b → 1 ≤ one_more_if b (len (has_id a) xs)
        → (1 ≤ len (has_id a) xs → lookup (n + 1 + rank (has_id a) (λ _. true) xs) (0 + rank (has_id c) (λ _. true) cols) (all_cells cells [] cols (n + 1) xs)
        ≡ cell_value a c cells)
        → lookup (n + cond b 0 (suc (rank (has_id a) (λ _. true) xs))) (0 + rank (has_id c) (λ _. true) cols)
        (row_cells cells [] n (id x) 0 cols ++ all_cells cells [] cols (n + 1) xs) ≡ cell_value a c cells
    step true e g ih =
        ap (λ i. lookup i (0 + rank (has_id c) (λ _. true) cols) (row_cells cells [] n (id x) 0 cols ++ all_cells cells [] cols (n + 1) xs)) (plus-zero n)
        ∙ look-row n cells (id x) c (all_cells cells [] cols (n + 1) xs) (rows-miss n (n + 1) (omega arith) cells cols xs) 0 cols m
        ∙ ap (λ i. cell_value i c cells) (sym (same_id-eq a (id x) e))
    step false e g ih =
        skip-row (n + suc (rank (has_id a) (λ _. true) xs)) (0 + rank (has_id c) (λ _. true) cols) (row_cells cells [] n (id x) 0 cols)
        (all_cells cells [] cols (n + 1) xs) (row-other (rank (has_id a) (λ _. true) xs) 0 cols)
        ∙ ap (λ i. lookup i (0 + rank (has_id c) (λ _. true) cols) (all_cells cells [] cols (n + 1) xs)) (plus-suc n (rank (has_id a) (λ _. true) xs)) ∙ ih g
      where
        higher : (k : ℕ) → nat_eq n (n + suc k) ≡ false
        higher k = grind (arith, nat_tests)

        row-other : (k j : ℕ) (us : List ListElement) → list_any (λ (r : CellRec). nat_eq r.row (n + suc k)) (row_cells cells [] n (id x) j us) ≡ false
        row-other k j [] = refl
        row-other k j (u ∷ us) = one (cell_value (id x) (id u) cells) (row-other k (j + 1) us)
          where
            one : (v : Option ValueBytes) → list_any (λ (r : CellRec). nat_eq r.row (n + suc k)) (row_cells cells [] n (id x) (j + 1) us) ≡ false
                → list_any (λ (r : CellRec). nat_eq r.row (n + suc k)) (cell_record n j v ++ row_cells cells [] n (id x) (j + 1) us) ≡ false
            one None ih = ih
            one (Some w) ih = ap (λ b. b || list_any (λ (r : CellRec). nat_eq r.row (n + suc k)) (row_cells cells [] n (id x) (j + 1) us)) (higher k) ∙ ih
