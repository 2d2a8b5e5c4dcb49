-- How many rows and columns are seen after an operation of the client's own.
use Rattle.std.proofs.Common.{◌≡◌, ℕ, suc, ◌+◌, ◌-◌, ◌≤◌, ◌<◌, Bool, true, false, cond, ◌&&◌, ◌||◌, nat_le, nat_lt, List, [], ◌∷◌, Option, Some, None, Result, Ok, Err, refl, sym, ◌∙◌, ap, subst, length, arith}
use Rattle.std.specs.Prelude.{slice_get}
use Rattle.std.specs.List.{AllByRecursion, list_any}
use Rattle.std.proofs.lemmas.Bool.Decides.{nat_tests}
use Rattle.std.proofs.lemmas.Option.{slice_get-get_or, slice_get_within}
use Rattle.ft_base.specs.declared.stamps.Stamp.{Stamp}
use Rattle.ft_base.specs.declared.stamps.Stamp.TheVariants.{Acked, Local}
use Rattle.ft_base.specs.Scan.{len, no_run, one_more_if, put_past}
use Rattle.ft_base.specs.Visibility.{has_occurred_at_stage, is_acked}
use Rattle.ft_block.specs.declared.leaves.LenView.TheVariants.{Stage}
use Rattle.ft_block.specs.Leaves.{last_stage}
use Rattle.ft_op.specs.declared.operations.CellOp.{CellOp}
use Rattle.ft_op.specs.declared.operations.CellOp.TheVariants.{SpliceIn, SpliceOut, Set}
use Rattle.ft_op.specs.declared.operations.Target.{Target}
use Rattle.ft_op.specs.declared.operations.Target.TheVariants.{Rows, Cols}
use Rattle.ft_props.specs.Properties.{ValueBytes}
use Rattle.ft_tree_leaves.specs.Elements.{TreeElement, new_elements, removed_stamps, seen_in, with_stamps}
use Rattle.ft_perm.specs.HandleLaws.{length-numbers_from}
use Rattle.ft_perm.specs.Handles.{handles_of}
use Rattle.ft_perm.specs.Vectors.{VectorState, seen_handles}
use Rattle.ft_cells.specs.CellTables.{CellList}
use Rattle.ft_laws_agreement.proofs.AgreedStage.{len-put-add}
use Rattle.ft_laws_agreement.proofs.NumberTests.{from_self}
use Rattle.ft_matrix.specs.declared.grid.Grid.{Grid}
use Rattle.ft_matrix.specs.OwnEdits.{Counts, lengths_after, refusal, seen_units}
use Rattle.ft_matrix.specs.Sides.{units_at, with_units_at}
use Rattle.ft_matrix.specs.Splices.{Inserts, PutsUnits, Removes}
use Rattle.ft_matrix.specs.Units.{units_of}
use Rattle.ft_matrix.proofs.Effects.{above-test}
use Rattle.ft_matrix.proofs.Refusals.{hidden, inside-strict, range-length, turned}
use Rattle.ft_matrix.proofs.ShownGrids.{length-retained}

-- ---- what a stage does is seen from it on

module _ (k m : ℕ) (here : nat_le k m ≡ true) where
  new-count : (hs : List ℕ) → len (seen_in (Stage m)) (new_elements (Local k) None [] hs) ≡ length hs
  new-count [] = refl
  new-count (h ∷ hs) = ap (λ b. one_more_if (b && true) (len (seen_in (Stage m)) (new_elements (Local k) None [] hs))) here ∙ ap suc (new-count hs)

  mark-seen : (ts : List Stamp) → list_any (has_occurred_at_stage m) (put_past is_acked (Local k ∷ []) ts) ≡ true
  mark-seen [] = ap (λ b. b || false) here
  mark-seen (Acked s c ∷ ts) = refl
  mark-seen (Local j ∷ ts) = ap (λ b. b || list_any (has_occurred_at_stage m) (Local j ∷ ts)) here

  marked-hidden : (e : TreeElement ℕ) → seen_in (Stage m) (with_stamps (removed_stamps (Local k)) e) ≡ false
  marked-hidden e = hidden (has_occurred_at_stage m e.stamps.ins) (list_any (has_occurred_at_stage m) (put_past is_acked (Local k ∷ []) e.stamps.dels)) (mark-seen e.stamps.dels)

-- ---- vectors

put-count : (p count k : ℕ) (old new : VectorState) → k ≤ 18446744073709551615 → PutsUnits last_stage no_run (Local k) p count old new
    → seen_units new ≡ seen_units old + count
put-count p count k old new few puts =
    ap (len (seen_in last_stage)) puts.units
    ∙ len-put-add (seen_in last_stage) (seen_in last_stage) no_run p (new_elements (Local k) None [] (handles_of puts.run)) (units_of old)
    ∙ ap (λ n. n + seen_units old) (new-count k 18446744073709551615 (from_self k 18446744073709551615 few) (handles_of puts.run)
    ∙ length-numbers_from puts.run.first puts.run.count ∙ puts.count_is)
    ∙ turned count (seen_units old)

same-tests : (s : TreeElement ℕ → Bool) (es : List (TreeElement ℕ)) → AllByRecursion (λ e. s e ≡ s e) es
same-tests s [] = tt
same-tests s (e ∷ es) = (refl, same-tests s es)

mark-count : (p q k : ℕ) (old new : VectorState) → k ≤ 18446744073709551615 → p ≤ q → Removes last_stage (Local k) p q old new true
    → seen_units new ≡ seen_units old - (q - p)
mark-count p q k old new few l i =
    ap (len (seen_in last_stage)) i.1.units
    ∙ range-length (seen_in last_stage) (seen_in last_stage) (with_stamps (removed_stamps (Local k)))
    (λ e. marked-hidden k 18446744073709551615 (from_self k 18446744073709551615 few) e) p q (units_of old) (same-tests (seen_in last_stage) (units_of old)) l i.0

below-test : (i n : ℕ) → i < n → nat_lt i n ≡ true
below-test i n l = grind (arith, nat_tests)

-- a place has a handle exactly where it is below the number of those seen
handle-below : (v : VectorState) (i h : ℕ) → Some h ≡ slice_get (seen_handles last_stage v.tree) i → nat_lt i (seen_units v) ≡ true
handle-below v i h e = below-test i (seen_units v) (subst (λ n. i < n) (length-retained (seen_in last_stage) (λ (d : TreeElement ℕ). d.unit) (units_of v))
    (slice_get_within (seen_handles last_stage v.tree) i h (sym e)))

none-behind : (v : VectorState) (i : ℕ) → None ≡ slice_get (seen_handles last_stage v.tree) i → nat_lt i (seen_units v) ≡ false
none-behind v i e = step (nat_lt i (seen_units v)) refl
  where
    step : (b : Bool) → nat_lt i (seen_units v) ≡ b → b ≡ false
    step false h = refl
    step true h =
        let l = subst (λ n. i < n) (sym (length-retained (seen_in last_stage) (λ (d : TreeElement ℕ). d.unit) (units_of v))) (inside-strict i (seen_units v) h) in
        cc (e ∙ slice_get-get_or (seen_handles last_stage v.tree) i 0 l)

-- ---- grids

pub insert-counted : (target : Target) (p count k : ℕ) (g : Grid) (v : VectorState) (like : Grid) → k ≤ 18446744073709551615
    → Inserts last_stage no_run (Local k) p count (units_at target g) v true
    → Counts (SpliceIn target p count) g (record (with_units_at target g v) { stages = like.stages }) None
insert-counted Rows p count k g v like few i =
    ap (λ b. cond b (Ok (seen_units g.rows + count, seen_units g.cols)) (Err (seen_units g.rows))) (from_self p (seen_units g.rows) i.0)
    ∙ ap (λ n. Ok (n, seen_units g.cols)) (sym (put-count p count k g.rows v few i.1))
insert-counted Cols p count k g v like few i =
    ap (λ b. cond b (Ok (seen_units g.rows, seen_units g.cols + count)) (Err (seen_units g.cols))) (from_self p (seen_units g.cols) i.0)
    ∙ ap (λ n. Ok (seen_units g.rows, n)) (sym (put-count p count k g.cols v few i.1))

pub insert-uncounted : (target : Target) (p count k m : ℕ) (g : Grid) (v w : VectorState)
    → Inserts last_stage no_run (Local k) p count (units_at target g) v false → w ≡ v
    → m ≡ seen_units w → Counts (SpliceIn target p count) g (with_units_at target g v) (Some m)
insert-uncounted Rows p count k m g v w i e f =
    ap (λ b. cond b (Ok (seen_units g.rows + count, seen_units g.cols)) (Err (seen_units g.rows))) (above-test p (seen_units g.rows) i.0)
    ∙ ap (λ n. Err n) (sym (f ∙ ap seen_units (e ∙ i.1)))
insert-uncounted Cols p count k m g v w i e f =
    ap (λ b. cond b (Ok (seen_units g.rows, seen_units g.cols + count)) (Err (seen_units g.cols))) (above-test p (seen_units g.cols) i.0)
    ∙ ap (λ n. Err n) (sym (f ∙ ap seen_units (e ∙ i.1)))

pub remove-counted : (target : Target) (p q k : ℕ) (g : Grid) (v : VectorState) (like : Grid) → k ≤ 18446744073709551615 → p ≤ q
    → Removes last_stage (Local k) p q (units_at target g) v true
    → Counts (SpliceOut target p q) g (record (with_units_at target g v) { stages = like.stages }) None
remove-counted Rows p q k g v like few l i =
    ap (λ b. cond b (Ok (seen_units g.rows - (q - p), seen_units g.cols)) (Err (seen_units g.rows))) (from_self q (seen_units g.rows) i.0)
    ∙ ap (λ n. Ok (n, seen_units g.cols)) (sym (mark-count p q k g.rows v few l i))
remove-counted Cols p q k g v like few l i =
    ap (λ b. cond b (Ok (seen_units g.rows, seen_units g.cols - (q - p))) (Err (seen_units g.cols))) (from_self q (seen_units g.cols) i.0)
    ∙ ap (λ n. Ok (seen_units g.rows, n)) (sym (mark-count p q k g.cols v few l i))

pub remove-uncounted : (target : Target) (p q k m : ℕ) (g : Grid) (v w : VectorState) → Removes last_stage (Local k) p q (units_at target g) v false → w ≡ v
    → m ≡ seen_units w → Counts (SpliceOut target p q) g (with_units_at target g v) (Some m)
remove-uncounted Rows p q k m g v w i e f =
    ap (λ b. cond b (Ok (seen_units g.rows - (q - p), seen_units g.cols)) (Err (seen_units g.rows))) (above-test q (seen_units g.rows) i.0)
    ∙ ap (λ n. Err n) (sym (f ∙ ap seen_units (e ∙ i.1)))
remove-uncounted Cols p q k m g v w i e f =
    ap (λ b. cond b (Ok (seen_units g.rows, seen_units g.cols - (q - p))) (Err (seen_units g.cols))) (above-test q (seen_units g.cols) i.0)
    ∙ ap (λ n. Err n) (sym (f ∙ ap seen_units (e ∙ i.1)))

module _ (i j : ℕ) (value : ValueBytes) (g : Grid) where
  -- what a write makes of the numbers, by whether its row and its column are there
  tested : (a b : Bool) → nat_lt i (seen_units g.rows) ≡ a → nat_lt j (seen_units g.cols) ≡ b
      → lengths_after (seen_units g.rows) (seen_units g.cols) (Set i j value)
      ≡ cond a (cond b (Ok (seen_units g.rows, seen_units g.cols)) (Err (seen_units g.cols))) (Err (seen_units g.rows))
  tested a b h l =
      ap (λ c. cond c (cond (nat_lt j (seen_units g.cols)) (Ok (seen_units g.rows, seen_units g.cols)) (Err (seen_units g.cols))) (Err (seen_units g.rows))) h
      ∙ ap (λ c. cond a (cond c (Ok (seen_units g.rows, seen_units g.cols)) (Err (seen_units g.cols))) (Err (seen_units g.rows))) l

  pub write-counted : (a b : ℕ) (table : CellList) (like : Grid) → Some a ≡ slice_get (seen_handles last_stage g.rows.tree) i
      → Some b ≡ slice_get (seen_handles last_stage g.cols.tree) j → Counts (Set i j value) g (record g { cells = table; stages = like.stages }) None
  write-counted a b table like row col = tested true true (handle-below g.rows i a row) (handle-below g.cols j b col)

  pub row-uncounted : (m : ℕ) → None ≡ slice_get (seen_handles last_stage g.rows.tree) i → m ≡ seen_units g.rows → Counts (Set i j value) g g (Some m)
  row-uncounted m row e = tested false (nat_lt j (seen_units g.cols)) (none-behind g.rows i row) refl ∙ ap (λ n. Err n) (sym e)

  pub col-uncounted : (m a : ℕ) → Some a ≡ slice_get (seen_handles last_stage g.rows.tree) i
      → None ≡ slice_get (seen_handles last_stage g.cols.tree) j → m ≡ seen_units g.cols
      → Counts (Set i j value) g g (Some m)
  col-uncounted m a row col e = tested true false (handle-below g.rows i a row) (none-behind g.cols j col) ∙ ap (λ n. Err n) (sym e)

-- ---- a group of which no operation is out of range

-- with what the operations are refused, if one before them makes this of the numbers
abbrev refusal_behind : List CellOp → Result (ℕ × ℕ) ℕ → Option ℕ
refusal_behind ops after = elim after [ Err n ↦ Some n | Ok lengths ↦ refusal lengths.0 lengths.1 ops ]

pub first-within : (r c n : ℕ) (op : CellOp) (ops : List CellOp) → refusal r c (op ∷ ops) ≡ None → lengths_after r c op ≡ Err n → ⊥
first-within r c n op ops h e = cc (sym (ap (refusal_behind ops) e) ∙ h)

pub rest-within : (r c rows cols : ℕ) (op : CellOp) (ops : List CellOp) → refusal r c (op ∷ ops) ≡ None
    → lengths_after r c op ≡ Ok (rows, cols) → refusal rows cols ops ≡ None
rest-within r c rows cols op ops h e = sym (ap (refusal_behind ops) e) ∙ h
