-- A grid stays sound where its lowest pending stage is sequenced.
use Rattle.std.proofs.Common.{◌≡◌, ℕ, ◌+◌, ◌≤◌, ◌<◌, All, Bool, true, false, cond, not, ◌&&◌, nat_eq, List, [], ◌∷◌, ◌++◌, Option, Some, None, refl, sym, ◌∙◌, ap, subst, filter, map, arith}
use Rattle.std.specs.List.{AllByRecursion}
use Rattle.std.proofs.lemmas.Bool.Decides.{nat_tests}
use Rattle.std.proofs.lemmas.List.Elements.{All-from_recursion, recursion_from_All}
use Rattle.ft_op.specs.declared.operations.CellOp.{CellOp}
use Rattle.ft_op.specs.declared.operations.CellOp.TheVariants.{SpliceIn, SpliceOut, Set}
use Rattle.ft_props.specs.Properties.{ValueBytes}
use Rattle.ft_cells.specs.CellTables.{CellState, acked_write, cell_at}
use Rattle.ft_laws_agreement.proofs.NumberTests.{same_number}
use Rattle.ft_matrix.specs.declared.grid.Grid.{Grid}
use Rattle.ft_matrix.specs.declared.stages.GridStage.{GridStage}
use Rattle.ft_matrix.specs.GridStates.{shown_stage}
use Rattle.ft_matrix.specs.Acked.{AcksStage, CountsUnits, acked_stage, after_stage, cols_put_by, rows_put_by}
use Rattle.ft_matrix.proofs.PendingStages.{acked-pending}
use Rattle.ft_matrix.specs.Splices.{AcksUnits}
use Rattle.ft_matrix.specs.Sound.{IsSound, IsSoundVector, StagesRise, is_handle, write_of, writes_to}

-- ---- pending writes

other-stage : (n k : ℕ) → k < n → nat_eq n k ≡ false
other-stage n k l = grind (arith, nat_tests)

higher-stage : (n k : ℕ) → k ≤ n → nat_eq n k ≡ false → k < n
higher-stage n k l e = grind (arith, nat_tests)

-- the writes but those of stage k
abbrev pub without : ℕ → List (ℕ × ValueBytes) → List (ℕ × ValueBytes)
without k ws = filter (λ w. not (nat_eq w.0 k)) ws

written : (k n : ℕ) (value : ValueBytes) (b : Bool) (ws : List (ℕ × ValueBytes)) → nat_eq n k ≡ false
    → without k (cond b ((n, value) ∷ []) [] ++ ws) ≡ cond b ((n, value) ∷ []) [] ++ without k ws
written k n value true ws e = ap (λ c. cond (not c) ((n, value) ∷ without k ws) (without k ws)) e
written k n value false ws e = refl

dropped : (k n : ℕ) (value : ValueBytes) (b : Bool) (ws : List (ℕ × ValueBytes)) → nat_eq n k ≡ true
    → without k (cond b ((n, value) ∷ []) [] ++ ws) ≡ without k ws
dropped k n value true ws e = ap (λ c. cond (not c) ((n, value) ∷ without k ws) (without k ws)) e
dropped k n value false ws e = refl

module _ (row col k : ℕ) where
  one-kept : (t : GridStage) (ws : List (ℕ × ValueBytes)) → nat_eq t.stage k ≡ false → without k (write_of row col t ++ ws) ≡ write_of row col t ++ without k ws
  one-kept t ws e = by t.op
    where
      by : (op : CellOp) → without k (write_of row col (record t { op = op }) ++ ws) ≡ write_of row col (record t { op = op }) ++ without k ws
      by (SpliceIn list p count) = refl
      by (SpliceOut list p q) = refl
      by (Set i j value) = written k t.stage value (is_handle row t.row && is_handle col t.col) ws e

  one-dropped : (t : GridStage) (ws : List (ℕ × ValueBytes)) → nat_eq t.stage k ≡ true → without k (write_of row col t ++ ws) ≡ without k ws
  one-dropped t ws e = by t.op
    where
      by : (op : CellOp) → without k (write_of row col (record t { op = op }) ++ ws) ≡ without k ws
      by (SpliceIn list p count) = refl
      by (SpliceOut list p q) = refl
      by (Set i j value) = dropped k t.stage value (is_handle row t.row && is_handle col t.col) ws e

  later-kept : (low : ℕ) (stages : List GridStage) → k ≤ low → StagesRise low stages → without k (writes_to row col stages) ≡ writes_to row col stages
  later-kept low [] l r = refl
  later-kept low (t ∷ stages) l r =
      one-kept t (writes_to row col stages) (other-stage t.stage k (omega arith)) ∙ ap (λ ws. write_of row col t ++ ws) (later-kept t.stage stages (omega arith) r.1)

  pub writes-after : (stages : List GridStage) → AllByRecursion (λ (t : GridStage). k ≤ t.stage) stages → StagesRise 0 stages
      → without k (writes_to row col stages) ≡ writes_to row col (after_stage k stages)
  writes-after [] a r = refl
  writes-after (t ∷ stages) a r = step (nat_eq t.stage k) refl
    where
      step : (b : Bool) → nat_eq t.stage k ≡ b → without k (write_of row col t ++ writes_to row col stages) ≡ writes_to row col (cond b stages (t ∷ stages))
      step true e = one-dropped t (writes_to row col stages) e
          ∙ later-kept t.stage stages (let s = same_number t.stage k e in omega arith) r.1
      step false e = one-kept t (writes_to row col stages) e ∙ ap (λ ws. write_of row col t ++ ws) (later-kept t.stage stages a.0 r.1)

-- ---- the stages left

lower-rise : (low : ℕ) (stages : List GridStage) → StagesRise low stages → StagesRise 0 stages
lower-rise low [] r = tt
lower-rise low (t ∷ stages) r = (omega arith, r.1)

pub rise-after : (k : ℕ) (stages : List GridStage) → StagesRise 0 stages → StagesRise 0 (after_stage k stages)
rise-after k [] r = tt
rise-after k (t ∷ stages) r = step (nat_eq t.stage k)
  where
    step : (b : Bool) → StagesRise 0 (cond b stages (t ∷ stages))
    step true = lower-rise t.stage stages r.1
    step false = r

rise-above : (k low : ℕ) (stages : List GridStage) → k ≤ low → StagesRise low stages → AllByRecursion (λ (t : GridStage). k + 1 ≤ t.stage) stages
rise-above k low [] l r = tt
rise-above k low (t ∷ stages) l r = (omega arith, rise-above k t.stage stages (omega arith) r.1)

above-after : (k : ℕ) (stages : List GridStage) → AllByRecursion (λ (t : GridStage). k ≤ t.stage) stages → StagesRise 0 stages
    → AllByRecursion (λ (t : GridStage). k + 1 ≤ t.stage) (after_stage k stages)
above-after k [] a r = tt
above-after k (t ∷ stages) a r = step (nat_eq t.stage k) refl
  where
    step : (b : Bool) → nat_eq t.stage k ≡ b → AllByRecursion (λ (t : GridStage). k + 1 ≤ t.stage) (cond b stages (t ∷ stages))
    step true e = rise-above k t.stage stages (let s = same_number t.stage k e in omega arith) r.1
    step false e = (let h = higher-stage t.stage k a.0 e in omega arith, rise-above k t.stage stages a.0 r.1)

-- ---- the grid

module _ (k s c : ℕ) (old new : Grid) (sound : IsSound old) (lowest : All (λ (t : GridStage). k ≤ t.stage) old.stages.items)
    (acks : AcksStage k s c old new) where
  pub acked-lowest : All (λ (t : GridStage). k + 1 ≤ t.stage) new.stages.items
  acked-lowest = All-from_recursion (λ (t : GridStage). k + 1 ≤ t.stage) new.stages.items
      (subst (AllByRecursion (λ (t : GridStage). k + 1 ≤ t.stage)) (sym acks.stages)
      (above-after k old.stages.items (recursion_from_All (λ (t : GridStage). k ≤ t.stage) old.stages.items lowest) sound.rise))

  pub acked-sound : IsSoundVector new.rows → IsSoundVector new.cols → IsSound new
  acked-sound rows cols = record {
    rows = rows;
    cols = cols;
    floors = acks.cols.floor ∙ sound.floors ∙ sym acks.rows.floor;
    held = record {
      rows = λ r g u. acks.cells r g ∙ ap (acked_write k) (sound.held.rows r g (sym (acks.rows.used r) ∙ u));
      cols = λ r g u. acks.cells r g ∙ ap (acked_write k) (sound.held.cols r g (sym (acks.cols.used g) ∙ u));
    };
    writes = λ r g. ap (λ (x : CellState). x.pending) (acks.cells r g) ∙ ap (without k) (sound.writes r g)
        ∙ writes-after r g k old.stages.items (recursion_from_All (λ (t : GridStage). k ≤ t.stage) old.stages.items lowest) sound.rise
        ∙ ap (writes_to r g) (sym acks.stages);
    rise = subst (StagesRise 0) (sym acks.stages) (rise-after k old.stages.items sound.rise);
    pending_rows = acked-pending k s c old.stages.items new.stages.items old.rows new.rows acks.stages
        (recursion_from_All (λ (t : GridStage). k ≤ t.stage) old.stages.items lowest) acks.rows sound.pending_rows;
    pending_cols = acked-pending k s c old.stages.items new.stages.items old.cols new.cols acks.stages
        (recursion_from_All (λ (t : GridStage). k ≤ t.stage) old.stages.items lowest) acks.cols sound.pending_cols;
  }

-- ---- what the parts of the call make of it

plus-none : (n m : ℕ) → m ≡ 0 → n ≡ n + m
plus-none n m e = omega arith

module _ (k s c : ℕ) (old before mid : Grid) (front : before.stages.items ≡ old.stages.items) (rows_made : before.rows_made ≡ old.rows_made)
    (cols_made : before.cols_made ≡ old.cols_made) (rows : AcksUnits k s c old.rows before.rows) (cols : AcksUnits k s c old.cols before.cols)
    (cells : (r g : ℕ) → cell_at before.cells r g ≡ acked_write k (cell_at old.cells r g)) (sound : IsSound old)
    (lowest : All (λ (t : GridStage). k ≤ t.stage) old.stages.items) (row-sound : IsSoundVector before.rows) (col-sound : IsSoundVector before.cols)
    (rest : mid ≡ record before { stages = mid.stages }) (stages : mid.stages.items ≡ after_stage k before.stages.items) where
  counted : (t : Option GridStage) (new : Grid) → t ≡ acked_stage k before.stages.items
      → new ≡ record mid { rows_made = new.rows_made; cols_made = new.cols_made }
      → new.rows_made ≡ mid.rows_made + rows_put_by t → new.cols_made ≡ mid.cols_made + cols_put_by t → AcksStage k s c old new
  counted t new taken after r g = record {
    rows = subst (AcksUnits k s c old.rows) (sym (ap (λ (x : Grid). x.rows) after ∙ ap (λ (x : Grid). x.rows) rest)) rows;
    cols = subst (AcksUnits k s c old.cols) (sym (ap (λ (x : Grid). x.cols) after ∙ ap (λ (x : Grid). x.cols) rest)) cols;
    cells = λ i j. ap (λ x. cell_at x i j) (ap (λ (x : Grid). x.cells) after ∙ ap (λ (x : Grid). x.cells) rest) ∙ cells i j;
    stages = ap (λ (x : Grid). x.stages.items) after ∙ stages ∙ ap (after_stage k) front;
    rows_made = r ∙ ap (λ n. n + rows_put_by t) (ap (λ (x : Grid). x.rows_made) rest ∙ rows_made) ∙ ap (λ u. old.rows_made + rows_put_by u) (taken ∙ ap (acked_stage k) front);
    cols_made = g ∙ ap (λ n. n + cols_put_by t) (ap (λ (x : Grid). x.cols_made) rest ∙ cols_made) ∙ ap (λ u. old.cols_made + cols_put_by u) (taken ∙ ap (acked_stage k) front);
  }

  counted-sound : (new : Grid) → new ≡ record mid { rows_made = new.rows_made; cols_made = new.cols_made } → AcksStage k s c old new → IsSound new
  counted-sound new after a = acked-sound k s c old new sound lowest a
      (subst IsSoundVector (sym (ap (λ (x : Grid). x.rows) after ∙ ap (λ (x : Grid). x.rows) rest)) row-sound)
      (subst IsSoundVector (sym (ap (λ (x : Grid). x.cols) after ∙ ap (λ (x : Grid). x.cols) rest)) col-sound)

  pub some-acked : (t : GridStage) (new : Grid) → Some t ≡ acked_stage k before.stages.items → CountsUnits t.op mid new
      → IsSound new × All (λ (t : GridStage). k + 1 ≤ t.stage) new.stages.items
  some-acked t new taken n =
      let a = counted (Some t) new taken n.rest n.rows_made n.cols_made in
      (counted-sound new n.rest a, acked-lowest k s c old new sound lowest a)

  pub none-acked : None ≡ acked_stage k before.stages.items → IsSound mid × All (λ (t : GridStage). k + 1 ≤ t.stage) mid.stages.items
  none-acked taken =
      let a = counted None mid taken refl (plus-none mid.rows_made 0 refl) (plus-none mid.cols_made 0 refl) in
      (counted-sound mid refl a, acked-lowest k s c old mid sound lowest a)

-- ---- stages as they are seen

all-back : {A B : Type 0} (P : B → Type 0) (f : A → B) (xs : List A) → AllByRecursion P (map f xs) → AllByRecursion (λ x. P (f x)) xs
all-back P f [] a = tt
all-back P f (x ∷ xs) a = (a.0, all-back P f xs a.1)

pub lowest-stages : (k : ℕ) (g : Grid) → All (λ t. k ≤ t.stage) (map (shown_stage g.rows g.cols) g.stages.items)
    → All (λ (t : GridStage). k ≤ t.stage) g.stages.items
lowest-stages k g a = All-from_recursion (λ (t : GridStage). k ≤ t.stage) g.stages.items
    (all-back (λ t. k ≤ t.stage) (shown_stage g.rows g.cols) g.stages.items (recursion_from_All (λ t. k ≤ t.stage) (map (shown_stage g.rows g.cols) g.stages.items) a))
