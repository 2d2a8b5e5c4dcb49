-- A grid whose due stages were sent again: it stays sound, and holds the document with the stages that go on.
use Rattle.std.proofs.Common.{◌≡◌, ℕ, zero, suc, ◌+◌, ◌≤◌, ◌<◌, Bool, true, false, cond, ◌&&◌, nat_le, nat_lt, List, [], ◌∷◌, ◌++◌, refl, sym, ◌∙◌, ap, subst, map, flat_map, arith, append_assoc, append-nil}
use Rattle.std.specs.List.{AllByRecursion, list_all}
use Rattle.ft_base.proofs.Booleans.{both}
use Rattle.std.proofs.lemmas.Bool.Decides.{nat_tests}
use Rattle.std.proofs.lemmas.List.Elements.{recursion_from_All}
use Rattle.ft_base.proofs.ScanLaws.{retain_map-append}
use Rattle.ft_op.specs.declared.operations.CellOp.{CellOp}
use Rattle.ft_op.specs.Document.{Document}
use Rattle.ft_op.specs.Intervals.{NamedElements}
use Rattle.ft_op.specs.Operation.{OnGrid, OnIntervals, OnText, SubOperation}
use Rattle.ft_op.specs.Pieces.{grid_pieces, pieces}
use Rattle.ft_op.specs.Stages.{Stage}
use Rattle.ft_props.specs.Properties.{ValueBytes}
use Rattle.ft_msg.specs.Indexed.{IndexedStage, indexed_stage}
use Rattle.ft_msg.specs.Reconnection.{carried_stage}
use Rattle.ft_tree_leaves.specs.Elements.{TreeElement}
use Rattle.ft_perm.specs.Handles.{numbers_from}
use Rattle.ft_perm.specs.Vectors.{VectorState, in_use}
use Rattle.ft_cells.specs.CellTables.{CellState, cell_at, empty_cell}
use Rattle.ft_laws_agreement.specs.Sequencing.{is_grid_stage}
use Rattle.ft_laws_names.specs.GridFacts.{grid_stages}
use Rattle.ft_laws_names.specs.WellNamed.{AreNamedBefore, AreStagesNamed, AreThere, RiseTo}
use Rattle.ft_laws_names.proofs.Beside.{beside-more}
use Rattle.ft_named.proofs.Lists.{map-append}
use Rattle.ft_matrix.specs.declared.grid.Grid.{Grid}
use Rattle.ft_matrix.specs.declared.stages.GridStage.{GridStage}
use Rattle.ft_matrix.specs.Applied.{Holds}
use Rattle.ft_matrix.specs.Conditions.{AreNext, AreWithin}
use Rattle.ft_matrix.specs.GridStates.{grid_state, shown_stage}
use Rattle.ft_matrix.specs.HoldsGrid.{HoldsGrid}
use Rattle.ft_matrix.specs.Resubmitted.{AreDue, Resubmits, due_pieces, is_due, kept_stage, stage_pieces, stages_after}
use Rattle.ft_matrix.specs.Sound.{ArePending, IsSound, IsSoundVector, StagesRise, write_of, writes_to}
use Rattle.ft_matrix.specs.Units.{acked_value, placed_cells, shown_units, unit_value, units_of}
use Rattle.ft_matrix.proofs.PendingStages.{fewer-stages}
use Rattle.ft_matrix.proofs.Effects.{units}
use Rattle.ft_matrix.proofs.HeldGrids.{HoldsUnits, units-held}

-- ---- stages beside one another

-- a stage of the document as it goes on where its number is due, and what is sent of it
abbrev pub after_stage : ℕ → ℕ → Document → Stage → List Stage
after_stage first count doc t = cond (is_due first count t.stage) (carried_stage doc t) (t ∷ [])

abbrev pub sent_of : ℕ → ℕ → Document → Stage → List SubOperation
sent_of first count doc t = cond (is_due first count t.stage) (pieces doc t) []

module _ (first count : ℕ) (doc : Document) (rows cols : VectorState)
    (same : (k : ℕ) (op : CellOp) (n : NamedElements) (u : GridStage) → AreThere doc (OnGrid op) n → AreNamedBefore k (OnGrid op) n
    → indexed_stage doc (record { stage = k; sub_operation = OnGrid op; names = n }) ≡ shown_stage rows cols u
    → map (λ p. OnGrid p) (stage_pieces (units_of rows) (units_of cols) u) ≡ grid_pieces k doc n op) where
  -- a stage goes on where its item does
  one-after : (k : ℕ) (op : CellOp) (n : NamedElements) (u : GridStage) (ops : List CellOp) (ps : List SubOperation) → map (λ p. OnGrid p) ops ≡ ps
      → indexed_stage doc (record { stage = k; sub_operation = OnGrid op; names = n }) ≡ shown_stage rows cols u
      → grid_stages doc (elim ps as (λ _. List Stage) [ [] ↦ [] | _ ∷ _ ↦ record { stage = k; sub_operation = OnGrid op; names = n } ∷ [] ])
      ≡ map (shown_stage rows cols) (elim ops as (λ _. List GridStage) [ [] ↦ [] | _ ∷ _ ↦ u ∷ [] ])
  one-after k op n u [] [] e h = refl
  one-after k op n u [] (p ∷ ps) e h = cc e
  one-after k op n u (o ∷ ops) [] e h = cc e
  one-after k op n u (o ∷ ops) (p ∷ ps) e h = ap (λ s. s ∷ []) h

  text-after : (k : ℕ) (o : SubOperation) (n : NamedElements) → is_grid_stage (record { stage = k; sub_operation = o; names = n }) ≡ false
      → grid_stages doc (after_stage first count doc (record { stage = k; sub_operation = o; names = n })) ≡ []
  text-after k (OnGrid op) n h = cc h
  text-after k (OnIntervals op) n h = step (is_due first count k)
    where
      step : (b : Bool) → grid_stages doc (cond b (carried_stage doc (record { stage = k; sub_operation = OnIntervals op; names = n })) (record { stage = k; sub_operation = OnIntervals op; names = n } ∷ [])) ≡ []
      step true = refl
      step false = refl
  text-after k (OnText op) n h = step (is_due first count k) (pieces doc (record { stage = k; sub_operation = OnText op; names = n }))
    where
      step : (b : Bool) (ps : List SubOperation)
          → grid_stages doc (cond b (elim ps as (λ _. List Stage) [ [] ↦ [] | _ ∷ _ ↦ record { stage = k; sub_operation = OnText op; names = n } ∷ [] ]) (record { stage = k; sub_operation = OnText op; names = n } ∷ [])) ≡ []
      step true [] = refl
      step true (p ∷ ps) = refl
      step false ps = refl

  grid-after : (k : ℕ) (op : CellOp) (n : NamedElements) (u : GridStage) → AreThere doc (OnGrid op) n → AreNamedBefore k (OnGrid op) n
      → indexed_stage doc (record { stage = k; sub_operation = OnGrid op; names = n }) ≡ shown_stage rows cols u
      → grid_stages doc (after_stage first count doc (record { stage = k; sub_operation = OnGrid op; names = n }))
      ≡ map (shown_stage rows cols) (cond (is_due first count u.stage) (kept_stage (units_of rows) (units_of cols) u) (u ∷ []))
  grid-after k op n u there before h = ap (λ j. grid_stages doc (cond (is_due first count j) (carried_stage doc (record { stage = k; sub_operation = OnGrid op; names = n }))
      (record { stage = k; sub_operation = OnGrid op; names = n } ∷ []))) (ap (λ (s : IndexedStage). s.stage) h) ∙ step (is_due first count u.stage)
    where
      step : (b : Bool) → grid_stages doc (cond b (carried_stage doc (record { stage = k; sub_operation = OnGrid op; names = n })) (record { stage = k; sub_operation = OnGrid op; names = n } ∷ []))
          ≡ map (shown_stage rows cols) (cond b (kept_stage (units_of rows) (units_of cols) u) (u ∷ []))
      step true = one-after k op n u (stage_pieces (units_of rows) (units_of cols) u) (grid_pieces k doc n op) (same k op n u there before h) h
      step false = ap (λ s. s ∷ []) h

  pub stages-go-on : (stages : List Stage) (items : List GridStage) → AreStagesNamed doc stages → grid_stages doc stages ≡ map (shown_stage rows cols) items
      → grid_stages doc (flat_map (after_stage first count doc) stages)
      ≡ map (shown_stage rows cols) (stages_after first count (units_of rows) (units_of cols) items)
  stages-go-on [] [] n e = refl
  stages-go-on [] (u ∷ us) n e = cc e
  stages-go-on (t ∷ stages) items n e =
      retain_map-append is_grid_stage (indexed_stage doc) (after_stage first count doc t) (flat_map (after_stage first count doc) stages)
      ∙ step t.stage t.sub_operation t.names items n.0 e (λ us g. stages-go-on stages us n.1 g)
    where
      step : (k : ℕ) (o : SubOperation) (names : NamedElements) (us : List GridStage) → AreThere doc o names × AreNamedBefore k o names
          → grid_stages doc (record { stage = k; sub_operation = o; names = names } ∷ stages) ≡ map (shown_stage rows cols) us
          → ((vs : List GridStage) → grid_stages doc stages ≡ map (shown_stage rows cols) vs
          → grid_stages doc (flat_map (after_stage first count doc) stages)
          ≡ map (shown_stage rows cols) (stages_after first count (units_of rows) (units_of cols) vs))
          → grid_stages doc (after_stage first count doc (record { stage = k; sub_operation = o; names = names }))
          ++ grid_stages doc (flat_map (after_stage first count doc) stages)
          ≡ map (shown_stage rows cols) (stages_after first count (units_of rows) (units_of cols) us)
      step k (OnText op) names us th g ih = ap (λ ss. ss ++ grid_stages doc (flat_map (after_stage first count doc) stages)) (text-after k (OnText op) names refl) ∙ ih us g
      step k (OnIntervals op) names us th g ih = ap (λ ss. ss ++ grid_stages doc (flat_map (after_stage first count doc) stages)) (text-after k (OnIntervals op) names refl) ∙ ih us g
      step k (OnGrid op) names [] th g ih = cc g
      step k (OnGrid op) names (u ∷ us) th g ih =
          let here : indexed_stage doc (record { stage = k; sub_operation = OnGrid op; names = names }) ≡ shown_stage rows cols u = cc g in
          let rest : grid_stages doc stages ≡ map (shown_stage rows cols) us = cc g in
          ap (λ ss. ss ++ grid_stages doc (flat_map (after_stage first count doc) stages)) (grid-after k op names u th.0 th.1 here)
          ∙ ap (λ ss. map (shown_stage rows cols) (cond (is_due first count u.stage) (kept_stage (units_of rows) (units_of cols) u) (u ∷ [])) ++ ss) (ih us rest)
          ∙ sym (map-append (shown_stage rows cols) (cond (is_due first count u.stage) (kept_stage (units_of rows) (units_of cols) u) (u ∷ [])) (stages_after first count (units_of rows) (units_of cols) us))

-- ---- the stages of one edit are those that are due

pub before-due : (first count k : ℕ) → k < first → is_due first count k ≡ false
before-due first count k l = step (nat_le first k) refl
  where
    step : (b : Bool) → nat_le first k ≡ b → b && nat_lt k (first + count) ≡ false
    step true e = grind (arith, nat_tests)
    step false e = refl

pub behind-due : (first count k : ℕ) → first + count ≤ k → is_due first count k ≡ false
behind-due first count k l = step (nat_lt k (first + count)) refl (nat_le first k)
  where
    step : (b : Bool) → nat_lt k (first + count) ≡ b → (c : Bool) → c && b ≡ false
    step true e c = grind (arith, nat_tests)
    step false e true = refl
    step false e false = refl

mine-due : (first count k : ℕ) → first ≤ k → k < first + count → is_due first count k ≡ true
mine-due first count k a b = rw (low, high) refl
  where
    low : nat_le first k ≡ true
    low = grind (arith, nat_tests)

    high : nat_lt k (first + count) ≡ true
    high = grind (arith, nat_tests)

module _ (first count : ℕ) where
  abbrev AreDueStages : List Stage → Type 0
  AreDueStages ts = AllByRecursion (λ (t : Stage). is_due first count t.stage ≡ true) ts

  abbrev AreOtherStages : List Stage → Type 0
  AreOtherStages ts = AllByRecursion (λ (t : Stage). is_due first count t.stage ≡ false) ts

  -- ---- by the numbers of all stages of the edit

  others-behind : (low last : ℕ) (rest : List Stage) → first + count ≤ low + 1 → RiseTo low last rest → AreOtherStages rest
  others-behind low last [] l r = tt
  others-behind low last (t ∷ rest) l r =
      (behind-due first count t.stage (let up = r.0 in omega (arith, l, up)), others-behind t.stage last rest (let up = r.0 in omega (arith, l, up)) r.1)

  due-run : (low last f n : ℕ) (mine rest : List Stage) → first ≤ f → f + n ≡ first + count → (n ≡ 0 → f ≤ low + 1) → RiseTo low last (mine ++ rest)
      → map (λ (t : Stage). t.stage) mine ≡ numbers_from f n → AreDueStages mine × AreOtherStages rest
  due-run low last f zero [] rest a e z r m = (tt, others-behind low last rest (let u = z refl in omega (arith, e, u)) r)
  due-run low last f (suc n) [] rest a e z r m = cc m
  due-run low last f zero (t ∷ mine) rest a e z r m = cc m
  due-run low last f (suc n) (t ∷ mine) rest a e z r m =
      let here : t.stage ≡ f = cc m in
      let others : map (λ (u : Stage). u.stage) mine ≡ numbers_from (f + 1) n = cc m in
      let more = due-run t.stage last (f + 1) n mine rest (omega (arith, a)) (omega (arith, e)) (λ q. omega (arith, here)) r.1 others in
      ((mine-due first count t.stage (omega (arith, here, a)) (omega (arith, here, e)), more.0), more.1)

  -- the first of them is above all before it
  first-above : (low last n : ℕ) (before mine rest : List Stage) → 1 ≤ n → RiseTo low last (before ++ (mine ++ rest))
      → map (λ (t : Stage). t.stage) mine ≡ numbers_from first n → low < first
  first-above low last zero before mine rest l r m = absurd (omega (arith, l))
  first-above low last (suc n) [] [] rest l r m = cc m
  first-above low last (suc n) [] (t ∷ mine) rest l r m = let here : t.stage ≡ first = cc m in let up = r.0 in omega (arith, here, up)
  first-above low last (suc n) (t ∷ before) mine rest l r m =
      let up = r.0 in let above = first-above t.stage last (suc n) before mine rest l r.1 m in omega (arith, up, above)

  numbers-from : (low last : ℕ) (before mine rest : List Stage) → 1 ≤ count → RiseTo low last (before ++ (mine ++ rest))
      → map (λ (t : Stage). t.stage) mine ≡ numbers_from first count → AreDue first count before mine rest
  numbers-from low last [] mine rest l r m =
      let d = due-run low last first count mine rest (omega arith) refl (λ q. absurd (omega (arith, q, l))) r m in
      record { front = tt; due = d.0; behind = d.1 }
  numbers-from low last (t ∷ before) mine rest l r m =
      let d = numbers-from t.stage last before mine rest l r.1 m in
      record { front = (before-due first count t.stage (first-above t.stage last count before mine rest l r.1 m), d.front); due = d.due; behind = d.behind }

  pub numbers-due : (last : ℕ) (before mine rest : List Stage) → 1 ≤ count → RiseTo 0 last (before ++ (mine ++ rest))
      → map (λ (t : Stage). t.stage) mine ≡ numbers_from first count → AreDue first count before mine rest
  numbers-due last before mine rest l r m = numbers-from 0 last before mine rest l r m

  -- ---- by their range

  weaker : {P Q : Stage → Type 0} → ((t : Stage) → P t → Q t) → (ts : List Stage) → AllByRecursion P ts → AllByRecursion Q ts
  weaker f [] h = tt
  weaker f (t ∷ ts) h = (f t h.0, weaker f ts h.1)

  pub next-due : (before mine rest : List Stage) → AreNext first (first + count) before mine rest → AreDue first count before mine rest
  next-due before mine rest n = record {
    front = weaker (λ t l. before-due first count t.stage l) before (recursion_from_All (λ (t : Stage). t.stage < first) before n.front);
    due = weaker (λ t w. mine-due first count t.stage w.0 w.1) mine
        (recursion_from_All (λ (t : Stage). (first ≤ t.stage) × (t.stage < first + count) × (is_grid_stage t ≡ true)) mine n.within);
    behind = weaker (λ t l. behind-due first count t.stage l) rest (recursion_from_All (λ (t : Stage). first + count ≤ t.stage) rest n.behind);
  }

  pub within-grid : (mine : List Stage) → AreWithin first (first + count) mine → list_all is_grid_stage mine ≡ true
  within-grid mine w = all mine (recursion_from_All (λ (t : Stage). (first ≤ t.stage) × (t.stage < first + count) × (is_grid_stage t ≡ true)) mine w)
    where
      all : (ts : List Stage) → AllByRecursion (λ (t : Stage). (first ≤ t.stage) × (t.stage < first + count) × (is_grid_stage t ≡ true)) ts → list_all is_grid_stage ts ≡ true
      all [] h = refl
      all (t ∷ ts) h = rw (h.0.2, all ts h.1) refl

  pub none-within : (mine : List Stage) → count ≡ 0 → AreWithin first (first + count) mine → mine ≡ []
  none-within mine e w = by mine (recursion_from_All (λ (t : Stage). (first ≤ t.stage) × (t.stage < first + count) × (is_grid_stage t ≡ true)) mine w)
    where
      by : (ts : List Stage) → AllByRecursion (λ (t : Stage). (first ≤ t.stage) × (t.stage < first + count) × (is_grid_stage t ≡ true)) ts → ts ≡ []
      by [] h = refl
      by (t ∷ ts) h = (let low = h.0.0 in let high = h.0.1 in absurd (omega (arith, e, low, high)))

module _ {B : Type 0} (first count : ℕ) (due other : Stage → List B) where
  -- what is made of a stage by whether it is due
  abbrev by_due : Stage → List B
  by_due t = cond (is_due first count t.stage) (due t) (other t)

  flat-behind : (rest : List Stage) → AreOtherStages first count rest → flat_map by_due rest ≡ flat_map other rest
  flat-behind [] d = refl
  flat-behind (t ∷ rest) d = ap (λ b. cond b (due t) (other t) ++ flat_map by_due rest) d.0 ∙ ap (λ bs. other t ++ bs) (flat-behind rest d.1)

  flat-mine : (mine rest : List Stage) → AreDueStages first count mine → AreOtherStages first count rest
      → flat_map by_due (mine ++ rest) ≡ flat_map due mine ++ flat_map other rest
  flat-mine [] rest d b = flat-behind rest b
  flat-mine (t ∷ mine) rest d b =
      ap (λ c. cond c (due t) (other t) ++ flat_map by_due (mine ++ rest)) d.0 ∙ ap (λ bs. due t ++ bs) (flat-mine mine rest d.1 b)
      ∙ sym (append_assoc (due t) (flat_map due mine) (flat_map other rest))

  flat-parts : (before mine rest : List Stage) → AreOtherStages first count before → AreDueStages first count mine → AreOtherStages first count rest
      → flat_map by_due (before ++ (mine ++ rest)) ≡ flat_map other before ++ (flat_map due mine ++ flat_map other rest)
  flat-parts [] mine rest f d b = flat-mine mine rest d b
  flat-parts (t ∷ before) mine rest f d b =
      ap (λ c. cond c (due t) (other t) ++ flat_map by_due (before ++ (mine ++ rest))) f.0 ∙ ap (λ bs. other t ++ bs) (flat-parts before mine rest f.1 d b)
      ∙ sym (append_assoc (other t) (flat_map other before) (flat_map due mine ++ flat_map other rest))

  pub flat-due : (before mine rest : List Stage) → AreDue first count before mine rest
      → flat_map by_due (before ++ (mine ++ rest)) ≡ flat_map other before ++ (flat_map due mine ++ flat_map other rest)
  flat-due before mine rest d = flat-parts before mine rest d.front d.due d.behind

flat-itself : (ts : List Stage) → flat_map (λ t. t ∷ []) ts ≡ ts
flat-itself [] = refl
flat-itself (t ∷ ts) = ap (λ us. t ∷ us) (flat-itself ts)

-- nothing of a stage
abbrev none_of : Stage → List SubOperation
none_of t = []

flat-nothing : (ts : List Stage) → flat_map none_of ts ≡ []
flat-nothing [] = refl
flat-nothing (t ∷ ts) = flat-nothing ts

-- the stages after an edit was given, and what is sent of it
pub edit-after : (first count : ℕ) (doc : Document) (before mine rest : List Stage) → AreDue first count before mine rest
    → flat_map (after_stage first count doc) (before ++ (mine ++ rest)) ≡ before ++ (flat_map (carried_stage doc) mine ++ rest)
edit-after first count doc before mine rest d =
    flat-due first count (carried_stage doc) (λ t. t ∷ []) before mine rest d
    ∙ ap (λ ts. ts ++ (flat_map (carried_stage doc) mine ++ flat_map (λ t. t ∷ []) rest)) (flat-itself before)
    ∙ ap (λ ts. before ++ (flat_map (carried_stage doc) mine ++ ts)) (flat-itself rest)

-- ---- the grid

-- a cell without writes has none of the stages that go on
none-written : (first count : ℕ) (rows cols : List (TreeElement ℕ)) (r c : ℕ) (ts : List GridStage) → writes_to r c ts ≡ []
    → writes_to r c (stages_after first count rows cols ts) ≡ []
none-written first count rows cols r c [] e = refl
none-written first count rows cols r c (t ∷ ts) e =
    step (write_of r c t) e (is_due first count t.stage) (stage_pieces rows cols t) refl (λ g. none-written first count rows cols r c ts g)
  where
    step : (ws : List (ℕ × ValueBytes)) → ws ++ writes_to r c ts ≡ [] → (b : Bool) (ops : List CellOp) → ws ≡ write_of r c t
        → (writes_to r c ts ≡ [] → writes_to r c (stages_after first count rows cols ts) ≡ [])
        → writes_to r c (cond b (elim ops as (λ _. List GridStage) [ [] ↦ [] | _ ∷ _ ↦ t ∷ [] ]) (t ∷ []) ++ stages_after first count rows cols ts) ≡ []
    step [] g true [] s ih = ih g
    step [] g true (o ∷ ops) s ih = ap (λ ws. ws ++ writes_to r c (stages_after first count rows cols ts)) (sym s) ∙ ih g
    step [] g false ops s ih = ap (λ ws. ws ++ writes_to r c (stages_after first count rows cols ts)) (sym s) ∙ ih g
    step (w ∷ ws) g b ops s ih = cc g

lower-rise : (low m : ℕ) (ts : List GridStage) → low ≤ m → StagesRise m ts → StagesRise low ts
lower-rise low m [] l r = tt
lower-rise low m (t ∷ ts) l r = (let up = r.0 in omega (arith, l, up), r.1)

rise-after : (first count : ℕ) (rows cols : List (TreeElement ℕ)) (low : ℕ) (ts : List GridStage) → StagesRise low ts
    → StagesRise low (stages_after first count rows cols ts)
rise-after first count rows cols low [] r = tt
rise-after first count rows cols low (t ∷ ts) r =
    step (is_due first count t.stage) (stage_pieces rows cols t) r.0 (rise-after first count rows cols t.stage ts r.1)
  where
    step : (b : Bool) (ops : List CellOp) → low < t.stage → StagesRise t.stage (stages_after first count rows cols ts)
        → StagesRise low (cond b (elim ops as (λ _. List GridStage) [ [] ↦ [] | _ ∷ _ ↦ t ∷ [] ]) (t ∷ []) ++ stages_after first count rows cols ts)
    step true [] l s = lower-rise low t.stage (stages_after first count rows cols ts) (omega (arith, l)) s
    step true (o ∷ ops) l s = (l, s)
    step false ops l s = (l, s)

module _ (first count : ℕ) (old new : Grid) (ops : List CellOp) (sound : IsSound old) (r : Resubmits first count old new ops) where
  -- a cell that is empty stays so
  still-empty : (row col : ℕ) → cell_at old.cells row col ≡ empty_cell → cell_at new.cells row col ≡ empty_cell
  still-empty row col e =
      r.cells row col ∙ ap (λ (x : CellState). record x { pending = writes_to row col new.stages.items }) e
      ∙ ap (λ ws. record empty_cell { pending = ws }) (ap (writes_to row col) r.stages
      ∙ none-written first count (units_of old.rows) (units_of old.cols) row col old.stages.items (sym (sound.writes row col) ∙ ap (λ (x : CellState). x.pending) e))

  pub resubmitted-sound : IsSound new
  resubmitted-sound = record {
    rows = subst (λ (x : Grid). IsSoundVector x.rows) (sym r.rest) sound.rows;
    cols = subst (λ (x : Grid). IsSoundVector x.cols) (sym r.rest) sound.cols;
    floors = ap (λ (x : Grid). x.cols.tree.floor) r.rest ∙ sound.floors ∙ sym (ap (λ (x : Grid). x.rows.tree.floor) r.rest);
    held = record {
      rows = λ row col u. still-empty row col (sound.held.rows row col (sym (ap (λ (x : Grid). in_use x.rows row) r.rest) ∙ u));
      cols = λ row col u. still-empty row col (sound.held.cols row col (sym (ap (λ (x : Grid). in_use x.cols col) r.rest) ∙ u));
    };
    writes = λ row col. ap (λ (x : CellState). x.pending) (r.cells row col);
    rise = subst (StagesRise 0) (sym r.stages) (rise-after first count (units_of old.rows) (units_of old.cols) 0 old.stages.items sound.rise);
    pending_rows = subst (λ (x : Grid). ArePending new.stages.items (units_of x.rows)) (sym r.rest)
        (fewer-stages first count (units_of old.rows) (units_of old.cols) old.stages.items new.stages.items (units_of old.rows) r.stages sound.pending_rows);
    pending_cols = subst (λ (x : Grid). ArePending new.stages.items (units_of x.cols)) (sym r.rest)
        (fewer-stages first count (units_of old.rows) (units_of old.cols) old.stages.items new.stages.items (units_of old.cols) r.stages sound.pending_cols);
  }

  module _ (last : ℕ) (doc : Document) (stages : List Stage) (h : Holds last old doc stages)
      (same : (k : ℕ) (op : CellOp) (n : NamedElements) (u : GridStage) → AreThere doc (OnGrid op) n → AreNamedBefore k (OnGrid op) n
      → indexed_stage doc (record { stage = k; sub_operation = OnGrid op; names = n }) ≡ shown_stage old.rows old.cols u
      → map (λ p. OnGrid p) (stage_pieces (units_of old.rows) (units_of old.cols) u) ≡ grid_pieces k doc n op) where
    old-units : HoldsUnits doc.rows.items doc.cols.items doc.cells (units_of old.rows) (units_of old.cols) old.cells
    old-units = units last old doc stages sound h

    new-units : HoldsUnits doc.rows.items doc.cols.items doc.cells (units_of old.rows) (units_of old.cols) new.cells
    new-units = record {
      rows = beside-more (λ x e q. (q.0, beside-more (λ y d z. (z.0, z.1 ∙ ap acked_value (sym (acked e.unit d.unit)))) q.1)) old-units.rows;
      cols = old-units.cols;
    }
      where
        acked : (row col : ℕ) → record (cell_at new.cells row col) { pending = [] } ≡ record (cell_at old.cells row col) { pending = [] }
        acked row col = ap (λ (x : CellState). record x { pending = [] }) (r.cells row col)

    pub resubmitted-held : HoldsGrid (grid_state new 0 true) doc (flat_map (after_stage first count doc) stages)
    resubmitted-held = record {
      rows = h.holds.rows ∙ ap (λ (x : Grid). shown_units x.rows) (sym r.rest);
      cols = h.holds.cols ∙ ap (λ (x : Grid). shown_units x.cols) (sym r.rest);
      rows_made = h.holds.rows_made ∙ sym (ap (λ (x : Grid). x.rows_made) r.rest);
      cols_made = h.holds.cols_made ∙ sym (ap (λ (x : Grid). x.cols_made) r.rest);
      cells = units-held doc old.rows old.cols new.cells new-units
          ∙ ap (λ (x : Grid). placed_cells (unit_value new.cells) (units_of x.cols) 0 (units_of x.rows)) (sym r.rest);
      stages = stages-go-on first count doc old.rows old.cols same stages old.stages.items h.named.stages h.holds.stages
          ∙ ap (map (shown_stage old.rows old.cols)) (sym r.stages)
          ∙ ap (λ (x : Grid). map (shown_stage x.rows x.cols) new.stages.items) (sym r.rest);
    }

-- ---- what is sent of an edit

-- what is sent of a stage of the grid
abbrev pub grid_sent : Document → Stage → List SubOperation
grid_sent doc t = cond (is_grid_stage t) (pieces doc t) []

module _ (first count : ℕ) (doc : Document) (rows cols : VectorState)
    (same : (k : ℕ) (op : CellOp) (n : NamedElements) (u : GridStage) → AreThere doc (OnGrid op) n → AreNamedBefore k (OnGrid op) n
    → indexed_stage doc (record { stage = k; sub_operation = OnGrid op; names = n }) ≡ shown_stage rows cols u
    → map (λ p. OnGrid p) (stage_pieces (units_of rows) (units_of cols) u) ≡ grid_pieces k doc n op) where
  none-sent : (b : Bool) → cond {A = List SubOperation} b [] [] ≡ []
  none-sent true = refl
  none-sent false = refl

  one-sent : (k : ℕ) (op : CellOp) (n : NamedElements) (u : GridStage) → AreThere doc (OnGrid op) n → AreNamedBefore k (OnGrid op) n
      → indexed_stage doc (record { stage = k; sub_operation = OnGrid op; names = n }) ≡ shown_stage rows cols u
      → map (λ p. OnGrid p) (cond (is_due first count u.stage) (stage_pieces (units_of rows) (units_of cols) u) [])
      ≡ cond (is_due first count k) (grid_pieces k doc n op) []
  one-sent k op n u there before h = step (is_due first count u.stage) ∙ ap (λ j. cond (is_due first count j) (grid_pieces k doc n op) [])
      (sym (ap (λ (s : IndexedStage). s.stage) h))
    where
      step : (b : Bool) → map (λ p. OnGrid p) (cond b (stage_pieces (units_of rows) (units_of cols) u) []) ≡ cond b (grid_pieces k doc n op) []
      step true = same k op n u there before h
      step false = refl

  pub stages-sent : (stages : List Stage) (items : List GridStage) → AreStagesNamed doc stages → grid_stages doc stages ≡ map (shown_stage rows cols) items
      → map (λ p. OnGrid p) (due_pieces first count (units_of rows) (units_of cols) items)
      ≡ flat_map (λ t. cond (is_due first count t.stage) (grid_sent doc t) []) stages
  stages-sent [] [] n e = refl
  stages-sent [] (u ∷ us) n e = cc e
  stages-sent (t ∷ stages) items n e = step t.stage t.sub_operation t.names items n.0 e (λ us g. stages-sent stages us n.1 g)
    where
      step : (k : ℕ) (o : SubOperation) (names : NamedElements) (us : List GridStage) → AreThere doc o names × AreNamedBefore k o names
          → grid_stages doc (record { stage = k; sub_operation = o; names = names } ∷ stages) ≡ map (shown_stage rows cols) us
          → ((vs : List GridStage) → grid_stages doc stages ≡ map (shown_stage rows cols) vs
          → map (λ p. OnGrid p) (due_pieces first count (units_of rows) (units_of cols) vs)
          ≡ flat_map (λ t. cond (is_due first count t.stage) (grid_sent doc t) []) stages)
          → map (λ p. OnGrid p) (due_pieces first count (units_of rows) (units_of cols) us)
          ≡ cond (is_due first count k) (grid_sent doc (record { stage = k; sub_operation = o; names = names })) []
          ++ flat_map (λ t. cond (is_due first count t.stage) (grid_sent doc t) []) stages
      step k (OnText op) names us th g ih = ih us g ∙ ap (λ ps. ps ++ flat_map (λ t. cond (is_due first count t.stage) (grid_sent doc t) []) stages) (sym (none-sent (is_due first count k)))
      step k (OnIntervals op) names us th g ih = ih us g ∙ ap (λ ps. ps ++ flat_map (λ t. cond (is_due first count t.stage) (grid_sent doc t) []) stages) (sym (none-sent (is_due first count k)))
      step k (OnGrid op) names [] th g ih = cc g
      step k (OnGrid op) names (u ∷ us) th g ih =
          let here : indexed_stage doc (record { stage = k; sub_operation = OnGrid op; names = names }) ≡ shown_stage rows cols u = cc g in
          let rest : grid_stages doc stages ≡ map (shown_stage rows cols) us = cc g in
          map-append (λ p. OnGrid p) (cond (is_due first count u.stage) (stage_pieces (units_of rows) (units_of cols) u) [])
          (due_pieces first count (units_of rows) (units_of cols) us)
          ∙ ap (λ ps. ps ++ map (λ p. OnGrid p) (due_pieces first count (units_of rows) (units_of cols) us)) (one-sent k op names u th.0 th.1 here)
          ∙ ap (λ ps. cond (is_due first count k) (grid_pieces k doc names op) [] ++ ps) (ih us rest)

-- all of a grid edit
grid-all : (doc : Document) (mine : List Stage) → list_all is_grid_stage mine ≡ true → flat_map (grid_sent doc) mine ≡ flat_map (pieces doc) mine
grid-all doc [] h = refl
grid-all doc (t ∷ mine) h =
    let p = both (is_grid_stage t) (list_all is_grid_stage mine) h in
    ap (λ b. cond b (pieces doc t) [] ++ flat_map (grid_sent doc) mine) p.0 ∙ ap (λ ps. pieces doc t ++ ps) (grid-all doc mine p.1)

pub edit-sent : (first count : ℕ) (doc : Document) (before mine rest : List Stage) → AreDue first count before mine rest → list_all is_grid_stage mine ≡ true
    → flat_map (λ t. cond (is_due first count t.stage) (grid_sent doc t) []) (before ++ (mine ++ rest)) ≡ flat_map (pieces doc) mine
edit-sent first count doc before mine rest d g =
    flat-due first count (grid_sent doc) none_of before mine rest d
    ∙ ap (λ ps. ps ++ (flat_map (grid_sent doc) mine ++ flat_map none_of rest)) (flat-nothing before)
    ∙ ap (λ ps. flat_map (grid_sent doc) mine ++ ps) (flat-nothing rest) ∙ append-nil (flat_map (grid_sent doc) mine) ∙ grid-all doc mine g
