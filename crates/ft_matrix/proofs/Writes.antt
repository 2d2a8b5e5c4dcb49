-- A grid and a document whose part it holds take a cell write of a message alike.
use Rattle.std.proofs.Common.{◌≡◌, ℕ, zero, suc, ◌+◌, ◌≤◌, Bool, true, false, cond, ◌&&◌, nat_eq, List, [], ◌∷◌, Option, Some, None, refl, sym, ◌∙◌, ap, subst, arith}
use Rattle.std.specs.Prelude.{slice_get}
use Rattle.std.specs.List.{AllByRecursion}
use Rattle.std.specs.Option.{option_map}
use Rattle.std.proofs.lemmas.Bool.Decides.{nat_tests}
use Rattle.std.proofs.lemmas.List.Elements.{recursion_from_All}
use Rattle.ft_base.specs.declared.elements.Perspective.{Perspective}
use Rattle.ft_base.specs.Scan.{at, len, one_more_if, retain_map}
use Rattle.ft_block.specs.declared.leaves.LenView.TheVariants.{At}
use Rattle.ft_op.specs.declared.operations.CellOp.TheVariants.{Set}
use Rattle.ft_props.specs.Properties.{ValueBytes}
use Rattle.ft_props.specs.Element.{ElementId, ListElement, has_id, id, same_id, seen_by}
use Rattle.ft_op.specs.Cells.{cell_value, write_cell}
use Rattle.ft_op.specs.Document.{Document, cell_effect, grid_effect, with_skip}
use Rattle.ft_op.specs.Stages.{Stage}
use Rattle.ft_msg.specs.Content.{value_unless_null}
use Rattle.ft_tree_leaves.specs.Elements.{TreeElement, seen_in}
use Rattle.ft_perm.specs.Vectors.{IsProper, VectorState, in_use, seen_handles}
use Rattle.ft_cells.specs.CellTables.{CellList, CellState, cell_at, changed_cell, empty_cell, with_acked}
use Rattle.ft_laws_agreement.proofs.CellValues.{value-write}
use Rattle.ft_laws_agreement.proofs.SlidEnds.{Once, once-tail, same_id-refl}
use Rattle.ft_laws_names.proofs.Beside.{Both, beside-both, beside-more, both-at, each, ends, next}
use Rattle.ft_laws_names.proofs.DocumentsAlike.{same_id-turn}
use Rattle.ft_matrix.specs.declared.grid.Grid.{Grid}
use Rattle.ft_matrix.specs.Units.{acked_value, units_of}
use Rattle.ft_matrix.specs.GridStates.{grid_state}
use Rattle.ft_matrix.specs.HoldsGrid.{HoldsGrid}
use Rattle.ft_matrix.specs.Sound.{IsSound}
use Rattle.ft_matrix.specs.Applied.{Holds, Passes}
use Rattle.ft_matrix.proofs.Effects.{passes, skip-held, units}
use Rattle.ft_matrix.proofs.HeldGrids.{HandlesOnce, HoldsUnits, MeetsAt, absent-both, handle_value, handles-tail, only-here, other-handle, rows-beside, stages-move, units-held}
use Rattle.ft_matrix.proofs.UnitLists.{BesideUnits, HandleNamed, IsUnit, unit-seen_by}

-- ---- handles of the seen units

pub seen-get : {A B : Type 0} (seen : A → Bool) (f : A → B) (xs : List A) (i : ℕ) → slice_get (retain_map seen f xs) i ≡ option_map f (at seen i xs)
seen-get seen f [] zero = refl
seen-get seen f [] (suc i) = refl
seen-get {A} {B} seen f (x ∷ xs) zero = step (seen x) (seen-get seen f xs zero)
  where
    step : (b : Bool) → slice_get (retain_map seen f xs) zero ≡ option_map f (at seen zero xs)
        → slice_get (cond b (f x ∷ retain_map seen f xs) (retain_map seen f xs)) zero ≡ option_map f (cond b (Some x) (at seen zero xs))
    step true ih = refl
    step false ih = ih
seen-get {A} {B} seen f (x ∷ xs) (suc i) = step (seen x) (seen-get seen f xs i) (seen-get seen f xs (suc i))
  where
    step : (b : Bool) → slice_get (retain_map seen f xs) i ≡ option_map f (at seen i xs)
        → slice_get (retain_map seen f xs) (suc i) ≡ option_map f (at seen (suc i) xs)
        → slice_get (cond b (f x ∷ retain_map seen f xs) (retain_map seen f xs)) (suc i) ≡ option_map f (at seen (cond b i (suc i)) xs)
    step true ih same = ih
    step false ih same = same

-- what holds of each unit holds of the one that is found
pub found-holds : (P : ℕ → Type 0) (seen : TreeElement ℕ → Bool) (i : ℕ) (es : List (TreeElement ℕ)) (h : ℕ) → AllByRecursion (λ e. P e.unit) es
    → option_map (λ (e : TreeElement ℕ). e.unit) (at seen i es) ≡ Some h → P h
found-holds P seen i [] h a e = (cc)
found-holds P seen zero (x ∷ xs) h a e = step (seen x) (λ g. found-holds P seen zero xs h a.1 g) e
  where
    step : (b : Bool) → (option_map (λ (e : TreeElement ℕ). e.unit) (at seen zero xs) ≡ Some h → P h)
        → option_map (λ (e : TreeElement ℕ). e.unit) (cond b (Some x) (at seen zero xs)) ≡ Some h → P h
    step true ih g = let same : x.unit ≡ h = (cc) in subst P same a.0
    step false ih g = ih g
found-holds P seen (suc i) (x ∷ xs) h a e = found-holds P seen (cond (seen x) i (suc i)) xs h a.1 e

pub handle-in-use : (v : VectorState) → IsProper v → (at : Perspective) (i h : ℕ) → Some h ≡ slice_get (seen_handles (At at) v.tree) i → in_use v h ≡ true
handle-in-use v p view i h e =
    found-holds (λ g. in_use v g ≡ true) (seen_in (At view)) i (units_of v) h (recursion_from_All (λ (d : TreeElement ℕ). in_use v d.unit ≡ true) (units_of v) p.used)
    (sym (seen-get (seen_in (At view)) (λ (d : TreeElement ℕ). d.unit) (units_of v) i) ∙ sym e)

-- ---- each unit stands at the place of its name

pub only-there : (b : Bool) (n : ℕ) → one_more_if b n ≤ 1 → 1 ≤ n → b ≡ false
only-there true n l h = absurd (omega arith)
only-there false n l h = refl

pub some-more : (b : Bool) (n : ℕ) → 1 ≤ n → 1 ≤ one_more_if b n
some-more true n l = omega arith
some-more false n l = l

pub one-more : (b : Bool) (n : ℕ) → b ≡ true → 1 ≤ one_more_if b n
one-more true n h = omega arith
one-more false n h = (cc)

pub same-number : (n : ℕ) → nat_eq n n ≡ true
same-number n = grind (arith, nat_tests)

-- the name and the handle of a pair stand at the same place of two lists
pub record StandsHere (xs : List ListElement) (es : List (TreeElement ℕ)) (x : ListElement) (e : TreeElement ℕ) : Type 0 where
  pub unit : IsUnit x e
  pub there : 1 ≤ len (has_id (id x)) xs
  pub held : 1 ≤ len (λ d. nat_eq d.unit e.unit) es
  pub meets : BesideUnits (HandleNamed (MeetsAt (id x) e.unit)) xs es

pub each-meets : {xs : List ListElement} {es : List (TreeElement ℕ)} → Once xs → HandlesOnce es → BesideUnits IsUnit xs es
    → BesideUnits (StandsHere xs es) xs es
each-meets o p ends = ends
each-meets o p (next {x = x} {y = e} {xs = xs} {ys = es} u us) =
    next here (beside-more more (each-meets (once-tail x xs o) (handles-tail e es p) us))
  where
    here : StandsHere (x ∷ xs) (e ∷ es) x e
    here = record {
      unit = u;
      there = one-more (has_id (id x) x) (len (has_id (id x)) xs) (same_id-refl (id x));
      held = one-more (nat_eq e.unit e.unit) (len (λ (d : TreeElement ℕ). nat_eq d.unit e.unit) es) (same-number e.unit);
      meets = next (u, same_id-refl (id x) ∙ sym (same-number e.unit))
          (absent-both (id x) e.unit (only-here (has_id (id x) x) (len (has_id (id x)) xs) (o (id x)) (same_id-refl (id x)))
          (only-here (nat_eq e.unit e.unit) (len (λ (d : TreeElement ℕ). nat_eq d.unit e.unit) es) (p e.unit) (same-number e.unit)) us);
    }

    more : (y : ListElement) (d : TreeElement ℕ) → StandsHere xs es y d → StandsHere (x ∷ xs) (e ∷ es) y d
    more y d s = record {
      unit = s.unit;
      there = some-more (has_id (id y) x) (len (has_id (id y)) xs) s.there;
      held = some-more (nat_eq e.unit d.unit) (len (λ (f : TreeElement ℕ). nat_eq f.unit d.unit) es) s.held;
      meets = next (
        u,
        only-there (has_id (id y) x) (len (has_id (id y)) xs) (o (id y)) s.there
            ∙ sym (only-there (nat_eq e.unit d.unit) (len (λ (f : TreeElement ℕ). nat_eq f.unit d.unit) es) (p d.unit) s.held),
      ) s.meets;
    }

-- ---- the write

-- the cells after a write to the cell of two handles
abbrev pub IsWritten : ℕ → ℕ → ValueBytes → CellList → CellList → Type 0
IsWritten h g value old new = (r c : ℕ) → cell_at new r c ≡ changed_cell h g (with_acked value) (cell_at old) r c

written-value : (value : ValueBytes) (b : Bool) (cell : CellState)
    → acked_value (cond b (with_acked value cell) cell) ≡ cond b (value_unless_null value) (acked_value cell)
written-value value true cell = refl
written-value value false cell = refl

module _ (last : ℕ) (old : Grid) (doc : Document) (stages : List Stage) (sound : IsSound old) (held : Holds last old doc stages) (value : ValueBytes) (table : CellList)
    (x y : ListElement) (e f : TreeElement ℕ) (r : StandsHere doc.rows.items (units_of old.rows) x e) (c : StandsHere doc.cols.items (units_of old.cols) y f)
    (w : IsWritten e.unit f.unit value old.cells table) where
  hu : HoldsUnits doc.rows.items doc.cols.items doc.cells (units_of old.rows) (units_of old.cols) old.cells
  hu = units last old doc stages sound held

  abbrev written : Document
  written = record doc { cells = write_cell (record { row = id x; col = id y; value = value }) doc.cells }

  value-of : (u v : ElementId) (h g : ℕ) → same_id (id x) u ≡ nat_eq h e.unit → same_id (id y) v ≡ nat_eq g f.unit
      → cell_value u v doc.cells ≡ handle_value old.cells h g
      → cell_value u v (write_cell (record { row = id x; col = id y; value = value }) doc.cells) ≡ handle_value table h g
  value-of u v h g a b k =
      value-write u v (record { row = id x; col = id y; value = value }) doc.cells
      ∙ ap (λ t. cond (t && same_id v (id y)) (value_unless_null value) (cell_value u v doc.cells)) (same_id-turn u (id x) ∙ a)
      ∙ ap (λ t. cond (nat_eq h e.unit && t) (value_unless_null value) (cell_value u v doc.cells)) (same_id-turn v (id y) ∙ b)
      ∙ ap (λ o. cond (nat_eq h e.unit && nat_eq g f.unit) (value_unless_null value) o) k
      ∙ sym (ap acked_value (w h g) ∙ written-value value (nat_eq h e.unit && nat_eq g f.unit) (cell_at old.cells h g))

  later : HoldsUnits doc.rows.items doc.cols.items (write_cell (record { row = id x; col = id y; value = value }) doc.cells)
      (units_of old.rows) (units_of old.cols) table
  later = record {
    rows = beside-more (λ u d q. (
      q.0.0,
      beside-more (λ v k s. (s.0.0, value-of (id u) (id v) d.unit k.unit q.1.1 s.1.1 s.0.1)) (beside-both q.0.1 c.meets),
    )) (beside-both hu.rows r.meets);
    cols = hu.cols;
  }

  pub write-held : HoldsGrid (grid_state (record old { cells = table }) 0 true)
      (record doc { cells = write_cell (record { row = id x; col = id y; value = value }) doc.cells }) stages
  write-held = record {
    rows = held.holds.rows;
    cols = held.holds.cols;
    rows_made = held.holds.rows_made;
    cols_made = held.holds.cols_made;
    cells = units-held written old.rows old.cols table later;
    stages = stages-move doc written old.rows old.cols old.rows old.cols (λ a g t k. k) (λ a g t k. k) stages old.stages.items held.named.stages held.holds.stages;
  }

-- ---- what is found at two places

pub some-unit : (o : Option (TreeElement ℕ)) (h : ℕ) → option_map (λ (e : TreeElement ℕ). e.unit) o ≡ Some h
    → (e : TreeElement ℕ) × ((o ≡ Some e) × (e.unit ≡ h))
some-unit None h e = (cc)
some-unit (Some x) h e = (x, (refl, (cc)))

pub none-unit : (o : Option (TreeElement ℕ)) → option_map (λ (e : TreeElement ℕ). e.unit) o ≡ None → o ≡ None
none-unit None e = refl
none-unit (Some x) e = (cc)

module _ (last s : ℕ) (view : Perspective) (old : Grid) (doc : Document) (stages : List Stage) (sound : IsSound old)
    (h : Holds last old doc stages) (i j : ℕ) (value : ValueBytes) where
  abbrev Found : List ListElement → List (TreeElement ℕ) → Option ListElement → Option (TreeElement ℕ) → Type 0
  Found xs es o p = Both ListElement (TreeElement ℕ) (λ x e. StandsHere xs es x e × (seen_by view.r view.c x ≡ true)) o p

  rows-found : Found doc.rows.items (units_of old.rows) (at (seen_by view.r view.c) i doc.rows.items) (at (seen_in (At view)) i (units_of old.rows))
  rows-found = both-at (seen_by view.r view.c) (seen_in (At view)) (λ x e q. unit-seen_by x e q.unit view) i
      (each-meets h.named.rows.once sound.rows.proper.once (rows-beside (units last old doc stages sound h)))

  cols-found : Found doc.cols.items (units_of old.cols) (at (seen_by view.r view.c) j doc.cols.items) (at (seen_in (At view)) j (units_of old.cols))
  cols-found = both-at (seen_by view.r view.c) (seen_in (At view)) (λ x e q. unit-seen_by x e q.unit view) j
      (each-meets h.named.cols.once sound.cols.proper.once (units last old doc stages sound h).cols)

  skipped-row : (o : Option ListElement) (p : Option (TreeElement ℕ)) (q : Option ListElement) → p ≡ None
      → Found doc.rows.items (units_of old.rows) o p → cell_effect doc o q value ≡ with_skip doc
  skipped-row None p q e f = refl
  skipped-row (Some x) None q e f = elim f [ ]
  skipped-row (Some x) (Some u) q e f = (cc)

  skipped-col : (o : Option ListElement) (q : Option ListElement) (p : Option (TreeElement ℕ)) → p ≡ None
      → Found doc.cols.items (units_of old.cols) q p → cell_effect doc o q value ≡ with_skip doc
  skipped-col None q p e f = refl
  skipped-col (Some x) None p e f = refl
  skipped-col (Some x) (Some y) None e f = elim f [ ]
  skipped-col (Some x) (Some y) (Some u) e f = (cc)

  pub set-skipped-row : None ≡ slice_get (seen_handles (At view) old.rows.tree) i
      → Passes last old doc (grid_effect doc s view.c view.r (Set i j value)) stages 1
  set-skipped-row e =
      passes last old doc stages sound h s view.c view.r (Set i j value) (with_skip doc) old 1
      (skipped-row _ _ _ (none-unit _ (sym (seen-get (seen_in (At view)) (λ (d : TreeElement ℕ). d.unit) (units_of old.rows) i) ∙ sym e)) rows-found)
      (skip-held last old doc stages sound h) refl

  pub set-skipped-col : None ≡ slice_get (seen_handles (At view) old.cols.tree) j
      → Passes last old doc (grid_effect doc s view.c view.r (Set i j value)) stages 1
  set-skipped-col e =
      passes last old doc stages sound h s view.c view.r (Set i j value) (with_skip doc) old 1
      (skipped-col _ _ _ (none-unit _ (sym (seen-get (seen_in (At view)) (λ (d : TreeElement ℕ). d.unit) (units_of old.cols) j) ∙ sym e)) cols-found)
      (skip-held last old doc stages sound h) refl

  plus-zero : (n : ℕ) → n ≡ n + 0
  plus-zero n = omega arith

  taken : (table : CellList) (a b : ℕ) → IsWritten a b value old.cells table
      → (o q : Option ListElement) (p k : Option (TreeElement ℕ)) (e f : TreeElement ℕ) → p ≡ Some e → k ≡ Some f
      → e.unit ≡ a → f.unit ≡ b → Found doc.rows.items (units_of old.rows) o p → Found doc.cols.items (units_of old.cols) q k
      → (later : Document) × ((cell_effect doc o q value ≡ later) × HoldsGrid (grid_state (record old { cells = table }) 0 true) later stages × (later.skipped ≡ doc.skipped + 0))
  taken table a b w None q None k e f g l m n r c = (cc)
  taken table a b w None q (Some u) k e f g l m n r c = elim r [ ]
  taken table a b w (Some x) q None k e f g l m n r c = (cc)
  taken table a b w (Some x) None (Some u) None e f g l m n r c = (cc)
  taken table a b w (Some x) None (Some u) (Some v) e f g l m n r c = elim c [ ]
  taken table a b w (Some x) (Some y) (Some u) None e f g l m n r c = (cc)
  taken table a b w (Some x) (Some y) (Some u) (Some v) e f g l m n (each r) (each c) =
      let su : u ≡ e = (cc) in
      let sv : v ≡ f = (cc) in
      let ua : u.unit ≡ a = ap (λ (d : TreeElement ℕ). d.unit) su ∙ m in
      let vb : v.unit ≡ b = ap (λ (d : TreeElement ℕ). d.unit) sv ∙ n in
      let here = subst (λ t. IsWritten u.unit t value old.cells table) (sym vb) (subst (λ t. IsWritten t b value old.cells table) (sym ua) w) in (
        record doc { cells = write_cell (record { row = id x; col = id y; value = value }) doc.cells },
        (refl, write-held last old doc stages sound h value table x y u v r.0 c.0 here, plus-zero doc.skipped),
      )

  pub set-taken : (table : CellList) (a b : ℕ) → IsWritten a b value old.cells table → Some a ≡ slice_get (seen_handles (At view) old.rows.tree) i
      → Some b ≡ slice_get (seen_handles (At view) old.cols.tree) j
      → Passes last (record old { cells = table }) doc (grid_effect doc s view.c view.r (Set i j value)) stages 0
  set-taken table a b w e f =
      let p = some-unit (at (seen_in (At view)) i (units_of old.rows)) a (sym (seen-get (seen_in (At view)) (λ (d : TreeElement ℕ). d.unit) (units_of old.rows) i) ∙ sym e) in
      let q = some-unit (at (seen_in (At view)) j (units_of old.cols)) b (sym (seen-get (seen_in (At view)) (λ (d : TreeElement ℕ). d.unit) (units_of old.cols) j) ∙ sym f) in
      let t = taken table a b w _ _ _ _ p.0 q.0 p.1.0 q.1.0 p.1.1 q.1.1 rows-found cols-found in
      passes last old doc stages sound h s view.c view.r (Set i j value) t.0 (record old { cells = table }) 0 t.1.0 t.1.1 t.1.2

-- ---- soundness

unused-cell : (h g : ℕ) (value : ValueBytes) (old new : CellList) → IsWritten h g value old new → (r c : ℕ)
    → (nat_eq r h && nat_eq c g) ≡ false → cell_at old r c ≡ empty_cell
    → cell_at new r c ≡ empty_cell
unused-cell h g value old new w r c e n = w r c ∙ ap (λ b. cond b (with_acked value (cell_at old r c)) (cell_at old r c)) e ∙ n

pub never : (b : Bool) → b && false ≡ false
never true = refl
never false = refl

kept-pending : (value : ValueBytes) (b : Bool) (cell : CellState) → (cond b (with_acked value cell) cell).pending ≡ cell.pending
kept-pending value true cell = refl
kept-pending value false cell = refl

pub write-sound : (old : Grid) (h g : ℕ) (value : ValueBytes) (table : CellList) → IsSound old → in_use old.rows h ≡ true → in_use old.cols g ≡ true
    → IsWritten h g value old.cells table → IsSound (record old { cells = table })
write-sound old h g value table s a b w = record {
  rows = s.rows;
  cols = s.cols;
  floors = s.floors;
  held = record {
    rows = λ r c n. unused-cell h g value old.cells table w r c (ap (λ t. t && nat_eq c g) (other-handle (in_use old.rows) h r a n)) (s.held.rows r c n);
    cols = λ r c n. unused-cell h g value old.cells table w r c (ap (λ t. nat_eq r h && t) (other-handle (in_use old.cols) g c b n) ∙ never (nat_eq r h)) (s.held.cols r c n);
  };
  writes = λ r c. ap (λ (cell : CellState). cell.pending) (w r c) ∙ kept-pending value (nat_eq r h && nat_eq c g) (cell_at old.cells r c) ∙ s.writes r c;
  rise = s.rise;
  pending_rows = s.pending_rows;
  pending_cols = s.pending_cols;
}
