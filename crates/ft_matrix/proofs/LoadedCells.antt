-- The cells of a summary, written one after another on the unremoved rows and columns at their places: the first of a place counts.
use Rattle.std.proofs.Common.{◌≡◌, ℕ, ◌≤◌, Bool, true, false, cond, ◌&&◌, nat_eq, is_some, List, [], ◌∷◌, ◌++◌, Option, Some, None, Bor, option_copied, option_map, find, refl, sym, ◌∙◌, ap, subst, drop, length, get_or, slice_get, ◌+◌, ◌<◌, arith, append_assoc, append-nil}
use Rattle.std.specs.List.{AllByRecursion}
use Rattle.std.specs.Option.{option_or}
use Rattle.std.proofs.lemmas.Bool.Decides.{nat_tests}
use Rattle.std.proofs.lemmas.List.{drop_all, drop_more}
use Rattle.ft_base.specs.Scan.{at, retain_map}
use Rattle.ft_block.specs.declared.leaves.LenView.TheVariants.{Stage}
use Rattle.ft_cells.specs.CellTables.{CellList, CellState, CellTable, cell_at, changed_cell, empty_cell, shown_value, with_acked}
use Rattle.ft_tree_leaves.specs.Elements.{TreeElement, seen_in}
use Rattle.ft_laws_agreement.proofs.SlidEnds.{Once}
use Rattle.ft_msg.specs.Summary as summary
use Rattle.ft_msg.specs.Summary.{cells_of}
use Rattle.ft_laws_names.proofs.Beside.{Both, beside-both, beside-more, both-at, each, neither}
use Rattle.ft_laws_names.proofs.DocumentsAlike.{same_id-turn}
use Rattle.ft_op.specs.Cells.{Cell, cell_value, is_cell, is_null}
use Rattle.ft_props.specs.Element.{ElementId, ListElement, id, is_unremoved, same_id}
use Rattle.ft_props.specs.Properties.{ValueBytes}
use Rattle.ft_sumdoc.specs.declared.summary.CellRec.{CellRec}
use Rattle.ft_perm.specs.Vectors.{seen_handles}
use Rattle.ft_matrix.specs.declared.grid.Grid.{Grid}
use Rattle.ft_matrix.specs.Loaded.{LoadsCell, LoadsCells, given_value, loaded_cell, loaded_cells}
use Rattle.ft_matrix.specs.Units.{acked_value}
use Rattle.ft_matrix.proofs.HeldGrids.{HandlesOnce}
use Rattle.ft_matrix.proofs.UnitLists.{BesideUnits, IsUnit}
use Rattle.ft_matrix.proofs.Writes.{StandsHere, each-meets, seen-get}

-- ---- one call

pub none-copied : (o : Option (Bor (List ℕ))) (s : Option (List ℕ)) → is_some o ≡ false → option_copied o ≡ s → s ≡ None
none-copied None s h e = sym e
none-copied (Some b) s h e = (cc)

pub loads-here : (hs gs : List ℕ) (c : CellRec) (old new : CellList) (h k : ℕ) (v : ValueBytes) → Some h ≡ slice_get hs c.row → Some k ≡ slice_get gs c.col
    → shown_value (cell_at old h k) ≡ None → v ≡ c.value → ((r d : ℕ) → cell_at new r d ≡ changed_cell h k (with_acked v) (cell_at old) r d) → LoadsCell hs gs c old new
loads-here hs gs c old new h k v a b none e w r d =
    w r d ∙ ap (λ u. changed_cell h k (with_acked u) (cell_at old) r d) e ∙ step (nat_eq r h) (nat_eq d k) refl refl
    ∙ ap (λ o. loaded_cell o (Some k) c.value (cell_at old) r d) a ∙ ap (λ o. loaded_cell (slice_get hs c.row) o c.value (cell_at old) r d) b
  where
    step : (i j : Bool) → nat_eq r h ≡ i → nat_eq d k ≡ j
        → cond (i && j) (with_acked c.value (cell_at old r d)) (cell_at old r d) ≡ cond (i && j) (given_value c.value (cell_at old r d)) (cell_at old r d)
    step true true p q =
        let row : r ≡ h = grind (arith, nat_tests) in
        let col : d ≡ k = grind (arith, nat_tests) in
        let shown : shown_value (cell_at old r d) ≡ None = ap (λ i. shown_value (cell_at old i d)) row ∙ ap (λ i. shown_value (cell_at old h i)) col ∙ none in
        sym (ap (λ o. cond (is_some o) (cell_at old r d) (with_acked c.value (cell_at old r d))) shown)
    step true false p q = refl
    step false j p q = refl

-- ---- one after another

one-same : (o p : Option ℕ) (v : ValueBytes) (t u : CellTable) → ((r c : ℕ) → t r c ≡ u r c) → (r c : ℕ) → loaded_cell o p v t r c ≡ loaded_cell o p v u r c
one-same None p v t u e r c = e r c
one-same (Some h) None v t u e r c = e r c
one-same (Some h) (Some k) v t u e r c = ap (λ cell. cond (nat_eq r h && nat_eq c k) (given_value v cell) cell) (e r c)

pub loaded-same : (hs gs : List ℕ) (cells : List CellRec) (t u : CellTable) → ((r c : ℕ) → t r c ≡ u r c) → (r c : ℕ)
    → loaded_cells hs gs cells t r c ≡ loaded_cells hs gs cells u r c
loaded-same hs gs [] t u e r c = e r c
loaded-same hs gs (x ∷ cells) t u e r c =
    loaded-same hs gs cells (loaded_cell (slice_get hs x.row) (slice_get gs x.col) x.value t) (loaded_cell (slice_get hs x.row) (slice_get gs x.col) x.value u)
    (one-same (slice_get hs x.row) (slice_get gs x.col) x.value t u e) r c

-- one cell more
pub loads-next : (old mid : Grid) (table : CellList) (goal : CellTable) (cells : List CellRec) (i : ℕ) (x : CellRec) → x ≡ get_or cells i x → i < length cells
    → mid ≡ record old { cells = mid.cells }
    → LoadsCell (seen_handles (Stage 0) mid.rows.tree) (seen_handles (Stage 0) mid.cols.tree) x mid.cells table
    → ((r c : ℕ) → loaded_cells (seen_handles (Stage 0) old.rows.tree) (seen_handles (Stage 0) old.cols.tree) (drop i cells) (cell_at mid.cells) r c ≡ goal r c)
    → (r c : ℕ) → loaded_cells (seen_handles (Stage 0) old.rows.tree) (seen_handles (Stage 0) old.cols.tree) (drop (i + 1) cells) (cell_at table) r c ≡ goal r c
loads-next old mid table goal cells i x at l rest loads so r c =
    loaded-same hs gs (drop (i + 1) cells) (cell_at table) (loaded_cell (slice_get hs x.row) (slice_get gs x.col) x.value (cell_at mid.cells))
    (subst (λ (g : Grid). LoadsCell (seen_handles (Stage 0) g.rows.tree) (seen_handles (Stage 0) g.cols.tree) x mid.cells table) rest loads) r c
    ∙ ap (λ cs. loaded_cells hs gs cs (cell_at mid.cells) r c) (sym (drop_more cells i x l ∙ ap (λ y. y ∷ drop (i + 1) cells) (sym at)))
    ∙ so r c
  where
    hs : List ℕ
    hs = seen_handles (Stage 0) old.rows.tree

    gs : List ℕ
    gs = seen_handles (Stage 0) old.cols.tree

pub loads-all : (old new : Grid) (cells : List CellRec) (i : ℕ) → length cells ≤ i → new ≡ record old { cells = new.cells }
    → ((r c : ℕ) → loaded_cells (seen_handles (Stage 0) old.rows.tree) (seen_handles (Stage 0) old.cols.tree) (drop i cells) (cell_at new.cells) r c
    ≡ loaded_cells (seen_handles (Stage 0) old.rows.tree) (seen_handles (Stage 0) old.cols.tree) cells (cell_at old.cells) r c)
    → LoadsCells cells old new
loads-all old new cells i l rest so = record {
  table = λ r c. ap (λ cs. loaded_cells (seen_handles (Stage 0) old.rows.tree) (seen_handles (Stage 0) old.cols.tree) cs (cell_at new.cells) r c) (sym (drop_all i cells l)) ∙ so r c;
  rest = rest;
}

-- nothing is pending
one-pending : (o p : Option ℕ) (v : ValueBytes) (t : CellTable) → ((r c : ℕ) → (t r c).pending ≡ []) → (r c : ℕ) → (loaded_cell o p v t r c).pending ≡ []
one-pending None p v t e r c = e r c
one-pending (Some h) None v t e r c = e r c
one-pending (Some h) (Some k) v t e r c = step (nat_eq r h && nat_eq c k) (is_some (shown_value (t r c)))
  where
    step : (a b : Bool) → (cond a (cond b (t r c) (with_acked v (t r c))) (t r c)).pending ≡ []
    step true true = e r c
    step true false = e r c
    step false b = e r c

pub loaded-pending : (hs gs : List ℕ) (cells : List CellRec) (t : CellTable) → ((r c : ℕ) → (t r c).pending ≡ []) → (r c : ℕ)
    → (loaded_cells hs gs cells t r c).pending ≡ []
loaded-pending hs gs [] t e r c = e r c
loaded-pending hs gs (x ∷ cells) t e r c =
    loaded-pending hs gs cells (loaded_cell (slice_get hs x.row) (slice_get gs x.col) x.value t) (one-pending (slice_get hs x.row) (slice_get gs x.col) x.value t e) r c

-- another row or column than all that are written stays empty
one-row : (hs gs : List ℕ) (i j : ℕ) (v : ValueBytes) (t : CellTable) (r c : ℕ)
    → ((i h : ℕ) → slice_get hs i ≡ Some h → nat_eq r h ≡ false) → t r c ≡ empty_cell
    → loaded_cell (slice_get hs i) (slice_get gs j) v t r c ≡ empty_cell
one-row hs gs i j v t r c a e = step (slice_get hs i) (slice_get gs j) refl
  where
    step : (o p : Option ℕ) → slice_get hs i ≡ o → loaded_cell o p v t r c ≡ empty_cell
    step None p q = e
    step (Some h) None q = e
    step (Some h) (Some k) q = ap (λ b. cond (b && nat_eq c k) (given_value v (t r c)) (t r c)) (a i h q) ∙ e

one-col : (hs gs : List ℕ) (i j : ℕ) (v : ValueBytes) (t : CellTable) (r c : ℕ)
    → ((i h : ℕ) → slice_get gs i ≡ Some h → nat_eq c h ≡ false) → t r c ≡ empty_cell
    → loaded_cell (slice_get hs i) (slice_get gs j) v t r c ≡ empty_cell
one-col hs gs i j v t r c a e = step (slice_get hs i) (slice_get gs j) refl
  where
    never : (b : Bool) → b && false ≡ false
    never true = refl
    never false = refl

    step : (o p : Option ℕ) → slice_get gs j ≡ p → loaded_cell o p v t r c ≡ empty_cell
    step None p q = e
    step (Some h) None q = e
    step (Some h) (Some k) q = ap (λ b. cond (nat_eq r h && b) (given_value v (t r c)) (t r c)) (a j k q)
        ∙ ap (λ b. cond b (given_value v (t r c)) (t r c)) (never (nat_eq r h)) ∙ e

pub loaded-row : (hs gs : List ℕ) (cells : List CellRec) (t : CellTable) (r c : ℕ)
    → ((i h : ℕ) → slice_get hs i ≡ Some h → nat_eq r h ≡ false) → t r c ≡ empty_cell
    → loaded_cells hs gs cells t r c ≡ empty_cell
loaded-row hs gs [] t r c a e = e
loaded-row hs gs (x ∷ cells) t r c a e =
    loaded-row hs gs cells (loaded_cell (slice_get hs x.row) (slice_get gs x.col) x.value t) r c a (one-row hs gs x.row x.col x.value t r c a e)

pub loaded-col : (hs gs : List ℕ) (cells : List CellRec) (t : CellTable) (r c : ℕ)
    → ((i h : ℕ) → slice_get gs i ≡ Some h → nat_eq c h ≡ false) → t r c ≡ empty_cell
    → loaded_cells hs gs cells t r c ≡ empty_cell
loaded-col hs gs [] t r c a e = e
loaded-col hs gs (x ∷ cells) t r c a e =
    loaded-col hs gs cells (loaded_cell (slice_get hs x.row) (slice_get gs x.col) x.value t) r c a (one-col hs gs x.row x.col x.value t r c a e)

-- ---- beside the cells of a document

value-last : (a b : ElementId) (cells : List Cell) (c : Cell)
    → cell_value a b (cells ++ c ∷ []) ≡ option_or (cell_value a b cells) (cond (is_cell a b c) (Some c.value) None)
value-last a b [] c = step (is_cell a b c)
  where
    step : (i : Bool) → (let none : Option Cell = None in option_map (λ (d : Cell). d.value) (cond i (Some c) none)) ≡ (let none : Option ValueBytes = None in cond i (Some c.value) none)
    step true = refl
    step false = refl
value-last a b (d ∷ cells) c = step (is_cell a b d) (value-last a b cells c)
  where
    step : (i : Bool) → cell_value a b (cells ++ c ∷ []) ≡ option_or (cell_value a b cells) (cond (is_cell a b c) (Some c.value) None)
        → option_map (λ (x : Cell). x.value) (cond i (Some d) (find (is_cell a b) (cells ++ c ∷ [])))
        ≡ option_or (option_map (λ (x : Cell). x.value) (cond i (Some d) (find (is_cell a b) cells))) (cond (is_cell a b c) (Some c.value) None)
    step true h = refl
    step false h = h

-- the value of a cell that may be given one
given : (test : Bool) (v : ValueBytes) (cell : CellState) (o : Option ValueBytes) → is_null v ≡ false → cell.pending ≡ [] → o ≡ acked_value cell
    → option_or o (cond test (Some v) None) ≡ acked_value (cond test (given_value v cell) cell)
given false v cell o n p e = none o e
  where
    none : (o : Option ValueBytes) → o ≡ acked_value cell → option_or o None ≡ acked_value cell
    none None g = g
    none (Some w) g = g
given true v cell o n p e =
    let shown : shown_value cell ≡ acked_value cell = ap (λ ws. (acked_or ws)) p in
    step o (acked_value cell) refl e ∙ sym (ap (λ s. acked_value (cond (is_some s) cell (with_acked v cell))) shown)
  where
    acked_or : List (ℕ × List ℕ) → Option ValueBytes
    acked_or ws = shown_value (record { acked = cell.acked; pending = ws })

    step : (o s : Option ValueBytes) → acked_value cell ≡ s → o ≡ acked_value cell
        → option_or o (Some v) ≡ acked_value (cond (is_some (acked_value cell)) cell (with_acked v cell))
    step None None f g =
        let plain : acked_value (with_acked v cell) ≡ Some v = ap (λ b. cond b None (Some v)) n in
        sym (ap (λ s. acked_value (cond (is_some s) cell (with_acked v cell))) f ∙ plain)
    step (Some w) None f g = (cc)
    step None (Some w) f g = (cc)
    step (Some u) (Some w) f g = g ∙ sym (ap (λ s. acked_value (cond (is_some s) cell (with_acked v cell))) f)

module _ (xs ys : List ListElement) (es gs : List (TreeElement ℕ)) where
  -- the values of the cells at equal places are equal
  abbrev pub ValuesMeet : List Cell → CellTable → Type 0
  ValuesMeet cells t = BesideUnits (λ x e. BesideUnits (λ y f. cell_value (id x) (id y) cells ≡ acked_value (t e.unit f.unit)) ys gs) xs es

  abbrev Found : List ListElement → List (TreeElement ℕ) → Option ListElement → Option (TreeElement ℕ) → Type 0
  Found us ds o p = Both ListElement (TreeElement ℕ) (λ x e. StandsHere us ds x e × (is_unremoved x ≡ true)) o p

  abbrev handle : Option (TreeElement ℕ) → Option ℕ
  handle o = option_map (λ (e : TreeElement ℕ). e.unit) o

  one-meets : (cells : List Cell) (t : CellTable) (c : CellRec) → is_null c.value ≡ false → ((r k : ℕ) → (t r k).pending ≡ []) → ValuesMeet cells t
      → (o q : Option ListElement) (p s : Option (TreeElement ℕ)) → Found xs es o p → Found ys gs q s
      → ValuesMeet (cells ++ summary.cell_at o q c) (loaded_cell (handle p) (handle s) c.value t)
  one-meets cells t c n pend m None q None s neither f = subst (λ ds. ValuesMeet ds t) (sym (append-nil cells)) m
  one-meets cells t c n pend m (Some x) None (Some e) None (each r) neither = subst (λ ds. ValuesMeet ds t) (sym (append-nil cells)) m
  one-meets cells t c n pend m None q (Some e) s r f = elim r [ ]
  one-meets cells t c n pend m (Some x) None None s r f = elim r [ ]
  one-meets cells t c n pend m (Some x) None (Some e) (Some g) r f = elim f [ ]
  one-meets cells t c n pend m (Some x) (Some y) None s r f = elim r [ ]
  one-meets cells t c n pend m (Some x) (Some y) (Some e) None r f = elim f [ ]
  one-meets cells t c n pend m (Some x) (Some y) (Some e) (Some f) (each r) (each k) =
      beside-more (λ u d q. beside-more (λ w g s.
      value-last (id u) (id w) cells (record { row = id x; col = id y; value = c.value })
      ∙ ap (λ b. option_or (cell_value (id u) (id w) cells) (cond (b && same_id (id w) (id y)) (Some c.value) None)) (same_id-turn (id u) (id x) ∙ q.1.1)
      ∙ ap (λ b. option_or (cell_value (id u) (id w) cells) (cond (nat_eq d.unit e.unit && b) (Some c.value) None)) (same_id-turn (id w) (id y) ∙ s.1.1)
      ∙ given (nat_eq d.unit e.unit && nat_eq g.unit f.unit) c.value (t d.unit g.unit) (cell_value (id u) (id w) cells) n (pend d.unit g.unit) s.0)
      (beside-both q.0 k.0.meets)) (beside-both m r.0.meets)

  module _ (once-x : Once xs) (once-y : Once ys) (once-e : HandlesOnce es) (once-g : HandlesOnce gs)
      (rows : BesideUnits (λ x e. IsUnit x e × (is_unremoved x ≡ seen_in (Stage 0) e)) xs es)
      (cols : BesideUnits (λ x e. IsUnit x e × (is_unremoved x ≡ seen_in (Stage 0) e)) ys gs) where
    abbrev handles : List (TreeElement ℕ) → List ℕ
    handles ds = retain_map (seen_in (Stage 0)) (λ e. e.unit) ds

    found : (us : List ListElement) (ds : List (TreeElement ℕ)) → Once us → HandlesOnce ds
        → BesideUnits (λ x e. IsUnit x e × (is_unremoved x ≡ seen_in (Stage 0) e)) us ds → (i : ℕ)
        → Found us ds (at is_unremoved i us) (at (seen_in (Stage 0)) i ds)
    found us ds a b h i = both-weaker (both-at is_unremoved (seen_in (Stage 0)) (λ x e q. q.1.1) i (beside-both (each-meets a b (beside-more (λ x e q. q.0) h)) h))
      where
        both-weaker : {o : Option ListElement} {p : Option (TreeElement ℕ)}
            → Both ListElement (TreeElement ℕ) (λ x e. (StandsHere us ds x e × (IsUnit x e × (is_unremoved x ≡ seen_in (Stage 0) e)))
            × (is_unremoved x ≡ true)) o p → Found us ds o p
        both-weaker neither = neither
        both-weaker (each q) = each (q.0.0, q.1)

    pub cells-meet : (done : List Cell) (t : CellTable) (cells : List CellRec) → AllByRecursion (λ c. is_null c.value ≡ false) cells
        → ((r k : ℕ) → (t r k).pending ≡ []) → ValuesMeet done t
        → ValuesMeet (done ++ cells_of xs ys cells) (loaded_cells (handles es) (handles gs) cells t)
    cells-meet done t [] n p m = subst (λ ds. ValuesMeet ds t) (sym (append-nil done)) m
    cells-meet done t (c ∷ cells) n p m =
        let o = at is_unremoved c.row xs in
        let q = at is_unremoved c.col ys in
        let h = handle (at (seen_in (Stage 0)) c.row es) in
        let k = handle (at (seen_in (Stage 0)) c.col gs) in
        let here = one-meets done t c n.0 p m o q (at (seen_in (Stage 0)) c.row es) (at (seen_in (Stage 0)) c.col gs)
        (found xs es once-x once-e rows c.row) (found ys gs once-y once-g cols c.col) in
        let a : h ≡ slice_get (handles es) c.row = sym (seen-get (seen_in (Stage 0)) (λ (d : TreeElement ℕ). d.unit) es c.row) in
        let b : k ≡ slice_get (handles gs) c.col = sym (seen-get (seen_in (Stage 0)) (λ (d : TreeElement ℕ). d.unit) gs c.col) in
        let next = subst (λ z. ValuesMeet (done ++ summary.cell_at o q c) (loaded_cell (slice_get (handles es) c.row) z c.value t)) b
        (subst (λ z. ValuesMeet (done ++ summary.cell_at o q c) (loaded_cell z k c.value t)) a here) in
        subst (λ ds. ValuesMeet ds (loaded_cells (handles es) (handles gs) (c ∷ cells) t)) (append_assoc done (summary.cell_at o q c) (cells_of xs ys cells))
        (cells-meet (done ++ summary.cell_at o q c) (loaded_cell (slice_get (handles es) c.row) (slice_get (handles gs) c.col) c.value t) cells n.1
        (one-pending (slice_get (handles es) c.row) (slice_get (handles gs) c.col) c.value t p) next)
