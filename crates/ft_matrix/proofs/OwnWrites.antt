-- A grid and a document whose part it holds take a cell write of the client's own alike.
use Rattle.std.proofs.Common.{◌≡◌, ℕ, suc, ◌+◌, ◌≤◌, ◌<◌, All, Bool, true, false, cond, ◌&&◌, nat_eq, List, [], ◌∷◌, ◌++◌, Option, Some, None, Err, refl, sym, ◌∙◌, ap, subst, map, append-nil}
use Rattle.std.specs.Prelude.{slice_get}
use Rattle.std.specs.List.{AllByRecursion}
use Rattle.std.specs.Option.{option_map}
use Rattle.std.proofs.lemmas.List.Elements.{All-from_recursion, recursion_from_All}
use Rattle.ft_base.specs.Scan.{at, len, rank}
use Rattle.ft_block.specs.Leaves.{last_stage}
use Rattle.ft_op.specs.declared.operations.CellOp.{CellOp}
use Rattle.ft_op.specs.declared.operations.CellOp.TheVariants.{SpliceIn, SpliceOut, Set}
use Rattle.ft_msg.specs.declared.faults.EditFault.TheVariants.{OutOfRange}
use Rattle.ft_props.specs.Properties.{ValueBytes}
use Rattle.ft_props.specs.Element.{ElementId, ListElement, has_id, id, seen}
use Rattle.ft_op.specs.Document.{Document}
use Rattle.ft_op.specs.Stages.{Stage}
use Rattle.ft_op.specs.Operation.{OnGrid}
use Rattle.ft_msg.specs.Indexed.{indexed_stage}
use Rattle.ft_tree_leaves.specs.Elements.{TreeElement, seen_in}
use Rattle.ft_perm.specs.Vectors.{IsProper, VectorState, in_use, seen_handles}
use Rattle.ft_cells.specs.CellTables.{CellList, CellState, cell_at, changed_cell, empty_cell, with_write}
use Rattle.ft_laws_names.proofs.Beside.{Both, beside-more, both-at, each, neither}
use Rattle.ft_laws_names.specs.GridFacts.{is_unit_below}
use Rattle.ft_matrix.specs.declared.grid.Grid.{Grid}
use Rattle.ft_matrix.specs.declared.stages.GridStage.{GridStage}
use Rattle.ft_matrix.specs.Units.{acked_value, has_handle, shown_unit, units_of}
use Rattle.ft_matrix.specs.GridStates.{grid_state, shown_stage}
use Rattle.ft_matrix.specs.HoldsGrid.{HoldsGrid}
use Rattle.ft_matrix.specs.Conditions.{IsAboveAll}
use Rattle.ft_matrix.specs.Sound.{IsSound, StagesRise, is_handle, write_of, writes_to}
use Rattle.ft_matrix.specs.Applied.{Holds}
use Rattle.ft_matrix.specs.OwnEdits.{EditsOne, TakesStage, stage_of}
use Rattle.ft_matrix.proofs.PendingStages.{more-stages}
use Rattle.ft_matrix.proofs.Effects.{units}
use Rattle.ft_matrix.proofs.HeldGrids.{HoldsUnits, handle_value, meets-rank, other-handle, rows-beside, units-held}
use Rattle.ft_matrix.proofs.OwnEdits.{cols-below, cols-count, own_set, pushed, refuses, rows-below, rows-count, takes}
use Rattle.ft_matrix.proofs.OwnSound.{flat-behind, rise-behind, stages-above}
use Rattle.ft_matrix.proofs.OwnSteps.{AreBelow, beside-all, seen-same}
use Rattle.ft_matrix.proofs.UnitLists.{BesideUnits, unit-seen}
use Rattle.ft_matrix.proofs.Writes.{StandsHere, each-meets, found-holds, never, none-unit, seen-get, some-unit}

-- the cells after a pending write to the cell of two handles
abbrev pub IsPended : ℕ → ℕ → ℕ → ValueBytes → CellList → CellList → Type 0
IsPended h g k value old new = (r c : ℕ) → cell_at new r c ≡ changed_cell h g (with_write k value) (cell_at old) r c

pub own-handle-in-use : (v : VectorState) → IsProper v → (i h : ℕ) → Some h ≡ slice_get (seen_handles last_stage v.tree) i → in_use v h ≡ true
own-handle-in-use v p i h e =
    found-holds (λ g. in_use v g ≡ true) (seen_in last_stage) i (units_of v) h (recursion_from_All (λ (d : TreeElement ℕ). in_use v d.unit ≡ true) (units_of v) p.used)
    (sym (seen-get (seen_in last_stage) (λ (d : TreeElement ℕ). d.unit) (units_of v) i) ∙ sym e)

same-value : (k : ℕ) (value : ValueBytes) (b : Bool) (cell : CellState) → acked_value (cond b (with_write k value cell) cell) ≡ acked_value cell
same-value k value true cell = refl
same-value k value false cell = refl

module _ (last k : ℕ) (e : k ≡ last + 1) (few : last ≤ 18446744073709551615) (old : Grid) (doc : Document) (stages : List Stage) (sound : IsSound old)
    (h : Holds last old doc stages) (above : IsAboveAll k (grid_state old 0 true)) (i j : ℕ) (value : ValueBytes) where
  hu : HoldsUnits doc.rows.items doc.cols.items doc.cells (units_of old.rows) (units_of old.cols) old.cells
  hu = units last old doc stages sound h

  abbrev Found : List ListElement → List (TreeElement ℕ) → Option ListElement → Option (TreeElement ℕ) → Type 0
  Found xs es o p = Both ListElement (TreeElement ℕ) (λ x d. StandsHere xs es x d) o p

  plain : (xs : List ListElement) (es : List (TreeElement ℕ)) (o : Option ListElement) (p : Option (TreeElement ℕ))
      → Both ListElement (TreeElement ℕ) (λ x d. (StandsHere xs es x d × (is_unit_below (suc last) (shown_unit d) ≡ true))
      × (seen last x ≡ true)) o p → Found xs es o p
  plain xs es None None neither = neither
  plain xs es (Some x) (Some d) (each q) = each q.0.0
  plain xs es None (Some d) f = elim f [ ]
  plain xs es (Some x) None f = elim f [ ]

  found : (xs : List ListElement) (es : List (TreeElement ℕ)) (n : ℕ) → BesideUnits (StandsHere xs es) xs es → AreBelow (suc last) es
      → Found xs es (at (seen last) n xs) (at (seen_in last_stage) n es)
  found xs es n m b = plain xs es (at (seen last) n xs) (at (seen_in last_stage) n es) (both-at (seen last) (seen_in last_stage)
      (λ x d q. unit-seen x d q.0.unit last ∙ sym (seen-same last 18446744073709551615 d q.1 few)) n (beside-all (λ d. is_unit_below (suc last) (shown_unit d) ≡ true) m b))

  rows-found : Found doc.rows.items (units_of old.rows) (at (seen last) i doc.rows.items) (at (seen_in last_stage) i (units_of old.rows))
  rows-found = found doc.rows.items (units_of old.rows) i (each-meets h.named.rows.once sound.rows.proper.once (rows-beside hu))
      (rows-below last k e few old doc stages sound h above)

  cols-found : Found doc.cols.items (units_of old.cols) (at (seen last) j doc.cols.items) (at (seen_in last_stage) j (units_of old.cols))
  cols-found = found doc.cols.items (units_of old.cols) j (each-meets h.named.cols.once sound.cols.proper.once hu.cols) (cols-below last k e few old doc stages sound h above)

  -- ---- refused

  no-row : (o : Option ListElement) (p : Option (TreeElement ℕ)) (q : Option ListElement) → p ≡ None → Found doc.rows.items (units_of old.rows) o p
      → own_set doc last o q ≡ Err (OutOfRange (len (seen last) doc.rows.items))
  no-row None p q n f = refl
  no-row (Some x) None q n f = elim f [ ]
  no-row (Some x) (Some u) q n f = (cc)

  no-col : (o q : Option ListElement) (u p : Option (TreeElement ℕ)) (a : ℕ) → option_map (λ (d : TreeElement ℕ). d.unit) u ≡ Some a
      → p ≡ None → Found doc.rows.items (units_of old.rows) o u
      → Found doc.cols.items (units_of old.cols) q p → own_set doc last o q ≡ Err (OutOfRange (len (seen last) doc.cols.items))
  no-col None q None p a s n f g = (cc)
  no-col None q (Some d) p a s n f g = elim f [ ]
  no-col (Some x) None u p a s n f g = refl
  no-col (Some x) (Some y) u None a s n f g = elim g [ ]
  no-col (Some x) (Some y) u (Some d) a s n f g = (cc)

  pub own-no-row : (m : ℕ) → None ≡ slice_get (seen_handles last_stage old.rows.tree) i → m ≡ len (seen_in last_stage) (units_of old.rows)
      → EditsOne last k doc stages (Set i j value) old old (Some m)
  own-no-row m n c =
      refuses last k e few old doc stages sound h above (Set i j value) (len (seen last) doc.rows.items) m old
      (no-row _ _ _ (none-unit _ (sym (seen-get (seen_in last_stage) (λ (d : TreeElement ℕ). d.unit) (units_of old.rows) i) ∙ sym n)) rows-found)
      (rows-count last k e few old doc stages sound h above ∙ sym c) refl

  pub own-no-col : (m a : ℕ) → Some a ≡ slice_get (seen_handles last_stage old.rows.tree) i → None ≡ slice_get (seen_handles last_stage old.cols.tree) j
      → m ≡ len (seen_in last_stage) (units_of old.cols) → EditsOne last k doc stages (Set i j value) old old (Some m)
  own-no-col m a r n c =
      refuses last k e few old doc stages sound h above (Set i j value) (len (seen last) doc.cols.items) m old
      (no-col _ _ _ _ a (sym (seen-get (seen_in last_stage) (λ (d : TreeElement ℕ). d.unit) (units_of old.rows) i) ∙ sym r)
      (none-unit _ (sym (seen-get (seen_in last_stage) (λ (d : TreeElement ℕ). d.unit) (units_of old.cols) j) ∙ sym n)) rows-found cols-found)
      (cols-count last k e few old doc stages sound h above ∙ sym c) refl

  -- ---- taken

  -- the units and the acknowledged cells are as before
  pended : (table : CellList) (a b : ℕ) → IsPended a b k value old.cells table → HoldsGrid (grid_state (record old { cells = table }) 0 true) doc stages
  pended table a b w = record {
    rows = h.holds.rows;
    cols = h.holds.cols;
    rows_made = h.holds.rows_made;
    cols_made = h.holds.cols_made;
    cells = units-held doc old.rows old.cols table (record {
      rows = beside-more (λ x d q. (q.0, beside-more (λ y f s. (s.0, s.1 ∙ sym (same d.unit f.unit))) q.1)) hu.rows;
      cols = hu.cols;
    });
    stages = h.holds.stages;
  }
    where
      same : (r c : ℕ) → handle_value table r c ≡ handle_value old.cells r c
      same r c = ap acked_value (w r c) ∙ same-value k value (nat_eq r a && nat_eq c b) (cell_at old.cells r c)

  module _ (table : CellList) (like : Grid) (a b : ℕ) (w : IsPended a b k value old.cells table)
      (queue : like.stages.items ≡ old.stages.items ++ (record { stage = k; op = Set i j value; row = Some a; col = Some b } ∷ [])) where
    taken : (o q : Option ListElement) (p n : Option (TreeElement ℕ)) (d f : TreeElement ℕ) → p ≡ Some d → n ≡ Some f → d.unit ≡ a → f.unit ≡ b
        → Found doc.rows.items (units_of old.rows) o p → Found doc.cols.items (units_of old.cols) q n
        → own_set doc last o q ≡ own_set doc last (at (seen last) i doc.rows.items) (at (seen last) j doc.cols.items)
        → TakesStage last k (record old { cells = table; stages = like.stages }) doc stages (Set i j value)
    taken None q None n d f g l s t r c z = (cc)
    taken None q (Some u) n d f g l s t r c z = elim r [ ]
    taken (Some x) q None n d f g l s t r c z = (cc)
    taken (Some x) None (Some u) None d f g l s t r c z = (cc)
    taken (Some x) None (Some u) (Some v) d f g l s t r c z = elim c [ ]
    taken (Some x) (Some y) (Some u) None d f g l s t r c z = (cc)
    taken (Some x) (Some y) (Some u) (Some v) d f g l s t (each r) (each c) z =
        let su : u ≡ d = (cc) in
        let sv : v ≡ f = (cc) in
        let ua : u.unit ≡ a = ap (λ (m : TreeElement ℕ). m.unit) su ∙ s in
        let vb : v.unit ≡ b = ap (λ (m : TreeElement ℕ). m.unit) sv ∙ t in
        takes last k e few old doc stages sound h above (Set i j value) doc (record { first = Some (id x); second = Some (id y) })
        (record old { cells = table; stages = like.stages })
        (sym z)
        (pushed (record old { cells = table }) doc stages like k (Set i j value) (record { first = Some (id x); second = Some (id y) })
        (record { stage = k; op = Set i j value; row = Some a; col = Some b }) (pended table a b w) queue
        (here (id x) (id y) u.unit v.unit ua vb (meets-rank (id x) u.unit r.meets) (meets-rank (id y) v.unit c.meets)))
      where
        here : (m n : ElementId) (p q : ℕ) → p ≡ a → q ≡ b → rank (has_id m) (λ _. true) doc.rows.items ≡ rank (has_handle p) (λ _. true) (units_of old.rows)
            → rank (has_id n) (λ _. true) doc.cols.items ≡ rank (has_handle q) (λ _. true) (units_of old.cols)
            → indexed_stage doc (stage_of k (Set i j value) (record { first = Some m; second = Some n }))
            ≡ shown_stage old.rows old.cols (record { stage = k; op = Set i j value; row = Some a; col = Some b })
        here m n p q pa qb f g =
            ap (λ z. record { stage = k; sub_operation = OnGrid (Set i j value); places = record { first = Some z; second = Some (rank (has_id n) (λ _. true) doc.cols.items) } })
            (f ∙ ap (λ t. rank (has_handle t) (λ _. true) (units_of old.rows)) pa)
            ∙ ap (λ z. record { stage = k; sub_operation = OnGrid (Set i j value); places = record { first = Some (rank (has_handle a) (λ _. true) (units_of old.rows)); second = Some z } })
            (g ∙ ap (λ t. rank (has_handle t) (λ _. true) (units_of old.cols)) qb)

    pub own-set-taken : Some a ≡ slice_get (seen_handles last_stage old.rows.tree) i → Some b ≡ slice_get (seen_handles last_stage old.cols.tree) j
        → TakesStage last k (record old { cells = table; stages = like.stages }) doc stages (Set i j value)
    own-set-taken f g =
        let p = some-unit (at (seen_in last_stage) i (units_of old.rows)) a (sym (seen-get (seen_in last_stage) (λ (d : TreeElement ℕ). d.unit) (units_of old.rows) i) ∙ sym f) in
        let q = some-unit (at (seen_in last_stage) j (units_of old.cols)) b (sym (seen-get (seen_in last_stage) (λ (d : TreeElement ℕ). d.unit) (units_of old.cols) j) ∙ sym g) in
        taken _ _ _ _ p.0 q.0 p.1.0 q.1.0 p.1.1 q.1.1 rows-found cols-found refl

-- ---- soundness

kept-cell : (h g k : ℕ) (value : ValueBytes) (old new : CellList) → IsPended h g k value old new → (r c : ℕ)
    → (nat_eq r h && nat_eq c g) ≡ false → cell_at old r c ≡ empty_cell
    → cell_at new r c ≡ empty_cell
kept-cell h g k value old new w r c e n = w r c ∙ ap (λ b. cond b (with_write k value (cell_at old r c)) (cell_at old r c)) e ∙ n

more-writes : (k : ℕ) (value : ValueBytes) (b : Bool) (cell : CellState) (ws : List (ℕ × ValueBytes)) → cell.pending ≡ ws
    → (cond b (with_write k value cell) cell).pending ≡ ws ++ cond b ((k, value) ∷ []) []
more-writes k value true cell ws e = ap (λ us. us ++ ((k, value) ∷ [])) e
more-writes k value false cell ws e = e ∙ sym (append-nil ws)

pub own-write-sound : (old like : Grid) (k i j h g : ℕ) (value : ValueBytes) (table : CellList) → IsSound old
    → IsAboveAll k (grid_state old 0 true) → 1 ≤ k → in_use old.rows h ≡ true
    → in_use old.cols g ≡ true → IsPended h g k value old.cells table
    → like.stages.items ≡ old.stages.items ++ (record { stage = k; op = Set i j value; row = Some h; col = Some g } ∷ [])
    → IsSound (record old { cells = table; stages = like.stages })
own-write-sound old like k i j h g value table s above some a b w queue = record {
  rows = s.rows;
  cols = s.cols;
  floors = s.floors;
  held = record {
    rows = λ r c n. kept-cell h g k value old.cells table w r c (ap (λ t. t && nat_eq c g) (other-handle (in_use old.rows) h r a n)) (s.held.rows r c n);
    cols = λ r c n. kept-cell h g k value old.cells table w r c (ap (λ t. nat_eq r h && t) (other-handle (in_use old.cols) g c b n) ∙ never (nat_eq r h)) (s.held.cols r c n);
  };
  writes = λ r c. ap (λ (cell : CellState). cell.pending) (w r c)
      ∙ more-writes k value (nat_eq r h && nat_eq c g) (cell_at old.cells r c) (writes_to r c old.stages.items) (s.writes r c)
      ∙ sym (ap (writes_to r c) queue ∙ flat-behind r c old.stages.items (record { stage = k; op = Set i j value; row = Some h; col = Some g }));
  rise = subst (StagesRise 0) (sym queue) (rise-behind 0 k old.stages.items (record { stage = k; op = Set i j value; row = Some h; col = Some g }) some refl
      (stages-above old.rows old.cols k old.stages.items (recursion_from_All (λ t. t.stage < k) (map (shown_stage old.rows old.cols) old.stages.items) above.stages)) s.rise);
  pending_rows = more-stages old.stages.items (record { stage = k; op = Set i j value; row = Some h; col = Some g } ∷ []) like.stages.items (units_of old.rows) queue s.pending_rows;
  pending_cols = more-stages old.stages.items (record { stage = k; op = Set i j value; row = Some h; col = Some g } ∷ []) like.stages.items (units_of old.cols) queue s.pending_cols;
}

-- the pending writes of a cell are of stages below one that is above all
writes-below : (row col k : ℕ) (us : List GridStage) → AllByRecursion (λ (t : GridStage). t.stage < k) us
    → AllByRecursion (λ (p : ℕ × ValueBytes). p.0 < k) (writes_to row col us)
writes-below row col k [] a = tt
writes-below row col k (u ∷ us) a = step u.op u.stage u.row u.col a.0 (writes-below row col k us a.1)
  where
    step : (op : CellOp) (n : ℕ) (r c : Option ℕ) → n < k → AllByRecursion (λ (p : ℕ × ValueBytes). p.0 < k) (writes_to row col us)
        → AllByRecursion (λ (p : ℕ × ValueBytes). p.0 < k) (write_of row col (record { stage = n; op = op; row = r; col = c }) ++ writes_to row col us)
    step (SpliceIn target p count) n r c l ih = ih
    step (SpliceOut target p q) n r c l ih = ih
    step (Set i j value) n r c l ih = chosen (is_handle row r && is_handle col c)
      where
        chosen : (b : Bool) → AllByRecursion (λ (p : ℕ × ValueBytes). p.0 < k) (cond b ((n, value) ∷ []) [] ++ writes_to row col us)
        chosen true = (l, ih)
        chosen false = ih

pub pending-below : (g : Grid) (k : ℕ) → IsSound g → IsAboveAll k (grid_state g 0 true) → (r c : ℕ) → All (λ write. write.0 < k) (cell_at g.cells r c).pending
pending-below g k s above r c =
    subst (All (λ (p : ℕ × ValueBytes). p.0 < k)) (sym (s.writes r c))
    (All-from_recursion (λ (p : ℕ × ValueBytes). p.0 < k) (writes_to r c g.stages.items)
    (writes-below r c k g.stages.items (stages-above g.rows g.cols k g.stages.items
    (recursion_from_All (λ t. t.stage < k) (map (shown_stage g.rows g.cols) g.stages.items) above.stages))))
