-- A grid stays sound where a pending stage is added.
use Rattle.std.proofs.Common.{◌≡◌, ℕ, zero, suc, ◌+◌, ◌<◌, All, true, false, ◌&&◌, List, [], ◌∷◌, ◌++◌, None, refl, sym, ◌∙◌, ap, subst, map, arith, append-nil, append_assoc}
use Rattle.std.specs.List.{AllByRecursion, list_all}
use Rattle.std.proofs.lemmas.Bool.Decides.{nat_tests}
use Rattle.std.proofs.lemmas.List.Elements.{All-from_recursion, recursion_from_All}
use Rattle.ft_base.specs.declared.stamps.Stamp.{Stamp}
use Rattle.ft_base.specs.declared.stamps.Stamp.TheVariants.{Acked, Local}
use Rattle.ft_base.specs.Scan.{no_run, put_past}
use Rattle.ft_base.specs.Visibility.{is_acked}
use Rattle.ft_base.proofs.Booleans.{both}
use Rattle.ft_block.specs.Leaves.{last_stage}
use Rattle.ft_op.specs.declared.operations.CellOp.{CellOp}
use Rattle.ft_op.specs.declared.operations.Target.{Target}
use Rattle.ft_op.specs.declared.operations.Target.TheVariants.{Rows, Cols}
use Rattle.ft_props.specs.Element.{NamelessElement}
use Rattle.ft_msg.specs.Indexed.{IndexedStage}
use Rattle.ft_tree_leaves.specs.Elements.{TreeElement, new_elements, removed_stamps, seen_in, with_stamps}
use Rattle.ft_perm.specs.Handles.{handles_of, numbers_from}
use Rattle.ft_perm.specs.Vectors.{VectorState, in_use}
use Rattle.ft_laws_names.specs.GridFacts.{is_stamp_below, is_unit_below}
use Rattle.ft_matrix.specs.declared.grid.Grid.{Grid}
use Rattle.ft_matrix.specs.declared.stages.GridStage.{GridStage}
use Rattle.ft_matrix.specs.Units.{shown_unit, units_of}
use Rattle.ft_matrix.specs.GridStates.{grid_state, shown_stage}
use Rattle.ft_matrix.specs.Conditions.{IsAboveAll}
use Rattle.ft_matrix.specs.Sides.{units_at, with_units_at}
use Rattle.ft_matrix.specs.Sound.{ArePending, IsSound, IsSoundVector, StagesRise, write_of, writes_to}
use Rattle.ft_matrix.specs.Splices.{Inserts, Removes}
use Rattle.ft_matrix.proofs.OwnSteps.{AreBelow, below-of}
use Rattle.ft_matrix.proofs.PendingStages.{more-stages}
use Rattle.ft_matrix.proofs.SoundVectors.{all-put, all-range, all-weaker}

-- ---- stages above

pub stages-above : (rows cols : VectorState) (k : ℕ) (us : List GridStage) → AllByRecursion (λ (t : IndexedStage). t.stage < k) (map (shown_stage rows cols) us)
    → AllByRecursion (λ (t : GridStage). t.stage < k) us
stages-above rows cols k [] a = tt
stages-above rows cols k (u ∷ us) a = (a.0, stages-above rows cols k us a.1)

pub rise-behind : (low k : ℕ) (us : List GridStage) (u : GridStage) → low < k → u.stage ≡ k
    → AllByRecursion (λ (t : GridStage). t.stage < k) us → StagesRise low us
    → StagesRise low (us ++ (u ∷ []))
rise-behind low k [] u l e a r = (subst (λ n. low < n) (sym e) l, tt)
rise-behind low k (t ∷ us) u l e a r = (r.0, rise-behind t.stage k us u a.0 e a.1 r.1)

pub flat-behind : (row col : ℕ) (us : List GridStage) (u : GridStage) → writes_to row col (us ++ (u ∷ [])) ≡ writes_to row col us ++ write_of row col u
flat-behind row col [] u = append-nil (write_of row col u)
flat-behind row col (t ∷ us) u = ap (λ ws. write_of row col t ++ ws) (flat-behind row col us u)
    ∙ sym (append_assoc (write_of row col t) (writes_to row col us) (write_of row col u))

pub splice-writes : (row col : ℕ) (us vs : List GridStage) (u : GridStage) → vs ≡ us ++ (u ∷ []) → write_of row col u ≡ []
    → writes_to row col vs ≡ writes_to row col us
splice-writes row col us vs u e n = ap (writes_to row col) e ∙ flat-behind row col us u ∙ ap (λ ws. writes_to row col us ++ ws) n ∙ append-nil (writes_to row col us)

module _ (old like : Grid) (k : ℕ) (op : CellOp) (sound : IsSound old) (above : IsAboveAll k (grid_state old 0 true))
    (queue : like.stages.items ≡ old.stages.items ++ (record { stage = k; op = op; row = None; col = None } ∷ []))
    (none : (row col : ℕ) → write_of row col (record { stage = k; op = op; row = None; col = None }) ≡ []) (some : 0 < k) where
  abbrev here : GridStage
  here = record { stage = k; op = op; row = None; col = None }

  before : AllByRecursion (λ (t : GridStage). t.stage < k) old.stages.items
  before = stages-above old.rows old.cols k old.stages.items
      (recursion_from_All (λ (t : IndexedStage). t.stage < k) (map (shown_stage old.rows old.cols) old.stages.items) above.stages)

  rises : StagesRise 0 like.stages.items
  rises = subst (StagesRise 0) (sym queue) (rise-behind 0 k old.stages.items (record { stage = k; op = op; row = None; col = None }) some refl before sound.rise)

  pub stage-sound : (target : Target) (v : VectorState) → IsSoundVector v → ((h : ℕ) → in_use v h ≡ false → in_use (units_at target old) h ≡ false)
      → v.tree.floor ≡ (units_at target old).tree.floor → ArePending like.stages.items (units_of v)
      → IsSound (record (with_units_at target old v) { stages = like.stages })
  stage-sound Rows v s u f p = record {
    rows = s;
    cols = sound.cols;
    floors = sound.floors ∙ sym f;
    held = record { rows = λ r c n. sound.held.rows r c (u r n); cols = λ r c n. sound.held.cols r c n };
    writes = λ r c. sound.writes r c ∙ sym (splice-writes r c old.stages.items like.stages.items here queue (none r c));
    rise = rises;
    pending_rows = p;
    pending_cols = more-stages old.stages.items (here ∷ []) like.stages.items (units_of old.cols) queue sound.pending_cols;
  }
  stage-sound Cols v s u f p = record {
    rows = sound.rows;
    cols = s;
    floors = f ∙ sound.floors;
    held = record { rows = λ r c n. sound.held.rows r c n; cols = λ r c n. sound.held.cols r c (u c n) };
    writes = λ r c. sound.writes r c ∙ sym (splice-writes r c old.stages.items like.stages.items here queue (none r c));
    rise = rises;
    pending_rows = more-stages old.stages.items (here ∷ []) like.stages.items (units_of old.rows) queue sound.pending_rows;
    pending_cols = p;
  }

-- ---- all is below the next stage

later-stamp : (k : ℕ) (t : Stamp) → is_stamp_below k t ≡ true → is_stamp_below (k + 1) t ≡ true
later-stamp k (Acked s c) h = refl
later-stamp k (Local j) h = grind (arith, nat_tests)

later-stamps : (k : ℕ) (ts : List Stamp) → list_all (is_stamp_below k) ts ≡ true → list_all (is_stamp_below (k + 1)) ts ≡ true
later-stamps k [] h = refl
later-stamps k (t ∷ ts) h =
    let p = both (is_stamp_below k t) (list_all (is_stamp_below k) ts) h in
    ap (λ b. b && list_all (is_stamp_below (k + 1)) ts) (later-stamp k t p.0) ∙ later-stamps k ts p.1

pub later-unit : (k : ℕ) (e : NamelessElement) → is_unit_below k e ≡ true → is_unit_below (k + 1) e ≡ true
later-unit k e h =
    let p = both (is_stamp_below k e.stamps.ins) (list_all (is_stamp_below k) e.stamps.dels) h in
    ap (λ b. b && list_all (is_stamp_below (k + 1)) e.stamps.dels) (later-stamp k e.stamps.ins p.0) ∙ later-stamps k e.stamps.dels p.1

here-below : (k : ℕ) → is_stamp_below (k + 1) (Local k) ≡ true
here-below k = grind (arith, nat_tests)

new-below : (k first count : ℕ) → AreBelow (k + 1) (new_elements (Local k) None [] (numbers_from first count))
new-below k first zero = tt
new-below k first (suc count) = (ap (λ b. b && true) (here-below k), new-below k (first + 1) count)

mark-below : (k : ℕ) (ts : List Stamp) → list_all (is_stamp_below (k + 1)) ts ≡ true
    → list_all (is_stamp_below (k + 1)) (put_past is_acked (Local k ∷ []) ts) ≡ true
mark-below k [] h = ap (λ b. b && true) (here-below k)
mark-below k (Acked s c ∷ ts) h = mark-below k ts h
mark-below k (Local j ∷ ts) h = ap (λ b. b && list_all (is_stamp_below (k + 1)) (Local j ∷ ts)) (here-below k) ∙ h

marked-below : (k : ℕ) (e : TreeElement ℕ) → is_unit_below (k + 1) (shown_unit e) ≡ true
    → is_unit_below (k + 1) (shown_unit (with_stamps (removed_stamps (Local k)) e)) ≡ true
marked-below k e h =
    let p = both (is_stamp_below (k + 1) e.stamps.ins) (list_all (is_stamp_below (k + 1)) e.stamps.dels) h in
    ap (λ b. b && list_all (is_stamp_below (k + 1)) (put_past is_acked (Local k ∷ []) e.stamps.dels)) p.0 ∙ mark-below k e.stamps.dels p.1

shown-below : (k : ℕ) (es : List (TreeElement ℕ)) → AreBelow k es → AllByRecursion (λ x. is_unit_below k x ≡ true) (map shown_unit es)
shown-below k [] a = tt
shown-below k (e ∷ es) a = (a.0, shown-below k es a.1)

pub units-below : (k : ℕ) (v : VectorState) → All (λ x. is_unit_below k x ≡ true) (map shown_unit (units_of v)) → AreBelow k (units_of v)
units-below k v a = below-of k (units_of v) (recursion_from_All (λ x. is_unit_below k x ≡ true) (map shown_unit (units_of v)) a)

pub below-at : (target : Target) (k : ℕ) (g : Grid) → IsAboveAll k (grid_state g 0 true) → AreBelow k (units_of (units_at target g))
below-at Rows k g a = units-below k g.rows a.rows
below-at Cols k g a = units-below k g.cols a.cols

pub below-units : (k : ℕ) (v : VectorState) → AreBelow k (units_of v) → All (λ x. is_unit_below k x ≡ true) (map shown_unit (units_of v))
below-units k v a = All-from_recursion (λ x. is_unit_below k x ≡ true) (map shown_unit (units_of v)) (shown-below k (units_of v) a)

pub later-units : (k : ℕ) (v : VectorState) → AreBelow k (units_of v) → AreBelow (k + 1) (units_of v)
later-units k v a = all-weaker (λ (e : TreeElement ℕ). is_unit_below k (shown_unit e) ≡ true) (λ (e : TreeElement ℕ). is_unit_below (k + 1) (shown_unit e) ≡ true)
    (λ e h. later-unit k (shown_unit e) h) (units_of v) a

pub put-below : (p count k : ℕ) (old new : VectorState) → Inserts last_stage no_run (Local k) p count old new true
    → AreBelow k (units_of old) → AreBelow (k + 1) (units_of new)
put-below p count k old new i a =
    subst (AreBelow (k + 1)) (sym i.1.units)
    (all-put (λ (e : TreeElement ℕ). is_unit_below (k + 1) (shown_unit e) ≡ true) no_run (new_elements (Local k) None [] (handles_of i.1.run))
    (new-below k i.1.run.first i.1.run.count) (seen_in last_stage) p (units_of old) (later-units k old a))

pub range-below : (p q k : ℕ) (old new : VectorState) → Removes last_stage (Local k) p q old new true → AreBelow k (units_of old)
    → AreBelow (k + 1) (units_of new)
range-below p q k old new i a =
    subst (AreBelow (k + 1)) (sym i.1.units)
    (all-range (λ (e : TreeElement ℕ). is_unit_below (k + 1) (shown_unit e) ≡ true) (seen_in last_stage) (with_stamps (removed_stamps (Local k)))
    (λ e h. marked-below k e h) 0 p q (units_of old) (later-units k old a))

stage-later : (k : ℕ) (us : List GridStage) → AllByRecursion (λ (t : GridStage). t.stage < k) us → (u : GridStage) → u.stage ≡ k
    → AllByRecursion (λ (t : GridStage). t.stage < k + 1) (us ++ (u ∷ []))
stage-later k [] a u e = (omega arith, tt)
stage-later k (t ∷ us) a u e = let l = a.0 in (omega arith, stage-later k us a.1 u e)

shown-above : (rows cols : VectorState) (k : ℕ) (us : List GridStage) → AllByRecursion (λ (t : GridStage). t.stage < k) us
    → AllByRecursion (λ (t : IndexedStage). t.stage < k) (map (shown_stage rows cols) us)
shown-above rows cols k [] a = tt
shown-above rows cols k (u ∷ us) a = (a.0, shown-above rows cols k us a.1)

-- the next stage is above all
pub next-above : (old new : Grid) (k : ℕ) (u : GridStage) → IsAboveAll k (grid_state old 0 true) → u.stage ≡ k → new.stages.items ≡ old.stages.items ++ (u ∷ [])
    → AreBelow (k + 1) (units_of new.rows) → AreBelow (k + 1) (units_of new.cols) → IsAboveAll (k + 1) (grid_state new 0 true)
next-above old new k u above e queue rows cols = record {
  rows = below-units (k + 1) new.rows rows;
  cols = below-units (k + 1) new.cols cols;
  stages = All-from_recursion (λ (t : IndexedStage). t.stage < k + 1) (map (shown_stage new.rows new.cols) new.stages.items)
      (shown-above new.rows new.cols (k + 1) new.stages.items (subst (AllByRecursion (λ (t : GridStage). t.stage < k + 1)) (sym queue)
      (stage-later k old.stages.items (stages-above old.rows old.cols k old.stages.items
      (recursion_from_All (λ (t : IndexedStage). t.stage < k) (map (shown_stage old.rows old.cols) old.stages.items) above.stages)) u e)));
}

-- with units of a splice at stage k
pub splice-above : (target : Target) (old : Grid) (v : VectorState) (like : Grid) (k : ℕ) (u : GridStage) → IsAboveAll k (grid_state old 0 true) → u.stage ≡ k
    → like.stages.items ≡ old.stages.items ++ (u ∷ []) → (AreBelow k (units_of (units_at target old)) → AreBelow (k + 1) (units_of v))
    → IsAboveAll (k + 1) (grid_state (record (with_units_at target old v) { stages = like.stages }) 0 true)
splice-above Rows old v like k u above e queue f =
    next-above old (record old { rows = v; stages = like.stages }) k u above e queue (f (units-below k old.rows above.rows))
    (later-units k old.cols (units-below k old.cols above.cols))
splice-above Cols old v like k u above e queue f =
    next-above old (record old { cols = v; stages = like.stages }) k u above e queue
    (later-units k old.rows (units-below k old.rows above.rows)) (f (units-below k old.cols above.cols))
