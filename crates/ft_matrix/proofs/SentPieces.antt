-- What is sent again of a stage, as the document tells it: units at equal places have the same pieces.
use Rattle.std.proofs.Common.{◌≡◌, ℕ, ◌-◌, ◌<◌, Bool, true, false, cond, not, ◌&&◌, ◌||◌, nat_eq, List, [], ◌∷◌, Option, Some, None, refl, sym, ◌∙◌, ap, subst, map, flat_map, length, arith}
use Rattle.std.specs.List.{list_any}
use Rattle.std.proofs.lemmas.Bool.Decides.{nat_tests}
use Rattle.ft_base.specs.declared.stamps.Stamp.{Stamp}
use Rattle.ft_base.specs.declared.stamps.Stamp.TheVariants.{Acked, Local}
use Rattle.ft_base.specs.Scan.{rank}
use Rattle.ft_base.specs.Visibility.{has_occurred_at_stage}
use Rattle.ft_base.proofs.Booleans.{both}
use Rattle.ft_block.specs.declared.leaves.LenView.TheVariants.{Stage as at_stage}
use Rattle.ft_op.specs.declared.operations.CellOp.{CellOp}
use Rattle.ft_op.specs.declared.operations.CellOp.TheVariants.{SpliceIn, SpliceOut, Set}
use Rattle.ft_op.specs.declared.operations.Target.{Target}
use Rattle.ft_op.specs.declared.operations.Target.TheVariants.{Rows, Cols}
use Rattle.ft_op.specs.Document.{Document}
use Rattle.ft_op.specs.Intervals.{NamedElements}
use Rattle.ft_op.specs.Operation.{OnGrid}
use Rattle.ft_op.specs.Pieces.{cell_op_of, grid_pieces, is_named_and_seen, op_of, position_of_named}
use Rattle.ft_op.specs.declared.operations.ChannelOp.TheVariants as channel
use Rattle.ft_op.specs.declared.operations.GridOp.TheVariants as grid
use Rattle.ft_msg.specs.Indexed.{place_in_list}
use Rattle.ft_props.specs.Properties.{ValueBytes}
use Rattle.ft_props.specs.Element.{ElementId, ListElement, PendingId, SequencedId, has_id, id, seen, stamps_of}
use Rattle.ft_props.specs.Steps.{is_inserted_by, is_removed_by, lowered_runs, stage_position}
use Rattle.ft_props.specs.Steps.{marked_runs as document_runs}
use Rattle.ft_tree_leaves.specs.Elements.{TreeElement, seen_in}
use Rattle.ft_perm.specs.Vectors.{IsProper, VectorState}
use Rattle.ft_laws_agreement.proofs.SlidEnds.{Once, same_id-eq}
use Rattle.ft_laws_agreement.proofs.Booleans.{hidden}
use Rattle.ft_laws_names.specs.WellNamed.{AreNamedBefore, IsNamedBefore}
use Rattle.ft_laws_names.proofs.Beside.{beside-any, beside-rank}
use Rattle.ft_rebase.specs.Pieces.{marked_runs}
use Rattle.ft_rebase.specs.Pieces.{is_inserted_by as is_put_in_by}
use Rattle.ft_rebase.specs.declared.marks.PendingMark.TheVariants.{Removal}
use Rattle.ft_matrix.specs.declared.stages.GridStage.{GridStage}
use Rattle.ft_matrix.specs.Resubmitted.{insertion_of, is_seen_at, place_before, place_seen, put_position, removals_of, stage_pieces, write_at}
use Rattle.ft_matrix.specs.Units.{has_handle, place_of_handle, units_of}
use Rattle.ft_matrix.proofs.HeldGrids.{MeetsAt, meet-at, some-rank}
use Rattle.ft_matrix.proofs.UnitLists.{BesideUnits, HandleNamed, IsUnit, unit-inserted, unit-seen}

-- ---- splices

module _ (k : ℕ) {xs : List ListElement} {es : List (TreeElement ℕ)} (b : BesideUnits IsUnit xs es) where
  pub same-position : put_position k es ≡ stage_position k xs
  same-position = sym (beside-rank (is_inserted_by k) (is_put_in_by k) (λ x e u. unit-inserted x e u k) (seen (k - 1)) (seen_in (at_stage (k - 1)))
      (λ x e u. unit-seen x e u (k - 1)) b)

  pub same-insertion : (target : Target) (count : ℕ)
      → map (λ op. OnGrid op) (insertion_of k target count es) ≡ cond (nat_eq count 0) [] (OnGrid (SpliceIn target (stage_position k xs) count) ∷ [])
  same-insertion target count = step (nat_eq count 0)
    where
      step : (c : Bool) → map (λ op. OnGrid op) (cond c [] (SpliceIn target (put_position k es) count ∷ [])) ≡ cond c [] (OnGrid (SpliceIn target (stage_position k xs) count) ∷ [])
      step true = refl
      step false = ap (λ p. OnGrid (SpliceIn target p count) ∷ []) same-position

  pub same-removals : (target : Target) → marked_runs k Removal es ≡ document_runs k (is_removed_by k) xs
      → map (λ op. OnGrid op) (removals_of k target es) ≡ map (λ r. OnGrid (SpliceOut target r.0 r.1)) (lowered_runs 0 (document_runs k (is_removed_by k) xs))
  same-removals target e = mapped (lowered_runs 0 (marked_runs k Removal es)) ∙ ap (λ runs. map (λ r. OnGrid (SpliceOut target r.0 r.1)) (lowered_runs 0 runs)) e
    where
      mapped : (runs : List (ℕ × ℕ)) → map (λ op. OnGrid op) (map (λ r. SpliceOut target r.0 r.1) runs) ≡ map (λ r. OnGrid (SpliceOut target r.0 r.1)) runs
      mapped [] = refl
      mapped (r ∷ runs) = ap (λ ops. OnGrid (SpliceOut target r.0 r.1) ∷ ops) (mapped runs)

-- ---- what a stage sees, the one before it sees too, unless it inserted that

occurs-next : (k : ℕ) (t : Stamp) → has_occurred_at_stage (k - 1) t ≡ true → has_occurred_at_stage k t ≡ true
occurs-next k (Acked s c) h = refl
occurs-next k (Local j) h = grind (arith, nat_tests)

none-before : (k : ℕ) (ts : List Stamp) → list_any (has_occurred_at_stage k) ts ≡ false → list_any (has_occurred_at_stage (k - 1)) ts ≡ false
none-before k [] h = refl
none-before k (t ∷ ts) h =
    step (has_occurred_at_stage (k - 1) t) (has_occurred_at_stage k t) (list_any (has_occurred_at_stage k) ts) (occurs-next k t) h (none-before k ts)
  where
    step : (a b c : Bool) → (a ≡ true → b ≡ true) → b || c ≡ false → (c ≡ false → list_any (has_occurred_at_stage (k - 1)) ts ≡ false)
        → a || list_any (has_occurred_at_stage (k - 1)) ts ≡ false
    step a true c f g r = cc g
    step true false c f g r = let never = f refl in cc never
    step false false c f g r = r g

-- the insertion of an element named before stage k occurred at the stage before
inserted-before : (k : ℕ) (a : ElementId) (x : ListElement) → IsNamedBefore k (Some a) → has_id a x ≡ true → has_occurred_at_stage (k - 1) x.ins ≡ true
inserted-before k a x b h = step x.ins a b (same_id-eq a (id x) h)
  where
    low : (j : ℕ) → j < k → has_occurred_at_stage (k - 1) (Local j) ≡ true
    low j l = grind (arith, nat_tests)

    step : (t : Stamp) (c : ElementId) → IsNamedBefore k (Some c) → c ≡ id (record x { ins = t }) → has_occurred_at_stage (k - 1) t ≡ true
    step (Acked s d) c l e = refl
    step (Local j) (SequencedId n) l e = cc e
    step (Local j) (PendingId i n) l e = let same : i ≡ j = cc e in low j (subst (λ m. m < k) same l)

seen-here : (k : ℕ) (a : ElementId) (x : ListElement) → IsNamedBefore k (Some a) → has_id a x ≡ true → seen k x ≡ true → seen (k - 1) x ≡ true
seen-here k a x b h s =
    let p = both (has_occurred_at_stage k x.ins) (not (list_any (has_occurred_at_stage k) (stamps_of x).dels)) s in
    rw (inserted-before k a x b h, none-before k (stamps_of x).dels (hidden (list_any (has_occurred_at_stage k) (stamps_of x).dels) p.1)) refl

seen-too : (k : ℕ) (a : ElementId) (xs : List ListElement) → IsNamedBefore k (Some a) → is_named_and_seen k xs (Some a) ≡ true
    → is_named_and_seen (k - 1) xs (Some a) ≡ true
seen-too k a [] b h = cc h
seen-too k a (x ∷ xs) b h = step (has_id a x) (seen k x) (seen (k - 1) x) (λ e f. seen-here k a x b e f) refl refl h (seen-too k a xs b)
  where
    step : (i s t : Bool) → (has_id a x ≡ true → seen k x ≡ true → t ≡ true) → has_id a x ≡ i → seen k x ≡ s
        → (i && s) || is_named_and_seen k xs (Some a) ≡ true
        → (is_named_and_seen k xs (Some a) ≡ true → is_named_and_seen (k - 1) xs (Some a) ≡ true) → (i && t) || is_named_and_seen (k - 1) xs (Some a) ≡ true
    step true true t f e g h r = ap (λ c. c || is_named_and_seen (k - 1) xs (Some a)) (f e g)
    step true false true f e g h r = refl
    step true false false f e g h r = r h
    step false s t f e g h r = r h

-- ---- cell writes

module _ (k : ℕ) (v : VectorState) (p : IsProper v) (xs : List ListElement) (once : Once xs) (b : BesideUnits IsUnit xs (units_of v)) where
  module _ (a : ElementId) (h : ℕ) (r : rank (has_id a) (λ _. true) xs ≡ rank (has_handle h) (λ _. true) (units_of v)) where
    met : BesideUnits (HandleNamed (MeetsAt a h)) xs (units_of v)
    met = meet-at a h once p.once b r

    same-seen : (j : ℕ) → is_seen_at j (Some h) (units_of v) ≡ is_named_and_seen j xs (Some a)
    same-seen j = sym (beside-any (λ x. has_id a x && seen j x) (λ e. has_handle h e && seen_in (at_stage j) e)
        (λ x e q. ap (λ c. c && seen j x) q.1 ∙ ap (λ c. nat_eq e.unit h && c) (unit-seen x e q.0 j)) met)

    same-place : (j : ℕ) → place_seen j (Some h) (units_of v) ≡ position_of_named j xs (Some a)
    same-place j = sym (beside-rank (has_id a) (has_handle h) (λ x e q. q.1) (seen j) (seen_in (at_stage j)) (λ x e q. unit-seen x e q.0 j) met)

    named-before : IsNamedBefore k (Some a) → place_before k (Some h) (units_of v) ≡ cond (is_named_and_seen k xs (Some a)) (Some (position_of_named (k - 1) xs (Some a))) None
    named-before n =
        ap (λ c. cond (c && is_seen_at (k - 1) (Some h) (units_of v)) (Some (place_seen (k - 1) (Some h) (units_of v))) None) (same-seen k)
        ∙ ap (λ c. cond (is_named_and_seen k xs (Some a) && c) (Some (place_seen (k - 1) (Some h) (units_of v))) None) (same-seen (k - 1))
        ∙ ap (λ i. cond (is_named_and_seen k xs (Some a) && is_named_and_seen (k - 1) xs (Some a)) (Some i) None) (same-place (k - 1))
        ∙ step (is_named_and_seen k xs (Some a)) (is_named_and_seen (k - 1) xs (Some a)) (seen-too k a xs n)
      where
        step : (c d : Bool) → (c ≡ true → d ≡ true) → cond (c && d) (Some (position_of_named (k - 1) xs (Some a))) None ≡ cond c (Some (position_of_named (k - 1) xs (Some a))) None
        step true true f = refl
        step true false f = let never = f refl in cc never
        step false d f = refl

  pub same-before : (o : Option ElementId) (q : Option ℕ) → IsNamedBefore k o → place_in_list xs o ≡ place_of_handle v q
      → place_before k q (units_of v) ≡ cond (is_named_and_seen k xs o) (Some (position_of_named (k - 1) xs o)) None
  same-before None None n e = refl
  same-before None (Some h) n e = cc e
  same-before (Some a) None n e = cc e
  same-before (Some a) (Some h) n e = named-before a h (some-rank e) n

pub same-write : (value : ValueBytes) (c d : Bool) (i j : ℕ)
    → map (λ op. OnGrid op) (write_at value (cond c (Some i) None) (cond d (Some j) None)) ≡ cond (c && d) (OnGrid (Set i j value) ∷ []) []
same-write value true true i j = refl
same-write value true false i j = refl
same-write value false d i j = refl

-- ---- the pieces of a stage of the grid

module _ (doc : Document) (rows cols : VectorState) (pr : IsProper rows) (pc : IsProper cols) (nr : Once doc.rows.items) (nc : Once doc.cols.items)
    (br : BesideUnits IsUnit doc.rows.items (units_of rows)) (bc : BesideUnits IsUnit doc.cols.items (units_of cols)) (t : GridStage) (n : NamedElements)
    (first : place_in_list doc.rows.items n.first ≡ place_of_handle rows t.row) (second : place_in_list doc.cols.items n.second ≡ place_of_handle cols t.col)
    (row-runs : marked_runs t.stage Removal (units_of rows) ≡ document_runs t.stage (is_removed_by t.stage) doc.rows.items)
    (col-runs : marked_runs t.stage Removal (units_of cols) ≡ document_runs t.stage (is_removed_by t.stage) doc.cols.items)
    (before : AreNamedBefore t.stage (OnGrid (t.op)) n) where
  pub sent-pieces : map (λ op. OnGrid op) (stage_pieces (units_of rows) (units_of cols) t) ≡ grid_pieces t.stage doc n t.op
  sent-pieces = by t.op
    where
      by : (op : CellOp) → map (λ p. OnGrid p) (stage_pieces (units_of rows) (units_of cols) (record t { op = op })) ≡ grid_pieces t.stage doc n op
      by (SpliceIn Rows p count) = same-insertion t.stage br Rows count
      by (SpliceIn Cols p count) = same-insertion t.stage bc Cols count
      by (SpliceOut Rows p q) = same-removals t.stage br Rows row-runs
      by (SpliceOut Cols p q) = same-removals t.stage bc Cols col-runs
      by (Set i j value) =
          ap (λ o. map (λ p. OnGrid p) (write_at value o (place_before t.stage t.col (units_of cols))))
          (same-before t.stage rows pr doc.rows.items nr br n.first t.row before.0 first)
          ∙ ap (λ o. map (λ p. OnGrid p) (write_at value (cond (is_named_and_seen t.stage doc.rows.items n.first) (Some (position_of_named (t.stage - 1) doc.rows.items n.first)) None) o))
          (same-before t.stage cols pc doc.cols.items nc bc n.second t.col before.1 second)
          ∙ same-write value (is_named_and_seen t.stage doc.rows.items n.first) (is_named_and_seen t.stage doc.cols.items n.second)
          (position_of_named (t.stage - 1) doc.rows.items n.first) (position_of_named (t.stage - 1) doc.cols.items n.second)

-- ---- pieces as one operation

members : (ops : List CellOp) → flat_map cell_op_of (map (λ op. OnGrid op) ops) ≡ ops
members [] = refl
members (op ∷ ops) = ap (λ os. op ∷ os) (members ops)

-- several make a group
pub grouped : (op next : CellOp) (ops : List CellOp) → op_of (map (λ p. OnGrid p) (op ∷ next ∷ ops)) ≡ Some (channel.Grid (grid.Group (op ∷ next ∷ ops)))
grouped op next ops = ap (λ os. Some (channel.Grid (grid.Group (op ∷ next ∷ os)))) (members ops)

-- two or more make a group
pub group-of : (ops : List CellOp) → (length ops ≡ 1 → ⊥) → (length ops ≡ 0 → ⊥) → op_of (map (λ p. OnGrid p) ops) ≡ Some (channel.Grid (grid.Group ops))
group-of [] one none = absurd (none refl)
group-of (op ∷ []) one none = absurd (one refl)
group-of (op ∷ next ∷ ops) one none = grouped op next ops
