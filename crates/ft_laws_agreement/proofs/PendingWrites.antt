-- Pending cell writes that go with a reconnection are to units that aren't shown.
use Rattle.std.proofs.Common.{◌≡◌, ℕ, ◌<◌, ◌≤◌, Bool, true, false, cond, not, ◌&&◌, ◌||◌, List, [], ◌∷◌, ◌++◌, Option, Some, None, refl, sym, ◌∙◌, ap, subst, arith, flat_map}
use Rattle.std.specs.List.{list_all, list_any}
use Rattle.std.proofs.lemmas.Bool.Decides.{nat_tests}
use Rattle.ft_base.specs.declared.stamps.Stamp.{Stamp}
use Rattle.ft_base.specs.declared.stamps.Stamp.TheVariants.{Acked, Local}
use Rattle.ft_base.specs.Visibility.{has_occurred_at_stage}
use Rattle.ft_base.proofs.Booleans.{both}
use Rattle.ft_op.specs.declared.operations.CellOp.TheVariants.{Set, SpliceIn, SpliceOut}
use Rattle.ft_props.specs.Properties.{ValueBytes}
use Rattle.ft_props.specs.Element.{ListElement, ElementId, has_id, id, is_named_by, removal_stamp, same_id, seen}
use Rattle.ft_op.specs.Operation.{OnGrid, OnIntervals, OnText, SubOperation}
use Rattle.ft_op.specs.Intervals.{NamedElements}
use Rattle.ft_op.specs.Document.{Document}
use Rattle.ft_op.specs.Pieces.{grid_pieces, is_named_and_seen, text_pieces}
use Rattle.ft_op.specs.Stages.{Stage}
use Rattle.ft_msg.specs.Content.{cell_after_stage, shown_cell_value, value_unless_null}
use Rattle.ft_msg.specs.Reconnection.{carried_stage}
use Rattle.ft_laws_agreement.specs.Reconnecting.{StagesRiseTo, is_inserted_before, writes_known_units}
use Rattle.ft_laws_agreement.proofs.OwnNames.{has_named}
use Rattle.ft_laws_agreement.proofs.SlidEnds.{same_id-eq}

earlier : (k m : ℕ) (t : Stamp) → k ≤ m → has_occurred_at_stage k t ≡ true → has_occurred_at_stage m t ≡ true
earlier k m (Acked s c) l h = refl
earlier k m (Local j) l h = grind (arith, nat_tests)

any-earlier : (k m : ℕ) (ts : List Stamp) → k ≤ m → list_any (has_occurred_at_stage k) ts ≡ true → list_any (has_occurred_at_stage m) ts ≡ true
any-earlier k m [] l h = (cc)
any-earlier k m (t ∷ ts) l h = grind (arith, any-earlier k m ts, earlier k m t)

-- an element that is seen at last, and was there at stage k, was seen then
seen-earlier : (k m : ℕ) (e : ListElement) → k ≤ m → has_occurred_at_stage k e.ins ≡ true → seen m e ≡ true → seen k e ≡ true
seen-earlier k m e l h s = step (list_any (has_occurred_at_stage k) (e.dels ++ removal_stamp e.removal_stage)) refl
  where
    dels : List Stamp
    dels = e.dels ++ removal_stamp e.removal_stage

    step : (b : Bool) → list_any (has_occurred_at_stage k) (e.dels ++ removal_stamp e.removal_stage) ≡ b → has_occurred_at_stage k e.ins
        && not (list_any (has_occurred_at_stage k) (e.dels ++ removal_stamp e.removal_stage)) ≡ true
    step true q = let r = any-earlier k m (e.dels ++ removal_stamp e.removal_stage) l q in grind (arith)
    step false q = rw (h, q) refl

named-earlier : (k m : ℕ) (x : ElementId) (xs : List ListElement) → k ≤ m → list_all (λ e. not (has_id x e) || has_occurred_at_stage k e.ins) xs ≡ true
    → has_named (seen m) xs x ≡ true → has_named (seen k) xs x ≡ true
named-earlier k m x [] l h n = (cc)
named-earlier k m x (e ∷ xs) l h n =
    let p = both (not (has_id x e) || has_occurred_at_stage k e.ins) (list_all (λ e. not (has_id x e) || has_occurred_at_stage k e.ins) xs) h in
    step (same_id x (id e)) (seen m e) refl refl p.0 n (named-earlier k m x xs l p.1)
  where
    later : (a b : Bool) → b ≡ true → a || b ≡ true
    later true b h = refl
    later false b h = h

    step : (a b : Bool) → same_id x (id e) ≡ a → seen m e ≡ b → not a || has_occurred_at_stage k e.ins ≡ true → (a && b) || has_named (seen m) xs x ≡ true
        → (has_named (seen m) xs x ≡ true → has_named (seen k) xs x ≡ true)
        → (a && seen k e) || has_named (seen k) xs x ≡ true
    step true true p q h n g = ap (λ b. b || has_named (seen k) xs x) (seen-earlier k m e l h q)
    step true false p q h n g = later (seen k e) _ (g n)
    step false b p q h n g = g n

module _ (doc : Document) (m : ℕ) (row col : ElementId) (row-seen : has_named (seen m) doc.rows.items row ≡ true) (col-seen : has_named (seen m) doc.cols.items col ≡ true) where
  named-seen : (k : ℕ) (x : ElementId) (xs : List ListElement) (o : Option ElementId) → k ≤ m → has_named (seen m) xs x ≡ true → is_inserted_before k xs o
      ≡ true → is_named_by x o ≡ true → is_named_and_seen k xs o ≡ true
  named-seen k x xs None l s b n = (cc)
  named-seen k x xs (Some y) l s b n =
      let e : x ≡ y = same_id-eq x y n in
      named-earlier k m y xs l b (subst (λ z. has_named (seen m) xs z ≡ true) e s)

  both-seen : (a b : Bool) → a && b ≡ false → a ≡ true → b ≡ true → false ≡ true
  both-seen true true h p q = (cc)
  both-seen true false h p q = (cc)
  both-seen false b h p q = (cc)

  -- a write without a piece is to another cell
  pub set-gone : (k i j : ℕ) (value : ValueBytes) (names : NamedElements) (v : Option ValueBytes) → k ≤ m → is_inserted_before k doc.rows.items names.first
      && is_inserted_before k doc.cols.items names.second ≡ true
      → is_named_and_seen k doc.rows.items names.first && is_named_and_seen k doc.cols.items names.second ≡ false
      → cond (is_named_by row names.first && is_named_by col names.second) (value_unless_null value) v ≡ v
  set-gone k i j value names v l w h = step (is_named_by row names.first) (is_named_by col names.second) refl refl
    where
      units : (is_inserted_before k doc.rows.items names.first ≡ true) × (is_inserted_before k doc.cols.items names.second ≡ true)
      units = both (is_inserted_before k doc.rows.items names.first) (is_inserted_before k doc.cols.items names.second) w

      step : (a b : Bool) → is_named_by row names.first ≡ a → is_named_by col names.second ≡ b → cond (a && b) (value_unless_null value) v ≡ v
      step true true p q =
          let r : false ≡ true = both-seen (is_named_and_seen k doc.rows.items names.first) (is_named_and_seen k doc.cols.items names.second) h
          (named-seen k row doc.rows.items names.first l row-seen units.0 p) (named-seen k col doc.cols.items names.second l col-seen units.1 q) in
          absurd cc
      step true false p q = refl
      step false b p q = refl

  no-piece : (b : Bool) (ps : List SubOperation) (o : SubOperation) → cond b (o ∷ []) [] ≡ [] → b ≡ false
  no-piece true ps o h = absurd cc
  no-piece false ps o h = refl

  module _ (stages : List Stage) (v : Option ValueBytes) (later : (w : Option ValueBytes) → shown_cell_value row col w (flat_map (carried_stage doc) stages)
      ≡ shown_cell_value row col w stages) where
    by_pieces : (t : Stage) (ps : List SubOperation) → (ps ≡ [] → cell_after_stage row col t v ≡ v)
        → shown_cell_value row col v ((elim ps [ [] ↦ [] | _ ∷ _ ↦ t ∷ [] ]) ++ flat_map (carried_stage doc) stages)
        ≡ shown_cell_value row col (cell_after_stage row col t v) stages
    by_pieces t [] f = later v ∙ ap (λ w. shown_cell_value row col w stages) (sym (f refl))
    by_pieces t (p ∷ ps) f = later (cell_after_stage row col t v)

    value-stage : (k : ℕ) (o : SubOperation) (names : NamedElements) → k ≤ m
        → writes_known_units doc.rows.items doc.cols.items (record { stage = k; sub_operation = o; names = names }) ≡ true
        → shown_cell_value row col v (flat_map (carried_stage doc) (record { stage = k; sub_operation = o; names = names } ∷ stages))
        ≡ shown_cell_value row col v (record { stage = k; sub_operation = o; names = names } ∷ stages)
    value-stage k (OnText op) names l w = by_pieces (record { stage = k; sub_operation = OnText op; names = names }) (text_pieces k doc.text.items op) (λ e. refl)
    value-stage k (OnIntervals op) names l w = later v
    value-stage k (OnGrid (SpliceIn target p count)) names l w = by_pieces
        (record { stage = k; sub_operation = OnGrid (SpliceIn target p count); names = names }) (grid_pieces k doc names (SpliceIn target p count)) (λ e. refl)
    value-stage k (OnGrid (SpliceOut target p q)) names l w = by_pieces (record { stage = k; sub_operation = OnGrid (SpliceOut target p q); names = names })
        (grid_pieces k doc names (SpliceOut target p q)) (λ e. refl)
    value-stage k (OnGrid (Set i j value)) names l w =
        by_pieces (record { stage = k; sub_operation = OnGrid (Set i j value); names = names }) (grid_pieces k doc names (Set i j value))
        (λ e. set-gone k i j value names v l w (no-piece (is_named_and_seen k doc.rows.items names.first && is_named_and_seen k doc.cols.items names.second) [] _ e))

  rise-below : (j k : ℕ) (stages : List Stage) → StagesRiseTo j stages k → j ≤ k
  rise-below j k [] h = h
  rise-below j k (t ∷ stages) h =
      let b : j < t.stage = h.0 in
      let c : t.stage ≤ k = rise-below t.stage k stages h.1 in
      omega arith

  -- the value of a shown cell is the same with the stages as they go on
  pub value-same : (stages : List Stage) (j : ℕ) → StagesRiseTo j stages m → list_all (writes_known_units doc.rows.items doc.cols.items) stages ≡ true → (v : Option ValueBytes)
      → shown_cell_value row col v (flat_map (carried_stage doc) stages) ≡ shown_cell_value row col v stages
  value-same [] j rise w v = refl
  value-same (t ∷ stages) j rise w v =
      let p = both (writes_known_units doc.rows.items doc.cols.items t) (list_all (writes_known_units doc.rows.items doc.cols.items) stages) w in
      value-stage stages v (value-same stages t.stage rise.1 p.1) t.stage t.sub_operation t.names (rise-below t.stage m stages rise.1) p.0
