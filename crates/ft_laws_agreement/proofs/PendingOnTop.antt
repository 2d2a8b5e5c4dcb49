-- What a client shows is what the log shows once its pending operations are sequenced next.
use Rattle.std.proofs.Common.{◌≡◌, ℕ, suc, ◌+◌, Bool, true, false, cond, not, ◌&&◌, ◌||◌, List, [], ◌∷◌, ◌++◌, Option, Some, None, refl, sym, ◌∙◌, ap, subst, arith, filter, find, length, map, nat_eq, nat_le, nat_lt, pos, take}
use Rattle.std.specs.Option.{option_map}
use Rattle.std.specs.List.{list_all, list_any}
use Rattle.std.proofs.lemmas.Bool.Decides.{nat_tests}
use Rattle.ft_base.specs.declared.stamps.Stamp.{Stamp}
use Rattle.ft_base.specs.declared.stamps.Stamp.TheVariants.{Acked, Local}
use Rattle.ft_base.specs.Visibility.{is_acked}
use Rattle.ft_base.proofs.Booleans.{both}
use Rattle.ft_op.specs.declared.operations.Target.TheVariants.{Cols, Rows}
use Rattle.ft_msg.specs.declared.messages.Entry.{Entry}
use Rattle.ft_props.specs.declared.properties.Changes.{Changes}
use Rattle.ft_props.specs.Properties.{ValueBytes, shown_props}
use Rattle.ft_props.specs.Element.{ListElement, ElementId, PendingId, SequencedId, has_id, id, id_of_stamp, is_named_by, is_sequenced, same_id, seen, without_pending}
use Rattle.ft_props.specs.Steps.{carried_element}
use Rattle.ft_props.specs.Slide.{end_number}
use Rattle.ft_op.specs.Cells.{Cell, cell_value, is_cell, write_cell}
use Rattle.ft_op.specs.Document.{Document, sequenced_part}
use Rattle.ft_op.specs.Intervals.{Interval}
use Rattle.ft_op.specs.Stages.{Stage, shown_intervals}
use Rattle.ft_msg.specs.Agreed.{agreed}
use Rattle.ft_msg.specs.Applied.{applied}
use Rattle.ft_msg.specs.Client.{NaiveClient, stages_of}
use Rattle.ft_msg.specs.Content.{all_cells, cell_after_stage, cell_record, content, content_characters, content_markers, extended_property_runs, interval_record, markers_from, property_runs_from, row_cells, shown, shown_cell_value, text_characters, value_unless_null}
use Rattle.ft_laws_agreement.specs.Reconnecting.{inserts_text, removes_text}
use Rattle.ft_laws_agreement.specs.Sequencing.{Each, IsReady, annotates_text, inserts_in, is_cell_below, is_name_below, removes_in}
use Rattle.ft_laws_agreement.specs.Starts.{shown_with_pending}
use Rattle.ft_laws_agreement.specs.Trimming.{IsConsistent, are_distinct_elements}
use Rattle.ft_laws_agreement.proofs.CellValues.{value-write}
use Rattle.ft_laws_agreement.proofs.ConsistentDocument.{agreed-consistent}
use Rattle.ft_laws_agreement.proofs.DistinctStages.{stage_list-distinct}
use Rattle.ft_laws_agreement.proofs.EditsInOrder.{edits-reached}
use Rattle.ft_laws_agreement.proofs.FollowingOrder.{Ahead, Follows, IsLogged, IsWritten, Log, col-views, each-stage_list, rank-same, row-views, text-views, written_cells}
use Rattle.ft_laws_agreement.proofs.ListSteps.{each-all}
use Rattle.ft_laws_agreement.proofs.ListStages.{left_change, left_changes}
use Rattle.ft_laws_agreement.proofs.OwnNames.{has_named, own-named}
use Rattle.ft_laws_agreement.proofs.PairedIntervals.{pairs-shown}
use Rattle.ft_laws_agreement.proofs.PairedLists.{Pair, agree, each-both, each-with, filter-map, has_pair, lefts, own-pair, rights}
use Rattle.ft_laws_agreement.proofs.SequencedFromNow.{reached-first}
use Rattle.ft_laws_agreement.proofs.SequencedStages.{Beside, Image, each-under, pending_up_to}
use Rattle.ft_laws_agreement.proofs.SettledEnds.{is_left, named-filter, records-same, seen-same}
use Rattle.ft_laws_agreement.proofs.StageViews.{stage_list}
use Rattle.ft_laws_agreement.proofs.SlidEnds.{same_id-eq}

-- ---- tests that agree on a list

filter-same : (see other : ListElement → Bool) (xs : List ListElement) → Each (λ e. see e ≡ other e) xs → filter see xs ≡ filter other xs
filter-same see other [] h = refl
filter-same see other (e ∷ xs) h = ap (λ b. cond b (e ∷ filter see xs) (filter see xs)) h.0 ∙ ap (λ us. cond (other e) (e ∷ us) us) (filter-same see other xs h.1)

-- ---- what is shown of pairs

-- the two elements of a pair are shown alike
record IsAlike (p : Pair) : Type 0 where
  content : p.1.content ≡ p.0.content
  props : shown_props p.1.props p.1.pending ≡ shown_props p.0.props p.0.pending

alike-characters : (ps : List Pair) → Each IsAlike ps → text_characters (rights ps) ≡ text_characters (lefts ps)
alike-characters [] h = refl
alike-characters (p ∷ ps) h = ap (λ c. content_characters c ++ text_characters (rights ps)) h.0.content ∙ ap (λ us. content_characters p.0.content ++ us) (alike-characters ps h.1)

alike-markers : (i : ℕ) (ps : List Pair) → Each IsAlike ps → markers_from i (rights ps) ≡ markers_from i (lefts ps)
alike-markers i [] h = refl
alike-markers i (p ∷ ps) h = ap (λ c. content_markers i c ++ markers_from (i + 1) (rights ps)) h.0.content
    ∙ ap (λ us. content_markers i p.0.content ++ us) (alike-markers (i + 1) ps h.1)

alike-runs : (i : ℕ) (ps : List Pair) → Each IsAlike ps → property_runs_from i (rights ps) ≡ property_runs_from i (lefts ps)
alike-runs i [] h = refl
alike-runs i (p ∷ ps) h = ap (λ q. extended_property_runs i q (property_runs_from (i + 1) (rights ps))) h.0.props
    ∙ ap (extended_property_runs i (shown_props p.0.props p.0.pending)) (alike-runs (i + 1) ps h.1)

as-long : (ps : List Pair) → length (rights ps) ≡ length (lefts ps)
as-long [] = refl
as-long (p ∷ ps) = ap suc (as-long ps)

module _ (ks cs : List Cell) (stages : List Stage) where
  paired-row : (i : ℕ) (p : Pair) (j : ℕ) (qs : List Pair) → Each (λ q. cell_value (id p.1) (id q.1) ks
      ≡ shown_cell_value (id p.0) (id q.0) (cell_value (id p.0) (id q.0) cs) stages) qs
      → row_cells ks [] i (id p.1) j (rights qs) ≡ row_cells cs stages i (id p.0) j (lefts qs)
  paired-row i p j [] h = refl
  paired-row i p j (q ∷ qs) h =
      ap (λ v. cell_record i j v ++ row_cells ks [] i (id p.1) (j + 1) (rights qs)) h.0
      ∙ ap (λ us. cell_record i j (shown_cell_value (id p.0) (id q.0) (cell_value (id p.0) (id q.0) cs) stages) ++ us) (paired-row i p (j + 1) qs h.1)

  paired-cells : (qs : List Pair) (i : ℕ) (ps : List Pair) → Each (λ p. Each
      (λ q. cell_value (id p.1) (id q.1) ks ≡ shown_cell_value (id p.0) (id q.0) (cell_value (id p.0) (id q.0) cs) stages) qs) ps
      → all_cells ks [] (rights qs) i (rights ps) ≡ all_cells cs stages (lefts qs) i (lefts ps)
  paired-cells qs i [] h = refl
  paired-cells qs i (p ∷ ps) h =
      ap (λ us. us ++ all_cells ks [] (rights qs) (i + 1) (rights ps)) (paired-row i p 0 qs h.0)
      ∙ ap (λ us. row_cells cs stages i (id p.0) 0 (lefts qs) ++ us) (paired-cells qs (i + 1) ps h.1)

-- ---- pairs of names

each-pair : (S : Pair → Type 0) (ps : List Pair) (b z : ElementId) (G : Type 0) → Each S ps → has_pair ps b z ≡ true → ((p : Pair) → S p → b ≡ id p.0 → z ≡ id p.1 → G) → G
each-pair S [] b z G h k f = absurd (cc k)
each-pair S (p ∷ ps) b z G h k f = step (same_id b (id p.0)) (same_id z (id p.1)) refl refl k (each-pair S ps b z G h.1)
  where
    step : (u v : Bool) → same_id b (id p.0) ≡ u → same_id z (id p.1) ≡ v → (u && v) || has_pair ps b z ≡ true
        → (has_pair ps b z ≡ true → ((p : Pair) → S p → b ≡ id p.0 → z ≡ id p.1 → G) → G) → G
    step true true i j k g = f p h.0 (same_id-eq b (id p.0) i) (same_id-eq z (id p.1) j)
    step true false i j k g = g k f
    step false v i j k g = g k f

-- names of pairs are equal on one side where they are on the other
pair-agree : (ps : List Pair) → are_distinct_elements (lefts ps) ≡ true → are_distinct_elements (rights ps) ≡ true → (a y b z : ElementId) → has_pair ps a y ≡ true
    → has_pair ps b z ≡ true → same_id a b ≡ same_id y z
pair-agree ps d f a y b z h k =
    each-pair (λ p. has_id a p.0 ≡ has_id y p.1) ps b z (same_id a b ≡ same_id y z) (agree ps d f a y h) k (λ p s i j. ap (same_id a) i ∙ s ∙ sym (ap (same_id y) j))

-- ---- the names of cells that were there before

name-before : (n conn made k : ℕ) (p : Pair) (r : ElementId) → Image n conn made k p → is_name_below made r ≡ true → same_id (id p.1) r ≡ same_id (id p.0) r
name-before n conn made k p r i h = step (is_sequenced p.0) refl
  where
    pending-name : (s : Stamp) (i : ℕ) (r : ElementId) → is_acked s ≡ false → is_name_below made r ≡ true → same_id (id_of_stamp s i) r ≡ false
    pending-name (Acked s c) i r h k = absurd cc
    pending-name (Local j) i (SequencedId o) h k = refl
    pending-name (Local j) i (PendingId u o) h k = absurd cc

    new-name : (s : Stamp) (i : ℕ) (r : ElementId) → nat_le made i ≡ true → is_acked s ≡ true → is_name_below made r ≡ true → same_id (id_of_stamp s i) r ≡ false
    new-name (Acked s c) i (SequencedId o) g h k = apart g k
      where
        apart : nat_le made i ≡ true → nat_lt o made ≡ true → nat_eq i o ≡ false
        apart g k = grind (arith, nat_tests)
    new-name (Acked s c) i (PendingId u o) g h k = absurd cc
    new-name (Local j) i r g h k = absurd cc

    step : (b : Bool) → is_sequenced p.0 ≡ b → same_id (id p.1) r ≡ same_id (id p.0) r
    step true q = ap (λ i. same_id i r) (i.old q)
    step false q = new-name p.1.ins p.1.nth r (i.new q) i.sequenced h ∙ sym (pending-name p.0.ins p.0.nth r q h)

cells-before : (rows cols : ℕ) (a y b z : ElementId) → ((r : ElementId) → is_name_below rows r ≡ true → same_id y r ≡ same_id a r)
    → ((r : ElementId) → is_name_below cols r ≡ true → same_id z r ≡ same_id b r)
    → (cs : List Cell) → list_all (is_cell_below rows cols) cs ≡ true → cell_value y z cs ≡ cell_value a b cs
cells-before rows cols a y b z f g [] h = refl
cells-before rows cols a y b z f g (c ∷ cs) h =
    let p = both (is_cell_below rows cols c) (list_all (is_cell_below rows cols) cs) h in
    let q = both (is_name_below rows c.row) (is_name_below cols c.col) p.0 in
    let same : is_cell y z c ≡ is_cell a b c = ap (λ u. u && same_id z c.col) (f c.row q.0) ∙ ap (λ u. same_id a c.row && u) (g c.col q.1) in
    ap (λ u. option_map (λ (w : Cell). w.value) (cond u (Some c) (find (is_cell y z) cs))) same ∙ step (is_cell a b c) (cells-before rows cols a y b z f g cs p.1)
  where
    step : (u : Bool) → cell_value y z cs ≡ cell_value a b cs → option_map (λ (w : Cell). w.value) (cond u (Some c) (find (is_cell y z) cs))
        ≡ option_map (λ (w : Cell). w.value) (cond u (Some c) (find (is_cell a b) cs))
    step true e = refl
    step false e = e

-- ---- the visible elements of both sides

each-visible : (j : ℕ) (R S : Pair → Type 0) → ((p : Pair) → R p → seen j p.0 ≡ true → S p) → (ps : List Pair) → Each R ps → Each S (filter (λ p. seen j p.0) ps)
each-visible j R S g [] h = tt
each-visible j R S g (p ∷ ps) h = step (seen j p.0) refl (each-visible j R S g ps h.1)
  where
    step : (b : Bool) → seen j p.0 ≡ b → Each S (filter (λ p. seen j p.0) ps) → Each S (cond b (p ∷ filter (λ p. seen j p.0) ps) (filter (λ p. seen j p.0) ps))
    step true e r = (g p h.0 e, r)
    step false e r = r

-- a pair of a list whose first element is shown
record IsUnit (n conn made j m : ℕ) (xs : List ListElement) (ps : List Pair) (p : Pair) : Type 0 where
  image : Image n conn made j p
  own : has_pair ps (id p.0) (id p.1) ≡ true
  named : has_named (seen m) xs (id p.0) ≡ true

module _ (n conn made j m : ℕ) (xs ds : List ListElement) (view : filter (seen j) (stage_list xs j) ≡ filter (seen j) xs)
    (last : Each (λ e. seen m e ≡ seen j e) xs) (b : Beside n conn made j (stage_list xs j) ds) where
  left-view : filter (seen m) xs ≡ lefts (filter (λ p. seen j p.0) b.pairs)
  left-view =
      filter-same (seen m) (seen j) xs last ∙ sym view ∙ ap (filter (seen j)) (sym b.left)
      ∙ filter-map (λ p. p.0) (λ p. seen j p.0) (seen j) b.pairs (each-with (Image n conn made j) (λ p. seen j p.0 ≡ seen j p.0) (λ p i. refl) b.pairs b.images)

  left-named : Each (λ p. not (seen j p.0) || has_named (seen j) (stage_list xs j) (id p.0) ≡ true) b.pairs
  left-named =
      each-under (λ e. not (seen j e) || has_named (seen j) (stage_list xs j) (id e) ≡ true) (λ p. p.0) b.pairs
      (subst (Each (λ e. not (seen j e) || has_named (seen j) (stage_list xs j) (id e) ≡ true)) (sym b.left)
      (each-all (λ e. not (seen j e) || has_named (seen j) (stage_list xs j) (id e)) (stage_list xs j) (own-named (seen j) (stage_list xs j))))

  units : Each (IsUnit n conn made j m xs b.pairs) (filter (λ p. seen j p.0) b.pairs)
  units =
      each-visible j (λ p. (Image n conn made j p × (has_pair b.pairs (id p.0) (id p.1) ≡ true))
      × (not (seen j p.0) || has_named (seen j) (stage_list xs j) (id p.0) ≡ true)) (IsUnit n conn made j m xs b.pairs)
      (λ p h v. record {
        image = h.0.0;
        own = h.0.1;
        named = named-filter (seen m) (id p.0) xs ∙ ap (list_any (has_id (id p.0))) (filter-same (seen m) (seen j) xs last ∙ sym view)
            ∙ sym (named-filter (seen j) (id p.0) (stage_list xs j)) ∙ there (seen j p.0) _ v h.1;
      }) b.pairs
      (each-both (λ p. Image n conn made j p × (has_pair b.pairs (id p.0) (id p.1) ≡ true))
      (λ p. not (seen j p.0) || has_named (seen j) (stage_list xs j) (id p.0) ≡ true)
      (λ p. (Image n conn made j p × (has_pair b.pairs (id p.0) (id p.1) ≡ true))
      × (not (seen j p.0) || has_named (seen j) (stage_list xs j) (id p.0) ≡ true)) (λ p u v. (u, v)) b.pairs
      (each-both (Image n conn made j) (λ p. has_pair b.pairs (id p.0) (id p.1) ≡ true)
      (λ p. Image n conn made j p × (has_pair b.pairs (id p.0) (id p.1) ≡ true)) (λ p u v. (u, v)) b.pairs b.images (own-pair b.pairs)) left-named)
    where
      there : (u v : Bool) → u ≡ true → not u || v ≡ true → v ≡ true
      there true v p h = h
      there false v p h = absurd cc

right-view : (n conn made j : ℕ) (ls ds : List ListElement) (b : Beside n conn made j ls ds) → filter (seen 0) ds ≡ rights (filter (λ p. seen j p.0) b.pairs)
right-view n conn made j ls ds b =
    ap (filter (seen 0)) (sym b.right)
    ∙ filter-map (λ p. p.1) (λ p. seen j p.0) (seen 0) b.pairs (each-with (Image n conn made j) (λ p. seen 0 p.1 ≡ seen j p.0) (λ p i. i.at_last) b.pairs b.images)

module _ (x : NaiveClient) (conn : ℕ) (ready : IsReady x) where
  -- the cells that the stages wrote are those that they show
  module _ (rows cols : List Pair) (dr : are_distinct_elements (lefts rows) ≡ true) (fr : are_distinct_elements (rights rows) ≡ true) (dc : are_distinct_elements (lefts cols) ≡ true)
      (fc : are_distinct_elements (rights cols) ≡ true)
      (a y b z : ElementId) (row : has_pair rows a y ≡ true) (col : has_pair cols b z ≡ true) (ha : has_named (seen x.last_stage) x.doc.rows.items a ≡ true)
      (hb : has_named (seen x.last_stage) x.doc.cols.items b ≡ true) where
    written-value : (t : Stage) (w : Cell) → IsWritten rows cols t w → (cells : List Cell) (v : Option ValueBytes) → cell_value y z cells ≡ v
        → cell_value y z (write_cell w cells) ≡ cell_after_stage a b t v
    written-value t w h cells v e =
        let r : same_id y w.row ≡ same_id a h.row = sym (pair-agree rows dr fr a y h.row w.row row h.row_pair) in
        let c : same_id z w.col ≡ same_id b h.col = sym (pair-agree cols dc fc b z h.col w.col col h.col_pair) in
        value-write y z w cells
        ∙ ap (λ u. cond (u && same_id z w.col) (value_unless_null w.value) (cell_value y z cells)) r
        ∙ ap (λ u. cond (same_id a h.row && u) (value_unless_null w.value) (cell_value y z cells)) c
        ∙ ap (cond (same_id a h.row && same_id b h.col) (value_unless_null w.value)) e
        ∙ sym (after)
      where
        after : cell_after_stage a b t v ≡ cond (same_id a h.row && same_id b h.col) (value_unless_null w.value) v
        after =
            ap (λ o. cell_after_stage a b (record { stage = t.stage; sub_operation = o; names = t.names }) v) h.op
            ∙ ap (λ u. cond (is_named_by a u && is_named_by b t.names.second) (value_unless_null w.value) v) h.first
            ∙ ap (λ u. cond (same_id a h.row && is_named_by b u) (value_unless_null w.value) v) h.second

    log-value : (log : Log) (cells : List Cell) (v : Option ValueBytes) → Each (IsLogged x conn ready rows cols) log → cell_value y z cells ≡ v
        → cell_value y z (written_cells log cells) ≡ shown_cell_value a b v (map (λ l. l.0) log)
    log-value [] cells v h e = e
    log-value ((t, None) ∷ log) cells v h e = log-value log cells (cell_after_stage a b t v) h.1 (e ∙ sym (h.0 a b ha hb v))
    log-value ((t, Some w) ∷ log) cells v h e = log-value log (write_cell w cells) (cell_after_stage a b t v) h.1 (written-value t w h.0 cells v e)

  module _ (j : ℕ) (is : List Interval) (d : Document) (ahead : Ahead x conn ready [] j) (f : Follows x conn ready j is (stages_of x) d) where
    -- nothing of a later stage is pending
    last-text : Each (λ e. seen x.last_stage e ≡ seen j e) x.doc.text.items
    last-text = each-with (λ e. is_left inserts_text removes_text [] j e ≡ true) (λ e. seen x.last_stage e ≡ seen j e)
        (λ e h. seen-same inserts_text removes_text [] j x.last_stage x.last_stage ahead.rise (omega arith) e h) x.doc.text.items
        (each-all (is_left inserts_text removes_text [] j) x.doc.text.items ahead.text_left)

    last-rows : Each (λ e. seen x.last_stage e ≡ seen j e) x.doc.rows.items
    last-rows = each-with (λ e. is_left (inserts_in Rows) (removes_in Rows) [] j e ≡ true) (λ e. seen x.last_stage e ≡ seen j e)
        (λ e h. seen-same (inserts_in Rows) (removes_in Rows) [] j x.last_stage x.last_stage ahead.rise (omega arith) e h) x.doc.rows.items
        (each-all (is_left (inserts_in Rows) (removes_in Rows) [] j) x.doc.rows.items ahead.rows_left)

    last-cols : Each (λ e. seen x.last_stage e ≡ seen j e) x.doc.cols.items
    last-cols = each-with (λ e. is_left (inserts_in Cols) (removes_in Cols) [] j e ≡ true) (λ e. seen x.last_stage e ≡ seen j e)
        (λ e h. seen-same (inserts_in Cols) (removes_in Cols) [] j x.last_stage x.last_stage ahead.rise (omega arith) e h) x.doc.cols.items
        (each-all (is_left (inserts_in Cols) (removes_in Cols) [] j) x.doc.cols.items ahead.cols_left)

    -- every change is of a stage up to the last
    pending-all : Each (λ p. pending_up_to j p.0.pending ≡ p.0.pending) f.text.pairs
    pending-all =
        each-under (λ e. pending_up_to j e.pending ≡ e.pending) (λ p. p.0) f.text.pairs
        (subst (Each (λ e. pending_up_to j e.pending ≡ e.pending)) (sym f.text.left)
        (each-stage_list (λ e. pending_up_to j e.pending ≡ e.pending) carried x.doc.text.items
        (each-with (λ e. left_changes annotates_text [] j e ≡ true) (λ e. pending_up_to j e.pending ≡ e.pending) (λ e h. up-to e.pending h) x.doc.text.items
        (each-all (left_changes annotates_text [] j) x.doc.text.items ahead.text_changes)) j))
      where
        first : (b : Bool) → b || false ≡ true → b ≡ true
        first true h = refl
        first false h = absurd cc

        up-to : (qs : List (ℕ × Changes)) → list_all (left_change annotates_text [] j) qs ≡ true → pending_up_to j qs ≡ qs
        up-to [] h = refl
        up-to (q ∷ qs) h =
            let p = both (left_change annotates_text [] j q) (list_all (left_change annotates_text [] j) qs) h in
            rw (first (nat_le q.0 j) p.0) (ap (λ us. q ∷ us) (up-to qs p.1))

        carried : (e : ListElement) → pending_up_to j e.pending ≡ e.pending → pending_up_to j (carried_element e).pending ≡ (carried_element e).pending
        carried e h = step (list_any is_acked e.dels)
          where
            step : (b : Bool) → pending_up_to j (cond b (without_pending e) e).pending ≡ (cond b (without_pending e) e).pending
            step true = refl
            step false = h

    text-alike : Each IsAlike (filter (λ p. seen j p.0) f.text.pairs)
    text-alike =
        each-visible j (λ p. Image x.doc.number conn x.doc.text.made j p × (pending_up_to j p.0.pending ≡ p.0.pending)) IsAlike
        (λ p h v. record { content = h.0.content; props = ap (shown_props p.1.props) h.0.bare ∙ h.0.props v ∙ ap (shown_props p.0.props) h.1 }) f.text.pairs
        (each-both (Image x.doc.number conn x.doc.text.made j) (λ p. pending_up_to j p.0.pending ≡ p.0.pending)
        (λ p. Image x.doc.number conn x.doc.text.made j p × (pending_up_to j p.0.pending ≡ p.0.pending)) (λ p u v. (u, v)) f.text.pairs f.text.images pending-all)

    text-left : filter (seen x.last_stage) x.doc.text.items ≡ lefts (filter (λ p. seen j p.0) f.text.pairs)
    text-left = left-view x.doc.number conn x.doc.text.made j x.last_stage x.doc.text.items d.text.items ((text-views x conn ready j).view j (omega arith)) last-text f.text

    row-left : filter (seen x.last_stage) x.doc.rows.items ≡ lefts (filter (λ p. seen j p.0) f.rows.pairs)
    row-left = left-view x.doc.number conn x.doc.rows.made j x.last_stage x.doc.rows.items d.rows.items ((row-views x conn ready j).view j (omega arith)) last-rows f.rows

    col-left : filter (seen x.last_stage) x.doc.cols.items ≡ lefts (filter (λ p. seen j p.0) f.cols.pairs)
    col-left = left-view x.doc.number conn x.doc.cols.made j x.last_stage x.doc.cols.items d.cols.items ((col-views x conn ready j).view j (omega arith)) last-cols f.cols

    text-right : filter (seen 0) d.text.items ≡ rights (filter (λ p. seen j p.0) f.text.pairs)
    text-right = right-view x.doc.number conn x.doc.text.made j (stage_list x.doc.text.items j) d.text.items f.text

    row-right : filter (seen 0) d.rows.items ≡ rights (filter (λ p. seen j p.0) f.rows.pairs)
    row-right = right-view x.doc.number conn x.doc.rows.made j (stage_list x.doc.rows.items j) d.rows.items f.rows

    col-right : filter (seen 0) d.cols.items ≡ rights (filter (λ p. seen j p.0) f.cols.pairs)
    col-right = right-view x.doc.number conn x.doc.cols.made j (stage_list x.doc.cols.items j) d.cols.items f.cols

    dr : are_distinct_elements (lefts f.rows.pairs) ≡ true
    dr = subst (λ us. are_distinct_elements us ≡ true) (sym f.rows.left) (stage_list-distinct x.doc.rows.items ready.rows.place.distinct j)

    dc : are_distinct_elements (lefts f.cols.pairs) ≡ true
    dc = subst (λ us. are_distinct_elements us ≡ true) (sym f.cols.left) (stage_list-distinct x.doc.cols.items ready.cols.place.distinct j)

    fr : are_distinct_elements (rights f.rows.pairs) ≡ true
    fr = subst (λ us. are_distinct_elements us ≡ true) (sym f.rows.right) f.sound.rows.distinct

    fc : are_distinct_elements (rights f.cols.pairs) ≡ true
    fc = subst (λ us. are_distinct_elements us ≡ true) (sym f.cols.right) f.sound.cols.distinct

    row-units : Each (IsUnit x.doc.number conn x.doc.rows.made j x.last_stage x.doc.rows.items f.rows.pairs) (filter (λ p. seen j p.0) f.rows.pairs)
    row-units = units x.doc.number conn x.doc.rows.made j x.last_stage x.doc.rows.items d.rows.items ((row-views x conn ready j).view j (omega arith)) last-rows f.rows

    col-units : Each (IsUnit x.doc.number conn x.doc.cols.made j x.last_stage x.doc.cols.items f.cols.pairs) (filter (λ p. seen j p.0) f.cols.pairs)
    col-units = units x.doc.number conn x.doc.cols.made j x.last_stage x.doc.cols.items d.cols.items ((col-views x conn ready j).view j (omega arith)) last-cols f.cols

    cell-same : (p q : Pair) → IsUnit x.doc.number conn x.doc.rows.made j x.last_stage x.doc.rows.items f.rows.pairs p
        → IsUnit x.doc.number conn x.doc.cols.made j x.last_stage x.doc.cols.items f.cols.pairs q
        → cell_value (id p.1) (id q.1) d.cells ≡ shown_cell_value (id p.0) (id q.0) (cell_value (id p.0) (id q.0) x.doc.cells) (stages_of x)
    cell-same p q h g =
        let v = cell_value (id p.0) (id q.0) x.doc.cells in
        ap (cell_value (id p.1) (id q.1)) f.cells
        ∙ log-value f.rows.pairs f.cols.pairs dr fr dc fc (id p.0) (id p.1) (id q.0) (id q.1) h.own g.own h.named g.named f.log x.doc.cells v f.entries
        (cells-before x.doc.rows.made x.doc.cols.made (id p.0) (id p.1) (id q.0) (id q.1)
        (λ r k. name-before x.doc.number conn x.doc.rows.made j p r h.image k) (λ r k. name-before x.doc.number conn x.doc.cols.made j q r g.image k) x.doc.cells ready.cells)
        ∙ ap (shown_cell_value (id p.0) (id q.0) v) f.logged

    cells-same : all_cells d.cells [] (filter (seen 0) d.cols.items) 0 (filter (seen 0) d.rows.items)
        ≡ all_cells x.doc.cells (stages_of x) (filter (seen x.last_stage) x.doc.cols.items) 0 (filter (seen x.last_stage) x.doc.rows.items)
    cells-same =
        ap (λ us. all_cells d.cells [] us 0 (filter (seen 0) d.rows.items)) col-right
        ∙ ap (all_cells d.cells [] (rights (filter (λ p. seen j p.0) f.cols.pairs)) 0) row-right
        ∙ paired-cells d.cells x.doc.cells (stages_of x) (filter (λ p. seen j p.0) f.cols.pairs) 0 (filter (λ p. seen j p.0) f.rows.pairs)
        (each-with (IsUnit x.doc.number conn x.doc.rows.made j x.last_stage x.doc.rows.items f.rows.pairs)
        (λ p. Each (λ q. cell_value (id p.1) (id q.1) d.cells ≡ shown_cell_value (id p.0) (id q.0) (cell_value (id p.0) (id q.0) x.doc.cells) (stages_of x))
        (filter (λ p. seen j p.0) f.cols.pairs))
        (λ p h. each-with (IsUnit x.doc.number conn x.doc.cols.made j x.last_stage x.doc.cols.items f.cols.pairs)
        (λ q. cell_value (id p.1) (id q.1) d.cells ≡ shown_cell_value (id p.0) (id q.0) (cell_value (id p.0) (id q.0) x.doc.cells) (stages_of x))
        (λ q g. cell-same p q h g) (filter (λ p. seen j p.0) f.cols.pairs) col-units)
        (filter (λ p. seen j p.0) f.rows.pairs) row-units)
        ∙ sym (ap (λ us. all_cells x.doc.cells (stages_of x) us 0 (filter (seen x.last_stage) x.doc.rows.items)) col-left
        ∙ ap (all_cells x.doc.cells (stages_of x) (lefts (filter (λ p. seen j p.0) f.cols.pairs)) 0) row-left)

    end-last : (o : Option ElementId) → end_number j x.doc.text.items o ≡ end_number x.last_stage x.doc.text.items o
    end-last None = refl
    end-last (Some y) = ap pos (sym (rank-same (has_id y) (seen x.last_stage) (seen j) x.doc.text.items last-text))

    records-last : (js : List Interval) → map (interval_record j x.doc.text.items) js ≡ map (interval_record x.last_stage x.doc.text.items) js
    records-last [] = refl
    records-last (i ∷ js) = rw (end-last i.start, end-last i.end, records-last js) refl

    intervals-same : map (interval_record 0 d.text.items) d.intervals ≡ map (interval_record x.last_stage x.doc.text.items) is
    intervals-same =
        ap (λ us. map (interval_record 0 us) d.intervals) (sym f.text.right)
        ∙ pairs-shown j f.text.pairs (subst (λ us. are_distinct_elements us ≡ true) (sym f.text.left)
        (stage_list-distinct x.doc.text.items ready.text.place.distinct j)) (subst (λ us. are_distinct_elements us ≡ true) (sym f.text.right) f.sound.text.distinct)
        (each-with (Image x.doc.number conn x.doc.text.made j) (λ p. seen 0 p.1 ≡ seen j p.0) (λ p i. i.at_last) f.text.pairs f.text.images) is d.intervals f.intervals
        ∙ ap (λ us. map (interval_record j us) is) f.text.left
        ∙ records-same (text-views x conn ready j) ready.text.place.distinct is f.ends
        ∙ records-last is

    pub shown-follows : is ≡ shown_intervals x.doc.text.items x.doc.intervals (stages_of x) → shown d ≡ content x
    shown-follows e =
        let vt = filter (λ p. seen j p.0) f.text.pairs in
        let text : text_characters (filter (seen 0) d.text.items) ≡ text_characters (filter (seen x.last_stage) x.doc.text.items) = ap text_characters
        text-right ∙ alike-characters vt text-alike ∙ sym (ap text_characters text-left) in
        let markers : markers_from 0 (filter (seen 0) d.text.items) ≡ markers_from 0 (filter (seen x.last_stage) x.doc.text.items) = ap (markers_from 0)
        text-right ∙ alike-markers 0 vt text-alike ∙ sym (ap (markers_from 0) text-left) in
        let runs : property_runs_from 0 (filter (seen 0) d.text.items) ≡ property_runs_from 0 (filter (seen x.last_stage) x.doc.text.items) = ap
        (property_runs_from 0) text-right ∙ alike-runs 0 vt text-alike ∙ sym (ap (property_runs_from 0) text-left) in
        let rows : length (filter (seen 0) d.rows.items) ≡ length (filter (seen x.last_stage) x.doc.rows.items) = ap length row-right
        ∙ as-long (filter (λ p. seen j p.0) f.rows.pairs) ∙ sym (ap length row-left) in
        let cols : length (filter (seen 0) d.cols.items) ≡ length (filter (seen x.last_stage) x.doc.cols.items) = ap length col-right
        ∙ as-long (filter (λ p. seen j p.0) f.cols.pairs) ∙ sym (ap length col-left) in
        let intervals : map (interval_record 0 d.text.items) d.intervals ≡ map (interval_record x.last_stage x.doc.text.items)
        (shown_intervals x.doc.text.items x.doc.intervals (stages_of x)) = intervals-same ∙ ap (map (interval_record x.last_stage x.doc.text.items)) e in
        rw (text, markers, runs, intervals, cells-same, rows, cols) refl

  -- the content of a client is what its document without what is pending shows with its pending operations next
  pub pending-on_top-over : (doc : Document) → IsConsistent doc → sequenced_part x.doc ≡ doc → content x ≡ shown_with_pending doc x conn
  pending-on_top-over doc k e =
      let sound : IsConsistent (sequenced_part x.doc) = subst IsConsistent (sym e) k in
      let r = edits-reached x conn ready x.pending (x.doc.number + 1) x.doc.minimum x.doc.intervals [] (sequenced_part x.doc) ready.typed ready.writes
      ready.edits (reached-first x conn ready sound) in
      sym (shown-follows r.level _ _ r.ahead r.follows refl) ∙ ap (λ d. shown_with_pending d x conn) e

  -- so is what the log shows
  pub pending-on_top : (log : List Entry) → sequenced_part x.doc ≡ agreed (take x.doc.number log) → content x ≡ applied x log conn
  pending-on_top log e = pending-on_top-over (agreed (take x.doc.number log)) (agreed-consistent (take x.doc.number log)) e
