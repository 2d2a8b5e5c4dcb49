-- A client shows the same after its own join.
use Rattle.std.proofs.Common.{◌≡◌, ℕ, suc, ◌≤◌, Bool, true, false, cond, not, ◌&&◌, ◌||◌, List, [], ◌∷◌, ◌++◌, Option, Some, None, refl, sym, ◌∙◌, ap, subst, arith, filter, flat_map, map, nat_eq, nat_le}
use Rattle.std.specs.List.{list_all, list_any}
use Rattle.std.proofs.lemmas.Bool.Decides.{nat_tests}
use Rattle.ft_base.specs.declared.stamps.Stamp.{Stamp}
use Rattle.ft_base.specs.declared.stamps.Stamp.TheVariants.{Acked, Local}
use Rattle.ft_base.specs.Scan.{no_run, put, retain_map}
use Rattle.ft_base.specs.Visibility.{has_occurred_at_stage, is_acked, is_of_stage}
use Rattle.ft_base.proofs.Booleans.{all_three, both}
use Rattle.ft_msg.specs.declared.messages.Entry.{Entry}
use Rattle.ft_props.specs.Element.{ListElement, ElementId, id, is_sequenced, is_unremoved, removal_stamp, seen}
use Rattle.ft_props.specs.Steps.{Sequence, carried_element, is_inserted_by, rebuilt_list, stage_position}
use Rattle.ft_op.specs.Cells.{cell_value}
use Rattle.ft_op.specs.Operation.{SubOperation}
use Rattle.ft_op.specs.Stages.{Stage, shown_intervals}
use Rattle.ft_msg.specs.Agreed.{with_numbers}
use Rattle.ft_msg.specs.Client.{NaiveClient, stages_of}
use Rattle.ft_msg.specs.Content.{all_cells, content, interval_record}
use Rattle.ft_msg.specs.Process.{come_online}
use Rattle.ft_msg.specs.Reconnection.{carried_stage, rebuilt, regenerated}
use Rattle.ft_laws_agreement.specs.Reconnecting.{IsInPlace, IsOrderly, StagesRiseTo, StandSideBySide, any_kind, drafts_from, has_insertion_of, has_marks_of, has_removal_of, inserts_text, is_stage_of, removes_text}
use Rattle.ft_laws_agreement.specs.Trimming.{has_ends_on, is_end_on}
use Rattle.ft_laws_agreement.proofs.HeldNames.{filter-held}
use Rattle.ft_laws_agreement.proofs.OwnNames.{all-weaker, has_named, none-passes, own-named}
use Rattle.ft_laws_agreement.proofs.TrimmedContent.{agreed-rows}
use Rattle.ft_laws_agreement.proofs.StageViews.{filter-none, filter-or, put-nothing, all-rebuilt, next-rebuilt, put_stages-all, rise-absent, stage_list, view-rebuilt}
use Rattle.ft_laws_agreement.proofs.SettledEnds.{SameViews, has_ends_at, intervals-same, is_end_at, is_left, left-first, named-weaker, records-same, shown-at}
use Rattle.ft_laws_agreement.proofs.PendingWrites.{value-same}
use Rattle.ft_laws_agreement.proofs.CarriedEdits.{edits-numbers, queue-resubmitted, stages-resubmitted}
use Rattle.ft_laws_agreement.proofs.Booleans.{hidden}
use Rattle.ft_laws_agreement.proofs.SideBySideStages.{carried-seen, carried-same}

-- ---- one list

-- without pending stages the same is seen
first-view : (xs : List ListElement) → list_all (λ e. is_sequenced e || not (seen 0 e)) xs ≡ true
    → filter (seen 0) (retain_map is_sequenced carried_element xs) ≡ filter (seen 0) xs
first-view [] h = refl
first-view (e ∷ xs) h =
    let p = both (is_sequenced e || not (seen 0 e)) (list_all (λ e. is_sequenced e || not (seen 0 e)) xs) h in
    step (is_sequenced e) (seen 0 e) refl p.0 (first-view xs p.1)
  where
    rest : List ListElement
    rest = retain_map is_sequenced carried_element xs

    kept : (b : Bool) → seen 0 e ≡ b → filter (seen 0) (retain_map is_sequenced carried_element xs) ≡ filter (seen 0) xs
        → cond b (carried_element e ∷ filter (seen 0) (retain_map is_sequenced carried_element xs))
        (filter (seen 0) (retain_map is_sequenced carried_element xs)) ≡ cond b (e ∷ filter (seen 0) xs) (filter (seen 0) xs)
    kept true h q = ap (λ d. d ∷ filter (seen 0) (retain_map is_sequenced carried_element xs)) (carried-same 0 e h) ∙ ap (λ us. e ∷ us) q
    kept false h q = q

    step : (a b : Bool) → seen 0 e ≡ b → a || not (seen 0 e) ≡ true → filter (seen 0) (retain_map is_sequenced carried_element xs) ≡ filter (seen 0) xs
        → filter (seen 0) (cond a (carried_element e ∷ retain_map is_sequenced carried_element xs) (retain_map is_sequenced carried_element xs)) ≡ filter (seen 0) (e ∷ xs)
    step true b h a q =
        ap (λ c. cond c (carried_element e ∷ filter (seen 0) (retain_map is_sequenced carried_element xs))
        (filter (seen 0) (retain_map is_sequenced carried_element xs))) (carried-seen 0 e ∙ h)
        ∙ kept b h q ∙ sym (ap (λ c. cond c (e ∷ filter (seen 0) xs) (filter (seen 0) xs)) h)
    step false b h a q = q ∙ sym (ap (λ c. cond c (e ∷ filter (seen 0) xs) (filter (seen 0) xs)) (hidden (seen 0 e) a))
      where
        hidden : (b : Bool) → not b ≡ true → b ≡ false
        hidden true h = (cc)
        hidden false h = refl

module _ (inserts removes : SubOperation → Bool) (stages : List Stage) (m : ℕ) (rise : StagesRiseTo 0 stages m) (list : Sequence) (h : IsInPlace inserts removes stages list) where
  first-seen : (e : ListElement) → has_marks_of inserts removes stages e ≡ true → is_sequenced e || not (seen 0 e) ≡ true
  first-seen e k = step e.ins (all_three (has_insertion_of inserts stages e.ins) (has_removal_of removes stages e.removal_stage) (list_all is_acked e.dels) k).0
    where
      others : Bool
      others = list_any (has_occurred_at_stage 0) (e.dels ++ removal_stamp e.removal_stage)

      none : (i : ℕ) → nat_le i 0 ≡ true → is_stage_of inserts stages i ≡ true → false ≡ true
      none i l s = let b : i ≤ 0 = grind (arith, nat_tests) in cc (rise-absent [] inserts i 0 m stages rise b)

      pending : (b : Bool) (i : ℕ) → nat_le i 0 ≡ b → is_stage_of inserts stages i ≡ true
          → not (b && not (list_any (has_occurred_at_stage 0) (e.dels ++ removal_stamp e.removal_stage))) ≡ true
      pending true i l s = absurd (cc (none i l s))
      pending false i l s = refl

      step : (t : Stamp) → has_insertion_of inserts stages t ≡ true → is_acked t
          || not (has_occurred_at_stage 0 t && not (list_any (has_occurred_at_stage 0) (e.dels ++ removal_stamp e.removal_stage))) ≡ true
      step (Acked s c) g = refl
      step (Local i) g = pending (nat_le i 0) i refl g

  inserted-by : (i : ℕ) → is_stage_of inserts stages i ≡ false → (e : ListElement) → has_marks_of inserts removes stages e ≡ true → is_inserted_by i e ≡ false
  inserted-by i a e k = step e.ins (all_three (has_insertion_of inserts stages e.ins) (has_removal_of removes stages e.removal_stage) (list_all is_acked e.dels) k).0
    where
      step : (t : Stamp) → has_insertion_of inserts stages t ≡ true → is_of_stage i t ≡ false
      step (Acked s c) g = refl
      step (Local j) g = other (nat_eq j i) refl
        where
          other : (b : Bool) → nat_eq j i ≡ b → b ≡ false
          other true e = let q : j ≡ i = grind (arith, nat_tests) in cc (ap (is_stage_of inserts stages) q)
          other false e = refl

  -- the rebuilt list has all stages put in
  rebuilt-all : (rebuilt_list (map (λ t. t.stage) stages) list).items ≡ stage_list list.items m
  rebuilt-all =
      put_stages-all list.items inserts stages 0 m rise
      (λ i l r a. none-passes (has_marks_of inserts removes stages) (is_inserted_by i) (λ e k. inserted-by i a e k) list.items h.marks)

  -- where no pending stage inserts, nothing is put in
  none-put : (k : ℕ) (xs : List ListElement) → list_any (is_inserted_by (suc k)) xs ≡ false → StandSideBySide k xs
  none-put k xs n =
      filter-or (seen k) (is_inserted_by (suc k)) xs n
      ∙ sym (ap (λ new. put (seen k) no_run (stage_position (suc k) xs) new (filter (seen k) xs)) (filter-none (is_inserted_by (suc k)) xs n)
      ∙ put-nothing (seen k) (stage_position (suc k) xs) (filter (seen k) xs))

  pub all-side : (k : ℕ) → StandSideBySide k list.items
  all-side k = step (is_stage_of inserts stages (suc k)) refl
    where
      step : (b : Bool) → is_stage_of inserts stages (suc k) ≡ b → StandSideBySide k list.items
      step true e = h.side_by_side k e
      step false e = none-put k list.items (none-passes (has_marks_of inserts removes stages) (is_inserted_by (suc k)) (λ d g. inserted-by (suc k) e d g) list.items h.marks)

  -- without pending stages the same is seen
  pub first-base : filter (seen 0) (stage_list list.items 0) ≡ filter (seen 0) list.items
  first-base = first-view list.items (all-weaker (has_marks_of inserts removes stages) (λ e. is_sequenced e || not (seen 0 e)) first-seen list.items h.marks)

  -- up to each stage the list has the same views
  pub stage-views : (k : ℕ) → SameViews k list.items (stage_list list.items k)
  stage-views k = record {
    view = view-rebuilt list.items all-side first-base k;
    next = next-rebuilt list.items all-side first-base k;
    all = λ P f q.
        all-rebuilt list.items P f q k;
  }

  rebuilt-views : SameViews m list.items (rebuilt_list (map (λ t. t.stage) stages) list).items
  rebuilt-views = subst (SameViews m list.items) (sym rebuilt-all) (stage-views m)

  -- an unremoved element is seen without pending stages
  pub unremoved-seen : (e : ListElement) → has_marks_of inserts removes stages e ≡ true → not (is_unremoved e) || seen 0 e ≡ true
  unremoved-seen e k =
      let p = all_three (has_insertion_of inserts stages e.ins) (has_removal_of removes stages e.removal_stage) (list_all is_acked e.dels) k in
      step (is_acked e.ins) (list_any is_acked (e.dels ++ removal_stamp e.removal_stage)) refl refl p.1 p.2
    where
      occurs : (t : Stamp) → is_acked t ≡ true → has_occurred_at_stage 0 t ≡ true
      occurs (Acked s c) g = refl
      occurs (Local i) g = (cc)

      above : (b : Bool) (i : ℕ) → nat_le i 0 ≡ b → is_stage_of removes stages i ≡ true → b || false ≡ false
      above true i l s = let b : i ≤ 0 = grind (arith, nat_tests) in absurd (cc (rise-absent [] removes i 0 m stages rise b))
      above false i l s = refl

      unmarked : (o : Option ℕ) → has_removal_of removes stages o ≡ true → list_any (has_occurred_at_stage 0) (removal_stamp o) ≡ false
      unmarked None g = refl
      unmarked (Some i) g = above (nat_le i 0) i refl g

      unoccurred : (dels : List Stamp) (o : Option ℕ) → has_removal_of removes stages o ≡ true → list_all is_acked dels ≡ true
          → list_any is_acked (dels ++ removal_stamp o) ≡ false → list_any (has_occurred_at_stage 0) (dels ++ removal_stamp o) ≡ false
      unoccurred [] o g a n = unmarked o g
      unoccurred (Acked s c ∷ dels) o g a n = (cc)
      unoccurred (Local i ∷ dels) o g a n = (cc)

      step : (a b : Bool) → is_acked e.ins ≡ a → list_any is_acked (e.dels ++ removal_stamp e.removal_stage) ≡ b
          → has_removal_of removes stages e.removal_stage ≡ true → list_all is_acked e.dels ≡ true → not (a && not b) || seen 0 e ≡ true
      step true true p q g d = refl
      step true false p q g d = rw (occurs e.ins p, unoccurred e.dels e.removal_stage g d q) refl
      step false b p q g d = refl

-- ---- the whole client

pub view-named : (m : ℕ) (xs : List ListElement) → list_all (λ e. has_named (seen m) xs (id e)) (filter (seen m) xs) ≡ true
view-named m xs = filter-held (λ e. not (seen m e)) (has_named (seen m) xs) (seen m) (λ e h. hidden (seen m e) h) xs (own-named (seen m) xs)

module _ (x : NaiveClient) (conn : ℕ) (h : IsOrderly x) where
  text-views : SameViews x.last_stage x.doc.text.items (rebuilt_list (map (λ t. t.stage) (stages_of x)) x.doc.text).items
  text-views = rebuilt-views inserts_text removes_text (stages_of x) x.last_stage h.stages x.doc.text h.text

  row-views : SameViews x.last_stage x.doc.rows.items (rebuilt_list (map (λ t. t.stage) (stages_of x)) x.doc.rows).items
  row-views = rebuilt-views any_kind any_kind (stages_of x) x.last_stage h.stages x.doc.rows h.rows

  col-views : SameViews x.last_stage x.doc.cols.items (rebuilt_list (map (λ t. t.stage) (stages_of x)) x.doc.cols).items
  col-views = rebuilt-views any_kind any_kind (stages_of x) x.last_stage h.stages x.doc.cols h.cols

  first-left : list_all (is_left inserts_text removes_text (stages_of x) 0) x.doc.text.items ≡ true
  first-left = all-weaker (has_marks_of inserts_text removes_text (stages_of x)) (is_left inserts_text removes_text (stages_of x) 0)
      (left-first inserts_text removes_text (stages_of x)) x.doc.text.items h.text.marks

  first-end : (i : Option ElementId) → is_end_on x.doc.text.items i ≡ true → is_end_at 0 x.doc.text.items i ≡ true
  first-end None k = refl
  first-end (Some i) k =
      named-weaker is_unremoved (seen 0) i x.doc.text.items
      (all-weaker (has_marks_of inserts_text removes_text (stages_of x)) (λ e. not (is_unremoved e) || seen 0 e)
      (unremoved-seen inserts_text removes_text (stages_of x) x.last_stage h.stages x.doc.text h.text) x.doc.text.items h.text.marks) k

  first-ends : list_all (has_ends_at 0 x.doc.text.items) x.doc.intervals ≡ true
  first-ends =
      all-weaker (has_ends_on x.doc.text.items) (has_ends_at 0 x.doc.text.items)
      (λ i k. let p = both (is_end_on x.doc.text.items i.start) (is_end_on x.doc.text.items i.end) k in rw (first-end i.start p.0, first-end i.end p.1) refl) x.doc.intervals h.ends

  -- after the reconnection all is shown as before
  pub content-rebuilt : content (rebuilt conn x) ≡ content x
  content-rebuilt =
      let m = x.last_stage in
      let doc = x.doc in
      let stages = stages_of x in
      let text = (rebuilt_list (map (λ (t : Stage). t.stage) stages) doc.text).items in
      let rows = (rebuilt_list (map (λ (t : Stage). t.stage) stages) doc.rows).items in
      let cols = (rebuilt_list (map (λ (t : Stage). t.stage) stages) doc.cols).items in
      let now = stages_of (rebuilt conn x) in
      let again : now ≡ flat_map (carried_stage doc) stages = stages-resubmitted doc conn 1 x.pending in
      let text_view : filter (seen m) text ≡ filter (seen m) doc.text.items = text-views.view m (omega arith) in
      let row_view : filter (seen m) rows ≡ filter (seen m) doc.rows.items = row-views.view m (omega arith) in
      let col_view : filter (seen m) cols ≡ filter (seen m) doc.cols.items = col-views.view m (omega arith) in
      let intervals : map (interval_record m text) (shown_intervals text doc.intervals now)
      ≡ map (interval_record m doc.text.items) (shown_intervals doc.text.items doc.intervals stages) =
      ap (λ ss. map (interval_record m text) (shown_intervals text doc.intervals ss)) again
      ∙ ap (map (interval_record m text)) (intervals-same doc text m text-views h.text.distinct stages 0 doc.intervals h.stages first-left first-ends)
      ∙ records-same text-views h.text.distinct (shown_intervals doc.text.items doc.intervals stages)
      (shown-at doc text m text-views h.text.distinct stages 0 doc.intervals h.stages first-left first-ends) in
      let cells : all_cells doc.cells now (filter (seen m) cols) 0 (filter (seen m) rows)
      ≡ all_cells doc.cells stages (filter (seen m) doc.cols.items) 0 (filter (seen m) doc.rows.items) =
      ap (λ ss. all_cells doc.cells ss (filter (seen m) cols) 0 (filter (seen m) rows)) again
      ∙ ap (λ cs. all_cells doc.cells (flat_map (carried_stage doc) stages) cs 0 (filter (seen m) rows)) col_view
      ∙ ap (all_cells doc.cells (flat_map (carried_stage doc) stages) (filter (seen m) doc.cols.items) 0) row_view
      ∙ agreed-rows doc.cells doc.cells (flat_map (carried_stage doc) stages) stages (has_named (seen m) doc.cols.items) (has_named (seen m) doc.rows.items)
      (λ row col p q. value-same doc m row col p q stages 0 h.stages h.writes (cell_value row col doc.cells))
      (filter (seen m) doc.cols.items) (view-named m doc.cols.items) 0 (filter (seen m) doc.rows.items) (view-named m doc.rows.items) in
      rw (text_view, intervals, cells, row_view, col_view) refl

pub join-changes_nothing : (x : NaiveClient) (entry : Entry) → IsOrderly x → content (come_online x entry) ≡ content x
join-changes_nothing x entry h =
    content-rebuilt (record x { doc = with_numbers entry x.doc }) entry.origin
    (record { stages = h.stages; text = h.text; rows = h.rows; cols = h.cols; ends = h.ends; writes = h.writes })

pub join-sends_again : (x : NaiveClient) (entry : Entry) → (come_online x entry).queue ≡ drafts_from 1 entry.msg.seq (regenerated x)
join-sends_again x entry =
    queue-resubmitted (with_numbers entry x.doc) entry.origin 1 entry.msg.seq x.pending
    ∙ ap (drafts_from 1 entry.msg.seq) (edits-numbers entry x.doc x.pending)
