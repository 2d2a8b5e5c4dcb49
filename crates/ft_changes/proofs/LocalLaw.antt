-- What is told of an edit of the client's own leads from what was shown to what is shown.
use Rattle.std.proofs.Common.{◌≡◌, ℕ, suc, ◌+◌, ◌-◌, ◌≤◌, Bool, true, false, cond, ◌&&◌, ◌||◌, nat_eq, nat_le, List, [], ◌∷◌, ◌++◌, Option, Some, None, Result, Ok, Err, refl, sym, ◌∙◌, ap, subst, arith, length, map, replicate}
use Rattle.std.proofs.lemmas.Bool.{eqb-true}
use Rattle.std.proofs.lemmas.Bool.Decides.{nat_tests}
use Rattle.std.specs.List.{list_all, list_any}
use Rattle.ft_base.specs.declared.stamps.Stamp.{Stamp}
use Rattle.ft_base.specs.declared.stamps.Stamp.TheVariants.{Acked, Local}
use Rattle.ft_base.specs.Scan.{at, len}
use Rattle.ft_base.specs.Visibility.{has_occurred_at_stage, is_acked}
use Rattle.ft_props.specs.Properties.{PropertyList, apply}
use Rattle.ft_props.specs.Element.{ElementContent, GridUnit, ListElement, removal_stamp, seen, with_pending_annotation}
use Rattle.ft_props.specs.Steps.{after_local_insertion}
use Rattle.ft_op.specs.declared.operations.BaseOp.{BaseOp}
use Rattle.ft_op.specs.declared.operations.BaseOp.TheVariants.{Insert, Remove, Annotate}
use Rattle.ft_op.specs.declared.operations.CellOp.{CellOp}
use Rattle.ft_op.specs.declared.operations.CellOp.TheVariants.{SpliceIn, SpliceOut, Set}
use Rattle.ft_op.specs.declared.operations.ChannelOp.{ChannelOp}
use Rattle.ft_op.specs.declared.operations.Seg.{Seg}
use Rattle.ft_op.specs.declared.operations.Target.TheVariants.{Rows, Cols}
use Rattle.ft_op.specs.declared.operations.TextOp.{TextOp}
use Rattle.ft_op.specs.Document.{Document, elements_at_given_ends, ends_of, given_ends_fit}
use Rattle.ft_op.specs.Intervals.{NamedElements, interval_cmp, no_elements}
use Rattle.ft_op.specs.Operation.{OnGrid, OnIntervals, OnText, SubOperation, segment_contents, sub_operations}
use Rattle.ft_op.specs.Stages.{Stage, shown_intervals}
use Rattle.ft_sumdoc.specs.WellFormed.{same_props}
use Rattle.ft_marks.proofs.SameStamps.{same_props-Decides}
use Rattle.ft_msg.specs.declared.faults.EditFault.{EditFault}
use Rattle.ft_msg.specs.declared.faults.EditFault.TheVariants.{OutOfRange}
use Rattle.ft_msg.specs.Client.{EditResult, NaiveClient, SentAs, after_edit, id_fault, if_in_range, local_edit, local_grid, local_interval, local_set, local_sub_operation, local_sub_operations, local_text, sent_as, stages_of, unless_fault, with_draft}
use Rattle.ft_msg.specs.Reached.{IsReached}
use Rattle.ft_laws_agreement.specs.Reconnecting.{StagesRiseTo, has_insertion_of, has_marks_of, has_removal_of, is_stage_of}
use Rattle.ft_laws_agreement.specs.Sequencing.{IsReady}
use Rattle.ft_laws_agreement.proofs.EveryClientReady.{client-ready-from}
use Rattle.ft_laws_agreement.proofs.SummaryStarts.{reached-run}
use Rattle.ft_changes.specs.declared.changes.ViewChange.{ViewChange}
use Rattle.ft_changes.specs.declared.changes.ViewChange.TheVariants.{Put, PutUnits}
use Rattle.ft_changes.specs.Shown.{ShownContent, ShownElement, after_changes, restyled, shown_content, shown_properties, styled_elements}
use Rattle.ft_changes.specs.ShownRuns.{changed_runs, gone_runs, put_in, with_runs, without_runs}
use Rattle.ft_changes.specs.Told.{styled_run, taken_run, taken_units, told_cells, told_edit, told_edit_lists, told_intervals, told_local, told_local_grid, told_local_text, told_locals, told_rest, unless_no_elements}
use Rattle.ft_changes.proofs.AckedLists.{RiseTo}
use Rattle.ft_changes.proofs.ForeignSteps.{ShowsLists, after-append, less_runs, put_in-none, styled-cols, styled-elements, styled-rows, taken-cols, taken-elements, taken-rows, units-cols, units-cols-rows, units-elements, units-rows, units-rows-cols}
use Rattle.ft_changes.proofs.LocalSteps.{all-up_to-later, annotation-up_to, insertion-up_to, is_up_to, len-later, local-annotation-shown, local-insertion-count, local-insertion-shown, local-removal-count, local-removal-shown, removal-all_up_to, shown-later}
use Rattle.ft_changes.proofs.OrderedIntervals.{content-rises, reached-rise}
use Rattle.ft_changes.proofs.OwnSteps.{numbers_of_stages, rise-to, stage-known}
use Rattle.ft_changes.proofs.Rising.{Rises, changes-rise}
use Rattle.ft_changes.proofs.ToldItems.{Rise}
use Rattle.ft_changes.proofs.ToldLaw.{cells-lead, intervals-lead}

-- what is kept is what is shown of the lists of a document at stage k, on which nothing of a later stage is pending
pub record ShowsUpTo (k : ℕ) (t : ShownContent) (doc : Document) : Type 0 where
  pub lists : ShowsLists k t doc
  pub text : list_all (is_up_to k) doc.text.items ≡ true
  pub rows : list_all (is_up_to k) doc.rows.items ≡ true
  pub cols : list_all (is_up_to k) doc.cols.items ≡ true
  pub rise : Rise interval_cmp doc.intervals

-- a document that was taken in range
pub in-range : (p n : ℕ) (doc : Document) (taken : Document × NamedElements) → if_in_range p n doc ≡ Ok taken → (p ≤ n) × (doc ≡ taken.0)
in-range p n doc taken e = by (nat_le p n) refl e
  where
    by : (b : Bool) → nat_le p n ≡ b → (let r : EditResult = cond b (Ok (doc, no_elements)) (Err (OutOfRange n)) in r) ≡ Ok taken → (p ≤ n) × (doc ≡ taken.0)
    by true s d = (grind (arith, nat_tests), ap (λ (r : EditResult). elim r as (λ _. Document) [ Ok t ↦ t.0 | Err f ↦ doc ]) d)
    by false s d = absurd (cc)

module _ (k : ℕ) where
  low : k - 1 ≤ k
  low = omega arith

  -- the same document at the next stage
  unchanged : (t : ShownContent) (doc : Document) → ShowsUpTo (k - 1) t doc → ShowsUpTo k t doc
  unchanged t doc h = record {
    lists = record {
      elements = h.lists.elements ∙ sym (shown-later (k - 1) k low doc.text.items h.text);
      rows = h.lists.rows ∙ sym (len-later (k - 1) k low doc.rows.items h.rows);
      cols = h.lists.cols ∙ sym (len-later (k - 1) k low doc.cols.items h.cols);
    };
    text = all-up_to-later (k - 1) k low doc.text.items h.text;
    rows = all-up_to-later (k - 1) k low doc.rows.items h.rows;
    cols = all-up_to-later (k - 1) k low doc.cols.items h.cols;
    rise = h.rise;
  }

  put-elements : (t : ShownContent) (p : ℕ) (seg : Seg) (props : PropertyList) (bs : List ElementContent) → segment_contents seg ≡ bs
      → (after_changes t (unless_no_elements bs (Put p seg props))).elements ≡ put_in p (styled_elements props bs) t.elements
  put-elements t p seg props [] e = sym (put_in-none p t.elements)
  put-elements t p seg props (b ∷ bs) e = ap (λ cs. put_in p (styled_elements props cs) t.elements) e

  put-rows : (t : ShownContent) (p : ℕ) (seg : Seg) (props : PropertyList) (bs : List ElementContent) → (after_changes t (unless_no_elements bs (Put p seg props))).rows ≡ t.rows
  put-rows t p seg props [] = refl
  put-rows t p seg props (b ∷ bs) = refl

  put-cols : (t : ShownContent) (p : ℕ) (seg : Seg) (props : PropertyList) (bs : List ElementContent) → (after_changes t (unless_no_elements bs (Put p seg props))).cols ≡ t.cols
  put-cols t p seg props [] = refl
  put-cols t p seg props (b ∷ bs) = refl

  text-step : (t : ShownContent) (doc : Document) (op : BaseOp) (taken : Document × NamedElements) → ShowsUpTo (k - 1) t doc → local_text doc k op ≡ Ok taken
      → ShowsUpTo k (after_changes t (told_local_text k doc op)) taken.0
  text-step t doc (Insert p seg props) taken h e =
      let r = in-range p (len (seen (k - 1)) doc.text.items) _ taken e in
      let same = unchanged t doc h in
      let bs = segment_contents seg in
      let ps = apply [] props in
      subst (ShowsUpTo k (after_changes t (told_local_text k doc (Insert p seg props)))) r.1 (record {
        lists = record {
          elements = put-elements t p seg ps bs refl ∙ ap (put_in p (styled_elements ps bs)) h.lists.elements ∙ sym (local-insertion-shown k doc.text h.text p ps bs r.0);
          rows = put-rows t p seg ps bs ∙ same.lists.rows;
          cols = put-cols t p seg ps bs ∙ same.lists.cols;
        };
        text = insertion-up_to k doc.text h.text p ps bs;
        rows = same.rows;
        cols = same.cols;
        rise = h.rise;
      })
  text-step t doc (Remove p q) taken h e =
      let r = in-range q (len (seen (k - 1)) doc.text.items) _ taken e in
      let same = unchanged t doc h in
      let runs = gone_runs (seen (k - 1)) (seen k) p q doc.text.items in
      subst (ShowsUpTo k (after_changes t (map taken_run runs))) r.1 (record {
        lists = record {
          elements = taken-elements t runs ∙ ap (without_runs runs) h.lists.elements ∙ sym (local-removal-shown k doc.text h.text p q);
          rows = taken-rows t runs ∙ same.lists.rows;
          cols = taken-cols t runs ∙ same.lists.cols;
        };
        text = removal-all_up_to k doc.text h.text p q;
        rows = same.rows;
        cols = same.cols;
        rise = h.rise;
      })
  text-step t doc (Annotate p q changes) taken h e =
      let r = in-range q (len (seen (k - 1)) doc.text.items) _ taken e in
      let same = unchanged t doc h in
      let runs = changed_runs same_props shown_properties (with_pending_annotation k changes) (seen (k - 1)) (seen k) p q doc.text.items in
      subst (ShowsUpTo k (after_changes t (map styled_run runs))) r.1 (record {
        lists = record {
          elements = styled-elements t runs ∙ ap (with_runs restyled runs) h.lists.elements
              ∙ sym (local-annotation-shown k doc.text h.text same_props (λ a b. (same_props-Decides a b).0) p q changes);
          rows = styled-rows t runs ∙ same.lists.rows;
          cols = styled-cols t runs ∙ same.lists.cols;
        };
        text = annotation-up_to k doc.text h.text p q changes;
        rows = same.rows;
        cols = same.cols;
        rise = h.rise;
      })

  grid-step : (t : ShownContent) (doc : Document) (op : CellOp) (taken : Document × NamedElements) → ShowsUpTo (k - 1) t doc → local_grid doc k op ≡ Ok taken
      → ShowsUpTo k (after_changes t (told_local_grid k doc op)) taken.0
  grid-step t doc (SpliceIn Rows p count) taken h e =
      let r = in-range p (len (seen (k - 1)) doc.rows.items) _ taken e in
      subst (ShowsUpTo k (after_changes t (told_local_grid k doc (SpliceIn Rows p count)))) r.1 (by (nat_eq count 0) refl)
    where
      same : ShowsUpTo k t doc
      same = unchanged t doc h

      by : (b : Bool) → nat_eq count 0 ≡ b → ShowsUpTo k (after_changes t (cond b [] (PutUnits Rows p count ∷ []))) (record doc { rows = after_local_insertion k p [] (replicate count GridUnit) doc.rows })
      by true z = record {
        lists = record {
          elements = same.lists.elements;
          rows = h.lists.rows ∙ (let n = eqb-true count 0 z in let more : len (seen (k - 1)) doc.rows.items ≡ len (seen (k - 1)) doc.rows.items + count = omega arith in more)
              ∙ sym (local-insertion-count k doc.rows h.rows p count);
          cols = same.lists.cols;
        };
        text = same.text;
        rows = insertion-up_to k doc.rows h.rows p [] (replicate count GridUnit);
        cols = same.cols;
        rise = h.rise;
      }
      by false z = record {
        lists = record {
          elements = same.lists.elements;
          rows = ap (λ m. m + count) h.lists.rows ∙ sym (local-insertion-count k doc.rows h.rows p count);
          cols = same.lists.cols;
        };
        text = same.text;
        rows = insertion-up_to k doc.rows h.rows p [] (replicate count GridUnit);
        cols = same.cols;
        rise = h.rise;
      }
  grid-step t doc (SpliceIn Cols p count) taken h e =
      let r = in-range p (len (seen (k - 1)) doc.cols.items) _ taken e in
      subst (ShowsUpTo k (after_changes t (told_local_grid k doc (SpliceIn Cols p count)))) r.1 (by (nat_eq count 0) refl)
    where
      same : ShowsUpTo k t doc
      same = unchanged t doc h

      by : (b : Bool) → nat_eq count 0 ≡ b → ShowsUpTo k (after_changes t (cond b [] (PutUnits Cols p count ∷ []))) (record doc { cols = after_local_insertion k p [] (replicate count GridUnit) doc.cols })
      by true z = record {
        lists = record {
          elements = same.lists.elements;
          cols = h.lists.cols ∙ (let n = eqb-true count 0 z in let more : len (seen (k - 1)) doc.cols.items ≡ len (seen (k - 1)) doc.cols.items + count = omega arith in more)
              ∙ sym (local-insertion-count k doc.cols h.cols p count);
          rows = same.lists.rows;
        };
        text = same.text;
        cols = insertion-up_to k doc.cols h.cols p [] (replicate count GridUnit);
        rows = same.rows;
        rise = h.rise;
      }
      by false z = record {
        lists = record {
          elements = same.lists.elements;
          cols = ap (λ m. m + count) h.lists.cols ∙ sym (local-insertion-count k doc.cols h.cols p count);
          rows = same.lists.rows;
        };
        text = same.text;
        cols = insertion-up_to k doc.cols h.cols p [] (replicate count GridUnit);
        rows = same.rows;
        rise = h.rise;
      }
  grid-step t doc (SpliceOut Rows p q) taken h e =
      let r = in-range q (len (seen (k - 1)) doc.rows.items) _ taken e in
      let same = unchanged t doc h in
      let runs = gone_runs (seen (k - 1)) (seen k) p q doc.rows.items in
      subst (ShowsUpTo k (after_changes t (map (taken_units Rows) runs))) r.1 (record {
        lists = record {
          elements = units-elements Rows t runs ∙ same.lists.elements;
          rows = units-rows t runs ∙ ap (less_runs runs) h.lists.rows ∙ local-removal-count k doc.rows h.rows p q;
          cols = units-rows-cols t runs ∙ same.lists.cols;
        };
        text = same.text;
        rows = removal-all_up_to k doc.rows h.rows p q;
        cols = same.cols;
        rise = h.rise;
      })
  grid-step t doc (SpliceOut Cols p q) taken h e =
      let r = in-range q (len (seen (k - 1)) doc.cols.items) _ taken e in
      let same = unchanged t doc h in
      let runs = gone_runs (seen (k - 1)) (seen k) p q doc.cols.items in
      subst (ShowsUpTo k (after_changes t (map (taken_units Cols) runs))) r.1 (record {
        lists = record {
          elements = units-elements Cols t runs ∙ same.lists.elements;
          cols = units-cols t runs ∙ ap (less_runs runs) h.lists.cols ∙ local-removal-count k doc.cols h.cols p q;
          rows = units-cols-rows t runs ∙ same.lists.rows;
        };
        text = same.text;
        cols = removal-all_up_to k doc.cols h.cols p q;
        rows = same.rows;
        rise = h.rise;
      })
  grid-step t doc (Set i j value) taken h e = by (at (seen (k - 1)) i doc.rows.items) (at (seen (k - 1)) j doc.cols.items) e
    where
      by : (row col : Option ListElement) → local_set doc k row col ≡ Ok taken → ShowsUpTo k t taken.0
      by (Some row) (Some col) d = subst (ShowsUpTo k t) (ap (λ (r : EditResult). elim r as (λ _. Document) [ Ok u ↦ u.0 | Err f ↦ doc ]) d) (unchanged t doc h)
      by (Some row) None d = absurd (cc)
      by None col d = absurd (cc)

  interval-step : (t : ShownContent) (doc : Document) (stages : List Stage) (op : TextOp) (taken : Document × NamedElements) → ShowsUpTo (k - 1) t doc → local_interval doc stages k op ≡ Ok taken → ShowsUpTo k t taken.0
  interval-step t doc stages op taken h e = by (id_fault (shown_intervals doc.text.items doc.intervals stages) op) (given_ends_fit (len (seen (k - 1)) doc.text.items) (ends_of op)) e
    where
      by : (fault : Option EditFault) (b : Bool)
          → unless_fault fault (cond b (Ok (doc, elements_at_given_ends (seen (k - 1)) doc.text.items (ends_of op))) (Err (OutOfRange (len (seen (k - 1)) doc.text.items)))) ≡ Ok taken → ShowsUpTo k t taken.0
      by (Some f) b d = absurd (cc)
      by None true d = subst (ShowsUpTo k t) (ap (λ (r : EditResult). elim r as (λ _. Document) [ Ok u ↦ u.0 | Err f ↦ doc ]) d) (unchanged t doc h)
      by None false d = absurd (cc)

  pub step : (t : ShownContent) (doc : Document) (stages : List Stage) (o : SubOperation) (taken : Document × NamedElements) → ShowsUpTo
      (k - 1) t doc → local_sub_operation doc stages k o ≡ Ok taken
      → ShowsUpTo k (after_changes t (told_local k doc o)) taken.0
  step t doc stages (OnText op) taken h e = text-step t doc op taken h e
  step t doc stages (OnIntervals op) taken h e = interval-step t doc stages op taken h e
  step t doc stages (OnGrid op) taken h e = grid-step t doc op taken h e

-- ---- all sub-operations of an edit

-- what is made of an edit's rest
abbrev pub Made : Type 0
Made = Result (Document × List Stage) EditFault

-- the stage at the front
abbrev pub with_front : Stage → Made → Made
with_front here r = elim r as (λ _. Made) [ Err fault ↦ Err fault | Ok rest ↦ Ok (rest.0, here ∷ rest.1) ]

pub front-parts : (here : Stage) (r : Made) (done : Document × List Stage) → with_front here r ≡ Ok done → (rest : Document × List Stage) ×
    (r ≡ Ok rest) × (done ≡ (rest.0, here ∷ rest.1))
front-parts here (Ok rest) done e =
    (rest, refl, sym (ap (λ (r : Made). elim r as (λ _. Document × List Stage) [ Ok u ↦ u | Err f ↦ done ]) e))
front-parts here (Err f) done e = absurd (cc)

steps : (k : ℕ) (os : List SubOperation) (t : ShownContent) (doc : Document) (stages : List Stage) (done : Document × List Stage) → 1 ≤ k → ShowsUpTo (k - 1) t doc
    → local_sub_operations doc stages k os ≡ Ok done → ShowsUpTo (k - 1 + length done.1) (after_changes t (told_locals doc stages k os)) done.0
steps k [] t doc stages done one h e =
    let parts : (doc, []) ≡ done = ap (λ (r : Result (Document × List Stage) EditFault). elim r as (λ _. Document × List Stage) [ Ok u ↦ u | Err f ↦ (doc, []) ]) e in
    let same : k - 1 ≡ k - 1 + 0 = omega arith in
    subst (λ (u : Document × List Stage). ShowsUpTo (k - 1 + length u.1) t u.0) parts (subst (λ i. ShowsUpTo i t doc) same h)
steps k (o ∷ os) t doc stages done one h e =
    by (local_sub_operation doc stages k o) refl e
    (λ taken shows made. steps (k + 1) os (after_changes t (told_local k doc o)) taken.0 (stages ++ (here taken ∷ [])) made (omega arith) shows)
  where
    here : Document × NamedElements → Stage
    here taken = record { stage = k; sub_operation = o; names = taken.1 }

    by : (r : EditResult) → local_sub_operation doc stages k o ≡ r
        → elim r as (λ _. Made) [ Err fault ↦ Err fault | Ok taken ↦ with_front (record { stage = k; sub_operation = o; names = taken.1 }) (local_sub_operations taken.0 (stages ++ (record { stage = k; sub_operation = o; names = taken.1 } ∷ [])) (k + 1) os) ] ≡ Ok done
        → ((taken : Document × NamedElements) → ShowsUpTo (k + 1 - 1) (after_changes t (told_local k doc o)) taken.0 → (made : Document × List Stage)
        → local_sub_operations taken.0 (stages ++ (here taken ∷ [])) (k + 1) os ≡ Ok made
        → ShowsUpTo (k + 1 - 1 + length made.1) (after_changes (after_changes t (told_local k doc o)) (told_locals taken.0 (stages ++ (here taken ∷ [])) (k + 1) os)) made.0)
        → ShowsUpTo (k - 1 + length done.1)
        (after_changes t (elim r as (λ _. List ViewChange) [ Err fault ↦ [] | Ok taken ↦ told_local k doc o ++ told_locals taken.0 (stages ++ (record { stage = k; sub_operation = o; names = taken.1 } ∷ [])) (k + 1) os ])) done.0
    by (Err fault) s d next = absurd (cc)
    by (Ok taken) s d next =
        let parts = front-parts (here taken) (local_sub_operations taken.0 (stages ++ (here taken ∷ [])) (k + 1) os) done d in
        let rest = parts.0 in
        let shows : ShowsUpTo k (after_changes t (told_local k doc o)) taken.0 = step k t doc stages o taken h s in
        let same : k ≡ k + 1 - 1 = omega arith in
        let after = next taken (subst (λ i. ShowsUpTo i (after_changes t (told_local k doc o)) taken.0) same shows) rest parts.1 in
        let stage : k + 1 - 1 + length rest.1 ≡ k - 1 + suc (length rest.1) = omega arith in
        let later = told_locals taken.0 (stages ++ (here taken ∷ [])) (k + 1) os in
        subst (λ (u : Document × List Stage). ShowsUpTo (k - 1 + length u.1) (after_changes t (told_local k doc o ++ later)) u.0) (sym parts.2)
        (subst (λ u. ShowsUpTo (k - 1 + suc (length rest.1)) u rest.0) (sym (after-append t (told_local k doc o) later))
        (subst (λ i. ShowsUpTo i (after_changes (after_changes t (told_local k doc o)) later) rest.0) stage after))

-- ---- the client before the edit

both : (a b : Bool) → a && b ≡ true → (a ≡ true) × (b ≡ true)
both true b h = (refl, h)
both false b h = absurd (cc)

joined : (a b : Bool) → a ≡ true → b ≡ true → a && b ≡ true
joined true b e d = d
joined false b e d = absurd (cc)

below : (last i : ℕ) (ks : List ℕ) → RiseTo last ks → list_any (nat_eq i) ks ≡ true → nat_le i last ≡ true
below last i [] r h = absurd (cc)
below last i (k ∷ ks) r h = by (nat_eq i k) refl h (below last i ks r.2)
  where
    by : (b : Bool) → nat_eq i k ≡ b → b || list_any (nat_eq i) ks ≡ true → (list_any (nat_eq i) ks ≡ true → nat_le i last ≡ true) → nat_le i last ≡ true
    by true e d rest = let is = eqb-true i k e in let le = r.0 in grind (arith, nat_tests, is, le)
    by false e d rest = rest d

module _ (inserts removes : SubOperation → Bool) (stages : List Stage) (last : ℕ) (rise : StagesRiseTo 0 stages last) where
  stage-below : (kind : SubOperation → Bool) (i : ℕ) → is_stage_of kind stages i ≡ true → nat_le i last ≡ true
  stage-below kind i h = below last i (numbers_of_stages stages) (rise-to 0 last stages rise) (stage-known kind i stages h)

  insertion-below : (t : Stamp) → has_insertion_of inserts stages t ≡ true → has_occurred_at_stage last t ≡ true
  insertion-below (Acked s c) h = refl
  insertion-below (Local i) h = stage-below inserts i h

  removals-below : (dels : List Stamp) (o : Option ℕ) → list_all is_acked dels ≡ true → has_removal_of removes stages o ≡ true → list_all (has_occurred_at_stage last) (dels ++ removal_stamp o) ≡ true
  removals-below [] None a h = refl
  removals-below [] (Some i) a h = joined (nat_le i last) true (stage-below removes i h) refl
  removals-below (Acked s c ∷ dels) o a h = removals-below dels o a h
  removals-below (Local i ∷ dels) o a h = absurd (cc)

  all-below : (xs : List ListElement) → list_all (has_marks_of inserts removes stages) xs ≡ true → list_all (is_up_to last) xs ≡ true
  all-below [] h = refl
  all-below (e ∷ xs) h =
      let p = both (has_marks_of inserts removes stages e) (list_all (has_marks_of inserts removes stages) xs) h in
      let q = both (has_insertion_of inserts stages e.ins && has_removal_of removes stages e.removal_stage) (list_all is_acked e.dels) p.0 in
      let r = both (has_insertion_of inserts stages e.ins) (has_removal_of removes stages e.removal_stage) q.0 in
      joined (is_up_to last e) (list_all (is_up_to last) xs)
      (joined (has_occurred_at_stage last e.ins) _ (insertion-below e.ins r.0) (removals-below e.dels e.removal_stage q.1 r.1)) (all-below xs p.1)

pub client-shows : (x : NaiveClient) → IsReady x → Rise interval_cmp x.doc.intervals → ShowsUpTo x.last_stage (shown_content x) x.doc
client-shows x ready rise =
    record {
      lists = record { elements = refl; rows = refl; cols = refl };
      text = all-below _ _ (stages_of x) x.last_stage ready.stages x.doc.text.items ready.text.place.marks;
      rows = all-below _ _ (stages_of x) x.last_stage ready.stages x.doc.rows.items ready.rows.place.marks;
      cols = all-below _ _ (stages_of x) x.last_stage ready.stages x.doc.cols.items ready.cols.place.marks;
      rise = rise;
    }

-- ---- the whole edit

pub rest-leads : (m z : ShownContent) → Rises m → Rises z → m.elements ≡ z.elements → m.rows ≡ z.rows → m.cols ≡ z.cols → after_changes m (told_rest m z) ≡ z
rest-leads m z before after elements rows cols =
    let cells = told_cells m.cells z.cells in
    let intervals = told_intervals m.intervals z.intervals in
    let n : ShownContent = record m { cells = z.cells } in
    let made : List ShownElement → ℕ → ℕ → ShownContent = λ es i j. record { elements = es; intervals = z.intervals; rows = i; cols = j; cells = z.cells } in
    after-append m cells intervals
    ∙ ap (λ t. after_changes t intervals) (cells-lead m z.cells before (record { intervals = before.intervals; cells = after.cells }))
    ∙ intervals-lead n z.intervals (record { intervals = before.intervals; cells = after.cells }) (record { intervals = after.intervals; cells = after.cells })
    ∙ ap (λ es. made es m.rows m.cols) elements ∙ ap (λ i. made z.elements i m.cols) rows ∙ ap (λ i. made z.elements z.rows i) cols

-- the client has this document, and these further stages
pub record IsEdited (x y : NaiveClient) (doc : Document) (stages : List Stage) : Type 0 where
  pub doc_is : y.doc ≡ doc
  pub last : y.last_stage ≡ x.last_stage + length stages

pub drafted : (x z : NaiveClient) (n : ℕ) (doc : Document) (stages : List Stage) (sent : Option SentAs) → IsEdited x z doc stages → IsEdited x
    (with_draft sent n z) doc stages
drafted x z n doc stages None h = h
drafted x z n doc stages (Some sent) h = record { doc_is = h.doc_is; last = h.last }

pub told-edit-leads : (x y : NaiveClient) (op : ChannelOp) → IsReady x → Rise interval_cmp x.doc.intervals → local_edit x op ≡ Ok y
    → after_changes (shown_content x) (told_edit x y op) ≡ shown_content y
told-edit-leads x y op ready rise e = by (local_sub_operations x.doc (stages_of x) (x.last_stage + 1) (sub_operations op)) refl e
  where
    lists : List ViewChange
    lists = told_edit_lists x op

    m : ShownContent
    m = after_changes (shown_content x) (told_edit_lists x op)

    by : (r : Made) → local_sub_operations x.doc (stages_of x) (x.last_stage + 1) (sub_operations op) ≡ r
        → elim r as (λ _. Result NaiveClient EditFault) [ Err fault ↦ Err fault | Ok taken ↦ Ok (after_edit op taken.0 taken.1 x) ] ≡ Ok y
        → after_changes (shown_content x) (told_edit x y op) ≡ shown_content y
    by (Err fault) s d = absurd (cc)
    by (Ok done) s d =
        let first : x.last_stage ≡ x.last_stage + 1 - 1 = omega arith in
        let before = subst (λ i. ShowsUpTo i (shown_content x) x.doc) first (client-shows x ready rise) in
        let after = steps (x.last_stage + 1) (sub_operations op) (shown_content x) x.doc (stages_of x) done (omega arith) before s in
        let is : after_edit op done.0 done.1 x ≡ y = ap (λ (r : Result NaiveClient EditFault). elim r as (λ _. NaiveClient) [ Ok u ↦ u | Err f ↦ x ]) d in
        let edited : IsEdited x y done.0 done.1 =
        subst (λ (u : NaiveClient). IsEdited x u done.0 done.1) is
        (drafted x _ x.doc.number done.0 done.1 (sent_as x.link x.next_client_seq op) (record { doc_is = refl; last = refl })) in
        let stage : x.last_stage + 1 - 1 + length done.1 ≡ y.last_stage = (let same : x.last_stage + 1 - 1 + length done.1 ≡ x.last_stage + length done.1 = omega arith in same ∙ sym edited.last) in
        let shows = subst (λ i. ShowsUpTo i m done.0) stage after in
        let ends = subst (λ (u : Document). ShowsUpTo y.last_stage m u) (sym edited.doc_is) shows in
        after-append (shown_content x) lists (told_rest m (shown_content y))
        ∙ rest-leads m (shown_content y) (changes-rise (shown_content x) lists (content-rises x rise)) (content-rises y ends.rise) ends.lists.elements ends.lists.rows ends.lists.cols

pub told-edit-leads-on : (x y : NaiveClient) (op : ChannelOp) → IsReached x → local_edit x op ≡ Ok y → after_changes (shown_content x) (told_edit x y op) ≡ shown_content y
told-edit-leads-on x y op reached e = told-edit-leads x y op (client-ready-from reached.start reached.steps x (reached-run x reached)) (reached-rise x reached) e
