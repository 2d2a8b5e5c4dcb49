-- What an edit tells of intervals, and what it doesn't tell of cells, of a client that steps made and of one that keeps such a client.
use Rattle.std.proofs.Common.{◌≡◌, false, [], Result, Ok, Err, refl, sym, ap, filter, subst}
use Rattle.std.specs.List.{list_any}
use Rattle.ft_op.specs.declared.operations.ChannelOp.{ChannelOp}
use Rattle.ft_op.specs.Document.{Document}
use Rattle.ft_op.specs.Intervals.{interval_cmp}
use Rattle.ft_op.specs.Operation.{sub_operations}
use Rattle.ft_msg.specs.Client.{NaiveClient, local_edit}
use Rattle.ft_msg.specs.ClientSteps.{Edits, unless_refused}
use Rattle.ft_msg.specs.Compacted.{IsCompacted}
use Rattle.ft_msg.specs.Reached.{IsReached}
use Rattle.ft_msg.proofs.ReachedSteps.{reached-after}
use Rattle.ft_laws_agreement.specs.Sequencing.{IsReady}
use Rattle.ft_laws_agreement.proofs.EveryClientReady.{client-ready-from}
use Rattle.ft_laws_agreement.proofs.SummaryStarts.{reached-run}
use Rattle.ft_laws_compaction.specs.Keeping.{AnswersAlike, refused, taken}
use Rattle.ft_laws_compaction.proofs.AllSteps.{reached-sound}
use Rattle.ft_laws_compaction.proofs.KeptReady.{kept-ready}
use Rattle.ft_laws_compaction.proofs.KeptSteps.{edits-answer}
use Rattle.ft_changes.specs.Beside.{is_changed_by}
use Rattle.ft_changes.specs.Laws.{after_edit_lists, changes_table}
use Rattle.ft_changes.specs.Shown.{shown_content}
use Rattle.ft_changes.specs.Told.{told_cells, told_intervals}
use Rattle.ft_changes.proofs.EditsQuiet.{edit-tells-no-cell}
use Rattle.ft_changes.proofs.OrderedIntervals.{reached-rise}
use Rattle.ft_changes.proofs.OwnIntervals.{edit-tells-its-intervals}
use Rattle.ft_changes.proofs.ToldItems.{Rise}

pub reached-ready : (x : NaiveClient) → IsReached x → IsReady x
reached-ready x reached = client-ready-from reached.start reached.steps x (reached-run x reached)

reached-edit : (x y : NaiveClient) (op : ChannelOp) → IsReached x → local_edit x op ≡ Ok y → IsReached y
reached-edit x y op reached e = reached-after x y (Edits op) reached (ap unless_refused e) refl

pub edits-tell-their-intervals : (x y : NaiveClient) (op : ChannelOp) → IsReached x → local_edit x op ≡ Ok y
    → told_intervals (after_edit_lists x op).intervals (shown_content y).intervals
    ≡ told_intervals (filter (is_changed_by (sub_operations op)) (after_edit_lists x op).intervals)
    (filter (is_changed_by (sub_operations op)) (shown_content y).intervals)
edits-tell-their-intervals x y op reached e =
    edit-tells-its-intervals x y op (reached-ready x reached) (reached-rise x reached) e (reached-ready y (reached-edit x y op reached e))

pub edits-leave-cells : (x y : NaiveClient) (op : ChannelOp) → IsReached x → local_edit x op ≡ Ok y → list_any changes_table (sub_operations op)
    ≡ false
    → told_cells (after_edit_lists x op).cells (shown_content y).cells ≡ []
edits-leave-cells x y op reached e none = edit-tells-no-cell x y op (reached-ready x reached) (reached-rise x reached) e none

-- ---- a client that keeps another

-- where it takes a step, so does the whole one, which it keeps then
whole-taken : {E : Type 0} {a b : Result NaiveClient E} (z : NaiveClient) → AnswersAlike E a b → a ≡ Ok z → (y : NaiveClient) ×
    ((b ≡ Ok y) × IsCompacted z y)
whole-taken z (refused fault) e = absurd (cc)
whole-taken {E} z (taken kept x k) e =
    (x, (refl, subst (λ w. IsCompacted w x) (ap (λ (r : Result NaiveClient E). elim r as (λ _. NaiveClient) [ Ok u ↦ u | Err f ↦ kept ]) e) k))

module _ (kept x z : NaiveClient) (op : ChannelOp) (reached : IsReached x) (k : IsCompacted kept x) (e : local_edit kept op ≡ Ok z) where
  ready : IsReady kept
  ready = kept-ready reached.steps x kept (reached-sound x reached) k

  rise : Rise interval_cmp kept.doc.intervals
  rise = subst (Rise interval_cmp) (sym (ap (λ (doc : Document). doc.intervals) k.doc.rest)) (reached-rise x reached)

  after : IsReady z
  after =
      let answer = whole-taken z (edits-answer reached.steps x kept op (reached-sound x reached) k) e in
      let next = reached-edit x answer.0 op reached answer.1.0 in
      kept-ready next.steps answer.0 z (reached-sound answer.0 next) answer.1.1

  pub kept-edits-tell-their-intervals : told_intervals (after_edit_lists kept op).intervals (shown_content z).intervals
      ≡ told_intervals (filter (is_changed_by (sub_operations op)) (after_edit_lists kept op).intervals)
      (filter (is_changed_by (sub_operations op)) (shown_content z).intervals)
  kept-edits-tell-their-intervals = edit-tells-its-intervals kept z op ready rise e after

  pub kept-edits-leave-cells : list_any changes_table (sub_operations op) ≡ false → told_cells (after_edit_lists kept op).cells
      (shown_content z).cells ≡ []
  kept-edits-leave-cells none = edit-tells-no-cell kept z op ready rise e none
