-- How many nodes an edit reads, by the lists that are shown; and how many a search for intervals does.
use Rattle.std.proofs.Common.{◌≡◌, ◌≤◌, ◌^◌, ℕ, ◌+◌, ◌*◌, List, Option, Some, None, filter, length, refl, ◌∙◌, ap, subst, arith}
use Rattle.std.proofs.lemmas.List.{length-map}
use Rattle.ft_base.proofs.PlainList.{length-filter_seen}
use Rattle.std.specs.Ordering.{is_eq}
use Rattle.ft_op.specs.Intervals.{Interval}
use Rattle.ft_op.specs.Stages.{Stage}
use Rattle.ft_props.specs.Properties.{Characters, text_cmp}
use Rattle.ft_props.specs.Element.{NamelessElement}
use Rattle.ft_op.specs.declared.operations.CellOp.TheVariants.{SpliceIn, SpliceOut, Set}
use Rattle.ft_op.specs.declared.operations.ChannelOp.TheVariants.{Grid}
use Rattle.ft_op.specs.declared.operations.GridOp.{GridOp}
use Rattle.ft_op.specs.declared.operations.GridOp.TheVariants.{One, Group}
use Rattle.ft_op.specs.declared.operations.Target.{Target}
use Rattle.ft_op.specs.declared.operations.Target.TheVariants.{Rows, Cols}
use Rattle.ft_msg.specs.Client.{NaiveClient, stages_of}
use Rattle.ft_msg.specs.Indexed.{IndexedInterval, IndexedStage, indexed_interval, indexed_stage}
use Rattle.ft_msg.specs.Overlap.{ReadsFewNodes, is_on_intervals, overlap, pending_on_intervals}
use Rattle.ft_replica.specs.Own.{AreFew, ReadsFewNodesFor, ReadsFewOfLabelFor, counted_list}
use Rattle.ft_replica.proofs.FewNodeReads.{count-map}
use Rattle.ft_string.specs.Holds.{HoldsText, interval_stages}
use Rattle.ft_string.specs.State.{TextState, has_label}
use Rattle.ft_matrix.specs.GridStates.{depth_of}
use Rattle.ft_client.specs.declared.own.TreeOwn.{TreeOwn}
use Rattle.ft_client.specs.Holds.{tree_content, units_in}

-- no read is few
pub none-few : (list : Option (List NamelessElement)) (n : ℕ) → AreFew list n n
none-few None n = tt
none-few (Some list) n = (0, omega arith, omega arith)

pub grid-few : (s : TreeOwn) (op : GridOp) (before after : ℕ)
    → ((target : Target) (p count : ℕ) → op ≡ One (SpliceIn target p count) → after ≤ before + 9 * (depth_of target s.table + 1))
    → ((target : Target) → 4 ^ depth_of target s.table ≤ length (units_in target s.table) + 1) → AreFew (counted_list (Grid op) (tree_content s)) before after
grid-few s (One (SpliceIn Rows p count)) before after reads depth = (s.table.rows_depth, depth Rows, reads Rows p count refl)
grid-few s (One (SpliceIn Cols p count)) before after reads depth = (s.table.cols_depth, depth Cols, reads Cols p count refl)
grid-few s (One (SpliceOut target p q)) before after reads depth = tt
grid-few s (One (Set i j value)) before after reads depth = tt
grid-few s (Group ops) before after reads depth = tt

module _ (s : TextState) (p : NaiveClient) (label : Characters) (a b before after : ℕ) (h : HoldsText s p.doc (stages_of p)) where
  waiting : length s.interval_ops ≡ pending_on_intervals p
  waiting =
      ap (λ (ts : List IndexedStage). length ts) h.interval_ops ∙ length-map (interval_stages (stages_of p)) (indexed_stage p.doc)
      ∙ length-filter_seen (λ (t : Stage). is_on_intervals t.sub_operation) (stages_of p)

  few-of : (m n : ℕ) → m ≡ n → ReadsFewNodes m (length (overlap p label a b) + length s.interval_ops) before after
      → ReadsFewNodes n (length (overlap p label a b) + pending_on_intervals p) before after
  few-of m n all r =
      let found = length (overlap p label a b) in
      subst (λ k. ReadsFewNodes k (found + pending_on_intervals p) before after) all (subst (λ k. ReadsFewNodes m (found + k) before after) waiting r)

  pub interval-few : ReadsFewNodes (length s.intervals) (length (overlap p label a b) + length s.interval_ops) before after → ReadsFewNodesFor p label a b before after
  interval-few = few-of (length s.intervals) (length p.doc.intervals)
      (ap (λ (is : List IndexedInterval). length is) h.intervals ∙ length-map p.doc.intervals (indexed_interval p.doc.text.items))

  pub label-few : ReadsFewNodes (length (filter (has_label label) s.intervals)) (length (overlap p label a b) + length s.interval_ops) before after
      → ReadsFewOfLabelFor p label a b before after
  label-few = few-of (length (filter (has_label label) s.intervals)) (length (filter (λ (i : Interval). is_eq (text_cmp label i.label)) p.doc.intervals))
      (ap (λ (is : List IndexedInterval). length (filter (has_label label) is)) h.intervals
      ∙ count-map (has_label label) (indexed_interval p.doc.text.items) p.doc.intervals)
