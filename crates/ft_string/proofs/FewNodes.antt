-- How many nodes of an index are read to find the intervals of a shared text that meet a range.
use Rattle.std.proofs.Common.{◌≡◌, ℕ, ◌+◌, ◌*◌, ◌^◌, ◌≤◌, Bool, List, ◌∙◌, ap, filter, length, map, subst, sym}
use Rattle.std.proofs.lemmas.List.{length-map}
use Rattle.ft_base.specs.Scan.{len}
use Rattle.ft_block.specs.declared.leaves.LenView.TheVariants.{Stage as at_stage}
use Rattle.ft_msg.specs.Content.{interval_record}
use Rattle.ft_msg.specs.Overlap.{ReadsFewNodes}
use Rattle.ft_op.specs.Document.{Document}
use Rattle.ft_op.specs.Stages.{Stage, shown_intervals}
use Rattle.ft_props.specs.Keys.{Characters}
use Rattle.ft_sumdoc.specs.declared.summary.IntervalRec.{IntervalRec}
use Rattle.ft_sumdoc.specs.Meeting.{meets}
use Rattle.ft_tree.specs.State.{TreeState}
use Rattle.ft_tree_leaves.specs.declared.text.TextContent.{TextContent}
use Rattle.ft_tree_leaves.specs.Elements.{seen_in}
use Rattle.ft_interval_store.specs.declared.intervals.Interval.{Interval}
use Rattle.ft_interval_store.specs.Ends.{References, places_of_ends}
use Rattle.ft_interval_store.specs.Intervals.{NamesRise, has_label as has_stored_label}
use Rattle.ft_interval_store.specs.Shown.{last as top, shown_intervals as placed_shown, shown_record}
use Rattle.ft_interval_store.specs.State.{CollectionsState, placed, placed_intervals, placed_operations, text_elements, with_mapped_ends}
use Rattle.ft_interval_store.proofs.RisingLists.{filter-map}
use Rattle.ft_string.specs.Holds.{HoldsText, IsTextSound}
use Rattle.ft_string.specs.Parts.{state_of}
use Rattle.ft_string.specs.State.{TextState, has_label, interval_with_places}
use Rattle.ft_string.specs.declared.pending.PendingOp.{PendingOp}
use Rattle.ft_string.proofs.CarriedIntervals.{intervals-alike}

-- as many intervals of a label are seen as are kept
pub as-labelled : (refs : References) (label : Characters) (acked : List (Interval ℕ))
    → length (filter (has_stored_label label) acked) ≡ length (filter (has_label label) (map interval_with_places (placed_intervals refs acked)))
as-labelled refs label acked =
    let placed_one = with_mapped_ends (places_of_ends refs) in
    sym (ap (λ (is : List _). length is) (filter-map (has_label label) interval_with_places (placed_intervals refs acked))
    ∙ length-map (filter (λ i. has_label label (interval_with_places i)) (placed_intervals refs acked)) interval_with_places
    ∙ ap (λ (is : List (Interval ℕ)). length is) (filter-map (λ i. has_label label (interval_with_places i)) placed_one acked)
    ∙ length-map (filter (has_stored_label label) acked) placed_one)

pub as-many : (refs : References) (acked : List (Interval ℕ)) → length acked ≡ length (map interval_with_places (placed_intervals refs acked))
as-many refs acked = sym (length-map (placed_intervals refs acked) interval_with_places ∙ length-map acked (with_mapped_ends (places_of_ends refs)))

module _ (tree : TreeState TextContent) (c : CollectionsState) (ops : List PendingOp) (given last : ℕ) (usable : Bool) (s : TextState)
    (view : state_of tree c ops given usable ≡ s) (doc : Document) (stages : List Stage) (sound : IsTextSound last doc stages) (holds : HoldsText s doc stages)
    (names : NamesRise c.acked) (few : len (seen_in (at_stage top)) (text_elements tree) ≤ 9223372036854775807) (label : Characters) (a b : ℕ) where
  -- the same list, as it is shown and as it is kept
  pub same-shown : filter (meets label a b) (map (shown_record (text_elements tree))
      (placed_shown (text_elements tree) (placed tree.refs c).acked (placed tree.refs c).pending))
      ≡ filter (meets label a b) (map (interval_record last doc.text.items) (shown_intervals doc.text.items doc.intervals stages))
  same-shown = ap (filter (meets label a b)) (intervals-alike tree c ops given last usable doc stages sound
      (subst (λ t. HoldsText t doc stages) (sym view) holds) names few)

  -- so few nodes are read for it, in an index of n intervals
  pub few-nodes : (d n before after : ℕ) → 4 ^ d ≤ n + 1
      → after ≤ before + 9 * (d + 1) * (length (filter (meets label a b) (map (shown_record (text_elements tree))
      (placed_shown (text_elements tree) (placed tree.refs c).acked (placed tree.refs c).pending))) + length c.pending + 1)
      → ReadsFewNodes n (length (filter (meets label a b) (map (interval_record last doc.text.items) (shown_intervals doc.text.items doc.intervals stages)))
      + length s.interval_ops) before after
  few-nodes d n before after deep cost =
      let waiting : length c.pending ≡ length s.interval_ops =
      sym (length-map (placed_operations tree.refs c.pending) _ ∙ length-map c.pending _) ∙ ap (λ (t : TextState). length t.interval_ops) view
      in
      let found = length (filter (meets label a b) (map (interval_record last doc.text.items) (shown_intervals doc.text.items doc.intervals stages))) in (
        d,
        deep,
        subst (λ m. after ≤ before + 9 * (d + 1) * (found + m + 1)) waiting
            (subst (λ (rs : List IntervalRec). after ≤ before + 9 * (d + 1) * (length rs + length c.pending + 1)) same-shown cost),
      )
