-- Which names are shown: those of the intervals with places here, of those with names there.
use Rattle.std.proofs.Common.{◌≡◌, ℕ, Bool, true, false, cond, not, List, [], ◌∷◌, Some, None, refl, sym, ◌∙◌, ap, map}
use Rattle.ft_interval_store.specs.declared.intervals.Interval.{Interval}
use Rattle.ft_interval_store.specs.declared.pending.Operation.{Operation}
use Rattle.ft_interval_store.specs.Ends.{map_ends, places_of_ends}
use Rattle.ft_interval_store.specs.Intervals.{Name, NamesRise, after_operation, name_in}
use Rattle.ft_interval_store.specs.Shown.{carried, carried_interval, last as top, settled_end, settled_interval, shown_from}
use Rattle.ft_interval_store.specs.State.{CollectionsState, is_add, is_interval_operation, is_shown, placed, text_elements, with_mapped_ends}
use Rattle.ft_interval_store.proofs.OneInterval.{NamesRise-after, NamesRise-map}
use Rattle.ft_tree_leaves.specs.declared.text.TextContent.{TextContent}
use Rattle.ft_msg.specs.declared.faults.EditFault.TheVariants.{IdInUse, NoSuchInterval}
use Rattle.ft_msg.specs.Client.{id_fault}
use Rattle.ft_msg.specs.Indexed.{IndexedInterval}
use Rattle.ft_op.specs.declared.operations.TextOp.{TextOp}
use Rattle.ft_op.specs.declared.operations.TextOp.TheVariants.{One, Group, IntervalAdd, IntervalChange, IntervalDelete}
use Rattle.ft_op.specs.Document.{Document}
use Rattle.ft_op.specs.Intervals.{has_interval}
use Rattle.ft_op.specs.Intervals.{Interval as NamedInterval}
use Rattle.ft_op.specs.Stages.{Stage, shown_intervals}
use Rattle.ft_tree.specs.State.{TreeState}
use Rattle.ft_text.specs.Texts.{TextElements}
use Rattle.ft_string.specs.Holds.{HoldsText, IsTextSound}
use Rattle.ft_string.specs.Parts.{state_of}
use Rattle.ft_string.specs.declared.pending.PendingOp.{PendingOp}
use Rattle.ft_string.proofs.CarriedIntervals.{IsAlike, all-alike}
use Rattle.ft_string.proofs.RisingBeside.{has-alike}

rise-from : (xs : TextElements) (n : ℕ) (us : List Operation) (is : List (Interval ℕ)) → NamesRise is → NamesRise (shown_from xs n us is)
rise-from xs n [] is r = NamesRise-map (carried_interval xs n top) is (λ i. refl) r
rise-from xs n (u ∷ us) is r =
    rise-from xs u.stage us (after_operation u.op (map_ends (settled_end xs u.stage) u.ends) (carried xs n u.stage is))
    (NamesRise-after u.op (map_ends (settled_end xs u.stage) u.ends) (carried xs n u.stage is) (NamesRise-map (carried_interval xs n u.stage) is (λ i. refl) r))

module _ (tree : TreeState TextContent) (c : CollectionsState) (ops : List PendingOp) (given last : ℕ) (usable : Bool) (doc : Document) (stages : List Stage)
    (sound : IsTextSound last doc stages) (holds : HoldsText (state_of tree c ops given usable) doc stages) (rises : NamesRise c.acked) where
  abbrev xs : TextElements
  xs = text_elements tree

  rising : NamesRise (map (settled_interval xs 0) (placed tree.refs c).acked)
  rising = NamesRise-map (settled_interval xs 0) (placed tree.refs c).acked (λ i. refl) (NamesRise-map (with_mapped_ends (places_of_ends tree.refs)) c.acked (λ i. refl) rises)

  pub shown-has : (n : Name) → is_shown xs n (placed tree.refs c) ≡ has_interval n.0 n.1 (shown_intervals doc.text.items doc.intervals stages)
  shown-has n =
      has-alike (IsAlike doc.text.items) (λ i d q. ap (λ (j : IndexedInterval). j.label) q) (λ i d q. ap (λ (j : IndexedInterval). j.id) q) n
      (rise-from xs 0 (placed tree.refs c).pending (map (settled_interval xs 0) (placed tree.refs c).acked) rising)
      (all-alike tree c ops given last usable doc stages sound holds rises)

  abbrev shown : List NamedInterval
  shown = shown_intervals doc.text.items doc.intervals stages

  -- what the name of an operation means
  pub no-fault : (op : TextOp) → is_interval_operation op ≡ true → is_shown xs (name_in op) (placed tree.refs c) ≡ not (is_add op) → id_fault shown op ≡ None
  no-fault (One op) k h = (cc)
  no-fault (Group ops) k h = (cc)
  no-fault (IntervalAdd label id given props) k h = ap (λ b. cond b (Some IdInUse) None) (sym (shown-has (label, id)) ∙ h)
  no-fault (IntervalChange label id given props) k h = ap (λ b. cond b None (Some NoSuchInterval)) (sym (shown-has (label, id)) ∙ h)
  no-fault (IntervalDelete label id) k h = ap (λ b. cond b None (Some NoSuchInterval)) (sym (shown-has (label, id)) ∙ h)

  pub in-use : (op : TextOp) → is_add op ≡ true → is_shown xs (name_in op) (placed tree.refs c) ≡ true → id_fault shown op ≡ Some IdInUse
  in-use (One op) k h = (cc)
  in-use (Group ops) k h = (cc)
  in-use (IntervalAdd label id given props) k h = ap (λ b. cond b (Some IdInUse) None) (sym (shown-has (label, id)) ∙ h)
  in-use (IntervalChange label id given props) k h = (cc)
  in-use (IntervalDelete label id) k h = (cc)

  pub not-there : (op : TextOp) → is_interval_operation op ≡ true → is_add op ≡ false → is_shown xs (name_in op) (placed tree.refs c) ≡ false
      → id_fault shown op ≡ Some NoSuchInterval
  not-there (One op) k a h = (cc)
  not-there (Group ops) k a h = (cc)
  not-there (IntervalAdd label id given props) k a h = (cc)
  not-there (IntervalChange label id given props) k a h = ap (λ b. cond b None (Some NoSuchInterval)) (sym (shown-has (label, id)) ∙ h)
  not-there (IntervalDelete label id) k a h = ap (λ b. cond b None (Some NoSuchInterval)) (sym (shown-has (label, id)) ∙ h)
