-- What the segments and the intervals of a summary make of a tree. No public clause cites this module.
use Rattle.std.specs.Prelude.{◌≡◌, ℕ, ◌+◌, Bool, true, cond, List, [], ◌∷◌, ◌++◌, Option, Some, is_some, length, map}
use Rattle.ft_base.specs.declared.elements.Perspective.{Perspective}
use Rattle.ft_base.specs.Scan.{len}
use Rattle.ft_block.specs.declared.leaves.LenView.TheVariants.{At}
use Rattle.ft_interval_store.specs.declared.intervals.Interval.{Interval}
use Rattle.ft_interval_store.specs.Ends.{map_ends, places_of_given, slid_end}
use Rattle.ft_interval_store.specs.Intervals.{interval_cmp, interval_of, name_of}
use Rattle.ft_interval_store.specs.State.{CollectionsState, KeepsReferences, placed, text_elements}
use Rattle.ft_tree_leaves.specs.declared.text.TextContent.{TextContent}
use Rattle.ft_tree_leaves.specs.Elements.{elements_with, seen_in}
use Rattle.ft_tree_leaves.specs.References.{KeepsReferences as KeepsAllReferences}
use Rattle.ft_laws_agreement.specs.Sequencing.{Each}
use Rattle.ft_op.specs.declared.operations.Ends.{Ends}
use Rattle.ft_op.specs.declared.operations.TextOp.{TextOp}
use Rattle.ft_op.specs.declared.operations.TextOp.TheVariants.{IntervalAdd}
use Rattle.ft_op.specs.Document.{given_ends_fit}
use Rattle.ft_props.specs.Element.{ElementContent}
use Rattle.ft_props.specs.Keys.{Characters, put_rising}
use Rattle.ft_props.specs.Properties.{PropertySet, ValueBytes, apply}
use Rattle.ft_marks.specs.Marks.{stamp_of}
use Rattle.ft_msg.specs.Summary.{segment_bodies}
use Rattle.ft_sumdoc.specs.declared.summary.Ends2.{Ends2}
use Rattle.ft_sumdoc.specs.declared.summary.IntervalRec.{IntervalRec}
use Rattle.ft_sumdoc.specs.declared.summary.SegRec.{SegRec}
use Rattle.ft_tree.specs.State.{KeepsRest, TreeState}
use Rattle.ft_text.specs.Texts.{TextElements}
use Rattle.ft_string.specs.Parts.{AreSound}

-- ---- segments

-- elements with what a segment has beside its content
abbrev pub segment_elements : SegRec → List ElementContent → TextElements
segment_elements seg us =
    elements_with (record { ins = stamp_of seg.ins; dels = map stamp_of seg.dels }) (Some (stamp_of seg.by)) (record { acked = seg.props; pending = [] }) us

-- the elements of segments
abbrev pub summary_elements : List SegRec → TextElements
summary_elements [] = []
summary_elements (seg ∷ segs) = segment_elements seg (segment_bodies seg.body) ++ summary_elements segs

-- elements were put at the end of a tree of text
pub record Appends (added : TextElements) (old new : TreeState TextContent) : Type 0 where
  pub elements : text_elements new ≡ text_elements old ++ added
  pub refs : KeepsAllReferences old.refs new.refs
  pub rest : KeepsRest old new
  pub made : new.made ≡ old.made + length added

-- ---- intervals

-- the property as a set gives it
abbrev pub given_property : Characters × ValueBytes → Characters × Option ValueBytes
given_property p = (p.0, Some p.1)

-- the perspective that sees all that is sequenced, and nothing else
abbrev pub everybody : Perspective
everybody = record { r = 18446744073709551615; c = 0 }

-- the ends of an interval of a summary as an operation gives them
abbrev pub given_ends : Ends2 → Ends
given_ends e = record { start = e.start; end = e.end }

-- the operation adds the interval
pub record IsAddOf (i : IntervalRec) (op : TextOp) : Type 0 where
  pub set : PropertySet
  pub is : op ≡ IntervalAdd i.label i.id (given_ends i.ends) set
  pub makes : apply [] set ≡ i.props

-- whether the ends fit among the elements that everybody sees
abbrev pub fits_on : TextElements → IntervalRec → Bool
fits_on xs i = given_ends_fit (len (seen_in (At everybody)) xs) (Some (given_ends i.ends))

-- the interval on the elements that everybody sees at its numbers
abbrev pub interval_on : TextElements → IntervalRec → Interval ℕ
interval_on xs i = record {
  label = i.label;
  id = i.id;
  ends = map_ends (slid_end xs) (places_of_given (seen_in (At everybody)) xs (Some (given_ends i.ends)));
  props = i.props;
}

-- the intervals with one more, which does nothing where its name is there
abbrev pub with_one_more : Interval ℕ → List (Interval ℕ) → List (Interval ℕ)
with_one_more x is = cond (is_some (interval_of (name_of x) is)) is (put_rising interval_cmp x is)

-- the interval of a summary is put on a tree
pub record AddsInterval (i : IntervalRec) (old new : CollectionsState) (before after : TreeState TextContent) : Type 0 where
  pub placed_are : placed after.refs new
      ≡ record { acked = with_one_more (interval_on (text_elements before) i) (placed before.refs old).acked; pending = (placed before.refs old).pending }
  pub refs : KeepsReferences old new before.refs after.refs
  pub leaves : after ≡ record before { refs = after.refs }

-- all intervals of a summary are on a tree that had none
pub record HasIntervals (recs : List IntervalRec) (before after : TreeState TextContent) (c : CollectionsState) : Type 0 where
  pub placed_are : placed after.refs c ≡ record { acked = map (interval_on (text_elements before)) recs; pending = [] }
  pub leaves : after ≡ record before { refs = after.refs }
  pub sound : AreSound after c

-- each interval fits
abbrev pub AllFitOn : TextElements → List IntervalRec → Type 0
AllFitOn xs recs = Each (λ i. fits_on xs i ≡ true) recs
