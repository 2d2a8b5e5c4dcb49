-- The segments of a summary, as they are made from the leaves of a text in order: one is open, and the segment of the next
-- element joins it or ends it.
use Rattle.std.specs.Prelude.{◌≡◌, ℕ, ◌+◌, ◌%◌, ◌==◌, cond, not, List, [], ◌∷◌, ◌++◌, Option, Some, None, filter, map}
use Rattle.ft_base.specs.declared.stamps.Stamp.{Stamp}
use Rattle.ft_base.specs.declared.elements.Element.{Element as ElementStamps}
use Rattle.ft_tree_leaves.specs.declared.leaves.TreeLeaf.{TreeLeaf}
use Rattle.ft_tree_leaves.specs.declared.text.TextContent.{TextContent}
use Rattle.ft_tree_leaves.specs.Elements.{TreeElement}
use Rattle.ft_tree_leaves.specs.LeafLists.{elements}
use Rattle.ft_tree_leaves.specs.TextLeaves.{text_units}
use Rattle.ft_props.specs.Compaction.{has_collectable_removal}
use Rattle.ft_props.specs.Element.{ElementContent}
use Rattle.ft_props.specs.Overlay.{OverlayState}
use Rattle.ft_sumdoc.specs.declared.summary.Seg.{Seg}
use Rattle.ft_sumdoc.specs.declared.summary.SegRec.{SegRec}
use Rattle.ft_sumdoc.specs.Chunks.{chunk_length}
use Rattle.ft_marks.specs.Marks.{author_mark, insertion_mark, mark_of}
use Rattle.ft_msg.specs.SummaryOf.{element_body, extended_segments}
use Rattle.ft_text.specs.Texts.{TextElements, TextLeaves}
use Rattle.ft_text.specs.declared.segments.Head.{Head}
use Rattle.ft_text.specs.declared.segments.Segments.{Segments}

-- ---- segments of one element

-- what a segment of elements with these stamps, author and properties has beside its content
abbrev pub head_of : ℕ → ElementStamps → Option Stamp → OverlayState → Head
head_of min stamps by overlay = record { props = overlay.acked; by = author_mark by; ins = insertion_mark min stamps.ins; dels = map mark_of stamps.dels }

-- a segment with this head
abbrev pub headed : Head → Seg → SegRec
headed h body = record { body = body; props = h.props; by = h.by; ins = h.ins; dels = h.dels }

-- the segment of one element
abbrev pub unit_segment : Head → ElementContent → SegRec
unit_segment h u = headed h (element_body u)

abbrev pub element_segment : ℕ → TreeElement ElementContent → SegRec
element_segment min e = unit_segment (head_of min e.stamps e.by e.overlay) e.unit

-- the segments of the elements of a text that a summary with this minimum keeps
abbrev pub kept_segments : ℕ → TextElements → List SegRec
kept_segments min xs = map (element_segment min) (filter (λ e. not (has_collectable_removal min e.stamps.dels)) xs)

abbrev pub segments_in : ℕ → TextLeaves → List SegRec
segments_in min xs = kept_segments min (elements text_units (λ (x : TextContent). x.by) xs)

-- and those of one leaf
abbrev pub leaf_segments : ℕ → TreeLeaf TextContent → List SegRec
leaf_segments min x =
    cond (has_collectable_removal min x.stamps.dels) [] (map (unit_segment (head_of min x.stamps x.content.by x.overlay)) (text_units x.content))

-- ---- joined segments

-- segments of one element each, the first of which has place i, joined as a summary has them
abbrev pub joined_from : ℕ → List SegRec → List SegRec
joined_from i [] = []
joined_from i (seg ∷ segs) = extended_segments ((i + 1) % chunk_length == 0) seg (joined_from (i + 1) segs)

-- the same where this one is open before them
abbrev pub joined_behind : ℕ → Option SegRec → List SegRec → List SegRec
joined_behind i None segs = joined_from i segs
joined_behind i (Some last) segs = extended_segments (i % chunk_length == 0) last (joined_from i segs)

-- the segments so far, and then those of more elements
abbrev pub whole : Segments → List SegRec → List SegRec
whole s more = s.list ++ joined_behind s.count s.last more

-- elements more, each given as its segment
pub record Adds (segs : List SegRec) (old new : Segments) : Type 0 where
  pub goes : (more : List SegRec) → whole new more ≡ whole old (segs ++ more)
