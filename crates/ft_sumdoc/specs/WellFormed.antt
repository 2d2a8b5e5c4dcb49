-- Which summaries are as what is written: the numbers of their connections are counts, and they are cut so, the text into
-- chunks of 10,000 elements, and these, rows and columns into segments and runs that are as long as they can be.
use Rattle.std.specs.Prelude.{ℕ, zero, suc, ◌+◌, Bool, true, false, not, ◌&&◌, nat_le, bytes_eq, IsTrue, List, [], ◌∷◌, length}
use Rattle.ft_props.specs.Properties.{PropertyList}
use Rattle.ft_op.specs.Same.{same_list}
use Rattle.ft_op.specs.WellFormed.{is_count}
use Rattle.ft_sumdoc.specs.declared.summary.Mark.{Mark}
use Rattle.ft_sumdoc.specs.declared.summary.RunRec.{RunRec}
use Rattle.ft_sumdoc.specs.declared.summary.Seg.{Seg}
use Rattle.ft_sumdoc.specs.declared.summary.Seg.TheVariants.{Chars}
use Rattle.ft_sumdoc.specs.declared.summary.SegRec.{SegRec}
use Rattle.ft_sumdoc.specs.declared.summary.SumDoc.{SumDoc}
use Rattle.ft_sumdoc.specs.Chunks.{chunk_length, place_behind}
use Rattle.ft_sumdoc.specs.Forms.{rises}
use Rattle.ft_sumdoc.specs.Segments.{body_length}
use Rattle.ft_sumdoc.specs.Stamps.{same_mark}

-- ---- equality

-- whether two lists of properties are equal
abbrev pub same_props : PropertyList → PropertyList → Bool
same_props p q = same_list (λ a b. bytes_eq a.0 b.0 && bytes_eq a.1 b.1) p q

-- whether two elements have equal stamps
abbrev pub same_stamps : Mark → List Mark → Mark → List Mark → Bool
same_stamps ins dels other_ins other_dels = same_mark ins other_ins && same_list same_mark dels other_dels

-- ---- segments

-- whether both are characters
abbrev pub are_characters : Seg → Seg → Bool
are_characters (Chars s) (Chars t) = true
are_characters _ _ = false

-- whether two segments are one run of equal elements; a marker is a segment of its own
abbrev pub are_alike : SegRec → SegRec → Bool
are_alike a b = are_characters a.body b.body && same_props a.props b.props && same_mark a.by b.by && same_stamps a.ins a.dels b.ins b.dels

-- whether the segment ends before these, the next element of which has place p in its chunk: a chunk begins there, or the
-- next segment differs
abbrev pub ends_before : ℕ → SegRec → List SegRec → Bool
ends_before p seg [] = true
ends_before zero seg (next ∷ segs) = true
ends_before (suc p) seg (next ∷ segs) = not (are_alike seg next)

-- whether segments are cut so, where the first has place p in its chunk
abbrev pub are_cut_from : ℕ → List SegRec → Bool
are_cut_from p [] = true
are_cut_from p (seg ∷ segs) =
    nat_le (p + body_length seg.body) chunk_length && ends_before (place_behind p seg) seg segs && are_cut_from (place_behind p seg) segs

-- ---- runs

-- whether two runs have different stamps
abbrev pub differ : RunRec → RunRec → Bool
differ a b = not (same_stamps a.ins a.dels b.ins b.dels)

-- ---- summaries

pub record IsWellCut (sum : SumDoc) : Type 0 where
  pub conns : IsTrue (is_count (length sum.conns))
  pub text : IsTrue (are_cut_from 0 sum.text)
  pub rows : IsTrue (rises differ sum.rows)
  pub cols : IsTrue (rises differ sum.cols)
