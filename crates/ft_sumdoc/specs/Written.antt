-- The text that a summary is written as, of version 2: just the fields of its form, with the keys of each object in rising
-- order.
use Rattle.std.specs.Prelude.{ℕ, List, [], ◌∷◌, Option, Some, None, option_map, codes, if◌then◌else◌}
use Rattle.serde_json.specs.Data.{Data, array, object, no_members, member}
use Rattle.serde_json.specs.View.{items_of}
use Rattle.serde_json.specs.Written.{compact_text}
use Rattle.ft_json.specs.Canonical.{value_of}
use Rattle.ft_props.specs.Properties.{PropertyList}
use Rattle.ft_op.specs.Written.{with_given, written_count, written_items, written_number, written_pairs, written_text}
use Rattle.ft_sumdoc.specs.declared.summary.CellRec.{CellRec}
use Rattle.ft_sumdoc.specs.declared.summary.IntervalRec.{IntervalRec}
use Rattle.ft_sumdoc.specs.declared.summary.Mark.{Mark}
use Rattle.ft_sumdoc.specs.declared.summary.RunRec.{RunRec}
use Rattle.ft_sumdoc.specs.declared.summary.Seg.{Seg}
use Rattle.ft_sumdoc.specs.declared.summary.Seg.TheVariants.{Chars, Marker}
use Rattle.ft_sumdoc.specs.declared.summary.SegRec.{SegRec}
use Rattle.ft_sumdoc.specs.declared.summary.SumDoc.{SumDoc}
use Rattle.ft_sumdoc.specs.Chunks.{chunks}
use Rattle.ft_sumdoc.specs.Segments.{text_length}
use Rattle.ft_sumdoc.specs.Stamps.{is_universal, unless_universal}

-- ---- stamps

abbrev pub written_mark : Mark → Data
written_mark m = array (items_of (written_count m.seq ∷ written_count m.conn ∷ []))

-- the author of an insertion as it is given: not where the insertion tells it
abbrev pub author_beside : Mark → Mark → Option Mark
author_beside ins by = if is_universal ins then unless_universal by else None

-- a stamp that isn't given is left out
abbrev pub given_mark : Option Mark → Option Data
given_mark m = option_map written_mark m

-- no removals are left out
abbrev pub given_marks : List Mark → Option Data
given_marks [] = None
given_marks (m ∷ ms) = Some (array (written_items written_mark (m ∷ ms)))

-- ---- segments and runs

abbrev pub written_props : PropertyList → Data
written_props props = object (written_pairs value_of props)

-- no properties are left out
abbrev pub given_props : PropertyList → Option Data
given_props [] = None
given_props (p ∷ props) = Some (written_props (p ∷ props))

-- the characters, if the segment is characters
abbrev pub given_characters : Seg → Option Data
given_characters (Chars text) = Some (written_text text)
given_characters (Marker ref_type) = None

-- the reference type, if the segment is a marker
abbrev pub given_ref_type : Seg → Option Data
given_ref_type (Chars text) = None
given_ref_type (Marker ref_type) = Some (written_count ref_type)

abbrev pub written_segment_record : SegRec → Data
written_segment_record seg =
    object
    (with_given (codes "a") (given_mark (author_beside seg.ins seg.by))
    (with_given (codes "i") (given_mark (unless_universal seg.ins))
    (with_given (codes "m") (given_ref_type seg.body)
    (with_given (codes "p") (given_props seg.props)
    (with_given (codes "r") (given_marks seg.dels)
    (with_given (codes "t") (given_characters seg.body) no_members))))))

abbrev pub written_chunk : List SegRec → Data
written_chunk segs = array (written_items written_segment_record segs)

abbrev pub written_unit_run : RunRec → Data
written_unit_run run =
    object
    (with_given (codes "i") (given_mark (unless_universal run.ins))
    (member (codes "n") (written_count run.count)
    (with_given (codes "r") (given_marks run.dels) no_members)))

-- ---- intervals and cells

abbrev pub written_interval_record : IntervalRec → Data
written_interval_record i =
    array (items_of (written_text i.label ∷ written_text i.id ∷ written_number i.ends.start ∷ written_number i.ends.end ∷ written_props i.props ∷ []))

abbrev pub written_cell_record : CellRec → Data
written_cell_record c = array (items_of (written_count c.row ∷ written_count c.col ∷ value_of c.value ∷ []))

-- ---- summaries

abbrev pub written_summary : SumDoc → Data
written_summary sum =
    object
    (member (codes "cells") (array (written_items written_cell_record sum.cells))
    (member (codes "cols") (array (written_items written_unit_run sum.cols))
    (member (codes "conns") (array (written_items written_text sum.conns))
    (member (codes "count") (written_count (text_length sum.text))
    (member (codes "intervals") (array (written_items written_interval_record sum.intervals))
    (member (codes "min") (written_count sum.min)
    (member (codes "other") (written_count sum.other)
    (member (codes "rows") (array (written_items written_unit_run sum.rows))
    (member (codes "seq") (written_count sum.seq)
    (member (codes "skipped") (written_count sum.skipped)
    (member (codes "text") (array (written_items written_chunk (chunks sum.text)))
    (member (codes "version") (written_count 2) no_members))))))))))))

-- the text of a summary
abbrev pub summary_text : SumDoc → List ℕ
summary_text sum = compact_text (written_summary sum)
