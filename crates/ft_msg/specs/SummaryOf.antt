-- The summary of a document of messages alone: the one that is written for it.
use Rattle.std.specs.Prelude.{◌≡◌, ℕ, ◌+◌, ◌%◌, Bool, cond, not, ◌&&◌, ◌==◌, List, [], ◌∷◌, ◌++◌, map, take}
use Rattle.ft_sumdoc.specs.declared.summary.Mark.{Mark}
use Rattle.ft_sumdoc.specs.declared.summary.Seg.{Seg}
use Rattle.ft_sumdoc.specs.declared.summary.Seg.TheVariants.{Chars, Marker}
use Rattle.ft_sumdoc.specs.declared.summary.SegRec.{SegRec}
use Rattle.ft_sumdoc.specs.declared.summary.RunRec.{RunRec}
use Rattle.ft_sumdoc.specs.declared.summary.SumDoc.{SumDoc}
use Rattle.ft_sumdoc.specs.Chunks.{chunk_length}
use Rattle.ft_sumdoc.specs.WellFormed.{are_alike, same_stamps}
use Rattle.ft_props.specs.Properties.{Characters}
use Rattle.ft_props.specs.Element.{Character, ElementContent, GridUnit, ListElement, MarkerOf}
use Rattle.ft_op.specs.Document.{Document}
use Rattle.ft_marks.specs.Marks.{author_mark, mark_of}
use Rattle.ft_msg.specs.Content.{shown}
use Rattle.ft_msg.specs.Summary.{GivesDocument, trim}

-- the content of an element as a segment
abbrev pub element_body : ElementContent → Seg
element_body (Character c) = Chars (c ∷ [])
element_body (MarkerOf ref_type) = Marker ref_type
element_body GridUnit = Chars []

-- an element as a segment of its own
abbrev pub segment_of : ListElement → SegRec
segment_of e = record { body = element_body e.content; props = e.props; by = author_mark e.by; ins = mark_of e.ins; dels = map mark_of e.dels }

-- the characters of both
abbrev pub joined_bodies : Seg → Seg → Seg
joined_bodies (Chars front) (Chars text) = Chars (front ++ text)
joined_bodies _ body = body

-- both as one segment
abbrev pub joined : SegRec → SegRec → SegRec
joined last seg = record seg { body = joined_bodies last.body seg.body }

-- segments with the segment of an element before them, joined to the first one where both are characters, nothing else
-- differs, and no chunk ends between them
abbrev pub extended_segments : Bool → SegRec → List SegRec → List SegRec
extended_segments ends seg [] = seg ∷ []
extended_segments ends seg (next ∷ segs) = cond (not ends && are_alike seg next) (joined seg next ∷ segs) (seg ∷ next ∷ segs)

-- the segments of elements, the first of which has the place i in the text
abbrev pub segments_from : ℕ → List ListElement → List SegRec
segments_from i [] = []
segments_from i (e ∷ xs) = extended_segments ((i + 1) % chunk_length == 0) (segment_of e) (segments_from (i + 1) xs)

-- runs with a unit before them, joined to the first one where their stamps are equal
abbrev pub extended_unit_runs : Mark → List Mark → List RunRec → List RunRec
extended_unit_runs ins dels [] = record { count = 1; ins = ins; dels = dels } ∷ []
extended_unit_runs ins dels (run ∷ runs) =
    cond (same_stamps ins dels run.ins run.dels) (record run { count = run.count + 1 } ∷ runs) (record { count = 1; ins = ins; dels = dels } ∷ run ∷ runs)

-- the runs of units
abbrev pub unit_runs : List ListElement → List RunRec
unit_runs [] = []
unit_runs (e ∷ xs) = extended_unit_runs (mark_of e.ins) (map mark_of e.dels) (unit_runs xs)

-- the summary of a document of messages alone, with the names of the connections that it knows
abbrev pub summary_of : List Characters → Document → SumDoc
summary_of conns doc =
    let kept = trim doc in
    record {
      seq = doc.number;
      min = doc.minimum;
      skipped = doc.skipped;
      other = doc.other;
      conns = conns;
      text = segments_from 0 kept.text.items;
      rows = unit_runs kept.rows.items;
      cols = unit_runs kept.cols.items;
      intervals = (shown kept).intervals;
      cells = (shown kept).cells;
    }

-- the summary is that of the document, with the first names of the holder's table, up to the greatest origin; and it gives the
-- document
pub record Summarizes (sum : SumDoc) (names : List Characters) (origin : ℕ) (doc : Document) : Type 0 where
  pub gives : GivesDocument sum doc
  pub written : sum ≡ summary_of (take origin names) doc
