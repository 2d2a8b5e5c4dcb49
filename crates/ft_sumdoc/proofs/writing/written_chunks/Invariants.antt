use Rattle.std.proofs.Common.{◌≡◌, ◌++◌, ◌≤◌, length, map}
use Rattle.std.specs.List.{AllByRecursion}
use Rattle.serde_json.specs.View.{view}
use Rattle.ft_sumdoc.specs.Chunks.{chunks}
use Rattle.ft_sumdoc.specs.Representable.{IsRepresentableSegmentRecord}
use Rattle.ft_sumdoc.specs.Segments.{text_length}
use Rattle.ft_sumdoc.specs.Valid.{HasValues}
use Rattle.ft_sumdoc.specs.Written.{written_chunk}
use Rattle.ft_sumdoc.proofs.writing.written_chunks.Given as goal

-- the chunks before the rest are written
abbrev pub invariant-loop-rest : goal.invariant-loop-rest
invariant-loop-rest l = record {
  written : map view l.values.items ++ map written_chunk (chunks l.rest) ≡ map written_chunk (chunks l.segs);
  values : AllByRecursion (λ seg. HasValues seg.props) l.rest;
  elements : text_length l.rest ≤ text_length l.segs;
  representable : AllByRecursion IsRepresentableSegmentRecord l.rest → AllByRecursion IsRepresentableSegmentRecord l.segs;
}

abbrev pub decreases-loop-rest : goal.decreases-loop-rest
decreases-loop-rest l = length l.rest
