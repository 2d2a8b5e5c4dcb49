use Rattle.std.proofs.Common.{◌∙◌, ◌∷◌, [], ◌%◌, ◌==◌, subst, sym}
use Rattle.ft_props.specs.Element.{MarkerOf}
use Rattle.ft_sumdoc.specs.Chunks.{chunk_length}
use Rattle.ft_text.specs.Saved.{Adds, unit_segment}
use Rattle.ft_text.proofs.FrontSegments.{adds-next, marker-ended, marker-opened}
use Rattle.ft_text.proofs.segments.Segments.add_marker.Goals as goal

pub returns : goal.returns
returns c =
    let begins = c.args.self.now.count % chunk_length == 0 in
    let h = c.args.head.now in
    let m = c.args.ref_type in
    subst (λ last. Adds (unit_segment h (MarkerOf m) ∷ []) c.args.self.now (record { list = c.end.new.segs; last = last; count = c.in_ok-self.field-0 })) (sym c.assign.ensures)
    (adds-next (unit_segment h (MarkerOf m)) c.args.self.now c.take-last.result c.end.new.segs c.in_ok-self.field-0 c.in_ok-next.next c.take-last.ensures.value
    c.in_ok-self.ensures (marker-ended h m begins c.take-last.result c.args.self.now.list c.end.new.segs c.in_ok-end.ensures.none c.in_ok-end.ensures.some)
    (c.in_ok-next.ensures ∙ marker-opened h m begins c.take-last.result))
