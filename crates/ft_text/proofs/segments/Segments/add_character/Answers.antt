use Rattle.std.proofs.Common.{◌∷◌, [], subst, sym}
use Rattle.ft_props.specs.Element.{Character}
use Rattle.ft_text.specs.Saved.{Adds, unit_segment}
use Rattle.ft_text.proofs.FrontSegments.{adds-next}
use Rattle.ft_text.proofs.segments.Segments.add_character.Goals as goal

pub returns : goal.returns
returns c =
    let one = unit_segment c.args.head.now (Character c.args.c) in
    subst (λ last. Adds (one ∷ []) c.args.self.now (record { list = c.extend.new.segs; last = last; count = c.in_ok-self.field-0 })) (sym c.assign.ensures)
    (adds-next one c.args.self.now c.take-last.result c.extend.new.segs c.in_ok-self.field-0 c.in_ok-next.next
    c.take-last.ensures.value c.in_ok-self.ensures c.in_ok-next.ensures.ended c.in_ok-next.ensures.last)
