-- The segment of an element by its parts.
use Rattle.std.proofs.Common.{◌≡◌, ℕ, List, map, refl, ◌∙◌, ap}
use Rattle.ft_sumdoc.specs.declared.summary.Mark.{Mark}
use Rattle.ft_sumdoc.specs.declared.summary.Seg.{Seg}
use Rattle.ft_sumdoc.specs.declared.summary.Seg.TheVariants.{Chars}
use Rattle.ft_props.specs.Element.{ListElement}
use Rattle.ft_props.specs.Properties.{PropertyList}
use Rattle.ft_msg.specs.Content.{content_characters}
use Rattle.ft_msg.specs.OpenSegments.{body_of_parts}
use Rattle.ft_marks.specs.Marks.{author_mark, mark_of}
use Rattle.ft_msg.specs.SummaryOf.{element_body, segment_of}
use Rattle.ft_plain_lists.specs.declared.elements.Content.{Content}
use Rattle.ft_plain_lists.specs.declared.elements.Content.TheVariants.{Character, Marker, Unit}
use Rattle.ft_plain_lists.specs.Contents.{content_of}
use Rattle.ft_plain_summary.specs.OpenSegments.{reference_type}

-- what the segment of a content holds
pub body-of_parts : (content : Content) (text : List ℕ) → text ≡ content_characters (content_of content)
    → body_of_parts (reference_type content) text ≡ element_body (content_of content)
body-of_parts (Character c) text h = ap Chars h
body-of_parts (Marker ref_type) text h = refl
body-of_parts Unit text h = ap Chars h

-- the segment of an element
pub segment-of_parts : (e : ListElement) (body : Seg) (props : PropertyList) (by ins : Mark) (dels : List Mark)
    → body ≡ element_body e.content → props ≡ e.props → by ≡ author_mark e.by → ins ≡ mark_of e.ins → dels ≡ map mark_of e.dels
    → record { body = body; props = props; by = by; ins = ins; dels = dels } ≡ segment_of e
segment-of_parts e body props by ins dels of_body of_props of_by of_ins of_dels =
    let s = segment_of e in
    ap (λ x. record s { body = x; props = props; by = by; ins = ins; dels = dels }) of_body
    ∙ ap (λ x. record s { props = x; by = by; ins = ins; dels = dels }) of_props
    ∙ ap (λ x. record s { by = x; ins = ins; dels = dels }) of_by
    ∙ ap (λ x. record s { ins = x; dels = dels }) of_ins
    ∙ ap (λ x. record s { dels = x }) of_dels
