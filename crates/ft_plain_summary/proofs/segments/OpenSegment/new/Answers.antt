use Rattle.std.proofs.Common.{◌≡◌, ◌∙◌, Ok, ap, chars, string_bytes}
use Rattle.std.proofs.lemmas.Result.{IfOk-at_ok}
use Rattle.ft_msg.specs.Content.{content_characters}
use Rattle.ft_msg.specs.OpenSegments.{body_of_parts}
use Rattle.ft_marks.specs.Marks.{author_mark, mark_of}
use Rattle.ft_msg.specs.SummaryOf.{element_body}
use Rattle.ft_plain_lists.specs.Contents.{content_of}
use Rattle.ft_plain_summary.proofs.MadeSegments.{body-of_parts, segment-of_parts}
use Rattle.ft_plain_summary.proofs.segments.OpenSegment.new.Goals as goal

pub returns : goal.returns
returns c =
    let content = c.content-content.result in
    let all = c.in_ok-text.ensures in
    let parts = c.both-made.ensures in
    let text = IfOk-at_ok (λ t. chars (string_bytes t) ≡ content_characters (content_of content))
    (IfOk-at_ok (λ p. c.character_text.result ≡ Ok p.0) all.made parts.first) c.character_text.ensures in
    let props = IfOk-at_ok (λ ps. ps ≡ c.props.result.now)
    (IfOk-at_ok (λ p. c.copy.result ≡ Ok p.1) all.made parts.second) c.copy.ensures
    ∙ c.props.ensures in
    let spelled = chars (string_bytes c.in_ok-text.text) in
    segment-of_parts c.args.e.now (body_of_parts c.reference_type.result spelled) c.in_ok-text.props
    c.author_of.result c.mark_of.result c.in_ok-text.dels
    (ap (λ m. body_of_parts m spelled) c.reference_type.ensures ∙ body-of_parts content spelled text ∙ ap element_body c.content-content.ensures)
    props
    (c.author_of.ensures ∙ ap author_mark c.by.ensures)
    (c.mark_of.ensures ∙ ap mark_of c.ins.ensures)
    (all.value ∙ c.requires)
