use Rattle.std.proofs.Common.{◌≡◌, ◌∙◌, ap, sym}
use Rattle.std.proofs.lemmas.Result.{IfOk-weaker}
use Rattle.ft_msg.specs.OpenSegments.{open_segment}
use Rattle.ft_msg.specs.SummaryOf.{element_body, joined_bodies, segment_of}
use Rattle.ft_msg.proofs.FrontSegments.{segment-joined}
use Rattle.ft_plain_lists.specs.Contents.{content_of}
use Rattle.ft_plain_summary.proofs.segments.extend.Goals as goal

pub returns-then-is_alike-clause-last : goal.returns-then-is_alike-clause-last
returns-then-is_alike-clause-last c =
    let last = c.in-Some.last in
    let next = segment_of c.args.e.now in
    IfOk-weaker c.joined.result (λ seg. seg ≡ record last { body = joined_bodies last.body (element_body (content_of c.content.result)) })
    (λ seg. seg ≡ open_segment c.args.begins c.args.last next)
    (λ seg made. segment-joined c.args.begins c.args.last last next seg (sym c.in_ok-dels.ensures.last ∙ c.in-Some.is)
    c.if-not-begins.true (sym c.is_alike.ensures ∙ c.if-is_alike.true)
    (made ∙ ap (λ content. record last { body = joined_bodies last.body (element_body content) }) c.content.ensures))
    c.joined.ensures
