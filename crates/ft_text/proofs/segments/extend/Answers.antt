use Rattle.std.proofs.Common.{◌≡◌, ◌∙◌, ◌∷◌, [], sym}
use Rattle.std.proofs.lemmas.Result.{IfOk-weaker}
use Rattle.ft_msg.specs.OpenSegments.{open_segment}
use Rattle.ft_msg.specs.SummaryOf.{joined_bodies}
use Rattle.ft_msg.proofs.AlikeSegments.{alike}
use Rattle.ft_msg.proofs.FrontSegments.{segment-joined}
use Rattle.ft_props.specs.Element.{Character}
use Rattle.ft_sumdoc.specs.declared.summary.Seg.TheVariants.{Chars}
use Rattle.ft_text.specs.Saved.{unit_segment}
use Rattle.ft_text.proofs.FrontSegments.{any-characters}
use Rattle.ft_text.proofs.segments.extend.Goals as goal

pub joined-requires : goal.joined-requires
joined-requires c =
    let last = c.in-Some.last in
    let next = unit_segment c.args.head.now (Character c.args.c) in
    any-characters last.body [] (c.args.c ∷ []) ∙ (alike last next (sym (c.goes_on_with.ensures c.args.c) ∙ c.if-goes_on_with.true)).characters

pub returns-then-goes_on_with-clause-last : goal.returns-then-goes_on_with-clause-last
returns-then-goes_on_with-clause-last c =
    let last = c.in-Some.last in
    let next = unit_segment c.args.head.now (Character c.args.c) in
    IfOk-weaker c.joined.result (λ seg. seg ≡ record last { body = joined_bodies last.body (Chars (c.args.c ∷ [])) })
    (λ seg. seg ≡ open_segment c.args.begins c.args.last next)
    (λ seg made. segment-joined c.args.begins c.args.last last next seg c.in-Some.is c.if-not-begins.true (sym (c.goes_on_with.ensures c.args.c) ∙ c.if-goes_on_with.true) made)
    c.joined.ensures
