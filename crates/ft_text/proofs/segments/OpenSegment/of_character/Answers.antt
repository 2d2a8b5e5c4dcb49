use Rattle.std.proofs.Common.{◌≡◌, ◌∙◌, ◌∷◌, ◌++◌, [], None, ap, chars, string_bytes}
use Rattle.std.proofs.lemmas.Result.{IfOk-weaker}
use Rattle.std.proofs.lemmas.Str.{chars-nil}
use Rattle.ft_props.specs.Element.{Character}
use Rattle.ft_sumdoc.specs.declared.summary.Seg.TheVariants.{Chars}
use Rattle.ft_msg.specs.OpenSegments.{body_of_parts}
use Rattle.ft_text.specs.Saved.{headed, unit_segment}
use Rattle.ft_text.proofs.segments.OpenSegment.of_character.Goals as goal

pub returns : goal.returns
returns c =
    let one = c.args.c in
    let text = c.in_ok-push_character.ensures ∙ ap (λ bs. chars bs ++ one ∷ []) c.new-text.ensures.bytes ∙ ap (λ cs. cs ++ one ∷ []) chars-nil in
    IfOk-weaker c.with_head.result (λ seg. seg ≡ headed c.args.head.now (body_of_parts None (chars (string_bytes c.push_character.new.run))))
    (λ seg. seg ≡ unit_segment c.args.head.now (Character one)) (λ seg h. h ∙ ap (λ cs. headed c.args.head.now (Chars cs)) text) c.with_head.ensures
