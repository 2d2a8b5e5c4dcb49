use Rattle.std.proofs.Common.{◌≡◌, chars, map, sym, ◌∙◌, ap}
use Rattle.std.proofs.lemmas.Result.{IfOk-weaker}
use Rattle.ft_props.specs.Element.{Character as CharacterOf}
use Rattle.ft_op.specs.Operation.{segment_contents}
use Rattle.ft_plain_lists.specs.declared.elements.Content.TheVariants.{Character}
use Rattle.ft_plain_lists.specs.Contents.{content_of}
use Rattle.ft_plain_lists.proofs.CharacterContents.{map-characters}
use Rattle.ft_plain_document.proofs.documents.text_effects.segment_contents.Goals as goal

pub returns-in-Chars : goal.returns-in-Chars
returns-in-Chars c =
    IfOk-weaker c.characters.result (λ v. v.items ≡ map (λ x. Character x) (chars c.as_str.result.now)) (λ v. map content_of v.items ≡ segment_contents c.args.seg.now)
    (λ v e. ap (map content_of) e ∙ map-characters (chars c.as_str.result.now) ∙ ap (map (λ x. CharacterOf x)) c.as_str.ensures.characters ∙ sym
    (ap segment_contents c.in-Chars.is))
    c.characters.ensures
