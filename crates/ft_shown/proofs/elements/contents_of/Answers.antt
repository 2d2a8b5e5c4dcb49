use Rattle.std.proofs.Common.{◌≡◌, ◌∙◌, ap, map, sym}
use Rattle.std.specs.Prelude.{chars}
use Rattle.std.proofs.lemmas.Result.{IfOk-weaker}
use Rattle.ft_props.specs.Element.{Character as CharacterOf}
use Rattle.ft_op.specs.Operation.{segment_contents}
use Rattle.ft_plain_lists.specs.declared.elements.Content.TheVariants.{Character}
use Rattle.ft_plain_lists.specs.Contents.{content_of}
use Rattle.ft_plain_lists.proofs.CharacterContents.{map-characters}
use Rattle.ft_shown.proofs.elements.contents_of.Goals as goal

pub returns-in-Chars : goal.returns-in-Chars
returns-in-Chars c =
    let text = chars c.as_str.result.now in
    IfOk-weaker c.characters.result (λ v. v.items ≡ map (λ d. Character d) text) (λ v. map content_of v.items ≡ segment_contents c.args.seg.now)
    (λ v h. ap (map content_of) h ∙ map-characters text ∙ ap (map (λ d. CharacterOf d)) c.as_str.ensures.characters
    ∙ ap segment_contents (sym c.in-Chars.is))
    c.characters.ensures
