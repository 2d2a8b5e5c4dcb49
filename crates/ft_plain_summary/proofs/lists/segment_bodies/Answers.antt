use Rattle.std.proofs.Common.{◌≡◌, chars, map, sym, ◌∙◌, ap}
use Rattle.std.proofs.lemmas.Result.{IfOk-weaker}
use Rattle.ft_props.specs.Element.{Character as CharacterOf}
use Rattle.ft_msg.specs.Summary.{segment_bodies}
use Rattle.ft_plain_lists.specs.declared.elements.Content.TheVariants.{Character}
use Rattle.ft_plain_lists.specs.Contents.{content_of}
use Rattle.ft_plain_lists.proofs.CharacterContents.{map-characters}
use Rattle.ft_plain_summary.proofs.lists.segment_bodies.Goals as goal

pub returns-in-Chars : goal.returns-in-Chars
returns-in-Chars c =
    IfOk-weaker c.characters.result (λ v. v.items ≡ map (λ x. Character x) (chars c.as_str.result.now)) (λ v. map content_of v.items ≡ segment_bodies c.args.seg.now)
    (λ v e. ap (map content_of) e ∙ map-characters (chars c.as_str.result.now) ∙ ap (map (λ x. CharacterOf x)) c.as_str.ensures.characters ∙ sym
    (ap segment_bodies c.in-Chars.is))
    c.characters.ensures
