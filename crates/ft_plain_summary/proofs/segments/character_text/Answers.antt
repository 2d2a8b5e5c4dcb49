use Rattle.std.proofs.Common.{◌∙◌, ◌++◌, ap, chars}
use Rattle.std.proofs.lemmas.Str.{chars-nil}
use Rattle.ft_msg.specs.Content.{content_characters}
use Rattle.ft_plain_lists.specs.Contents.{content_of}
use Rattle.ft_plain_summary.proofs.segments.character_text.Goals as goal

pub returns : goal.returns
returns c =
    let one = content_characters (content_of c.args.content) in
    c.in_ok-push_character.ensures ∙ ap (λ bytes. chars bytes ++ one) c.new-text.ensures.bytes ∙ ap (λ cs. cs ++ one) chars-nil
