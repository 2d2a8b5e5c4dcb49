use Rattle.std.proofs.Common.{◌∙◌, ap, sym, subst, ℕ, List, chars, string_bytes, ◌++◌}
use Rattle.std.specs.Str.{IsUtf8}
use Rattle.std.proofs.lemmas.Str.{IsUtf8-string_bytes}
use Rattle.ft_msg.specs.Content.{content_characters}
use Rattle.ft_plain_lists.specs.Contents.{content_of}
use Rattle.ft_plain_lists.proofs.PushedCharacter.{chars-push}
use Rattle.ft_plain_lists.proofs.shown.push_character.Goals as goal

pub returns-in_ok-push : goal.returns-in_ok-push
returns-in_ok-push c =
    let pushed = c.in_ok-push.ensures.bytes in
    ap chars pushed
    ∙ chars-push (string_bytes c.args.text.now) c.in-Character.c (IsUtf8-string_bytes c.args.text.now)
    (subst (λ (xs : List ℕ). IsUtf8 xs) pushed (IsUtf8-string_bytes c.push.new.self))
    ∙ ap (λ content. chars (string_bytes c.args.text.now) ++ content_characters (content_of content)) (sym c.in-Character.is)
