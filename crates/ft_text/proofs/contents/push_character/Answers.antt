use Rattle.std.proofs.Common.{◌∙◌, ap, subst, ℕ, List, chars, string_bytes}
use Rattle.std.specs.Str.{IsUtf8}
use Rattle.std.proofs.lemmas.Str.{IsUtf8-string_bytes}
use Rattle.ft_text.proofs.PushedCharacter.{chars-push}
use Rattle.ft_text.proofs.contents.push_character.Goals as goal

pub returns : goal.returns
returns c =
    let pushed = c.in_ok-push.ensures.bytes in
    ap chars pushed
    ∙ chars-push (string_bytes c.args.run.now) c.args.c (IsUtf8-string_bytes c.args.run.now)
    (subst (λ (xs : List ℕ). IsUtf8 xs) pushed (IsUtf8-string_bytes c.push.new.self))
