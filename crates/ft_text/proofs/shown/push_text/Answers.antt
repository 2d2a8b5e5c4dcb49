use Rattle.std.proofs.Common.{◌++◌, ◌∙◌, ap, chars, string_bytes, sym}
use Rattle.std.proofs.lemmas.Str.{IsUtf8-string_bytes, chars-append}
use Rattle.ft_text.proofs.LeafParts.{run-characters}
use Rattle.ft_text.proofs.shown.push_text.Goals as goal

pub returns-in_ok-push_str : goal.returns-in_ok-push_str
returns-in_ok-push_str c =
    ap chars c.in_ok-push_str.ensures.bytes ∙ chars-append (string_bytes c.args.text.now) c.in-Some.run'.now (IsUtf8-string_bytes c.args.text.now)
    ∙ ap (λ cs. chars (string_bytes c.args.text.now) ++ cs) (sym (run-characters c.args.content.now.piece (chars c.in-Some.run'.now) c.in-Some.ensures.value))
