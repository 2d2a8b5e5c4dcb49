-- The number of characters.
use Rattle.std.proofs.Common.{◌≡◌, ◌∙◌, ap, length, rules}
use Rattle.std.specs.Prelude.{chars}
use Rattle.std.proofs.lemmas.Str.{chars_from_encodes}
use Rattle.ft_changes.proofs.rest.char_count.Goals as goal

pub returns : goal.returns
returns c =
    let h : c.count.result ≡ length (chars c.as_str.result.now) = search (rules, chars_from_encodes) in
    h ∙ ap length c.as_str.ensures.characters
