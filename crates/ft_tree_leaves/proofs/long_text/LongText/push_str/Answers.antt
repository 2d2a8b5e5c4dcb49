use Rattle.std.proofs.Common.{◌≡◌, ◌++◌, ◌∙◌, ap, arith, chars, length, length-append}
use Rattle.std.specs.String.{string_bytes}
use Rattle.std.proofs.lemmas.Str.{IsUtf8-string_bytes, chars-append}
use Rattle.ft_tree_leaves.proofs.long_text.LongText.push_str.Goals as goal

pub invariant_of-self-2 : goal.invariant_of-self-2
invariant_of-self-2 c =
    let mine = string_bytes c.self.inside.text in
    let text = c.args.text.now in
    let both : chars (string_bytes c.push_str.new.self) ≡ chars mine ++ chars text =
    ap chars c.in_ok-push_str.ensures.bytes ∙ chars-append mine text (IsUtf8-string_bytes c.self.inside.text) in
    omega (arith, ap length both, length-append (chars mine) (chars text), c.self.invariant, c.requires.counted)
