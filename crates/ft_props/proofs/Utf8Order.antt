-- Texts have the same order by their characters as by their UTF-8 bytes.
use Rattle.std.proofs.Common.{◌≡◌, ℕ, List, sym, ◌∙◌, ap, chars, encode_utf8_all}
use Rattle.std.specs.Ordering.{nat_cmp}
use Rattle.std.specs.Cmp.Lexicographic.{slice_cmp}
use Rattle.std.specs.Str.{IsUtf8}
use Rattle.std.proofs.lemmas.Str.{encodes-chars}
use Rattle.ft_json.proofs.KeyOrder.{slice_cmp-encodes}
use Rattle.ft_props.specs.Keys.{text_cmp}

pub utf8-cmp : (a b : List ℕ) → IsUtf8 a → IsUtf8 b → slice_cmp nat_cmp a b ≡ text_cmp (chars a) (chars b)
utf8-cmp a b u v =
    ap (λ x. slice_cmp nat_cmp x b) (sym (encodes-chars a u)) ∙ ap (slice_cmp nat_cmp (encode_utf8_all (chars a))) (sym (encodes-chars b v))
    ∙ slice_cmp-encodes (chars a) (chars b)
