-- The characters of a connection's name.
use Rattle.std.proofs.Common.{◌≡◌, ◌<◌, ◌^◌, ℕ, List, [], ◌∷◌, ◌++◌, refl, ◌∙◌, ap}
use Rattle.std.specs.Prelude.{codes, decimal}
use Rattle.std.specs.Str.{IsUtf8, chars}
use Rattle.std.proofs.lemmas.Fmt.{IsAscii-decimal}
use Rattle.std.proofs.lemmas.Str.{chars-IsAscii, chars-append}

slash : IsUtf8 (codes "/")
unfolding lib.Utf8.encode
slash = (47 ∷ [], (refl, refl))

pub named-chars : (bs : List ℕ) (k : ℕ) → IsUtf8 bs → k < 2 ^ 64 → chars (bs ++ (codes "/" ++ decimal k)) ≡ chars bs ++ (codes "/" ++ decimal k)
unfolding chars
named-chars bs k u h =
    chars-append bs (codes "/" ++ decimal k) u ∙ ap (λ t. chars bs ++ t) (chars-append (codes "/") (decimal k) slash ∙ ap (λ t. codes "/" ++ t) (chars-IsAscii (decimal k) (IsAscii-decimal k h)))
