use Rattle.std.proofs.Common.{◌≡◌, ℕ, ◌==◌, Bool, IsTrue, List, [], ◌∷◌, chars, length, map, sym, ◌∙◌, ap, arith}
use lib.Utf8.{encodes}
use Rattle.std.proofs.lemmas.Bool.Decides.{nat_tests}
use Rattle.std.proofs.lemmas.Str.{chars-nil}
use Rattle.ft_props.specs.Element.{Character}
use Rattle.ft_plain_document.proofs.documents.pieces.is_empty.Goals as goal

-- a text has no bytes exactly where it has no characters
empty-text : (bytes text : List ℕ) (r : Bool) → bytes ≡ encodes text → chars bytes ≡ text → r ≡ (length bytes == 0)
    → (IsTrue r → map (λ c. Character c) text ≡ []) × (map (λ c. Character c) text ≡ [] → IsTrue r)
empty-text [] text r coded spelled tested = (λ h. ap (map (λ c. Character c)) (sym spelled ∙ chars-nil), λ e. tested)
empty-text (b ∷ bytes) [] r coded spelled tested = absurd cc
empty-text (b ∷ bytes) (c ∷ cs) r coded spelled tested = (λ h. absurd (grind (arith, nat_tests)), λ e. absurd cc)

pub returns-in-Chars : goal.returns-in-Chars
returns-in-Chars c = rw c.in-Chars.is (empty-text c.as_str.result.now c.in-Chars.text c.is_empty.result c.as_str.ensures.bytes c.as_str.ensures.characters c.is_empty.ensures)
