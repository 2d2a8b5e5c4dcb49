-- The characters of a text after one more is pushed.
use Rattle.std.proofs.Common.{◌≡◌, ℕ, ◌≤◌, List, [], ◌∷◌, ◌++◌, chars, encode_utf8, length, take, sym, ◌∙◌, ap, subst, arith, append-nil, length-append}
use Rattle.std.specs.Str.{IsUtf8}
use Rattle.std.proofs.lemmas.List.{drop_at, take_at}
use Rattle.std.proofs.lemmas.Str.{IsCharBoundary-from_take, IsUtf8-drop, chars-append, chars-nil, chars_past_char}
use Rattle.std.proofs.Common.{refl}

pub chars-push : (bs : List ℕ) (c : ℕ) → IsUtf8 bs → IsUtf8 (bs ++ encode_utf8 c) → chars (bs ++ encode_utf8 c) ≡ chars bs ++ c ∷ []
chars-push bs c text pushed =
    let whole = bs ++ encode_utf8 c in
    let inside : length bs ≤ length whole = omega (arith, length-append bs (encode_utf8 c)) in
    let front : IsUtf8 (take (length bs) whole) = subst (λ (xs : List ℕ). IsUtf8 xs) (sym (take_at bs (encode_utf8 c) (length bs) refl)) text in
    let back : IsUtf8 (encode_utf8 c) = subst (λ (xs : List ℕ). IsUtf8 xs) (drop_at bs (encode_utf8 c) (length bs) refl)
    (IsUtf8-drop whole (length bs) pushed (IsCharBoundary-from_take whole (length bs) pushed inside front)) in
    chars-append bs (encode_utf8 c) text
    ∙ ap (λ xs. chars bs ++ xs) (chars_past_char (encode_utf8 c) [] c back (sym (append-nil (encode_utf8 c))) ∙ ap (λ xs. c ∷ xs) chars-nil)
