-- The texts of what is drawn.
use Rattle.std.proofs.Common.{◌≡◌, ℕ, zero, suc, ◌+◌, ◌-◌, ◌^◌, ◌<◌, ◌≤◌, IsFalse, List, [], ◌∷◌, ◌++◌, Option, codes, chars, ap, ◌∙◌, refl, arith, append-nil}
use Rattle.std.specs.Fmt.{decimal, digits}
use Rattle.std.specs.Str.{IsAscii}
use Rattle.std.proofs.lemmas.Bool.Decides.{nat_tests}
use Rattle.std.proofs.lemmas.Fmt.{IsAscii-decimal}
use Rattle.std.proofs.lemmas.Str.{chars-IsAscii}
use Rattle.std.proofs.lemmas.Str.Ascii.{IsAscii-cons, IsAscii-nil}
use Rattle.serde_json.specs.Data.{unsigned, number}
use Rattle.ft_json.specs.Bounds.{kept_levels}
use Rattle.ft_json.specs.Canonical.{IsCanonicalText, IsTextWithin}
use Rattle.ft_props.specs.Properties.{Characters, ValueBytes}
use Rattle.ft_props.specs.Keys.{key_cmp, put_rising}
use Rattle.ft_op.specs.Cells.{is_null}
use Rattle.ft_gen.specs.Draws.{draw, next_state}
use Rattle.ft_gen.specs.Edits.{letters}
use Rattle.ft_gen.proofs.Drawing.{draw-below}

-- the decimal digits of a number are the compact text of that number as a JSON value
pub canonical_decimal : (n : ℕ) → n < 2 ^ 64 → IsCanonicalText (decimal n)
canonical_decimal n h = (number (unsigned n), grind (arith, nat_tests), refl)

pub decimal_within : (n : ℕ) → n < 2 ^ 64 → IsTextWithin kept_levels (decimal n)
decimal_within n h = (number (unsigned n), grind (arith, nat_tests), omega arith, refl)

-- a digit isn't null
pub decimal_small : (n : ℕ) → n < 4 → IsFalse (is_null (decimal n))
unfolding digits
decimal_small zero h = refl
decimal_small (suc zero) h = refl
decimal_small (suc (suc zero)) h = refl
decimal_small (suc (suc (suc zero))) h = refl
decimal_small (suc (suc (suc (suc n)))) h = absurd (omega arith)

-- the characters of a letter and a number
pub chars-named : (letter n : ℕ) → letter < 128 → n < 2 ^ 64 → chars (letter ∷ decimal n) ≡ letter ∷ decimal n
chars-named letter n l h = chars-IsAscii (letter ∷ decimal n) (IsAscii-cons letter (decimal n) l (IsAscii-decimal n h))

pub chars-notes : chars (codes "notes") ≡ codes "notes"
chars-notes =
    let end = IsAscii-cons 101 (codes "s") (omega arith) (IsAscii-cons 115 [] (omega arith) IsAscii-nil) in
    chars-IsAscii (codes "notes") (IsAscii-cons 110 (codes "otes") (omega arith) (IsAscii-cons 111 (codes "tes") (omega arith) (IsAscii-cons 116 (codes "es") (omega arith) end)))

-- a letter and the other ones
pub letters-more : (count i x : ℕ) → i < count → letters (count - i) x ≡ (97 + draw 26 x) ∷ letters (count - (i + 1)) (next_state x)
letters-more count i x h =
    let more : count - i ≡ suc (count - (i + 1)) = omega arith in
    ap (λ n. letters n x) more

-- no letter is left
pub letters-none : (count i x : ℕ) (bs : List ℕ) → count ≤ i → bs ++ letters (count - i) x ≡ bs
letters-none count i x bs h =
    let none : count - i ≡ 0 = omega arith in
    ap (λ n. bs ++ letters n x) none ∙ append-nil bs

letters-ascii : (n x : ℕ) → IsAscii (letters n x)
letters-ascii zero x = IsAscii-nil
letters-ascii (suc n) x =
    let below = draw-below 26 x (omega arith) in
    IsAscii-cons (97 + draw 26 x) _ (omega arith) (letters-ascii n (next_state x))

pub chars-letters : (n x : ℕ) → chars (letters n x) ≡ letters n x
chars-letters n x = chars-IsAscii (letters n x) (letters-ascii n x)

-- the first pair
pub put-first : (k l : Characters) (v w : Option ValueBytes) (old : List (Characters × Option ValueBytes)) → old ≡ [] → k ≡ l → v ≡ w → put_rising key_cmp (k, v) old ≡ (l, w) ∷ []
put-first k l v w old e f g = ap (λ o. put_rising key_cmp (k, v) o) e ∙ cc
