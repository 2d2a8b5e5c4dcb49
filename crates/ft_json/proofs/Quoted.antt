-- The JSON string of a text, by its characters and by its bytes.
use Rattle.std.proofs.Common.{◌≡◌, ℕ, zero, suc, ◌<◌, ◌≤◌, Bool, true, ◌&&◌, ltb-true, List, [], ◌∷◌, ◌++◌, length, get_or, inl, inr, refl, sym, ap, ap₂, ◌∙◌, arith, append_assoc, append-nil, chars, encode_utf8_all}
use Rattle.std.proofs.lemmas.Bool.{and_parts, and_from, cases_lt, cases_eq}
use Rattle.std.proofs.lemmas.Str.{chars-encodes, encodes-append, encode_ascii, inside_one}
use Rattle.std.proofs.Math.Utf8.{scalar, scalars, encode, low_scalar}
use Rattle.json.specs.Print.{escape_byte, escape, quoted}
use Rattle.json.proofs.Printed.Strings.{escape_byte_plain}
use Rattle.json.proofs.Printed.Utf8.{are_ascii}

-- ---- the escapes of an ASCII character are ASCII

abbrev escapes_below : ℕ → Bool
escapes_below zero = true
escapes_below (suc n) = are_ascii (escape_byte n) && escapes_below n

escape_below : (n : ℕ) → escapes_below n ≡ true → (c : ℕ) → c < n → are_ascii (escape_byte c) ≡ true
escape_below zero e c h = absurd (omega arith)
escape_below (suc n) e c h =
    let p = and_parts _ _ e in
    elim (cases_eq c n) [ inl same ↦ rw same p.0 | inr other ↦ escape_below n p.1 c (omega arith) ]

all_ascii : escapes_below 128 ≡ true
unfolding escape_byte
all_ascii = refl

escape_ascii : (c : ℕ) → c < 128 → are_ascii (escape_byte c) ≡ true
escape_ascii c small = escape_below 128 all_ascii c small

escape_high : (c : ℕ) → 128 ≤ c → escape_byte c ≡ c ∷ []
escape_high c high = escape_byte_plain c (λ e. omega arith) (λ e. omega arith) (omega arith)

-- ---- the bytes of the string are the string of the bytes

encodes-are_ascii : (xs : List ℕ) → are_ascii xs ≡ true → encode_utf8_all xs ≡ xs
encodes-are_ascii [] e = refl
encodes-are_ascii (x ∷ xs) e =
    let p = and_parts _ _ e in
    ap₂ (λ (a b : List ℕ). a ++ b) (encode_ascii x (ltb-true _ _ p.0)) (encodes-are_ascii xs p.1)

escape-append : (xs ys : List ℕ) → escape (xs ++ ys) ≡ escape xs ++ escape ys
escape-append [] ys = refl
escape-append (x ∷ xs) ys = ap (λ l. escape_byte x ++ l) (escape-append xs ys) ∙ sym (append_assoc (escape_byte x) _ _)

escape_all_high : (xs : List ℕ) → ((k : ℕ) → k < length xs → 128 ≤ get_or xs k 0) → escape xs ≡ xs
escape_all_high [] h = refl
escape_all_high (x ∷ xs) h = ap₂ (λ (a b : List ℕ). a ++ b) (escape_high x (h 0 (omega arith))) (escape_all_high xs (λ k below. h (suc k) (omega arith)))

bytes_high : (c : ℕ) → 128 ≤ c → (k : ℕ) → k < length (encode c) → 128 ≤ get_or (encode c) k 0
bytes_high c high k below =
    elim (cases_lt (get_or (encode c) k 0) 128) [
      | inl low ↦ absurd (omega (arith, inside_one c [] (encode c) k (sym (append-nil _)) below low))
      | inr h ↦ h
    ]

encodes-escape_byte : (c : ℕ) → encode_utf8_all (escape_byte c) ≡ escape (encode c)
encodes-escape_byte c =
    elim (cases_lt c 128) [
      | inl small ↦ encodes-are_ascii (escape_byte c) (escape_ascii c small) ∙ sym (append-nil (escape_byte c)) ∙ sym (ap escape (encode_ascii c small))
      | inr high ↦ ap encode_utf8_all (escape_high c high) ∙ append-nil (encode c) ∙ sym (escape_all_high (encode c) (bytes_high c high))
    ]

encodes-escape : (cs : List ℕ) → encode_utf8_all (escape cs) ≡ escape (encode_utf8_all cs)
encodes-escape [] = refl
encodes-escape (c ∷ cs) =
    encodes-append (escape_byte c) (escape cs) ∙ ap₂ (λ (a b : List ℕ). a ++ b) (encodes-escape_byte c) (encodes-escape cs) ∙ sym (escape-append (encode c) (encode_utf8_all cs))

pub encodes-quoted : (cs : List ℕ) → encode_utf8_all (quoted cs) ≡ quoted (encode_utf8_all cs)
encodes-quoted cs =
    let mark = 34 ∷ [] in
    let one : encode_utf8_all mark ≡ mark = encodes-are_ascii mark refl in
    encodes-append mark (escape cs ++ mark) ∙ ap₂ (λ (a b : List ℕ). a ++ b) one (encodes-append (escape cs) mark ∙ ap₂ (λ (a b : List ℕ). a ++ b) (encodes-escape cs) one)

-- ---- the characters of the string

scalars-both : (xs ys : List ℕ) → scalars xs ≡ true → scalars ys ≡ true → scalars (xs ++ ys) ≡ true
scalars-both [] ys p q = q
scalars-both (x ∷ xs) ys p q = let h = and_parts _ _ p in and_from _ _ h.0 (scalars-both xs ys h.1 q)

scalars-are_ascii : (xs : List ℕ) → are_ascii xs ≡ true → scalars xs ≡ true
scalars-are_ascii [] e = refl
scalars-are_ascii (x ∷ xs) e =
    let p = and_parts _ _ e in
    let small : x < 128 = ltb-true _ _ p.0 in
    and_from _ _ (low_scalar x (omega arith)) (scalars-are_ascii xs p.1)

scalars-escape_byte : (c : ℕ) → scalar c ≡ true → scalars (escape_byte c) ≡ true
scalars-escape_byte c ok =
    elim (cases_lt c 128) [
      | inl small ↦ scalars-are_ascii (escape_byte c) (escape_ascii c small)
      | inr high ↦ ap scalars (escape_high c high) ∙ and_from _ _ ok refl
    ]

scalars-escape : (cs : List ℕ) → scalars cs ≡ true → scalars (escape cs) ≡ true
scalars-escape [] e = refl
scalars-escape (c ∷ cs) e = let p = and_parts _ _ e in scalars-both (escape_byte c) (escape cs) (scalars-escape_byte c p.0) (scalars-escape cs p.1)

pub scalars-quoted : (cs : List ℕ) → scalars cs ≡ true → scalars (quoted cs) ≡ true
scalars-quoted cs e = and_from _ _ (low_scalar 34 (omega arith)) (scalars-both (escape cs) (34 ∷ []) (scalars-escape cs e) refl)

-- the characters of the string of the bytes are the string of the characters
pub chars-quoted : (cs : List ℕ) → scalars cs ≡ true → chars (quoted (encode_utf8_all cs)) ≡ quoted cs
chars-quoted cs e = ap chars (sym (encodes-quoted cs)) ∙ chars-encodes (quoted cs) (scalars-quoted cs e)
