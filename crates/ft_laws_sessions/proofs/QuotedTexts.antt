-- What a string of a JSON text stands for is UTF-8 where the text is.
use Rattle.std.proofs.Common.{◌≡◌, ℕ, ◌+◌, ◌<◌, Bool, true, false, cond, ◌&&◌, ◌||◌, ◌==◌, List, [], ◌∷◌, ◌++◌, length, drop, get_or, Option, Some, None, option_and_then, IsUtf8, refl, sym, ap, ◌∙◌, subst, arith, nat_lt, append_assoc}
use Rattle.std.proofs.lemmas.Bool.{eqb-true}
use Rattle.std.proofs.lemmas.Bool.Decides.{nat_tests}
use Rattle.std.proofs.lemmas.List.{append-nil, drop_at, get_or-append-add, length-append, take_at}
use Rattle.std.proofs.lemmas.Option.{same_Some}
use Rattle.std.proofs.lemmas.Str.{IsCharBoundary-after_ascii, IsCharBoundary-before_ascii, IsUtf8-append, IsUtf8-drop, IsUtf8-encode, IsUtf8-take}
use Rattle.std.specs.Char.{IsScalar, digit_value, encode_utf8, is_digit}
use Rattle.json.specs.Text.{Within, after_backslash, after_high, after_u, code_unit, content, is_high_surrogate, is_low_surrogate, plain, prepend, short_escape, surrogate_pair}
use Rattle.json.proofs.Printed.Utf8.{IsUtf8-are_ascii}
use Rattle.ft_base.proofs.Booleans.{all_four}
use Rattle.ft_sumdoc.proofs.ReadValid.{some_step, where_held}

-- ---- cuts beside an ASCII byte

byte-seam : (p : List ℕ) (x : ℕ) (xs : List ℕ) → get_or (p ++ x ∷ xs) (length p) 0 ≡ x
byte-seam p x xs = let same : length p ≡ length p + 0 = omega arith in ap (λ k. get_or (p ++ x ∷ xs) k 0) same ∙ get_or-append-add p (x ∷ xs) 0 0

pub before-ascii : (p : List ℕ) (x : ℕ) (xs : List ℕ) → x < 128 → IsUtf8 (p ++ x ∷ xs) → IsUtf8 p
before-ascii p x xs small u =
    let long = length-append p (x ∷ xs) in
    let byte = byte-seam p x xs in
    let cut = IsCharBoundary-before_ascii (p ++ x ∷ xs) (length p) (omega (arith, long)) (omega (arith, byte)) in
    subst IsUtf8 (take_at p (x ∷ xs) (length p) refl) (IsUtf8-take (p ++ x ∷ xs) (length p) u cut)

pub after-ascii : (p : List ℕ) (x : ℕ) (xs : List ℕ) → x < 128 → IsUtf8 (p ++ x ∷ xs) → IsUtf8 xs
after-ascii p x xs small u =
    let long = length-append p (x ∷ xs) in
    let byte = byte-seam p x xs in
    let cut = IsCharBoundary-after_ascii (p ++ x ∷ xs) (length p) u (omega (arith, long)) (omega (arith, byte)) in
    let front = length-append p (x ∷ []) in
    let rest = ap (drop (length p + 1)) (sym (append_assoc p (x ∷ []) xs)) ∙ drop_at (p ++ x ∷ []) xs (length p + 1) front in
    subst IsUtf8 rest (IsUtf8-drop (p ++ x ∷ xs) (length p + 1) u cut)

-- ---- escapes

abbrev AreAscii : ℕ → Option ℕ → Type 0
AreAscii x o = (c : ℕ) → o ≡ Some c → (x < 128) × (c < 128)

escape-or : (b : Bool) (x k c : ℕ) (o : Option ℕ) → x == k ≡ b → k < 128 → c < 128 → AreAscii x o → AreAscii x (cond b (Some c) o)
escape-or true x k c o h small low rest d e = let same = eqb-true x k h in let is = same_Some c d e in (omega (arith, same), omega (arith, is))
escape-or false x k c o h small low rest d e = rest d e

itself-or : (a b c : Bool) (x : ℕ) (o : Option ℕ) → x == 34 ≡ a → x == 92 ≡ b → x == 47 ≡ c → AreAscii x o → AreAscii x (cond (a || b || c) (Some x) o)
itself-or true b c x o h i j rest d e = let same = eqb-true x 34 h in let is = same_Some x d e in (omega (arith, same), omega (arith, same, is))
itself-or false true c x o h i j rest d e = let same = eqb-true x 92 i in let is = same_Some x d e in (omega (arith, same), omega (arith, same, is))
itself-or false false true x o h i j rest d e = let same = eqb-true x 47 j in let is = same_Some x d e in (omega (arith, same), omega (arith, same, is))
itself-or false false false x o h i j rest d e = rest d e

no-escape : (x : ℕ) → AreAscii x None
no-escape x c e = (cc)

escape-ascii : (x : ℕ) → AreAscii x (short_escape x)
unfolding short_escape
escape-ascii x =
    itself-or (x == 34) (x == 92) (x == 47) x _ refl refl refl
    (escape-or (x == 98) x 98 8 _ refl (omega arith) (omega arith)
    (escape-or (x == 102) x 102 12 _ refl (omega arith) (omega arith)
    (escape-or (x == 110) x 110 10 _ refl (omega arith) (omega arith)
    (escape-or (x == 114) x 114 13 _ refl (omega arith) (omega arith)
    (escape-or (x == 116) x 116 9 None refl (omega arith) (omega arith) (no-escape x))))))

-- ---- code units

digit-ascii : (c : ℕ) → is_digit c 16 ≡ true → (c < 128) × (digit_value c < 16)
digit-ascii c h = (grind (arith, nat_tests), grind (arith, nat_tests))

-- four digits are ASCII, and their number is a code unit
record IsUnit (a b c d u : ℕ) : Type 0 where
  first : a < 128
  second : b < 128
  third : c < 128
  fourth : d < 128
  unit : u < 65536

unit-of : (a b c d u : ℕ) → code_unit a b c d ≡ Some u → IsUnit a b c d u
unfolding code_unit
unit-of a b c d u e =
    let held = where_held (is_digit a 16 && is_digit b 16 && is_digit c 16 && is_digit d 16) _ u e in
    let each = all_four (is_digit a 16) (is_digit b 16) (is_digit c 16) (is_digit d 16) held.0 in
    let p = digit-ascii a each.0 in
    let q = digit-ascii b each.1 in
    let r = digit-ascii c each.2 in
    let s = digit-ascii d each.3 in
    let is = held.1 in
    record { first = p.0; second = q.0; third = r.0; fourth = s.0; unit = omega (arith, p, q, r, s, is) }

past-four : (a b c d u : ℕ) (xs : List ℕ) → IsUnit a b c d u → IsUtf8 (a ∷ b ∷ c ∷ d ∷ xs) → IsUtf8 xs
past-four a b c d u xs h t = after-ascii [] d xs h.fourth (after-ascii [] c _ h.third (after-ascii [] b _ h.second (after-ascii [] a _ h.first t)))

alone-scalar : (u : ℕ) → is_high_surrogate u ≡ false → is_low_surrogate u ≡ false → u < 65536 → IsScalar u
alone-scalar u h l small = grind (arith, nat_tests)

pair-scalar : (h l : ℕ) → is_high_surrogate h ≡ true → is_low_surrogate l ≡ true → IsScalar (surrogate_pair h l)
pair-scalar h l high low = grind (arith, nat_tests)

-- ---- the content of a string

-- what the content from there on is: behind the bytes p, or by itself
abbrev IsContent : Within → List ℕ → List ℕ → Type 0
IsContent plain xs s = (p : List ℕ) → IsUtf8 (p ++ xs) → IsUtf8 (p ++ s)
IsContent after_backslash xs s = IsUtf8 xs → IsUtf8 s
IsContent after_u xs s = IsUtf8 xs → IsUtf8 s
IsContent (after_high h) xs s = is_high_surrogate h ≡ true → IsUtf8 xs → IsUtf8 s

abbrev HasContent : Within → List ℕ → Type 0
HasContent w xs = (s : List ℕ) → content w xs ≡ Some s → IsContent w xs s

-- bytes before what was read of the rest
prepended : (bytes s : List ℕ) (o : Option (List ℕ)) → prepend bytes o ≡ Some s → (t : List ℕ) × (o ≡ Some t) × (bytes ++ t ≡ s)
prepended bytes s None e = (cc)
prepended bytes s (Some t) e = (t, refl, same_Some (bytes ++ t) s e)

character-then : (bytes xs s : List ℕ) → IsUtf8 bytes → HasContent plain xs → prepend bytes (content plain xs) ≡ Some s → IsUtf8 xs → IsUtf8 s
character-then bytes xs s b rest e u =
    let t = prepended bytes s (content plain xs) e in
    subst IsUtf8 t.2 (IsUtf8-append bytes t.0 b (rest t.0 t.1 [] u))

plain-byte : (a b c : Bool) (x : ℕ) (xs s : List ℕ) → x == 34 ≡ a → x == 92 ≡ b → HasContent after_backslash xs → HasContent plain xs
    → cond a (Some []) (cond b (content after_backslash xs) (cond c None (prepend (x ∷ []) (content plain xs)))) ≡ Some s → IsContent plain (x ∷ xs) s
plain-byte true b c x xs s h k escaped rest e p u =
    let same = eqb-true x 34 h in
    subst (λ t. IsUtf8 (p ++ t)) (same_Some [] s e) (subst IsUtf8 (sym (append-nil p)) (before-ascii p x xs (omega (arith, same)) u))
plain-byte false true c x xs s h k escaped rest e p u =
    let same = eqb-true x 92 k in
    let small : x < 128 = omega (arith, same) in
    IsUtf8-append p s (before-ascii p x xs small u) (escaped s e (after-ascii p x xs small u))
plain-byte false false true x xs s h k escaped rest e p u = (cc)
plain-byte false false false x xs s h k escaped rest e p u =
    let t = prepended (x ∷ []) s (content plain xs) e in
    let more = rest t.0 t.1 (p ++ x ∷ []) (subst IsUtf8 (sym (append_assoc p (x ∷ []) xs)) u) in
    subst (λ r. IsUtf8 (p ++ r)) t.2 (subst IsUtf8 (append_assoc p (x ∷ []) t.0) more)

one-byte : (c : ℕ) → c < 128 → IsUtf8 (c ∷ [])
one-byte c small = IsUtf8-are_ascii (c ∷ []) (grind (arith, nat_tests))

escaped-byte : (b : Bool) (x : ℕ) (xs s : List ℕ) → x == 117 ≡ b → HasContent after_u xs → HasContent plain xs
    → cond b (content after_u xs) (option_and_then (λ c. prepend (c ∷ []) (content plain xs)) (short_escape x)) ≡ Some s → IsContent after_backslash (x ∷ xs) s
escaped-byte true x xs s h unit rest e u = let same = eqb-true x 117 h in unit s e (after-ascii [] x xs (omega (arith, same)) u)
escaped-byte false x xs s h unit rest e u =
    let c = some_step (λ c. prepend (c ∷ []) (content plain xs)) (short_escape x) s e in
    let ascii = escape-ascii x c.0 c.1 in
    character-then (c.0 ∷ []) xs s (one-byte c.0 ascii.1) rest c.2 (after-ascii [] x xs ascii.0 u)

unit-then : (high low : Bool) (u : ℕ) (xs s : List ℕ) → is_high_surrogate u ≡ high → is_low_surrogate u ≡ low → u < 65536 → HasContent (after_high u) xs → HasContent plain xs
    → cond high (content (after_high u) xs) (cond low None (prepend (encode_utf8 u) (content plain xs))) ≡ Some s → IsUtf8 xs → IsUtf8 s
unit-then true low u xs s h l small pair rest e t = pair s e h t
unit-then false true u xs s h l small pair rest e t = (cc)
unit-then false false u xs s h l small pair rest e t = character-then (encode_utf8 u) xs s (IsUtf8-encode u (alone-scalar u h l small)) rest e t

low-then : (h l : ℕ) (xs s : List ℕ) → is_high_surrogate h ≡ true → HasContent plain xs
    → cond (is_low_surrogate l) (prepend (encode_utf8 (surrogate_pair h l)) (content plain xs)) None ≡ Some s → IsUtf8 xs → IsUtf8 s
low-then h l xs s high rest e t = by (is_low_surrogate l) refl e
  where
    by : (b : Bool) → is_low_surrogate l ≡ b → cond b (prepend (encode_utf8 (surrogate_pair h l)) (content plain xs)) None ≡ Some s → IsUtf8 s
    by true low e = character-then (encode_utf8 (surrogate_pair h l)) xs s (IsUtf8-encode (surrogate_pair h l) (pair-scalar h l high low)) rest e t
    by false low e = (cc)

abbrev second_half : ℕ → ℕ → ℕ → ℕ → ℕ → List ℕ → Option (List ℕ)
second_half h a b c d xs = option_and_then (λ l. cond (is_low_surrogate l) (prepend (encode_utf8 (surrogate_pair h l)) (content plain xs)) None) (code_unit a b c d)

high-then : (q v : Bool) (h x y a b c d : ℕ) (xs s : List ℕ) → x == 92 ≡ q → y == 117 ≡ v → HasContent plain xs → cond (q && v) (second_half h a b c d xs) None ≡ Some s
    → IsContent (after_high h) (x ∷ y ∷ a ∷ b ∷ c ∷ d ∷ xs) s
high-then true true h x y a b c d xs s p q rest e high t =
    let slash = eqb-true x 92 p in
    let letter = eqb-true y 117 q in
    let l = some_step _ (code_unit a b c d) s e in
    let unit = unit-of a b c d l.0 l.1 in
    let past = past-four a b c d l.0 xs unit (after-ascii [] y _ (omega (arith, letter)) (after-ascii [] x _ (omega (arith, slash)) t)) in
    low-then h l.0 xs s high rest l.2 past
high-then true false h x y a b c d xs s p q rest e high t = (cc)
high-then false v h x y a b c d xs s p q rest e high t = (cc)

content-utf8 : (w : Within) (xs : List ℕ) → HasContent w xs
unfolding content
content-utf8 plain [] s e = (cc)
content-utf8 plain (x ∷ xs) s e = plain-byte (x == 34) (x == 92) (nat_lt x 32) x xs s refl refl (content-utf8 after_backslash xs) (content-utf8 plain xs) e
content-utf8 after_backslash [] s e = (cc)
content-utf8 after_backslash (x ∷ xs) s e = escaped-byte (x == 117) x xs s refl (content-utf8 after_u xs) (content-utf8 plain xs) e
content-utf8 after_u [] s e = (cc)
content-utf8 after_u (a ∷ []) s e = (cc)
content-utf8 after_u (a ∷ b ∷ []) s e = (cc)
content-utf8 after_u (a ∷ b ∷ c ∷ []) s e = (cc)
content-utf8 after_u (a ∷ b ∷ c ∷ d ∷ xs) s e =
    let high : (u : ℕ) → HasContent (after_high u) xs = λ u. content-utf8 (after_high u) xs in
    let u = some_step _ (code_unit a b c d) s e in
    let unit = unit-of a b c d u.0 u.1 in
    λ t. unit-then (is_high_surrogate u.0) (is_low_surrogate u.0) u.0 xs s refl refl unit.unit (high u.0) (content-utf8 plain xs) u.2 (past-four a b c d u.0 xs unit t)
content-utf8 (after_high h) [] s e = (cc)
content-utf8 (after_high h) (x ∷ []) s e = (cc)
content-utf8 (after_high h) (x ∷ y ∷ []) s e = (cc)
content-utf8 (after_high h) (x ∷ y ∷ a ∷ []) s e = (cc)
content-utf8 (after_high h) (x ∷ y ∷ a ∷ b ∷ []) s e = (cc)
content-utf8 (after_high h) (x ∷ y ∷ a ∷ b ∷ c ∷ []) s e = (cc)
content-utf8 (after_high h) (x ∷ y ∷ a ∷ b ∷ c ∷ d ∷ xs) s e = high-then (x == 92) (y == 117) h x y a b c d xs s refl refl (content-utf8 plain xs) e

-- the content of a string that begins there
pub string-utf8 : (xs s : List ℕ) → IsUtf8 xs → content plain xs ≡ Some s → IsUtf8 s
string-utf8 xs s u e = content-utf8 plain xs s e [] u
