-- Texts as keys, and lists by rising keys. Of a list of pairs of a key and a value, no key stands twice.
use Rattle.std.specs.Prelude.{◌≡◌, ℕ, suc, List, [], ◌∷◌, Option, Some, None, Result, Ok, Err, ⊤}
use Rattle.std.specs.Ordering.{nat_cmp}
use Rattle.std.specs.declared.cmp.Ordering.{Ordering}
use Rattle.std.specs.declared.cmp.Ordering.TheVariants.{Less, Equal, Greater}
use Rattle.std.specs.Cmp.Lexicographic.{slice_cmp}

-- a text, as its characters
abbrev pub Characters : Type 0
Characters = List ℕ

-- the order of keys, labels and ids: that of their characters, which is also that of their UTF-8 bytes
abbrev pub text_cmp : Characters → Characters → Ordering
text_cmp a b = slice_cmp nat_cmp a b

-- x in its place among rising keys, in place of the one with its key if there is one
abbrev pub put_rising : {A : Type 0} → (A → A → Ordering) → A → List A → List A
put_rising cmp x [] = x ∷ []
put_rising cmp x (y ∷ ys) = elim (cmp x y) [ Less ↦ x ∷ y ∷ ys | Equal ↦ x ∷ ys | Greater ↦ y ∷ put_rising cmp x ys ]

-- the list without the one with x's key
abbrev pub remove_rising : {A : Type 0} → (A → A → Ordering) → A → List A → List A
remove_rising cmp x [] = []
remove_rising cmp x (y ∷ ys) = elim (cmp x y) [ Less ↦ y ∷ ys | Equal ↦ ys | Greater ↦ y ∷ remove_rising cmp x ys ]

-- the value of a key, if it has one
abbrev pub value_of : {V : Type 0} → Characters → List (Characters × V) → Option V
value_of key [] = None
value_of key ((k, v) ∷ pairs) = elim (text_cmp key k) [ Less ↦ value_of key pairs | Equal ↦ Some v | Greater ↦ value_of key pairs ]

-- the order of pairs is that of their keys
abbrev pub key_cmp : {V : Type 0} → (Characters × V) → (Characters × V) → Ordering
key_cmp a b = text_cmp a.0 b.0

-- the key comes before each key of the pairs
abbrev pub IsBeforeKeys : {V : Type 0} → Characters → List (Characters × V) → Type 0
IsBeforeKeys key [] = ⊤
IsBeforeKeys key ((k, v) ∷ pairs) = (text_cmp key k ≡ Less) × IsBeforeKeys key pairs

-- each key comes before those behind it
abbrev pub KeysRise : {V : Type 0} → List (Characters × V) → Type 0
KeysRise [] = ⊤
KeysRise ((k, v) ∷ pairs) = IsBeforeKeys k pairs × KeysRise pairs

-- one place further
abbrev pub next_place : Result ℕ ℕ → Result ℕ ℕ
next_place (Ok i) = Ok (suc i)
next_place (Err i) = Err (suc i)

-- the place of the key among rising keys, or else, as an error, the place where it would stand
abbrev pub key_place : {V : Type 0} → Characters → List (Characters × V) → Result ℕ ℕ
key_place key [] = Err 0
key_place key ((k, v) ∷ pairs) = elim (text_cmp key k) [ Less ↦ Err 0 | Equal ↦ Ok 0 | Greater ↦ next_place (key_place key pairs) ]
