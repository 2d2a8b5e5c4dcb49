-- A number or none as one word.
use Rattle.std.specs.Prelude.{◌≡◌, ℕ, zero, suc, Option, Some, None, refl}
use Rattle.std.proofs.Common.{ap}
use Rattle.ft_arena.specs.declared.numbers.Link.TheInside.{Inside}

-- 0 for none, else one more than the number
abbrev pub linked : ℕ → Option ℕ
linked zero = None
linked (suc n) = Some n

abbrev pub word_of : Option ℕ → ℕ
word_of None = 0
word_of (Some n) = suc n

again : (n : ℕ) → word_of (linked n) ≡ n
again zero = refl
again (suc n) = refl

-- the word comes back from what it shows
pub word_of-linked : (a : Inside) → record { word = word_of (linked a.word) } ≡ a
word_of-linked a = let f : ℕ → Inside = λ n. record { word = n } in ap f (again a.word)
