-- What elements of a lifespan add to the entries.
use Rattle.std.proofs.Common.{◌≡◌, ℕ, ◌+◌, ◌-◌, ◌<◌, ◌≤◌, ◌%◌, ◌^◌, Bool, true, false, not, ◌&&◌, ◌||◌, nat_le, nat_eq, List, [], Some, None, refl, ◌∙◌, ap, arith}
use Rattle.std.proofs.lemmas.Bool.Decides.{nat_tests}
use Rattle.ft_partial.specs.declared.entries.Entry.{Entry}
use Rattle.ft_partial.specs.declared.lifespans.Lifespan.{Lifespan}
use Rattle.ft_partial.specs.Entries.{amount, unseen}
use Rattle.ft_partial.specs.Elements.{AddsBut}
use Rattle.ft_partial.specs.Lifespans.{is_there_at, stays, AddsLifespan, ExchangesLifespans}
use Rattle.ft_partial.specs.Tables.{Lengths}
use Rattle.ft_partial.proofs.TableLemmas.{opposite}

-- who isn't connection 0 counts until the number is seen
but_nobody : (old new : List Entry) (seq by : ℕ) → AddsBut 0 old new seq by 0 [] → (k c : ℕ) → 1 ≤ c
    → unseen k c new % 2 ^ 64 ≡ (unseen k c old + amount (not (nat_le seq k) && true) by) % 2 ^ 64
but_nobody old new seq by but k c some =
    let other : nat_eq 0 c ≡ false = grind (arith, nat_tests) in
    but k c (omega arith) ∙ ap (λ b. (unseen k c old + amount (not (nat_le seq k) && not (b || false)) by) % 2 ^ 64) other

stay_case : (a : Bool) (vn vo n less : ℕ) → n < 2 ^ 64 → less ≡ (2 ^ 64 - n) % 2 ^ 64 → vn % 2 ^ 64 ≡ (vo + amount (not a && true) less) % 2 ^ 64
    → (vn + n) % 2 ^ 64 ≡ (vo + amount (a && true) n) % 2 ^ 64
stay_case true vn vo n less f l h = omega arith
stay_case false vn vo n less f l h = omega arith

pub adds_stay : (old new : List Entry) (from n less : ℕ) → n < 2 ^ 64 → less ≡ (2 ^ 64 - n) % 2 ^ 64 → AddsBut 0 old new from less 0 []
    → AddsLifespan old new (record { from = from; until = None }) n
adds_stay old new from n less f l but k c some = stay_case (nat_le from k) (unseen k c new) (unseen k c old) n less f l (but_nobody old new from less but k c some)

until_case : (a b : Bool) (vn vm vo n less : ℕ) → (b ≡ true → a ≡ true) → n < 2 ^ 64 → less ≡ (2 ^ 64 - n) % 2 ^ 64
    → vm % 2 ^ 64 ≡ (vo + amount (not b && true) n) % 2 ^ 64 → vn % 2 ^ 64 ≡ (vm + amount (not a && true) less) % 2 ^ 64
    → (vn + 0) % 2 ^ 64 ≡ (vo + amount (a && not b) n) % 2 ^ 64
until_case true true vn vm vo n less order f l h g = omega arith
until_case true false vn vm vo n less order f l h g = omega arith
until_case false true vn vm vo n less order f l h g = let never : false ≡ true = order refl in cc never
until_case false false vn vm vo n less order f l h g = omega arith

later : (from until k : ℕ) → from ≤ until → nat_le until k ≡ true → nat_le from k ≡ true
later from until k h e = grind (arith, nat_tests)

pub adds_until : (old mid new : List Entry) (from until n less : ℕ) → from < until → n < 2 ^ 64 → less ≡ (2 ^ 64 - n) % 2 ^ 64 → AddsBut 0 old mid until n 0 []
    → AddsBut 0 mid new from less 0 [] → AddsLifespan old new (record { from = from; until = Some until }) n
adds_until old mid new from until n less h f l there back k c some =
    until_case (nat_le from k) (nat_le until k) (unseen k c new) (unseen k c mid) (unseen k c old) n less (later from until k (omega arith)) f l
    (but_nobody old mid until n there k c some) (but_nobody mid new from less back k c some)

never_case : (a b : Bool) (n : ℕ) → (a ≡ true → b ≡ true) → amount (a && not b) n ≡ 0
never_case true true n order = refl
never_case true false n order = let never : false ≡ true = order refl in cc never
never_case false b n order = refl

pub adds_never : (old : List Entry) (from until n : ℕ) → until ≤ from → AddsLifespan old old (record { from = from; until = Some until }) n
adds_never old from until n h k c some = omega (arith, never_case (nat_le from k) (nat_le until k) n (later until from k h))

-- those of one lifespan, and those of another one with the opposite number
pub exchanges_lifespans : (change : Lengths) (none mid : List Entry) (gone come : Lifespan) (n m less taken given : ℕ) → n < 2 ^ 64 → less ≡ (2 ^ 64 - n) % 2 ^ 64 → none ≡ []
    → AddsLifespan none mid come m → AddsLifespan mid change.entries gone less → taken ≡ amount (stays gone.until) n → given ≡ amount (stays come.until) m → taken < 2 ^ 64
    → change.last ≡ (given + (2 ^ 64 - taken)) % 2 ^ 64 → ExchangesLifespans change gone n come m
exchanges_lifespans change none mid gone come n m less taken given hn hl en into out et eg ht el old new adds k c some =
    omega (
      arith,
      adds k c,
      into k c some,
      out k c some,
      ap (unseen k c) en,
      opposite (is_there_at gone k) n less hn hl,
      opposite (stays gone.until) n less hn hl,
      et,
      eg,
      el,
    )
