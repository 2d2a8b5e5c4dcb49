-- What an element adds to the entries.
use Rattle.std.proofs.Common.{◌≡◌, ℕ, zero, suc, ◌+◌, ◌-◌, ◌<◌, ◌≤◌, ◌%◌, ◌^◌, Bool, true, false, not, ◌&&◌, ◌||◌, nat_le, nat_eq, min, List, [], ◌∷◌, ◌++◌, take, get_or, length}
use Rattle.std.proofs.Common.{Option, Some, None, refl, sym, ◌∙◌, ap, subst, arith}
use Rattle.std.specs.List.{list_any}
use Rattle.std.proofs.lemmas.Bool.Decides.{nat_tests}
use Rattle.std.proofs.lemmas.Grind.{common_steps}
use Rattle.ft_base.specs.declared.stamps.Stamp.{Stamp}
use Rattle.ft_base.specs.declared.stamps.Stamp.TheVariants.{Acked, Local}
use Rattle.ft_base.specs.declared.elements.Element.{Element}
use Rattle.ft_base.specs.Visibility.{has_occurred, is_acked, sees}
use Rattle.ft_partial.specs.declared.entries.Entry.{Entry}
use Rattle.ft_partial.specs.declared.items.Removal.{Removal}
use Rattle.ft_partial.specs.Entries.{amount, unseen}
use Rattle.ft_partial.specs.Elements.{stamp_number, first_removal, is_stamp_by, IsFirst, last_length, is_other, AddsBut, TakesOwn, TakesOne, AddsItem}
use Rattle.ft_partial.proofs.EntryLemmas.{unseen-append}

first_removal-le : (dels : List Stamp) → first_removal dels ≤ 2 ^ 64
first_removal-le [] = omega arith
first_removal-le (x ∷ dels) = omega (arith, first_removal-le dels)

-- for whom one of the removals has occurred: who has seen its number, and the removers
any-occurred : (r c : ℕ) (dels : List Stamp) → r < 2 ^ 64 → list_any (has_occurred r c) dels ≡ (nat_le (first_removal dels) r || list_any (is_stamp_by c) dels)
any-occurred r c [] h = grind (arith, nat_tests)
any-occurred r c (Acked s d ∷ dels) h = grind (arith, nat_tests, any-occurred r c dels h)
any-occurred r c (Local k ∷ dels) h = grind (arith, nat_tests, any-occurred r c dels h, first_removal-le dels)

-- where no stamp is sequenced
none-by : (c : ℕ) (dels : List Stamp) → list_any is_acked dels ≡ false → list_any (is_stamp_by c) dels ≡ false
none-by c [] h = refl
none-by c (Acked s d ∷ dels) h = cc
none-by c (Local k ∷ dels) h = none-by c dels h

none-occurred : (r c : ℕ) (dels : List Stamp) → list_any is_acked dels ≡ false → list_any (has_occurred r c) dels ≡ false
none-occurred r c [] h = refl
none-occurred r c (Acked s d ∷ dels) h = cc
none-occurred r c (Local k ∷ dels) h = none-occurred r c dels h

pub any-more : (p : Stamp → Bool) (xs : List Stamp) (i : ℕ) (d : Stamp) → i < length xs → list_any p (take (i + 1) xs) ≡ (list_any p (take i xs) || p (get_or xs i d))
any-more p xs i d h = grind (arith, common_steps)

-- equal connections made stamps alike
same_by : (d c : ℕ) (stamps : List Stamp) → nat_eq d c ≡ true → list_any (is_stamp_by d) stamps ≡ list_any (is_stamp_by c) stamps
same_by d c stamps e = let same : d ≡ c = grind (arith, nat_tests) in ap (λ x. list_any (is_stamp_by x) stamps) same

-- one more removal
or_none : (a : Bool) → (a || false) ≡ a
or_none true = refl
or_none false = refl

or_three : (a b c : Bool) → (a || (b || c)) ≡ ((a || b) || c)
or_three true b c = refl
or_three false b c = refl

any-push : (p : Stamp → Bool) (xs : List Stamp) (s : Stamp) → list_any p (xs ++ s ∷ []) ≡ (list_any p xs || p s)
any-push p [] s = or_none (p s)
any-push p (x ∷ xs) s = ap (λ b. p x || b) (any-push p xs s) ∙ or_three (p x) (list_any p xs) (p s)

number-push : (xs : List Stamp) (s : Stamp) → first_removal (xs ++ s ∷ []) ≡ min (first_removal xs) (stamp_number s)
number-push [] s = omega arith
number-push (x ∷ xs) s = omega (arith, number-push xs s)

pub number-none : (dels : List Stamp) → list_any is_acked dels ≡ false → first_removal dels ≡ 2 ^ 64
number-none [] h = refl
number-none (Acked s d ∷ dels) h = cc
number-none (Local k ∷ dels) h = omega (arith, number-none dels h)

or_right : (a b : Bool) → b ≡ true → (a || b) ≡ true
or_right true b h = refl
or_right false b h = h

or_left : (a b : Bool) → a ≡ true → (a || b) ≡ true
or_left true b h = refl
or_left false b h = cc

nat_eq-refl : (n : ℕ) → nat_eq n n ≡ true
nat_eq-refl n = grind (arith, nat_tests)

-- a pending one more
pub first_pending : (dels : List Stamp) (s : Stamp) (k : ℕ) (first : Option Removal) → s ≡ Local k → IsFirst dels first → IsFirst (dels ++ s ∷ []) first
first_pending dels s k None is before = any-push is_acked dels s ∙ ap (λ z. list_any is_acked dels || is_acked z) is ∙ or_none (list_any is_acked dels) ∙ before
first_pending dels s k (Some x) is before =
    let low = first_removal-le dels in (
      before.0 ∙ sym (number-push dels s ∙ ap (λ z. min (first_removal dels) (stamp_number z)) is ∙ omega (arith, low)),
      any-push (is_stamp_by x.conn) dels s ∙ or_left (list_any (is_stamp_by x.conn) dels) (is_stamp_by x.conn s) before.1,
      any-push is_acked dels s ∙ or_left (list_any is_acked dels) (is_acked s) before.2,
    )

-- one more that is the earliest
pub first_sequenced : (dels : List Stamp) (s : Stamp) (k c : ℕ) → s ≡ Acked k c → k ≤ first_removal dels → IsFirst (dels ++ s ∷ []) (Some record { seq = k; conn = c })
first_sequenced dels s k c is low = (
  sym (number-push dels s ∙ ap (λ z. min (first_removal dels) (stamp_number z)) is ∙ omega (arith, low)),
  any-push (is_stamp_by c) dels s ∙ or_right (list_any (is_stamp_by c) dels) (is_stamp_by c s) (ap (is_stamp_by c) is ∙ nat_eq-refl c),
  any-push is_acked dels s ∙ or_right (list_any is_acked dels) (is_acked s) (ap is_acked is),
)

-- one more that is later
pub first_kept : (dels : List Stamp) (s : Stamp) (k c : ℕ) (x : Removal) → s ≡ Acked k c → x.seq ≤ k → IsFirst dels (Some x) → IsFirst (dels ++ s ∷ []) (Some x)
first_kept dels s k c x is low before = (
  before.0 ∙ sym (number-push dels s ∙ ap (λ z. min (first_removal dels) (stamp_number z)) is ∙ omega (arith, low, before.0)),
  any-push (is_stamp_by x.conn) dels s ∙ or_left (list_any (is_stamp_by x.conn) dels) (is_stamp_by x.conn s) before.1,
  any-push is_acked dels s ∙ or_left (list_any is_acked dels) (is_acked s) before.2,
)

take-push : (dels : List Stamp) (i : ℕ) (d : Stamp) → i < length dels → take (i + 1) dels ≡ take i dels ++ get_or dels i d ∷ []
take-push dels i d h = let up : i + 1 ≡ suc i = omega arith in ap (λ n. take n dels) up ∙ go i dels h
  where
    go : (i : ℕ) (ys : List Stamp) → i < length ys → take (suc i) ys ≡ take i ys ++ get_or ys i d ∷ []
    go i [] l = absurd (omega arith)
    go zero (y ∷ ys) l = nothing ys
      where
        nothing : (zs : List Stamp) → y ∷ take 0 zs ≡ y ∷ []
        nothing [] = refl
        nothing (z ∷ zs) = refl
    go (suc i) (y ∷ ys) l = ap (λ zs. y ∷ zs) (go i ys (omega arith))

pub first_more : (dels : List Stamp) (i : ℕ) (d : Stamp) (first : Option Removal) → i < length dels → IsFirst (take i dels ++ get_or dels i d ∷ []) first → IsFirst (take (i + 1) dels) first
first_more dels i d first h is = subst (λ zs. IsFirst zs first) (sym (take-push dels i d h)) is

-- a connection's entry is put in
own_case : (a e p m : Bool) (v by less : ℕ) → by < 2 ^ 64 → less ≡ (2 ^ 64 - by) % 2 ^ 64 → (m ≡ true → e ≡ false) → (m ≡ true → p ≡ false)
    → ((v + (amount (a && m) less + 0)) + amount (a && (not (e || p) && m)) by) % 2 ^ 64 ≡ v % 2 ^ 64
own_case false e p m v by less f l he hp = omega arith
own_case true e p true v by less f l he hp =
    let none : (e || p) ≡ false = ap (λ b. b || p) (he refl) ∙ hp refl in
    omega (arith, l, ap (λ b. amount (not b && true) by) none)
own_case true true p false v by less f l he hp = omega arith
own_case true false true false v by less f l he hp = omega arith
own_case true false false false v by less f l he hp = omega arith

other_conn : (c conn maker : ℕ) → (nat_eq maker conn ≡ false) → nat_eq maker c ≡ true → nat_eq conn c ≡ false
other_conn c conn maker h e = grind (arith, nat_tests)

pub takes_one : (old new : List Entry) (seq by less conn maker k : ℕ) (before : List Stamp) (stamp : Stamp) → stamp ≡ Acked k maker → by < 2 ^ 64
    → less ≡ (2 ^ 64 - by) % 2 ^ 64 → nat_eq maker conn ≡ false → list_any (is_stamp_by maker) before ≡ false
    → new ≡ old ++ record { seq = seq; conn = maker; own = true; by = less } ∷ [] → TakesOne old new seq by conn before stamp
takes_one old new seq by less conn maker k before stamp is fits l other none e r c =
    ap (λ xs. (unseen r c xs + amount (not (nat_le seq r) && (is_other c conn before && is_stamp_by c stamp)) by) % 2 ^ 64) e
    ∙ ap (λ n. (n + amount (not (nat_le seq r) && (is_other c conn before && is_stamp_by c stamp)) by) % 2 ^ 64)
    (unseen-append r c old (record { seq = seq; conn = maker; own = true; by = less } ∷ []))
    ∙ ap (λ s. ((unseen r c old + (amount (not (nat_le seq r) && nat_eq maker c) less + 0)) + amount (not (nat_le seq r) && (is_other c conn before && is_stamp_by c s)) by) % 2 ^ 64) is
    ∙ own_case (not (nat_le seq r)) (nat_eq conn c) (list_any (is_stamp_by c) before) (nat_eq maker c) (unseen r c old) by less fits l
    (other_conn c conn maker other) (λ h. sym (same_by maker c before h) ∙ none)

nothing_own : (a e : Bool) (v by : ℕ) → (v + amount (a && (not e && false)) by) % 2 ^ 64 ≡ v % 2 ^ 64
nothing_own false e v by = omega arith
nothing_own true true v by = omega arith
nothing_own true false v by = omega arith

pub takes_none : (old : List Entry) (seq by conn : ℕ) (stamps : List Stamp) → TakesOwn old old seq by conn (take 0 stamps)
takes_none old seq by conn [] r c = nothing_own (not (nat_le seq r)) (nat_eq conn c) (unseen r c old) by
takes_none old seq by conn (s ∷ stamps) r c = nothing_own (not (nat_le seq r)) (nat_eq conn c) (unseen r c old) by

two_steps : (a e p q : Bool) (vn vk vo by : ℕ) → (vk + amount (a && (not e && p)) by) % 2 ^ 64 ≡ vo % 2 ^ 64 → (vn + amount (a && (not (e || p) && q)) by) % 2 ^ 64 ≡ vk % 2 ^ 64
    → (vn + amount (a && (not e && (p || q))) by) % 2 ^ 64 ≡ vo % 2 ^ 64
two_steps false e p q vn vk vo by h1 h2 = omega arith
two_steps true true p q vn vk vo by h1 h2 = omega arith
two_steps true false true q vn vk vo by h1 h2 = omega arith
two_steps true false false true vn vk vo by h1 h2 = omega arith
two_steps true false false false vn vk vo by h1 h2 = omega arith

pub takes_more : (old now new : List Entry) (seq by conn : ℕ) (stamps before : List Stamp) (i : ℕ) (d : Stamp) → i < length stamps → before ≡ take i stamps
    → TakesOwn old now seq by conn (take i stamps) → TakesOne now new seq by conn before (get_or stamps i d) → TakesOwn old new seq by conn (take (i + 1) stamps)
takes_more old now new seq by conn stamps before i d h is so_far one r c =
    ap (λ b. (unseen r c new + amount (not (nat_le seq r) && (not (nat_eq conn c) && b)) by) % 2 ^ 64) (any-more (is_stamp_by c) stamps i d h)
    ∙ two_steps (not (nat_le seq r)) (nat_eq conn c) (list_any (is_stamp_by c) (take i stamps)) (is_stamp_by c (get_or stamps i d)) (unseen r c new) (unseen r c now) (unseen r c old) by
    (so_far r c) (subst (λ xs. TakesOne now new seq by conn xs (get_or stamps i d)) is one r c)

-- all but some connections
but_case : (a e p : Bool) (vn vk vo by : ℕ) → vk % 2 ^ 64 ≡ (vo + (amount (a && not e) by + 0)) % 2 ^ 64 → (vn + amount (a && (not e && p)) by) % 2 ^ 64 ≡ vk % 2 ^ 64
    → vn % 2 ^ 64 ≡ (vo + amount (a && not (e || p)) by) % 2 ^ 64
but_case false e p vn vk vo by h1 h2 = omega arith
but_case true true p vn vk vo by h1 h2 = omega arith
but_case true false true vn vk vo by h1 h2 = omega arith
but_case true false false vn vk vo by h1 h2 = omega arith

pub adds_but : (floor : ℕ) (old mid new : List Entry) (seq by conn : ℕ) (stamps : List Stamp) → mid ≡ old ++ record { seq = seq; conn = conn; own = false; by = by } ∷ []
    → TakesOwn mid new seq by conn stamps → AddsBut floor old new seq by conn stamps
adds_but floor old mid new seq by conn stamps e takes r c h =
    but_case (not (nat_le seq r)) (nat_eq conn c) (list_any (is_stamp_by c) stamps) (unseen r c new) (unseen r c mid) (unseen r c old) by
    (ap (λ xs. unseen r c xs % 2 ^ 64) e ∙ ap (λ n. n % 2 ^ 64) (unseen-append r c old (record { seq = seq; conn = conn; own = false; by = by } ∷ []))) (takes r c)

-- an element that nobody has removed
alive_case : (s d : Bool) (vn vo n less : ℕ) → n < 2 ^ 64 → less ≡ (2 ^ 64 - n) % 2 ^ 64
    → vn % 2 ^ 64 ≡ (vo + amount (not s && not (d || false)) less) % 2 ^ 64 → (vn + n) % 2 ^ 64 ≡ (vo + amount ((s || d) && true) n) % 2 ^ 64
alive_case true d vn vo n less f l h = omega arith
alive_case false true vn vo n less f l h = omega arith
alive_case false false vn vo n less f l h = omega arith

pub adds_alive : (floor : ℕ) (old new : List Entry) (e : Element) (n less s d : ℕ) (dels : List Stamp) → e.ins ≡ Acked s d → dels ≡ e.dels → n < 2 ^ 64
    → less ≡ (2 ^ 64 - n) % 2 ^ 64 → IsFirst dels None → AddsBut floor old new s less d dels → AddsItem floor old new e n
adds_alive floor old new e n less s d dels is ed fits l none but r c hf hr hc =
    let acked : list_any is_acked e.dels ≡ false = ap (list_any is_acked) (sym ed) ∙ none in
    let by : list_any (is_stamp_by c) dels ≡ false = none-by c dels none in
    let last : last_length e n ≡ n = ap (λ z. amount (is_acked z && not (list_any is_acked e.dels)) n) is ∙ ap (λ b. amount (not b) n) acked in
    let seen : amount (sees e r c) n ≡ amount ((nat_le s r || nat_eq d c) && true) n =
    ap (λ z. amount (has_occurred r c z && not (list_any (has_occurred r c) e.dels)) n) is
    ∙ ap (λ b. amount ((nat_le s r || nat_eq d c) && not b) n) (none-occurred r c e.dels acked) in
    ap (λ k. (unseen r c new + k) % 2 ^ 64) last
    ∙ alive_case (nat_le s r) (nat_eq d c) (unseen r c new) (unseen r c old) n less fits l
    (but r c hf ∙ ap (λ b. (unseen r c old + amount (not (nat_le s r) && not (nat_eq d c || b)) less) % 2 ^ 64) by)
    ∙ ap (λ k. (unseen r c old + k) % 2 ^ 64) (sym seen)

-- an element that somebody has removed
gone_case : (s g d b : Bool) (vn vm vo n less : ℕ) → n < 2 ^ 64 → less ≡ (2 ^ 64 - n) % 2 ^ 64
    → vm % 2 ^ 64 ≡ (vo + amount (not g && not b) n) % 2 ^ 64 → vn % 2 ^ 64 ≡ (vm + amount (not (s || g) && not (d || b)) less) % 2 ^ 64
    → (vn + 0) % 2 ^ 64 ≡ (vo + amount ((s || d) && not (g || b)) n) % 2 ^ 64
gone_case true true d b vn vm vo n less f l h1 h2 = omega arith
gone_case true false d b vn vm vo n less f l h1 h2 = omega arith
gone_case false true true b vn vm vo n less f l h1 h2 = omega arith
gone_case false true false b vn vm vo n less f l h1 h2 = omega arith
gone_case false false true b vn vm vo n less f l h1 h2 = omega arith
gone_case false false false true vn vm vo n less f l h1 h2 = omega arith
gone_case false false false false vn vm vo n less f l h1 h2 = omega arith

is_removers : (f b : Bool) → (f ≡ true → b ≡ true) → (f || b) ≡ b
is_removers true b h = sym (h refl)
is_removers false b h = refl

min_seen : (s g r : ℕ) → nat_le (min s g) r ≡ (nat_le s r || nat_le g r)
min_seen s g r = grind (arith, nat_tests)

pub adds_gone : (floor : ℕ) (old mid new : List Entry) (e : Element) (n less s d : ℕ) (first : Removal) (dels : List Stamp) → e.ins ≡ Acked s d → dels ≡ e.dels → n < 2 ^ 64
    → less ≡ (2 ^ 64 - n) % 2 ^ 64 → IsFirst dels (Some first) → AddsBut floor old mid first.seq n first.conn dels
    → AddsBut floor mid new (min s first.seq) less d dels → AddsItem floor old new e n
adds_gone floor old mid new e n less s d first dels is ed fits l earliest but back r c hf hr hc =
    let removers = list_any (is_stamp_by c) dels in
    let g = nat_le first.seq r in
    let acked : list_any is_acked e.dels ≡ true = ap (list_any is_acked) (sym ed) ∙ earliest.2 in
    let last : last_length e n ≡ 0 = ap (λ b. amount (is_acked e.ins && not b) n) acked ∙ nothing (is_acked e.ins) in
    let own : (nat_eq first.conn c || removers) ≡ removers =
    is_removers (nat_eq first.conn c) removers (λ h. sym (same_by first.conn c dels h) ∙ earliest.1) in
    let occurred : list_any (has_occurred r c) e.dels ≡ (g || removers) =
    ap (list_any (has_occurred r c)) (sym ed) ∙ any-occurred r c dels hr ∙ ap (λ k. nat_le k r || removers) (sym earliest.0) in
    let seen : amount (sees e r c) n ≡ amount ((nat_le s r || nat_eq d c) && not (g || removers)) n =
    ap (λ z. amount (has_occurred r c z && not (list_any (has_occurred r c) e.dels)) n) is
    ∙ ap (λ b. amount ((nat_le s r || nat_eq d c) && not b) n) occurred in
    ap (λ k. (unseen r c new + k) % 2 ^ 64) last
    ∙ gone_case (nat_le s r) g (nat_eq d c) removers (unseen r c new) (unseen r c mid) (unseen r c old) n less fits l
    (but r c hf ∙ ap (λ b. (unseen r c old + amount (not g && not b) n) % 2 ^ 64) own)
    (back r c hf ∙ ap (λ b. (unseen r c mid + amount (not b && not (nat_eq d c || removers)) less) % 2 ^ 64) (min_seen s first.seq r))
    ∙ ap (λ k. (unseen r c old + k) % 2 ^ 64) (sym seen)
  where
    nothing : (b : Bool) → amount (b && false) n ≡ 0
    nothing true = refl
    nothing false = refl
