-- Entries by rising number.
use Rattle.std.proofs.Common.{◌≡◌, ◌≢◌, ℕ, zero, suc, ◌+◌, ◌-◌, ◌<◌, ◌≤◌, ◌%◌, ◌^◌, Bool, true, false, cond, not, ◌&&◌, nat_le, nat_lt, nat_eq, List, [], ◌∷◌, ◌++◌, take, drop, get_or, set}
use Rattle.std.proofs.Common.{length, filter, refl, sym, ◌∙◌, ap, subst, arith}
use Rattle.std.specs.Prelude.{insert}
use Rattle.std.proofs.Math.Seq.{drop-cons}
use Rattle.std.proofs.lemmas.Bool.Decides.{nat_tests}
use Rattle.ft_base.specs.Scan.{one_more_if}
use Rattle.ft_partial.specs.declared.entries.Entry.{Entry}
use Rattle.ft_partial.specs.Entries.{amount, is_for, counts, share, unseen, old_count, AreUpTo, AreFrom, IsRising, last_number, IsPlace, IsAlikeAt, AddsEntry, AddsEntries, DropsOld}

-- a default to read lists with
abbrev pub no_entry : Entry
no_entry = record { seq = 0; conn = 0; own = false; by = 0 }

-- all of the list
pub take_all : (xs : List Entry) (n : ℕ) → length xs ≤ n → take n xs ≡ xs
take_all [] zero h = refl
take_all [] (suc n) h = refl
take_all (x ∷ xs) zero h = absurd (omega arith)
take_all (x ∷ xs) (suc n) h = ap (λ ys. x ∷ ys) (take_all xs n (omega arith))

pub drop_all : (xs : List Entry) (n : ℕ) → length xs ≤ n → drop n xs ≡ []
drop_all [] zero h = refl
drop_all [] (suc n) h = refl
drop_all (x ∷ xs) zero h = absurd (omega arith)
drop_all (x ∷ xs) (suc n) h = drop_all xs n (omega arith)

-- bounds that are weaker
pub up_to_weaker : (k n : ℕ) (xs : List Entry) → k ≤ n → AreUpTo k xs → AreUpTo n xs
up_to_weaker k n [] h a = tt
up_to_weaker k n (x ∷ xs) h a = (omega (arith, a.0), up_to_weaker k n xs h a.1)

pub from_weaker : (k n : ℕ) (xs : List Entry) → k ≤ n → AreFrom n xs → AreFrom k xs
from_weaker k n [] h a = tt
from_weaker k n (x ∷ xs) h a = (omega (arith, a.0), from_weaker k n xs h a.1)

-- the entries before one that is up to k
from_at : (k i : ℕ) (d : Entry) (xs : List Entry) → AreFrom k xs → i < length xs → k ≤ (get_or xs i d).seq
from_at k i d [] a h = absurd (omega arith)
from_at k zero d (x ∷ xs) a h = a.0
from_at k (suc i) d (x ∷ xs) a h = from_at k i d xs a.1 (omega arith)

pub up_to_take : (k i : ℕ) (d : Entry) (xs : List Entry) → IsRising xs → i < length xs → (get_or xs i d).seq ≤ k → AreUpTo k (take (suc i) xs)
up_to_take k i d [] r h l = tt
up_to_take k zero d (x ∷ xs) r h l = (l, none xs)
  where
    none : (ys : List Entry) → AreUpTo k (take 0 ys)
    none [] = tt
    none (y ∷ ys) = tt
up_to_take k (suc i) d (x ∷ xs) r h l = (omega (arith, from_at x.seq i d xs r.0 (omega arith), l), up_to_take k i d xs r.1 (omega arith) l)

pub up_to_before : (k i : ℕ) (d : Entry) (xs : List Entry) → IsRising xs → 0 < i → i ≤ length xs → (get_or xs (i - 1) d).seq ≤ k → AreUpTo k (take i xs)
up_to_before k i d xs r some h l =
    let up : suc (i - 1) ≡ i = omega arith in
    subst (λ n. AreUpTo k (take n xs)) up (up_to_take k (i - 1) d xs r (omega arith) l)

pub up_to_past : (k i : ℕ) (d : Entry) (xs : List Entry) → IsRising xs → i < length xs → (get_or xs i d).seq ≤ k → AreUpTo k (take (i + 1) xs)
up_to_past k i d xs r h l =
    let up : suc i ≡ i + 1 = omega arith in
    subst (λ n. AreUpTo k (take n xs)) up (up_to_take k i d xs r h l)

pub from_none : (k : ℕ) (xs : List Entry) → AreFrom k (drop (length xs) xs)
from_none k xs = subst (AreFrom k) (sym (drop_all xs (length xs) (omega arith))) tt

pub up_to_none : (k : ℕ) (xs : List Entry) → AreUpTo k (take 0 xs)
up_to_none k [] = tt
up_to_none k (x ∷ xs) = tt

pub up_to_last : (d : Entry) (xs : List Entry) → IsRising xs → length xs ≢ 0 → AreUpTo (get_or xs (length xs - 1) d).seq xs
up_to_last d xs r some =
    let k : ℕ = (get_or xs (length xs - 1) d).seq in
    subst (AreUpTo k) (take_all xs (length xs) (omega arith)) (up_to_before k (length xs) d xs r (omega arith) (omega arith) (omega arith))

from_drop : (k i : ℕ) (d : Entry) (xs : List Entry) → IsRising xs → i < length xs → k ≤ (get_or xs i d).seq → AreFrom k (drop i xs)
from_drop k i d [] r h l = absurd (omega arith)
from_drop k zero d (x ∷ xs) r h l = (l, from_weaker k x.seq xs l r.0)
from_drop k (suc i) d (x ∷ xs) r h l = from_drop k i d xs r.1 (omega arith) l

pub from_past : (k i : ℕ) (d : Entry) (xs : List Entry) → IsRising xs → i < length xs → k < (get_or xs i d).seq → AreFrom k (drop i xs)
from_past k i d xs r h l = from_drop k i d xs r h (omega arith)

-- among rising entries the i-th is up to the floor exactly where more than i are
none_old : (k n : ℕ) (xs : List Entry) → k < n → AreFrom n xs → old_count k xs ≡ 0
none_old k n [] h a = refl
none_old k n (x ∷ xs) h a =
    let young : nat_le x.seq k ≡ false = grind (arith, nat_tests, h, a.0) in
    ap (λ b. one_more_if b (old_count k xs)) young ∙ none_old k n xs h a.1

pub old_at : (k i : ℕ) (d : Entry) (xs : List Entry) → IsRising xs → i < length xs → nat_le (get_or xs i d).seq k ≡ nat_lt i (old_count k xs)
old_at k i d [] r h = absurd (omega arith)
old_at k i d (x ∷ xs) r h = by_head (λ j in_rest. old_at k j d xs r.1 in_rest) (nat_le x.seq k) refl
  where
    later : ((j : ℕ) → j < length xs → nat_le (get_or xs j d).seq k ≡ nat_lt j (old_count k xs)) → (b : Bool) (i : ℕ) → nat_le x.seq k ≡ b → i < suc (length xs)
        → nat_le (get_or (x ∷ xs) i d).seq k ≡ nat_lt i (one_more_if b (old_count k xs))
    later rest true zero e h = let some : nat_lt 0 (suc (old_count k xs)) ≡ true = grind (arith, nat_tests) in e ∙ sym some
    later rest true (suc i) e h =
        let here : nat_le (get_or xs i d).seq k ≡ nat_lt i (old_count k xs) = rest i (omega arith) in
        let up : nat_lt (suc i) (suc (old_count k xs)) ≡ nat_lt i (old_count k xs) = grind (arith, nat_tests) in
        here ∙ sym up
    later rest false i e h =
        let young : k < x.seq = grind (arith, nat_tests, e) in
        let none : old_count k xs ≡ 0 = none_old k x.seq xs young r.0 in
        let above : x.seq ≤ (get_or (x ∷ xs) i d).seq = from_at x.seq i d (x ∷ xs) (omega arith, r.0) h in
        grind (arith, nat_tests, none, above, young)

    by_head : ((j : ℕ) → j < length xs → nat_le (get_or xs j d).seq k ≡ nat_lt j (old_count k xs)) → (b : Bool) → nat_le x.seq k ≡ b
        → nat_le (get_or (x ∷ xs) i d).seq k ≡ nat_lt i (one_more_if (nat_le x.seq k) (old_count k xs))
    by_head rest b e = later rest b i e h ∙ ap (λ c. nat_lt i (one_more_if c (old_count k xs))) (sym e)

-- nobody who has seen the number k counts entries up to it
pub unseen_none : (r c : ℕ) (xs : List Entry) → AreUpTo r xs → unseen r c xs ≡ 0
unseen_none r c [] a = refl
unseen_none r c (x ∷ xs) a =
    let seen : nat_le x.seq r ≡ true = grind (arith, nat_tests, a.0) in
    omega (arith, ap (λ b. amount (not b && is_for c x) x.by) seen, unseen_none r c xs a.1)

pub unseen-append : (r c : ℕ) (xs ys : List Entry) → unseen r c (xs ++ ys) ≡ unseen r c xs + unseen r c ys
unseen-append r c [] ys = omega arith
unseen-append r c (x ∷ xs) ys = omega (arith, unseen-append r c xs ys)

pub unseen-cut : (r c i : ℕ) (xs : List Entry) → unseen r c xs ≡ unseen r c (take i xs) + unseen r c (drop i xs)
unseen-cut r c zero [] = refl
unseen-cut r c (suc i) [] = refl
unseen-cut r c zero (x ∷ xs) = omega arith
unseen-cut r c (suc i) (x ∷ xs) = omega (arith, unseen-cut r c i xs)

-- one more of the entries from the end back
pub unseen-back : (r c i : ℕ) (d : Entry) (xs : List Entry) → i < length xs → unseen r c (drop i xs) ≡ share r c (get_or xs i d) + unseen r c (drop (suc i) xs)
unseen-back r c i d xs h = ap (unseen r c) (drop-cons xs i d h)

pub from_back : (k i : ℕ) (d : Entry) (xs : List Entry) → i < length xs → k ≤ (get_or xs i d).seq → AreFrom k (drop (suc i) xs) → AreFrom k (drop i xs)
from_back k i d xs h l a = subst (AreFrom k) (sym (drop-cons xs i d h)) (l, a)

-- rising lists in parts
pub rising-take : (i : ℕ) (xs : List Entry) → IsRising xs → IsRising (take i xs)
rising-take zero [] r = tt
rising-take (suc i) [] r = tt
rising-take zero (x ∷ xs) r = tt
rising-take (suc i) (x ∷ xs) r = (from_take x.seq i xs r.0, rising-take i xs r.1)
  where
    from_take : (k i : ℕ) (ys : List Entry) → AreFrom k ys → AreFrom k (take i ys)
    from_take k zero [] a = tt
    from_take k (suc i) [] a = tt
    from_take k zero (y ∷ ys) a = tt
    from_take k (suc i) (y ∷ ys) a = (a.0, from_take k i ys a.1)

pub rising-drop : (i : ℕ) (xs : List Entry) → IsRising xs → IsRising (drop i xs)
rising-drop zero [] r = tt
rising-drop (suc i) [] r = tt
rising-drop zero (x ∷ xs) r = r
rising-drop (suc i) (x ∷ xs) r = rising-drop i xs r.1

pub from-append : (k : ℕ) (xs ys : List Entry) → AreFrom k xs → AreFrom k ys → AreFrom k (xs ++ ys)
from-append k [] ys a b = b
from-append k (x ∷ xs) ys a b = (a.0, from-append k xs ys a.1 b)

pub rising-append : (k : ℕ) (xs ys : List Entry) → IsRising xs → IsRising ys → AreUpTo k xs → AreFrom k ys → IsRising (xs ++ ys)
rising-append k [] ys r s a b = s
rising-append k (x ∷ xs) ys r s a b = (from-append x.seq xs ys r.0 (from_weaker x.seq k ys a.0 b), rising-append k xs ys r.1 s a.1 b)

-- an entry is put in
pub adds_put : (old new : List Entry) (i : ℕ) (x : Entry) → IsRising old → IsPlace old x.seq i → new ≡ insert old i x → AddsEntry old new x
adds_put old new i x rising place e =
    subst (λ ys. AddsEntry old ys x) (sym e) record {
      rising = rising-append x.seq (take i old) (x ∷ drop i old) (rising-take i old rising) (place.above, rising-drop i old rising) place.below
          (omega arith, place.above);
      sums = λ r c. omega (arith, unseen-append r c (take i old) (x ∷ drop i old), unseen-cut r c i old);
    }

-- an entry is changed where it stands
same_from : (k j : ℕ) (d y : Entry) (xs : List Entry) → y.seq ≡ (get_or xs j d).seq → AreFrom k xs → AreFrom k (set xs j y)
same_from k j d y [] e a = tt
same_from k zero d y (x ∷ xs) e a = (omega (arith, e, a.0), a.1)
same_from k (suc j) d y (x ∷ xs) e a = (a.0, same_from k j d y xs e a.1)

rising-set : (j : ℕ) (d y : Entry) (xs : List Entry) → y.seq ≡ (get_or xs j d).seq → IsRising xs → IsRising (set xs j y)
rising-set j d y [] e r = tt
rising-set zero d y (x ∷ xs) e r = (from_weaker y.seq x.seq xs (omega (arith, e)) r.0, r.1)
rising-set (suc j) d y (x ∷ xs) e r = (same_from x.seq j d y xs e r.0, rising-set j d y xs e r.1)

unseen-set : (r c j : ℕ) (d y : Entry) (xs : List Entry) → j < length xs → unseen r c (set xs j y) + share r c (get_or xs j d) ≡ unseen r c xs + share r c y
unseen-set r c j d y [] h = absurd (omega arith)
unseen-set r c zero d y (x ∷ xs) h = omega arith
unseen-set r c (suc j) d y (x ∷ xs) h = omega (arith, unseen-set r c j d y xs (omega arith))

share_case : (b : Bool) (m n s : ℕ) → s ≡ (m + n) % 2 ^ 64 → amount b s % 2 ^ 64 ≡ (amount b m + amount b n) % 2 ^ 64
share_case true m n s e = omega arith
share_case false m n s e = refl

same_counts : (r c : ℕ) (x y z : Entry) → y.seq ≡ x.seq → y.conn ≡ x.conn → y.own ≡ x.own → counts r c y ≡ counts r c x
same_counts r c x y z es ec eo =
    ap (λ k. not (nat_le k r) && cond y.own (nat_eq y.conn c) (not (nat_eq y.conn c))) es
    ∙ ap (λ k. not (nat_le x.seq r) && cond y.own (nat_eq k c) (not (nat_eq k c))) ec
    ∙ ap (λ b. not (nat_le x.seq r) && cond b (nat_eq x.conn c) (not (nat_eq x.conn c))) eo

pub adds_at : (old new : List Entry) (j : ℕ) (x z : Entry) (by : ℕ) → IsRising old → j < length old → IsAlikeAt old j x → z ≡ get_or old j z
    → by ≡ (z.by + x.by) % 2 ^ 64 → new ≡ set old j (record z { by = by }) → AddsEntry old new x
adds_at old new j x z by rising inside alike is sum e =
    let y : Entry = record z { by = by } in
    let same = alike z in
    let seq : z.seq ≡ x.seq = ap (λ w. w.seq) is ∙ same.0 in
    let conn : z.conn ≡ x.conn = ap (λ w. w.conn) is ∙ same.1 in
    let own : z.own ≡ x.own = ap (λ w. w.own) is ∙ same.2 in
    subst (λ ys. AddsEntry old ys x) (sym e) record {
      rising = rising-set j z y old (ap (λ w. w.seq) is) rising;
      sums = λ r c.
          let here : share r c (get_or old j z) ≡ share r c z = ap (share r c) (sym is) in
          let one : share r c x ≡ amount (counts r c z) x.by = ap (λ b. amount b x.by) (sym (same_counts r c x z z seq conn own)) in
          omega (arith, unseen-set r c j z y old inside, here, one, share_case (counts r c z) z.by x.by by sum);
    }

share_none : (b : Bool) (n : ℕ) → n ≡ 0 → amount b n ≡ 0
share_none true n h = h
share_none false n h = refl

pub adds_none : (old : List Entry) (x : Entry) → IsRising old → x.by ≡ 0 → AddsEntry old old x
adds_none old x rising e = record { rising = rising; sums = λ r c. omega (arith, share_none (counts r c x) x.by e) }

-- entries one after another
pub added_none : (old more : List Entry) → IsRising old → AddsEntries old old (take 0 more)
added_none old [] rising = record { rising = rising; numbers = tt; sums = λ r c. omega arith }
added_none old (x ∷ xs) rising = record { rising = rising; numbers = tt; sums = λ r c. omega arith }

unseen-take : (r c i : ℕ) (d : Entry) (xs : List Entry) → i < length xs → unseen r c (take (i + 1) xs) ≡ unseen r c (take i xs) + share r c (get_or xs i d)
unseen-take r c i d xs h =
    let up : i + 1 ≡ suc i = omega arith in
    ap (λ n. unseen r c (take n xs)) up ∙ go i xs h
  where
    go : (i : ℕ) (ys : List Entry) → i < length ys → unseen r c (take (suc i) ys) ≡ unseen r c (take i ys) + share r c (get_or ys i d)
    go i [] l = absurd (omega arith)
    go zero (y ∷ ys) l = omega (arith, nothing ys)
      where
        nothing : (zs : List Entry) → unseen r c (take 0 zs) ≡ 0
        nothing [] = refl
        nothing (z ∷ zs) = refl
    go (suc i) (y ∷ ys) l = omega (arith, go i ys (omega arith))

up_to_next : (k i : ℕ) (d : Entry) (xs : List Entry) → i < length xs → AreUpTo k (take i xs) → (get_or xs i d).seq ≤ k → AreUpTo k (take (suc i) xs)
up_to_next k i d [] h a l = tt
up_to_next k zero d (x ∷ xs) h a l = (l, up_to_none k xs)
up_to_next k (suc i) d (x ∷ xs) h a l = (a.0, up_to_next k i d xs (omega arith) a.1 l)

pub added_more : (old now new more : List Entry) (i : ℕ) (d : Entry) → i < length more → (get_or more i d).seq ≤ last_number
    → AddsEntries old now (take i more) → AddsEntry now new (get_or more i d) → AddsEntries old new (take (i + 1) more)
added_more old now new more i d h fits before one = record {
  rising = one.rising;
  numbers =
      let up : suc i ≡ i + 1 = omega arith in
      subst (λ n. AreUpTo last_number (take n more)) up (up_to_next last_number i d more h before.numbers fits);
  sums = λ r c. omega (arith, before.sums r c, one.sums r c, unseen-take r c i d more h);
}

-- entries up to the floor, and those of nothing, are dropped
abbrev pub is_above : ℕ → Entry → Bool
is_above floor x = not (nat_le x.seq floor) && not (nat_eq x.by 0)

abbrev pub above : ℕ → List Entry → List Entry
above floor xs = filter (is_above floor) xs

from_case : (k floor : ℕ) (x : Entry) (xs : List Entry) (b : Bool) → k ≤ x.seq → AreFrom k xs → AreFrom k (cond b (x ∷ xs) xs)
from_case k floor x xs true h a = (h, a)
from_case k floor x xs false h a = a

from_above : (k floor : ℕ) (xs : List Entry) → AreFrom k xs → AreFrom k (above floor xs)
from_above k floor [] a = tt
from_above k floor (x ∷ xs) a = from_case k floor x (above floor xs) (is_above floor x) a.0 (from_above k floor xs a.1)

up_to_case : (k : ℕ) (x : Entry) (xs : List Entry) (b : Bool) → x.seq ≤ k → AreUpTo k xs → AreUpTo k (cond b (x ∷ xs) xs)
up_to_case k x xs true h a = (h, a)
up_to_case k x xs false h a = a

up_to_above : (k floor : ℕ) (xs : List Entry) → AreUpTo k xs → AreUpTo k (above floor xs)
up_to_above k floor [] a = tt
up_to_above k floor (x ∷ xs) a = up_to_case k x (above floor xs) (is_above floor x) a.0 (up_to_above k floor xs a.1)

rising_case : (x : Entry) (xs : List Entry) (b : Bool) → AreFrom x.seq xs → IsRising xs → IsRising (cond b (x ∷ xs) xs)
rising_case x xs true a r = (a, r)
rising_case x xs false a r = r

rising-above : (floor : ℕ) (xs : List Entry) → IsRising xs → IsRising (above floor xs)
rising-above floor [] r = tt
rising-above floor (x ∷ xs) r = rising_case x (above floor xs) (is_above floor x) (from_above x.seq floor xs r.0) (rising-above floor xs r.1)

nothing_counted : (b : Bool) (n : ℕ) → nat_eq n 0 ≡ true → amount b n ≡ 0
nothing_counted true n e = grind (arith, nat_tests)
nothing_counted false n e = refl

unseen_case : (r c floor : ℕ) (x : Entry) (xs : List Entry) (a b : Bool) → floor ≤ r → nat_le x.seq floor ≡ a → nat_eq x.by 0 ≡ b
    → unseen r c (cond (not a && not b) (x ∷ xs) xs) ≡ share r c x + unseen r c xs
unseen_case r c floor x xs true b h ea eb =
    let seen : nat_le x.seq r ≡ true = grind (arith, nat_tests) in
    omega (arith, ap (λ b. amount (not b && is_for c x) x.by) seen)
unseen_case r c floor x xs false true h ea eb = omega (arith, nothing_counted (counts r c x) x.by eb)
unseen_case r c floor x xs false false h ea eb = refl

unseen-above : (r c floor : ℕ) (xs : List Entry) → floor ≤ r → unseen r c (above floor xs) ≡ unseen r c xs
unseen-above r c floor [] h = refl
unseen-above r c floor (x ∷ xs) h =
    unseen_case r c floor x (above floor xs) (nat_le x.seq floor) (nat_eq x.by 0) h refl refl ∙ ap (λ n. share r c x + n) (unseen-above r c floor xs h)

pub drops_old : (old new : List Entry) (floor : ℕ) → IsRising old → new ≡ above floor old → DropsOld old new floor
drops_old old new floor rising e =
    subst (λ ys. DropsOld old ys floor) (sym e) record {
      rising = rising-above floor old rising;
      up_to = λ k a. up_to_above k floor old a;
      sums = λ r c h. unseen-above r c floor old h;
    }

-- a list without entries
pub unseen_clear : (r c : ℕ) (xs : List Entry) → xs ≡ [] → unseen r c xs ≡ 0
unseen_clear r c xs e = ap (unseen r c) e

-- entries are put in, and those of nothing taken out
pub adds_tidied : (old room now new more : List Entry) → room ≡ old → AddsEntries room now more → DropsOld now new 0 → AddsEntries old new more
adds_tidied old room now new more same adds drops =
    record {
      rising = drops.rising;
      numbers = adds.numbers;
      sums = λ r c. omega (arith, ap (unseen r c) same, adds.sums r c, drops.sums r c (omega arith));
    }

-- an entry of nothing is no entry
pub drops_single : (x : Entry) → x.by ≡ 0 → DropsOld (x ∷ []) [] 0
drops_single x e = record { rising = tt; up_to = λ k h. tt; sums = λ r c h. omega (arith, share_none (counts r c x) x.by e) }

pub drops_none : (xs : List Entry) (floor : ℕ) → IsRising xs → DropsOld xs xs floor
drops_none xs floor rising = record { rising = rising; up_to = λ k h. h; sums = λ r c h. refl }

-- the list of its one entry
pub single_is : (xs : List Entry) (d : Entry) → 1 ≤ length xs → length xs < 2 → get_or xs 0 d ∷ [] ≡ xs
single_is [] d some one = absurd (omega arith)
single_is (x ∷ []) d some one = refl
single_is (x ∷ y ∷ xs) d some one = absurd (omega arith)

-- an entry where there was none, and where there was one that is for the same
pub added_first : (old : List Entry) (x : Entry) → length old < 1 → x.seq ≤ last_number → AddsEntries old (x ∷ []) (x ∷ [])
added_first [] x none fits = record { rising = (tt, tt); numbers = (fits, tt); sums = λ r c. omega arith }
added_first (y ∷ old) x none fits = absurd (omega arith)

pub added_alike : (x y z : Entry) → y.seq ≤ last_number → x.seq ≡ y.seq → x.conn ≡ y.conn → x.own ≡ y.own → z ≡ record x { by = (x.by + y.by) % 2 ^ 64 }
    → AddsEntries (x ∷ []) (z ∷ []) (y ∷ [])
added_alike x y z fits seq conn own e =
    let one : (r c : ℕ) → share r c y ≡ amount (counts r c x) y.by = λ r c. ap (λ b. amount b y.by) (sym (same_counts r c y x x seq conn own)) in
    subst (λ (w : Entry). AddsEntries (x ∷ []) (w ∷ []) (y ∷ [])) (sym e) record {
      rising = (tt, tt);
      numbers = (fits, tt);
      sums = λ r c. omega (arith, one r c, share_case (counts r c x) x.by y.by ((x.by + y.by) % 2 ^ 64) refl);
    }

pub added_nothing : (old entries more : List Entry) → IsRising old → old ≡ entries → length more ≡ 0 → AddsEntries entries entries more
added_nothing old entries [] rising same none = record { rising = subst IsRising same rising; numbers = tt; sums = λ r c. omega arith }
added_nothing old entries (x ∷ more) rising same none = absurd (omega arith)

-- one entry
pub added_one : (old new : List Entry) (x : Entry) → x.seq ≤ last_number → AddsEntry old new x → AddsEntries old new (x ∷ [])
added_one old new x fits adds = record { rising = adds.rising; numbers = (fits, tt); sums = λ r c. omega (arith, adds.sums r c) }

-- an entry at the end
added_last : (old : List Entry) (k : ℕ) (x : Entry) → IsRising old → AreUpTo k old → k ≤ x.seq → x.seq ≤ last_number → AddsEntries old (old ++ x ∷ []) (x ∷ [])
added_last old k x rising up low fits = record {
  rising = rising-append k old (x ∷ []) rising (tt, tt) up (low, tt);
  numbers = (fits, tt);
  sums = λ r c. omega (arith, unseen-append r c old (x ∷ []));
}

pub added_newer : (old new : List Entry) (n : ℕ) (x z : Entry) → IsRising old → n ≡ length old → 0 < n → z ≡ get_or old (n - 1) z → z.seq ≤ x.seq → x.seq ≤ last_number
    → new ≡ old ++ x ∷ [] → AddsEntries old new (x ∷ [])
added_newer old new n x z rising many some is low fits e =
    let last : z.seq ≡ (get_or old (length old - 1) z).seq = ap (λ w. w.seq) is ∙ ap (λ (k : ℕ). (get_or old (k - 1) z).seq) many in
    subst (λ ys. AddsEntries old ys (x ∷ [])) (sym e)
    (added_last old (get_or old (length old - 1) z).seq x rising (up_to_last z old rising (omega arith)) (omega arith) fits)

pub added_to_none : (old new : List Entry) (x : Entry) → length old ≡ 0 → x.seq ≤ last_number → new ≡ old ++ x ∷ [] → AddsEntries old new (x ∷ [])
added_to_none old new x none fits e = subst (λ ys. AddsEntries old ys (x ∷ [])) (sym e) (added_last old 0 x (no_rising old none) (no_up_to old none) (omega arith) fits)
  where
    no_rising : (xs : List Entry) → length xs ≡ 0 → IsRising xs
    no_rising [] h = tt
    no_rising (y ∷ xs) h = absurd (omega arith)

    no_up_to : (xs : List Entry) → length xs ≡ 0 → AreUpTo 0 xs
    no_up_to [] h = tt
    no_up_to (y ∷ xs) h = absurd (omega arith)

-- two entries
pub added_pair : (x y : Entry) (both : List Entry) → x.seq ≤ y.seq → y.seq ≤ last_number → both ≡ x ∷ y ∷ [] → AddsEntries (x ∷ []) both (y ∷ [])
added_pair x y both low fits is =
    subst (λ ys. AddsEntries (x ∷ []) ys (y ∷ [])) (sym is) record { rising = ((low, tt), (tt, tt)); numbers = (fits, tt); sums = λ r c. omega arith }

pub added_before : (x y : Entry) (both : List Entry) → y.seq ≤ x.seq → y.seq ≤ last_number → both ≡ y ∷ x ∷ [] → AddsEntries (x ∷ []) both (y ∷ [])
added_before x y both low fits is =
    subst (λ ys. AddsEntries (x ∷ []) ys (y ∷ [])) (sym is) record { rising = ((low, tt), (tt, tt)); numbers = (fits, tt); sums = λ r c. omega arith }
