-- The stamps of elements that messages make: their numbers and connections are in range, and removals stand by rising number,
-- no two by one connection.
use Rattle.std.proofs.Common.{◌≡◌, ℕ, suc, ◌+◌, ◌≤◌, ◌<◌, Bool, true, false, not, ◌&&◌, ◌||◌, nat_eq, nat_le, nat_lt, List, [], ◌∷◌, ◌++◌, map, Option, refl, arith}
use Rattle.std.specs.List.{list_all, list_any}
use Rattle.std.proofs.lemmas.Bool.Decides.{nat_tests}
use Rattle.ft_base.proofs.Booleans.{all_three, both}
use Rattle.ft_base.specs.declared.stamps.Stamp.{Stamp}
use Rattle.ft_base.specs.declared.stamps.Stamp.TheVariants.{Acked, Local}
use Rattle.ft_base.specs.Visibility.{has_occurred, is_acked}
use Rattle.ft_props.specs.Properties.{PropertyList}
use Rattle.ft_props.specs.Element.{ElementContent, ListElement, new_elements, removal_stamp, seen_by, with_removal}
use Rattle.ft_sumdoc.specs.Stamps.{is_universal, removals_rise}
use Rattle.ft_marks.specs.Marks.{mark_of}
use Rattle.ft_laws_agreement.specs.Sequencing.{Each}
use Rattle.ft_laws_agreement.proofs.Booleans.{hidden}
use Rattle.ft_laws_agreement.proofs.HeldNames.{all-append}
use Rattle.ft_laws_agreement.proofs.OwnNames.{all-weaker}

-- whether the stamp is sequenced: with a number below s, or s by connection c, from 1 on, and a connection from 1 to n
abbrev pub is_dated : ℕ → ℕ → ℕ → Stamp → Bool
is_dated s c n (Acked t d) = (nat_lt t s || (nat_eq t s && nat_eq d c)) && nat_lt 0 t && nat_lt 0 d && nat_le d n
is_dated s c n (Local k) = false

-- whether the insertion is, or the universal one
abbrev pub is_dated_insertion : ℕ → ℕ → ℕ → Stamp → Bool
is_dated_insertion s c n t = is_universal (mark_of t) && is_acked t || is_dated s c n t

-- each stamp of the element is, its removals rise from its insertion on, and no connection removed it twice
pub record IsDated (s c n : ℕ) (e : ListElement) : Type 0 where
  pub ins : is_dated_insertion s c n e.ins ≡ true
  pub dels : list_all (is_dated s c n) e.dels ≡ true
  pub rising : removals_rise (mark_of e.ins).seq (map mark_of e.dels) ≡ true

-- the numbers of a message: it and its connection count from 1, and the connection is one of n
pub record IsDate (s c n : ℕ) : Type 0 where
  pub seq : 0 < s
  pub conn : 0 < c
  pub known : c ≤ n

pub date-dated : (s c n : ℕ) → IsDate s c n → is_dated s c n (Acked s c) ≡ true
date-dated s c n h =
    let a = h.seq in
    let b = h.conn in
    let k = h.known in
    grind (arith, nat_tests)

either : (a : Bool) {b : Bool} → b ≡ true → a || b ≡ true
either true h = refl
either false h = h

pub new-dated : (s c n m : ℕ) (by : Option Stamp) (props : PropertyList) (bs : List ElementContent) → IsDate s c n
    → Each (IsDated s c n) (new_elements m (Acked s c) [] by props bs)
new-dated s c n m by props [] h = tt
new-dated s c n m by props (b ∷ bs) h = (record { ins = either _ (date-dated s c n h); dels = refl; rising = refl }, new-dated s c n (m + 1) by props bs h)

-- ---- a removal more

any-front : (test : Stamp → Bool) (ts us : List Stamp) → list_any test (ts ++ us) ≡ false → list_any test ts ≡ false
any-front test [] us h = refl
any-front test (t ∷ ts) us h = by (test t) h (λ g. any-front test ts us g)
  where
    by : (b : Bool) → b || list_any test (ts ++ us) ≡ false → (list_any test (ts ++ us) ≡ false → list_any test ts ≡ false) → b || list_any test ts ≡ false
    by true g ih = (cc)
    by false g ih = ih g

-- a stamp of an element that the sender sees is of another connection and an earlier message
earlier : (s c n r t d : ℕ) → is_dated s c n (Acked t d) ≡ true → nat_le t r || nat_eq d c ≡ false → (t < s) × (nat_eq d c ≡ false)
earlier s c n r t d h g = (grind (arith, nat_tests), grind (arith, nat_tests))

up-to : (s c n : ℕ) (t : Stamp) → is_dated_insertion s c n t ≡ true → (mark_of t).seq ≤ s
up-to s c n (Acked t d) h = grind (arith, nat_tests)
up-to s c n (Local k) h = (cc)

-- no removal by this connection
others-more : (d s c : ℕ) (ts : List Stamp) → nat_eq d c ≡ false → not (list_any (λ m. nat_eq d m.conn) (map mark_of ts)) ≡ true
    → not (list_any (λ m. nat_eq d m.conn) (map mark_of (ts ++ (Acked s c ∷ [])))) ≡ true
others-more d s c [] e h = rw e refl
others-more d s c (t ∷ ts) e h = by (nat_eq d (mark_of t).conn) h (λ g. others-more d s c ts e g)
  where
    by : (b : Bool) → not (b || list_any (λ m. nat_eq d m.conn) (map mark_of ts)) ≡ true
        → (not (list_any (λ m. nat_eq d m.conn) (map mark_of ts)) ≡ true → not (list_any (λ m. nat_eq d m.conn) (map mark_of (ts ++ (Acked s c ∷ [])))) ≡ true)
        → not (b || list_any (λ m. nat_eq d m.conn) (map mark_of (ts ++ (Acked s c ∷ [])))) ≡ true
    by true g ih = (cc)
    by false g ih = ih g

rises-more : (s c n r low : ℕ) (ts : List Stamp) → list_all (is_dated s c n) ts ≡ true → list_any (has_occurred r c) ts ≡ false → low ≤ s
    → removals_rise low (map mark_of ts) ≡ true → removals_rise low (map mark_of (ts ++ (Acked s c ∷ []))) ≡ true
rises-more s c n r low [] h g l k = one low s l
  where
    one : (i j : ℕ) → i ≤ j → nat_le i j && true && true ≡ true
    one i j f = grind (arith, nat_tests)
rises-more s c n r low (Local j ∷ ts) h g l k = (cc)
rises-more s c n r low (Acked t d ∷ ts) h g l k =
    let p = both (is_dated s c n (Acked t d)) (list_all (is_dated s c n) ts) h in
    let q = neither (nat_le t r || nat_eq d c) (list_any (has_occurred r c) ts) g in
    let e = earlier s c n r t d p.0 q.0 in
    let f = all_three (nat_le low t) (not (list_any (λ m. nat_eq d m.conn) (map mark_of ts))) (removals_rise (suc t) (map mark_of ts)) k in
    let before = e.0 in
    rw (f.0, others-more d s c ts e.1 f.1, rises-more s c n r (suc t) ts p.1 q.1 (omega (arith, before)) f.2) refl
  where
    neither : (a b : Bool) → a || b ≡ false → (a ≡ false) × (b ≡ false)
    neither true b e = (cc)
    neither false b e = (refl, e)

-- an element that the sender sees gets its removal
pub removal-dated : (s c n r : ℕ) (e : ListElement) → IsDate s c n → IsDated s c n e → seen_by r c e ≡ true → IsDated s c n (with_removal s c e)
removal-dated s c n r e d h g =
    let p = both (has_occurred r c e.ins) (not (list_any (has_occurred r c) (e.dels ++ removal_stamp e.removal_stage))) g in
    let none = any-front (has_occurred r c) e.dels (removal_stamp e.removal_stage)
    (hidden (list_any (has_occurred r c) (e.dels ++ removal_stamp e.removal_stage)) p.1) in
    record {
      ins = h.ins;
      dels = all-append (is_dated s c n) e.dels (Acked s c ∷ []) h.dels (rw (date-dated s c n d) refl);
      rising = rises-more s c n r (mark_of e.ins).seq e.dels h.dels none (up-to s c n e.ins h.ins) h.rising;
    }

-- ---- from message to message

-- an insertion of a wider range
pub insertion-weaker : (s c t d n : ℕ) → ((u : Stamp) → is_dated s c n u ≡ true → is_dated t d n u ≡ true) → (u : Stamp) → is_dated_insertion s c n u ≡ true
    → is_dated_insertion t d n u ≡ true
insertion-weaker s c t d n f u h = by (is_universal (mark_of u) && is_acked u) h
  where
    by : (a : Bool) → a || is_dated s c n u ≡ true → a || is_dated t d n u ≡ true
    by true g = refl
    by false g = f u g

pub dated-weaker : (s c t d n : ℕ) → ((u : Stamp) → is_dated s c n u ≡ true → is_dated t d n u ≡ true) → (e : ListElement) → IsDated s c n e → IsDated t d n e
dated-weaker s c t d n f e h = record { ins = insertion-weaker s c t d n f e.ins h.ins; dels = all-weaker (is_dated s c n) (is_dated t d n) f e.dels h.dels; rising = h.rising }

-- before a message
pub stamp-begins : (s c n : ℕ) (u : Stamp) → is_dated s 0 n u ≡ true → is_dated s c n u ≡ true
stamp-begins s c n (Acked i j) g = grind (arith, nat_tests)
stamp-begins s c n (Local k) g = (cc)

-- and behind it
pub stamp-ends : (s c n : ℕ) (u : Stamp) → is_dated s c n u ≡ true → is_dated (s + 1) 0 n u ≡ true
stamp-ends s c n (Acked i j) g = grind (arith, nat_tests)
stamp-ends s c n (Local k) g = (cc)
