-- A perspective from the floor up sees the same of a compacted list, and insertions keep the relation.
use Rattle.std.proofs.Common.{◌≡◌, ℕ, zero, suc, ◌≤◌, Bool, true, false, cond, not, ◌&&◌, ◌||◌, List, [], ◌∷◌, ◌++◌, Option, refl, sym, ◌∙◌, ap, subst, arith, append-nil, nat_le, nat_eq}
use Rattle.std.specs.List.{list_any}
use Rattle.std.proofs.lemmas.Bool.Decides.{nat_tests}
use Rattle.ft_base.specs.declared.stamps.Stamp.{Stamp}
use Rattle.ft_base.specs.declared.stamps.Stamp.TheVariants.{Acked, Local}
use Rattle.ft_base.specs.Scan.{one_more_if, len, put_past, put, retain_map}
use Rattle.ft_props.specs.Compaction.{trim_element}
use Rattle.ft_base.proofs.Booleans.{both}
use Rattle.ft_base.specs.Visibility.{has_occurred, is_acked}
use Rattle.ft_props.specs.Element.{ListElement, ElementId, id, id_of_stamp, seen_by, is_pending, removal_stamp}
use Rattle.ft_props.specs.Compaction.{Keeps, none, same, universal, collected, is_collectable, has_collectable_removal, is_insertion_at_or_below, with_universal_insertion, is_before_pending}

module _ (floor r c : ℕ) (above : floor ≤ r) where
  -- what is at or below the floor is known
  known : (s d : ℕ) → nat_le s floor ≡ true → nat_le s r || nat_eq d c ≡ true
  known s d h = grind (arith, nat_tests)

  removal_stage-unseen : (dels : List Stamp) (mark : Option ℕ) → has_collectable_removal floor dels ≡ true
      → list_any (has_occurred r c) (dels ++ removal_stamp mark) ≡ true
  removal_stage-unseen [] mark h = (cc)
  removal_stage-unseen (Acked s d ∷ dels) mark h = ap (λ b. b || list_any (has_occurred r c) (dels ++ removal_stamp mark)) (known s d h)
  removal_stage-unseen (Local k ∷ dels) mark h = (cc)

  zero-settled : nat_le 0 floor ≡ true
  zero-settled = grind (arith, nat_tests)

  settled-known : (t : Stamp) → is_insertion_at_or_below floor t ≡ true → has_occurred r c t ≡ true
  settled-known (Acked s d) h = known s d h
  settled-known (Local k) h = (cc)

  -- an element that is gone isn't seen, and a folded one is seen as before
  pub collected-unseen : (e : ListElement) → is_collectable floor e ≡ true → seen_by r c e ≡ false
  collected-unseen e h = rw (removal_stage-unseen e.dels e.removal_stage (both (is_acked e.ins) (has_collectable_removal floor e.dels) h).1) (unseen (has_occurred r c e.ins))
    where
      unseen : (b : Bool) → b && false ≡ false
      unseen true = refl
      unseen false = refl

  pub with_universal_insertion-seen : (e : ListElement) → is_insertion_at_or_below floor e.ins ≡ true → seen_by r c (with_universal_insertion e) ≡ seen_by r c e
  with_universal_insertion-seen e h = ap (λ b. b && not (list_any (has_occurred r c) (e.dels ++ removal_stamp e.removal_stage)))
      (known 0 0 zero-settled ∙ sym (settled-known e.ins h))

  pub len-keeps : {held : ElementId → Bool} {ks xs : List ListElement} → Keeps floor held ks xs → len (seen_by r c) ks ≡ len (seen_by r c) xs
  len-keeps none = refl
  len-keeps (same {e = e} k) = ap (one_more_if (seen_by r c e)) (len-keeps k)
  len-keeps (universal {e = e} h k) = rw (with_universal_insertion-seen e h) (ap (one_more_if (seen_by r c e)) (len-keeps k))
  len-keeps (collected {e = e} g h n k) = rw (collected-unseen e g) (len-keeps k)

-- the next element is no pending one in a compacted list either
pub follows-keeps : {floor : ℕ} {held : ElementId → Bool} {ks xs : List ListElement} → Keeps floor held ks xs
    → is_before_pending xs ≡ false → is_before_pending ks ≡ false
follows-keeps none h = refl
follows-keeps (same k) h = h
follows-keeps (universal f k) h = refl
follows-keeps (collected g u n k) h = follows-keeps k n

pub keeps-self : (floor : ℕ) (held : ElementId → Bool) (xs : List ListElement) → Keeps floor held xs xs
keeps-self floor held [] = none
keeps-self floor held (x ∷ xs) = same (keeps-self floor held xs)

pub keeps-append : {floor : ℕ} {held : ElementId → Bool} {ks xs : List ListElement} (new : List ListElement) → Keeps floor held ks xs
    → Keeps floor held (new ++ ks) (new ++ xs)
keeps-append [] k = k
keeps-append (e ∷ new) k = same (keeps-append new k)

front : (new xs : List ListElement) → is_before_pending xs ≡ false → put_past is_pending new xs ≡ new ++ xs
front new [] h = sym (append-nil new)
front new (x ∷ xs) h = rw h refl

past-same : {floor : ℕ} {held : ElementId → Bool} (b : Bool) (e : ListElement) {ks xs us vs : List ListElement} → Keeps floor held ks xs
    → Keeps floor held us vs
    → Keeps floor held (cond b (e ∷ ks) us) (cond b (e ∷ xs) vs)
past-same true e p q = same p
past-same false e p q = q

past-collected : {floor : ℕ} {held : ElementId → Bool} (b : Bool) (e : ListElement) {us xs vs : List ListElement}
    → Keeps floor held us (e ∷ xs) → Keeps floor held us vs
    → Keeps floor held us (cond b (e ∷ xs) vs)
past-collected true e p q = p
past-collected false e p q = q

settled-sequenced : (floor : ℕ) (t : Stamp) → is_insertion_at_or_below floor t ≡ true → not (is_acked t) ≡ false
settled-sequenced floor (Acked s c) h = refl
settled-sequenced floor (Local k) h = (cc)

module _ (new : List ListElement) (acked : list_any is_pending new ≡ false) where
  follows-append : (xs : List ListElement) → is_before_pending xs ≡ false → is_before_pending (new ++ xs) ≡ false
  follows-append xs h = heads new acked
    where
      heads : (ys : List ListElement) → list_any is_pending ys ≡ false → is_before_pending (ys ++ xs) ≡ false
      heads [] s = h
      heads (y ∷ ys) s = grind (arith)

  follows-put : (seen : ListElement → Bool) (n : ℕ) (xs : List ListElement) → is_before_pending xs ≡ false
      → is_before_pending (put seen is_pending n new xs) ≡ false
  follows-put seen zero xs h = rw (front new xs h) (follows-append xs h)
  follows-put seen (suc n) [] h = rw (append-nil new) at (follows-append [] refl)
  follows-put seen (suc n) (x ∷ xs) h = h

  pub keeps-past : {floor : ℕ} {held : ElementId → Bool} {ks xs : List ListElement} → Keeps floor held ks xs
      → Keeps floor held (put_past is_pending new ks) (put_past is_pending new xs)
  keeps-past {floor} {held} none = keeps-self floor held new
  keeps-past (same {e = e} k) = past-same (is_pending e) e (keeps-past k) (keeps-append new (same k))
  keeps-past {floor} {held} (universal {e = e} {ks = ks} {xs = xs} f k) =
      subst (λ b. Keeps floor held (new ++ (with_universal_insertion e ∷ ks)) (cond b (e ∷ put_past is_pending new xs) (new ++ (e ∷ xs))))
      (sym (settled-sequenced floor e.ins f)) (keeps-append new (universal f k))
  keeps-past {floor} {held} (collected {e = e} {ks = ks} {xs = xs} g u n k) =
      past-collected (is_pending e) e
      (collected g u (follows-put (λ _. false) zero xs n) (keeps-past k))
      (subst (λ us. Keeps floor held us (new ++ (e ∷ xs))) (sym (front new ks (follows-keeps k n))) (keeps-append new (collected g u n k)))

  module _ (r c : ℕ) where
    -- a message from the floor up keeps the relation where it inserts
    pub keeps-put : {floor : ℕ} {held : ElementId → Bool} {ks xs : List ListElement} → floor ≤ r → (n : ℕ) → Keeps floor held ks xs
        → Keeps floor held (put (seen_by r c) is_pending n new ks) (put (seen_by r c) is_pending n new xs)
    keeps-put above zero k = keeps-past k
    keeps-put {floor} {held} above (suc n) none = keeps-self floor held new
    keeps-put above (suc n) (same {e = e} k) = same (keeps-put above (cond (seen_by r c e) n (suc n)) k)
    keeps-put {floor} {held} above (suc n) (universal {e = e} {ks = ks} {xs = xs} f k) =
        subst (λ b. Keeps floor held (with_universal_insertion e ∷ put (seen_by r c) is_pending (cond b n (suc n)) new ks)
        (e ∷ put (seen_by r c) is_pending (cond (seen_by r c e) n (suc n)) new xs))
        (sym (with_universal_insertion-seen floor r c above e f)) (universal f (keeps-put above (cond (seen_by r c e) n (suc n)) k))
    keeps-put {floor} {held} above (suc n) (collected {e = e} {ks = ks} {xs = xs} g u m k) =
        subst (λ b. Keeps floor held (put (seen_by r c) is_pending (suc n) new ks) (e ∷ put (seen_by r c) is_pending (cond b n (suc n)) new xs))
        (sym (collected-unseen floor r c above e g)) (collected g u (follows-put (seen_by r c) (suc n) xs m) (keeps-put above (suc n) k))

higher : (low high s : ℕ) → low ≤ high → nat_le s low ≡ true → nat_le s high ≡ true
higher low high s l h = grind (arith, nat_tests)

settled-higher : (low high : ℕ) (t : Stamp) → low ≤ high → is_insertion_at_or_below low t ≡ true → is_insertion_at_or_below high t ≡ true
settled-higher low high (Acked s c) l h = higher low high s l h
settled-higher low high (Local k) l h = (cc)

removal_stage-higher : (low high : ℕ) (dels : List Stamp) → low ≤ high → has_collectable_removal low dels ≡ true → has_collectable_removal high dels ≡ true
removal_stage-higher low high [] l h = (cc)
removal_stage-higher low high (Acked s c ∷ dels) l h = higher low high s l h
removal_stage-higher low high (Local k ∷ dels) l h = (cc)

is_collectable-higher : (low high : ℕ) (e : ListElement) → low ≤ high → is_collectable low e ≡ true → is_collectable high e ≡ true
is_collectable-higher low high e l h = let p = both (is_acked e.ins) (has_collectable_removal low e.dels) h in rw (p.0, removal_stage-higher low high e.dels l p.1) refl

-- a higher floor allows more
pub keeps-higher : {low high : ℕ} {held : ElementId → Bool} {ks xs : List ListElement} → low ≤ high → Keeps low held ks xs → Keeps high held ks xs
keeps-higher l none = none
keeps-higher l (same k) = same (keeps-higher l k)
keeps-higher {low} {high} l (universal {e = e} f k) = universal (settled-higher low high e.ins l f) (keeps-higher l k)
keeps-higher {low} {high} l (collected {e = e} g u n k) = collected (is_collectable-higher low high e l g) u n (keeps-higher l k)

-- a pending element that follows in the list follows in what is kept of it
follows-back : {floor : ℕ} {held : ElementId → Bool} {ks xs : List ListElement} → Keeps floor held ks xs → is_before_pending ks ≡ false
    → is_before_pending xs ≡ false
follows-back none h = refl
follows-back (same k) h = h
follows-back {floor} (universal {e = e} f k) h = settled-sequenced floor e.ins f
follows-back {floor} (collected {e = e} g u n k) h = ap not (both (is_acked e.ins) (has_collectable_removal floor e.dels) g).0

with_universal_insertion-removal_stage : (floor : ℕ) (e : ListElement) → is_insertion_at_or_below floor e.ins ≡ true
    → is_collectable floor (with_universal_insertion e) ≡ true → is_collectable floor e ≡ true
with_universal_insertion-removal_stage floor e f g = stamped e.ins f
  where
    stamped : (t : Stamp) → is_insertion_at_or_below floor t ≡ true → is_acked t && has_collectable_removal floor e.dels ≡ true
    stamped (Acked s c) f = g
    stamped (Local k) f = (cc)

with_universal_insertion-id : (floor : ℕ) (held : ElementId → Bool) (e : ListElement) → is_insertion_at_or_below floor e.ins ≡ true
    → held (id (with_universal_insertion e)) ≡ false → held (id e) ≡ false
with_universal_insertion-id floor held e f u = stamped e.ins f
  where
    stamped : (t : Stamp) → is_insertion_at_or_below floor t ≡ true → held (id_of_stamp t e.nth) ≡ false
    stamped (Acked s c) f = u
    stamped (Local k) f = (cc)

-- what is kept of a list that begins with a folded element
data KeepsFolded (floor : ℕ) (held : ElementId → Bool) (e : ListElement) (ms : List ListElement) : List ListElement → Type 0 where
  stays : {ks : List ListElement} → Keeps floor held ks ms → KeepsFolded floor held e ms (with_universal_insertion e ∷ ks)
  goes : {ks : List ListElement} → is_collectable floor (with_universal_insertion e) ≡ true
      → held (id (with_universal_insertion e)) ≡ false → is_before_pending ms ≡ false → Keeps floor held ks ms
      → KeepsFolded floor held e ms ks

keeps_folded : {floor : ℕ} {held : ElementId → Bool} (e d : ListElement) {ks ms : List ListElement} → d ≡ with_universal_insertion e
    → Keeps floor held ks (d ∷ ms) → KeepsFolded floor held e ms ks
keeps_folded {floor} {held} e d {ks} {ms} p (same {ks = js} k) = subst (λ x. KeepsFolded floor held e ms (x ∷ js)) (sym p) (stays k)
keeps_folded {floor} {held} e d {ks} {ms} p (universal {ks = js} f k) = subst (λ x. KeepsFolded floor held e ms (with_universal_insertion x ∷ js)) (sym p) (stays k)
keeps_folded {floor} {held} e d {ks} {ms} p (collected g u n k) = goes (subst (λ x. is_collectable floor x ≡ true) p g) (subst (λ x. held (id x) ≡ false) p u) n k

-- what is kept of what is kept is kept
pub keeps-twice : {floor : ℕ} {held : ElementId → Bool} {ks ms xs : List ListElement} → Keeps floor held ms xs → Keeps floor held ks ms → Keeps floor held ks xs
keeps-twice none k = k
keeps-twice (collected g u n m) k = collected g u n (keeps-twice m k)
keeps-twice (same m) (same k) = same (keeps-twice m k)
keeps-twice (same m) (universal f k) = universal f (keeps-twice m k)
keeps-twice (same m) (collected g u n k) = collected g u (follows-back m n) (keeps-twice m k)
keeps-twice {floor} {held} (universal {e = e} {xs = ys} f m) k = elim (keeps_folded e (with_universal_insertion e) refl k) as (λ us _. Keeps floor held us (e ∷ ys)) [
  | stays j ↦ universal f (keeps-twice m j)
  | goes g u n j ↦ collected (with_universal_insertion-removal_stage floor e f g) (with_universal_insertion-id floor held e f u) (follows-back m n) (keeps-twice m j)
]

-- what full compaction keeps of a list in which no gone element is held or stands before a pending one
abbrev Clear : ℕ → (ElementId → Bool) → List ListElement → Type 0
Clear floor held [] = Unit {0}
Clear floor held (e ∷ xs) = (is_collectable floor e ≡ true → (held (id e) ≡ false) × (is_before_pending xs ≡ false)) × Clear floor held xs

trimmed_here : (floor : ℕ) (held : ElementId → Bool) (b : Bool) (e : ListElement) {ks xs : List ListElement}
    → is_insertion_at_or_below floor e.ins ≡ b → Keeps floor held ks xs
    → Keeps floor held (cond b (with_universal_insertion e) e ∷ ks) (e ∷ xs)
trimmed_here floor held true e p k = universal p k
trimmed_here floor held false e p k = same k

gone_here : (floor : ℕ) (held : ElementId → Bool) (b : Bool) (e : ListElement) {ks xs : List ListElement} → is_collectable floor e ≡ b
    → (is_collectable floor e ≡ true → (held (id e) ≡ false) × (is_before_pending xs ≡ false)) → Keeps floor held ks xs
    → Keeps floor held (cond (not b) (trim_element floor e ∷ ks) ks) (e ∷ xs)
gone_here floor held true e p h k = collected p (h p).0 (h p).1 k
gone_here floor held false e p h k = trimmed_here floor held (is_insertion_at_or_below floor e.ins) e refl k

pub keeps-trim : (floor : ℕ) (held : ElementId → Bool) (xs : List ListElement) → Clear floor held xs
    → Keeps floor held (retain_map (λ e. not (is_collectable floor e)) (trim_element floor) xs) xs
keeps-trim floor held [] h = none
keeps-trim floor held (e ∷ xs) h = gone_here floor held (is_collectable floor e) e refl h.0 (keeps-trim floor held xs h.1)
