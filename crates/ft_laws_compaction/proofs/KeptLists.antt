-- One list and a compacted one beside it: a relation without conditions on what is left out, which each step keeps. Where
-- nothing that may be left out is held or stands before a pending element, it is the relation with the conditions.
use Rattle.std.proofs.Common.{◌≡◌, ℕ, zero, suc, ◌≤◌, Bool, true, false, cond, not, ◌||◌, List, [], ◌∷◌, ◌++◌, refl, sym, subst, arith}
use Rattle.std.specs.List.{list_all}
use Rattle.ft_base.specs.Scan.{len, no_run, one_more_if, put, put_past, retain_map}
use Rattle.ft_base.proofs.Booleans.{both}
use Rattle.ft_base.proofs.ScanLaws.{put_past-no_run}
use Rattle.ft_props.specs.Element.{ListElement, ElementId, id}
use Rattle.ft_props.specs.Compaction.{Keeps, none, same, universal, collected, is_collectable, is_insertion_at_or_below, is_before_pending, with_universal_insertion}
use Rattle.ft_props.proofs.CompactedList.{keeps-higher}
use Rattle.ft_laws_agreement.proofs.CompactedScans.{Alike}
use Rattle.ft_laws_compaction.specs.Free.{AreFree}

-- kept elements of a list: all but collectable ones, where insertions at or below the floor may be written as the universal one
pub data Leaves (floor : ℕ) : List ListElement → List ListElement → Type 0 where
  ends : Leaves floor [] []
  stays : {e : ListElement} {ks xs : List ListElement} → Leaves floor ks xs → Leaves floor (e ∷ ks) (e ∷ xs)
  folded : {e : ListElement} {ks xs : List ListElement} → is_insertion_at_or_below floor e.ins ≡ true → Leaves floor ks xs → Leaves floor (with_universal_insertion e ∷ ks) (e ∷ xs)
  goes : {e : ListElement} {ks xs : List ListElement} → is_collectable floor e ≡ true → Leaves floor ks xs → Leaves floor ks (e ∷ xs)

pub leaves-same : {floor : ℕ} {held : ElementId → Bool} {ks xs : List ListElement} → Keeps floor held ks xs → Leaves floor ks xs
leaves-same none = ends
leaves-same (same k) = stays (leaves-same k)
leaves-same (universal f k) = folded f (leaves-same k)
leaves-same (collected g u n k) = goes g (leaves-same k)

-- a higher floor allows more
pub leaves-higher : {low high : ℕ} {held : ElementId → Bool} {ks xs : List ListElement} → low ≤ high → Keeps low held ks xs → Leaves high ks xs
leaves-higher l k = leaves-same (keeps-higher l k)

pub free-keeps : {floor : ℕ} {held : ElementId → Bool} {ks xs : List ListElement} → AreFree floor held xs → Leaves floor ks xs → Keeps floor held ks xs
free-keeps h ends = none
free-keeps h (stays k) = same (free-keeps h.1 k)
free-keeps h (folded f k) = universal f (free-keeps h.1 k)
free-keeps h (goes g k) = collected g (h.0 g).name (h.0 g).next (free-keeps h.1 k)

pub implied : (a b : Bool) → not a || not b ≡ true → a ≡ true → b ≡ false
implied true true h k = (cc)
implied true false h k = refl
implied false b h k = (cc)

-- other names may be held, where no collectable element has one
pub keeps-released : {floor : ℕ} {held : ElementId → Bool} (other : ElementId → Bool) {ks xs : List ListElement}
    → list_all (λ e. not (is_collectable floor e) || not (other (id e))) xs ≡ true → Keeps floor held ks xs → Keeps floor other ks xs
keeps-released other h none = none
keeps-released {floor} other h (same {e = e} {xs = xs} k) = same (keeps-released other
    (both (not (is_collectable floor e) || not (other (id e))) (list_all (λ d. not (is_collectable floor d) || not (other (id d))) xs) h).1 k)
keeps-released {floor} other h (universal {e = e} {xs = xs} f k) = universal f
    (keeps-released other (both (not (is_collectable floor e) || not (other (id e))) (list_all (λ d. not (is_collectable floor d) || not (other (id d))) xs) h).1 k)
keeps-released {floor} other h (collected {e = e} {xs = xs} g u n k) =
    let p = both (not (is_collectable floor e) || not (other (id e))) (list_all (λ d. not (is_collectable floor d) || not (other (id d))) xs) h in
    collected g (implied (is_collectable floor e) (other (id e)) p.0 g) n (keeps-released other p.1 k)

-- ---- a local insertion

append-kept : {floor : ℕ} {held : ElementId → Bool} {ks xs : List ListElement} (new : List ListElement) → Keeps floor held ks xs → Keeps floor held (new ++ ks) (new ++ xs)
append-kept [] k = k
append-kept (e ∷ new) k = same (append-kept new k)

fits-next : (b : Bool) (p n : ℕ) → suc p ≤ one_more_if b n → cond b p (suc p) ≤ n
fits-next true p n l = omega arith
fits-next false p n l = l

module _ {floor : ℕ} {held : ElementId → Bool} (test : ListElement → Bool) (h : Alike floor held test) (new : List ListElement) where
  before-put : (p : ℕ) (xs : List ListElement) → suc p ≤ len test xs → is_before_pending xs ≡ false → is_before_pending (put test no_run (suc p) new xs) ≡ false
  before-put p [] l n = absurd (omega arith)
  before-put p (x ∷ xs) l n = n

  -- new elements after as many seen ones keep the relation, where there are so many
  pub put-kept : {ks xs : List ListElement} (p : ℕ) → p ≤ len test xs → Keeps floor held ks xs → Keeps floor held (put test no_run p new ks) (put test no_run p new xs)
  put-kept {ks} {xs} zero l k = subst (λ us. Keeps floor held us (put_past no_run new xs)) (sym (put_past-no_run new ks))
      (subst (λ us. Keeps floor held (new ++ ks) us) (sym (put_past-no_run new xs)) (append-kept new k))
  put-kept (suc p) l none = absurd (omega arith)
  put-kept (suc p) l (same {e = e} {xs = xs} k) = same (put-kept (cond (test e) p (suc p)) (fits-next (test e) p (len test xs) l) k)
  put-kept (suc p) l (universal {e = e} {ks = ks} {xs = xs} f k) =
      subst (λ b. Keeps floor held (with_universal_insertion e ∷ put test no_run (cond b p (suc p)) new ks)
      (e ∷ put test no_run (cond (test e) p (suc p)) new xs)) (sym (h.old e f))
      (universal f (put-kept (cond (test e) p (suc p)) (fits-next (test e) p (len test xs) l) k))
  put-kept (suc p) l (collected {e = e} {ks = ks} {xs = xs} g u n k) =
      let m : suc p ≤ len test xs = subst (λ b. suc p ≤ one_more_if b (len test xs)) (h.gone e g u) l in
      subst (λ b. Keeps floor held (put test no_run (suc p) new ks) (e ∷ put test no_run (cond b p (suc p)) new xs)) (sym (h.gone e g u))
      (collected g u (before-put p xs m n) (put-kept (suc p) m k))

-- ---- an acknowledgement, a reconnection

-- f keeps what may be left out, and changes an old insertion as the universal one
pub record Renaming (floor : ℕ) (f : ListElement → ListElement) : Type 0 where
  pub gone : (e : ListElement) → is_collectable floor e ≡ true → is_collectable floor (f e) ≡ true
  pub old : (e : ListElement) → is_insertion_at_or_below floor e.ins ≡ true → (f (with_universal_insertion e) ≡ with_universal_insertion (f e))
      × (is_insertion_at_or_below floor (f e).ins ≡ true)

module _ {floor : ℕ} (keep : ListElement → Bool) (f : ListElement → ListElement) (h : Renaming floor f)
    (alike : (e : ListElement) → is_insertion_at_or_below floor e.ins ≡ true → keep (with_universal_insertion e) ≡ keep e) where
  pub leaves-retained : {ks xs : List ListElement} → Leaves floor ks xs → Leaves floor (retain_map keep f ks) (retain_map keep f xs)
  leaves-retained ends = ends
  leaves-retained (stays {e = e} {ks = ks} {xs = xs} k) = step (keep e) (leaves-retained k)
    where
      step : (b : Bool) → Leaves floor (retain_map keep f ks) (retain_map keep f xs)
          → Leaves floor (cond b (f e ∷ retain_map keep f ks) (retain_map keep f ks)) (cond b (f e ∷ retain_map keep f xs) (retain_map keep f xs))
      step true l = stays l
      step false l = l
  leaves-retained (folded {e = e} {ks = ks} {xs = xs} g k) =
      subst (λ b. Leaves floor (cond b (f (with_universal_insertion e) ∷ retain_map keep f ks) (retain_map keep f ks))
      (cond (keep e) (f e ∷ retain_map keep f xs) (retain_map keep f xs))) (sym (alike e g)) (step (keep e) (leaves-retained k))
    where
      step : (b : Bool) → Leaves floor (retain_map keep f ks) (retain_map keep f xs)
          → Leaves floor (cond b (f (with_universal_insertion e) ∷ retain_map keep f ks) (retain_map keep f ks)) (cond b (f e ∷ retain_map keep f xs) (retain_map keep f xs))
      step true l = let p = h.old e g in subst (λ d. Leaves floor (d ∷ retain_map keep f ks) (f e ∷ retain_map keep f xs)) (sym p.0) (folded p.1 l)
      step false l = l
  leaves-retained (goes {e = e} {ks = ks} {xs = xs} g k) = step (keep e) (leaves-retained k)
    where
      step : (b : Bool) → Leaves floor (retain_map keep f ks) (retain_map keep f xs)
          → Leaves floor (retain_map keep f ks) (cond b (f e ∷ retain_map keep f xs) (retain_map keep f xs))
      step true l = goes (h.gone e g) l
      step false l = l

append-leaves : {floor : ℕ} {ks xs : List ListElement} (new : List ListElement) → Leaves floor ks xs → Leaves floor (new ++ ks) (new ++ xs)
append-leaves [] k = k
append-leaves (e ∷ new) k = stays (append-leaves new k)

leaves-self : (floor : ℕ) (xs : List ListElement) → Leaves floor xs xs
leaves-self floor [] = ends
leaves-self floor (x ∷ xs) = stays (leaves-self floor xs)

module _ {floor : ℕ} (test : ListElement → Bool) (h : Alike floor (λ _. false) test) (new : List ListElement) where
  -- new elements after as many seen ones keep it
  pub leaves-put : {ks xs : List ListElement} (p : ℕ) → Leaves floor ks xs → Leaves floor (put test no_run p new ks) (put test no_run p new xs)
  leaves-put {ks} {xs} zero k = subst (λ us. Leaves floor us (put_past no_run new xs)) (sym (put_past-no_run new ks))
      (subst (λ us. Leaves floor (new ++ ks) us) (sym (put_past-no_run new xs)) (append-leaves new k))
  leaves-put (suc p) ends = leaves-self floor new
  leaves-put (suc p) (stays {e = e} k) = stays (leaves-put (cond (test e) p (suc p)) k)
  leaves-put (suc p) (folded {e = e} {ks = ks} {xs = xs} f k) =
      subst (λ b. Leaves floor (with_universal_insertion e ∷ put test no_run (cond b p (suc p)) new ks) (e ∷ put test no_run (cond (test e) p (suc p)) new xs))
      (sym (h.old e f)) (folded f (leaves-put (cond (test e) p (suc p)) k))
  leaves-put (suc p) (goes {e = e} {ks = ks} {xs = xs} g k) =
      subst (λ b. Leaves floor (put test no_run (suc p) new ks) (e ∷ put test no_run (cond b p (suc p)) new xs)) (sym (h.gone e g refl)) (goes g (leaves-put (suc p) k))
