-- Lemmas on lists of nodes.
use Rattle.std.proofs.Common.{◌≡◌, ℕ, ◌+◌, ◌-◌, ◌<◌, ◌≤◌, List, [], ◌∷◌, ◌++◌, drop, length, slice_get, Some, None, refl, sym, ap, subst, ◌∙◌, inl, inr, arith}
use Rattle.std.proofs.lemmas.Bool.{cases_lt, le-leb, lt-leb}
use Rattle.std.proofs.lemmas.List.{drop_more, drop_all}
use Rattle.std.proofs.lemmas.Option.{slice_get_within, get_or_from_slice_get, some_pair_parts, slice_get-get_or}
use Rattle.ft_arena.specs.Ids.{times}
use Rattle.ft_arena.proofs.IdLemmas.{times-remove, same_refl}
use Rattle.ft_shape.specs.Tree.{total, seek}

pub times_at : (ks : List ℕ) (i x : ℕ) → slice_get ks i ≡ Some x → 1 ≤ times ks x
times_at ks i x h = omega (arith, times-remove ks i x x h, same_refl x)

pub drop_at : (ks : List ℕ) (i x : ℕ) → slice_get ks i ≡ Some x → drop i ks ≡ x ∷ drop (i + 1) ks
drop_at ks i x h = drop_more ks i x (slice_get_within ks i x h) ∙ ap (λ z. z ∷ drop (i + 1) ks) (get_or_from_slice_get ks i x x h)

pub drop_none : (ks : List ℕ) (i : ℕ) → slice_get ks i ≡ None → drop i ks ≡ []
drop_none ks i h = elim (cases_lt i (length ks)) [
  | inl l ↦ let e = slice_get-get_or ks i 0 l in cc (e, h)
  | inr g ↦ drop_all i ks g
]

pub total-append : (f : ℕ → ℕ) (xs ys : List ℕ) → total f (xs ++ ys) ≡ total f xs + total f ys
total-append f [] ys = omega arith
total-append f (x ∷ xs) ys = omega (arith, total-append f xs ys)

-- the place lies in the first node, or in what follows
pub seek_here : (f : ℕ → ℕ) (x : ℕ) (xs : List ℕ) (p : ℕ) → p ≤ f x → seek f (x ∷ xs) p ≡ Some (x, p)
seek_here f x xs p h = rw (le-leb p (f x) h) refl

pub seek_later : (f : ℕ → ℕ) (x : ℕ) (xs : List ℕ) (p : ℕ) → f x < p → seek f (x ∷ xs) p ≡ seek f xs (p - f x)
seek_later f x xs p h = rw (lt-leb p (f x) h) refl

pub seek-append_left : (f : ℕ → ℕ) (xs ys : List ℕ) (p : ℕ) → 1 ≤ p → p ≤ total f xs → seek f (xs ++ ys) p ≡ seek f xs p
seek-append_left f [] ys p l h = absurd (omega arith)
seek-append_left f (x ∷ xs) ys p l h = elim (cases_lt (f x) p) [
  | inl q ↦ seek_later f x (xs ++ ys) p q ∙ seek-append_left f xs ys (p - f x) (omega arith) (omega arith) ∙ sym (seek_later f x xs p q)
  | inr q ↦ seek_here f x (xs ++ ys) p q ∙ sym (seek_here f x xs p q)
]

pub seek-append_right : (f : ℕ → ℕ) (xs ys : List ℕ) (p : ℕ) → total f xs < p → seek f (xs ++ ys) p ≡ seek f ys (p - total f xs)
seek-append_right f [] ys p h = ap (seek f ys) (omega arith)
seek-append_right f (x ∷ xs) ys p h =
    let e : p - f x - total f xs ≡ p - (f x + total f xs) = omega arith in
    seek_later f x (xs ++ ys) p (omega arith) ∙ seek-append_right f xs ys (p - f x) (omega arith) ∙ ap (seek f ys) e

-- what is found lies in the list, and not past its own stretch
pub record IsFound (f : ℕ → ℕ) (xs : List ℕ) (x p : ℕ) : Type 0 where
  pub member : 1 ≤ times xs x
  pub low : 1 ≤ p
  pub within : p ≤ f x

pub seek_found : (f : ℕ → ℕ) (xs : List ℕ) (p x q : ℕ) → 1 ≤ p → seek f xs p ≡ Some (x, q) → IsFound f xs x q
seek_found f [] p x q l h = cc
seek_found f (y ∷ ys) p x q l h = elim (cases_lt (f y) p) [
  | inl g ↦
      let r = seek_found f ys (p - f y) x q (omega arith) (sym (seek_later f y ys p g) ∙ h) in
      record { member = omega (arith, r.member); low = r.low; within = r.within }
  | inr g ↦
      let parts = some_pair_parts y x p q (sym (seek_here f y ys p g) ∙ h) in
      let a : y ≡ x = parts.0 in
      let b : p ≡ q = parts.1 in
      record { member = subst (λ (z : ℕ). 1 ≤ times (y ∷ ys) z) a (omega (arith, same_refl y)); low = omega arith; within = subst (λ (z : ℕ). q ≤ f z) a (omega arith) }
]
