-- Lists of nodes that are gone over from a place in the middle, or from the last one back.
use Rattle.std.proofs.Common.{◌≡◌, ℕ, ◌+◌, ◌-◌, ◌<◌, ◌≤◌, List, [], ◌∷◌, ◌++◌, drop, append-nil, length, slice_get, take, Option, Some, None, sym, ap, subst, ◌∙◌, inl, inr, arith}
use Rattle.std.proofs.lemmas.List.{take_more, take-append-drop}
use Rattle.std.proofs.lemmas.Bool.{cases_eq}
use Rattle.std.proofs.lemmas.Option.{slice_get_within, slice_get-get_or, get_or_from_slice_get}
use Rattle.ft_arena.specs.Ids.{times, points}
use Rattle.ft_arena.proofs.IdLemmas.{same_refl, same_other, times-append}
use Rattle.ft_shape.specs.Tree.{total, seek, numbers_before}
use Rattle.ft_shape.proofs.Lists.{drop_at, total-append, seek_here, seek-append_right}
use Rattle.ft_block.proofs.PositionLemmas.{before_here, before-append_out}

-- within the list a place has a number
pub none_within : (ks : List ℕ) (i : ℕ) → slice_get ks i ≡ None → i < length ks → ⊥
none_within ks i none less = let some = slice_get-get_or ks i 0 less in cc (none, some)

-- the list around the number at a place
cut_at : (ks : List ℕ) (i x : ℕ) → slice_get ks i ≡ Some x → take i ks ++ x ∷ drop (i + 1) ks ≡ ks
cut_at ks i x h = ap (λ zs. take i ks ++ zs) (sym (drop_at ks i x h)) ∙ take-append-drop i ks

pub total-take_more : (f : ℕ → ℕ) (ks : List ℕ) (i x : ℕ) → slice_get ks i ≡ Some x → total f (take (i + 1) ks) ≡ total f (take i ks) + f x
total-take_more f ks i x h =
    let e : take (i + 1) ks ≡ take i ks ++ x ∷ [] =
    take_more ks i x (slice_get_within ks i x h) ∙ ap (λ z. take i ks ++ z ∷ []) (get_or_from_slice_get ks i x x h) in
    omega (arith, ap (total f) e, total-append f (take i ks) (x ∷ []))

pub total-take_le : (f : ℕ → ℕ) (ks : List ℕ) (i : ℕ) → total f (take i ks) ≤ total f ks
total-take_le f ks i = omega (arith, total-append f (take i ks) (drop i ks), ap (total f) (take-append-drop i ks))

-- the place lies in the stretch of the number at place i
pub seek-at : (f : ℕ → ℕ) (ks : List ℕ) (i x p : ℕ) → slice_get ks i ≡ Some x → total f (take i ks) < p → p ≤ total f (take i ks) + f x
    → seek f ks p ≡ Some (x, p - total f (take i ks))
seek-at f ks i x p h low high =
    ap (λ zs. seek f zs p) (sym (cut_at ks i x h)) ∙ seek-append_right f (take i ks) (x ∷ drop (i + 1) ks) p low
    ∙ seek_here f x (drop (i + 1) ks) (p - total f (take i ks)) (omega (arith, high))

-- before a number that stands once are those up to its place
pub before-take : (ks : List ℕ) (i x : ℕ) → slice_get ks i ≡ Some x → times ks x ≤ 1 → numbers_before ks x ≡ take i ks
before-take ks i x h once =
    let e = cut_at ks i x h in
    let none : times (take i ks) x ≡ 0 =
    omega (arith, once, ap (λ zs. times zs x) e, times-append (take i ks) (x ∷ drop (i + 1) ks) x, same_refl x) in
    ap (λ zs. numbers_before zs x) (sym e) ∙ before-append_out (take i ks) (x ∷ drop (i + 1) ks) x none
    ∙ ap (λ zs. take i ks ++ zs) (before_here x (drop (i + 1) ks)) ∙ append-nil (take i ks)

pub points_few : (o : Option ℕ) (b : ℕ) → points o b ≤ 1
points_few None b = omega arith
points_few (Some x) b = elim (cases_eq x b) [
  | inl e ↦ subst (λ (z : ℕ). points (Some x) z ≤ 1) e (omega (arith, same_refl x))
  | inr d ↦ omega (arith, same_other x b d)
]
