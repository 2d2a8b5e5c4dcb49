-- Lemmas on lists of nodes in which a node is put beside another.
use Rattle.std.proofs.Common.{◌≡◌, ◌≢◌, ◌⊎◌, ℕ, zero, suc, ◌+◌, ◌≤◌, List, [], ◌∷◌, ◌++◌, length, insert, slice_get, Option, Some, None, IsSome, refl, sym, ap, subst}
use Rattle.std.proofs.Common.{◌∙◌, inl, inr, arith, append_assoc, eqb}
use Rattle.std.proofs.lemmas.Bool.{cases_eq, cond-true, cond-false, eq-eqb, ne_eqb}
use Rattle.std.proofs.lemmas.Grind.{common_steps}
use Rattle.std.specs.List.{flat_map}
use Rattle.ft_arena.specs.Ids.{same, times, points, insert_after, first}
use Rattle.ft_arena.proofs.IdLemmas.{same_refl, same_other, insert_after_none, times-insert_after}
use Rattle.ft_arena.proofs.RingLemmas.{insert_after_later}
use Rattle.ft_shape.specs.Tree.{total, insert_before, IsEdit}
use Rattle.ft_shape.proofs.Lists.{times_at}
use Rattle.ft_shape.proofs.Levels.{points_some}

pub flat_map_same : (f g : ℕ → List ℕ) (xs : List ℕ) → ((x : ℕ) → 1 ≤ times xs x → g x ≡ f x) → flat_map g xs ≡ flat_map f xs
flat_map_same f g [] h = refl
flat_map_same f g (x ∷ xs) h =
    ap (λ ys. ys ++ flat_map g xs) (h x (omega (arith, same_refl x))) ∙ ap (λ ys. f x ++ ys) (flat_map_same f g xs (λ y m. h y (omega arith)))

pub insert_after_head : (ys : List ℕ) (at new : ℕ) → insert_after (at ∷ ys) at new ≡ at ∷ new ∷ insert_after ys at new
insert_after_head ys at new = grind (arith, common_steps)

pub insert_after-append : (xs ys : List ℕ) (at new : ℕ) → insert_after (xs ++ ys) at new ≡ insert_after xs at new ++ insert_after ys at new
insert_after-append [] ys at new = refl
insert_after-append (x ∷ xs) ys at new = elim (cases_eq x at) [
  | inl e ↦ subst (λ (z : ℕ). insert_after (z ∷ (xs ++ ys)) at new ≡ insert_after (z ∷ xs) at new ++ insert_after ys at new) (sym e) (insert_after_head (xs ++ ys) at new
      ∙ ap (λ zs. at ∷ new ∷ zs) (insert_after-append xs ys at new) ∙ ap (λ zs. zs ++ insert_after ys at new) (sym (insert_after_head xs at new)))
  | inr d ↦ insert_after_later x (xs ++ ys) at new d ∙ ap (λ zs. x ∷ zs) (insert_after-append xs ys at new)
      ∙ ap (λ zs. zs ++ insert_after ys at new) (sym (insert_after_later x xs at new d))
]

-- the children after a split, in order
pub flat_map-insert_after : (f g : ℕ → List ℕ) (xs : List ℕ) (p q : ℕ) → g p ≡ f p ++ f q → ((x : ℕ) → 1 ≤ times xs x → x ≢ p → g x ≡ f x)
    → flat_map f (insert_after xs p q) ≡ flat_map g xs
flat_map-insert_after f g [] p q e h = refl
flat_map-insert_after f g (x ∷ xs) p q e h =
    let rest = flat_map-insert_after f g xs p q e (λ y m d. h y (omega arith) d) in
    elim (cases_eq x p) [
      | inl c ↦ subst (λ (z : ℕ). flat_map f (insert_after (z ∷ xs) p q) ≡ flat_map g (z ∷ xs)) (sym c) (ap (flat_map f) (insert_after_head xs p q)
          ∙ sym (append_assoc (f p) (f q) (flat_map f (insert_after xs p q))) ∙ ap (λ zs. zs ++ flat_map f (insert_after xs p q)) (sym e) ∙ ap (λ zs. g p ++ zs) rest)
      | inr d ↦ ap (flat_map f) (insert_after_later x xs p q d) ∙ ap (λ zs. zs ++ flat_map f (insert_after xs p q)) (sym (h x (omega (arith, same_refl x)) d))
          ∙ ap (λ zs. g x ++ zs) rest
    ]

pub points_same : (o u : Option ℕ) → ((b : ℕ) → points o b ≡ points u b) → o ≡ u
points_same None None h = refl
points_same None (Some y) h = absurd (omega (arith, h y, same_refl y))
points_same (Some x) u h = sym (points_some u x (omega (arith, h x, same_refl x)))

pub times-insert_after_of : (xs : List ℕ) (at new x : ℕ) → x ≢ new → times (insert_after xs at new) x ≡ times xs x
times-insert_after_of [] at new x d = refl
times-insert_after_of (y ∷ ys) at new x d =
    let rest = times-insert_after_of ys at new x d in
    elim (cases_eq y at) [
      | inl e ↦ subst (λ (z : ℕ). times (insert_after (z ∷ ys) at new) x ≡ times (z ∷ ys) x) (sym e) (ap (λ zs. times zs x) (insert_after_head ys at new)
          ∙ omega (arith, rest, same_other new x (λ q. d (sym q))))
      | inr n ↦ ap (λ zs. times zs x) (insert_after_later y ys at new n) ∙ omega (arith, rest)
    ]

pub length-insert_after_le : (xs : List ℕ) (at new : ℕ) → length xs ≤ length (insert_after xs at new)
length-insert_after_le [] at new = omega arith
length-insert_after_le (y ∷ ys) at new =
    let rest = length-insert_after_le ys at new in
    elim (cases_eq y at) [
      | inl e ↦ subst (λ (z : ℕ). length (z ∷ ys) ≤ length (insert_after (z ∷ ys) at new)) (sym e) (omega (arith, ap length (insert_after_head ys at new), rest))
      | inr n ↦ omega (arith, ap length (insert_after_later y ys at new n), rest)
    ]

pub total_same : (f g : ℕ → ℕ) (xs : List ℕ) → ((x : ℕ) → 1 ≤ times xs x → g x ≡ f x) → total g xs ≡ total f xs
total_same f g [] h = refl
total_same f g (x ∷ xs) h = omega (arith, h x (omega (arith, same_refl x)), total_same f g xs (λ y m. h y (omega arith)))

-- where only one number of the list has another value
pub total_change : (f g : ℕ → ℕ) (xs : List ℕ) (at : ℕ) → times xs at ≡ 1 → ((x : ℕ) → 1 ≤ times xs x → x ≢ at → g x ≡ f x)
    → total g xs + f at ≡ total f xs + g at
total_change f g [] at h o = absurd (omega arith)
total_change f g (y ∷ ys) at h o = elim (cases_eq y at) [
  | inl e ↦
      let rest : total g ys ≡ total f ys = total_same f g ys (λ x m. o x (omega arith) (λ q. omega (arith, h, m, ap (times ys) q, ap (λ z. same z at) e, same_refl at))) in
      omega (arith, rest, ap f e, ap g e)
  | inr d ↦ omega (arith, total_change f g ys at (omega (arith, same_other y at d)) (λ x m n. o x (omega arith) n), o y (omega (arith, same_refl y)) d)
]

pub some_of : {X : Type 0} (o : Option X) → IsSome o → (x : X) × (o ≡ Some x)
some_of None h = cc
some_of (Some x) h = (x, refl)

pub is_some_from : {X : Type 0} (o : Option X) (x : X) → o ≡ Some x → IsSome o
is_some_from o x e = rw e refl

pub none_by : {X : Type 0} (o : Option X) → ((x : X) → o ≡ Some x → ⊥) → o ≡ None
none_by None h = refl
none_by (Some x) h = absurd (h x refl)

pub dead_apart : {X : Type 0} (f : ℕ → Option X) (x q : ℕ) → IsSome (f x) → f q ≡ None → x ≢ q
dead_apart f x q h dead e = let k : IsSome (f q) = subst (λ (z : ℕ). IsSome (f z)) e h in cc (k, dead)

pub edit_member : (step : ℕ) (ed : List ℕ → List ℕ) (at new : ℕ) → IsEdit step ed at new → (xs : List ℕ) (x : ℕ) → 1 ≤ times (ed xs) x
    → (1 ≤ times xs x) ⊎ (x ≡ new)
edit_member step ed at new E xs x m = elim (cases_eq x new) [
  | inl e ↦ inr e
  | inr d ↦ inl (omega (arith, m, E.others xs x d))
]

pub edit-flat_map : (step : ℕ) (ed : List ℕ → List ℕ) (at new : ℕ) → IsEdit step ed at new → (f : ℕ → List ℕ) (xs : List ℕ)
    → ed (flat_map f xs) ≡ flat_map (λ x. ed (f x)) xs
edit-flat_map step ed at new E f [] = E.none
edit-flat_map step ed at new E f (x ∷ xs) = E.joins (f x) (flat_map f xs) ∙ ap (λ zs. ed (f x) ++ zs) (edit-flat_map step ed at new E f xs)

pub total-insert_after : (f : ℕ → ℕ) (xs : List ℕ) (at id : ℕ) → times xs at ≡ 1 → total f (insert_after xs at id) ≡ total f xs + f id
total-insert_after f [] at id h = absurd (omega arith)
total-insert_after f (y ∷ ys) at id h = elim (cases_eq y at) [
  | inl e ↦
      let none : times ys at ≡ 0 = omega (arith, ap (λ z. same z at) e, same_refl at) in
      subst (λ (z : ℕ). total f (insert_after (z ∷ ys) at id) ≡ total f (z ∷ ys) + f id) (sym e)
      (omega (arith, ap (total f) (insert_after_head ys at id), ap (total f) (insert_after_none ys at id none)))
  | inr d ↦ omega (arith, ap (total f) (insert_after_later y ys at id d), total-insert_after f ys at id (omega (arith, same_other y at d)))
]

pub insert_is : (ks : List ℕ) (i at id : ℕ) → slice_get ks i ≡ Some at → times ks at ≤ 1 → insert ks (i + 1) id ≡ insert_after ks at id
insert_is [] i at id h o = cc
insert_is (y ∷ ys) zero at id h o =
    let e : y ≡ at = cc h in
    let none : times ys at ≡ 0 = omega (arith, ap (λ z. same z at) e, same_refl at) in
    subst (λ (z : ℕ). z ∷ id ∷ ys ≡ insert_after (z ∷ ys) at id) (sym e) (sym (insert_after_head ys at id ∙ ap (λ zs. at ∷ id ∷ zs) (insert_after_none ys at id none)))
insert_is (y ∷ ys) (suc i) at id h o =
    let d : y ≢ at = (λ e. omega (arith, times_at ys i at h, ap (λ z. same z at) e, same_refl at)) in
    let n : suc i + 1 ≡ suc (i + 1) = omega arith in
    ap (λ (m : ℕ). insert (y ∷ ys) m id) n ∙ ap (λ zs. y ∷ zs) (insert_is ys i at id h (omega arith)) ∙ sym (insert_after_later y ys at id d)

pub after_is_edit : (at new : ℕ) → IsEdit 1 (λ xs. insert_after xs at new) at new
after_is_edit at new =
    record {
      none = refl;
      joins = λ xs ys. insert_after-append xs ys at new;
      apart = λ xs h. insert_after_none xs at new h;
      others = λ xs x d. times-insert_after_of xs at new x d;
      counts = λ xs h. omega (arith, times-insert_after xs at new new h, same_refl new);
      longer = λ xs. length-insert_after_le xs at new;
      totals = λ f xs h. total-insert_after f xs at new h;
      places = λ xs i h o. insert_is xs i at new h o;
    }

insert_before_head : (ys : List ℕ) (at new : ℕ) → insert_before (at ∷ ys) at new ≡ new ∷ at ∷ insert_before ys at new
insert_before_head ys at new = cond-true (eqb at at) _ _ (eq-eqb at at refl)

insert_before_later : (y : ℕ) (ys : List ℕ) (at new : ℕ) → (y ≡ at → ⊥) → insert_before (y ∷ ys) at new ≡ y ∷ insert_before ys at new
insert_before_later y ys at new d = cond-false (eqb y at) _ _ (ne_eqb y at d)

insert_before_none : (ys : List ℕ) (at new : ℕ) → times ys at ≡ 0 → insert_before ys at new ≡ ys
insert_before_none [] at new h = refl
insert_before_none (y ∷ ys) at new h =
    let d : y ≢ at = (λ e. omega (arith, h, ap (λ z. same z at) e, same_refl at)) in
    insert_before_later y ys at new d ∙ ap (λ zs. y ∷ zs) (insert_before_none ys at new (omega arith))

-- at the front of the list
pub insert_before_first : (x : ℕ) (xs : List ℕ) (new : ℕ) → times (x ∷ xs) x ≡ 1 → insert_before (x ∷ xs) x new ≡ new ∷ x ∷ xs
insert_before_first x xs new h = insert_before_head xs x new ∙ ap (λ zs. new ∷ x ∷ zs) (insert_before_none xs x new (omega (arith, same_refl x)))

joins : (xs ys : List ℕ) (at new : ℕ) → insert_before (xs ++ ys) at new ≡ insert_before xs at new ++ insert_before ys at new
joins [] ys at new = refl
joins (x ∷ xs) ys at new = elim (cases_eq x at) [
  | inl e ↦ subst (λ (z : ℕ). insert_before (z ∷ (xs ++ ys)) at new ≡ insert_before (z ∷ xs) at new ++ insert_before ys at new) (sym e)
      (insert_before_head (xs ++ ys) at new ∙ ap (λ zs. new ∷ at ∷ zs) (joins xs ys at new)
      ∙ ap (λ zs. zs ++ insert_before ys at new) (sym (insert_before_head xs at new)))
  | inr d ↦ insert_before_later x (xs ++ ys) at new d ∙ ap (λ zs. x ∷ zs) (joins xs ys at new) ∙ ap (λ zs. zs ++ insert_before ys at new) (sym (insert_before_later x xs at new d))
]

others : (xs : List ℕ) (at new x : ℕ) → x ≢ new → times (insert_before xs at new) x ≡ times xs x
others [] at new x d = refl
others (y ∷ ys) at new x d =
    let rest = others ys at new x d in
    elim (cases_eq y at) [
      | inl e ↦ subst (λ (z : ℕ). times (insert_before (z ∷ ys) at new) x ≡ times (z ∷ ys) x) (sym e) (ap (λ zs. times zs x) (insert_before_head ys at new)
          ∙ omega (arith, rest, same_other new x (λ q. d (sym q))))
      | inr n ↦ ap (λ zs. times zs x) (insert_before_later y ys at new n) ∙ omega (arith, rest)
    ]

counts : (xs : List ℕ) (at new : ℕ) → times xs at ≡ 1 → times (insert_before xs at new) new ≡ times xs new + 1
counts [] at new h = absurd (omega arith)
counts (y ∷ ys) at new h = elim (cases_eq y at) [
  | inl e ↦
      let none : times ys at ≡ 0 = omega (arith, ap (λ z. same z at) e, same_refl at) in
      subst (λ (z : ℕ). times (insert_before (z ∷ ys) at new) new ≡ times (z ∷ ys) new + 1) (sym e)
      (omega (arith, ap (λ zs. times zs new) (insert_before_head ys at new), ap (λ zs. times zs new) (insert_before_none ys at new none), same_refl new))
  | inr d ↦ omega (arith, ap (λ zs. times zs new) (insert_before_later y ys at new d), counts ys at new (omega (arith, same_other y at d)))
]

longer : (xs : List ℕ) (at new : ℕ) → length xs ≤ length (insert_before xs at new)
longer [] at new = omega arith
longer (y ∷ ys) at new =
    let rest = longer ys at new in
    elim (cases_eq y at) [
      | inl e ↦ subst (λ (z : ℕ). length (z ∷ ys) ≤ length (insert_before (z ∷ ys) at new)) (sym e) (omega (arith, ap length (insert_before_head ys at new), rest))
      | inr n ↦ omega (arith, ap length (insert_before_later y ys at new n), rest)
    ]

totals : (f : ℕ → ℕ) (xs : List ℕ) (at id : ℕ) → times xs at ≡ 1 → total f (insert_before xs at id) ≡ total f xs + f id
totals f [] at id h = absurd (omega arith)
totals f (y ∷ ys) at id h = elim (cases_eq y at) [
  | inl e ↦
      let none : times ys at ≡ 0 = omega (arith, ap (λ z. same z at) e, same_refl at) in
      subst (λ (z : ℕ). total f (insert_before (z ∷ ys) at id) ≡ total f (z ∷ ys) + f id) (sym e)
      (omega (arith, ap (total f) (insert_before_head ys at id), ap (total f) (insert_before_none ys at id none)))
  | inr d ↦ omega (arith, ap (total f) (insert_before_later y ys at id d), totals f ys at id (omega (arith, same_other y at d)))
]

places : (ks : List ℕ) (i at id : ℕ) → slice_get ks i ≡ Some at → times ks at ≤ 1 → insert ks i id ≡ insert_before ks at id
places [] i at id h o = cc
places (y ∷ ys) zero at id h o =
    let e : y ≡ at = cc h in
    let none : times ys at ≡ 0 = omega (arith, ap (λ z. same z at) e, same_refl at) in
    subst (λ (z : ℕ). id ∷ z ∷ ys ≡ insert_before (z ∷ ys) at id) (sym e) (sym (insert_before_head ys at id ∙ ap (λ zs. id ∷ at ∷ zs) (insert_before_none ys at id none)))
places (y ∷ ys) (suc i) at id h o =
    let d : y ≢ at = (λ e. omega (arith, times_at ys i at h, ap (λ z. same z at) e, same_refl at)) in
    ap (λ zs. y ∷ zs) (places ys i at id h (omega arith)) ∙ sym (insert_before_later y ys at id d)

pub before_is_edit : (at new : ℕ) → IsEdit 0 (λ xs. insert_before xs at new) at new
before_is_edit at new =
    record {
      none = refl;
      joins = λ xs ys. joins xs ys at new;
      apart = λ xs h. insert_before_none xs at new h;
      others = λ xs x d. others xs at new x d;
      counts = λ xs h. counts xs at new h;
      longer = λ xs. longer xs at new;
      totals = λ f xs h. totals f xs at new h;
      places = λ xs i h o. (let e : i + 0 ≡ i = omega arith in ap (λ (n : ℕ). insert xs n new) e ∙ places xs i at new h o);
    }

-- a new number at the front stands before the first
pub front_is : (xs : List ℕ) (f id : ℕ) → Some f ≡ first xs → ((x : ℕ) → times xs x ≤ 1) → (id ∷ xs ≡ insert_before xs f id) × (1 ≤ times xs f)
front_is [] f id e o = cc
front_is (x ∷ xs) f id e o =
    let q : x ≡ f = cc in
    let one : times (x ∷ xs) x ≡ 1 = omega (arith, o x, same_refl x) in (
      subst (λ (z : ℕ). id ∷ x ∷ xs ≡ insert_before (x ∷ xs) z id) q (sym (insert_before_first x xs id one)),
      subst (λ (z : ℕ). 1 ≤ times (x ∷ xs) z) q (omega (arith, same_refl x)),
    )
