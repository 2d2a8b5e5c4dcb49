-- Lemmas on lists of nodes from which one is taken, or in which two neighbours share their children anew.
use Rattle.std.proofs.Common.{◌≡◌, ◌≢◌, ℕ, zero, suc, ◌+◌, ◌≤◌, List, [], ◌∷◌, ◌++◌, remove, slice_get, Some, refl, sym, ap, subst, ◌∙◌, inl, inr, arith, append_assoc}
use Rattle.std.proofs.lemmas.Bool.{cases_eq}
use Rattle.std.specs.List.{flat_map}
use Rattle.std.proofs.lemmas.List.Concat.{flat_map-append}
use Rattle.ft_arena.specs.Ids.{same, times, insert_after, without}
use Rattle.ft_arena.proofs.IdLemmas.{insert_after_none, same_refl, same_other}
use Rattle.ft_arena.proofs.RingLemmas.{insert_after_later, without_here, without_later}
use Rattle.ft_shape.specs.Tree.{total}
use Rattle.ft_shape.proofs.Lists.{times_at}
use Rattle.ft_shape.proofs.EditLemmas.{insert_after_head}

pub without_apart : (xs : List ℕ) (x : ℕ) → times xs x ≡ 0 → without xs x ≡ xs
without_apart [] x h = refl
without_apart (y ∷ ys) x h =
    let d : y ≢ x = (λ e. omega (arith, h, ap (λ z. same z x) e, same_refl x)) in
    without_later y ys x d ∙ ap (λ zs. y ∷ zs) (without_apart ys x (omega arith))

pub without-append : (xs ys : List ℕ) (x : ℕ) → without (xs ++ ys) x ≡ without xs x ++ without ys x
without-append [] ys x = refl
without-append (z ∷ zs) ys x = elim (cases_eq z x) [
  | inl e ↦ subst (λ (w : ℕ). without (z ∷ (zs ++ ys)) w ≡ without (z ∷ zs) w ++ without ys w) e (without_here (zs ++ ys) z ∙ without-append zs ys z
      ∙ ap (λ ws. ws ++ without ys z) (sym (without_here zs z)))
  | inr d ↦ without_later z (zs ++ ys) x d ∙ ap (λ ws. z ∷ ws) (without-append zs ys x) ∙ ap (λ ws. ws ++ without ys x) (sym (without_later z zs x d))
]

pub without-flat_map : (f : ℕ → List ℕ) (xs : List ℕ) (x : ℕ) → without (flat_map f xs) x ≡ flat_map (λ y. without (f y) x) xs
without-flat_map f [] x = refl
without-flat_map f (y ∷ ys) x = without-append (f y) (flat_map f ys) x ∙ ap (λ zs. without (f y) x ++ zs) (without-flat_map f ys x)

-- one that has no children may be left out
pub flat_map-without : (f : ℕ → List ℕ) (xs : List ℕ) (x : ℕ) → f x ≡ [] → flat_map f (without xs x) ≡ flat_map f xs
flat_map-without f [] x e = refl
flat_map-without f (y ∷ ys) x e = elim (cases_eq y x) [
  | inl q ↦ subst (λ (w : ℕ). flat_map f (without (y ∷ ys) w) ≡ flat_map f (y ∷ ys)) q (ap (flat_map f) (without_here ys y) ∙ flat_map-without f ys y (ap f q ∙ e)
      ∙ sym (ap (λ zs. zs ++ flat_map f ys) (ap f q ∙ e)))
  | inr d ↦ ap (flat_map f) (without_later y ys x d) ∙ ap (λ zs. f y ++ zs) (flat_map-without f ys x e)
]

pub total-without : (f : ℕ → ℕ) (xs : List ℕ) (x : ℕ) → times xs x ≡ 1 → total f (without xs x) + f x ≡ total f xs
total-without f [] x h = absurd (omega arith)
total-without f (y ∷ ys) x h = elim (cases_eq y x) [
  | inl e ↦
      let none : times ys x ≡ 0 = omega (arith, h, ap (λ z. same z x) e, same_refl x) in
      let all : without (y ∷ ys) x ≡ ys = subst (λ (w : ℕ). without (w ∷ ys) x ≡ ys) (sym e) (without_here ys x ∙ without_apart ys x none) in
      omega (arith, ap (total f) all, ap f e)
  | inr d ↦ omega (arith, ap (total f) (without_later y ys x d), total-without f ys x (omega (arith, h, same_other y x d)))
]

pub total-without_le : (f : ℕ → ℕ) (xs : List ℕ) (x : ℕ) → total f (without xs x) ≤ total f xs
total-without_le f [] x = omega arith
total-without_le f (y ∷ ys) x = elim (cases_eq y x) [
  | inl e ↦ subst (λ (w : ℕ). total f (without (y ∷ ys) w) ≤ total f (y ∷ ys)) e (omega (arith, ap (total f) (without_here ys y), total-without_le f ys y))
  | inr d ↦ omega (arith, ap (total f) (without_later y ys x d), total-without_le f ys x)
]

pub times-without_le : (xs : List ℕ) (x z : ℕ) → times (without xs x) z ≤ times xs z
times-without_le [] x z = omega arith
times-without_le (y ∷ ys) x z = elim (cases_eq y x) [
  | inl e ↦ subst (λ (w : ℕ). times (without (y ∷ ys) w) z ≤ times (y ∷ ys) z) e (omega (arith, ap (λ zs. times zs z) (without_here ys y), times-without_le ys y z))
  | inr d ↦ omega (arith, ap (λ zs. times zs z) (without_later y ys x d), times-without_le ys x z)
]

-- what stands once is taken out by its place as by its number
pub remove_is_without : (xs : List ℕ) (i x : ℕ) → slice_get xs i ≡ Some x → times xs x ≡ 1 → remove xs i ≡ without xs x
remove_is_without [] i x e h = cc
remove_is_without (y ∷ ys) zero x e h =
    let q : y ≡ x = cc e in
    let none : times ys x ≡ 0 = omega (arith, h, ap (λ z. same z x) q, same_refl x) in
    subst (λ (w : ℕ). ys ≡ without (w ∷ ys) x) (sym q) (sym (without_here ys x ∙ without_apart ys x none))
remove_is_without (y ∷ ys) (suc i) x e h =
    let d : y ≢ x = (λ q. omega (arith, h, times_at ys i x e, ap (λ z. same z x) q, same_refl x)) in
    ap (λ zs. y ∷ zs) (remove_is_without ys i x e (omega (arith, h, same_other y x d))) ∙ sym (without_later y ys x d)

-- two neighbours, of which the second is taken out and put back
pub neighbours : (xs : List ℕ) (i f r : ℕ) → slice_get xs i ≡ Some f → slice_get xs (i + 1) ≡ Some r → times xs f ≡ 1 → times xs r ≡ 1
    → insert_after (without xs r) f r ≡ xs
neighbours [] i f r ef er hf hr = cc
neighbours (y ∷ []) zero f r ef er hf hr = cc
neighbours (y ∷ z ∷ zs) zero f r ef er hf hr =
    let a : y ≡ f = cc ef in
    let b : z ≡ r = cc er in
    let d : y ≢ r = (λ q. omega (arith, hr, ap (λ w. same w r) q, ap (λ w. same w r) b, same_refl r)) in
    let none : times zs r ≡ 0 = omega (arith, hr, same_other y r d, ap (λ w. same w r) b, same_refl r) in
    let nof : times zs f ≡ 0 = omega (arith, hf, ap (λ w. same w f) a, same_refl f) in
    let out : without (y ∷ z ∷ zs) r ≡ y ∷ zs = without_later y (z ∷ zs) r d ∙ ap (λ ws. y ∷ ws) (ap (λ w. without (w ∷ zs) r) b ∙ without_here zs r ∙ without_apart zs r none) in
    let back : insert_after (y ∷ zs) f r ≡ y ∷ z ∷ zs =
    ap (λ w. insert_after (w ∷ zs) f r) a ∙ insert_after_head zs f r ∙ ap (λ ws. f ∷ r ∷ ws) (insert_after_none zs f r nof) ∙ ap (λ w. w ∷ r ∷ zs) (sym a)
    ∙ ap (λ w. y ∷ w ∷ zs) (sym b) in
    ap (λ ws. insert_after ws f r) out ∙ back
neighbours (y ∷ ys) (suc i) f r ef er hf hr =
    let n : suc i + 1 ≡ suc (i + 1) = omega arith in
    let er' : slice_get ys (i + 1) ≡ Some r = ap (slice_get (y ∷ ys)) (sym n) ∙ er in
    let df : y ≢ f = (λ q. omega (arith, hf, times_at ys i f ef, ap (λ w. same w f) q, same_refl f)) in
    let dr : y ≢ r = (λ q. omega (arith, hr, times_at ys (i + 1) r er', ap (λ w. same w r) q, same_refl r)) in
    ap (λ ws. insert_after ws f r) (without_later y ys r dr) ∙ insert_after_later y (without ys r) f r df
    ∙ ap (λ ws. y ∷ ws) (neighbours ys i f r ef er' (omega (arith, hf, same_other y f df)) (omega (arith, hr, same_other y r dr)))

-- two neighbours with the same children together have the same level below them
pub shared : (f g : ℕ → List ℕ) (xs : List ℕ) (p q : ℕ) → g p ++ g q ≡ f p ++ f q → ((x : ℕ) → 1 ≤ times xs x → x ≢ p → g x ≡ f x)
    → flat_map g (insert_after xs p q) ≡ flat_map f (insert_after xs p q)
shared f g [] p q e h = refl
shared f g (x ∷ xs) p q e h =
    let rest = shared f g xs p q e (λ y m d. h y (omega arith) d) in
    elim (cases_eq x p) [
      | inl c ↦ subst (λ (z : ℕ). flat_map g (insert_after (z ∷ xs) p q) ≡ flat_map f (insert_after (z ∷ xs) p q)) (sym c) (ap (flat_map g) (insert_after_head xs p q)
          ∙ sym (append_assoc (g p) (g q) (flat_map g (insert_after xs p q))) ∙ ap (λ zs. zs ++ flat_map g (insert_after xs p q)) e ∙ ap (λ zs. (f p ++ f q) ++ zs) rest
          ∙ append_assoc (f p) (f q) (flat_map f (insert_after xs p q)) ∙ sym (ap (flat_map f) (insert_after_head xs p q)))
      | inr d ↦ ap (flat_map g) (insert_after_later x xs p q d) ∙ ap (λ zs. zs ++ flat_map g (insert_after xs p q)) (h x (omega (arith, same_refl x)) d)
          ∙ ap (λ zs. f x ++ zs) rest ∙ sym (ap (flat_map f) (insert_after_later x xs p q d))
    ]

-- the same two levels further down
pub two_levels : (f g : ℕ → List ℕ) (xs : List ℕ) → ((x : ℕ) → 1 ≤ times xs x → flat_map g (g x) ≡ flat_map f (f x))
    → flat_map g (flat_map g xs) ≡ flat_map f (flat_map f xs)
two_levels f g [] h = refl
two_levels f g (x ∷ xs) h =
    flat_map-append g (g x) (flat_map g xs) ∙ ap (λ zs. zs ++ flat_map g (flat_map g xs)) (h x (omega (arith, same_refl x)))
    ∙ ap (λ zs. flat_map f (f x) ++ zs) (two_levels f g xs (λ y m. h y (omega arith))) ∙ sym (flat_map-append f (f x) (flat_map f xs))
