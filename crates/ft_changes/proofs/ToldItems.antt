-- What is told of rising items leads from some to others.
use Rattle.std.proofs.Common.{◌≡◌, Bool, true, false, cond, List, [], ◌∷◌, ◌++◌, refl, sym, ◌∙◌, ap, append-nil, map}
use Rattle.std.specs.declared.cmp.Ordering.{Ordering}
use Rattle.std.specs.declared.cmp.Ordering.TheVariants.{Less, Equal, Greater}
use Rattle.ft_props.specs.Keys.{put_rising, remove_rising}
use Rattle.ft_changes.specs.declared.changes.ViewChange.{ViewChange}
use Rattle.ft_changes.specs.Shown.{ShownContent, after_change, after_changes}
use Rattle.ft_changes.specs.Told.{behind_set, dropped_before, not_before, set_unless_same, told_items}
use Rattle.ft_changes.proofs.ForeignSteps.{after-append}

-- the laws of an order of keys
pub record IsKeyOrder {A : Type 0} (order : A → A → Ordering) : Type 0 where
  pub same : (a : A) → order a a ≡ Equal
  pub back : (a b : A) → order a b ≡ Less → order b a ≡ Greater
  pub trans : (a b c : A) → order c b ≡ Greater → order b a ≡ Greater → order c a ≡ Greater
  pub alike : (a b c : A) → order a b ≡ Equal → order c b ≡ Greater → order c a ≡ Greater

-- all are behind x
abbrev pub AreBehind : {A : Type 0} → (A → A → Ordering) → A → List A → Type 0
AreBehind order x [] = Unit {0}
AreBehind order x (y ∷ ys) = (order y x ≡ Greater) × AreBehind order x ys

-- they rise
abbrev pub Rise : {A : Type 0} → (A → A → Ordering) → List A → Type 0
Rise order [] = Unit {0}
Rise order (x ∷ xs) = AreBehind order x xs × Rise order xs

-- each of them is before all of those
abbrev pub AreBefore : {A : Type 0} → (A → A → Ordering) → List A → List A → Type 0
AreBefore order [] ys = Unit {0}
AreBefore order (x ∷ xs) ys = AreBehind order x ys × AreBefore order xs ys

module _ {A : Type 0} (order : A → A → Ordering) (is : IsKeyOrder order) where
  -- ---- facts of rising lists

  pub behind-further : (x y : A) (zs : List A) → order y x ≡ Greater → AreBehind order y zs → AreBehind order x zs
  behind-further x y [] e h = tt
  behind-further x y (z ∷ zs) e h = (is.trans x y z h.0 e, behind-further x y zs e h.1)

  pub behind-alike : (x y : A) (zs : List A) → order x y ≡ Equal → AreBehind order y zs → AreBehind order x zs
  behind-alike x y [] e h = tt
  behind-alike x y (z ∷ zs) e h = (is.alike x y z e h.0, behind-alike x y zs e h.1)

  before-step : (x y : A) (P ys zs : List A) → AreBefore order P (x ∷ zs) → AreBefore order P zs
  before-step x y [] ys zs h = tt
  before-step x y (p ∷ P) ys zs h = (h.0.1, before-step x y P ys zs h.1)

  before-first : (x : A) (P zs : List A) → AreBefore order P (x ∷ zs) → AreBefore order P (x ∷ [])
  before-first x [] zs h = tt
  before-first x (p ∷ P) zs h = ((h.0.0, tt), before-first x P zs h.1)

  before-also : (x : A) (P zs : List A) → AreBefore order P zs → AreBehind order x zs → AreBefore order (P ++ x ∷ []) zs
  before-also x [] zs h b = (b, tt)
  before-also x (p ∷ P) zs h b = (h.0, before-also x P zs h.1 b)

  -- ---- what is put or removed behind the front

  put-front : (x : A) (P zs : List A) → AreBefore order P (x ∷ []) → put_rising order x (P ++ zs) ≡ P ++ put_rising order x zs
  put-front x [] zs h = refl
  put-front x (p ∷ P) zs h = by (order x p) h.0.0 (put-front x P zs h.1)
    where
      by : (o : Ordering) → o ≡ Greater → put_rising order x (P ++ zs) ≡ P ++ put_rising order x zs
          → elim o [ Less ↦ x ∷ p ∷ (P ++ zs) | Equal ↦ x ∷ (P ++ zs) | Greater ↦ p ∷ put_rising order x (P ++ zs) ] ≡ p ∷ (P ++ put_rising order x zs)
      by Less e rest = absurd cc
      by Equal e rest = absurd cc
      by Greater e rest = ap (λ ys. p ∷ ys) rest

  remove-front : (x : A) (P zs : List A) → AreBefore order P (x ∷ []) → remove_rising order x (P ++ zs) ≡ P ++ remove_rising order x zs
  remove-front x [] zs h = refl
  remove-front x (p ∷ P) zs h = by (order x p) h.0.0 (remove-front x P zs h.1)
    where
      by : (o : Ordering) → o ≡ Greater → remove_rising order x (P ++ zs) ≡ P ++ remove_rising order x zs
          → elim o [ Less ↦ p ∷ (P ++ zs) | Equal ↦ P ++ zs | Greater ↦ p ∷ remove_rising order x (P ++ zs) ] ≡ p ∷ (P ++ remove_rising order x zs)
      by Less e rest = absurd cc
      by Equal e rest = absurd cc
      by Greater e rest = ap (λ ys. p ∷ ys) rest

  remove-first : (x : A) (zs : List A) → remove_rising order x (x ∷ zs) ≡ zs
  remove-first x zs = ap (λ (o : Ordering). elim o as (λ _. List A) [ Less ↦ x ∷ zs | Equal ↦ zs | Greater ↦ x ∷ remove_rising order x zs ]) (is.same x)

  put-here : (x y : A) (zs : List A) (o : Ordering) → order x y ≡ o
      → put_rising order x (y ∷ zs) ≡ elim o as (λ _. List A) [ Less ↦ x ∷ y ∷ zs | Equal ↦ x ∷ zs | Greater ↦ y ∷ put_rising order x zs ]
  put-here x y zs o e = ap (λ (p : Ordering). elim p as (λ _. List A) [ Less ↦ x ∷ y ∷ zs | Equal ↦ x ∷ zs | Greater ↦ y ∷ put_rising order x zs ]) e

  next-front : (x : A) (P zs : List A) → (P ++ x ∷ []) ++ zs ≡ P ++ x ∷ zs
  next-front x [] zs = refl
  next-front x (p ∷ P) zs = ap (λ ys. p ∷ ys) (next-front x P zs)

  -- ---- what is told

  module _ (same : A → A → Bool) (same-is : (x y : A) → order x y ≡ Equal → same x y ≡ true → x ≡ y) (set drop : A → ViewChange) (with : List A → ShownContent)
      (sets : (x : A) (ys : List A) → after_change (with ys) (set x) ≡ with (put_rising order x ys))
      (drops : (x : A) (ys : List A) → after_change (with ys) (drop x) ≡ with (remove_rising order x ys)) where
    drop-front : (x : A) (P zs : List A) → AreBefore order P (x ∷ zs) → after_change (with (P ++ x ∷ zs)) (drop x) ≡ with (P ++ zs)
    drop-front x P zs h =
        drops x (P ++ x ∷ zs) ∙ ap with (remove-front x P (x ∷ zs) (before-first x P zs h) ∙ ap (λ ys. P ++ ys) (remove-first x zs))

    all-dropped : (P ys : List A) → AreBefore order P ys → after_changes (with (P ++ ys)) (map drop ys) ≡ with P
    all-dropped P [] h = ap with (append-nil P)
    all-dropped P (y ∷ ys) h = ap (λ s. after_changes s (map drop ys)) (drop-front y P ys h) ∙ all-dropped P ys (before-step y y P ys ys h)

    set-front : (x : A) (P zs : List A) → AreBefore order P (x ∷ []) → after_change (with (P ++ zs)) (set x) ≡ with (P ++ put_rising order x zs)
    set-front x P zs h = sets x (P ++ zs) ∙ ap with (put-front x P zs h)

    one-step : (x : A) (P ys : List A) → AreBefore order P (x ∷ []) → AreBefore order P ys
        → after_changes (with (P ++ ys)) (dropped_before order drop x ys ++ set_unless_same order same set x (not_before order x ys)) ≡ with (P ++ x ∷ behind_set order x (not_before order x ys))
    one-step x P [] hx hy = set-front x P [] hx
    one-step x P (y ∷ ys) hx hy = by (order x y) refl (one-step x P ys hx (before-step y y P ys ys hy))
      where
        by : (o : Ordering) → order x y ≡ o
            → after_changes (with (P ++ ys)) (dropped_before order drop x ys ++ set_unless_same order same set x (not_before order x ys)) ≡ with (P ++ x ∷ behind_set order x (not_before order x ys))
            → after_changes (with (P ++ y ∷ ys))
            (elim o as (λ _. List ViewChange) [ Greater ↦ drop y ∷ dropped_before order drop x ys | _ ↦ [] ]
            ++ set_unless_same order same set x (elim o as (λ _. List A) [ Greater ↦ not_before order x ys | _ ↦ y ∷ ys ]))
            ≡ with (P ++ x ∷ behind_set order x (elim o as (λ _. List A) [ Greater ↦ not_before order x ys | _ ↦ y ∷ ys ]))
        by Greater e rest =
            ap (λ s. after_changes s (dropped_before order drop x ys ++ set_unless_same order same set x (not_before order x ys))) (drop-front y P ys hy) ∙ rest
        by Less e rest = less (order x y) e
          where
            less : (o : Ordering) → o ≡ Less
                → after_changes (with (P ++ y ∷ ys)) (elim o as (λ _. List ViewChange) [ Equal ↦ cond (same x y) [] (set x ∷ []) | _ ↦ set x ∷ [] ])
                ≡ with (P ++ x ∷ elim o as (λ _. List A) [ Equal ↦ ys | _ ↦ y ∷ ys ])
            less Less d = set-front x P (y ∷ ys) hx ∙ ap (λ zs. with (P ++ zs)) (put-here x y ys Less e)
            less Equal d = absurd cc
            less Greater d = absurd cc
        by Equal e rest = equal (order x y) e (same x y) refl
          where
            equal : (o : Ordering) → o ≡ Equal → (b : Bool) → same x y ≡ b
                → after_changes (with (P ++ y ∷ ys)) (elim o as (λ _. List ViewChange) [ Equal ↦ cond b [] (set x ∷ []) | _ ↦ set x ∷ [] ])
                ≡ with (P ++ x ∷ elim o as (λ _. List A) [ Equal ↦ ys | _ ↦ y ∷ ys ])
            equal Equal d true s = ap (λ z. with (P ++ z ∷ ys)) (sym (same-is x y e s))
            equal Equal d false s = set-front x P (y ∷ ys) hx ∙ ap (λ zs. with (P ++ zs)) (put-here x y ys Equal e)
            equal Less d b s = absurd cc
            equal Greater d b s = absurd cc

    -- what is left behind x rises, is behind x, and behind all before
    record Rest (x : A) (P zs : List A) : Type 0 where
      pub behind : AreBehind order x zs
      pub rise : Rise order zs
      pub before : AreBefore order P zs

    rest-facts : (x : A) (P ys : List A) → Rise order ys → AreBefore order P ys → Rest x P (behind_set order x (not_before order x ys))
    rest-facts x P [] r b = record { behind = tt; rise = tt; before = b }
    rest-facts x P (y ∷ ys) r b = by (order x y) refl (rest-facts x P ys r.1 (before-step y y P ys ys b))
      where
        by : (o : Ordering) → order x y ≡ o → Rest x P (behind_set order x (not_before order x ys))
            → Rest x P (behind_set order x (elim o as (λ _. List A) [ Greater ↦ not_before order x ys | _ ↦ y ∷ ys ]))
        by Greater e rest = rest
        by Less e rest = less (order x y) e
          where
            less : (o : Ordering) → o ≡ Less → Rest x P (elim o as (λ _. List A) [ Equal ↦ ys | _ ↦ y ∷ ys ])
            less Less d = let behind = is.back x y e in record { behind = (behind, behind-further x y ys behind r.0); rise = r; before = b }
            less Equal d = absurd cc
            less Greater d = absurd cc
        by Equal e rest = equal (order x y) e
          where
            equal : (o : Ordering) → o ≡ Equal → Rest x P (elim o as (λ _. List A) [ Equal ↦ ys | _ ↦ y ∷ ys ])
            equal Equal d = record { behind = behind-alike x y ys e r.0; rise = r.1; before = before-step y y P ys ys b }
            equal Less d = absurd cc
            equal Greater d = absurd cc

    items-lead : (P ys xs : List A) → Rise order ys → Rise order xs → AreBefore order P ys → AreBefore order P xs
        → after_changes (with (P ++ ys)) (told_items order same set drop ys xs) ≡ with (P ++ xs)
    items-lead P ys [] ry rx by bx = all-dropped P ys by ∙ ap with (sym (append-nil P))
    items-lead P ys (x ∷ xs) ry rx by bx =
        let left = not_before order x ys in
        let rest = behind_set order x left in
        let facts = rest-facts x P ys ry by in
        let first = dropped_before order drop x ys ++ set_unless_same order same set x left in
        let later = told_items order same set drop rest xs in
        after-append (with (P ++ ys)) first later
        ∙ ap (λ s. after_changes s later) (one-step x P ys (before-first x P xs bx) by ∙ ap with (sym (next-front x P rest)))
        ∙ items-lead (P ++ x ∷ []) rest xs facts.rise rx.1 (before-also x P rest facts.before facts.behind) (before-also x P xs (before-step x x P xs xs bx) rx.0)
        ∙ ap with (next-front x P xs)

    pub told-items-lead : (ys xs : List A) → Rise order ys → Rise order xs → after_changes (with ys) (told_items order same set drop ys xs) ≡ with xs
    told-items-lead ys xs ry rx = items-lead [] ys xs ry rx tt tt
