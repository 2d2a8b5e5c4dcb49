-- Facts of all elements of lists, through what is put in, changed, or appended.
use Rattle.std.proofs.Common.{◌≡◌, ℕ, zero, suc, Bool, true, false, cond, ◌&&◌, List, [], ◌∷◌, ◌++◌, refl, ap, map, filter}
use Rattle.std.specs.List.{list_all, list_any}
use Rattle.std.proofs.lemmas.Bool.{or_left, or_right}
use Rattle.ft_base.specs.Scan.{change_range_from, one_more_if, put, put_past, within}
use Rattle.ft_base.proofs.Booleans.{both}
use Rattle.ft_laws_agreement.specs.Sequencing.{Each}

pub all-append : {A : Type 0} (test : A → Bool) (xs ys : List A) → list_all test xs ≡ true → list_all test ys ≡ true → list_all test (xs ++ ys) ≡ true
all-append test [] ys h g = g
all-append test (x ∷ xs) ys h g = let p = both (test x) (list_all test xs) h in rw (p.0, all-append test xs ys p.1 g) refl

all-past : {A : Type 0} (test past : A → Bool) (new xs : List A) → list_all test new ≡ true → list_all test xs ≡ true
    → list_all test (put_past past new xs) ≡ true
all-past test past new [] h g = h
all-past test past new (x ∷ xs) h g = step (past x) (all-past test past new xs h (both (test x) (list_all test xs) g).1)
  where
    step : (b : Bool) → list_all test (put_past past new xs) ≡ true → list_all test (cond b (x ∷ put_past past new xs) (new ++ (x ∷ xs))) ≡ true
    step true rest = rw ((both (test x) (list_all test xs) g).0, rest) refl
    step false rest = all-append test new (x ∷ xs) h g

pub all-put : {A : Type 0} (test seen past : A → Bool) (p : ℕ) (new xs : List A) → list_all test new ≡ true → list_all test xs ≡ true
    → list_all test (put seen past p new xs) ≡ true
all-put test seen past zero new xs h g = all-past test past new xs h g
all-put test seen past (suc p) new [] h g = h
all-put test seen past (suc p) new (x ∷ xs) h g =
    let q = both (test x) (list_all test xs) g in rw (q.0, all-put test seen past (cond (seen x) p (suc p)) new xs h q.1) refl

pub all-range : {A : Type 0} (test seen : A → Bool) (f : A → A) → ((x : A) → test x ≡ true → test (f x) ≡ true) → (i p q : ℕ) (xs : List A)
    → list_all test xs ≡ true → list_all test (change_range_from i seen p q f xs) ≡ true
all-range test seen f h i p q [] g = refl
all-range test seen f h i p q (x ∷ xs) g =
    let r = both (test x) (list_all test xs) g in
    rw (step (seen x && within p q i) r.0, all-range test seen f h (one_more_if (seen x) i) p q xs r.1) refl
  where
    step : (b : Bool) → test x ≡ true → test (cond b (f x) x) ≡ true
    step true t = h x t
    step false t = t

pub all-weaker : {A : Type 0} (s t : A → Bool) → ((x : A) → s x ≡ true → t x ≡ true) → (xs : List A) → list_all s xs ≡ true → list_all t xs ≡ true
all-weaker s t f [] h = refl
all-weaker s t f (x ∷ xs) h = let p = both (s x) (list_all s xs) h in rw (f x p.0, all-weaker s t f xs p.1) refl

pub filter-append : {A : Type 0} (test : A → Bool) (xs ys : List A) → filter test (xs ++ ys) ≡ filter test xs ++ filter test ys
filter-append test [] ys = refl
filter-append test (x ∷ xs) ys = step (test x) (filter-append test xs ys)
  where
    step : (b : Bool) → filter test (xs ++ ys) ≡ filter test xs ++ filter test ys
        → cond b (x ∷ filter test (xs ++ ys)) (filter test (xs ++ ys)) ≡ cond b (x ∷ filter test xs) (filter test xs) ++ filter test ys
    step true h = ap (λ zs. x ∷ zs) h
    step false h = h

pub map-append : {A B : Type 0} (f : A → B) (xs ys : List A) → map f (xs ++ ys) ≡ map f xs ++ map f ys
map-append f [] ys = refl
map-append f (x ∷ xs) ys = ap (λ zs. f x ∷ zs) (map-append f xs ys)

pub each-append : {A : Type 0} (P : A → Type 0) (xs ys : List A) → Each P xs → Each P ys → Each P (xs ++ ys)
each-append P [] ys h g = g
each-append P (x ∷ xs) ys h g = (h.0, each-append P xs ys h.1 g)

pub each-weaker : {A : Type 0} {P Q : A → Type 0} → ((x : A) → P x → Q x) → (xs : List A) → Each P xs → Each Q xs
each-weaker f [] h = tt
each-weaker f (x ∷ xs) h = (f x h.0, each-weaker f xs h.1)

-- what passes a test for an element holds of all of them
pub any-here : {A B : Type 0} (test : B → A → Bool) (xs : List A) → Each (λ x. (b : B) → test b x ≡ true → list_any (test b) xs ≡ true) xs
any-here test [] = tt
any-here test (x ∷ xs) = (
  λ b h. or_left (test b x) (list_any (test b) xs) h,
  each-weaker (λ y f b h. or_right (test b x) (list_any (test b) xs) (f b h)) xs (any-here test xs),
)
