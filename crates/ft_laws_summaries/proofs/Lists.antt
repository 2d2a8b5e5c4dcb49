-- Lists: a fact of each element, look-ups and filters of lists that grow or change.
use Rattle.std.proofs.Common.{◌≡◌, ℕ, zero, suc, Bool, true, false, cond, ◌&&◌, ◌||◌, nat_eq, List, [], ◌∷◌, ◌++◌, Some, map, filter, take, find, refl, sym, ◌∙◌, ap, subst, arith}
use Rattle.std.specs.List.{list_any}
use Rattle.std.proofs.lemmas.Bool.Decides.{nat_tests}
use Rattle.ft_base.specs.Scan.{change_range_from, len, one_more_if, put, put_past, within}
use Rattle.ft_props.specs.Element.{ListElement}
use Rattle.ft_laws_agreement.specs.Sequencing.{Each}

-- how many elements a list has, seen or not
abbrev pub size : List ListElement → ℕ
size xs = len (λ e. true) xs

-- ---- a fact of each element

pub each-weaker : {A : Type 0} (P Q : A → Type 0) → ((x : A) → P x → Q x) → (xs : List A) → Each P xs → Each Q xs
each-weaker P Q f [] h = h
each-weaker P Q f (x ∷ xs) h = (f x h.0, each-weaker P Q f xs h.1)

pub each-more : {A : Type 0} (P : A → Type 0) (xs : List A) (y : A) → Each P xs → P y → Each P (xs ++ (y ∷ []))
each-more P [] y h p = (p, h)
each-more P (x ∷ xs) y h p = (h.0, each-more P xs y h.1 p)

pub each-joined : {A : Type 0} (P : A → Type 0) (xs ys : List A) → Each P xs → Each P ys → Each P (xs ++ ys)
each-joined P [] ys h g = g
each-joined P (x ∷ xs) ys h g = (h.0, each-joined P xs ys h.1 g)

pub each-mapped : {A B : Type 0} (P : A → Type 0) (Q : B → Type 0) (f : A → B) → ((x : A) → P x → Q (f x)) → (xs : List A) → Each P xs → Each Q (map f xs)
each-mapped P Q f g [] h = h
each-mapped P Q f g (x ∷ xs) h = (g x h.0, each-mapped P Q f g xs h.1)

pub each-filtered : {A : Type 0} (P : A → Type 0) (test : A → Bool) (xs : List A) → Each P xs → Each P (filter test xs)
each-filtered P test [] h = h
each-filtered P test (x ∷ xs) h = by (each-filtered P test xs h.1) (test x)
  where
    by : Each P (filter test xs) → (b : Bool) → Each P (cond b (x ∷ filter test xs) (filter test xs))
    by ih true = (h.0, ih)
    by ih false = ih

pub each-taken : {A : Type 0} (P : A → Type 0) (n : ℕ) (xs : List A) → Each P xs → Each P (take n xs)
each-taken P zero xs h = tt
each-taken P (suc n) [] h = tt
each-taken P (suc n) (x ∷ xs) h = (h.0, each-taken P n xs h.1)

-- an insertion of elements that have it, and a change of seen ones that keeps it
each-put_past : {A : Type 0} (P : A → Type 0) (past : A → Bool) (new xs : List A) → Each P new → Each P xs → Each P (put_past past new xs)
each-put_past P past new [] g h = g
each-put_past P past new (x ∷ xs) g h = by (each-put_past P past new xs g h.1) (past x)
  where
    by : Each P (put_past past new xs) → (b : Bool) → Each P (cond b (x ∷ put_past past new xs) (new ++ (x ∷ xs)))
    by ih true = (h.0, ih)
    by ih false = each-joined P new (x ∷ xs) g h

pub each-put : {A : Type 0} (P : A → Type 0) (seen past : A → Bool) (p : ℕ) (new xs : List A) → Each P new → Each P xs → Each P (put seen past p new xs)
each-put P seen past zero new xs g h = each-put_past P past new xs g h
each-put P seen past (suc p) new [] g h = g
each-put P seen past (suc p) new (x ∷ xs) g h = (h.0, each-put P seen past (cond (seen x) p (suc p)) new xs g h.1)

pub each-range : {A : Type 0} (P : A → Type 0) (test : A → Bool) (f : A → A) → ((x : A) → P x → test x ≡ true → P (f x)) → (i p q : ℕ) (xs : List A) → Each P xs
    → Each P (change_range_from i test p q f xs)
each-range P test f k i p q [] h = tt
each-range P test f k i p q (x ∷ xs) h = (by (test x) (within p q i) refl, each-range P test f k (one_more_if (test x) i) p q xs h.1)
  where
    by : (s t : Bool) → test x ≡ s → P (cond (s && t) (f x) x)
    by true true e = k x h.0 e
    by true false e = h.0
    by false t e = h.0

-- what is found in a list has what each of its elements has, and passes the test
pub each-found : {A : Type 0} (P : A → Type 0) (test : A → Bool) (xs : List A) (x : A) → find test xs ≡ Some x → Each P xs → P x × (test x ≡ true)
each-found P test [] x h e = (cc)
each-found P test (y ∷ xs) x h e = by (λ g. each-found P test xs x g e.1) (test y) refl h
  where
    by : (find test xs ≡ Some x → P x × (test x ≡ true)) → (b : Bool) → test y ≡ b → cond b (Some y) (find test xs) ≡ Some x → P x × (test x ≡ true)
    by ih true t g =
        let same : y ≡ x = (cc) in
        (subst P same e.0, ap test (sym same) ∙ t)
    by ih false t g = ih g

-- a number that is in a list has what each of them has
pub each-any : (P : ℕ → Type 0) (n : ℕ) (xs : List ℕ) → list_any (nat_eq n) xs ≡ true → Each P xs → P n
each-any P n [] h e = (cc)
each-any P n (x ∷ xs) h e = by (λ g. each-any P n xs g e.1) (nat_eq n x) refl h
  where
    by : (list_any (nat_eq n) xs ≡ true → P n) → (b : Bool) → nat_eq n x ≡ b → b || list_any (nat_eq n) xs ≡ true → P n
    by ih true t g =
        let same : x ≡ n = grind (arith, nat_tests) in
        subst P same e.0
    by ih false t g = ih g

-- ---- look-ups

pub find-more : {A : Type 0} (test : A → Bool) (xs : List A) (y : A) → test y ≡ false → find test (xs ++ (y ∷ [])) ≡ find test xs
find-more test [] y h = rw h refl
find-more test (x ∷ xs) y h = ap (λ o. cond (test x) (Some x) o) (find-more test xs y h)

pub find-new : {A : Type 0} (test : A → Bool) (xs : List A) (y : A) → Each (λ x. test x ≡ false) xs → test y ≡ true → find test (xs ++ (y ∷ [])) ≡ Some y
find-new test [] y e h = rw h refl
find-new test (x ∷ xs) y e h = rw e.0 (find-new test xs y e.1 h)

-- a filter that lets all pass which the test finds
pub find-filtered : {A : Type 0} (test keep : A → Bool) → ((x : A) → test x ≡ true → keep x ≡ true) → (xs : List A) → find test (filter keep xs) ≡ find test xs
find-filtered test keep f [] = refl
find-filtered test keep f (x ∷ xs) = by (find-filtered test keep f xs) (keep x) (test x) refl refl
  where
    by : find test (filter keep xs) ≡ find test xs → (k t : Bool) → keep x ≡ k → test x ≡ t → find test (cond k (x ∷ filter keep xs) (filter keep xs))
        ≡ cond t (Some x) (find test xs)
    by ih true true g h = rw h refl
    by ih true false g h = rw h ih
    by ih false true g h = let one : keep x ≡ true = f x h in (cc)
    by ih false false g h = ih

-- a change of elements that the test doesn't find
pub find-changed : {A : Type 0} (test : A → Bool) (f : A → A) → ((x : A) → test (f x) ≡ test x) → ((x : A) → test x ≡ true → f x ≡ x) → (xs : List A)
    → find test (map f xs) ≡ find test xs
find-changed test f s k [] = refl
find-changed test f s k (x ∷ xs) = by (find-changed test f s k xs) (test x) refl
  where
    by : find test (map f xs) ≡ find test xs → (t : Bool) → test x ≡ t → cond (test (f x)) (Some (f x)) (find test (map f xs)) ≡ cond t (Some x) (find test xs)
    by ih true h = ap (λ b. cond b (Some (f x)) (find test (map f xs))) (s x ∙ h) ∙ ap Some (k x h)
    by ih false h = ap (λ b. cond b (Some (f x)) (find test (map f xs))) (s x ∙ h) ∙ ih

-- a change of what the test finds
pub find-mapped : {A : Type 0} (test : A → Bool) (f : A → A) → ((x : A) → test (f x) ≡ test x) → (xs : List A) (y : A) → find test xs ≡ Some y → find test (map f xs) ≡ Some (f y)
find-mapped test f s [] y h = (cc)
find-mapped test f s (x ∷ xs) y h = by (λ g. find-mapped test f s xs y g) (test x) refl h
  where
    by : (find test xs ≡ Some y → find test (map f xs) ≡ Some (f y)) → (t : Bool) → test x ≡ t → cond t (Some x) (find test xs) ≡ Some y
        → cond (test (f x)) (Some (f x)) (find test (map f xs)) ≡ Some (f y)
    by ih true e g =
        let same : x ≡ y = (cc) in
        ap (λ b. cond b (Some (f x)) (find test (map f xs))) (s x ∙ e) ∙ ap (λ z. Some (f z)) same
    by ih false e g = ap (λ b. cond b (Some (f x)) (find test (map f xs))) (s x ∙ e) ∙ ih g

-- ---- filters

pub filter-more : {A : Type 0} (test : A → Bool) (xs : List A) (y : A) → filter test (xs ++ (y ∷ [])) ≡ filter test xs ++ (cond (test y) (y ∷ []) [])
filter-more test [] y = refl
filter-more test (x ∷ xs) y = by (filter-more test xs y) (test x)
  where
    by : filter test (xs ++ (y ∷ [])) ≡ filter test xs ++ (cond (test y) (y ∷ []) []) → (t : Bool)
        → cond t (x ∷ filter test (xs ++ (y ∷ []))) (filter test (xs ++ (y ∷ []))) ≡ cond t (x ∷ filter test xs) (filter test xs) ++ (cond (test y) (y ∷ []) [])
    by ih true = ap (λ zs. x ∷ zs) ih
    by ih false = ih
