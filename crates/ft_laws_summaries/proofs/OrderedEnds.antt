-- The order in which two named elements stand in a list: it stays where the list grows, where its elements are renamed, and
-- where both settle.
use Rattle.std.proofs.Common.{◌≡◌, ℕ, zero, suc, ◌≤◌, ◌<◌, Bool, true, false, cond, not, ◌&&◌, ◌||◌, List, [], ◌∷◌, ◌++◌, ◌⊎◌, inl, inr, Option, Some, None, filter, find, map, option_map, refl, sym, ◌∙◌, ap, subst, arith}
use Rattle.std.specs.List.{list_all, list_any}
use Rattle.std.specs.Option.{option_or}
use Rattle.ft_base.specs.Scan.{at, change_range_from, len, one_more_if, put, put_past, rank, settled_after, within}
use Rattle.ft_base.proofs.Booleans.{both}
use Rattle.ft_props.specs.Element.{ElementId, ListElement, has_id, id, same_id, seen}
use Rattle.ft_props.specs.Slide.{settle}
use Rattle.ft_props.proofs.RebuiltList.{or_right}
use Rattle.ft_laws_agreement.specs.Trimming.{are_distinct_elements}
use Rattle.ft_laws_agreement.proofs.SlidEnds.{same_id-eq, same_id-refl}

-- ---- the order of two names

-- whether the first element that has one of two names has the first one
abbrev pub leads : ElementId → ElementId → List ListElement → Bool
leads a b [] = true
leads a b (e ∷ xs) = has_id a e || (not (has_id b e) && leads a b xs)

-- the same where both are given
abbrev pub AreInOrder : List ListElement → Option ElementId → Option ElementId → Type 0
AreInOrder xs (Some a) (Some b) = leads a b xs ≡ true
AreInOrder xs None b = Unit {0}
AreInOrder xs a None = Unit {0}

leads-itself : (a : ElementId) (xs : List ListElement) → leads a a xs ≡ true
leads-itself a [] = refl
leads-itself a (e ∷ xs) = by (has_id a e) (leads-itself a xs)
  where
    by : (b : Bool) → leads a a xs ≡ true → b || (not b && leads a a xs) ≡ true
    by true h = refl
    by false h = h

-- ---- lists that carry another one

-- some element of the list has the name, and what is behind it is as R says
abbrev pub Next : ElementId → List ListElement → (List ListElement → Type 0) → Type 0
Next a [] R = ⊥
Next a (y ∷ ys) R = ((id y ≡ a) × R ys) ⊎ Next a ys R

-- the second list has the elements of the first in order, renamed, and others between
abbrev pub Carries : (ElementId → ElementId) → List ListElement → List ListElement → Type 0
Carries h [] ys = Unit {0}
Carries h (x ∷ xs) ys = Next (h (id x)) ys (λ zs. Carries h xs zs)

next-weaker : (a b : ElementId) (R S : List ListElement → Type 0) → a ≡ b → ((zs : List ListElement) → R zs → S zs) → (ys : List ListElement) → Next a ys R → Next b ys S
next-weaker a b R S e f [] n = n
next-weaker a b R S e f (y ∷ ys) (inl h) = inl (h.0 ∙ e, f ys h.1)
next-weaker a b R S e f (y ∷ ys) (inr n) = inr (next-weaker a b R S e f ys n)

next-join : (a b : ElementId) (S : List ListElement → Type 0) (ys : List ListElement) → Next a ys (λ zs. Next b zs S) → Next b ys S
next-join a b S [] n = n
next-join a b S (y ∷ ys) (inl h) = inr h.1
next-join a b S (y ∷ ys) (inr n) = inr (next-join a b S ys n)

pub carries-itself : (xs : List ListElement) → Carries (λ a. a) xs xs
carries-itself [] = tt
carries-itself (x ∷ xs) = inl (refl, carries-itself xs)

carries-more : (x : ListElement) (new xs ys : List ListElement) → Carries (λ a. a) xs ys → Next (id x) (new ++ (x ∷ ys)) (λ zs. Carries (λ a. a) xs zs)
carries-more x [] xs ys c = inl (refl, c)
carries-more x (y ∷ new) xs ys c = inr (carries-more x new xs ys c)

carries-past : (past : ListElement → Bool) (new xs : List ListElement) → Carries (λ a. a) xs (put_past past new xs)
carries-past past new [] = tt
carries-past past new (x ∷ xs) = by (past x) (carries-past past new xs)
  where
    by : (b : Bool) → Carries (λ a. a) xs (put_past past new xs) → Next (id x) (cond b (x ∷ put_past past new xs) (new ++ (x ∷ xs))) (λ zs. Carries (λ a. a) xs zs)
    by true c = inl (refl, c)
    by false c = carries-more x new xs xs (carries-itself xs)

pub carries-put : (test past : ListElement → Bool) (p : ℕ) (new xs : List ListElement) → Carries (λ a. a) xs (put test past p new xs)
carries-put test past zero new xs = carries-past past new xs
carries-put test past (suc p) new [] = tt
carries-put test past (suc p) new (x ∷ xs) = inl (refl, carries-put test past (cond (test x) p (suc p)) new xs)

pub carries-range : (test : ListElement → Bool) (f : ListElement → ListElement) → ((e : ListElement) → id (f e) ≡ id e) → (p q i : ℕ) (xs : List ListElement)
    → Carries (λ a. a) xs (change_range_from i test p q f xs)
carries-range test f same p q i [] = tt
carries-range test f same p q i (x ∷ xs) = inl (by (test x && within p q i), carries-range test f same p q (one_more_if (test x) i) xs)
  where
    by : (b : Bool) → id (cond b (f x) x) ≡ id x
    by true = same x
    by false = refl

pub carries-map : (h : ElementId → ElementId) (f : ListElement → ListElement) (is : ListElement → Bool)
    → ((e : ListElement) → is e ≡ true → id (f e) ≡ h (id e)) → (xs : List ListElement) → list_all is xs ≡ true → Carries h xs (map f xs)
carries-map h f is same [] g = tt
carries-map h f is same (x ∷ xs) g =
    let p = both (is x) (list_all is xs) g in
    inl (same x p.0, carries-map h f is same xs p.1)

pub carries-then : (h g : ElementId → ElementId) (xs ys zs : List ListElement) → Carries h xs ys → Carries g ys zs → Carries (λ a. g (h a)) xs zs
carries-then h g [] ys zs c d = tt
carries-then h g (x ∷ xs) ys zs c d = by (λ us vs e f. carries-then h g xs us vs e f) ys zs c d
  where
    by : ((us vs : List ListElement) → Carries h xs us → Carries g us vs → Carries (λ a. g (h a)) xs vs) → (us vs : List ListElement)
        → Next (h (id x)) us (λ zs. Carries h xs zs) → Carries g us vs
        → Next (g (h (id x))) vs (λ zs. Carries (λ a. g (h a)) xs zs)
    by ih [] vs n f = absurd n
    by ih (u ∷ us) vs (inl e) f = next-weaker (g (id u)) (g (h (id x))) (λ zs. Carries g us zs) (λ zs. Carries (λ a. g (h a)) xs zs) (ap g e.0) (λ ws r. ih us ws e.1 r) vs f
    by ih (u ∷ us) vs (inr n) f =
        next-join (g (id u)) (g (h (id x))) (λ zs. Carries (λ a. g (h a)) xs zs) vs
        (next-weaker (g (id u)) (g (id u)) (λ zs. Carries g us zs) (λ zs. Next (g (h (id x))) zs (λ ws. Carries (λ a. g (h a)) xs ws)) refl (λ ws r. by ih us ws n r) vs f)

-- ---- the order stays in a list that carries another

-- what has a name has its new name
named-as : (h : ElementId → ElementId) (a : ElementId) (x y : ListElement) → id y ≡ h (id x) → has_id a x ≡ true → has_id (h a) y ≡ true
named-as h a x y e g = ap (same_id (h a)) (e ∙ ap h (sym (same_id-eq a (id x) g))) ∙ same_id-refl (h a)

pub any-carried : (h : ElementId → ElementId) (b : ElementId) (xs ys : List ListElement) → Carries h xs ys → list_any (has_id b) xs ≡ true → list_any (has_id (h b)) ys ≡ true
any-carried h b [] ys c g = (cc)
any-carried h b (x ∷ xs) ys c g = by (λ us d f. any-carried h b xs us d f) ys c
  where
    first : (us : List ListElement) (y : ListElement) → id y ≡ h (id x) → (list_any (has_id b) xs ≡ true → list_any (has_id (h b)) us ≡ true) → (t : Bool)
        → has_id b x ≡ t → t || list_any (has_id b) xs ≡ true
        → has_id (h b) y || list_any (has_id (h b)) us ≡ true
    first us y e ih true s f = ap (λ t. t || list_any (has_id (h b)) us) (named-as h b x y e s)
    first us y e ih false s f = or_right (has_id (h b) y) (list_any (has_id (h b)) us) (ih f)

    by : ((us : List ListElement) → Carries h xs us → list_any (has_id b) xs ≡ true → list_any (has_id (h b)) us ≡ true) → (us : List ListElement)
        → Next (h (id x)) us (λ zs. Carries h xs zs) → list_any (has_id (h b)) us ≡ true
    by ih [] n = absurd n
    by ih (u ∷ us) (inl e) = first us u e.0 (λ f. ih us e.1 f) (has_id b x) refl g
    by ih (u ∷ us) (inr n) = or_right (has_id (h b) u) (list_any (has_id (h b)) us) (by ih us n)

-- an element with the name of a later one isn't there
pub other-name : (b : ElementId) (y : ListElement) (ys : List ListElement) → are_distinct_elements (y ∷ ys) ≡ true → list_any (has_id b) ys ≡ true → has_id b y ≡ false
other-name b y ys d g = by (has_id b y) refl
  where
    by : (t : Bool) → has_id b y ≡ t → t ≡ false
    by false e = refl
    by true e =
        let p = both (not (list_any (has_id (id y)) ys)) (are_distinct_elements ys) d in
        let there : list_any (has_id (id y)) ys ≡ true = ap (λ a. list_any (has_id a) ys) (sym (same_id-eq b (id y) e)) ∙ g in
        let wrong : not true ≡ true = ap not (sym there) ∙ p.0 in
        (cc)

leads-behind : (a b : ElementId) (y : ListElement) (ys : List ListElement) → has_id b y ≡ false → leads a b ys ≡ true → leads a b (y ∷ ys) ≡ true
leads-behind a b y ys n l = by (has_id a y) (ap (λ t. not t && leads a b ys) n ∙ l)
  where
    by : (t : Bool) → not (has_id b y) && leads a b ys ≡ true → t || (not (has_id b y) && leads a b ys) ≡ true
    by true k = refl
    by false k = k

pub leads-carried : (h : ElementId → ElementId) (a b : ElementId) (xs ys : List ListElement) → Carries h xs ys → are_distinct_elements ys ≡ true
    → list_any (has_id b) xs ≡ true → leads a b xs ≡ true → leads (h a) (h b) ys ≡ true
leads-carried h a b [] ys c d g l = (cc)
leads-carried h a b (x ∷ xs) ys c d g l = by (λ us e f m k. leads-carried h a b xs us e f m k) ys c d
  where
    tail : (u : ListElement) (us : List ListElement) → are_distinct_elements (u ∷ us) ≡ true → are_distinct_elements us ≡ true
    tail u us f = (both (not (list_any (has_id (id u)) us)) (are_distinct_elements us) f).1

    here : (u : ListElement) (us : List ListElement) → id u ≡ h (id x) → Carries h xs us → are_distinct_elements (u ∷ us) ≡ true
        → (are_distinct_elements us ≡ true → list_any (has_id b) xs ≡ true → leads a b xs ≡ true → leads (h a) (h b) us ≡ true)
        → (s t : Bool) → has_id a x ≡ s → has_id b x ≡ t → t || list_any (has_id b) xs ≡ true → s || (not t && leads a b xs) ≡ true → leads (h a) (h b) (u ∷ us) ≡ true
    here u us e c f ih true t p q m k = ap (λ v. v || (not (has_id (h b) u) && leads (h a) (h b) us)) (named-as h a x u e p)
    here u us e c f ih false true p q m k = (cc)
    here u us e c f ih false false p q m k = leads-behind (h a) (h b) u us (other-name (h b) u us f (any-carried h b xs us c m)) (ih (tail u us f) m k)

    by : ((us : List ListElement) → Carries h xs us → are_distinct_elements us ≡ true → list_any (has_id b) xs ≡ true → leads a b xs ≡ true → leads (h a) (h b) us ≡ true)
        → (us : List ListElement) → Next (h (id x)) us (λ zs. Carries h xs zs) → are_distinct_elements us ≡ true → leads (h a) (h b) us ≡ true
    by ih [] n f = absurd n
    by ih (u ∷ us) (inl e) f = here u us e.0 e.1 f (λ f m k. ih us e.1 f m k) (has_id a x) (has_id b x) refl refl g l
    by ih (u ∷ us) (inr n) f =
        let there : list_any (has_id (h b)) us ≡ true = any-carried h b (x ∷ xs) us n g in
        leads-behind (h a) (h b) u us (other-name (h b) u us f there) (by ih us n (tail u us f))

-- ---- numbers in a view

pub rank-leads : (test : ListElement → Bool) (a b : ElementId) (xs : List ListElement) → leads a b xs ≡ true → rank (has_id a) test xs ≤ rank (has_id b) test xs
rank-leads test a b [] l = omega arith
rank-leads test a b (e ∷ xs) l = by (has_id a e) (has_id b e) l (λ k. rank-leads test a b xs k)
  where
    more : (t : Bool) (m n : ℕ) → m ≤ n → one_more_if t m ≤ one_more_if t n
    more true m n k = omega (arith, k)
    more false m n k = k

    by : (s t : Bool) → s || (not t && leads a b xs) ≡ true → (leads a b xs ≡ true → rank (has_id a) test xs ≤ rank (has_id b) test xs)
        → cond s 0 (one_more_if (test e) (rank (has_id a) test xs)) ≤ cond t 0 (one_more_if (test e) (rank (has_id b) test xs))
    by true t k ih = omega arith
    by false true k ih = (cc)
    by false false k ih = more (test e) (rank (has_id a) test xs) (rank (has_id b) test xs) (ih k)

-- where all that have the names pass
pub leads-filter : (keep : ListElement → Bool) (a b : ElementId) (xs : List ListElement) → list_all (λ e. not (has_id a e) || keep e) xs ≡ true
    → list_all (λ e. not (has_id b e) || keep e) xs ≡ true
    → leads a b (filter keep xs) ≡ leads a b xs
leads-filter keep a b [] f g = refl
leads-filter keep a b (e ∷ xs) f g =
    let p = both (not (has_id a e) || keep e) (list_all (λ e. not (has_id a e) || keep e) xs) f in
    let q = both (not (has_id b e) || keep e) (list_all (λ e. not (has_id b e) || keep e) xs) g in
    by (has_id a e) (has_id b e) (keep e) refl refl p.0 q.0 (leads-filter keep a b xs p.1 q.1)
  where
    by : (s t k : Bool) → has_id a e ≡ s → has_id b e ≡ t → not s || k ≡ true → not t || k ≡ true → leads a b (filter keep xs) ≡ leads a b xs
        → leads a b (cond k (e ∷ filter keep xs) (filter keep xs)) ≡ s || (not t && leads a b xs)
    by s t true i j m n ih = rw (i, j, ih) refl
    by true t false i j m n ih = (cc)
    by false true false i j m n ih = (cc)
    by false false false i j m n ih = ih

-- ---- what stands at two numbers

pub at-named : (test : ListElement → Bool) (i : ℕ) (xs : List ListElement) (e : ListElement) → at test i xs ≡ Some e → list_any (has_id (id e)) xs ≡ true
at-named test i [] e h = (cc)
at-named test zero (x ∷ xs) e h = by (at-named test zero xs e) (test x) h
  where
    by : (at test zero xs ≡ Some e → list_any (has_id (id e)) xs ≡ true) → (t : Bool) → cond t (Some x) (at test zero xs) ≡ Some e → has_id (id e) x
        || list_any (has_id (id e)) xs ≡ true
    by ih true g =
        let same : x ≡ e = (cc) in
        ap (λ t. t || list_any (has_id (id e)) xs) (ap (λ (d : ListElement). same_id (id e) (id d)) same ∙ same_id-refl (id e))
    by ih false g = or_right (has_id (id e) x) (list_any (has_id (id e)) xs) (ih g)
at-named test (suc i) (x ∷ xs) e h = or_right (has_id (id e) x) (list_any (has_id (id e)) xs) (at-named test (cond (test x) i (suc i)) xs e h)

pub at-leads : (test : ListElement → Bool) (i j : ℕ) (xs : List ListElement) (d e : ListElement) → i ≤ j → are_distinct_elements xs ≡ true → at test i xs ≡ Some d
    → at test j xs ≡ Some e → leads (id d) (id e) xs ≡ true
at-leads test i j [] d e l s h g = (cc)
at-leads test i j (x ∷ xs) d e l s h g = by (λ m n k p q. at-leads test m n xs d e k (both (not (list_any (has_id (id x)) xs)) (are_distinct_elements xs) s).1 p q) (test x) refl
    i j l h g
  where
    later : ((m n : ℕ) → m ≤ n → at test m xs ≡ Some d → at test n xs ≡ Some e → leads (id d) (id e) xs ≡ true) → (m n : ℕ) → m ≤ n → at test m xs ≡ Some d
        → at test n xs ≡ Some e → leads (id d) (id e) (x ∷ xs) ≡ true
    later ih m n k p q = leads-behind (id d) (id e) x xs (other-name (id e) x xs s (at-named test n xs e q)) (ih m n k p q)

    by : ((m n : ℕ) → m ≤ n → at test m xs ≡ Some d → at test n xs ≡ Some e → leads (id d) (id e) xs ≡ true) → (t : Bool) → test x ≡ t → (m n : ℕ) → m ≤ n
        → at test m (x ∷ xs) ≡ Some d → at test n (x ∷ xs) ≡ Some e → leads (id d) (id e) (x ∷ xs) ≡ true
    by ih true p zero n k u v =
        let first : Some x ≡ Some d = sym (ap (λ b. cond b (Some x) (at test zero xs)) p) ∙ u in
        let same : x ≡ d = (cc) in
        ap (λ b. b || (not (has_id (id e) x) && leads (id d) (id e) xs)) (ap (λ (c : ListElement). same_id (id d) (id c)) same ∙ same_id-refl (id d))
    by ih true p (suc m) zero k u v = absurd (omega (arith, k))
    by ih true p (suc m) (suc n) k u v = later ih m n (omega (arith, k)) (sym (ap (λ b. at test (cond b m (suc m)) xs) p) ∙ u) (sym (ap (λ b. at test (cond b n (suc n)) xs) p) ∙ v)
    by ih false p zero zero k u v = later ih 0 0 k (sym (ap (λ b. cond b (Some x) (at test zero xs)) p) ∙ u) (sym (ap (λ b. cond b (Some x) (at test zero xs)) p) ∙ v)
    by ih false p zero (suc n) k u v = later ih 0 (suc n) k (sym (ap (λ b. cond b (Some x) (at test zero xs)) p) ∙ u) (sym (ap (λ b. at test (cond b n (suc n)) xs) p) ∙ v)
    by ih false p (suc m) zero k u v = absurd (omega (arith, k))
    by ih false p (suc m) (suc n) k u v = later ih (suc m) (suc n) k (sym (ap (λ b. at test (cond b m (suc m)) xs) p) ∙ u) (sym (ap (λ b. at test (cond b n (suc n)) xs) p) ∙ v)

-- ---- what settles

-- the last element that passes, or what was last before
abbrev pub last_ok : (ListElement → Bool) → Option ListElement → List ListElement → Option ListElement
last_ok ok last [] = last
last_ok ok last (x ∷ xs) = last_ok ok (cond (ok x) (Some x) last) xs

find-at : (ok : ListElement → Bool) (xs : List ListElement) → find ok xs ≡ at ok zero xs
find-at ok [] = refl
find-at ok (x ∷ xs) = ap (λ o. cond (ok x) (Some x) o) (find-at ok xs)

none-last : (ok : ListElement → Bool) (last : Option ListElement) (xs : List ListElement) → find ok xs ≡ None → last_ok ok last xs ≡ last
none-last ok last [] h = refl
none-last ok last (x ∷ xs) h = by (ok x) h (λ l g. none-last ok l xs g)
  where
    by : (t : Bool) → cond t (Some x) (find ok xs) ≡ None → ((l : Option ListElement) → find ok xs ≡ None → last_ok ok l xs ≡ l) → last_ok ok (cond t (Some x) last) xs ≡ last
    by true g ih = (cc)
    by false g ih = ih last g

at-behind : (ok : ListElement → Bool) (x : ListElement) (xs : List ListElement) (n : ℕ) (t : Bool) → ok x ≡ t → at ok (one_more_if t n) (x ∷ xs) ≡ at ok n xs
at-behind ok x xs n true h = ap (λ b. at ok (cond b n (suc n)) xs) h
at-behind ok x xs zero false h = ap (λ b. cond b (Some x) (at ok zero xs)) h
at-behind ok x xs (suc n) false h = ap (λ b. at ok (cond b n (suc n)) xs) h

first-or : (o p : Option ListElement) (q : Option ListElement) → (o ≡ None → q ≡ p) → option_or o p ≡ option_or o q
first-or None p q f = sym (f refl)
first-or (Some x) p q f = refl

settled-at : (is ok : ListElement → Bool) (last : Option ListElement) (xs : List ListElement) → list_any is xs ≡ true → settled_after is ok last xs
    ≡ option_or (at ok (rank is ok xs) xs) (last_ok ok last xs)
settled-at is ok last [] h = (cc)
settled-at is ok last (x ∷ xs) h = by (is x) (ok x) refl h (λ l g. settled-at is ok l xs g)
  where
    found : (t : Bool) → find ok (x ∷ xs) ≡ None → last_ok ok last (x ∷ xs) ≡ last
    found t g = none-last ok last (x ∷ xs) g

    by : (s t : Bool) → ok x ≡ t → s || list_any is xs ≡ true → ((l : Option ListElement) → list_any is xs ≡ true → settled_after is ok l xs
        ≡ option_or (at ok (rank is ok xs) xs) (last_ok ok l xs))
        → cond s (option_or (find ok (x ∷ xs)) last) (settled_after is ok (cond (ok x) (Some x) last) xs)
        ≡ option_or (at ok (cond s 0 (one_more_if t (rank is ok xs))) (x ∷ xs)) (last_ok ok last (x ∷ xs))
    by true t e g ih =
        first-or (find ok (x ∷ xs)) last (last_ok ok last (x ∷ xs)) (λ n. found true n)
        ∙ ap (λ o. option_or o (last_ok ok last (x ∷ xs))) (find-at ok (x ∷ xs))
    by false t e g ih =
        ih (cond (ok x) (Some x) last) g
        ∙ ap (λ o. option_or o (last_ok ok last (x ∷ xs))) (sym (at-behind ok x xs (rank is ok xs) t e))

-- an element stands at each number below the count, and at no other
pub at-below : (ok : ListElement → Bool) (i : ℕ) (xs : List ListElement) (e : ListElement) → at ok i xs ≡ Some e → i < len ok xs
at-below ok i [] e h = (cc)
at-below ok zero (x ∷ xs) e h = by (ok x) h (at-below ok zero xs e)
  where
    by : (t : Bool) → cond t (Some x) (at ok zero xs) ≡ Some e → (at ok zero xs ≡ Some e → 0 < len ok xs) → 0 < one_more_if t (len ok xs)
    by true g ih = omega arith
    by false g ih = ih g
at-below ok (suc i) (x ∷ xs) e h = by (ok x) h (λ n g. at-below ok n xs e g)
  where
    by : (t : Bool) → at ok (cond t i (suc i)) xs ≡ Some e → ((n : ℕ) → at ok n xs ≡ Some e → n < len ok xs) → suc i < one_more_if t (len ok xs)
    by true g ih = let k = ih i g in omega (arith, k)
    by false g ih = let k = ih (suc i) g in omega (arith, k)

pub at-above : (ok : ListElement → Bool) (i : ℕ) (xs : List ListElement) → at ok i xs ≡ None → len ok xs ≤ i
at-above ok i [] h = omega arith
at-above ok zero (x ∷ xs) h = by (ok x) h (at-above ok zero xs)
  where
    by : (t : Bool) → cond t (Some x) (at ok zero xs) ≡ None → (at ok zero xs ≡ None → len ok xs ≤ 0) → one_more_if t (len ok xs) ≤ 0
    by true g ih = (cc)
    by false g ih = ih g
at-above ok (suc i) (x ∷ xs) h = by (ok x) h (λ n g. at-above ok n xs g)
  where
    by : (t : Bool) → at ok (cond t i (suc i)) xs ≡ None → ((n : ℕ) → at ok n xs ≡ None → len ok xs ≤ n) → one_more_if t (len ok xs) ≤ suc i
    by true g ih = let k = ih i g in omega (arith, k)
    by false g ih = let k = ih (suc i) g in omega (arith, k)

-- the last one that passes stands at the last number
last-at : (ok : ListElement → Bool) (last : Option ListElement) (m : ℕ) (xs : List ListElement) → len ok xs ≡ suc m → last_ok ok last xs ≡ at ok m xs
last-at ok last m [] h = absurd (omega (arith, h))
last-at ok last m (x ∷ xs) h = by (ok x) refl h m refl (λ l n g. last-at ok l n xs g)
  where
    none : (zs : List ListElement) → len ok zs ≡ 0 → find ok zs ≡ None
    none [] g = refl
    none (z ∷ zs) g = step (ok z) g (λ k. none zs k)
      where
        step : (t : Bool) → one_more_if t (len ok zs) ≡ 0 → (len ok zs ≡ 0 → find ok zs ≡ None) → cond t (Some z) (find ok zs) ≡ None
        step true k ih = absurd (omega (arith, k))
        step false k ih = ih k

    by : (t : Bool) → ok x ≡ t → one_more_if t (len ok xs) ≡ suc m → (n : ℕ) → n ≡ m
        → ((l : Option ListElement) (n : ℕ) → len ok xs ≡ suc n → last_ok ok l xs ≡ at ok n xs) → last_ok ok (cond t (Some x) last) xs ≡ at ok n (x ∷ xs)
    by true e g zero q ih = none-last ok (Some x) xs (none xs (omega (arith, g, q))) ∙ sym (ap (λ b. cond b (Some x) (at ok zero xs)) e)
    by true e g (suc n) q ih = ih (Some x) n (omega (arith, g, q)) ∙ sym (ap (λ b. at ok (cond b n (suc n)) xs) e)
    by false e g n q ih = ih last n (omega (arith, g, q)) ∙ sym (at-behind ok x xs n false e)

-- the element at a number, or the last one, stands in order with that at a later number
ordered-at : (ok : ListElement → Bool) (i j : ℕ) (xs : List ListElement) → i ≤ j → are_distinct_elements xs ≡ true
    → AreInOrder xs (option_map id (option_or (at ok i xs) (last_ok ok None xs))) (option_map id (option_or (at ok j xs) (last_ok ok None xs)))
ordered-at ok i j xs l s = by (at ok i xs) (at ok j xs) (last_ok ok None xs) refl refl refl
  where
    last : (d : ListElement) (o : Option ListElement) → at ok i xs ≡ Some d → last_ok ok None xs ≡ o → (m : ℕ) → len ok xs ≡ m → AreInOrder xs (Some (id d)) (option_map id o)
    last d None p q m c = tt
    last d (Some e) p q zero c = let b = at-below ok i xs d p in absurd (omega (arith, b, c))
    last d (Some e) p q (suc m) c = let b = at-below ok i xs d p in at-leads ok i m xs d e (omega (arith, b, c)) s p (sym (last-at ok None m xs c) ∙ q)

    itself : (o : Option ListElement) → AreInOrder xs (option_map id o) (option_map id o)
    itself None = tt
    itself (Some e) = leads-itself (id e) xs

    by : (u v o : Option ListElement) → at ok i xs ≡ u → at ok j xs ≡ v → last_ok ok None xs ≡ o → AreInOrder xs (option_map id (option_or u o)) (option_map id (option_or v o))
    by (Some d) (Some e) o p q r = at-leads ok i j xs d e l s p q
    by (Some d) None o p q r = last d o p r (len ok xs) refl
    by None None o p q r = itself o
    by None (Some e) o p q r = let a = at-above ok i xs p in let b = at-below ok j xs e q in absurd (omega (arith, a, b, l))

-- two names in order settle in order
pub leads-settled : (k : ℕ) (a b : ElementId) (xs : List ListElement) → are_distinct_elements xs ≡ true → list_any (has_id a) xs ≡ true → list_any (has_id b) xs ≡ true
    → leads a b xs ≡ true
    → AreInOrder xs (settle xs k (Some a)) (settle xs k (Some b))
leads-settled k a b xs s f g l =
    subst (λ o. AreInOrder xs (option_map id o) (settle xs k (Some b))) (sym (settled-at (has_id a) (seen k) None xs f))
    (subst (λ o. AreInOrder xs (option_map id (option_or (at (seen k) (rank (has_id a) (seen k) xs) xs) (last_ok (seen k) None xs))) (option_map id o))
    (sym (settled-at (has_id b) (seen k) None xs g))
    (ordered-at (seen k) (rank (has_id a) (seen k) xs) (rank (has_id b) (seen k) xs) xs (rank-leads (seen k) a b xs l) s))
