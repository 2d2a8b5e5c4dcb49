-- An end that slides twice, the second time after more removals, comes where it slides the second time alone; and one
-- that stands on an unremoved element stays.
use Rattle.std.proofs.Common.{◌≡◌, ℕ, suc, ◌≤◌, Bool, true, false, cond, ◌&&◌, ◌||◌, nat_eq, List, [], ◌∷◌, Option, Some, None, find, refl, sym, ◌∙◌, ap, subst, arith}
use Rattle.std.specs.List.{list_any}
use Rattle.std.specs.Option.{option_map, option_or}
use Rattle.ft_base.proofs.Booleans.{both}
use Rattle.ft_base.specs.Scan.{len, one_more_if, settled_after}
use Rattle.ft_props.specs.Element.{ElementId, SequencedId, PendingId, ListElement, has_id, id, is_sequenced, is_unremoved, same_id}
use Rattle.ft_props.specs.Slide.{slide}
use Rattle.ft_laws_agreement.proofs.Booleans.{never, or-true}
use Rattle.ft_props.proofs.AcknowledgedInsertion.{same_nat}
use Rattle.ft_laws_agreement.proofs.NumberTests.{same_number}

-- the element of that name is sequenced
abbrev pub is_meant : ElementId → ListElement → Bool
is_meant a e = is_sequenced e && has_id a e

-- an element if the test passes
abbrev pub some_if : Bool → ListElement → Option ElementId
some_if true e = Some (id e)
some_if false e = None

-- the name of the first unremoved element
abbrev pub first_unremoved : List ListElement → Option ElementId
first_unremoved [] = None
first_unremoved (e ∷ xs) = cond (is_unremoved e) (Some (id e)) (first_unremoved xs)

-- the slide from the front: an end that finds no place behind an element goes to that one
abbrev pub slid : ElementId → List ListElement → Option ElementId
slid a [] = None
slid a (e ∷ xs) = cond (is_meant a e) (first_unremoved (e ∷ xs)) (cond (list_any (is_meant a) xs) (option_or (slid a xs) (some_if (is_unremoved e) e)) None)

-- the second list is the first with more removals
abbrev pub MoreRemoved : List ListElement → List ListElement → Type 0
MoreRemoved [] [] = Unit {0}
MoreRemoved [] (y ∷ ys) = ⊥
MoreRemoved (x ∷ xs) [] = ⊥
MoreRemoved (x ∷ xs) (y ∷ ys) = (id y ≡ id x) × (is_sequenced y ≡ is_sequenced x) × (is_unremoved y ≡ true → is_unremoved x ≡ true) × MoreRemoved xs ys

-- each name stands once
abbrev pub Once : List ListElement → Type 0
Once xs = (a : ElementId) → len (has_id a) xs ≤ 1

first-found : (xs : List ListElement) → option_map id (find is_unremoved xs) ≡ first_unremoved xs
first-found [] = refl
first-found (e ∷ xs) = grind (arith, first-found xs)

map-or : (o p : Option ListElement) → option_map id (option_or o p) ≡ option_or (option_map id o) (option_map id p)
map-or None p = refl
map-or (Some e) p = refl

or-none : (o : Option ElementId) → option_or o None ≡ o
or-none None = refl
or-none (Some a) = refl

settled-slid : (a : ElementId) (last : Option ListElement) (xs : List ListElement)
    → option_map id (settled_after (is_meant a) is_unremoved last xs) ≡ cond (list_any (is_meant a) xs) (option_or (slid a xs) (option_map id last)) None
settled-slid a last [] = refl
settled-slid a last (e ∷ xs) =
    grind (arith, settled-slid a last xs, settled-slid a (Some e) xs, first-found (e ∷ xs), map-or (find is_unremoved (e ∷ xs)) last)

none-absent : (a : ElementId) (xs : List ListElement) → cond (list_any (is_meant a) xs) (option_or (slid a xs) None) None ≡ slid a xs
none-absent a [] = refl
none-absent a (e ∷ xs) = grind (arith, none-absent a xs, or-none (slid a (e ∷ xs)))

pub slide-slid : (xs : List ListElement) (a : ElementId) → slide xs (Some a) ≡ slid a xs
slide-slid xs a = settled-slid a None xs ∙ none-absent a xs

-- ---- names

pub same_id-refl : (a : ElementId) → same_id a a ≡ true
same_id-refl (SequencedId n) = same_nat n
same_id-refl (PendingId k n) = rw (same_nat k, same_nat n) refl

pub same_id-eq : (a b : ElementId) → same_id a b ≡ true → a ≡ b
same_id-eq (SequencedId m) (SequencedId n) h = ap SequencedId (same_number m n h)
same_id-eq (SequencedId m) (PendingId k n) h = (cc)
same_id-eq (PendingId j m) (SequencedId n) h = (cc)
same_id-eq (PendingId j m) (PendingId k n) h =
    let p = both (nat_eq j k) (nat_eq m n) h in
    ap (λ i. PendingId i m) (same_number j k p.0) ∙ ap (PendingId k) (same_number m n p.1)

pub true-false : true ≡ false → ⊥
true-false h = (cc)

pub once-tail : (x : ListElement) (xs : List ListElement) → Once (x ∷ xs) → Once xs
once-tail x xs h a = shorter (has_id a x) (len (has_id a) xs) (h a)
  where
    shorter : (b : Bool) (n : ℕ) → one_more_if b n ≤ 1 → n ≤ 1
    shorter true n l = omega arith
    shorter false n l = l

none-meant : (a : ElementId) (xs : List ListElement) → len (has_id a) xs ≡ 0 → list_any (is_meant a) xs ≡ false
none-meant a [] h = refl
none-meant a (x ∷ xs) h = grind (arith, none-meant a xs)

-- what stands once stands not behind itself
head-once : (a : ElementId) (x : ListElement) (xs : List ListElement) → Once (x ∷ xs) → has_id a x ≡ true → list_any (is_meant a) xs ≡ false
head-once a x xs h here =
    let l : suc (len (has_id a) xs) ≤ 1 = subst (λ b. one_more_if b (len (has_id a) xs) ≤ 1) here (h a) in
    none-meant a xs (omega arith)

not-head : (a : ElementId) (x : ListElement) (xs : List ListElement) → Once (x ∷ xs) → list_any (is_meant a) xs ≡ true → has_id a x ≡ false
not-head a x xs h there = cases (has_id a x) refl
  where
    cases : (b : Bool) → has_id a x ≡ b → b ≡ false
    cases true e = absurd (true-false (sym there ∙ head-once a x xs h e))
    cases false e = refl

sequenced-unremoved : (x : ListElement) → is_unremoved x ≡ true → is_sequenced x ≡ true
sequenced-unremoved x h = (both (is_sequenced x) _ h).0

meant-itself : (x : ListElement) → is_unremoved x ≡ true → is_meant (id x) x ≡ true
meant-itself x h = rw (sequenced-unremoved x h) (same_id-refl (id x))

first-step : (b : ElementId) (x : ListElement) (xs : List ListElement) → (first_unremoved xs ≡ Some b → list_any (is_meant b) xs ≡ true)
    → (t : Bool) → is_unremoved x ≡ t → cond t (Some (id x)) (first_unremoved xs) ≡ Some b → (is_meant b x || list_any (is_meant b) xs) ≡ true
first-step b x xs ih true e g =
    let same : id x ≡ b = (cc) in
    rw (subst (λ c. is_meant c x ≡ true) same (meant-itself x e)) refl
first-step b x xs ih false e g = rw (ih g) (or-true (is_meant b x))

pub first-meant : (b : ElementId) (xs : List ListElement) → first_unremoved xs ≡ Some b → list_any (is_meant b) xs ≡ true
first-meant b [] h = (cc)
first-meant b (x ∷ xs) h = first-step b x xs (first-meant b xs) (is_unremoved x) refl h

-- the element that an end slides to is in the list
slid-step : (a b : ElementId) (x : ListElement) (xs : List ListElement) → (slid a xs ≡ Some b → list_any (is_meant b) xs ≡ true)
    → (t u : Bool) → is_unremoved x ≡ t → slid a xs ≡ slid a xs → cond u (option_or (slid a xs) (some_if t x)) None ≡ Some b → (is_meant b x || list_any (is_meant b) xs) ≡ true
slid-step a b x xs ih t false e r g = (cc)
slid-step a b x xs ih t true e r g = found (slid a xs) refl g
  where
    found : (o : Option ElementId) → slid a xs ≡ o → option_or o (some_if t x) ≡ Some b → (is_meant b x || list_any (is_meant b) xs) ≡ true
    found (Some c) f h = rw (ih (f ∙ h)) (or-true (is_meant b x))
    found None f h = last t e h
      where
        last : (v : Bool) → is_unremoved x ≡ v → some_if v x ≡ Some b → (is_meant b x || list_any (is_meant b) xs) ≡ true
        last true i k =
            let same : id x ≡ b = (cc) in
            rw (subst (λ c. is_meant c x ≡ true) same (meant-itself x i)) refl
        last false i k = (cc)

meant-step : (a b : ElementId) (x : ListElement) (xs : List ListElement) → (slid a xs ≡ Some b → list_any (is_meant b) xs ≡ true)
    → (m : Bool) → cond m (first_unremoved (x ∷ xs)) (cond (list_any (is_meant a) xs) (option_or (slid a xs) (some_if (is_unremoved x) x)) None) ≡ Some b
    → (is_meant b x || list_any (is_meant b) xs) ≡ true
meant-step a b x xs ih true g = first-meant b (x ∷ xs) g
meant-step a b x xs ih false g = slid-step a b x xs ih (is_unremoved x) (list_any (is_meant a) xs) refl refl g

pub slid-meant : (a b : ElementId) (xs : List ListElement) → slid a xs ≡ Some b → list_any (is_meant b) xs ≡ true
slid-meant a b [] h = (cc)
slid-meant a b (x ∷ xs) h = meant-step a b x xs (slid-meant a b xs) (is_meant a x) h

-- ---- both lists

same-meant : (a : ElementId) (xs ys : List ListElement) → MoreRemoved xs ys → list_any (is_meant a) ys ≡ list_any (is_meant a) xs
same-meant a [] [] h = refl
same-meant a [] (y ∷ ys) h = absurd h
same-meant a (x ∷ xs) [] h = absurd h
same-meant a (x ∷ xs) (y ∷ ys) h = rw (h.0, h.1, same-meant a xs ys h.3) refl

removed-too : (x y : ListElement) → (is_unremoved y ≡ true → is_unremoved x ≡ true) → is_unremoved x ≡ false → is_unremoved y ≡ false
removed-too x y h g = cases (is_unremoved y) refl
  where
    cases : (b : Bool) → is_unremoved y ≡ b → b ≡ false
    cases true e = absurd (true-false (sym (h e) ∙ g))
    cases false e = refl

none-step : (x y : ListElement) (xs ys : List ListElement) → (is_unremoved y ≡ true → is_unremoved x ≡ true) → (first_unremoved xs ≡ None → first_unremoved ys ≡ None)
    → (t : Bool) → is_unremoved x ≡ t → cond t (Some (id x)) (first_unremoved xs) ≡ None → cond (is_unremoved y) (Some (id y)) (first_unremoved ys) ≡ None
none-step x y xs ys h ih true e f = (cc)
none-step x y xs ys h ih false e f = rw (removed-too x y h e) (ih f)

none-left : (xs ys : List ListElement) → MoreRemoved xs ys → first_unremoved xs ≡ None → first_unremoved ys ≡ None
none-left [] [] h g = refl
none-left [] (y ∷ ys) h g = absurd h
none-left (x ∷ xs) [] h g = absurd h
none-left (x ∷ xs) (y ∷ ys) h g = none-step x y xs ys h.2 (none-left xs ys h.3) (is_unremoved x) refl g

-- the two heads have one name
same-head : (b : ElementId) (x y : ListElement) → id y ≡ id x → is_sequenced y ≡ is_sequenced x → is_meant b y ≡ is_meant b x
same-head b x y e f = rw (e, f) refl

not-meant : (b : ElementId) (x : ListElement) → has_id b x ≡ false → is_meant b x ≡ false
not-meant b x h = rw h (never (is_sequenced x))

first-slid-step : (b : ElementId) (x y : ListElement) (xs ys : List ListElement) → Once (x ∷ xs) → MoreRemoved (x ∷ xs) (y ∷ ys)
    → (first_unremoved xs ≡ Some b → slid b ys ≡ first_unremoved ys)
    → (t : Bool) → is_unremoved x ≡ t → cond t (Some (id x)) (first_unremoved xs) ≡ Some b → slid b (y ∷ ys) ≡ first_unremoved (y ∷ ys)
first-slid-step b x y xs ys once h ih true e f =
    let same : id x ≡ b = (cc) in
    let here : is_meant b y ≡ true = same-head b x y h.0 h.1 ∙ subst (λ c. is_meant c x ≡ true) same (meant-itself x e) in
    rw here refl
first-slid-step b x y xs ys once h ih false e f =
    let there = first-meant b xs f in
    let here : is_meant b y ≡ false = same-head b x y h.0 h.1 ∙ not-meant b x (not-head b x xs once there) in
    let gone : is_unremoved y ≡ false = removed-too x y h.2 e in
    let behind : list_any (is_meant b) ys ≡ true = same-meant b xs ys h.3 ∙ there in
    rw (here, behind, gone) (or-none (slid b ys) ∙ ih f)

-- an end on the first unremoved element slides to the first that is left
first-slid : (b : ElementId) (xs ys : List ListElement) → Once xs → MoreRemoved xs ys → first_unremoved xs ≡ Some b → slid b ys ≡ first_unremoved ys
first-slid b [] [] once h g = (cc)
first-slid b [] (y ∷ ys) once h g = absurd h
first-slid b (x ∷ xs) [] once h g = absurd h
first-slid b (x ∷ xs) (y ∷ ys) once h g = first-slid-step b x y xs ys once h (first-slid b xs ys (once-tail x xs once) h.3) (is_unremoved x) refl g

-- the slide of an end that isn't detached
abbrev pub slid_again : Option ElementId → List ListElement → Option ElementId
slid_again None ys = None
slid_again (Some b) ys = slid b ys

none-found : (x : ListElement) (m l u : Bool) (o f : Option ElementId) → m || l ≡ true → (l ≡ true → o ≡ None → f ≡ None)
    → cond m (cond u (Some (id x)) f) (cond l (option_or o (some_if u x)) None) ≡ None → cond u (Some (id x)) f ≡ None
none-found x true l u o f h ih g = g
none-found x false false u o f h ih g = (cc)
none-found x false true u (Some b) f h ih g = (cc)
none-found x false true true None f h ih g = (cc)
none-found x false true false None f h ih g = ih refl refl

-- an end that finds no place finds nothing unremoved at all
none-unremoved : (a : ElementId) (xs : List ListElement) → list_any (is_meant a) xs ≡ true → slid a xs ≡ None → first_unremoved xs ≡ None
none-unremoved a [] h g = refl
none-unremoved a (x ∷ xs) h g = none-found x (is_meant a x) (list_any (is_meant a) xs) (is_unremoved x) (slid a xs) (first_unremoved xs) h (none-unremoved a xs) g

first-or : (y : ListElement) (u : Bool) → cond u (Some (id y)) None ≡ some_if u y
first-or y true = refl
first-or y false = refl

again-first : (a : ElementId) (xs ys : List ListElement) → Once xs → MoreRemoved xs ys → (f : Option ElementId) → first_unremoved xs ≡ f → slid_again f ys ≡ first_unremoved ys
again-first a xs ys once h None g = sym (none-left xs ys h g)
again-first a xs ys once h (Some b) g = first-slid b xs ys once h g

again-last : (a : ElementId) (x y : ListElement) (xs ys : List ListElement) → Once (x ∷ xs) → MoreRemoved (x ∷ xs) (y ∷ ys) → first_unremoved ys ≡ None → None ≡ slid a ys
    → (u : Bool) → is_unremoved x ≡ u → slid_again (some_if u x) (y ∷ ys) ≡ option_or (slid a ys) (some_if (is_unremoved y) y)
again-last a x y xs ys once h none ih true e =
    let here : is_meant (id x) y ≡ true = same-head (id x) x y h.0 h.1 ∙ meant-itself x e in
    rw (here, none, ← ih) (first-or y (is_unremoved y))
again-last a x y xs ys once h none ih false e =
    let gone : is_unremoved y ≡ false = removed-too x y h.2 e in
    rw (gone, ← ih) refl

again-behind : (a : ElementId) (x y : ListElement) (xs ys : List ListElement) → Once (x ∷ xs) → MoreRemoved (x ∷ xs) (y ∷ ys) → list_any (is_meant a) xs ≡ true
    → (o : Option ElementId) → slid a xs ≡ o → slid_again o ys ≡ slid a ys → slid_again (option_or o (some_if (is_unremoved x) x)) (y ∷ ys)
    ≡ option_or (slid a ys) (some_if (is_unremoved y) y)
again-behind a x y xs ys once h there (Some b) e ih =
    let found = slid-meant a b xs e in
    let here : is_meant b y ≡ false = same-head b x y h.0 h.1 ∙ not-meant b x (not-head b x xs once found) in
    let behind : list_any (is_meant b) ys ≡ true = same-meant b xs ys h.3 ∙ found in
    rw (here, behind, ih) refl
again-behind a x y xs ys once h there None e ih = again-last a x y xs ys once h (none-left xs ys h.3 (none-unremoved a xs there e)) ih (is_unremoved x) refl

again-step : (a : ElementId) (x y : ListElement) (xs ys : List ListElement) → Once (x ∷ xs) → MoreRemoved (x ∷ xs) (y ∷ ys) → slid_again (slid a xs) ys ≡ slid a ys
    → (m l : Bool) → is_meant a x ≡ m → list_any (is_meant a) xs ≡ l
    → slid_again (cond m (first_unremoved (x ∷ xs)) (cond l (option_or (slid a xs) (some_if (is_unremoved x) x)) None)) (y ∷ ys)
    ≡ cond m (first_unremoved (y ∷ ys)) (cond l (option_or (slid a ys) (some_if (is_unremoved y) y)) None)
again-step a x y xs ys once h ih true l e f = again-first a (x ∷ xs) (y ∷ ys) once h (first_unremoved (x ∷ xs)) refl
again-step a x y xs ys once h ih false true e f = again-behind a x y xs ys once h f (slid a xs) refl ih
again-step a x y xs ys once h ih false false e f = refl

-- a second slide, after more removals, makes the first one needless
pub slid-twice : (a : ElementId) (xs ys : List ListElement) → Once xs → MoreRemoved xs ys → slid_again (slid a xs) ys ≡ slid a ys
slid-twice a [] [] once h = refl
slid-twice a [] (y ∷ ys) once h = absurd h
slid-twice a (x ∷ xs) [] once h = absurd h
slid-twice a (x ∷ xs) (y ∷ ys) once h =
    again-step a x y xs ys once h (slid-twice a xs ys (once-tail x xs once) h.3) (is_meant a x) (list_any (is_meant a) xs) refl refl
    ∙ sym (rw (same-head a x y h.0 h.1, same-meant a xs ys h.3) refl)

again-slide : (o : Option ElementId) (ys : List ListElement) → slide ys o ≡ slid_again o ys
again-slide None ys = refl
again-slide (Some b) ys = slide-slid ys b

pub slide-twice : (o : Option ElementId) (xs ys : List ListElement) → Once xs → MoreRemoved xs ys → slide ys (slide xs o) ≡ slide ys o
slide-twice None xs ys once h = refl
slide-twice (Some a) xs ys once h = ap (slide ys) (slide-slid xs a) ∙ again-slide (slid a xs) ys ∙ slid-twice a xs ys once h ∙ sym (slide-slid ys a)

-- ---- an end on an unremoved element

abbrev pub is_standing_at : ElementId → ListElement → Bool
is_standing_at a e = is_unremoved e && has_id a e

-- the end is detached, or its element is unremoved
abbrev pub Stands : List ListElement → Option ElementId → Type 0
Stands xs None = Unit {0}
Stands xs (Some a) = list_any (is_standing_at a) xs ≡ true

standing-meant : (a : ElementId) (x : ListElement) → is_standing_at a x ≡ true → is_meant a x ≡ true
standing-meant a x h =
    let p = both (is_unremoved x) (has_id a x) h in
    rw (sequenced-unremoved x p.0, p.1) refl

any-standing : (a : ElementId) (xs : List ListElement) → list_any (is_standing_at a) xs ≡ true → list_any (is_meant a) xs ≡ true
any-standing a [] h = h
any-standing a (x ∷ xs) h = grind (arith, any-standing a xs, standing-meant a x)

stays-step : (a : ElementId) (x : ListElement) (xs : List ListElement) → Once (x ∷ xs) → (list_any (is_standing_at a) xs ≡ true → slid a xs ≡ Some a)
    → (t : Bool) → is_standing_at a x ≡ t → (t || list_any (is_standing_at a) xs) ≡ true → slid a (x ∷ xs) ≡ Some a
stays-step a x xs once ih true e g =
    let p = both (is_unremoved x) (has_id a x) e in
    rw (standing-meant a x e, p.0) (ap Some (sym (same_id-eq a (id x) p.1)))
stays-step a x xs once ih false e g =
    let there = any-standing a xs g in
    rw (not-meant a x (not-head a x xs once there), there, ih g) refl

pub slid-stays : (a : ElementId) (xs : List ListElement) → Once xs → list_any (is_standing_at a) xs ≡ true → slid a xs ≡ Some a
slid-stays a [] once h = (cc)
slid-stays a (x ∷ xs) once h = stays-step a x xs once (slid-stays a xs (once-tail x xs once)) (is_standing_at a x) refl h

pub slide-stays : (o : Option ElementId) (xs : List ListElement) → Once xs → Stands xs o → slide xs o ≡ o
slide-stays None xs once h = refl
slide-stays (Some a) xs once h = slide-slid xs a ∙ slid-stays a xs once h

-- where an end slides to, it stands
stands-more : (x : ListElement) (xs : List ListElement) (o : Option ElementId) → Stands xs o → Stands (x ∷ xs) o
stands-more x xs None h = tt
stands-more x xs (Some a) h = rw h (or-true (is_standing_at a x))

stands-here : (x : ListElement) (xs : List ListElement) (u : Bool) → is_unremoved x ≡ u → Stands (x ∷ xs) (some_if u x)
stands-here x xs false e = tt
stands-here x xs true e = rw (e, same_id-refl (id x)) refl

stands-or : (x : ListElement) (xs : List ListElement) (o : Option ElementId) → Stands xs o → Stands (x ∷ xs) (option_or o (some_if (is_unremoved x) x))
stands-or x xs None h = stands-here x xs (is_unremoved x) refl
stands-or x xs (Some a) h = stands-more x xs (Some a) h

stands-first : (xs : List ListElement) → Stands xs (first_unremoved xs)
stands-first [] = tt
stands-first (x ∷ xs) = here (is_unremoved x) refl (stands-first xs)
  where
    here : (u : Bool) → is_unremoved x ≡ u → Stands xs (first_unremoved xs) → Stands (x ∷ xs) (cond u (Some (id x)) (first_unremoved xs))
    here true e h = stands-here-some e
      where
        stands-here-some : is_unremoved x ≡ true → Stands (x ∷ xs) (Some (id x))
        stands-here-some f = rw (f, same_id-refl (id x)) refl
    here false e h = stands-more x xs (first_unremoved xs) h

by_choice : (P : Option ElementId → Type 0) (b : Bool) (o p : Option ElementId) → P o → P p → P (cond b o p)
by_choice P true o p h k = h
by_choice P false o p h k = k

pub stands-slid : (a : ElementId) (xs : List ListElement) → Stands xs (slid a xs)
stands-slid a [] = tt
stands-slid a (x ∷ xs) =
    let P : Option ElementId → Type 0 = λ o. Stands (x ∷ xs) o in
    by_choice P (is_meant a x) (first_unremoved (x ∷ xs)) (cond (list_any (is_meant a) xs) (option_or (slid a xs) (some_if (is_unremoved x) x)) None) (stands-first (x ∷ xs))
    (by_choice P (list_any (is_meant a) xs) (option_or (slid a xs) (some_if (is_unremoved x) x)) None (stands-or x xs (slid a xs) (stands-slid a xs)) tt)

pub stands-slide : (o : Option ElementId) (xs : List ListElement) → Stands xs (slide xs o)
stands-slide None xs = tt
stands-slide (Some a) xs = subst (Stands xs) (sym (slide-slid xs a)) (stands-slid a xs)
