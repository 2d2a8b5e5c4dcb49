-- Named elements and their numbers in a list where each name stands once.
use Rattle.std.proofs.Common.{◌≡◌, ℕ, zero, suc, ◌≤◌, Bool, true, false, cond, ◌&&◌, ◌||◌, nat_lt, List, [], ◌∷◌, Option, Some, None, find, pos, negsuc, ℤ, refl, sym, ◌∙◌, ap, arith}
use Rattle.std.specs.List.{list_any}
use Rattle.std.specs.Option.{option_map, option_or}
use Rattle.std.proofs.lemmas.Bool.Decides.{nat_tests}
use Rattle.ft_op.specs.declared.operations.Ends.{Ends}
use Rattle.ft_base.specs.Scan.{at, len, one_more_if, rank, settled_after}
use Rattle.ft_props.specs.Element.{ElementId, ListElement, has_id, id, seen}
use Rattle.ft_props.specs.Slide.{end_number, settle}
use Rattle.ft_op.specs.Intervals.{elements_at_ends, element_at_end, ends_fit}
use Rattle.ft_base.proofs.Booleans.{both}
use Rattle.ft_laws_agreement.proofs.MarkedRuns.{Each}
use Rattle.ft_laws_agreement.proofs.SlidEnds.{Once, same_id-eq, same_id-refl}
use Rattle.ft_props.proofs.AcknowledgedInsertion.{or_false}
use Rattle.ft_laws_agreement.proofs.FollowingOrder.{rank-same}

-- whether an element of that name passes
abbrev pub has_named : (ListElement → Bool) → List ListElement → ElementId → Bool
has_named test xs x = list_any (λ e. has_id x e && test e) xs

-- ---- the number of a named element

none-left : (x : ElementId) (test : ListElement → Bool) (xs : List ListElement) → len (has_id x) xs ≡ 0 → has_named test xs x ≡ false
none-left x test [] h = refl
none-left x test (e ∷ xs) h = grind (arith, none-left x test xs)

at-zero : (test : ListElement → Bool) (i : ℕ) (e : ListElement) (xs : List ListElement) → test e ≡ false → at test i (e ∷ xs) ≡ at test i xs
at-zero test zero e xs h = rw h refl
at-zero test (suc i) e xs h = rw h refl

at-next : (test : ListElement → Bool) (i : ℕ) (e : ListElement) (xs : List ListElement) (b : Bool) → test e ≡ b → at test (one_more_if b i) (e ∷ xs) ≡ at test i xs
at-next test i e xs true h = rw h refl
at-next test i e xs false h = at-zero test i e xs h

few-left : (n : ℕ) → suc n ≤ 1 → n ≡ 0
few-left n h = omega arith

-- the element with the number of a named one is that one
pub at-rank : (test : ListElement → Bool) (x : ElementId) (xs : List ListElement) → len (has_id x) xs ≤ 1 → has_named test xs x ≡ true
    → option_map id (at test (rank (has_id x) test xs) xs) ≡ Some x
at-rank test x [] l h = (cc)
at-rank test x (e ∷ xs) l h = rank-step (has_id x e) refl l h (at-rank test x xs)
  where
    rank-step : (b : Bool) → has_id x e ≡ b → one_more_if b (len (has_id x) xs) ≤ 1 → (b && test e) || has_named test xs x ≡ true
        → (len (has_id x) xs ≤ 1 → has_named test xs x ≡ true → option_map id (at test (rank (has_id x) test xs) xs) ≡ Some x)
        → option_map id (at test (cond b 0 (one_more_if (test e) (rank (has_id x) test xs))) (e ∷ xs)) ≡ Some x
    rank-step true f l h ih =
        let none = none-left x test xs (few-left (len (has_id x) xs) l) in
        let here : test e ≡ true = sym (or_false (test e)) ∙ ap (λ b. test e || b) (sym none) ∙ h in
        rw here (ap Some (sym (same_id-eq x (id e) f)))
    rank-step false f l h ih = ap (option_map id) (at-next test (rank (has_id x) test xs) e xs (test e) refl) ∙ ih l h

pub rank-fits : (test : ListElement → Bool) (x : ElementId) (xs : List ListElement) → len (has_id x) xs ≤ 1 → has_named test xs x ≡ true
    → nat_lt (rank (has_id x) test xs) (len test xs) ≡ true
rank-fits test x [] l h = (cc)
rank-fits test x (e ∷ xs) l h = fit-step (has_id x e) refl l h (rank-fits test x xs)
  where
    next : (b : Bool) (m n : ℕ) → nat_lt m n ≡ true → nat_lt (one_more_if b m) (one_more_if b n) ≡ true
    next true m n g = grind (arith, nat_tests)
    next false m n g = g

    first : (n : ℕ) → nat_lt 0 (suc n) ≡ true
    first n = grind (arith, nat_tests)

    fit-step : (b : Bool) → has_id x e ≡ b → one_more_if b (len (has_id x) xs) ≤ 1 → (b && test e) || has_named test xs x ≡ true
        → (len (has_id x) xs ≤ 1 → has_named test xs x ≡ true → nat_lt (rank (has_id x) test xs) (len test xs) ≡ true)
        → nat_lt (cond b 0 (one_more_if (test e) (rank (has_id x) test xs))) (one_more_if (test e) (len test xs)) ≡ true
    fit-step true f l h ih =
        let none = none-left x test xs (few-left (len (has_id x) xs) l) in
        let here : test e ≡ true = sym (or_false (test e)) ∙ ap (λ b. test e || b) (sym none) ∙ h in
        rw here (first (len test xs))
    fit-step false f l h ih = next (test e) (rank (has_id x) test xs) (len test xs) (ih l h)

-- ---- where a named element settles

-- the element passes, and is of the list
abbrev IsFound : (ListElement → Bool) → List ListElement → Option ElementId → Type 0
IsFound ok xs None = Unit {0}
IsFound ok xs (Some y) = has_named ok xs y ≡ true

or-either : (a b c : Bool) → (a ≡ true → c ≡ true) → (b ≡ true → c ≡ true) → a || b ≡ true → c ≡ true
or-either true b c f g h = f refl
or-either false b c f g h = g h

module _ (ok : ListElement → Bool) (whole : List ListElement) where
  abbrev AreOf : List ListElement → Type 0
  AreOf xs = (y : ElementId) → has_named ok xs y ≡ true → has_named ok whole y ≡ true

  tail-of : (e : ListElement) (xs : List ListElement) → AreOf (e ∷ xs) → AreOf xs
  tail-of e xs h y g = h y (rw g (or-true (has_id y e && ok e)))
    where
      or-true : (b : Bool) → b || true ≡ true
      or-true true = refl
      or-true false = refl

  head-of : (e : ListElement) (xs : List ListElement) → AreOf (e ∷ xs) → ok e ≡ true → has_named ok whole (id e) ≡ true
  head-of e xs h g = h (id e) (rw (same_id-refl (id e), g) refl)

  found-of : (xs : List ListElement) (last : Option ListElement) → AreOf xs → IsFound ok whole (option_map id last) → IsFound ok whole (option_map id (option_or (find ok xs) last))
  found-of [] last h l = l
  found-of (e ∷ xs) last h l = find-step (ok e) refl (found-of xs last (tail-of e xs h) l)
    where
      find-step : (b : Bool) → ok e ≡ b → IsFound ok whole (option_map id (option_or (find ok xs) last))
          → IsFound ok whole (option_map id (option_or (cond b (Some e) (find ok xs)) last))
      find-step true g ih = head-of e xs h g
      find-step false g ih = ih

  settled-of : (is : ListElement → Bool) (xs : List ListElement) (last : Option ListElement) → AreOf xs → IsFound ok whole (option_map id last)
      → IsFound ok whole (option_map id (settled_after is ok last xs))
  settled-of is [] last h l = tt
  settled-of is (e ∷ xs) last h l = settle-step (is e) (settled-of is xs (cond (ok e) (Some e) last) (tail-of e xs h) (last-step (ok e) refl))
    where
      last-step : (b : Bool) → ok e ≡ b → IsFound ok whole (option_map id (cond b (Some e) last))
      last-step true g = head-of e xs h g
      last-step false g = l

      settle-step : (b : Bool) → IsFound ok whole (option_map id (settled_after is ok (cond (ok e) (Some e) last) xs))
          → IsFound ok whole (option_map id (cond b (option_or (find ok (e ∷ xs)) last) (settled_after is ok (cond (ok e) (Some e) last) xs)))
      settle-step true ih = found-of (e ∷ xs) last h l
      settle-step false ih = ih

settled-found : (k : ℕ) (xs : List ListElement) (x : ElementId) → IsFound (seen k) xs (settle xs k (Some x))
settled-found k xs x = settled-of (seen k) xs (has_id x) xs None (λ y h. h) tt

-- ---- two named elements settle both or neither

abbrev is_some : {A : Type 0} → Option A → Bool
is_some None = false
is_some (Some x) = true

some-found : (ok : ListElement → Bool) (xs : List ListElement) (last : Option ListElement) → is_some (option_or (find ok xs) last) ≡ list_any ok xs || is_some last
some-found ok [] last = refl
some-found ok (e ∷ xs) last = find-step (ok e) (some-found ok xs last)
  where
    find-step : (b : Bool) → is_some (option_or (find ok xs) last) ≡ list_any ok xs || is_some last → is_some (option_or (cond b (Some e) (find ok xs)) last)
        ≡ (b || list_any ok xs) || is_some last
    find-step true h = refl
    find-step false h = h

some-settled : (is ok : ListElement → Bool) (xs : List ListElement) (last : Option ListElement) → list_any is xs ≡ true → is_some (settled_after is ok last xs)
    ≡ list_any ok xs || is_some last
some-settled is ok [] last h = (cc)
some-settled is ok (e ∷ xs) last h = settle-step (is e) h (some-settled is ok xs (cond (ok e) (Some e) last))
  where
    last-step : (b : Bool) → list_any ok xs || is_some (cond b (Some e) last) ≡ (b || list_any ok xs) || is_some last
    last-step true = or-true (list_any ok xs)
      where
        or-true : (b : Bool) → b || true ≡ true
        or-true true = refl
        or-true false = refl
    last-step false = refl

    settle-step : (b : Bool) → b || list_any is xs ≡ true → (list_any is xs ≡ true → is_some (settled_after is ok (cond (ok e) (Some e) last) xs)
        ≡ list_any ok xs || is_some (cond (ok e) (Some e) last))
        → is_some (cond b (option_or (find ok (e ∷ xs)) last) (settled_after is ok (cond (ok e) (Some e) last) xs)) ≡ (ok e || list_any ok xs) || is_some last
    settle-step true g ih = some-found ok (e ∷ xs) last
    settle-step false g ih = ih g ∙ last-step (ok e)

mapped-some : {A B : Type 0} (f : A → B) (o : Option A) → is_some (option_map f o) ≡ is_some o
mapped-some f None = refl
mapped-some f (Some x) = refl

same-settled : (k : ℕ) (xs : List ListElement) (x y : ElementId) → list_any (has_id x) xs ≡ true → list_any (has_id y) xs ≡ true
    → is_some (settle xs k (Some x)) ≡ is_some (settle xs k (Some y))
same-settled k xs x y h g =
    mapped-some id (settled_after (has_id x) (seen k) None xs) ∙ some-settled (has_id x) (seen k) xs None h
    ∙ sym (mapped-some id (settled_after (has_id y) (seen k) None xs) ∙ some-settled (has_id y) (seen k) xs None g)

-- ---- the two ends of an interval

-- both are named and in the list, or none is
abbrev pub AreThere : List ListElement → Option ElementId → Option ElementId → Type 0
AreThere xs None None = Unit {0}
AreThere xs (Some a) (Some b) = (list_any (has_id a) xs ≡ true) × (list_any (has_id b) xs ≡ true)
AreThere xs (Some a) None = ⊥
AreThere xs None (Some b) = ⊥

-- both are named and pass, or none is
abbrev pub AreFound : (ListElement → Bool) → List ListElement → Option ElementId → Option ElementId → Type 0
AreFound test xs None None = Unit {0}
AreFound test xs (Some a) (Some b) = (has_named test xs a ≡ true) × (has_named test xs b ≡ true)
AreFound test xs (Some a) None = ⊥
AreFound test xs None (Some b) = ⊥

both-found : (test : ListElement → Bool) (xs : List ListElement) (a b : Option ElementId) → IsFound test xs a → IsFound test xs b → is_some a ≡ is_some b → AreFound test xs a b
both-found test xs None None h g e = tt
both-found test xs (Some a) (Some b) h g e = (h, g)
both-found test xs (Some a) None h g e = (cc)
both-found test xs None (Some b) h g e = (cc)

pub ends-settle : (k : ℕ) (xs : List ListElement) (a b : Option ElementId) → AreThere xs a b → AreFound (seen k) xs (settle xs k a) (settle xs k b)
ends-settle k xs None None h = tt
ends-settle k xs (Some a) (Some b) h =
    both-found (seen k) xs (settle xs k (Some a)) (settle xs k (Some b)) (settled-found k xs a) (settled-found k xs b) (same-settled k xs a b h.0 h.1)
ends-settle k xs (Some a) None h = absurd h
ends-settle k xs None (Some b) h = absurd h

-- the named element is of the list
abbrev IsHere : List ListElement → Option ElementId → Type 0
IsHere xs None = ⊥
IsHere xs (Some y) = list_any (has_id y) xs ≡ true

here-more : (x : ListElement) (xs : List ListElement) (o : Option ElementId) → IsHere xs o → IsHere (x ∷ xs) o
here-more x xs None h = h
here-more x xs (Some y) h = rw h (or-true (has_id y x))
  where
    or-true : (b : Bool) → b || true ≡ true
    or-true true = refl
    or-true false = refl

place-here : (test : ListElement → Bool) (p : ℕ) (xs : List ListElement) → nat_lt p (len test xs) ≡ true → IsHere xs (option_map id (at test p xs))
place-here test p [] h = absurd (grind (arith, nat_tests))
place-here test zero (x ∷ xs) h = first-step (test x) h (place-here test zero xs)
  where
    first-step : (b : Bool) → nat_lt 0 (one_more_if b (len test xs)) ≡ true → (nat_lt 0 (len test xs) ≡ true → IsHere xs (option_map id (at test zero xs)))
        → IsHere (x ∷ xs) (option_map id (cond b (Some x) (at test zero xs)))
    first-step true h ih = rw (same_id-refl (id x)) refl
    first-step false h ih = here-more x xs (option_map id (at test zero xs)) (ih h)
place-here test (suc p) (x ∷ xs) h = next-step (test x) h (place-here test p xs) (place-here test (suc p) xs)
  where
    less : (m n : ℕ) → nat_lt (suc m) (suc n) ≡ true → nat_lt m n ≡ true
    less m n g = grind (arith, nat_tests)

    next-step : (b : Bool) → nat_lt (suc p) (one_more_if b (len test xs)) ≡ true → (nat_lt p (len test xs) ≡ true → IsHere xs (option_map id (at test p xs)))
        → (nat_lt (suc p) (len test xs) ≡ true → IsHere xs (option_map id (at test (suc p) xs))) → IsHere (x ∷ xs) (option_map id (at test (cond b p (suc p)) xs))
    next-step true h ih jh = here-more x xs (option_map id (at test p xs)) (ih (less p (len test xs) h))
    next-step false h ih jh = here-more x xs (option_map id (at test (suc p) xs)) (jh h)

both-here : (xs : List ListElement) (a b : Option ElementId) → IsHere xs a → IsHere xs b → AreThere xs a b
both-here xs (Some a) (Some b) h g = (h, g)
both-here xs None b h g = absurd h
both-here xs (Some a) None h g = absurd g

two-ends : (test : ListElement → Bool) (xs : List ListElement) (s e : ℤ) → ends_fit (len test xs) (record { start = s; end = e }) ≡ true
    → AreThere xs (element_at_end test xs s) (element_at_end test xs e)
two-ends test xs (negsuc p) (negsuc q) h = tt
two-ends test xs (negsuc p) (pos q) h = (cc)
two-ends test xs (pos p) (negsuc q) h = absurd (no-end (both (nat_lt p (len test xs)) false h).1)
  where
    no-end : false ≡ true → ⊥
    no-end g = (cc)
two-ends test xs (pos p) (pos q) h =
    let f = both (nat_lt p (len test xs)) (nat_lt q (len test xs)) h in
    both-here xs (option_map id (at test p xs)) (option_map id (at test q xs)) (place-here test p xs f.0) (place-here test q xs f.1)

-- the elements at ends that fit are there
pub ends-there : (test : ListElement → Bool) (xs : List ListElement) (ends : Ends) → ends_fit (len test xs) ends ≡ true
    → AreThere xs (elements_at_ends test xs ends).first (elements_at_ends test xs ends).second
ends-there test xs ends h = two-ends test xs ends.start ends.end h

-- ---- ends as numbers

-- the numbers of ends that pass fit
pub numbers-fit : (k : ℕ) (xs : List ListElement) (a b : Option ElementId) → Once xs → AreFound (seen k) xs a b
    → ends_fit (len (seen k) xs) (record { start = end_number k xs a; end = end_number k xs b }) ≡ true
numbers-fit k xs None None once h = refl
numbers-fit k xs (Some a) (Some b) once h = rw (rank-fits (seen k) a xs (once a) h.0, rank-fits (seen k) b xs (once b) h.1) refl
numbers-fit k xs (Some a) None once h = absurd h
numbers-fit k xs None (Some b) once h = absurd h

-- and are theirs
pub numbers-at : (k : ℕ) (xs : List ListElement) (a b : Option ElementId) → Once xs → AreFound (seen k) xs a b
    → (element_at_end (seen k) xs (end_number k xs a) ≡ a) × (element_at_end (seen k) xs (end_number k xs b) ≡ b)
numbers-at k xs None None once h = (refl, refl)
numbers-at k xs (Some a) (Some b) once h = (at-rank (seen k) a xs (once a) h.0, at-rank (seen k) b xs (once b) h.1)
numbers-at k xs (Some a) None once h = absurd h
numbers-at k xs None (Some b) once h = absurd h

-- ---- two tests that agree

pub named-each : (test other : ListElement → Bool) (xs : List ListElement) (x : ElementId) → Each (λ e. test e ≡ other e) xs → has_named test xs x ≡ has_named other xs x
named-each test other [] x h = refl
named-each test other (e ∷ xs) x h = rw (h.0, named-each test other xs x h.1) refl

pub found-each : (test other : ListElement → Bool) (xs : List ListElement) (a b : Option ElementId) → Each (λ e. test e ≡ other e) xs → AreFound test xs a b → AreFound other xs a b
found-each test other xs None None h f = f
found-each test other xs (Some a) (Some b) h f = (sym (named-each test other xs a h) ∙ f.0, sym (named-each test other xs b h) ∙ f.1)
found-each test other xs (Some a) None h f = f
found-each test other xs None (Some b) h f = f

pub number-each : (k j : ℕ) (xs : List ListElement) (o : Option ElementId) → Each (λ e. seen k e ≡ seen j e) xs → end_number k xs o ≡ end_number j xs o
number-each k j xs None h = refl
number-each k j xs (Some x) h = ap pos (rank-same (has_id x) (seen k) (seen j) xs h)
