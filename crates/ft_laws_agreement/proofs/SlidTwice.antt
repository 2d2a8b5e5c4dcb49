-- An end that slid after one removal, and again after another, stands where one slide after both would put it.
use Rattle.std.proofs.Common.{◌≡◌, Bool, true, false, cond, ◌||◌, List, [], ◌∷◌, ◌++◌, Option, Some, None, refl, sym, ◌∙◌, ap, subst, arith, append_assoc, find}
use Rattle.std.specs.List.{list_any}
use Rattle.std.specs.Option.{option_or}
use Rattle.ft_base.specs.Scan.{settled_after}
use Rattle.ft_props.specs.Element.{ElementId, same_id}
use Rattle.ft_laws_agreement.proofs.SlidEnds.{same_id-refl, same_id-eq}

-- the last element that is ok, else `last`
abbrev pub last_ok : {A : Type 0} → (A → Bool) → Option A → List A → Option A
last_ok ok last [] = last
last_ok ok last (x ∷ xs) = last_ok ok (cond (ok x) (Some x) last) xs

-- a list with an element in it behind elements that don't pass
record Split {A : Type 0} (test : A → Bool) (xs : List A) : Type 0 where
  front : List A
  here : A
  back : List A
  whole : xs ≡ front ++ (here ∷ back)
  passes : test here ≡ true
  none : list_any test front ≡ false

-- a list with an element in it before elements that don't pass
record SplitLast {A : Type 0} (test : A → Bool) (xs : List A) : Type 0 where
  front : List A
  here : A
  back : List A
  whole : xs ≡ front ++ (here ∷ back)
  passes : test here ≡ true
  none : list_any test back ≡ false

-- either there is such an element, or none passes
data FirstOf {A : Type 0} (test : A → Bool) (xs : List A) : Type 0 where
  found : Split test xs → FirstOf test xs
  absent : list_any test xs ≡ false → FirstOf test xs

data LastOf {A : Type 0} (test : A → Bool) (xs : List A) : Type 0 where
  found : SplitLast test xs → LastOf test xs
  absent : list_any test xs ≡ false → LastOf test xs

module _ {A : Type 0} where
  first_of_list : (test : A → Bool) (xs : List A) → FirstOf test xs
  first_of_list test [] = FirstOf.absent refl
  first_of_list test (x ∷ xs) = step (test x) refl (first_of_list test xs)
    where
      step : (b : Bool) → test x ≡ b → FirstOf test xs → FirstOf test (x ∷ xs)
      step true e o = FirstOf.found (record { front = []; here = x; back = xs; whole = refl; passes = e; none = refl })
      step false e (FirstOf.found s) = FirstOf.found (record {
        front = x ∷ s.front;
        here = s.here;
        back = s.back;
        whole = ap (λ ys. x ∷ ys) s.whole;
        passes =
            s.passes;
        none = rw e s.none;
      })
      step false e (FirstOf.absent n) = FirstOf.absent (rw e n)

  last_of_list : (test : A → Bool) (xs : List A) → LastOf test xs
  last_of_list test [] = LastOf.absent refl
  last_of_list test (x ∷ xs) = step (test x) refl (last_of_list test xs)
    where
      step : (b : Bool) → test x ≡ b → LastOf test xs → LastOf test (x ∷ xs)
      step b e (LastOf.found s) = LastOf.found (record { front = x ∷ s.front; here = s.here; back = s.back; whole = ap (λ ys. x ∷ ys) s.whole; passes = s.passes; none = s.none })
      step true e (LastOf.absent n) = LastOf.found (record { front = []; here = x; back = xs; whole = refl; passes = e; none = n })
      step false e (LastOf.absent n) = LastOf.absent (rw e n)

  last-append : (ok : A → Bool) (last : Option A) (xs ys : List A) → last_ok ok last (xs ++ ys) ≡ last_ok ok (last_ok ok last xs) ys
  last-append ok last [] ys = refl
  last-append ok last (x ∷ xs) ys = last-append ok (cond (ok x) (Some x) last) xs ys

  last-none : (ok : A → Bool) (last : Option A) (xs : List A) → list_any ok xs ≡ false → last_ok ok last xs ≡ last
  last-none ok last [] h = refl
  last-none ok last (x ∷ xs) h = grind (arith, last-none ok last xs)

  find-none : (ok : A → Bool) (xs : List A) → list_any ok xs ≡ false → find ok xs ≡ None
  find-none ok [] h = refl
  find-none ok (x ∷ xs) h = grind (arith, find-none ok xs)

  find-past : (ok : A → Bool) (xs ys : List A) → list_any ok xs ≡ false → find ok (xs ++ ys) ≡ find ok ys
  find-past ok [] ys h = refl
  find-past ok (x ∷ xs) ys h = grind (arith, find-past ok xs ys)

  -- where the first one that is meant stands behind a front
  settled-at : (is ok : A → Bool) (last : Option A) (front : List A) (here : A) (back : List A) → list_any is front ≡ false → is here ≡ true
      → settled_after is ok last (front ++ (here ∷ back)) ≡ option_or (find ok (here ∷ back)) (last_ok ok last front)
  settled-at is ok last [] here back n h = rw h refl
  settled-at is ok last (x ∷ front) here back n h = step (is x) n (settled-at is ok (cond (ok x) (Some x) last) front here back)
    where
      step : (b : Bool) → b || list_any is front ≡ false → (list_any is front ≡ false → is here ≡ true
          → settled_after is ok (cond (ok x) (Some x) last) (front ++ (here ∷ back)) ≡ option_or (find ok (here ∷ back)) (last_ok ok (cond (ok x) (Some x) last) front))
          → cond b (option_or (find ok (x ∷ (front ++ (here ∷ back)))) last) (settled_after is ok (cond (ok x) (Some x) last) (front ++ (here ∷ back)))
          ≡ option_or (find ok (here ∷ back)) (last_ok ok (cond (ok x) (Some x) last) front)
      step true n g = (cc)
      step false n g = g n h

  settled-absent : (is ok : A → Bool) (last : Option A) (xs : List A) → list_any is xs ≡ false → settled_after is ok last xs ≡ None
  settled-absent is ok last [] h = refl
  settled-absent is ok last (x ∷ xs) h = grind (arith, settled-absent is ok (cond (ok x) (Some x) last) xs)

  fewer-any : (ok fewer : A → Bool) → ((x : A) → ok x ≡ false → fewer x ≡ false) → (xs : List A) → list_any ok xs ≡ false → list_any fewer xs ≡ false
  fewer-any ok fewer f [] h = refl
  fewer-any ok fewer f (x ∷ xs) h = step (ok x) refl h (fewer-any ok fewer f xs)
    where
      step : (b : Bool) → ok x ≡ b → b || list_any ok xs ≡ false → (list_any ok xs ≡ false → list_any fewer xs ≡ false) → list_any fewer (x ∷ xs) ≡ false
      step true e h g = (cc)
      step false e h g = rw (f x e) (g h)

-- whether an element of that name is in the list
abbrev pub is_there : {A : Type 0} → (A → ElementId) → ElementId → List A → Bool
is_there name x xs = list_any (λ e. same_id x (name e)) xs

-- no two elements have one name
abbrev pub Apart : {A : Type 0} → (A → ElementId) → List A → Type 0
Apart name [] = Unit {0}
Apart name (x ∷ xs) = (is_there name (name x) xs ≡ false) × Apart name xs

module _ {A : Type 0} (name : A → ElementId) where
  in_middle : (front : List A) (here : A) (back : List A) → is_there name (name here) (front ++ (here ∷ back)) ≡ true
  in_middle [] here back = rw (same_id-refl (name here)) refl
  in_middle (x ∷ front) here back = or_true (same_id (name here) (name x)) (is_there name (name here) (front ++ (here ∷ back))) (in_middle front here back)
    where
      or_true : (a b : Bool) → b ≡ true → a || b ≡ true
      or_true true b e = refl
      or_true false b e = e

  -- an element of a list with names of their own isn't before itself
  apart-front : (front : List A) (here : A) (back : List A) → Apart name (front ++ (here ∷ back)) → is_there name (name here) front ≡ false
  apart-front [] here back h = refl
  apart-front (x ∷ front) here back h = step (same_id (name here) (name x)) refl (apart-front front here back h.1)
    where
      step : (b : Bool) → same_id (name here) (name x) ≡ b → is_there name (name here) front ≡ false → b || is_there name (name here) front ≡ false
      step true e g =
          let q : name here ≡ name x = same_id-eq (name here) (name x) e in
          cc (ap (λ i. is_there name i (front ++ (here ∷ back))) q, in_middle front here back, h.0)
      step false e g = g

  module _ (ok fewer : A → Bool) (f : (x : A) → ok x ≡ false → fewer x ≡ false) where
    abbrev pub settled_by : (A → Bool) → ElementId → List A → Option A
    settled_by test x xs = settled_after (λ e. same_id x (name e)) test None xs

    -- the one that was found, once more
    abbrev pub again : List A → Option A → Option A
    again xs None = None
    again xs (Some y) = settled_by fewer (name y) xs

    again-next : (front mid : List A) (y : A) (back : List A) → Apart name (front ++ (mid ++ (y ∷ back))) → list_any ok mid ≡ false
        → settled_by fewer (name y) (front ++ (mid ++ (y ∷ back))) ≡ option_or (find fewer (mid ++ (y ∷ back))) (last_ok fewer None front)
    again-next front mid y back d n =
        let d' = subst (Apart name) (sym (append_assoc front mid (y ∷ back))) d in
        let n' = fewer-any ok fewer f mid n in
        ap (settled_by fewer (name y)) (sym (append_assoc front mid (y ∷ back)))
        ∙ settled-at (λ e. same_id (name y) (name e)) fewer None (front ++ mid) y back (apart-front (front ++ mid) y back d') (same_id-refl (name y))
        ∙ ap (option_or (find fewer (y ∷ back))) (last-append fewer None front mid ∙ last-none fewer (last_ok fewer None front) mid n')
        ∙ ap (λ o. option_or o (last_ok fewer None front)) (sym (find-past fewer mid (y ∷ back) n'))

    again-last : (front : List A) (y : A) (mid rest : List A) → Apart name ((front ++ (y ∷ mid)) ++ rest) → list_any ok mid ≡ false → list_any ok rest ≡ false
        → settled_by fewer (name y) ((front ++ (y ∷ mid)) ++ rest) ≡ option_or (find fewer rest) (last_ok fewer None (front ++ (y ∷ mid)))
    again-last front y mid rest d n m =
        let d' = subst (Apart name) (append_assoc front (y ∷ mid) rest) d in
        let n' = fewer-any ok fewer f mid n in
        let m' = fewer-any ok fewer f rest m in
        ap (settled_by fewer (name y)) (append_assoc front (y ∷ mid) rest)
        ∙ settled-at (λ e. same_id (name y) (name e)) fewer None front y (mid ++ rest) (apart-front front y (mid ++ rest) d') (same_id-refl (name y))
        ∙ chosen (fewer y) (find-past fewer mid rest n' ∙ find-none fewer rest m')
        ∙ sym (ap (option_or (find fewer rest)) (last-append fewer None front (y ∷ mid) ∙ last-none fewer (cond (fewer y) (Some y) (last_ok fewer None front)) mid n')
        ∙ ap (λ o. option_or o (cond (fewer y) (Some y) (last_ok fewer None front))) (find-none fewer rest m'))
      where
        chosen : (b : Bool) → find fewer (mid ++ rest) ≡ None → option_or (cond b (Some y) (find fewer (mid ++ rest))) (last_ok fewer None front)
            ≡ cond b (Some y) (last_ok fewer None front)
        chosen true e = refl
        chosen false e = ap (λ o. option_or o (last_ok fewer None front)) e

    find-first : (mid : List A) (y : A) (back : List A) → list_any ok mid ≡ false → ok y ≡ true → find ok (mid ++ (y ∷ back)) ≡ Some y
    find-first mid y back n h = find-past ok mid (y ∷ back) n ∙ rw h refl

    last-first : (front : List A) (y : A) (mid : List A) → list_any ok mid ≡ false → ok y ≡ true → last_ok ok None (front ++ (y ∷ mid)) ≡ Some y
    last-first front y mid n h = last-append ok None front (y ∷ mid) ∙ last-none ok (cond (ok y) (Some y) (last_ok ok None front)) mid n ∙ rw h refl

    twice-last : (front rest : List A) → Apart name (front ++ rest) → list_any ok rest ≡ false → LastOf ok front
        → again (front ++ rest) (last_ok ok None front) ≡ option_or (find fewer rest) (last_ok fewer None front)
    twice-last front rest d m (LastOf.absent n) =
        ap (again (front ++ rest)) (last-none ok None front n)
        ∙ sym (ap (λ o. option_or o (last_ok fewer None front)) (find-none fewer rest (fewer-any ok fewer f rest m)) ∙ last-none fewer None front (fewer-any ok fewer f front n))
    twice-last front rest d m (LastOf.found s) =
        let d' = subst (λ xs. Apart name (xs ++ rest)) s.whole d in
        subst (λ xs. again (xs ++ rest) (last_ok ok None xs) ≡ option_or (find fewer rest) (last_ok fewer None xs)) (sym s.whole)
        (ap (again ((s.front ++ (s.here ∷ s.back)) ++ rest)) (last-first s.front s.here s.back s.none s.passes) ∙ again-last s.front s.here s.back rest d' s.none m)

    twice-first : (front rest : List A) → Apart name (front ++ rest) → FirstOf ok rest
        → again (front ++ rest) (option_or (find ok rest) (last_ok ok None front)) ≡ option_or (find fewer rest) (last_ok fewer None front)
    twice-first front rest d (FirstOf.absent n) =
        ap (λ o. again (front ++ rest) (option_or o (last_ok ok None front))) (find-none ok rest n) ∙ twice-last front rest d n (last_of_list ok front)
    twice-first front rest d (FirstOf.found s) =
        let d' = subst (λ xs. Apart name (front ++ xs)) s.whole d in
        subst (λ xs. again (front ++ xs) (option_or (find ok xs) (last_ok ok None front)) ≡ option_or (find fewer xs) (last_ok fewer None front)) (sym s.whole)
        (ap (λ o. again (front ++ (s.front ++ (s.here ∷ s.back))) (option_or o (last_ok ok None front))) (find-first s.front s.here s.back s.none s.passes)
        ∙ again-next front s.front s.here s.back d' s.none)

    -- settling among some and then among fewer is settling among the fewer
    settled-twice : (x : ElementId) (xs : List A) → Apart name xs → FirstOf (λ e. same_id x (name e)) xs → again xs (settled_by ok x xs) ≡ settled_by fewer x xs
    settled-twice x xs d (FirstOf.absent n) = ap (again xs) (settled-absent (λ e. same_id x (name e)) ok None xs n) ∙ sym (settled-absent (λ e. same_id x (name e)) fewer None xs n)
    settled-twice x xs d (FirstOf.found s) =
        let d' = subst (Apart name) s.whole d in
        subst (λ ys. again ys (settled_by ok x ys) ≡ settled_by fewer x ys) (sym s.whole)
        (ap (again (s.front ++ (s.here ∷ s.back))) (settled-at (λ e. same_id x (name e)) ok None s.front s.here s.back s.none s.passes)
        ∙ twice-first s.front (s.here ∷ s.back) d' (first_of_list ok (s.here ∷ s.back))
        ∙ sym (settled-at (λ e. same_id x (name e)) fewer None s.front s.here s.back s.none s.passes))

    pub settled_twice : (x : ElementId) (xs : List A) → Apart name xs → again xs (settled_by ok x xs) ≡ settled_by fewer x xs
    settled_twice x xs d = settled-twice x xs d (first_of_list (λ e. same_id x (name e)) xs)
