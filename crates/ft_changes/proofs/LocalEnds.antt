-- What an edit of the client's own at a stage makes of the ends of intervals: at the stages before they settle as they did, and at its own they
-- go to where the changes of the lists take them.
use Rattle.std.proofs.Common.{◌≡◌, ℕ, zero, suc, ◌+◌, ◌≤◌, ◌<◌, Bool, true, false, cond, not, ◌&&◌, ◌||◌, nat_eq, nat_le, List, [], ◌∷◌, ◌++◌, Option, Some, None, refl, sym, ◌∙◌, ap, arith, find, pos}
use Rattle.std.specs.List.{list_all, list_any}
use Rattle.std.specs.Option.{option_map, option_or}
use Rattle.std.proofs.lemmas.Bool.Decides.{nat_tests}
use Rattle.ft_base.specs.declared.stamps.Stamp.{Stamp}
use Rattle.ft_base.specs.declared.stamps.Stamp.TheVariants.{Acked, Local}
use Rattle.ft_base.specs.Scan.{change_range, change_range_from, no_run, one_more_if, put, rank, settled_after, within}
use Rattle.ft_base.specs.Visibility.{has_occurred_at_stage}
use Rattle.ft_base.proofs.Booleans.{both}
use Rattle.ft_props.specs.Properties.{PropertyList}
use Rattle.ft_props.specs.Element.{ElementContent, ElementId, ListElement, PendingId, has_id, id, id_of_stamp, new_elements, removal_stamp, same_id, seen, with_pending_removal}
use Rattle.ft_props.specs.Slide.{end_number, settle}
use Rattle.ft_laws_agreement.specs.Trimming.{are_distinct_elements}
use Rattle.ft_laws_agreement.proofs.CompactedScans.{is_held_end}
use Rattle.ft_laws_agreement.proofs.OwnNames.{has_named}
use Rattle.ft_laws_agreement.proofs.SettledEnds.{is_end_at, only-named}
use Rattle.ft_laws_agreement.proofs.SlidEnds.{same_id-eq}
use Rattle.ft_changes.proofs.LocalSteps.{is_up_to, seen-later}
use Rattle.ft_changes.proofs.MovedEnds.{is_shown_one}

-- ---- elements of the same name

abbrev SameName : Option ListElement → Option ListElement → Type 0
SameName o p = option_map id o ≡ option_map id p

or-same : (u v l n : Option ListElement) → SameName u v → SameName l n → SameName (option_or u l) (option_or v n)
or-same None None l n e f = f
or-same (Some x) (Some y) l n e f = e
or-same None (Some y) l n e f = absurd (cc)
or-same (Some x) None l n e f = absurd (cc)

-- whether an element of the list has the name
abbrev pub is_known : List ListElement → ElementId → Bool
is_known xs a = list_any (has_id a) xs

pub named-known : (test : ListElement → Bool) (a : ElementId) (xs : List ListElement) → has_named test xs a ≡ true → is_known xs a ≡ true
named-known test a [] h = h
named-known test a (x ∷ xs) h = by (has_id a x) h (named-known test a xs)
  where
    by : (b : Bool) → (b && test x) || has_named test xs a ≡ true → (has_named test xs a ≡ true → is_known xs a ≡ true) → b || is_known xs a ≡ true
    by true g ih = refl
    by false g ih = ih g

pub end-known : (k : ℕ) (xs : List ListElement) (o : Option ElementId) → is_end_at k xs o ≡ true → is_held_end (is_known xs) o ≡ true
end-known k xs None h = refl
end-known k xs (Some a) h = named-known (seen k) a xs h

-- ---- elements with other marks

-- an element keeps its name, and whether it is seen
abbrev IsAlike : ℕ → ListElement → ListElement → Type 0
IsAlike m y x = (id y ≡ id x) × (seen m y ≡ seen m x)

module _ (m : ℕ) (y x : ListElement) (alike : IsAlike m y x) (ys xs : List ListElement) where
  find-alike : SameName (find (seen m) ys) (find (seen m) xs) → SameName (find (seen m) (y ∷ ys)) (find (seen m) (x ∷ xs))
  find-alike e = ap (λ b. option_map id (cond b (Some y) (find (seen m) ys))) alike.1 ∙ by (seen m x)
    where
      by : (b : Bool) → SameName (cond b (Some y) (find (seen m) ys)) (cond b (Some x) (find (seen m) xs))
      by true = ap Some alike.0
      by false = e

  settled-alike : (a : ElementId) (l n : Option ListElement) → SameName l n → SameName (find (seen m) ys) (find (seen m) xs)
      → ((u v : Option ListElement) → SameName u v → SameName (settled_after (has_id a) (seen m) u ys) (settled_after (has_id a) (seen m) v xs))
      → SameName (settled_after (has_id a) (seen m) l (y ∷ ys)) (settled_after (has_id a) (seen m) n (x ∷ xs))
  settled-alike a l n e f rest =
      ap (λ b. option_map id (cond b (option_or (find (seen m) (y ∷ ys)) l) (settled_after (has_id a) (seen m) (cond (seen m y) (Some y) l) ys)))
      (ap (same_id a) alike.0)
      ∙ by (has_id a x)
    where
      last : (b : Bool) → SameName (cond b (Some y) l) (cond b (Some x) n)
      last true = ap Some alike.0
      last false = e

      by : (b : Bool) → SameName (cond b (option_or (find (seen m) (y ∷ ys)) l) (settled_after (has_id a) (seen m) (cond (seen m y) (Some y) l) ys))
          (cond b (option_or (find (seen m) (x ∷ xs)) n) (settled_after (has_id a) (seen m) (cond (seen m x) (Some x) n) xs))
      by true = or-same (find (seen m) (y ∷ ys)) (find (seen m) (x ∷ xs)) l n (find-alike f) e
      by false = rest (cond (seen m y) (Some y) l) (cond (seen m x) (Some x) n)
          (ap (λ b. option_map id (cond b (Some y) l)) alike.1 ∙ last (seen m x))

-- f of the seen elements of a range, which keep their names and are seen as before
module _ (m : ℕ) (see P : ListElement → Bool) (p q : ℕ) (f : ListElement → ListElement)
    (alike : (x : ListElement) → see x ≡ true → P x ≡ true → IsAlike m (f x) x) where
  one-alike : (i : ℕ) (x : ListElement) → P x ≡ true → IsAlike m (cond (see x && within p q i) (f x) x) x
  one-alike i x h = by (see x) (within p q i) refl
    where
      by : (s w : Bool) → see x ≡ s → IsAlike m (cond (s && w) (f x) x) x
      by true true e = alike x e h
      by true false e = (refl, refl)
      by false w e = (refl, refl)

  range-find : (i : ℕ) (xs : List ListElement) → list_all P xs ≡ true → SameName (find (seen m) (change_range_from i see p q f xs))
      (find (seen m) xs)
  range-find i [] h = refl
  range-find i (x ∷ xs) h =
      let g = both (P x) (list_all P xs) h in
      find-alike m _ x (one-alike i x g.0) (change_range_from (one_more_if (see x) i) see p q f xs) xs (range-find (one_more_if (see x) i) xs g.1)

  range-settled : (a : ElementId) (i : ℕ) (xs : List ListElement) → list_all P xs ≡ true → (l n : Option ListElement) → SameName l n
      → SameName (settled_after (has_id a) (seen m) l (change_range_from i see p q f xs)) (settled_after (has_id a) (seen m) n xs)
  range-settled a i [] h l n e = refl
  range-settled a i (x ∷ xs) h l n e =
      let g = both (P x) (list_all P xs) h in
      let j = one_more_if (see x) i in
      settled-alike m _ x (one-alike i x g.0) (change_range_from j see p q f xs) xs a l n e (range-find j xs g.1)
      (λ u v d. range-settled a j xs g.1 u v d)

  pub settle-range : (xs : List ListElement) → list_all P xs ≡ true → (o : Option ElementId) → settle (change_range see p q f xs) m o ≡ settle xs m o
  settle-range xs h None = refl
  settle-range xs h (Some a) = range-settled a 0 xs h None None refl

-- names stay
module _ (f : ListElement → ListElement) (named : (x : ListElement) → id (f x) ≡ id x) (see : ListElement → Bool) (p q : ℕ) where
  range-known-from : (a : ElementId) (i : ℕ) (xs : List ListElement) → is_known (change_range_from i see p q f xs) a ≡ is_known xs a
  range-known-from a i [] = refl
  range-known-from a i (x ∷ xs) = by (see x && within p q i) ∙ ap (λ b. has_id a x || b) (range-known-from a (one_more_if (see x) i) xs)
    where
      rest : Bool
      rest = is_known (change_range_from (one_more_if (see x) i) see p q f xs) a

      by : (b : Bool) → has_id a (cond b (f x) x) || rest ≡ has_id a x || rest
      by true = ap (λ d. same_id a d || rest) (named x)
      by false = refl

  pub range-known : (a : ElementId) (xs : List ListElement) → is_known (change_range see p q f xs) a ≡ is_known xs a
  range-known a xs = range-known-from a 0 xs

  range-distinct-from : (i : ℕ) (xs : List ListElement) → are_distinct_elements (change_range_from i see p q f xs) ≡ are_distinct_elements xs
  range-distinct-from i [] = refl
  range-distinct-from i (x ∷ xs) =
      let j = one_more_if (see x) i in
      let rest = change_range_from j see p q f xs in
      by (see x && within p q i) ∙ ap (λ b. not b && are_distinct_elements rest) (range-known-from (id x) j xs)
      ∙ ap (λ b. not (is_known xs (id x)) && b) (range-distinct-from j xs)
    where
      after : List ListElement
      after = change_range_from (one_more_if (see x) i) see p q f xs

      by : (b : Bool) → not (is_known after (id (cond b (f x) x))) && are_distinct_elements after ≡ not
          (is_known after (id x)) && are_distinct_elements after
      by true = ap (λ d. not (is_known after d) && are_distinct_elements after) (named x)
      by false = refl

  pub range-distinct : (xs : List ListElement) → are_distinct_elements (change_range see p q f xs) ≡ are_distinct_elements xs
  range-distinct xs = range-distinct-from 0 xs

-- ---- new elements

module _ (m : ℕ) (a : ElementId) where
  find-none : (new : List ListElement) → list_any (seen m) new ≡ false → find (seen m) new ≡ None
  find-none [] h = refl
  find-none (x ∷ new) h = by (seen m x) h (λ g. find-none new g)
    where
      by : (b : Bool) → b || list_any (seen m) new ≡ false → (list_any (seen m) new ≡ false → find (seen m) new ≡ None) → cond b (Some x)
          (find (seen m) new) ≡ None
      by true g rest = absurd (cc)
      by false g rest = rest g

  find-front : (new xs : List ListElement) → list_any (seen m) new ≡ false → find (seen m) (new ++ xs) ≡ find (seen m) xs
  find-front [] xs h = refl
  find-front (x ∷ new) xs h = by (seen m x) h (λ g. find-front new xs g)
    where
      by : (b : Bool) → b || list_any (seen m) new ≡ false → (list_any (seen m) new ≡ false → find (seen m) (new ++ xs) ≡ find (seen m) xs)
          → cond b (Some x) (find (seen m) (new ++ xs)) ≡ find (seen m) xs
      by true g rest = absurd (cc)
      by false g rest = rest g

  settled-none : (new : List ListElement) → is_known new a ≡ false → (l : Option ListElement) → settled_after (has_id a) (seen m) l new ≡ None
  settled-none [] h l = refl
  settled-none (x ∷ new) h l = by (has_id a x) h (λ g. settled-none new g (cond (seen m x) (Some x) l))
    where
      by : (b : Bool) → b || is_known new a ≡ false
          → (is_known new a ≡ false → settled_after (has_id a) (seen m) (cond (seen m x) (Some x) l) new ≡ None)
          → cond b (option_or (find (seen m) (x ∷ new)) l) (settled_after (has_id a) (seen m) (cond (seen m x) (Some x) l) new) ≡ None
      by true g rest = absurd (cc)
      by false g rest = rest g

  settled-front : (new xs : List ListElement) → is_known new a ≡ false → list_any (seen m) new ≡ false → (l : Option ListElement)
      → settled_after (has_id a) (seen m) l (new ++ xs) ≡ settled_after (has_id a) (seen m) l xs
  settled-front [] xs h g l = refl
  settled-front (x ∷ new) xs h g l = by (has_id a x) (seen m x) h g (λ d e. settled-front new xs d e l)
    where
      by : (b s : Bool) → b || is_known new a ≡ false → s || list_any (seen m) new ≡ false
          → (is_known new a ≡ false → list_any (seen m) new ≡ false → settled_after (has_id a) (seen m) l (new ++ xs) ≡ settled_after (has_id a)
          (seen m) l xs)
          → cond b (option_or (find (seen m) (x ∷ (new ++ xs))) l) (settled_after (has_id a) (seen m) (cond s (Some x) l) (new ++ xs))
          ≡ settled_after (has_id a) (seen m) l xs
      by true s d e rest = absurd (cc)
      by false true d e rest = absurd (cc)
      by false false d e rest = rest d e

  module _ (new : List ListElement) (other : is_known new a ≡ false) (unseen : list_any (seen m) new ≡ false) (see : ListElement → Bool) where
    find-put : (p : ℕ) (xs : List ListElement) → find (seen m) (put see no_run p new xs) ≡ find (seen m) xs
    find-put zero [] = find-none new unseen
    find-put zero (x ∷ xs) = find-front new (x ∷ xs) unseen
    find-put (suc p) [] = find-none new unseen
    find-put (suc p) (x ∷ xs) = ap (cond (seen m x) (Some x)) (find-put (cond (see x) p (suc p)) xs)

    settled-put : (p : ℕ) (xs : List ListElement) (l : Option ListElement)
        → settled_after (has_id a) (seen m) l (put see no_run p new xs) ≡ settled_after (has_id a) (seen m) l xs
    settled-put zero [] l = settled-none new other l
    settled-put zero (x ∷ xs) l = settled-front new (x ∷ xs) other unseen l
    settled-put (suc p) [] l = settled-none new other l
    settled-put (suc p) (x ∷ xs) l =
        let r = cond (see x) p (suc p) in
        let n = cond (seen m x) (Some x) l in
        ap (λ o. cond (has_id a x) (option_or (cond (seen m x) (Some x) o) l) (settled_after (has_id a) (seen m) n (put see no_run r new xs)))
        (find-put r xs)
        ∙ ap (cond (has_id a x) (option_or (find (seen m) (x ∷ xs)) l)) (settled-put r xs n)

    pub settle-put : (p : ℕ) (xs : List ListElement) → settle (put see no_run p new xs) m (Some a) ≡ settle xs m (Some a)
    settle-put p xs = ap (option_map id) (settled-put p xs None)

-- elements that were there are there afterwards
module _ {A : Type 0} (test see : A → Bool) (new : List A) where
  front-any : (ys xs : List A) → list_any test xs ≡ true → list_any test (ys ++ xs) ≡ true
  front-any [] xs h = h
  front-any (y ∷ ys) xs h = let rest = front-any ys xs h in by (test y) rest
    where
      by : (b : Bool) → list_any test (ys ++ xs) ≡ true → b || list_any test (ys ++ xs) ≡ true
      by true e = refl
      by false e = e

  pub put-any : (p : ℕ) (xs : List A) → list_any test xs ≡ true → list_any test (put see no_run p new xs) ≡ true
  put-any zero [] h = absurd (cc)
  put-any zero (x ∷ xs) h = front-any new (x ∷ xs) h
  put-any (suc p) [] h = absurd (cc)
  put-any (suc p) (x ∷ xs) h = by (test x) h (λ e. put-any (cond (see x) p (suc p)) xs e)
    where
      by : (b : Bool) → b || list_any test xs ≡ true
          → (list_any test xs ≡ true → list_any test (put see no_run (cond (see x) p (suc p)) new xs) ≡ true)
          → b || list_any test (put see no_run (cond (see x) p (suc p)) new xs) ≡ true
      by true e rest = refl
      by false e rest = rest e

unknown : (b c : Bool) → (b ≡ true → c ≡ true) → not c ≡ true → not b ≡ true
unknown true c f h = let e = f refl in cc
unknown false c f h = refl

module _ (see : ListElement → Bool) (new : List ListElement) where
  front-distinct : (ys xs : List ListElement) → are_distinct_elements (ys ++ xs) ≡ true → are_distinct_elements xs ≡ true
  front-distinct [] xs h = h
  front-distinct (y ∷ ys) xs h = front-distinct ys xs (both (not (is_known (ys ++ xs) (id y))) (are_distinct_elements (ys ++ xs)) h).1

  -- where names are distinct afterwards, they were before
  pub put-distinct : (p : ℕ) (xs : List ListElement) → are_distinct_elements (put see no_run p new xs) ≡ true → are_distinct_elements xs ≡ true
  put-distinct zero [] h = refl
  put-distinct zero (x ∷ xs) h = front-distinct new (x ∷ xs) h
  put-distinct (suc p) [] h = refl
  put-distinct (suc p) (x ∷ xs) h =
      let r = cond (see x) p (suc p) in
      let g = both (not (is_known (put see no_run r new xs) (id x))) (are_distinct_elements (put see no_run r new xs)) h in
      let alone = unknown (is_known xs (id x)) (is_known (put see no_run r new xs) (id x)) (put-any (has_id (id x)) see new r xs) g.0 in
      let rest = put-distinct r xs g.1 in
      rw (alone, rest) refl

-- ---- an edit at stage k, where what was pending is of stages up to j

module _ (j k : ℕ) (low : j < k) where
  -- the new elements of the stage are not seen before it
  pub fresh-unseen : (m : ℕ) → m ≤ j → (n : ℕ) (props : PropertyList) (bs : List ElementContent) → list_any (seen m)
      (new_elements n (Local k) [] None props bs) ≡ false
  fresh-unseen m l n props [] = refl
  fresh-unseen m l n props (b ∷ bs) =
      let late : nat_le k m ≡ false = grind (arith, nat_tests) in
      ap (λ d. (d && true) || list_any (seen m) (new_elements (n + 1) (Local k) [] None props bs)) late ∙ fresh-unseen m l (n + 1) props bs

  -- and have other names
  one-other : (n : ℕ) (x : ListElement) → is_up_to j x ≡ true → same_id (id x) (PendingId k n) ≡ false
  one-other n x h = by x.ins (both (has_occurred_at_stage j x.ins) _ h).0
    where
      by : (t : Stamp) → has_occurred_at_stage j t ≡ true → same_id (id_of_stamp t x.nth) (PendingId k n) ≡ false
      by (Acked s c) e = refl
      by (Local i) e = let apart : nat_eq i k ≡ false = grind (arith, nat_tests, e, low) in ap (λ b. b && nat_eq x.nth n) apart

  name-other : (n : ℕ) (a : ElementId) (xs : List ListElement) → list_all (is_up_to j) xs ≡ true → is_known xs a ≡ true → same_id a
      (PendingId k n) ≡ false
  name-other n a [] h g = absurd (cc)
  name-other n a (x ∷ xs) h g =
      let p = both (is_up_to j x) (list_all (is_up_to j) xs) h in
      by (has_id a x) refl g p.0 (name-other n a xs p.1)
    where
      by : (b : Bool) → has_id a x ≡ b → b || is_known xs a ≡ true → is_up_to j x ≡ true → (is_known xs a ≡ true → same_id a (PendingId k n) ≡ false)
          → same_id a (PendingId k n) ≡ false
      by true e f u ih = ap (λ i. same_id i (PendingId k n)) (same_id-eq a (id x) e) ∙ one-other n x u
      by false e f u ih = ih f

  pub fresh-other : (a : ElementId) (xs : List ListElement) → list_all (is_up_to j) xs ≡ true → is_known xs a ≡ true → (n : ℕ)
      (props : PropertyList) (bs : List ElementContent)
      → is_known (new_elements n (Local k) [] None props bs) a ≡ false
  fresh-other a xs h g n props [] = refl
  fresh-other a xs h g n props (b ∷ bs) =
      ap (λ d. d || is_known (new_elements (n + 1) (Local k) [] None props bs) a) (name-other n a xs h g) ∙ fresh-other a xs h g (n + 1) props bs

  -- an element that is seen has no removal
  bare : (ts : List Stamp) → list_all (has_occurred_at_stage j) ts ≡ true → list_any (has_occurred_at_stage j) ts ≡ false → ts ≡ []
  bare [] h g = refl
  bare (t ∷ ts) h g =
      let p = both (has_occurred_at_stage j t) (list_all (has_occurred_at_stage j) ts) h in
      absurd (cc (ap (λ b. b || list_any (has_occurred_at_stage j) ts) p.0, g))

  front-none : {A : Type 0} (xs ys : List A) → xs ++ ys ≡ [] → xs ≡ []
  front-none [] ys h = refl
  front-none (x ∷ xs) ys h = absurd (cc)

  second : (a b : Bool) → a && not b ≡ true → b ≡ false
  second true true h = absurd (cc)
  second true false h = refl
  second false b h = absurd (cc)

  -- so that a pending removal of it shows at its own stage alone
  pub removal-alike : (m : ℕ) → m ≤ j → (x : ListElement) → seen j x ≡ true → is_up_to j x ≡ true
      → (id (with_pending_removal k x) ≡ id x) × (seen m (with_pending_removal k x) ≡ seen m x)
  removal-alike m l x h u =
      let dels = x.dels ++ removal_stamp x.removal_stage in
      let none : dels ≡ [] = bare dels (both (has_occurred_at_stage j x.ins) (list_all (has_occurred_at_stage j) dels) u).1
      (second (has_occurred_at_stage j x.ins) (list_any (has_occurred_at_stage j) dels) h) in
      let own : x.dels ≡ [] = front-none x.dels (removal_stamp x.removal_stage) none in
      let late : nat_le k m ≡ false = grind (arith, nat_tests) in (
        refl,
        ap (λ ds. has_occurred_at_stage m x.ins && not (list_any (has_occurred_at_stage m) (ds ++ (Local k ∷ [])))) own
            ∙ ap (λ b. has_occurred_at_stage m x.ins && not (b || false)) late
            ∙ ap (λ ds. has_occurred_at_stage m x.ins && not (list_any (has_occurred_at_stage m) ds)) (sym none),
      )

-- ---- ends at a stage

-- the first element of a name passes, if all of that name do
pub shown-one : (test : ListElement → Bool) (a : ElementId) (xs : List ListElement) → list_all (λ e. not (has_id a e) || test e) xs ≡ true
    → is_known xs a ≡ true → is_shown_one (has_id a) test xs ≡ true
shown-one test a [] h g = absurd (cc)
shown-one test a (x ∷ xs) h g =
    let p = both (not (has_id a x) || test x) (list_all (λ e. not (has_id a e) || test e) xs) h in
    by (has_id a x) p.0 g (shown-one test a xs p.1)
  where
    by : (b : Bool) → not b || test x ≡ true → b || is_known xs a ≡ true → (is_known xs a ≡ true → is_shown_one (has_id a) test xs ≡ true)
        → cond b (test x) (is_shown_one (has_id a) test xs) ≡ true
    by true e f ih = e
    by false e f ih = ih f

pub end-shown_one : (k : ℕ) (xs : List ListElement) → are_distinct_elements xs ≡ true → (a : ElementId) → has_named (seen k) xs a ≡ true
    → is_shown_one (has_id a) (seen k) xs ≡ true
end-shown_one k xs d a h = shown-one (seen k) a xs (only-named (seen k) xs d a h) (named-known (seen k) a xs h)

-- at a later stage the same are seen and have the same numbers
module _ (j k : ℕ) (low : j ≤ k) where
  pub named-later : (a : ElementId) (xs : List ListElement) → list_all (is_up_to j) xs ≡ true → has_named (seen k) xs a ≡ has_named (seen j) xs a
  named-later a [] h = refl
  named-later a (x ∷ xs) h =
      let p = both (is_up_to j x) (list_all (is_up_to j) xs) h in
      ap (λ b. (has_id a x && b) || has_named (seen k) xs a) (seen-later j k low x p.0) ∙ ap (λ b. (has_id a x && seen j x) || b)
      (named-later a xs p.1)

  rank-later : (a : ElementId) (xs : List ListElement) → list_all (is_up_to j) xs ≡ true → rank (has_id a) (seen k) xs ≡ rank (has_id a) (seen j) xs
  rank-later a [] h = refl
  rank-later a (x ∷ xs) h =
      let p = both (is_up_to j x) (list_all (is_up_to j) xs) h in
      ap (λ b. cond (has_id a x) 0 (one_more_if b (rank (has_id a) (seen k) xs))) (seen-later j k low x p.0)
      ∙ ap (λ n. cond (has_id a x) 0 (one_more_if (seen j x) n)) (rank-later a xs p.1)

  pub number-later : (xs : List ListElement) → list_all (is_up_to j) xs ≡ true → (o : Option ElementId) → end_number k xs o ≡ end_number j xs o
  number-later xs h None = refl
  number-later xs h (Some a) = ap pos (rank-later a xs h)

  pub end-later : (xs : List ListElement) → list_all (is_up_to j) xs ≡ true → (o : Option ElementId) → is_end_at j xs o ≡ true → is_end_at k xs o
      ≡ true
  end-later xs h None e = refl
  end-later xs h (Some a) e = named-later a xs h ∙ e
