-- A client's list up to a pending stage beside the list in which the stages were sequenced: pairs of elements.
use Rattle.std.proofs.Common.{◌≡◌, ℕ, zero, suc, Bool, true, false, cond, not, ◌&&◌, ◌||◌, List, [], ◌∷◌, ◌++◌, Option, Some, None, refl, sym, ◌∙◌, ap, subst, filter, find, map, nat_le, append-nil, pos}
use Rattle.std.specs.List.{list_all, list_any}
use Rattle.std.specs.Option.{option_map, option_or}
use Rattle.ft_base.specs.Scan.{at, change_range, change_range_from, len, no_run, one_more_if, put, put_past, rank, settled_after, within}
use Rattle.ft_base.proofs.Booleans.{both}
use Rattle.ft_base.proofs.ScanLaws.{put_past-no_run}
use Rattle.ft_props.specs.Element.{ElementId, ListElement, has_id, id, is_sequenced, is_unremoved, same_id, seen}
use Rattle.ft_props.specs.Slide.{end_number, settle, slide}
use Rattle.ft_laws_agreement.specs.Trimming.{are_distinct_elements}
use Rattle.ft_laws_agreement.proofs.ConsistentDocument.{any-put-stays}
use Rattle.ft_laws_agreement.proofs.SettledEnds.{only-named}
use Rattle.ft_laws_agreement.proofs.RunsOfMarks.{Each, change_run, change_runs}
use Rattle.ft_laws_agreement.proofs.Booleans.{hidden}
use Rattle.ft_laws_agreement.proofs.SlidEnds.{same_id-refl, same_id-eq}
use Rattle.ft_props.proofs.RebuiltList.{or_right}

-- an element of the client and the one that the log makes of it
abbrev pub Pair : Type 0
Pair = ListElement × ListElement

abbrev pub lefts : List Pair → List ListElement
lefts ps = map (λ p. p.0) ps

abbrev pub rights : List Pair → List ListElement
rights ps = map (λ p. p.1) ps

-- ---- facts of each element

module _ {A : Type 0} where
  pub each-with : (R S : A → Type 0) → ((x : A) → R x → S x) → (xs : List A) → Each R xs → Each S xs
  each-with R S f [] h = tt
  each-with R S f (x ∷ xs) h = (f x h.0, each-with R S f xs h.1)

  pub each-both : (R S T : A → Type 0) → ((x : A) → R x → S x → T x) → (xs : List A) → Each R xs → Each S xs → Each T xs
  each-both R S T f [] h k = tt
  each-both R S T f (x ∷ xs) h k = (f x h.0 k.0, each-both R S T f xs h.1 k.1)

  pub each-append : (R : A → Type 0) (xs ys : List A) → Each R xs → Each R ys → Each R (xs ++ ys)
  each-append R [] ys h k = k
  each-append R (x ∷ xs) ys h k = (h.0, each-append R xs ys h.1 k)

  pub each-put : (R : A → Type 0) (see : A → Bool) (p : ℕ) (new xs : List A) → Each R new → Each R xs → Each R (put see no_run p new xs)
  each-put R see zero new xs h k = subst (Each R) (sym (put_past-no_run new xs)) (each-append R new xs h k)
  each-put R see (suc p) new [] h k = h
  each-put R see (suc p) new (x ∷ xs) h k = (k.0, each-put R see (cond (see x) p (suc p)) new xs h k.1)

  pub each-map : {B : Type 0} (R : A → Type 0) (S : B → Type 0) (f : A → B) → ((x : A) → R x → S (f x)) → (xs : List A) → Each R xs → Each S (map f xs)
  each-map R S f g [] h = tt
  each-map R S f g (x ∷ xs) h = (g x h.0, each-map R S f g xs h.1)

  pub each-list_all : {B : Type 0} (test : B → Bool) (to : A → B) (xs : List A) → list_all test (map to xs) ≡ true → Each (λ x. test (to x) ≡ true) xs
  each-list_all test to [] h = tt
  each-list_all test to (x ∷ xs) h = let p = both (test (to x)) (list_all test (map to xs)) h in (p.0, each-list_all test to xs p.1)

  pub each-list_any : {B : Type 0} (test : B → Bool) (to : A → B) (xs : List A) → list_any test (map to xs) ≡ false → Each (λ x. test (to x) ≡ false) xs
  each-list_any test to [] h = tt
  each-list_any test to (x ∷ xs) h = (first (test (to x)) (list_any test (map to xs)) h, each-list_any test to xs (second (test (to x)) (list_any test (map to xs)) h))
    where
      first : (a b : Bool) → a || b ≡ false → a ≡ false
      first true b h = (cc)
      first false b h = refl

      second : (a b : Bool) → a || b ≡ false → b ≡ false
      second true b h = (cc)
      second false b h = h

-- ---- scans of a list and of its image under f

module _ {A B : Type 0} (to : A → B) (see : A → Bool) (see' : B → Bool) where
  pub len-map : (xs : List A) → Each (λ x. see' (to x) ≡ see x) xs → len see' (map to xs) ≡ len see xs
  len-map [] h = refl
  len-map (x ∷ xs) h = rw (h.0, len-map xs h.1) refl

  pub at-map : (i : ℕ) (xs : List A) → Each (λ x. see' (to x) ≡ see x) xs → at see' i (map to xs) ≡ option_map to (at see i xs)
  at-map i [] h = refl
  at-map zero (x ∷ xs) h = rw h.0 (step (see x) (at-map zero xs h.1))
    where
      step : (b : Bool) → at see' zero (map to xs) ≡ option_map to (at see zero xs) → cond b (Some (to x)) (at see' zero (map to xs))
          ≡ option_map to (cond b (Some x) (at see zero xs))
      step true e = refl
      step false e = e
  at-map (suc i) (x ∷ xs) h = ap (λ b. at see' (cond b i (suc i)) (map to xs)) h.0 ∙ at-map (cond (see x) i (suc i)) xs h.1

  pub find-map : (xs : List A) → Each (λ x. see' (to x) ≡ see x) xs → find see' (map to xs) ≡ option_map to (find see xs)
  find-map [] h = refl
  find-map (x ∷ xs) h = rw h.0 (step (see x) (find-map xs h.1))
    where
      step : (b : Bool) → find see' (map to xs) ≡ option_map to (find see xs) → cond b (Some (to x)) (find see' (map to xs)) ≡ option_map to (cond b (Some x) (find see xs))
      step true e = refl
      step false e = e

  pub filter-map : (xs : List A) → Each (λ x. see' (to x) ≡ see x) xs → filter see' (map to xs) ≡ map to (filter see xs)
  filter-map [] h = refl
  filter-map (x ∷ xs) h = rw h.0 (step (see x) (filter-map xs h.1))
    where
      step : (b : Bool) → filter see' (map to xs) ≡ map to (filter see xs) → cond b (to x ∷ filter see' (map to xs)) (filter see' (map to xs))
          ≡ map to (cond b (x ∷ filter see xs) (filter see xs))
      step true e = ap (λ ys. to x ∷ ys) e
      step false e = e

  map-append : (xs ys : List A) → map to (xs ++ ys) ≡ map to xs ++ map to ys
  map-append [] ys = refl
  map-append (x ∷ xs) ys = ap (λ zs. to x ∷ zs) (map-append xs ys)

  none-past : (past : B → Bool) (new : List B) (xs : List A) → Each (λ x. past (to x) ≡ false) xs → put_past past new (map to xs) ≡ new ++ map to xs
  none-past past new [] h = sym (append-nil new)
  none-past past new (x ∷ xs) h = rw h.0 refl

  pub put-map : (past : B → Bool) (p : ℕ) (new xs : List A) → Each (λ x. see' (to x) ≡ see x) xs → Each (λ x. past (to x) ≡ false) xs
      → map to (put see no_run p new xs) ≡ put see' past p (map to new) (map to xs)
  put-map past zero new xs h k = ap (map to) (put_past-no_run new xs) ∙ map-append new xs ∙ sym (none-past past (map to new) xs k)
  put-map past (suc p) new [] h k = refl
  put-map past (suc p) new (x ∷ xs) h k = rw h.0 (ap (λ ys. to x ∷ ys) (put-map past (cond (see x) p (suc p)) new xs h.1 k.1))

module _ {A B : Type 0} (to : A → B) (see : A → Bool) (see' : B → Bool) (all : (x : A) → see' (to x) ≡ see x) (f : A → A) (g : B → B) (e : (x : A) → to (f x) ≡ g (to x)) where
  each-all : (xs : List A) → Each (λ x. see' (to x) ≡ see x) xs
  each-all [] = tt
  each-all (x ∷ xs) = (all x, each-all xs)

  chosen-map : (b : Bool) (x : A) → to (cond b (f x) x) ≡ cond b (g (to x)) (to x)
  chosen-map true x = e x
  chosen-map false x = refl

  range-map : (i p q : ℕ) (xs : List A) → map to (change_range_from i see p q f xs) ≡ change_range_from i see' p q g (map to xs)
  range-map i p q [] = refl
  range-map i p q (x ∷ xs) = rw (all x, chosen-map (see x && within p q i) x, range-map (one_more_if (see x) i) p q xs) refl

  run-map : (r : ℕ × ℕ) (xs : List A) → map to (change_run see f r xs) ≡ change_run see' g r (map to xs)
  run-map r xs = step (nat_le r.1 (len see xs)) (ap (nat_le r.1) (len-map to see see' xs (each-all xs)))
    where
      step : (b : Bool) → nat_le r.1 (len see' (map to xs)) ≡ b → map to (cond b (change_range see r.0 r.1 f xs) xs) ≡ change_run see' g r (map to xs)
      step true h = rw h (range-map 0 r.0 r.1 xs)
      step false h = rw h refl

  -- changes of ranges go through
  pub runs-map : (rs : List (ℕ × ℕ)) (xs : List A) → map to (change_runs see f rs xs) ≡ change_runs see' g rs (map to xs)
  runs-map [] xs = refl
  runs-map (r ∷ rs) xs = runs-map rs (change_run see f r xs) ∙ ap (change_runs see' g rs) (run-map r xs)

module _ {A B : Type 0} (to : A → B) (is ok : A → Bool) (is' ok' : B → Bool) where
  or-map : (a b : Option A) → option_or (option_map to a) (option_map to b) ≡ option_map to (option_or a b)
  or-map None b = refl
  or-map (Some x) b = refl

  last-map : (b : Bool) (x : A) (last : Option A) → cond b (Some (to x)) (option_map to last) ≡ option_map to (cond b (Some x) last)
  last-map true x last = refl
  last-map false x last = refl

  choice-map : (b : Bool) (u v : Option A) → cond b (option_map to u) (option_map to v) ≡ option_map to (cond b u v)
  choice-map true u v = refl
  choice-map false u v = refl

  pub settled-map : (last : Option A) (xs : List A) → Each (λ x. is' (to x) ≡ is x) xs → Each (λ x. ok' (to x) ≡ ok x) xs
      → settled_after is' ok' (option_map to last) (map to xs) ≡ option_map to (settled_after is ok last xs)
  settled-map last [] h k = refl
  settled-map last (x ∷ xs) h k =
      let a = find-map to ok ok' (x ∷ xs) k in
      let b = settled-map (cond (ok x) (Some x) last) xs h.1 k.1 in
      ap (λ c. cond c (option_or (find ok' (to x ∷ map to xs)) (option_map to last)) (settled_after is' ok' (cond (ok' (to x)) (Some (to x)) (option_map to last)) (map to xs))) h.0
      ∙ ap (λ o. cond (is x) (option_or o (option_map to last)) (settled_after is' ok' (cond (ok' (to x)) (Some (to x)) (option_map to last)) (map to xs))) a
      ∙ ap (λ o. cond (is x) o (settled_after is' ok' (cond (ok' (to x)) (Some (to x)) (option_map to last)) (map to xs))) (or-map (find ok (x ∷ xs)) last)
      ∙ ap (λ c. cond (is x) (option_map to (option_or (find ok (x ∷ xs)) last)) (settled_after is' ok' (cond c (Some (to x)) (option_map to last)) (map to xs))) k.0
      ∙ ap (λ o. cond (is x) (option_map to (option_or (find ok (x ∷ xs)) last)) (settled_after is' ok' o (map to xs))) (last-map (ok x) x last)
      ∙ ap (cond (is x) (option_map to (option_or (find ok (x ∷ xs)) last))) b
      ∙ choice-map (is x) (option_or (find ok (x ∷ xs)) last) (settled_after is ok (cond (ok x) (Some x) last) xs)

  pub rank-map : (xs : List A) → Each (λ x. is' (to x) ≡ is x) xs → Each (λ x. ok' (to x) ≡ ok x) xs → rank is' ok' (map to xs) ≡ rank is ok xs
  rank-map [] h k = refl
  rank-map (x ∷ xs) h k = rw (h.0, k.0, rank-map xs h.1 k.1) refl

-- ---- pairs of names

-- whether two elements of these names are a pair
abbrev pub has_pair : List Pair → ElementId → ElementId → Bool
has_pair ps x y = list_any (λ p. has_id x p.0 && has_id y p.1) ps

absent-each : {A : Type 0} (to : A → ListElement) (x : ElementId) (ps : List A) → list_any (has_id x) (map to ps) ≡ false → Each (λ p. has_id x (to p) ≡ false) ps
absent-each to x ps h = each-list_any (has_id x) to ps h

left-there : (ps : List Pair) (x y : ElementId) → has_pair ps x y ≡ true → list_any (has_id x) (lefts ps) ≡ true
left-there [] x y h = (cc)
left-there (p ∷ ps) x y h = step (same_id x (id p.0)) (same_id y (id p.1)) h (left-there ps x y)
  where
    step : (a b : Bool) → (a && b) || has_pair ps x y ≡ true → (has_pair ps x y ≡ true → list_any (has_id x) (lefts ps) ≡ true) → a || list_any (has_id x) (lefts ps) ≡ true
    step true b h g = refl
    step false b h g = g h

right-there : (ps : List Pair) (x y : ElementId) → has_pair ps x y ≡ true → list_any (has_id y) (rights ps) ≡ true
right-there [] x y h = (cc)
right-there (p ∷ ps) x y h = step (same_id x (id p.0)) (same_id y (id p.1)) h (right-there ps x y)
  where
    step : (a b : Bool) → (a && b) || has_pair ps x y ≡ true → (has_pair ps x y ≡ true → list_any (has_id y) (rights ps) ≡ true) → b || list_any (has_id y) (rights ps) ≡ true
    step a true h g = refl
    step true false h g = g h
    step false false h g = g h

other-than : (x : ElementId) (e : ListElement) (xs : List ListElement) → list_any (has_id (id e)) xs ≡ false → list_any (has_id x) xs ≡ true → same_id x (id e) ≡ false
other-than x e xs h k = step (same_id x (id e)) refl
  where
    step : (b : Bool) → same_id x (id e) ≡ b → b ≡ false
    step true g = let q : x ≡ id e = same_id-eq x (id e) g in cc (ap (λ i. list_any (has_id i) xs) q, h, k)
    step false g = refl

-- where names are distinct on both sides, the two names of a pair mean the same pair
pub agree : (ps : List Pair) → are_distinct_elements (lefts ps) ≡ true → are_distinct_elements (rights ps) ≡ true → (x y : ElementId) → has_pair ps x y ≡ true
    → Each (λ p. has_id x p.0 ≡ has_id y p.1) ps
agree [] d f x y h = tt
agree (p ∷ ps) d f x y h =
    let u = both (not (list_any (has_id (id p.0)) (lefts ps))) (are_distinct_elements (lefts ps)) d in
    let v = both (not (list_any (has_id (id p.1)) (rights ps))) (are_distinct_elements (rights ps)) f in
    step (same_id x (id p.0)) (same_id y (id p.1)) refl refl h (hidden _ u.0) (hidden _ v.0) (agree ps u.1 v.1 x y)
  where
    rest : has_pair ps x y ≡ true → list_any (has_id (id p.0)) (lefts ps) ≡ false → list_any (has_id (id p.1)) (rights ps) ≡ false
        → Each (λ q. has_id x q.0 ≡ has_id y q.1) ps → Each (λ q. has_id x q.0 ≡ has_id y q.1) (p ∷ ps)
    rest k l r g = (other-than x p.0 (lefts ps) l (left-there ps x y k) ∙ sym (other-than y p.1 (rights ps) r (right-there ps x y k)), g)

    step : (a b : Bool) → same_id x (id p.0) ≡ a → same_id y (id p.1) ≡ b → (a && b) || has_pair ps x y ≡ true → list_any (has_id (id p.0)) (lefts ps) ≡ false
        → list_any (has_id (id p.1)) (rights ps) ≡ false
        → (has_pair ps x y ≡ true → Each (λ q. has_id x q.0 ≡ has_id y q.1) ps) → Each (λ q. has_id x q.0 ≡ has_id y q.1) (p ∷ ps)
    step true true i j k l r g =
        let s : x ≡ id p.0 = same_id-eq x (id p.0) i in
        let t : y ≡ id p.1 = same_id-eq y (id p.1) j in (
          i ∙ sym j,
          each-both (λ q. has_id (id p.0) q.0 ≡ false) (λ q. has_id (id p.1) q.1 ≡ false) (λ q. has_id x q.0 ≡ has_id y q.1)
              (λ q m o. ap (λ z. same_id z (id q.0)) s ∙ m ∙ sym (ap (λ z. same_id z (id q.1)) t ∙ o)) ps
              (absent-each (λ q. q.0) (id p.0) ps l) (absent-each (λ q. q.1) (id p.1) ps r),
        )
    step true false i j k l r g = rest k l r (g k)
    step false b i j k l r g = rest k l r (g k)

-- each pair is one
pub own-pair : (ps : List Pair) → Each (λ p. has_pair ps (id p.0) (id p.1) ≡ true) ps
own-pair [] = tt
own-pair (p ∷ ps) = (
  rw (same_id-refl (id p.0), same_id-refl (id p.1)) refl,
  each-with (λ q. has_pair ps (id q.0) (id q.1) ≡ true) (λ q. has_pair (p ∷ ps) (id q.0) (id q.1) ≡ true)
      (λ q h. or_right (has_id (id q.0) p.0 && has_id (id q.1) p.1) (has_pair ps (id q.0) (id q.1)) h) ps (own-pair ps),
)

-- ---- ends of intervals

-- both ends are detached, or on a pair
abbrev pub IsEndPair : List Pair → Option ElementId → Option ElementId → Type 0
IsEndPair ps None None = Unit {0}
IsEndPair ps (Some x) (Some y) = has_pair ps x y ≡ true
IsEndPair ps _ _ = false ≡ true

-- a pair that was found, if one was, is one of these
abbrev IsFound : List Pair → Option Pair → Type 0
IsFound ps None = Unit {0}
IsFound ps (Some p) = has_pair ps (id p.0) (id p.1) ≡ true

found-ends : (ps : List Pair) (o : Option Pair) → IsFound ps o → IsEndPair ps (option_map id (option_map (λ p. p.0) o)) (option_map id (option_map (λ p. p.1) o))
found-ends ps None h = tt
found-ends ps (Some p) h = h

module _ (all : List Pair) (is ok : Pair → Bool) where
  found-choice : (b : Bool) (o u : Option Pair) → IsFound all o → IsFound all u → IsFound all (cond b o u)
  found-choice true o u h k = h
  found-choice false o u h k = k

  found-or : (o u : Option Pair) → IsFound all o → IsFound all u → IsFound all (option_or o u)
  found-or None u h k = k
  found-or (Some p) u h k = h

  found-find : (ps : List Pair) → Each (λ p. has_pair all (id p.0) (id p.1) ≡ true) ps → IsFound all (find ok ps)
  found-find [] h = tt
  found-find (p ∷ ps) h = found-choice (ok p) (Some p) (find ok ps) h.0 (found-find ps h.1)

  found-at : (i : ℕ) (ps : List Pair) → Each (λ p. has_pair all (id p.0) (id p.1) ≡ true) ps → IsFound all (at ok i ps)
  found-at i [] h = tt
  found-at zero (p ∷ ps) h = found-choice (ok p) (Some p) (at ok zero ps) h.0 (found-at zero ps h.1)
  found-at (suc i) (p ∷ ps) h = found-at (cond (ok p) i (suc i)) ps h.1

  found-settled : (last : Option Pair) (ps : List Pair) → IsFound all last → Each (λ p. has_pair all (id p.0) (id p.1) ≡ true) ps → IsFound all (settled_after is ok last ps)
  found-settled last [] l h = tt
  found-settled last (p ∷ ps) l h =
      found-choice (is p) (option_or (find ok (p ∷ ps)) last) (settled_after is ok (cond (ok p) (Some p) last) ps)
      (found-or (find ok (p ∷ ps)) last (found-find (p ∷ ps) h) l)
      (found-settled (cond (ok p) (Some p) last) ps (found-choice (ok p) (Some p) last h.0 l) h.1)

module _ (k : ℕ) (ps : List Pair) (d : are_distinct_elements (lefts ps) ≡ true) (f : are_distinct_elements (rights ps) ≡ true) where
  -- an end settles on one side as its pair slides on the other
  pub settled-pair : Each (λ p. is_unremoved p.1 ≡ seen k p.0) ps → Each (λ p. is_sequenced p.1 ≡ true) ps → (x y : Option ElementId) → IsEndPair ps x y
      → IsEndPair ps (settle (lefts ps) k x) (slide (rights ps) y)
  settled-pair u s None None h = tt
  settled-pair u s None (Some y) h = (cc)
  settled-pair u s (Some x) None h = (cc)
  settled-pair u s (Some x) (Some y) h =
      let g = agree ps d f x y h in
      let o = settled_after (λ p. has_id x p.0) (λ p. seen k p.0) None ps in
      let left : settle (lefts ps) k (Some x) ≡ option_map id (option_map (λ p. p.0) o) =
      ap (option_map id) (settled-map (λ p. p.0) (λ p. has_id x p.0) (λ p. seen k p.0) (has_id x) (seen k) None ps
      (each-with (λ p. is_unremoved p.1 ≡ seen k p.0) (λ p. has_id x p.0 ≡ has_id x p.0) (λ p m. refl) ps u)
      (each-with (λ p. is_unremoved p.1 ≡ seen k p.0) (λ p. seen k p.0 ≡ seen k p.0) (λ p m. refl) ps u)) in
      let right : slide (rights ps) (Some y) ≡ option_map id (option_map (λ p. p.1) o) =
      ap (option_map id) (settled-map (λ p. p.1) (λ p. has_id x p.0) (λ p. seen k p.0) (λ e. is_sequenced e && has_id y e) is_unremoved None ps
      (each-both (λ p. is_sequenced p.1 ≡ true) (λ p. has_id x p.0 ≡ has_id y p.1) (λ p. is_sequenced p.1 && has_id y p.1 ≡ has_id x p.0)
      (λ p m n. ap (λ b. b && has_id y p.1) m ∙ sym n) ps s g) u) in
      rw (left, right) (found-ends ps o (found-settled ps (λ p. has_id x p.0) (λ p. seen k p.0) None ps tt (own-pair ps)))

  -- a pair has one number on both sides
  pub number-pair : Each (λ p. seen 0 p.1 ≡ seen k p.0) ps → (x y : Option ElementId) → IsEndPair ps x y → end_number 0 (rights ps) y ≡ end_number k (lefts ps) x
  number-pair u None None h = refl
  number-pair u None (Some y) h = (cc)
  number-pair u (Some x) None h = (cc)
  number-pair u (Some x) (Some y) h =
      let g = agree ps d f x y h in
      ap pos
      (rank-map (λ p. p.1) (λ p. has_id x p.0) (λ p. seen k p.0) (has_id y) (seen 0) ps
      (each-with (λ p. has_id x p.0 ≡ has_id y p.1) (λ p. has_id y p.1 ≡ has_id x p.0) (λ p m. sym m) ps g) u
      ∙ sym (rank-map (λ p. p.0) (λ p. has_id x p.0) (λ p. seen k p.0) (has_id x) (seen k) ps
      (each-with (λ p. has_id x p.0 ≡ has_id y p.1) (λ p. has_id x p.0 ≡ has_id x p.0) (λ p m. refl) ps g)
      (each-with (λ p. seen 0 p.1 ≡ seen k p.0) (λ p. seen k p.0 ≡ seen k p.0) (λ p m. refl) ps u)))

-- pairs stay where only elements change that keep their names
pub pair-changed : (f : Pair → Pair) → ((p : Pair) → id (f p).0 ≡ id p.0) → ((p : Pair) → id (f p).1 ≡ id p.1) → (x y : ElementId) (ps : List Pair)
    → has_pair (map f ps) x y ≡ has_pair ps x y
pair-changed f a b x y [] = refl
pair-changed f a b x y (p ∷ ps) = rw (a p, b p, pair-changed f a b x y ps) refl

pub pair-put : (see : Pair → Bool) (n : ℕ) (new : List Pair) (x y : ElementId) (ps : List Pair) → has_pair ps x y ≡ true → has_pair (put see no_run n new ps) x y ≡ true
pair-put see n new x y ps h = any-put-stays (λ p. has_id x p.0 && has_id y p.1) see no_run n new ps h

pub end-changed : (ps qs : List Pair) → ((x y : ElementId) → has_pair ps x y ≡ true → has_pair qs x y ≡ true) → (x y : Option ElementId) → IsEndPair ps x y → IsEndPair qs x y
end-changed ps qs f None None h = tt
end-changed ps qs f None (Some y) h = h
end-changed ps qs f (Some x) None h = h
end-changed ps qs f (Some x) (Some y) h = f x y h

-- ---- the element at the number of another

at-unseen : {A : Type 0} (ok : A → Bool) (i : ℕ) (x : A) (xs : List A) → ok x ≡ false → at ok i (x ∷ xs) ≡ at ok i xs
at-unseen ok zero x xs h = ap (λ b. cond b (Some x) (at ok zero xs)) h
at-unseen ok (suc i) x xs h = ap (λ b. at ok (cond b i (suc i)) xs) h

at-seen : {A : Type 0} (ok : A → Bool) (i : ℕ) (x : A) (xs : List A) → ok x ≡ true → at ok (suc i) (x ∷ xs) ≡ at ok i xs
at-seen ok i x xs h = ap (λ b. at ok (cond b i (suc i)) xs) h

-- the element at the number of one that is meant is it
pub record IsAt {A : Type 0} (is : A → Bool) (o : Option A) : Type 0 where
  pub found : A
  pub there : o ≡ Some found
  pub meant : is found ≡ true

at-rank : {A : Type 0} (is ok : A → Bool) (xs : List A) → list_all (λ x. not (is x) || ok x) xs ≡ true → list_any is xs ≡ true → IsAt is (at ok (rank is ok xs) xs)
at-rank is ok [] h k = absurd cc
at-rank is ok (x ∷ xs) h k =
    let p = both (not (is x) || ok x) (list_all (λ x. not (is x) || ok x) xs) h in
    step (is x) (ok x) refl refl p.0 k (at-rank is ok xs p.1)
  where
    step : (a b : Bool) → is x ≡ a → ok x ≡ b → not a || b ≡ true → a || list_any is xs ≡ true → (list_any is xs ≡ true → IsAt is (at ok (rank is ok xs) xs))
        → IsAt is (at ok (cond a 0 (one_more_if b (rank is ok xs))) (x ∷ xs))
    step true true e f h k g = record { found = x; there = ap (λ b. cond b (Some x) (at ok zero xs)) f; meant = e }
    step true false e f h k g = absurd cc
    step false true e f h k g = let r = g k in record { found = r.found; there = at-seen ok (rank is ok xs) x xs f ∙ r.there; meant = r.meant }
    step false false e f h k g = let r = g k in record { found = r.found; there = at-unseen ok (rank is ok xs) x xs f ∙ r.there; meant = r.meant }

any-named : (test : ListElement → Bool) (x : ElementId) (ps : List Pair) → list_any (λ e. has_id x e && test e) (lefts ps) ≡ true → list_any (λ p. has_id x p.0) ps ≡ true
any-named test x [] h = absurd cc
any-named test x (p ∷ ps) h = step (same_id x (id p.0)) h (any-named test x ps)
  where
    step : (b : Bool) → (b && test p.0) || list_any (λ e. has_id x e && test e) (lefts ps) ≡ true
        → (list_any (λ e. has_id x e && test e) (lefts ps) ≡ true → list_any (λ p. has_id x p.0) ps ≡ true) → b || list_any (λ p. has_id x p.0) ps ≡ true
    step true h g = refl
    step false h g = g h

all-left : (test : ListElement → Bool) (ps : List Pair) → list_all test (lefts ps) ≡ true → list_all (λ p. test p.0) ps ≡ true
all-left test [] h = refl
all-left test (p ∷ ps) h = let q = both (test p.0) (list_all test (lefts ps)) h in rw (q.0, all-left test ps q.1) refl

-- what stands on the other side at a seen element's number is its pair
pub at-pair : (k : ℕ) (see : ListElement → Bool) (ps : List Pair) → are_distinct_elements (lefts ps) ≡ true → Each (λ p. see p.1 ≡ seen k p.0) ps → (x : ElementId)
    → list_any (λ e. has_id x e && seen k e) (lefts ps) ≡ true
    → IsEndPair ps (Some x) (option_map id (at see (rank (has_id x) (seen k) (lefts ps)) (rights ps)))
at-pair k see ps d u x h =
    let is : Pair → Bool = λ p. has_id x p.0 in
    let ok : Pair → Bool = λ p. seen k p.0 in
    let same_rank : rank (has_id x) (seen k) (lefts ps) ≡ rank is ok ps =
    rank-map (λ p. p.0) is ok (has_id x) (seen k) ps (each-with (λ p. see p.1 ≡ seen k p.0) (λ p. has_id x p.0 ≡ has_id x p.0) (λ p m. refl) ps u)
    (each-with (λ p. see p.1 ≡ seen k p.0) (λ p. seen k p.0 ≡ seen k p.0) (λ p m. refl) ps u) in
    let r = at-rank is ok ps (all-left (λ e. not (has_id x e) || seen k e) ps (only-named (seen k) (lefts ps) d x h)) (any-named (seen k) x ps h) in
    let found : IsFound ps (Some r.found) = subst (IsFound ps) r.there (found-at ps is ok (rank is ok ps) ps (own-pair ps)) in
    let name : x ≡ id r.found.0 = same_id-eq x (id r.found.0) r.meant in
    let other : at see (rank (has_id x) (seen k) (lefts ps)) (rights ps) ≡ Some r.found.1 =
    ap (λ i. at see i (rights ps)) same_rank ∙ at-map (λ p. p.1) ok see (rank is ok ps) ps u ∙ ap (option_map (λ (p : Pair). p.1)) r.there in
    subst (λ o. IsEndPair ps (Some x) (option_map id o)) (sym other) (subst (λ i. has_pair ps i (id r.found.1) ≡ true) (sym name) found)
