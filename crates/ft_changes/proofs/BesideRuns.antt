-- Where ends go, if elements of runs go away beside which each test is passed: it makes no difference at which stage they leave such a run.
use Rattle.std.proofs.Common.{◌≡◌, suc, ◌+◌, ◌≤◌, Bool, true, false, cond, not, ◌&&◌, ◌||◌, List, [], ◌∷◌, ◌++◌, Option, Some, None, refl, sym, ◌∙◌, ap, arith, filter, find}
use Rattle.std.specs.List.{list_any}
use Rattle.std.specs.Option.{option_or}
use Rattle.std.proofs.lemmas.List.Folds.{find-append}
use Rattle.ft_base.proofs.Booleans.{both}
use Rattle.ft_base.specs.Scan.{len, one_more_if, settled, settled_after}
use Rattle.ft_laws_agreement.proofs.SideBySideStages.{none-counted}
use Rattle.ft_changes.specs.Beside.{pass_beside_marked, passes_beside_marked}
use Rattle.ft_changes.proofs.AckedLists.{neither}

-- ---- a list from a place of it to both sides

-- what stands before the place, the last one first, in front of what stands there and behind
abbrev pub onto : {A : Type 0} → List A → List A → List A
onto [] r = r
onto (y ∷ l) r = onto l (y ∷ r)

pub onto-behind : {A : Type 0} (l s t : List A) → onto l (s ++ t) ≡ onto (onto s l) t
onto-behind l [] t = refl
onto-behind l (y ∷ s) t = onto-behind (y ∷ l) s t

pub onto-before : {A : Type 0} (s t r : List A) → onto (s ++ t) r ≡ onto t (onto s r)
onto-before [] t r = refl
onto-before (y ∷ s) t r = onto-before s t (y ∷ r)

len-onto : {A : Type 0} (test : A → Bool) (l r : List A) → len test (onto l r) ≡ len test l + len test r
len-onto test [] r = omega arith
len-onto test (y ∷ l) r = by (test y) (len-onto test l (y ∷ r))
  where
    by : (b : Bool) → len test (onto l (y ∷ r)) ≡ len test l + one_more_if b (len test r)
        → len test (onto l (y ∷ r)) ≡ one_more_if b (len test l) + len test r
    by true ih = omega (arith, ih)
    by false ih = ih

-- what is met once, and at the place, isn't before it
pub once-before : {A : Type 0} (test : A → Bool) (l r : List A) (x : A) → len test (onto l (x ∷ r)) ≤ 1 → test x ≡ true → list_any test l ≡ false
once-before test l r x h e =
    let sum : len test (onto l (x ∷ r)) ≡ len test l + suc (len test r) =
    len-onto test l (x ∷ r) ∙ ap (λ b. len test l + one_more_if b (len test r)) e in
    none-counted test l (omega (arith, sum, h))

pub none-found : {A : Type 0} (ok : A → Bool) (s : List A) → list_any ok s ≡ false → find ok s ≡ None
none-found ok [] h = refl
none-found ok (x ∷ s) h =
    let p = neither (ok x) (list_any ok s) h in
    ap (λ b. cond b (Some x) (find ok s)) p.0 ∙ none-found ok s p.1

pub none-skipped : {A : Type 0} (ok : A → Bool) (s r : List A) → list_any ok s ≡ false → find ok (s ++ r) ≡ find ok r
none-skipped ok s r h = find-append ok s r ∙ ap (λ o. option_or o (find ok r)) (none-found ok s h)

pub none-onto : {A : Type 0} (ok : A → Bool) (s r : List A) → list_any ok s ≡ false → find ok (onto s r) ≡ find ok r
none-onto ok [] r h = refl
none-onto ok (y ∷ s) r h =
    let p = neither (ok y) (list_any ok s) h in
    none-onto ok s (y ∷ r) p.1 ∙ ap (λ b. cond b (Some y) (find ok r)) p.0

-- ---- what is found

pub record IsFound {A : Type 0} (ok : A → Bool) (xs : List A) : Type 0 where
  pub before : List A
  pub here : A
  pub behind : List A
  pub all : xs ≡ before ++ (here ∷ behind)
  pub none : list_any ok before ≡ false
  pub passes : ok here ≡ true
  pub found : find ok xs ≡ Some here

pub data Search {A : Type 0} (ok : A → Bool) (xs : List A) : Type 0 where
  nothing : list_any ok xs ≡ false → find ok xs ≡ None → Search ok xs
  something : IsFound ok xs → Search ok xs

pub search-list : {A : Type 0} (ok : A → Bool) (xs : List A) → Search ok xs
search-list ok [] = Search.nothing refl refl
search-list ok (x ∷ xs) = by (ok x) refl (search-list ok xs)
  where
    by : (b : Bool) → ok x ≡ b → Search ok xs → Search ok (x ∷ xs)
    by true e rest = Search.something (record {
      before = [];
      here = x;
      behind = xs;
      all = refl;
      none = refl;
      passes = e;
      found = ap (λ b. cond b (Some x) (find ok xs)) e;
    })
    by false e (Search.nothing none found) = Search.nothing (ap (λ b. b || list_any ok xs) e ∙ none)
        (ap (λ b. cond b (Some x) (find ok xs)) e ∙ found)
    by false e (Search.something f) = Search.something (record {
      before = x ∷ f.before;
      here = f.here;
      behind = f.behind;
      all = ap (λ ys. x ∷ ys) f.all;
      none = ap (λ b. b || list_any ok f.before) e ∙ f.none;
      passes = f.passes;
      found = ap (λ b. cond b (Some x) (find ok xs)) e ∙ f.found;
    })

-- what is found from a place on, or else before it
abbrev pub found_from : {A : Type 0} → (A → Bool) → List A → List A → Option A
found_from ok l r = option_or (find ok r) (find ok l)

module _ {A : Type 0} (is ok : A → Bool) where
  settled-onto : (l r : List A) → list_any is l ≡ false → settled is ok (onto l r) ≡ settled_after is ok (find ok l) r
  settled-onto [] r h = refl
  settled-onto (y ∷ l) r h =
      let p = neither (is y) (list_any is l) h in
      settled-onto l (y ∷ r) p.1
      ∙ ap (λ b. cond b (option_or (find ok (y ∷ r)) (find ok l)) (settled_after is ok (cond (ok y) (Some y) (find ok l)) r)) p.0

  pub settled-at : (l r : List A) (x : A) → list_any is l ≡ false → is x ≡ true → settled is ok (onto l (x ∷ r)) ≡ found_from ok l (x ∷ r)
  settled-at l r x h e =
      settled-onto l (x ∷ r) h
      ∙ ap (λ b. cond b (option_or (find ok (x ∷ r)) (find ok l)) (settled_after is ok (cond (ok x) (Some x) (find ok l)) r)) e

-- ---- beside runs

module _ {A : Type 0} (always : A → Bool) where
  sides-turn : (a b : Bool × A) → passes_beside_marked always a b ≡ passes_beside_marked always b a
  sides-turn a b = by a.0 b.0
    where
      by : (x y : Bool) → cond x (y || always b.1) (not y || always a.1) ≡ cond y (x || always a.1) (not x || always b.1)
      by true true = refl
      by true false = refl
      by false true = refl
      by false false = refl

  beside-tail : (a : Bool × A) (xs : List (Bool × A)) → pass_beside_marked always (a ∷ xs) ≡ true → pass_beside_marked always xs ≡ true
  beside-tail a [] h = refl
  beside-tail a (b ∷ xs) h = (both (passes_beside_marked always a b) (pass_beside_marked always (b ∷ xs)) h).1

  beside-behind : (l r : List (Bool × A)) → pass_beside_marked always (onto l r) ≡ true → pass_beside_marked always r ≡ true
  beside-behind [] r h = h
  beside-behind (y ∷ l) r h = beside-tail y r (beside-behind l (y ∷ r) h)

  beside-before : (l r : List (Bool × A)) (b : Bool × A) → pass_beside_marked always (onto l (b ∷ r)) ≡ true
      → pass_beside_marked always (b ∷ l) ≡ true
  beside-before [] r b h = refl
  beside-before (y ∷ l) r b h =
      let rest = beside-before l (b ∷ r) y h in
      let pair = (both (passes_beside_marked always y b) (pass_beside_marked always (b ∷ r)) (beside-behind l (y ∷ (b ∷ r)) h)).0 in
      rw (sides-turn b y ∙ pair, rest) refl

filter-onto : {A : Type 0} (test : A → Bool) (l r : List A) → filter test (onto l r) ≡ onto (filter test l) (filter test r)
filter-onto test [] r = refl
filter-onto test (y ∷ l) r = filter-onto test l (y ∷ r) ∙ by (test y)
  where
    by : (b : Bool) → onto (filter test l) (cond b (y ∷ filter test r) (filter test r))
        ≡ onto (cond b (y ∷ filter test l) (filter test l)) (filter test r)
    by true = refl
    by false = refl

-- a test of what is left
abbrev pub left : {A : Type 0} → (A → Bool) → Bool × A → Bool
left ok m = not m.0 && ok m.1

abbrev pub of_marked : {A : Type 0} → (A → Bool) → Bool × A → Bool
of_marked ok m = ok m.1

module _ {A : Type 0} (stands always : A → Bool) where
  -- between two tests
  pub record IsBetween (ok : A → Bool) : Type 0 where
    pub above : (x : A) → always x ≡ true → ok x ≡ true
    pub below : (x : A) → ok x ≡ true → stands x ≡ true

  module _ (ok : A → Bool) (h : IsBetween ok) where
    -- behind one that goes the first that is left is found by each test
    found-behind : (b : Bool × A) (r : List (Bool × A)) → b.0 ≡ true → pass_beside_marked always (b ∷ filter (of_marked stands) r) ≡ true
        → find (left ok) r ≡ find (left stands) r
    found-behind b [] e p = refl
    found-behind b (x ∷ r) e p =
        by (stands x.1) x.0 (ok x.1) refl refl refl p (λ q. found-behind b r e q) (λ f q. found-behind x r f q)
      where
        pair : passes_beside_marked always b x ≡ x.0 || always x.1
        pair = ap (λ a. cond a (x.0 || always x.1) (not x.0 || always b.1)) e

        by : (s m o : Bool) → stands x.1 ≡ s → x.0 ≡ m → ok x.1 ≡ o
            → pass_beside_marked always (b ∷ cond s (x ∷ filter (of_marked stands) r) (filter (of_marked stands) r)) ≡ true
            → (pass_beside_marked always (b ∷ filter (of_marked stands) r) ≡ true → find (left ok) r ≡ find (left stands) r)
            → (x.0 ≡ true → pass_beside_marked always (x ∷ filter (of_marked stands) r) ≡ true → find (left ok) r ≡ find (left stands) r)
            → cond (not m && o) (Some x) (find (left ok) r) ≡ cond (not m && s) (Some x) (find (left stands) r)
        by false m true es em eo q skip next = let there = h.below x.1 eo in absurd (cc)
        by false true false es em eo q skip next = skip q
        by false false false es em eo q skip next = skip q
        by true true o es em eo q skip next = next em (beside-tail always b (x ∷ filter (of_marked stands) r) q)
        by true false true es em eo q skip next = refl
        by true false false es em eo q skip next =
            let one = (both (passes_beside_marked always b x) (pass_beside_marked always (x ∷ filter (of_marked stands) r)) q).0 in
            let passes : always x.1 ≡ true = ap (λ m. m || always x.1) (sym em) ∙ sym pair ∙ one in
            let there = h.above x.1 passes in
            absurd (cc)

  module _ (zs : List (Bool × A)) (beside : pass_beside_marked always (filter (of_marked stands) zs) ≡ true) where
    -- from one that goes on, all tests find the same
    pub gone-found : (ok : A → Bool) → IsBetween ok → (l r : List (Bool × A)) (b : Bool × A) → zs ≡ onto l (b ∷ r) → b.0 ≡ true → stands b.1 ≡ true
        → found_from (left ok) l (b ∷ r) ≡ option_or (find (left stands) r) (find (left stands) l)
    gone-found ok h l r b all gone there =
        let fs = filter (of_marked stands) l in
        let rs = filter (of_marked stands) r in
        let around : pass_beside_marked always (onto fs (b ∷ rs)) ≡ true =
        ap (λ s. pass_beside_marked always (onto fs (cond s (b ∷ rs) rs))) (sym there)
        ∙ ap (pass_beside_marked always) (sym (filter-onto (of_marked stands) l (b ∷ r)))
        ∙ ap (λ ys. pass_beside_marked always (filter (of_marked stands) ys)) (sym all) ∙ beside in
        ap (λ m. option_or (cond (not m && ok b.1) (Some b) (find (left ok) r)) (find (left ok) l)) gone
        ∙ ap (λ o. option_or o (find (left ok) l)) (found-behind ok h b r gone (beside-behind always fs (b ∷ rs) around))
        ∙ ap (option_or (find (left stands) r)) (found-behind ok h b l gone (beside-before always fs rs b around))
