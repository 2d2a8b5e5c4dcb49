-- Where an end settles, if elements go in between two that are seen: at the same element as before.
use Rattle.std.proofs.Common.{◌≡◌, ℕ, zero, suc, Bool, true, false, cond, ◌||◌, List, [], ◌∷◌, ◌++◌, Option, Some, None, refl, sym, ◌∙◌, ap, append-nil, find}
use Rattle.std.specs.Prelude.{drop, reverse, take}
use Rattle.std.specs.List.{list_any}
use Rattle.std.specs.Option.{option_or}
use Rattle.std.proofs.lemmas.List.{reverse-append, take-append-drop}
use Rattle.std.proofs.lemmas.List.Sorted.{IsPermutation-reverse, list_any-IsPermutation}
use Rattle.ft_base.specs.Scan.{put, put_past, settled, settled_after}
use Rattle.ft_changes.specs.Beside.{first_passes, passes_beside_place}
use Rattle.ft_changes.specs.ShownRuns.{place_of_insertion, shown_in_run}
use Rattle.ft_changes.proofs.AckedLists.{neither}
use Rattle.ft_changes.proofs.MovedEnds.{is_shown_one}
use Rattle.ft_base.proofs.Booleans.{both}

-- ---- the first that stands

module _ {A : Type 0} (stands ok : A → Bool) where
  first-front : (xs ys : List A) → first_passes stands ok (xs ++ ys) ≡ true → first_passes stands ok xs ≡ true
  first-front [] ys h = refl
  first-front (x ∷ xs) ys h = by (stands x) h (first-front xs ys)
    where
      by : (b : Bool) → cond b (ok x) (first_passes stands ok (xs ++ ys)) ≡ true
          → (first_passes stands ok (xs ++ ys) ≡ true → first_passes stands ok xs ≡ true) → cond b (ok x) (first_passes stands ok xs) ≡ true
      by true g ih = g
      by false g ih = ih g

  first-any : (xs : List A) → first_passes stands ok xs ≡ true → list_any stands xs ≡ true → list_any ok xs ≡ true
  first-any [] h e = e
  first-any (x ∷ xs) h e = by (stands x) (ok x) h e (first-any xs)
    where
      by : (s o : Bool) → cond s o (first_passes stands ok xs) ≡ true → s || list_any stands xs ≡ true
          → (first_passes stands ok xs ≡ true → list_any stands xs ≡ true → list_any ok xs ≡ true) → o || list_any ok xs ≡ true
      by s true g f ih = refl
      by true false g f ih = absurd (cc)
      by false false g f ih = ih g f

  last-tail : (x : A) (xs : List A) → first_passes stands ok (reverse (x ∷ xs)) ≡ true → first_passes stands ok (reverse xs) ≡ true
  last-tail x xs h = first-front (reverse xs) (reverse (x ∷ [])) (sym (ap (first_passes stands ok) (reverse-append (x ∷ []) xs)) ∙ h)

  last-any : (xs : List A) → first_passes stands ok (reverse xs) ≡ true → list_any stands xs ≡ true → list_any ok xs ≡ true
  last-any xs h e =
      list_any-IsPermutation ok xs (reverse xs) (IsPermutation-reverse xs)
      ∙ first-any (reverse xs) h (sym (list_any-IsPermutation stands xs (reverse xs) (IsPermutation-reverse xs)) ∙ e)

-- ---- between the last one before and the first one behind

find-front : {A : Type 0} (ok : A → Bool) (xs ys : List A) → list_any ok xs ≡ true → find ok (xs ++ ys) ≡ find ok xs
find-front ok [] ys h = absurd (cc)
find-front ok (x ∷ xs) ys h = by (ok x) h (find-front ok xs ys)
  where
    by : (b : Bool) → b || list_any ok xs ≡ true → (list_any ok xs ≡ true → find ok (xs ++ ys) ≡ find ok xs)
        → cond b (Some x) (find ok (xs ++ ys)) ≡ cond b (Some x) (find ok xs)
    by true g ih = refl
    by false g ih = ih g

module _ {A : Type 0} (is stands ok : A → Bool) (stand : (x : A) → ok x ≡ true → stands x ≡ true) where
  -- the last one before doesn't count
  last-behind : (l n : Option A) (xs : List A) → is_shown_one is stands xs ≡ true → first_passes stands ok xs ≡ true
      → settled_after is ok l xs ≡ settled_after is ok n xs
  last-behind l n [] h f = absurd (cc)
  last-behind l n (x ∷ xs) h f = by (is x) (stands x) (ok x) refl refl h f (last-behind l n xs)
    where
      by : (i s o : Bool) → stands x ≡ s → ok x ≡ o → cond i s (is_shown_one is stands xs) ≡ true → cond s o (first_passes stands ok xs) ≡ true
          → (is_shown_one is stands xs ≡ true → first_passes stands ok xs ≡ true → settled_after is ok l xs ≡ settled_after is ok n xs)
          → cond i (option_or (cond o (Some x) (find ok xs)) l) (settled_after is ok (cond o (Some x) l) xs)
          ≡ cond i (option_or (cond o (Some x) (find ok xs)) n) (settled_after is ok (cond o (Some x) n) xs)
      by true true true e d g p ih = refl
      by true true false e d g p ih = absurd (cc)
      by true false o e d g p ih = absurd (cc)
      by false true true e d g p ih = refl
      by false true false e d g p ih = absurd (cc)
      by false false true e d g p ih = let there = stand x d in absurd (cc)
      by false false false e d g p ih = ih g p

  new-behind : (l : Option A) (new xs : List A) → list_any is new ≡ false → is_shown_one is stands xs ≡ true → first_passes stands ok xs ≡ true
      → settled_after is ok l (new ++ xs) ≡ settled_after is ok l xs
  new-behind l [] xs none h f = refl
  new-behind l (y ∷ new) xs none h f =
      let p = neither (is y) (list_any is new) none in
      let n = cond (ok y) (Some y) l in
      ap (λ b. cond b (option_or (find ok (y ∷ (new ++ xs))) l) (settled_after is ok n (new ++ xs))) p.0
      ∙ new-behind n new xs p.1 h f ∙ last-behind n l xs h f

  module _ (new right : List A) (none : list_any is new ≡ false) (behind : first_passes stands ok right ≡ true) where
    put-settled : (l : Option A) (left : List A) → is_shown_one is stands (left ++ right) ≡ true → first_passes stands ok (reverse left) ≡ true
        → settled_after is ok l (left ++ (new ++ right)) ≡ settled_after is ok l (left ++ right)
    put-settled l [] h f = new-behind l new right none h behind
    put-settled l (x ∷ left) h f = by (is x) h (λ g. put-settled (cond (ok x) (Some x) l) left g (last-tail stands ok x left f))
      where
        by : (i : Bool) → cond i (stands x) (is_shown_one is stands (left ++ right)) ≡ true
            → (is_shown_one is stands (left ++ right) ≡ true
            → settled_after is ok (cond (ok x) (Some x) l) (left ++ (new ++ right)) ≡ settled_after is ok (cond (ok x) (Some x) l) (left ++ right))
            → cond i (option_or (find ok (x ∷ (left ++ (new ++ right)))) l) (settled_after is ok (cond (ok x) (Some x) l) (left ++ (new ++ right)))
            ≡ cond i (option_or (find ok (x ∷ (left ++ right))) l) (settled_after is ok (cond (ok x) (Some x) l) (left ++ right))
        by true g ih =
            let any : list_any ok (x ∷ left) ≡ true = last-any stands ok (x ∷ left) f (ap (λ b. b || list_any stands left) g) in
            ap (λ o. option_or o l) (find-front ok (x ∷ left) (new ++ right) any ∙ sym (find-front ok (x ∷ left) right any))
        by false g ih = ih g

-- ---- the place of an insertion

module _ {A : Type 0} (past : A → Bool) where
  past-split : (new xs : List A) → put_past past new xs
      ≡ take (shown_in_run past (λ x. true) xs) xs ++ (new ++ drop (shown_in_run past (λ x. true) xs) xs)
  past-split new [] = sym (append-nil new)
  past-split new (x ∷ xs) = by (past x) (past-split new xs)
    where
      n : ℕ
      n = shown_in_run past (λ x. true) xs

      by : (b : Bool) → put_past past new xs ≡ take n xs ++ (new ++ drop n xs)
          → cond b (x ∷ put_past past new xs) (new ++ (x ∷ xs)) ≡ take (cond b (suc n) 0) (x ∷ xs) ++ (new ++ drop (cond b (suc n) 0) (x ∷ xs))
      by true ih = ap (λ ys. x ∷ ys) ih
      by false ih = refl

  pub put-split : (seen : A → Bool) (p : ℕ) (new xs : List A) → put seen past p new xs
      ≡ take (place_of_insertion seen past (λ x. true) p xs) xs ++ (new ++ drop (place_of_insertion seen past (λ x. true) p xs) xs)
  put-split seen zero new xs = past-split new xs
  put-split seen (suc p) new [] = sym (append-nil new)
  put-split seen (suc p) new (x ∷ xs) = ap (λ ys. x ∷ ys) (put-split seen (cond (seen x) p (suc p)) new xs)

-- an end that stands settles as before
pub put-settles : {A : Type 0} (is stands ok : A → Bool) → ((x : A) → ok x ≡ true → stands x ≡ true) → (seen past : A → Bool) (p : ℕ)
    (new xs : List A) → list_any is new ≡ false → is_shown_one is stands xs ≡ true → passes_beside_place seen past stands ok p xs ≡ true
    → settled is ok (put seen past p new xs) ≡ settled is ok xs
put-settles is stands ok stand seen past p new xs none h f =
    let n = place_of_insertion seen past (λ x. true) p xs in
    let left = take n xs in
    let right = drop n xs in
    let g = both (first_passes stands ok (reverse left)) (first_passes stands ok right) f in
    let all : left ++ right ≡ xs = take-append-drop n xs in
    ap (settled is ok) (put-split past seen p new xs)
    ∙ put-settled is stands ok stand new right none g.1 None left (ap (is_shown_one is stands) all ∙ h) g.0
    ∙ ap (settled is ok) all
