-- Places in a list in which the elements of pending stages are put in afresh: the element that alone passes a test, as by its
-- name, stands where the place tells that it had before.
use Rattle.std.proofs.Common.{◌≡◌, ℕ, zero, suc, ◌+◌, ◌<◌, Bool, true, false, cond, not, ◌||◌, nat_eq, List, [], ◌∷◌, map, filter, refl, sym, ◌∙◌, ap, arith}
use Rattle.std.specs.List.{enumerate_from, list_any}
use Rattle.std.proofs.lemmas.Bool.Decides.{nat_tests}
use Rattle.std.proofs.lemmas.List.{map-append}
use Rattle.ft_base.specs.declared.stamps.Stamp.{Stamp}
use Rattle.ft_base.specs.declared.stamps.Stamp.TheVariants.{Acked, Local}
use Rattle.ft_base.specs.declared.elements.Element.{Element as ElementStamps}
use Rattle.ft_base.proofs.ScanLaws.{put_past-no_run}
use Rattle.ft_base.specs.Scan.{len, no_run, one_more_if, put, rank, retain_map}
use Rattle.ft_base.specs.Visibility.{is_acked, is_of_stage}
use Rattle.ft_props.proofs.RebuiltList.{any-put}
use Rattle.ft_rebase.specs.RebuiltPlaces.{placed_stamps, rebuilt_place, rebuilt_places}
use Rattle.ft_rebase.specs.StageLists.{inserted_by, next_position, seen_by, sequenced, with_stages}

-- ---- elements that pass tests as their images do

module _ {A B : Type 0} (f : A → B) where
  pub filter-image : (s : A → Bool) (t : B → Bool) → ((x : A) → t (f x) ≡ s x) → (xs : List A) → filter t (map f xs) ≡ map f (filter s xs)
  filter-image s t h [] = refl
  filter-image s t h (x ∷ xs) = grind (arith, filter-image s t h xs, h x)

  pub rank-image : (is see : A → Bool) (js : B → Bool) (tee : B → Bool) → ((x : A) → js (f x) ≡ is x) → ((x : A) → tee (f x) ≡ see x)
      → (xs : List A) → rank js tee (map f xs) ≡ rank is see xs
  rank-image is see js tee h g [] = refl
  rank-image is see js tee h g (x ∷ xs) = grind (arith, rank-image is see js tee h g xs, h x, g x)

  put-image : (s : A → Bool) (t : B → Bool) → ((x : A) → t (f x) ≡ s x) → (p : ℕ) (new xs : List A)
      → put t no_run p (map f new) (map f xs) ≡ map f (put s no_run p new xs)
  put-image s t h zero new xs = put_past-no_run (map f new) (map f xs) ∙ sym (map-append f new xs) ∙ ap (map f) (sym (put_past-no_run new xs))
  put-image s t h (suc p) new [] = refl
  put-image s t h (suc p) new (x ∷ xs) = grind (arith, put-image s t h p new xs, put-image s t h (suc p) new xs, h x)

module _ {A B : Type 0} (sa : A → ElementStamps) (sb : B → ElementStamps) (f : A → B)
    (ins : (k : ℕ) (x : A) → inserted_by sb k (f x) ≡ inserted_by sa k x) (see : (k : ℕ) (x : A) → seen_by sb k (f x) ≡ seen_by sa k x) where
  -- stages put in afresh
  pub stages-image : (xs ys : List A) (k : ℕ) → map f (with_stages sa xs ys k) ≡ with_stages sb (map f xs) (map f ys) k
  stages-image xs ys zero = refl
  stages-image xs ys (suc k) =
      let is = inserted_by sa (suc k) in
      let js = inserted_by sb (suc k) in
      let now = map f (with_stages sa xs ys k) in
      sym (put-image f (seen_by sa k) (seen_by sb k) (see k) (next_position sa k xs) (filter is xs) (with_stages sa xs ys k))
      ∙ ap (λ p. put (seen_by sb k) no_run p (map f (filter is xs)) now) (sym (rank-image f is (seen_by sa k) js (seen_by sb k) (ins (suc k)) (see k) xs))
      ∙ ap (λ us. put (seen_by sb k) no_run (next_position sb k (map f xs)) us now) (sym (filter-image f is js (ins (suc k)) xs))
      ∙ ap (put (seen_by sb k) no_run (next_position sb k (map f xs)) (filter js (map f xs))) (stages-image xs ys k)

-- ---- the elements of a list that is rebuilt

module _ {A : Type 0} (t : A → Bool) where
  any-part : (p : A → Bool) (xs : List A) → list_any t xs ≡ false → list_any t (filter p xs) ≡ false
  any-part p [] h = refl
  any-part p (x ∷ xs) h = grind (arith, any-part p xs)

  any-stages : (stamps : A → ElementStamps) (xs ys : List A) → list_any t xs ≡ false → list_any t ys ≡ false → (k : ℕ)
      → list_any t (with_stages stamps xs ys k) ≡ false
  any-stages stamps xs ys h g zero = g
  any-stages stamps xs ys h g (suc k) =
      any-put t (seen_by stamps k) (next_position stamps k xs) (filter (inserted_by stamps (suc k)) xs) (with_stages stamps xs ys k)
      (any-part (inserted_by stamps (suc k)) xs h) (any-stages stamps xs ys h g k)

-- whether just one of the two tests passes
abbrev differ : {A : Type 0} → (A → Bool) → (A → Bool) → A → Bool
differ is js x = cond (is x) (not (js x)) (js x)

rank-agree : {A : Type 0} (is js see : A → Bool) (xs : List A) → list_any (differ is js) xs ≡ false → rank is see xs ≡ rank js see xs
rank-agree is js see [] h = refl
rank-agree is js see (x ∷ xs) h = grind (arith, rank-agree is js see xs)

-- ---- places before

module _ {A B : Type 0} (f : A → B) where
  pub enumerate-image : (n : ℕ) (xs : List A) → enumerate_from n (map f xs) ≡ map (λ (x : ℕ × A). (x.0, f x.1)) (enumerate_from n xs)
  enumerate-image n [] = refl
  enumerate-image n (x ∷ xs) = ap (λ ys. (n, f x) ∷ ys) (enumerate-image (n + 1) xs)

pub enumerate-elements : {A : Type 0} (n : ℕ) (xs : List A) → map (λ (x : ℕ × A). x.1) (enumerate_from n xs) ≡ xs
enumerate-elements n [] = refl
enumerate-elements n (x ∷ xs) = ap (λ ys. x ∷ ys) (enumerate-elements (n + 1) xs)

module _ {A : Type 0} (is : A → Bool) where
  -- whether the place is j, and whether the element passes
  abbrev at_place : ℕ → ℕ × A → Bool
  at_place j x = nat_eq x.0 j

  abbrev passing : ℕ × A → Bool
  passing x = is x.1

  none-placed : (n j : ℕ) (xs : List A) → j < n → len is xs ≡ 0 → list_any (differ (at_place j) passing) (enumerate_from n xs) ≡ false
  none-placed n j [] l h = refl
  none-placed n j (x ∷ xs) l h = step (is x) h (none-placed (n + 1) j xs (omega arith))
    where
      step : (b : Bool) → one_more_if b (len is xs) ≡ 0
          → (len is xs ≡ 0 → list_any (differ (at_place j) passing) (enumerate_from (n + 1) xs) ≡ false)
          → (cond (nat_eq n j) (not b) b || list_any (differ (at_place j) passing) (enumerate_from (n + 1) xs)) ≡ false
      step true g ih = absurd (omega arith)
      step false g ih =
          let no : nat_eq n j ≡ false = grind (arith, nat_tests) in
          ap (λ b. cond b true false || list_any (differ (at_place j) passing) (enumerate_from (n + 1) xs)) no ∙ ih g

  -- the one that passes is that of its place
  one-placed : (n j : ℕ) (xs : List A) → j ≡ n + rank is (λ x. true) xs → len is xs ≡ 1
      → list_any (differ (at_place j) passing) (enumerate_from n xs) ≡ false
  one-placed n j [] e h = refl
  one-placed n j (x ∷ xs) e h = step (is x) e h (one-placed (n + 1) j xs) (none-placed (n + 1) j xs)
    where
      step : (b : Bool) → j ≡ n + cond b 0 (suc (rank is (λ x. true) xs)) → one_more_if b (len is xs) ≡ 1
          → (j ≡ n + 1 + rank is (λ x. true) xs → len is xs ≡ 1 → list_any (differ (at_place j) passing) (enumerate_from (n + 1) xs) ≡ false)
          → (j < n + 1 → len is xs ≡ 0 → list_any (differ (at_place j) passing) (enumerate_from (n + 1) xs) ≡ false)
          → (cond (nat_eq n j) (not b) b || list_any (differ (at_place j) passing) (enumerate_from (n + 1) xs)) ≡ false
      step true e g ih none =
          let here : nat_eq n j ≡ true = grind (arith, nat_tests) in
          ap (λ b. cond b false true || list_any (differ (at_place j) passing) (enumerate_from (n + 1) xs)) here
          ∙ none (omega (arith, e)) (omega (arith, g))
      step false e g ih none =
          let no : nat_eq n j ≡ false = grind (arith, nat_tests) in
          ap (λ b. cond b true false || list_any (differ (at_place j) passing) (enumerate_from (n + 1) xs)) no
          ∙ ih (omega (arith, e)) g

-- ---- places then

module _ {A B : Type 0} (sa : A → ElementStamps) (sb : B → ElementStamps) (f : A → B)
    (ins : (k : ℕ) (x : A) → inserted_by sb k (f x) ≡ inserted_by sa k x) (see : (k : ℕ) (x : A) → seen_by sb k (f x) ≡ seen_by sa k x)
    (acked : (x : A) → sequenced sb (f x) ≡ sequenced sa x) where
  -- places depend on nothing but who sees an element
  pub rebuilt_place-image : (last : ℕ) (xs : List A) (j : ℕ) → rebuilt_place sb last (map f xs) j ≡ rebuilt_place sa last xs j
  rebuilt_place-image last xs j =
      let g : ℕ × A → ℕ × B = λ x. (x.0, f x.1) in
      let ps = enumerate_from 0 xs in
      let there : List (ℕ × B) → ℕ = λ ys. rank (λ (x : ℕ × B). nat_eq x.0 j) (λ x. true) ys in
      ap (λ ys. there (with_stages (placed_stamps sb) ys (filter (sequenced (placed_stamps sb)) ys) last)) (enumerate-image f 0 xs)
      ∙ ap (λ zs. there (with_stages (placed_stamps sb) (map g ps) zs last))
      (filter-image g (sequenced (placed_stamps sa)) (sequenced (placed_stamps sb)) (λ x. acked x.1) ps)
      ∙ ap there (sym (stages-image (placed_stamps sa) (placed_stamps sb) g (λ k x. ins k x.1) (λ k x. see k x.1) ps
      (filter (sequenced (placed_stamps sa)) ps) last))
      ∙ rank-image g (λ x. nat_eq x.0 j) (λ x. true) (λ x. nat_eq x.0 j) (λ x. true) (λ x. refl) (λ x. refl) (rebuilt_places sa last xs)

module _ {A : Type 0} (stamps : A → ElementStamps) (is : A → Bool) where
  -- the element that alone passes stands where its place tells
  pub place-rebuilt : (last : ℕ) (xs : List A) → len is xs ≡ 1
      → rank is (λ x. true) (with_stages stamps xs (filter (sequenced stamps) xs) last) ≡ rebuilt_place stamps last xs (rank is (λ x. true) xs)
  place-rebuilt last xs one =
      let j = rank is (λ x. true) xs in
      let ps = enumerate_from 0 xs in
      let own : ℕ × A → A = λ x. x.1 in
      let there : List A → ℕ = λ ys. rank is (λ x. true) ys in
      let apart = one-placed is 0 j xs (omega arith) one in
      ap (λ ys. there (with_stages stamps ys (filter (sequenced stamps) ys) last)) (sym (enumerate-elements 0 xs))
      ∙ ap (λ zs. there (with_stages stamps (map own ps) zs last))
      (filter-image own (sequenced (placed_stamps stamps)) (sequenced stamps) (λ x. refl) ps)
      ∙ ap there (sym (stages-image (placed_stamps stamps) stamps own (λ k x. refl) (λ k x. refl) ps (filter (sequenced (placed_stamps stamps)) ps) last))
      ∙ rank-image own (passing is) (λ x. true) is (λ x. true) (λ x. refl) (λ x. refl) (rebuilt_places stamps last xs)
      ∙ sym (rank-agree (at_place is j) (passing is) (λ x. true) (rebuilt_places stamps last xs)
      (any-stages (differ (at_place is j) (passing is)) (placed_stamps stamps) ps (filter (sequenced (placed_stamps stamps)) ps) apart
      (any-part (differ (at_place is j) (passing is)) (sequenced (placed_stamps stamps)) ps apart) last))

-- ---- elements that go through a change as they are put in afresh

module _ {A : Type 0} (stamps : A → ElementStamps) (carry : A → A)
    (see : (k : ℕ) (x : A) → seen_by stamps k (carry x) ≡ seen_by stamps k x) where
  -- sequenced elements are changed, pending ones not
  abbrev carried_if : A → A
  carried_if x = cond (sequenced stamps x) (carry x) x

  seen-carried : (k : ℕ) (x : A) → seen_by stamps k (carried_if x) ≡ seen_by stamps k x
  seen-carried k x = step (sequenced stamps x)
    where
      step : (b : Bool) → seen_by stamps k (cond b (carry x) x) ≡ seen_by stamps k x
      step true = see k x
      step false = refl

  first-carried : (xs : List A) → retain_map (sequenced stamps) carry xs ≡ map carried_if (filter (sequenced stamps) xs)
  first-carried [] = refl
  first-carried (x ∷ xs) = grind (arith, first-carried xs)

  pending-fixed : (k : ℕ) (xs : List A) → map carried_if (filter (inserted_by stamps k) xs) ≡ filter (inserted_by stamps k) xs
  pending-fixed k [] = refl
  pending-fixed k (x ∷ xs) = step (stamps x).ins refl (pending-fixed k xs)
    where
      rest : List A
      rest = filter (inserted_by stamps k) xs

      step : (t : Stamp) → (stamps x).ins ≡ t → map carried_if rest ≡ rest
          → map carried_if (cond (is_of_stage k t) (x ∷ rest) rest) ≡ cond (is_of_stage k t) (x ∷ rest) rest
      step (Acked s c) e ih = ih
      step (Local i) e ih = here (nat_eq i k)
        where
          fixed : carried_if x ≡ x
          fixed = ap (λ (t : Stamp). cond (is_acked t) (carry x) x) e

          here : (b : Bool) → map carried_if (cond b (x ∷ rest) rest) ≡ cond b (x ∷ rest) rest
          here true = ap (λ y. y ∷ map carried_if rest) fixed ∙ ap (λ ys. x ∷ ys) ih
          here false = ih

  stages-carried : (xs : List A) (k : ℕ) → with_stages stamps xs (retain_map (sequenced stamps) carry xs) k
      ≡ map carried_if (with_stages stamps xs (filter (sequenced stamps) xs) k)
  stages-carried xs zero = first-carried xs
  stages-carried xs (suc k) =
      let block = filter (inserted_by stamps (suc k)) xs in
      let now = with_stages stamps xs (filter (sequenced stamps) xs) k in
      let q = next_position stamps k xs in
      ap (put (seen_by stamps k) no_run q block) (stages-carried xs k)
      ∙ ap (λ us. put (seen_by stamps k) no_run q us (map carried_if now)) (sym (pending-fixed (suc k) xs))
      ∙ put-image carried_if (seen_by stamps k) (seen_by stamps k) (seen-carried k) q block now

  -- the element that passes, before the change and after it, stands where it would without the change
  pub place-carried : (is : A → Bool) → ((x : A) → is (carry x) ≡ is x) → (last : ℕ) (xs : List A)
      → rank is (λ x. true) (with_stages stamps xs (retain_map (sequenced stamps) carry xs) last)
      ≡ rank is (λ x. true) (with_stages stamps xs (filter (sequenced stamps) xs) last)
  place-carried is same last xs =
      ap (λ (ys : List A). rank is (λ x. true) ys) (stages-carried xs last)
      ∙ rank-image carried_if is (λ x. true) is (λ x. true) (λ x. step x (sequenced stamps x)) (λ x. refl)
      (with_stages stamps xs (filter (sequenced stamps) xs) last)
    where
      step : (x : A) (b : Bool) → is (cond b (carry x) x) ≡ is x
      step x true = same x
      step x false = refl
