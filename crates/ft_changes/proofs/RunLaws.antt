-- The changes of what is shown lead from what was shown of a list to what is shown of it afterwards.
use Rattle.std.proofs.Common.{◌≡◌, ℕ, zero, suc, Bool, true, false, cond, not, ◌&&◌, nat_eq, List, [], ◌∷◌, ◌++◌, refl, sym, ◌∙◌, ap, arith, append-nil, length}
use Rattle.std.proofs.lemmas.Bool.{eqb-true}
use Rattle.ft_base.specs.Scan.{retain_map, put_past, put, change_range_from, one_more_if, within}
use Rattle.ft_base.proofs.ScanLaws.{retain_map-append}
use Rattle.ft_changes.specs.ShownRuns.{ChangedRun, GoneRun, change_at, changed_runs_from, gone_runs_from, place_of_insertion, put_in, shown_in_run, take_out, with_changed_run, with_gone, with_runs, without_runs}

-- ---- insertions

put_in-end : {A : Type 0} (p : ℕ) (new : List A) → put_in p new [] ≡ new
put_in-end zero new = append-nil new
put_in-end (suc p) new = refl

module _ {A B : Type 0} (seen past shown : A → Bool) (f : A → B) where
  put_past-shown : (new xs : List A) → retain_map shown f (put_past past new xs) ≡ put_in (shown_in_run past shown xs) (retain_map shown f new) (retain_map shown f xs)
  put_past-shown new [] = sym (append-nil (retain_map shown f new))
  put_past-shown new (x ∷ xs) = grind (arith, put_past-shown new xs, retain_map-append shown f new (x ∷ xs))

  pub put-shown : (p : ℕ) (new xs : List A) → retain_map shown f (put seen past p new xs) ≡ put_in (place_of_insertion seen past shown p xs) (retain_map shown f new) (retain_map shown f xs)
  put-shown zero new xs = put_past-shown new xs
  put-shown (suc p) new [] = sym (append-nil (retain_map shown f new))
  put-shown (suc p) new (x ∷ xs) = grind (arith, put-shown p new xs, put-shown (suc p) new xs)

-- ---- behind a front that is left alone

pub take_out-none : {A : Type 0} (p : ℕ) (xs : List A) → take_out p 0 xs ≡ xs
take_out-none zero xs = refl
take_out-none (suc p) [] = refl
take_out-none (suc p) (x ∷ xs) = ap (λ ys. x ∷ ys) (take_out-none p xs)

-- one more from the end of the front on
take_out-one_more : {A : Type 0} (n : ℕ) (x : A) (front xs : List A) → take_out (length front) (suc n) (front ++ x ∷ xs) ≡ take_out (length front) n (front ++ xs)
take_out-one_more n x [] xs = refl
take_out-one_more n x (y ∷ front) xs = ap (λ ys. y ∷ ys) (take_out-one_more n x front xs)

pub take_out-one : {A : Type 0} (x : A) (front xs : List A) → take_out (length front) 1 (front ++ x ∷ xs) ≡ front ++ xs
take_out-one x front xs = take_out-one_more 0 x front xs ∙ take_out-none (length front) (front ++ xs)

with_gone-front : {A : Type 0} (runs : List GoneRun) (x : A) (front xs : List A) → without_runs (with_gone true (length front) runs) (front ++ x ∷ xs) ≡ without_runs runs (front ++ xs)
with_gone-front [] x front xs = take_out-one x front xs
with_gone-front (run ∷ runs) x front xs = by (nat_eq run.place (length front)) refl
  where
    by : (b : Bool) → nat_eq run.place (length front) ≡ b
        → without_runs (cond b (record { place = length front; count = suc run.count } ∷ runs) (record { place = length front; count = 1 } ∷ run ∷ runs)) (front ++ x ∷ xs)
        ≡ without_runs (run ∷ runs) (front ++ xs)
    by true e = ap (without_runs runs) (take_out-one_more run.count x front xs ∙ ap (λ p. take_out p run.count (front ++ xs)) (sym (eqb-true run.place (length front) e)))
    by false e = ap (λ ys. without_runs runs (take_out run.place run.count ys)) (take_out-one x front xs)

-- ---- removals

pub next-front : {A : Type 0} (x : A) (front xs : List A) → (front ++ x ∷ []) ++ xs ≡ front ++ x ∷ xs
next-front x [] xs = refl
next-front x (y ∷ front) xs = ap (λ ys. y ∷ ys) (next-front x front xs)

next-length : {A : Type 0} (x : A) (front : List A) → length (front ++ x ∷ []) ≡ suc (length front)
next-length x [] = refl
next-length x (y ∷ front) = ap suc (next-length x front)

module _ {A B : Type 0} (seen shown : A → Bool) (f : A → B) (p q : ℕ) where
  module _ (g : A → A) (hides : (x : A) → shown (g x) ≡ false) where
    gone-front : (n : ℕ) (front : List B) (xs : List A)
        → without_runs (gone_runs_from n (length front) seen shown p q xs) (front ++ retain_map shown f xs) ≡ front ++ retain_map shown f (change_range_from n seen p q g xs)
    gone-front n front [] = refl
    gone-front n front (x ∷ xs) = by (shown x) (seen x && within p q n) refl (gone-front m front xs) (gone-front m (front ++ f x ∷ []) xs)
      where
        m : ℕ
        m = one_more_if (seen x) n

        after : List B
        after = retain_map shown f (change_range_from m seen p q g xs)

        left : ℕ → List B → List B
        left i ys = without_runs (gone_runs_from m i seen shown p q xs) (ys ++ retain_map shown f xs)

        is_shown : (z : A) (b : Bool) → shown z ≡ b → front ++ cond b (f z ∷ after) after ≡ front ++ cond (shown z) (f z ∷ after) after
        is_shown z b e = ap (λ c. front ++ cond c (f z ∷ after) after) (sym e)

        by : (b goes : Bool) → shown x ≡ b → left (length front) front ≡ front ++ after → left (length (front ++ f x ∷ [])) (front ++ f x ∷ []) ≡ (front ++ f x ∷ []) ++ after
            → without_runs (with_gone (b && goes) (length front) (gone_runs_from m (one_more_if (b && not goes) (length front)) seen shown p q xs)) (front ++ cond b (f x ∷ retain_map shown f xs) (retain_map shown f xs))
            ≡ front ++ cond (shown (cond goes (g x) x)) (f (cond goes (g x) x) ∷ after) after
        by true true e here next = with_gone-front (gone_runs_from m (length front) seen shown p q xs) (f x) front (retain_map shown f xs) ∙ here ∙ is_shown (g x) false (hides x)
        by true false e here next =
            ap (λ ys. without_runs (gone_runs_from m (suc (length front)) seen shown p q xs) ys) (sym (next-front (f x) front (retain_map shown f xs)))
            ∙ ap (λ i. left i (front ++ f x ∷ [])) (sym (next-length (f x) front))
            ∙ next ∙ next-front (f x) front after ∙ is_shown x true e
        by false true e here next = here ∙ is_shown (g x) false (hides x)
        by false false e here next = here ∙ is_shown x false e

    pub gone-shown : (xs : List A) → without_runs (gone_runs_from 0 0 seen shown p q xs) (retain_map shown f xs) ≡ retain_map shown f (change_range_from 0 seen p q g xs)
    gone-shown xs = gone-front 0 [] xs

-- ---- changes

change_at-none : {A : Type 0} (p : ℕ) (h : A → A) (xs : List A) → change_at p 0 h xs ≡ xs
change_at-none zero h xs = refl
change_at-none (suc p) h [] = refl
change_at-none (suc p) h (x ∷ xs) = ap (λ ys. x ∷ ys) (change_at-none p h xs)

-- one more from the end of the front on
change_at-one_more : {A : Type 0} (n : ℕ) (h : A → A) (x : A) (front xs : List A) → change_at (length front) (suc n) h (front ++ x ∷ xs) ≡ change_at (suc (length front)) n h (front ++ h x ∷ xs)
change_at-one_more n h x [] xs = refl
change_at-one_more n h x (y ∷ front) xs = ap (λ ys. y ∷ ys) (change_at-one_more n h x front xs)

change_at-one : {A : Type 0} (h : A → A) (x : A) (front xs : List A) → change_at (length front) 1 h (front ++ x ∷ xs) ≡ front ++ h x ∷ xs
change_at-one h x front xs = change_at-one_more 0 h x front xs ∙ change_at-none (suc (length front)) h (front ++ h x ∷ xs)

module _ {B P : Type 0} (same : P → P → Bool) (same-is : (a b : P) → same a b ≡ true → a ≡ b) (with : P → B → B) where
  with_changed-front : (runs : List (ChangedRun P)) (props : P) (x : B) (front xs : List B)
      → with_runs with (with_changed_run same true (length front) props runs) (front ++ x ∷ xs) ≡ with_runs with runs (front ++ with props x ∷ xs)
  with_changed-front [] props x front xs = change_at-one (with props) x front xs
  with_changed-front (run ∷ runs) props x front xs = by (nat_eq run.place (suc (length front))) (same run.props props) refl refl
    where
      whole : List (ChangedRun P)
      whole = record { place = length front; count = 1; props = props } ∷ run ∷ runs

      by : (b c : Bool) → nat_eq run.place (suc (length front)) ≡ b → same run.props props ≡ c
          → with_runs with (cond (b && c) (record { place = length front; count = suc run.count; props = props } ∷ runs) whole) (front ++ x ∷ xs)
          ≡ with_runs with (run ∷ runs) (front ++ with props x ∷ xs)
      by true true e d =
          ap (with_runs with runs)
          (change_at-one_more run.count (with props) x front xs
          ∙ ap (λ i. change_at i run.count (with props) (front ++ with props x ∷ xs)) (sym (eqb-true run.place (suc (length front)) e))
          ∙ ap (λ a. change_at run.place run.count (with a) (front ++ with props x ∷ xs)) (sym (same-is run.props props d)))
      by true false e d = ap (with_runs with (run ∷ runs)) (change_at-one (with props) x front xs)
      by false c e d = ap (with_runs with (run ∷ runs)) (change_at-one (with props) x front xs)

  module _ {A : Type 0} (seen shown : A → Bool) (f : A → B) (props : A → P) (g : A → A) (p q : ℕ) (kept : (x : A) → shown (g x) ≡ shown x)
      (changes : (x : A) → f (g x) ≡ with (props (g x)) (f x)) (stays : (x : A) → same (props x) (props (g x)) ≡ true → f (g x) ≡ f x) where
    changed-front : (n : ℕ) (front : List B) (xs : List A)
        → with_runs with (changed_runs_from same props g n (length front) seen shown p q xs) (front ++ retain_map shown f xs) ≡ front ++ retain_map shown f (change_range_from n seen p q g xs)
    changed-front n front [] = refl
    changed-front n front (x ∷ xs) =
        by (shown x) (seen x && within p q n) (same (props x) (props (g x))) refl refl (changed-front m front xs) (λ y. changed-front m (front ++ y ∷ []) xs)
      where
        m : ℕ
        m = one_more_if (seen x) n

        after : List B
        after = retain_map shown f (change_range_from m seen p q g xs)

        runs : ℕ → List (ChangedRun P)
        runs i = changed_runs_from same props g m i seen shown p q xs

        rest : List B
        rest = retain_map shown f xs

        is_shown : (z : A) (b : Bool) → shown z ≡ b → front ++ cond b (f z ∷ after) after ≡ front ++ cond (shown z) (f z ∷ after) after
        is_shown z b e = ap (λ c. front ++ cond c (f z ∷ after) after) (sym e)

        on : (y : B) → with_runs with (runs (length (front ++ y ∷ []))) ((front ++ y ∷ []) ++ rest) ≡ (front ++ y ∷ []) ++ after
            → with_runs with (runs (suc (length front))) (front ++ y ∷ rest) ≡ front ++ y ∷ after
        on y next =
            ap (λ ys. with_runs with (runs (suc (length front))) ys) (sym (next-front y front rest))
            ∙ ap (λ i. with_runs with (runs i) ((front ++ y ∷ []) ++ rest)) (sym (next-length y front))
            ∙ next ∙ next-front y front after

        by : (b hit c : Bool) → shown x ≡ b → same (props x) (props (g x)) ≡ c → with_runs with (runs (length front)) (front ++ rest) ≡ front ++ after
            → ((y : B) → with_runs with (runs (length (front ++ y ∷ []))) ((front ++ y ∷ []) ++ rest) ≡ (front ++ y ∷ []) ++ after)
            → with_runs with (with_changed_run same (b && hit && not c) (length front) (props (g x)) (runs (one_more_if b (length front)))) (front ++ cond b (f x ∷ rest) rest)
            ≡ front ++ cond (shown (cond hit (g x) x)) (f (cond hit (g x) x) ∷ after) after
        by true true false e d here next =
            with_changed-front (runs (suc (length front))) (props (g x)) (f x) front rest
            ∙ ap (λ y. with_runs with (runs (suc (length front))) (front ++ y ∷ rest)) (sym (changes x))
            ∙ on (f (g x)) (next (f (g x))) ∙ is_shown (g x) true (kept x ∙ e)
        by true true true e d here next =
            on (f x) (next (f x)) ∙ ap (λ y. front ++ y ∷ after) (sym (stays x d)) ∙ is_shown (g x) true (kept x ∙ e)
        by true false c e d here next = on (f x) (next (f x)) ∙ is_shown x true e
        by false true c e d here next = here ∙ is_shown (g x) false (kept x ∙ e)
        by false false c e d here next = here ∙ is_shown x false e

    pub changed-shown : (xs : List A) → with_runs with (changed_runs_from same props g 0 0 seen shown p q xs) (retain_map shown f xs) ≡ retain_map shown f (change_range_from 0 seen p q g xs)
    changed-shown xs = changed-front 0 [] xs
