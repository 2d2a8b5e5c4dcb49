-- Two lists side by side: where the tests agree on each pair, a change of the one makes the same of what is shown as one of the other.
use Rattle.std.proofs.Common.{◌≡◌, ℕ, zero, suc, Bool, cond, not, ◌&&◌, List, refl, ◌∙◌, ap}
use Rattle.ft_base.specs.Scan.{one_more_if, within}
use Rattle.ft_laws_names.proofs.Beside.{Beside, ends, next}
use Rattle.ft_changes.specs.ShownRuns.{changed_runs_from, gone_runs_from, place_of_insertion, shown_in_run, with_changed_run, with_gone}

module _ {A B : Type 0} {Q : A → B → Type 0} (shown : A → Bool) (shown' : B → Bool) (shows : (x : A) (y : B) → Q x y → shown x ≡ shown' y)
    (seen : A → Bool) (seen' : B → Bool) (sees : (x : A) (y : B) → Q x y → seen x ≡ seen' y) where
  module _ (past : A → Bool) (past' : B → Bool) (passes : (x : A) (y : B) → Q x y → past x ≡ past' y) where
    run-beside : {xs : List A} {ys : List B} → Beside A B Q xs ys → shown_in_run past shown xs ≡ shown_in_run past' shown' ys
    run-beside ends = refl
    run-beside (next {x = x} {y = y} {xs = xs} q qs) =
        ap (λ b. cond b (one_more_if (shown x) (shown_in_run past shown xs)) 0) (passes x y q)
        ∙ ap (λ b. cond (past' y) (one_more_if b (shown_in_run past shown xs)) 0) (shows x y q)
        ∙ ap (λ n. cond (past' y) (one_more_if (shown' y) n) 0) (run-beside qs)

    pub place-beside : (p : ℕ) {xs : List A} {ys : List B} → Beside A B Q xs ys
        → place_of_insertion seen past shown p xs ≡ place_of_insertion seen' past' shown' p ys
    place-beside zero qs = run-beside qs
    place-beside (suc p) ends = refl
    place-beside (suc p) (next {x = x} {y = y} {xs = xs} q qs) =
        ap (λ b. one_more_if b (place_of_insertion seen past shown (cond (seen x) p (suc p)) xs)) (shows x y q)
        ∙ ap (λ b. one_more_if (shown' y) (place_of_insertion seen past shown (cond b p (suc p)) xs)) (sees x y q)
        ∙ ap (one_more_if (shown' y)) (place-beside (cond (seen' y) p (suc p)) qs)

  module _ (p q : ℕ) where
    gone-from-beside : (n i : ℕ) {xs : List A} {ys : List B} → Beside A B Q xs ys
        → gone_runs_from n i seen shown p q xs ≡ gone_runs_from n i seen' shown' p q ys
    gone-from-beside n i ends = refl
    gone-from-beside n i (next {x = x} {y = y} {xs = xs} r rs) =
        ap (λ b. with_gone (shown x && (b && within p q n)) i
        (gone_runs_from (one_more_if b n) (one_more_if (shown x && not (b && within p q n)) i) seen shown p q xs)) (sees x y r)
        ∙ ap (λ b. with_gone (b && (seen' y && within p q n)) i
        (gone_runs_from (one_more_if (seen' y) n) (one_more_if (b && not (seen' y && within p q n)) i) seen shown p q xs)) (shows x y r)
        ∙ ap (with_gone (shown' y && (seen' y && within p q n)) i)
        (gone-from-beside (one_more_if (seen' y) n) (one_more_if (shown' y && not (seen' y && within p q n)) i) rs)

    pub gone-beside : {xs : List A} {ys : List B} → Beside A B Q xs ys → gone_runs_from 0 0 seen shown p q xs
        ≡ gone_runs_from 0 0 seen' shown' p q ys
    gone-beside rs = gone-from-beside 0 0 rs

    module _ {P : Type 0} (same : P → P → Bool) (props : A → P) (props' : B → P) (has : (x : A) (y : B) → Q x y → props x ≡ props' y)
        (f : A → A) (g : B → B) (gets : (x : A) (y : B) → Q x y → props (f x) ≡ props' (g y)) where
      changed-from-beside : (n i : ℕ) {xs : List A} {ys : List B} → Beside A B Q xs ys
          → changed_runs_from same props f n i seen shown p q xs ≡ changed_runs_from same props' g n i seen' shown' p q ys
      changed-from-beside n i ends = refl
      changed-from-beside n i (next {x = x} {y = y} {xs = xs} r rs) =
          ap (λ b. with_changed_run same (shown x && (b && within p q n) && not (same (props x) (props (f x)))) i (props (f x))
          (changed_runs_from same props f (one_more_if b n) (one_more_if (shown x) i) seen shown p q xs)) (sees x y r)
          ∙ ap (λ b. with_changed_run same (b && (seen' y && within p q n) && not (same (props x) (props (f x)))) i (props (f x))
          (changed_runs_from same props f (one_more_if (seen' y) n) (one_more_if b i) seen shown p q xs)) (shows x y r)
          ∙ ap (λ o. with_changed_run same (shown' y && (seen' y && within p q n) && not (same o (props (f x)))) i (props (f x))
          (changed_runs_from same props f (one_more_if (seen' y) n) (one_more_if (shown' y) i) seen shown p q xs)) (has x y r)
          ∙ ap (λ o. with_changed_run same (shown' y && (seen' y && within p q n) && not (same (props' y) o)) i o
          (changed_runs_from same props f (one_more_if (seen' y) n) (one_more_if (shown' y) i) seen shown p q xs)) (gets x y r)
          ∙ ap (with_changed_run same (shown' y && (seen' y && within p q n) && not (same (props' y) (props' (g y)))) i (props' (g y)))
          (changed-from-beside (one_more_if (seen' y) n) (one_more_if (shown' y) i) rs)

      pub changed-beside : {xs : List A} {ys : List B} → Beside A B Q xs ys
          → changed_runs_from same props f 0 0 seen shown p q xs ≡ changed_runs_from same props' g 0 0 seen' shown' p q ys
      changed-beside rs = changed-from-beside 0 0 rs
