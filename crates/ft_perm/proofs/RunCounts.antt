-- How many runs hold a handle, where one is taken out, put in or changed.
use Rattle.std.proofs.Common.{◌≡◌, ℕ, zero, suc, ◌+◌, Bool, true, false, List, [], ◌∷◌, ◌++◌, Some, take, drop}
use Rattle.std.proofs.Common.{◌∙◌, ap, arith}
use Rattle.std.specs.Prelude.{slice_get, slice_set}
use Rattle.std.proofs.lemmas.Bool.Decides.{nat_tests}
use Rattle.ft_base.specs.Scan.{len, one_more_if}
use Rattle.ft_perm.specs.Handles.{HandleRun, in_run, meets}

one_more : (b : Bool) (n : ℕ) → one_more_if b n ≡ n + one_more_if b 0
one_more true n = omega arith
one_more false n = omega arith

one_more_both : (b : Bool) (m n k : ℕ) → m ≡ n + k → one_more_if b m ≡ one_more_if b n + k
one_more_both true m n k e = omega arith
one_more_both false m n k e = e

one_more_sums : (b : Bool) (m n j k : ℕ) → m + j ≡ n + k → one_more_if b m + j ≡ one_more_if b n + k
one_more_sums true m n j k e = omega arith
one_more_sums false m n j k e = e

-- ---- one element of a list

module _ {A : Type 0} (seen : A → Bool) where
  pub len-remove : (xs : List A) (i : ℕ) (x : A) → slice_get xs i ≡ Some x → len seen xs ≡ len seen (take i xs ++ drop (suc i) xs) + one_more_if (seen x) 0
  len-remove [] i x h = (cc)
  len-remove (y ∷ ys) zero x h = let same : y ≡ x = (cc) in one_more (seen y) (len seen ys) ∙ ap (λ z. len seen ys + one_more_if (seen z) 0) same
  len-remove (y ∷ ys) (suc i) x h = one_more_both (seen y) _ _ _ (len-remove ys i x h)

  pub len-insert : (xs : List A) (i : ℕ) (x : A) → len seen (take i xs ++ x ∷ drop i xs) ≡ len seen xs + one_more_if (seen x) 0
  len-insert xs zero x = one_more (seen x) (len seen xs)
  len-insert [] (suc i) x = one_more (seen x) 0
  len-insert (y ∷ ys) (suc i) x = one_more_both (seen y) _ _ _ (len-insert ys i x)

  pub len-set : (xs : List A) (i : ℕ) (x z : A) → slice_get xs i ≡ Some x
      → len seen (slice_set xs i z) + one_more_if (seen x) 0 ≡ len seen xs + one_more_if (seen z) 0
  len-set [] i x z h = (cc)
  len-set (y ∷ ys) zero x z h =
      let same : y ≡ x = (cc) in
      omega (arith, one_more (seen z) (len seen ys), one_more (seen y) (len seen ys), ap (λ v. one_more_if (seen v) 0) same)
  len-set (y ∷ ys) (suc i) x z h = one_more_sums (seen y) _ _ _ _ (len-set ys i x z h)

-- ---- runs side by side

pub in_two : (h first m n : ℕ) → one_more_if (in_run h record { first = first; count = m + n }) 0
    ≡ one_more_if (in_run h record { first = first; count = m }) 0 + one_more_if (in_run h record { first = first + m; count = n }) 0
in_two h first m n = grind (arith, nat_tests)

pub next_first : (x y : HandleRun) → meets x y ≡ true → y ≡ record { first = x.first + x.count; count = y.count }
next_first x y h =
    let e : y.first ≡ x.first + x.count = grind (arith, nat_tests) in
    ap (λ n. let r : HandleRun = record { first = n; count = y.count } in r) e
