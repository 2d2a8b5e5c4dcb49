-- A list that is written element by element from the front on, beside the list that it was.
use Rattle.std.proofs.Common.{◌≡◌, ℕ, ◌+◌, ◌-◌, ◌<◌, ◌≤◌, All, List, [], ◌∷◌, ◌++◌, drop, get_or, length, set, take, sym, ◌∙◌, ap, subst, arith}
use Rattle.std.specs.List.{AllZip}
use Rattle.std.proofs.lemmas.List.{drop-set-lt, drop_more, length-drop, take_all, take_more, take_more_set}
use Rattle.std.proofs.lemmas.List.Elements.{All-get_or, AllZip-push}
use Rattle.std.proofs.lemmas.Grind.{drop_more_same}

-- the first n elements are written, and the others are as they were
pub record IsWritten {X : Type 0} (R : X → X → Type 0) (n : ℕ) (old now : List X) : Type 0 where
  pub rest : drop n now ≡ drop n old
  pub done : AllZip R (take n old) (take n now)

module _ {X : Type 0} (R : X → X → Type 0) (n : ℕ) (old now : List X) (w : IsWritten R n old now) where
  -- what is written next is as it was
  next-there : n < length now → n < length old
  next-there within = (let longs : length now - n ≡ length old - n = sym (length-drop n now) ∙ ap length w.rest ∙ length-drop n old in omega (arith, longs))

  next-same : (x : X) → n < length now → get_or old n x ≡ get_or now n x
  next-same x within =
      let both : get_or now n x ∷ drop (n + 1) now ≡ get_or old n x ∷ drop (n + 1) old =
      sym (drop_more now n x within) ∙ w.rest ∙ drop_more old n x (next-there within) in
      cc

  pub next-holds : (P : X → Type 0) (x : X) → n < length now → All P old → P (get_or now n x)
  next-holds P x within all = subst P (next-same x within) (All-get_or P old n x (next-there within) all)

  pub next-written : (x y : X) → n < length now → R (get_or now n x) y → IsWritten R (n + 1) old (set now n y)
  next-written x y within r =
      let was : X = get_or now n x in
      let front : take (n + 1) old ≡ take n old ++ was ∷ [] =
      take_more old n x (next-there within) ∙ ap (λ u. take n old ++ u ∷ []) (next-same x within) in
      let below : n < n + 1 = omega arith in
      record {
        rest = drop-set-lt (n + 1) now n y below ∙ drop_more_same now old n w.rest;
        done = subst (λ us. AllZip R us (take (n + 1) (set now n y))) (sym front)
            (subst (λ us. AllZip R (take n old ++ was ∷ []) us) (sym (take_more_set now n y within)) (AllZip-push R (take n old) (take n now) was y w.done r));
      }

  -- behind the last one
  pub all-written : length old ≤ n → length now ≤ n → AllZip R old now
  all-written behind past =
      subst (λ us. AllZip R us now) (take_all n old behind) (subst (λ us. AllZip R (take n old) us) (take_all n now past) w.done)
