use Rattle.std.proofs.Common.{◌≡◌, ℕ, Bool, true, false, ◌||◌, nat_eq, List, [], ◌∷◌, refl, ◌∙◌, ap, arith}
use Rattle.std.specs.List.{list_any}
use Rattle.std.proofs.lemmas.Bool.Decides.{nat_tests}
use Rattle.ft_map.specs.MapClient.{MapClient}
use Rattle.ft_map.proofs.replica.MapReplica.is_own.Goals as goal

equal-turned : (x n : ℕ) → nat_eq x n ≡ nat_eq n x
equal-turned x n = step (nat_eq x n) (nat_eq n x) refl refl
  where
    step : (b c : Bool) → nat_eq x n ≡ b → nat_eq n x ≡ c → b ≡ c
    step true true e f = refl
    step false false e f = refl
    step true false e f = grind (arith, nat_tests)
    step false true e f = grind (arith, nat_tests)

any-turned : (n : ℕ) (xs : List ℕ) → list_any (λ y. nat_eq y n) xs ≡ list_any (nat_eq n) xs
any-turned n [] = refl
any-turned n (x ∷ xs) = ap (λ b. b || list_any (λ y. nat_eq y n) xs) (equal-turned x n) ∙ ap (λ b. nat_eq n x || b) (any-turned n xs)

pub returns : goal.returns
returns c =
    let n = c.args.entry.now.origin in
    c.contains.ensures.value ∙ any-turned n c.deref.result.now ∙ ap (list_any (nat_eq n)) c.deref.ensures.value ∙ ap (λ (x : MapClient). list_any (nat_eq n) x.conns) c.self.view_is
