-- The two ends of a pair, one after the other, where they aren't one reference.
use Rattle.std.proofs.Common.{◌≡◌, ℕ, ◌≤◌, Bool, true, false, cond, ◌||◌, nat_eq, [], ◌∷◌, Option, Some, None, IsSome, refl, sym, ◌∙◌, ap, subst, arith}
use Rattle.std.proofs.lemmas.Bool.Decides.{nat_tests}
use Rattle.ft_base.specs.Scan.{len, one_more_if}
use Rattle.ft_tree_leaves.specs.declared.references.Reference.{Reference}
use Rattle.ft_tree_leaves.specs.References.{reference_at}
use Rattle.ft_interval_store.specs.Ends.{IsLiveEnd, References, is_reference}

-- what two calls make of one reference, each of its own end alone
pub both-changed : (f : Option Reference → Option Reference) (before mid after : Option Reference) (s t : Bool) → one_more_if s (one_more_if t 0) ≤ 1
    → mid ≡ cond s (f before) before → after ≡ cond t (f mid) mid → after ≡ cond (s || t) (f before) before
both-changed f before mid after true true once p q = absurd (omega (arith, once))
both-changed f before mid after true false once p q = q ∙ p
both-changed f before mid after false true once p q = q ∙ ap f p
both-changed f before mid after false false once p q = q ∙ p

not-first : (s t : Bool) → one_more_if s (one_more_if t 0) ≤ 1 → t ≡ true → s ≡ false
not-first true true once e = absurd (omega (arith, once))
not-first true false once e = absurd cc
not-first false t once e = refl

-- the second end is live after the first one was changed
pub second-live : (refs mid : References) (start end : Option ℕ) (f : Option Reference → Option Reference)
    → ((r : ℕ) → len (is_reference r) (start ∷ end ∷ []) ≤ 1)
    → ((r : ℕ) → reference_at mid r ≡ cond (is_reference r start) (f (reference_at refs r)) (reference_at refs r))
    → IsLiveEnd refs end → IsLiveEnd mid end
second-live refs mid start None f once is h = h
second-live refs mid start (Some r) f once is h =
    let here : nat_eq r r ≡ true = grind (arith, nat_tests) in
    let other = not-first (is_reference r start) (nat_eq r r) (once r) here in
    subst IsSome (sym (is r ∙ ap (λ b. cond b (f (reference_at refs r)) (reference_at refs r)) other)) h
