use Rattle.std.proofs.Common.{◌≡◌, ℕ, zero, suc, ◌+◌, List, [], ◌∷◌, ◌++◌, take, sym, ◌∙◌, ap, append_assoc, arith}
use Rattle.ft_msg.proofs.names.Names.first.Goals as goal

next-taken : (n m : ℕ) (name : List ℕ) (names : List (List ℕ)) → m + 1 ≡ n → take n (name ∷ names) ≡ name ∷ take m names
next-taken zero m name names e = absurd (none m e)
  where
    none : (k : ℕ) → k + 1 ≡ 0 → ⊥
    none k h = omega arith
next-taken (suc n) m name names e = ap (λ k. name ∷ take k names) (less n m e)
  where
    less : (k l : ℕ) → l + 1 ≡ suc k → k ≡ l
    less k l h = omega arith

-- one of those that are left comes to those that are copied
pub loop-name-preserved : goal.loop-name-preserved
loop-name-preserved c =
    let done = c.loop-name.names in
    let name = c.in-Some.name.now in
    let left = c.next.new.self in
    let steps = c.in-Some.ensures.steps in
    let next = ap (λ names. take c.loop-name.name-iterator.n names) steps.0 ∙ next-taken c.loop-name.name-iterator.n left.n name left.iter steps.1 in
    let pushed = c.in_ok-push.ensures.ok ∙ ap (λ copy. done ++ copy ∷ []) c.in_ok-copy.ensures in
    ((tt, tt), ap (λ names. names ++ take left.n left.iter) pushed ∙ append_assoc done (name ∷ []) (take left.n left.iter) ∙ ap (λ names. done ++ names) (sym next) ∙ c.loop-name.invariant.1)
