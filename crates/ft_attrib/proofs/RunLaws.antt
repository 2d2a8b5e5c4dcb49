-- The runs of lists that begin with one origin several times.
use Rattle.std.proofs.Common.{◌≡◌, ◌≢◌, ◌∙◌, ℕ, zero, suc, ◌+◌, Bool, true, false, cond, List, [], ◌∷◌, ◌++◌, replicate, refl, ap, sym, arith}
use Rattle.std.proofs.lemmas.Bool.Decides.{nat_tests}
use Rattle.ft_attrib.specs.declared.attribution.Origin.{Origin}
use Rattle.ft_attrib.specs.declared.attribution.Origin.TheVariants.{Known, Unknown, Pending}
use Rattle.ft_attrib.specs.declared.attribution.AttrRun.{AttrRun}
use Rattle.ft_attrib.specs.Runs.{extended_origins, origin_runs, same_origin}

pub same_origin-self : (o : Origin) → same_origin o o ≡ true
same_origin-self (Known s c) = grind (arith, nat_tests)
same_origin-self Unknown = refl
same_origin-self Pending = refl

same_origin-is : (o p : Origin) → same_origin o p ≡ true → o ≡ p
same_origin-is (Known s c) (Known t d) h = grind (arith, nat_tests)
same_origin-is (Known s c) Unknown h = (cc)
same_origin-is (Known s c) Pending h = (cc)
same_origin-is Unknown (Known t d) h = (cc)
same_origin-is Unknown Unknown h = refl
same_origin-is Unknown Pending h = (cc)
same_origin-is Pending (Known t d) h = (cc)
same_origin-is Pending Unknown h = (cc)
same_origin-is Pending Pending h = refl

not_true : (o p : Origin) (b : Bool) → same_origin o p ≡ b → o ≢ p → b ≡ false
not_true o p false e n = refl
not_true o p true e n = absurd (n (same_origin-is o p e))

pub same_origin-other : (o p : Origin) → o ≢ p → same_origin o p ≡ false
same_origin-other o p n = not_true o p (same_origin o p) refl n

-- a run
abbrev pub run_of : ℕ → ℕ → Origin → AttrRun
run_of i j o = record { start = i; end = j; who = o }

-- whether the list begins with the origin
abbrev pub begins : Origin → List Origin → Bool
begins w [] = false
begins w (o ∷ os) = same_origin w o

other_split : (w o : Origin) (i j : ℕ) (r : AttrRun) (rs : List AttrRun) (b : Bool) → same_origin o r.who ≡ b → same_origin w o ≡ false
    → extended_origins i w (cond b (record r { start = j } ∷ rs) (run_of j (j + 1) o ∷ r ∷ rs))
    ≡ run_of i (i + 1) w ∷ cond b (record r { start = j } ∷ rs) (run_of j (j + 1) o ∷ r ∷ rs)
other_split w o i j r rs false e h = ap (λ b. cond b (run_of i (j + 1) o ∷ r ∷ rs) (run_of i (i + 1) w ∷ run_of j (j + 1) o ∷ r ∷ rs)) h
other_split w o i j r rs true e h =
    let other : same_origin w r.who ≡ false = ap (same_origin w) (sym (same_origin-is o r.who e)) ∙ h in
    ap (λ b. cond b (record r { start = i } ∷ rs) (run_of i (i + 1) w ∷ record r { start = j } ∷ rs)) other

extended-other : (w o : Origin) (i j : ℕ) (rs : List AttrRun) → same_origin w o ≡ false
    → extended_origins i w (extended_origins j o rs) ≡ run_of i (i + 1) w ∷ extended_origins j o rs
extended-other w o i j [] h = ap (λ b. cond b (run_of i (j + 1) o ∷ []) (run_of i (i + 1) w ∷ run_of j (j + 1) o ∷ [])) h
extended-other w o i j (r ∷ rs) h = other_split w o i j r rs (same_origin o r.who) refl h

one_run : (i : ℕ) (w : Origin) (zs : List Origin) → begins w zs ≡ false → origin_runs i (w ∷ zs) ≡ run_of i (i + 1) w ∷ origin_runs (i + 1) zs
one_run i w [] h = refl
one_run i w (o ∷ os) h = extended-other w o i (i + 1) (origin_runs (i + 1 + 1) os) h

-- equal origins before another one are one run
pub runs-replicate : (i n : ℕ) (w : Origin) (zs : List Origin) → begins w zs ≡ false
    → origin_runs i (replicate (suc n) w ++ zs) ≡ run_of i (i + suc n) w ∷ origin_runs (i + suc n) zs
runs-replicate i zero w zs h = one_run i w zs h
runs-replicate i (suc n) w zs h =
    let e : i + 1 + suc n ≡ i + suc (suc n) = omega arith in
    ap (extended_origins i w) (runs-replicate (i + 1) n w zs h)
    ∙ ap (λ b. cond b (run_of i (i + 1 + suc n) w ∷ origin_runs (i + 1 + suc n) zs)
    (run_of i (i + 1) w ∷ run_of (i + 1) (i + 1 + suc n) w ∷ origin_runs (i + 1 + suc n) zs)) (same_origin-self w)
    ∙ ap (λ k. run_of i k w ∷ origin_runs k zs) e
