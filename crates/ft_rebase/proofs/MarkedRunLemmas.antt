-- Runs of marked elements as a scan from the first element on makes them.
use Rattle.std.proofs.Common.{◌≡◌, ℕ, suc, ◌+◌, ◌≤◌, Bool, true, false, cond, ◌&&◌, nat_eq, List, [], ◌∷◌, ◌++◌, map, length, ◌-◌, ◌<◌, drop, get_or, refl, sym, subst, ◌∙◌, ap, arith, append_assoc, add-one, drop-cons}
use Rattle.std.proofs.lemmas.Bool.{ne_eqb}
use Rattle.std.proofs.lemmas.Bool.Decides.{nat_tests}
use Rattle.ft_base.specs.Scan.{one_more_if}
use Rattle.ft_props.specs.Steps.{extended_runs, lowered_runs}
use Rattle.ft_rebase.specs.MarkedRuns.{RunsRise, continued, marked_runs_from, with_run}

itself : (n : ℕ) → nat_eq n n ≡ true
itself n = grind (arith, nat_tests)

extended-with : (i : ℕ) (runs : List (ℕ × ℕ)) → extended_runs i runs ≡ with_run (i, i + 1) runs
extended-with i [] = refl
extended-with i ((a, b) ∷ runs) = refl

-- two runs that meet are one
pub with_run-joined : (a b c : ℕ) (runs : List (ℕ × ℕ)) → with_run (a, b) (with_run (b, c) runs) ≡ with_run (a, c) runs
with_run-joined a b c [] = ap (λ t. cond t ((a, c) ∷ []) ((a, b) ∷ (b, c) ∷ [])) (itself b)
with_run-joined a b c ((d, e) ∷ runs) = step (nat_eq d c)
  where
    step : (t : Bool) → with_run (a, b) (cond t ((b, e) ∷ runs) ((b, c) ∷ (d, e) ∷ runs)) ≡ cond t ((a, e) ∷ runs) ((a, c) ∷ (d, e) ∷ runs)
    step true = ap (λ t. cond t ((a, e) ∷ runs) ((a, b) ∷ (b, e) ∷ runs)) (itself b)
    step false = ap (λ t. cond t ((a, c) ∷ (d, e) ∷ runs) ((a, b) ∷ (b, c) ∷ (d, e) ∷ runs)) (itself b)

-- two that don't meet are two
pub with_run-apart : (a b c d : ℕ) (runs : List (ℕ × ℕ)) → (b ≡ c → ⊥) → with_run (a, b) (with_run (c, d) runs)
    ≡ (a, b) ∷ with_run (c, d) runs
with_run-apart a b c d [] apart = ap (λ t. cond t ((a, d) ∷ []) ((a, b) ∷ (c, d) ∷ [])) (ne_eqb c b (λ e. apart (sym e)))
with_run-apart a b c d ((x, y) ∷ runs) apart = step (nat_eq x d)
  where
    test : nat_eq c b ≡ false
    test = ne_eqb c b (λ e. apart (sym e))

    step : (t : Bool) → with_run (a, b) (cond t ((c, y) ∷ runs) ((c, d) ∷ (x, y) ∷ runs))
        ≡ (a, b) ∷ cond t ((c, y) ∷ runs) ((c, d) ∷ (x, y) ∷ runs)
    step true = ap (λ t. cond t ((a, y) ∷ runs) ((a, b) ∷ (c, y) ∷ runs)) test
    step false = ap (λ t. cond t ((a, d) ∷ (x, y) ∷ runs) ((a, b) ∷ (c, d) ∷ (x, y) ∷ runs)) test

-- the last of some runs is the one that may be joined
pub continued-last : (runs : List (ℕ × ℕ)) (a b : ℕ) (more : List (ℕ × ℕ)) → continued (runs ++ (a, b) ∷ []) more
    ≡ runs ++ with_run (a, b) more
continued-last [] a b more = refl
continued-last (r ∷ []) a b more = refl
continued-last (r ∷ s ∷ runs) a b more = ap (λ rs. r ∷ rs) (continued-last (s ∷ runs) a b more)

-- with none behind them they stay
pub continued-none : (runs : List (ℕ × ℕ)) → continued runs [] ≡ runs
continued-none [] = refl
continued-none ((a, b) ∷ []) = refl
continued-none (r ∷ s ∷ runs) = ap (λ rs. r ∷ rs) (continued-none (s ∷ runs))

-- a run behind a last one that it meets, and one apart from it
pub joined_run : (runs old new : List (ℕ × ℕ)) (a b c d : ℕ) (more : List (ℕ × ℕ)) → old ≡ runs ++ (a, b) ∷ [] → b ≡ c → new
    ≡ runs ++ (a, d) ∷ []
    → continued new more ≡ continued old (with_run (c, d) more)
joined_run runs old new a b c d more before meets made =
    ap (λ rs. continued rs more) made ∙ continued-last runs a d more ∙ ap (λ rs. runs ++ rs) (sym (with_run-joined a b d more))
    ∙ ap (λ n. runs ++ with_run (a, b) (with_run (n, d) more)) meets
    ∙ sym (ap (λ rs. continued rs (with_run (c, d) more)) before ∙ continued-last runs a b (with_run (c, d) more))

pub apart_run : (runs old new : List (ℕ × ℕ)) (a b c d : ℕ) (more : List (ℕ × ℕ)) → old ≡ runs ++ (a, b) ∷ [] → (b ≡ c → ⊥)
    → new ≡ (runs ++ (a, b) ∷ []) ++ (c, d) ∷ [] → continued new more ≡ continued old (with_run (c, d) more)
apart_run runs old new a b c d more before apart made =
    ap (λ rs. continued rs more) made ∙ continued-last (runs ++ (a, b) ∷ []) c d more
    ∙ append_assoc runs ((a, b) ∷ []) (with_run (c, d) more)
    ∙ ap (λ rs. runs ++ rs) (sym (with_run-apart a b c d more apart))
    ∙ sym (ap (λ rs. continued rs (with_run (c, d) more)) before ∙ continued-last runs a b (with_run (c, d) more))

-- ---- elements side by side that are all alike

module _ {A U : Type 0} (seen marked : A → Bool) (f : U → A) where
  past_one : ((u : U) → seen (f u) ≡ true) → ((u : U) → marked (f u) ≡ true) → (u : U) (i : ℕ) (ys : List A)
      → marked_runs_from i seen marked (f u ∷ ys) ≡ with_run (i, suc i) (marked_runs_from (suc i) seen marked ys)
  past_one s m u i ys =
      ap (λ b. cond (b && marked (f u)) (extended_runs i (marked_runs_from (one_more_if b i) seen marked ys))
      (marked_runs_from (one_more_if b i) seen marked ys)) (s u)
      ∙ ap (λ b. cond b (extended_runs i (marked_runs_from (suc i) seen marked ys)) (marked_runs_from (suc i) seen marked ys)) (m u)
      ∙ extended-with i (marked_runs_from (suc i) seen marked ys)
      ∙ ap (λ n. with_run (i, n) (marked_runs_from (suc i) seen marked ys)) (omega arith)

  pub runs-past_marked : ((u : U) → seen (f u) ≡ true) → ((u : U) → marked (f u) ≡ true) → (us : List U) (i : ℕ) (ys : List A)
      → 1 ≤ length us
      → marked_runs_from i seen marked (map f us ++ ys) ≡ with_run (i, i + length us) (marked_runs_from (i + length us) seen marked ys)
  runs-past_marked s m [] i ys some = absurd (omega arith)
  runs-past_marked s m (u ∷ []) i ys some = past_one s m u i ys
      ∙ ap (λ n. with_run (i, n) (marked_runs_from n seen marked ys)) (omega arith)
  runs-past_marked s m (u ∷ v ∷ us) i ys some =
      let n = length (v ∷ us) in
      past_one s m u i (map f (v ∷ us) ++ ys)
      ∙ ap (with_run (i, suc i)) (runs-past_marked s m (v ∷ us) (suc i) ys (omega arith))
      ∙ with_run-joined i (suc i) (suc i + n) (marked_runs_from (suc i + n) seen marked ys)
      ∙ ap (λ n. with_run (i, n) (marked_runs_from n seen marked ys)) (omega arith)

  pub runs-past_seen : ((u : U) → seen (f u) ≡ true) → ((u : U) → marked (f u) ≡ false) → (us : List U) (i : ℕ) (ys : List A)
      → marked_runs_from i seen marked (map f us ++ ys) ≡ marked_runs_from (i + length us) seen marked ys
  runs-past_seen s m [] i ys = ap (λ n. marked_runs_from n seen marked ys) (omega arith)
  runs-past_seen s m (u ∷ us) i ys =
      ap (λ b. cond (b && marked (f u)) (extended_runs i (marked_runs_from (one_more_if b i) seen marked (map f us ++ ys)))
      (marked_runs_from (one_more_if b i) seen marked (map f us ++ ys))) (s u)
      ∙ ap (λ b. cond b (extended_runs i (marked_runs_from (suc i) seen marked (map f us ++ ys)))
      (marked_runs_from (suc i) seen marked (map f us ++ ys))) (m u)
      ∙ runs-past_seen s m us (suc i) ys
      ∙ ap (λ n. marked_runs_from n seen marked ys) (omega arith)

  pub runs-past_unseen : ((u : U) → seen (f u) ≡ false) → (us : List U) (i : ℕ) (ys : List A)
      → marked_runs_from i seen marked (map f us ++ ys) ≡ marked_runs_from i seen marked ys
  runs-past_unseen s [] i ys = refl
  runs-past_unseen s (u ∷ us) i ys =
      ap (λ b. cond (b && marked (f u)) (extended_runs i (marked_runs_from (one_more_if b i) seen marked (map f us ++ ys)))
      (marked_runs_from (one_more_if b i) seen marked (map f us ++ ys))) (s u)
      ∙ runs-past_unseen s us i ys

-- ---- the runs rise

pub rise-from : (low high : ℕ) (runs : List (ℕ × ℕ)) → low ≤ high → RunsRise high runs → RunsRise low runs
rise-from low high [] h r = tt
rise-from low high ((a, b) ∷ runs) h r = (omega (arith, h, r.0), r.1, r.2)

rise-extended : (i : ℕ) (runs : List (ℕ × ℕ)) → RunsRise (suc i) runs → RunsRise i (extended_runs i runs)
rise-extended i [] r = (omega arith, omega arith, tt)
rise-extended i ((a, b) ∷ runs) r = step (nat_eq a (i + 1))
  where
    step : (t : Bool) → RunsRise i (cond t ((i, b) ∷ runs) ((i, i + 1) ∷ (a, b) ∷ runs))
    step true = (omega arith, omega (arith, r.0, r.1), r.2)
    step false = (omega arith, omega arith, (omega (arith, r.0), r.1, r.2))

pub runs-rise : {A : Type 0} (seen marked : A → Bool) (i : ℕ) (xs : List A) → RunsRise i (marked_runs_from i seen marked xs)
runs-rise seen marked i [] = tt
runs-rise seen marked i (e ∷ xs) = step (seen e) (marked e) (runs-rise seen marked (one_more_if (seen e) i) xs)
  where
    step : (s m : Bool) → RunsRise (one_more_if s i) (marked_runs_from (one_more_if s i) seen marked xs)
        → RunsRise i (cond (s && m) (extended_runs i (marked_runs_from (one_more_if s i) seen marked xs))
        (marked_runs_from (one_more_if s i) seen marked xs))
    step true true r = rise-extended i _ r
    step true false r = rise-from i (suc i) _ (omega arith) r
    step false m r = r

-- ---- the runs lowered, one after another

-- the run r in front: it is lowered, and those behind it by its length more
pub record LowersNext (d : ℕ) (runs : List (ℕ × ℕ)) (r : ℕ × ℕ) (rest : List (ℕ × ℕ)) : Type 0 where
  pub lowered : lowered_runs d runs ≡ (r.0 - d, r.1 - d) ∷ lowered_runs (d + (r.1 - r.0)) rest
  pub rise : RunsRise (d + (r.1 - r.0)) rest

lowers_first : (d : ℕ) (r : ℕ × ℕ) (rest : List (ℕ × ℕ)) → RunsRise d (r ∷ rest) → LowersNext d (r ∷ rest) r rest
lowers_first d (a, b) rest h = record { lowered = refl; rise = rise-from (d + (b - a)) b rest (omega (arith, h.0, h.1)) h.2 }

pub lowers_next : (d i : ℕ) (runs : List (ℕ × ℕ)) → i < length runs → RunsRise d (drop i runs)
    → LowersNext d (drop i runs) (get_or runs i (0, 0)) (drop (i + 1) runs)
lowers_next d i runs low rise =
    let r = get_or runs i (0, 0) in
    let split : drop i runs ≡ r ∷ drop (i + 1) runs = drop-cons runs i (0, 0) low ∙ ap (λ n. r ∷ drop n runs) (sym (add-one i)) in
    subst (λ rs. LowersNext d rs r (drop (i + 1) runs)) (sym split) (lowers_first d r (drop (i + 1) runs) (subst (RunsRise d) split rise))
