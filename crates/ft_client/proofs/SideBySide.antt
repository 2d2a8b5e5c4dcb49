-- Elements of a stage that are one run in its view stand side by side, and it is enough to know that of the list without names.
use Rattle.std.proofs.Common.{◌≡◌, ℕ, suc, Bool, true, false, cond, not, ◌&&◌, ◌||◌, List, [], ◌∷◌, ◌++◌, refl, sym, ◌∙◌, ap, filter, map, arith}
use Rattle.std.specs.List.{list_all, list_any}
use Rattle.std.proofs.lemmas.Bool.Decides.{nat_tests}
use Rattle.ft_base.specs.declared.stamps.Stamp.{Stamp}
use Rattle.ft_base.specs.declared.stamps.Stamp.TheVariants.{Acked, Local}
use Rattle.ft_base.specs.Scan.{no_run, one_more_if, put, rank}
use Rattle.ft_base.specs.Visibility.{has_occurred_at_stage, is_of_stage, seen_at}
use Rattle.ft_props.specs.Element.{ListElement, NamelessElement, nameless, removal_stamp, seen}
use Rattle.ft_props.specs.Steps.{is_inserted_by, stage_position}
use Rattle.ft_props.proofs.RebuiltList.{filter-twice, pred_suc, wide}
use Rattle.ft_laws_compaction.specs.StageRuns.{StandInRuns}
use Rattle.ft_laws_agreement.specs.Reconnecting.{StandSideBySide, is_one_run}
use Rattle.ft_laws_agreement.proofs.SideBySideStages.{one_run-map, one_run-put}

not-both : (k : ℕ) (t : Stamp) → is_of_stage (suc k) t ≡ true → has_occurred_at_stage k t ≡ false
not-both k (Acked s c) h = (cc)
not-both k (Local j) h = grind (arith, nat_tests)

one-of-both : (k : ℕ) (e : ListElement) → wide k e ≡ true → cond (is_inserted_by (suc k) e) (not (seen k e)) (seen k e) ≡ true
one-of-both k e h = either (is_inserted_by (suc k) e) refl
  where
    unseen : is_inserted_by (suc k) e ≡ true → seen k e ≡ false
    unseen f = ap (λ b. b && not (list_any (has_occurred_at_stage k) (e.dels ++ removal_stamp e.removal_stage))) (not-both k e.ins f)

    or-false : (b : Bool) → b || false ≡ b
    or-false true = refl
    or-false false = refl

    either : (b : Bool) → is_inserted_by (suc k) e ≡ b → cond b (not (seen k e)) (seen k e) ≡ true
    either true f = ap not (unseen f)
    either false f = sym (or-false (seen k e)) ∙ ap (λ b. seen k e || b) (sym f) ∙ h

all-of-both : (k : ℕ) (xs : List ListElement) → list_all (λ e. cond (is_inserted_by (suc k) e) (not (seen k e)) (seen k e)) (filter (wide k) xs) ≡ true
all-of-both k [] = refl
all-of-both k (e ∷ xs) = grind (arith, all-of-both k xs, one-of-both k e)

neither-wide : (k : ℕ) (e : ListElement) → wide k e ≡ false → (seen k e ≡ false) × (is_inserted_by (suc k) e ≡ false)
neither-wide k e h = neither (seen k e) (is_inserted_by (suc k) e) h
  where
    neither : (a b : Bool) → a || b ≡ false → (a ≡ false) × (b ≡ false)
    neither false false g = (refl, refl)
    neither true b g = (cc)
    neither false true g = (cc)

rank-wide : (k : ℕ) (xs : List ListElement) → rank (is_inserted_by (suc k)) (seen k) (filter (wide k) xs) ≡ rank (is_inserted_by (suc k)) (seen k) xs
rank-wide k [] = refl
rank-wide k (e ∷ xs) = rank-step (wide k e) refl (rank-wide k xs)
  where
    rank-step : (w : Bool) → wide k e ≡ w → rank (is_inserted_by (suc k)) (seen k) (filter (wide k) xs) ≡ rank (is_inserted_by (suc k)) (seen k) xs
        → rank (is_inserted_by (suc k)) (seen k) (cond w (e ∷ filter (wide k) xs) (filter (wide k) xs)) ≡ rank (is_inserted_by (suc k)) (seen k) (e ∷ xs)
    rank-step true h ih = ap (λ n. cond (is_inserted_by (suc k) e) 0 (one_more_if (seen k e) n)) ih
    rank-step false h ih =
        let p = neither-wide k e h in
        rw (p.0, p.1) ih

run-side_by_side : (k : ℕ) (xs : List ListElement) → is_one_run (is_inserted_by (suc k)) (filter (wide k) xs) ≡ true
    → filter (wide k) xs ≡ put (seen k) no_run (stage_position (suc k) xs) (filter (is_inserted_by (suc k)) xs) (filter (seen k) xs)
run-side_by_side k xs h =
    let is = is_inserted_by (suc k) in
    sym (one_run-put is (seen k) (filter (wide k) xs) (all-of-both k xs) h)
    ∙ ap (λ n. put (seen k) no_run n (filter is (filter (wide k) xs)) (filter (seen k) (filter (wide k) xs))) (rank-wide k xs ∙ ap (λ i. rank is (seen i) xs) (sym (pred_suc k)))
    ∙ ap (λ ys. put (seen k) no_run (stage_position (suc k) xs) ys (filter (seen k) (filter (wide k) xs))) (filter-twice is (wide k) (λ e g. (neither-wide k e g).1) xs)
    ∙ ap (put (seen k) no_run (stage_position (suc k) xs) (filter is xs)) (filter-twice (seen k) (wide k) (λ e g. (neither-wide k e g).0) xs)

filter-mapped : {A B : Type 0} (test : B → Bool) (f : A → B) (xs : List A) → filter test (map f xs) ≡ map f (filter (λ x. test (f x)) xs)
filter-mapped test f [] = refl
filter-mapped test f (x ∷ xs) = grind (arith, filter-mapped test f xs)

pub runs-stand : (xs : List ListElement) → StandInRuns (map nameless xs) → (k : ℕ) → StandSideBySide k xs
runs-stand xs h k =
    let view = λ (e : NamelessElement). seen_at e.stamps k || is_of_stage (suc k) e.stamps.ins in
    run-side_by_side k xs
    (sym (one_run-map (λ (e : NamelessElement). is_of_stage (suc k) e.stamps.ins) (is_inserted_by (suc k)) nameless (λ e. refl) (filter (wide k) xs))
    ∙ ap (is_one_run (λ (e : NamelessElement). is_of_stage (suc k) e.stamps.ins)) (sym (filter-mapped view nameless xs)) ∙ h k)
