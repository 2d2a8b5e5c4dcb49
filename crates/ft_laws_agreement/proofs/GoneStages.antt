-- A stage that does nothing leaves no mark, and the view of the stage before stays.
use Rattle.std.proofs.Common.{◌≡◌, ◌⊎◌, inl, inr, ℕ, suc, ◌≤◌, Bool, true, false, cond, not, ◌&&◌, ◌||◌, nat_lt, nat_eq, List, [], ◌∷◌, ◌++◌, Option, Some, None, refl, ◌∙◌, ap, arith}
use Rattle.std.specs.List.{list_all, list_any}
use Rattle.std.proofs.lemmas.Bool.Decides.{nat_tests}
use Rattle.ft_base.specs.declared.stamps.Stamp.{Stamp}
use Rattle.ft_base.specs.declared.stamps.Stamp.TheVariants.{Acked, Local}
use Rattle.ft_base.proofs.Booleans.{all_four, all_three, both}
use Rattle.ft_base.specs.Scan.{one_more_if}
use Rattle.ft_base.specs.Visibility.{has_occurred_at_stage, is_of_stage}
use Rattle.ft_props.specs.declared.properties.Changes.{Changes}
use Rattle.ft_props.specs.Element.{ListElement, removal_stamp, seen}
use Rattle.ft_props.specs.Steps.{extended_runs, is_annotated_by, is_inserted_by, is_removed_by, marked_runs_from}
use Rattle.ft_props.proofs.AcknowledgedInsertion.{expects, list_up_to, same_nat}
use Rattle.ft_props.proofs.PlacedInsertion.{is_upto}
use Rattle.ft_laws_agreement.proofs.StageEdits.{StageEdit, PutIn, TakenOut, Annotated, IsStanding}
use Rattle.ft_laws_agreement.proofs.AcknowledgedDocument.{standing-count}
use Rattle.ft_laws_agreement.proofs.MarkedRuns.{Each}
use Rattle.ft_laws_agreement.proofs.OrderedMarks.{insertion_stage, is_ordered, is_removed_last, is_unremoved_pending, rises_from}
use Rattle.ft_laws_agreement.proofs.RebuiltStages.{filtered-same, is_unchanged_by, is_unmarked_by, lifted, unchanged-standing, unmarked-same, unmarked-standing}
use Rattle.ft_laws_agreement.proofs.SideBySideStages.{none-counted, put-nothing}
use Rattle.ft_laws_agreement.proofs.WithinStages.{is_among, is_numbered, is_within, mark_within, stamp_within}
use Rattle.ft_laws_agreement.proofs.Booleans.{or-true}
use Rattle.ft_props.proofs.RebuiltList.{has_occurred_at_stage-next}

-- whether the stage inserted, removes or changes the element
abbrev pub is_marked_by : ℕ → ListElement → Bool
is_marked_by k e = is_inserted_by k e || (is_removed_by k e || is_annotated_by k e)

abbrev pub is_free_of : ℕ → ListElement → Bool
is_free_of k e = not (is_marked_by k e)

-- ---- an element of a later stage

rises-none : (i k : ℕ) (pending : List (ℕ × Changes)) → k ≤ i → rises_from i pending ≡ true → list_any (λ p. nat_eq p.0 k) pending ≡ false
rises-none i k [] l h = refl
rises-none i k (p ∷ pending) l h =
    let q = both (nat_lt i p.0) (rises_from p.0 pending) h in
    let above : k ≤ p.0 = grind (arith, nat_tests) in
    let other : nat_eq p.0 k ≡ false = grind (arith, nat_tests) in
    rw (other, rises-none p.0 k pending above q.1) refl

pub late-changes : (k : ℕ) (t : Stamp) (pending : List (ℕ × Changes)) → has_occurred_at_stage k t ≡ false → rises_from (insertion_stage t) pending ≡ true
    → list_any (λ p. nat_eq p.0 k) pending ≡ false
late-changes k (Acked s c) pending h g = (cc)
late-changes k (Local j) pending h g =
    let l : k ≤ j = grind (arith, nat_tests) in
    rises-none j k pending l g

pub late-removal : (k : ℕ) (t : Stamp) (dels : List Stamp) (m : Option ℕ) → has_occurred_at_stage k t ≡ false → is_unremoved_pending t dels m ≡ true
    → list_any (is_of_stage k) (removal_stamp m) ≡ false
late-removal k (Acked s c) dels m h g = (cc)
late-removal k (Local j) [] None h g = refl
late-removal k (Local j) [] (Some i) h g =
    let other : nat_eq i k ≡ false = grind (arith, nat_tests) in
    rw other refl
late-removal k (Local j) (d ∷ dels) m h g = (cc)

one-free : (k : ℕ) (e : ListElement) → is_inserted_by k e ≡ false → is_ordered e ≡ true → cond (is_upto k e) (is_unmarked_by k e) true ≡ true
    → cond (is_upto k e) (is_unchanged_by k e) true ≡ true → is_free_of k e ≡ true
one-free k e i o u v = by_reach (is_upto k e) refl u v
  where
    not-true : (b : Bool) → not b ≡ true → b ≡ false
    not-true true g = (cc)
    not-true false g = refl

    by_reach : (b : Bool) → is_upto k e ≡ b → cond b (is_unmarked_by k e) true ≡ true → cond b (is_unchanged_by k e) true ≡ true → is_free_of k e ≡ true
    by_reach true h f g = rw (i, not-true (is_removed_by k e) f, not-true (is_annotated_by k e) g) refl
    by_reach false h f g =
        let p = all_three (rises_from (insertion_stage e.ins) e.pending) (is_removed_last e.removal_stage e.pending) (is_unremoved_pending e.ins e.dels e.removal_stage) o in
        rw (i, late-removal k e.ins e.dels e.removal_stage h p.2, late-changes k e.ins e.pending h p.0) refl

all-free : (k : ℕ) (xs : List ListElement) → list_any (is_inserted_by k) xs ≡ false → list_all is_ordered xs ≡ true
    → list_all (λ e. cond (is_upto k e) (is_unmarked_by k e) true) xs ≡ true
    → list_all (λ e. cond (is_upto k e) (is_unchanged_by k e) true) xs ≡ true → list_all (is_free_of k) xs ≡ true
all-free k [] i o u v = refl
all-free k (e ∷ xs) i o u v =
    let a = neither (is_inserted_by k e) (list_any (is_inserted_by k) xs) i in
    let b = both (is_ordered e) (list_all is_ordered xs) o in
    let f = both (cond (is_upto k e) (is_unmarked_by k e) true) (list_all (λ e. cond (is_upto k e) (is_unmarked_by k e) true) xs) u in
    let g = both (cond (is_upto k e) (is_unchanged_by k e) true) (list_all (λ e. cond (is_upto k e) (is_unchanged_by k e) true) xs) v in
    rw (one-free k e a.0 b.0 f.0 g.0, all-free k xs a.1 b.1 f.1 g.1) refl
  where
    neither : (a b : Bool) → a || b ≡ false → (a ≡ false) × (b ≡ false)
    neither false b h = (refl, h)
    neither true b h = (cc)

-- a stage that does nothing to a list has no mark there
pub standing-free : (k r c : ℕ) (xs : List ListElement) → list_all is_ordered xs ≡ true → IsStanding k r c (TakenOut []) xs → list_all (is_free_of (suc k)) xs ≡ true
standing-free k r c xs o h =
    all-free (suc k) xs (none-counted (is_inserted_by (suc k)) xs (standing-count k r c (TakenOut []) xs h)) o
    (lifted (is_unmarked_by (suc k)) (suc k) (unmarked-same (suc k)) xs (unmarked-standing k r c (TakenOut []) xs refl h))
    (lifted (is_unchanged_by (suc k)) (suc k) (λ e. ap not (filtered-same (suc k) e.pending)) xs (unchanged-standing k r c (TakenOut []) xs refl h))

-- whether the edit does nothing
abbrev pub is_nothing : StageEdit → Bool
is_nothing (PutIn p props []) = true
is_nothing (PutIn p props (b ∷ bs)) = false
is_nothing (TakenOut []) = true
is_nothing (TakenOut (range ∷ ranges)) = false
is_nothing (Annotated [] changes) = true
is_nothing (Annotated (range ∷ ranges) changes) = false

pub nothing-stands : (k r c : ℕ) (edit : StageEdit) (xs : List ListElement) → is_nothing edit ≡ true → IsStanding k r c edit xs → IsStanding k r c (TakenOut []) xs
nothing-stands k r c (PutIn p props []) xs e h = record { in_range = refl; made = h.made ∙ put-nothing (expects r c (suc (suc k))) p (list_up_to k xs) }
nothing-stands k r c (PutIn p props (b ∷ bs)) xs e h = (cc)
nothing-stands k r c (TakenOut []) xs e h = h
nothing-stands k r c (TakenOut (range ∷ ranges)) xs e h = (cc)
nothing-stands k r c (Annotated [] changes) xs e h = record { in_range = refl; made = h.made }
nothing-stands k r c (Annotated (range ∷ ranges) changes) xs e h = (cc)

-- ---- runs and views

pub no-runs : (seen is : ListElement → Bool) (i : ℕ) (xs : List ListElement) → list_all (λ e. not (is e)) xs ≡ true → marked_runs_from i seen is xs ≡ []
no-runs seen is i [] h = refl
no-runs seen is i (e ∷ xs) h =
    let p = both (not (is e)) (list_all (λ e. not (is e)) xs) h in
    run-step (seen e) (is e) p.0 (no-runs seen is (one_more_if (seen e) i) xs p.1)
  where
    run-step : (s m : Bool) → not m ≡ true → marked_runs_from (one_more_if (seen e) i) seen is xs ≡ []
        → cond (s && m) (extended_runs i (marked_runs_from (one_more_if (seen e) i) seen is xs)) (marked_runs_from (one_more_if (seen e) i) seen is xs) ≡ []
    run-step s true g ih = (cc)
    run-step true false g ih = ih
    run-step false false g ih = ih

free-parts : (k : ℕ) (e : ListElement) → is_free_of k e ≡ true → (is_inserted_by k e ≡ false) × (is_removed_by k e ≡ false) × (is_annotated_by k e ≡ false)
free-parts k e h = three (is_inserted_by k e) (is_removed_by k e) (is_annotated_by k e) h
  where
    three : (a b c : Bool) → not (a || (b || c)) ≡ true → (a ≡ false) × (b ≡ false) × (c ≡ false)
    three false false false g = (refl, refl, refl)
    three true b c g = (cc)
    three false true c g = (cc)
    three false false true g = (cc)

pub free-unremoved : (k : ℕ) (xs : List ListElement) → list_all (is_free_of k) xs ≡ true → list_all (λ e. not (is_removed_by k e)) xs ≡ true
free-unremoved k [] h = refl
free-unremoved k (e ∷ xs) h =
    let p = both (is_free_of k e) (list_all (is_free_of k) xs) h in
    rw ((free-parts k e p.0).1, free-unremoved k xs p.1) refl

removed-next : (n k : ℕ) (dels : List Stamp) (m : Option ℕ) → list_all (is_numbered n) dels ≡ true → list_any (is_of_stage (suc k)) (removal_stamp m) ≡ false
    → list_any (has_occurred_at_stage (suc k)) (dels ++ removal_stamp m) ≡ list_any (has_occurred_at_stage k) (dels ++ removal_stamp m)
removed-next n k [] None h g = refl
removed-next n k [] (Some j) h g = grind (arith, nat_tests)
removed-next n k (Acked s c ∷ dels) m h g = refl
removed-next n k (Local j ∷ dels) m h g = (cc)

-- the view of the stage before stays
pub free-views : (n k : ℕ) (ks : List ℕ) (xs : List ListElement) → list_all (is_within n ks) xs ≡ true → list_all (is_free_of (suc k)) xs ≡ true
    → Each (λ e. seen (suc k) e ≡ seen k e) xs
free-views n k ks [] w h = tt
free-views n k ks (e ∷ xs) w h =
    let p = both (is_within n ks e) (list_all (is_within n ks) xs) w in
    let q = both (is_free_of (suc k) e) (list_all (is_free_of (suc k)) xs) h in
    let f = free-parts (suc k) e q.0 in
    let dels = (all_four (stamp_within n ks e.ins) (list_all (is_numbered n) e.dels) (mark_within ks e.removal_stage) (list_all (λ q. is_among ks q.0) e.pending) p.0).1 in
    (rw (has_occurred_at_stage-next k e.ins f.0, removed-next n k e.dels e.removal_stage dels f.1) refl, free-views n k ks xs p.1 q.1)

-- ---- fewer stages

module _ (n : ℕ) (ks js : List ℕ) (e : ListElement) (left : (j : ℕ) → is_among ks j ≡ true → is_marked_by j e ≡ true → is_among js j ≡ true) where
  fewer-stamp : (t : Stamp) → e.ins ≡ t → stamp_within n ks t ≡ true → stamp_within n js t ≡ true
  fewer-stamp (Acked s c) f h = h
  fewer-stamp (Local j) f h = left j h (ap (λ t. is_of_stage j t || (is_removed_by j e || is_annotated_by j e)) f ∙ rw (same_nat j) refl)

  fewer-mark : (m : Option ℕ) → e.removal_stage ≡ m → mark_within ks m ≡ true → mark_within js m ≡ true
  fewer-mark None f h = refl
  fewer-mark (Some j) f h = left j h (ap (λ m. is_inserted_by j e || (list_any (is_of_stage j) (removal_stamp m) || is_annotated_by j e)) f
      ∙ rw (same_nat j) (or-true (is_inserted_by j e)))

  fewer-changes : (pending : List (ℕ × Changes)) → ((j : ℕ) → list_any (λ p. nat_eq p.0 j) pending ≡ true → is_annotated_by j e ≡ true)
      → list_all (λ p. is_among ks p.0) pending ≡ true → list_all (λ p. is_among js p.0) pending ≡ true
  fewer-changes [] f h = refl
  fewer-changes (p ∷ pending) f h =
      let q = both (is_among ks p.0) (list_all (λ p. is_among ks p.0) pending) h in
      let here : is_annotated_by p.0 e ≡ true = f p.0 (rw (same_nat p.0) refl) in
      let mark : is_marked_by p.0 e ≡ true = rw (here, or-true (is_removed_by p.0 e)) (or-true (is_inserted_by p.0 e)) in
      rw (left p.0 q.0 mark, fewer-changes pending (λ j g. f j (rw g (or-true (nat_eq p.0 j)))) q.1) refl

  fewer-within : is_within n ks e ≡ true → is_within n js e ≡ true
  fewer-within h =
      let p = all_four (stamp_within n ks e.ins) (list_all (is_numbered n) e.dels) (mark_within ks e.removal_stage) (list_all (λ p. is_among ks p.0) e.pending) h in
      rw (fewer-stamp e.ins refl p.0, p.1, fewer-mark e.removal_stage refl p.2, fewer-changes e.pending (λ j g. g) p.3) refl

-- where each stage is also among the others or has no mark, the others are all that is pending
pub fewer-all : (n : ℕ) (ks js : List ℕ) (xs : List ListElement) → ((j : ℕ) → is_among ks j ≡ true
    → (is_among js j ≡ true) ⊎ (list_all (is_free_of j) xs ≡ true)) → list_all (is_within n ks) xs ≡ true → list_all (is_within n js) xs ≡ true
fewer-all n ks js [] left h = refl
fewer-all n ks js (e ∷ xs) left h =
    let p = both (is_within n ks e) (list_all (is_within n ks) xs) h in
    rw (fewer-within n ks js e (λ j a m. head-left j m (left j a)) p.0, fewer-all n ks js xs (λ j a. tail-left j (left j a)) p.1) refl
  where
    unmarked : (b : Bool) → not b ≡ true → b ≡ true → false ≡ true
    unmarked true h g = h
    unmarked false h g = g

    no-mark : false ≡ true → ⊥
    no-mark g = (cc)

    head-left : (j : ℕ) → is_marked_by j e ≡ true → (is_among js j ≡ true) ⊎ (list_all (is_free_of j) (e ∷ xs) ≡ true) → is_among js j ≡ true
    head-left j m (inl a) = a
    head-left j m (inr f) = absurd (no-mark (unmarked (is_marked_by j e) (both (is_free_of j e) (list_all (is_free_of j) xs) f).0 m))

    tail-left : (j : ℕ) → (is_among js j ≡ true) ⊎ (list_all (is_free_of j) (e ∷ xs) ≡ true) → (is_among js j ≡ true) ⊎ (list_all (is_free_of j) xs ≡ true)
    tail-left j (inl a) = inl a
    tail-left j (inr f) = inr (both (is_free_of j e) (list_all (is_free_of j) xs) f).1
