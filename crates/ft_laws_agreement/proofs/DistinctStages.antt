-- The list up to a stage has distinct names where the whole list has.
use Rattle.std.proofs.Common.{◌≡◌, ℕ, zero, suc, ◌-◌, Bool, true, false, cond, not, ◌&&◌, ◌||◌, List, [], ◌∷◌, ◌++◌, refl, ◌∙◌, ap, arith, filter, nat_eq}
use Rattle.std.specs.List.{list_all, list_any}
use Rattle.std.proofs.lemmas.Bool.Decides.{nat_tests}
use Rattle.ft_base.specs.declared.stamps.Stamp.{Stamp}
use Rattle.ft_base.specs.declared.stamps.Stamp.TheVariants.{Acked, Local}
use Rattle.ft_base.specs.Scan.{no_run, put, retain_map}
use Rattle.ft_base.specs.Visibility.{is_of_stage}
use Rattle.ft_base.proofs.Booleans.{both}
use Rattle.ft_base.proofs.ScanLaws.{put_past-no_run}
use Rattle.ft_props.specs.Element.{ListElement, ElementId, has_id, id, id_of_stamp, is_sequenced, same_id, seen}
use Rattle.ft_props.specs.Steps.{carried_element, is_inserted_by, stage_position}
use Rattle.ft_laws_agreement.specs.Trimming.{are_distinct_elements}
use Rattle.ft_laws_agreement.proofs.OwnNames.{any-put, same_id-apart}
use Rattle.ft_laws_agreement.proofs.StageViews.{carried-id, later-absent, stage_list}
use Rattle.ft_laws_agreement.proofs.Booleans.{hidden}

absent-filter : (x : ElementId) (test : ListElement → Bool) (xs : List ListElement) → list_any (has_id x) xs ≡ false → list_any (has_id x) (filter test xs) ≡ false
absent-filter x test [] h = refl
absent-filter x test (e ∷ xs) h = grind (arith, absent-filter x test xs)

distinct-filter : (test : ListElement → Bool) (xs : List ListElement) → are_distinct_elements xs ≡ true → are_distinct_elements (filter test xs) ≡ true
distinct-filter test [] h = refl
distinct-filter test (e ∷ xs) h =
    let p = both (not (list_any (has_id (id e)) xs)) (are_distinct_elements xs) h in
    step (test e) (absent-filter (id e) test xs (hidden _ p.0)) (distinct-filter test xs p.1)
  where
    step : (b : Bool) → list_any (has_id (id e)) (filter test xs) ≡ false → are_distinct_elements (filter test xs) ≡ true
        → are_distinct_elements (cond b (e ∷ filter test xs) (filter test xs)) ≡ true
    step true a d = rw (a, d) refl
    step false a d = d

absent-carried : (x : ElementId) (xs : List ListElement) → list_any (has_id x) xs ≡ false → list_any (has_id x) (retain_map is_sequenced carried_element xs) ≡ false
absent-carried x [] h = refl
absent-carried x (e ∷ xs) h = step (is_sequenced e) (same_id x (id e)) refl h (absent-carried x xs)
  where
    step : (b c : Bool) → same_id x (id e) ≡ c → c || list_any (has_id x) xs ≡ false
        → (list_any (has_id x) xs ≡ false → list_any (has_id x) (retain_map is_sequenced carried_element xs) ≡ false)
        → list_any (has_id x) (cond b (carried_element e ∷ retain_map is_sequenced carried_element xs) (retain_map is_sequenced carried_element xs)) ≡ false
    step b true e h g = absurd cc
    step true false q h g = ap (λ i. same_id x i || list_any (has_id x) (retain_map is_sequenced carried_element xs)) (carried-id e)
        ∙ ap (λ b. b || list_any (has_id x) (retain_map is_sequenced carried_element xs)) q ∙ g h
    step false false q h g = g h

distinct-carried : (xs : List ListElement) → are_distinct_elements xs ≡ true → are_distinct_elements (retain_map is_sequenced carried_element xs) ≡ true
distinct-carried [] h = refl
distinct-carried (e ∷ xs) h =
    let p = both (not (list_any (has_id (id e)) xs)) (are_distinct_elements xs) h in
    step (is_sequenced e) (absent-carried (id e) xs (hidden _ p.0)) (distinct-carried xs p.1)
  where
    step : (b : Bool) → list_any (has_id (id e)) (retain_map is_sequenced carried_element xs) ≡ false → are_distinct_elements (retain_map is_sequenced carried_element xs) ≡ true
        → are_distinct_elements (cond b (carried_element e ∷ retain_map is_sequenced carried_element xs) (retain_map is_sequenced carried_element xs)) ≡ true
    step true a d = ap (λ i. not (list_any (has_id i) (retain_map is_sequenced carried_element xs))
        && are_distinct_elements (retain_map is_sequenced carried_element xs)) (carried-id e) ∙ rw (a, d) refl
    step false a d = d

-- elements of a stage have other names than those of no stage or another
other-stage : (k : ℕ) (e d : ListElement) → is_inserted_by k e ≡ true → is_inserted_by k d ≡ false → same_id (id e) (id d) ≡ false
other-stage k e d h g = by_stamps e.ins d.ins h g
  where
    by_stamps : (s t : Stamp) → is_of_stage k s ≡ true → is_of_stage k t ≡ false → same_id (id_of_stamp s e.nth) (id_of_stamp t d.nth) ≡ false
    by_stamps (Acked r c) t h g = absurd cc
    by_stamps (Local i) (Acked r c) h g = refl
    by_stamps (Local i) (Local o) h g = ap (λ b. b && nat_eq e.nth d.nth) (apart h g)
      where
        apart : nat_eq i k ≡ true → nat_eq o k ≡ false → nat_eq i o ≡ false
        apart h g = grind (arith, nat_tests)

module _ (k : ℕ) where
  apart-from : (e : ListElement) (xs : List ListElement) → is_inserted_by k e ≡ true → list_any (is_inserted_by k) xs ≡ false → list_any (has_id (id e)) xs ≡ false
  apart-from e [] h g = refl
  apart-from e (d ∷ xs) h g = step (is_inserted_by k d) refl g (apart-from e xs h)
    where
      step : (b : Bool) → is_inserted_by k d ≡ b → b || list_any (is_inserted_by k) xs ≡ false
          → (list_any (is_inserted_by k) xs ≡ false → list_any (has_id (id e)) xs ≡ false) → list_any (has_id (id e)) (d ∷ xs) ≡ false
      step true q g r = absurd cc
      step false q g r = rw (other-stage k e d h q) (r g)

  apart-block : (d : ListElement) (new : List ListElement) → is_inserted_by k d ≡ false → list_all (is_inserted_by k) new ≡ true → list_any (has_id (id d)) new ≡ false
  apart-block d [] h g = refl
  apart-block d (e ∷ new) h g =
      let p = both (is_inserted_by k e) (list_all (is_inserted_by k) new) g in
      rw (same_id-apart (id e) (id d) (other-stage k e d p.0 h)) (apart-block d new h p.1)

  none-both : (x : ElementId) (new xs : List ListElement) → list_any (has_id x) new ≡ false → list_any (has_id x) xs ≡ false → list_any (has_id x) (new ++ xs) ≡ false
  none-both x [] xs g h = h
  none-both x (e ∷ new) xs g h = grind (arith, none-both x new xs)

  distinct-append : (new xs : List ListElement) → are_distinct_elements new ≡ true → list_all (is_inserted_by k) new ≡ true → are_distinct_elements xs ≡ true
      → list_any (is_inserted_by k) xs ≡ false → are_distinct_elements (new ++ xs) ≡ true
  distinct-append [] xs d a e n = e
  distinct-append (y ∷ new) xs d a e n =
      let p = both (not (list_any (has_id (id y)) new)) (are_distinct_elements new) d in
      let q = both (is_inserted_by k y) (list_all (is_inserted_by k) new) a in
      rw (none-both (id y) new xs (hidden _ p.0) (apart-from y xs q.0 n), distinct-append new xs p.1 q.1 e n) refl

  distinct-put : (see : ListElement → Bool) (p : ℕ) (new xs : List ListElement) → are_distinct_elements new ≡ true → list_all (is_inserted_by k) new ≡ true
      → are_distinct_elements xs ≡ true → list_any (is_inserted_by k) xs ≡ false → are_distinct_elements (put see no_run p new xs) ≡ true
  distinct-put see zero new xs d a e n = ap are_distinct_elements (put_past-no_run new xs) ∙ distinct-append new xs d a e n
  distinct-put see (suc p) new [] d a e n = d
  distinct-put see (suc p) new (x ∷ xs) d a e n =
      let q = both (not (list_any (has_id (id x)) xs)) (are_distinct_elements xs) e in
      step (is_inserted_by k x) refl n q.0 (distinct-put see (cond (see x) p (suc p)) new xs d a q.1)
    where
      step : (b : Bool) → is_inserted_by k x ≡ b → b || list_any (is_inserted_by k) xs ≡ false → not (list_any (has_id (id x)) xs) ≡ true
          → (list_any (is_inserted_by k) xs ≡ false → are_distinct_elements (put see no_run (cond (see x) p (suc p)) new xs) ≡ true)
          → are_distinct_elements (x ∷ put see no_run (cond (see x) p (suc p)) new xs) ≡ true
      step true i n q r = absurd cc
      step false i n q r = rw (any-put (has_id (id x)) see no_run (cond (see x) p (suc p)) new xs (apart-block x new i a) (hidden _ q), r n) refl

all-inserted : (k : ℕ) (xs : List ListElement) → list_all (is_inserted_by k) (filter (is_inserted_by k) xs) ≡ true
all-inserted k [] = refl
all-inserted k (e ∷ xs) = step (is_inserted_by k e) refl (all-inserted k xs)
  where
    step : (b : Bool) → is_inserted_by k e ≡ b → list_all (is_inserted_by k) (filter (is_inserted_by k) xs) ≡ true
        → list_all (is_inserted_by k) (cond b (e ∷ filter (is_inserted_by k) xs) (filter (is_inserted_by k) xs)) ≡ true
    step true h g = rw (h, g) refl
    step false h g = g

pub stage_list-distinct : (xs : List ListElement) → are_distinct_elements xs ≡ true → (k : ℕ) → are_distinct_elements (stage_list xs k) ≡ true
stage_list-distinct xs d zero = distinct-carried xs d
stage_list-distinct xs d (suc k) =
    distinct-put (suc k) (seen (suc k - 1)) (stage_position (suc k) xs) (filter (is_inserted_by (suc k)) xs) (stage_list xs k)
    (distinct-filter (is_inserted_by (suc k)) xs d) (all-inserted (suc k) xs) (stage_list-distinct xs d k) (later-absent xs k (suc k) (omega arith))
