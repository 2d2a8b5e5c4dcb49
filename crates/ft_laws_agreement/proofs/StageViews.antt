-- The rebuilt list has the same views: what is seen at each stage, and with it what the next stage inserts, is the same
-- list, element by element.
use Rattle.std.proofs.Common.{◌≡◌, ℕ, zero, suc, ◌-◌, ◌<◌, ◌≤◌, Bool, true, false, cond, not, ◌&&◌, ◌||◌, inl, inr, List, [], ◌∷◌, ◌++◌, refl, sym, ◌∙◌, ap, arith, filter, map, nat_eq}
use Rattle.std.specs.List.{list_all, list_any}
use Rattle.std.proofs.lemmas.Bool.Decides.{nat_tests}
use Rattle.std.proofs.lemmas.Bool.{cases_lt}
use Rattle.ft_base.specs.declared.stamps.Stamp.{Stamp}
use Rattle.ft_base.specs.declared.stamps.Stamp.TheVariants.{Acked, Local}
use Rattle.ft_base.specs.Scan.{no_run, put, retain_map}
use Rattle.ft_base.specs.Visibility.{has_occurred_at_stage, is_acked, is_of_stage}
use Rattle.ft_base.proofs.Booleans.{both}
use Rattle.ft_base.proofs.ScanLaws.{put_past-no_run}
use Rattle.ft_props.specs.Element.{ListElement, id, is_sequenced, removal_stamp, seen, without_pending}
use Rattle.ft_props.specs.Steps.{carried_element, is_inserted_by, put_stage, put_stages, stage_position}
use Rattle.ft_op.specs.Operation.{SubOperation}
use Rattle.ft_op.specs.Stages.{Stage}
use Rattle.ft_laws_agreement.specs.Reconnecting.{StagesRiseTo, StandSideBySide, is_seen_or_next, is_stage_of}
use Rattle.ft_laws_agreement.proofs.HeldNames.{all-put}
use Rattle.ft_laws_agreement.proofs.OwnNames.{any-put}
use Rattle.ft_props.proofs.RebuiltList.{carried_element-ins, any-more, has_occurred_at_stage-next, pred_suc}
use Rattle.ft_props.proofs.AcknowledgedInsertion.{not_local}

-- ---- filters of insertions

module _ {A : Type 0} where
  pub filter-append : (test : A → Bool) (xs ys : List A) → filter test (xs ++ ys) ≡ filter test xs ++ filter test ys
  filter-append test [] ys = refl
  filter-append test (x ∷ xs) ys = grind (arith, filter-append test xs ys)

  -- a test that passes wherever the place looks goes through an insertion
  filter-put : (test place : A → Bool) → ((x : A) → test x ≡ false → place x ≡ false) → (p : ℕ) (new xs : List A) → filter test (put place no_run p new xs)
      ≡ put place no_run p (filter test new) (filter test xs)
  filter-put test place h zero new xs = ap (filter test) (put_past-no_run new xs) ∙ filter-append test new xs ∙ sym (put_past-no_run (filter test new) (filter test xs))
  filter-put test place h (suc p) new [] = refl
  filter-put test place h (suc p) new (x ∷ xs) = grind (arith, filter-put test place h p new xs, filter-put test place h (suc p) new xs, h x)

  pub filter-none : (test : A → Bool) (xs : List A) → list_any test xs ≡ false → filter test xs ≡ []
  filter-none test [] h = refl
  filter-none test (x ∷ xs) h = grind (arith, filter-none test xs)

  -- elements that don't pass leave no trace where they were put
  filter-put-none : (test place : A → Bool) (p : ℕ) (new xs : List A) → list_any test new ≡ false → filter test (put place no_run p new xs) ≡ filter test xs
  filter-put-none test place zero new xs h = ap (filter test) (put_past-no_run new xs) ∙ filter-append test new xs ∙ ap (λ ys. ys ++ filter test xs) (filter-none test new h)
  filter-put-none test place (suc p) new [] h = filter-none test new h
  filter-put-none test place (suc p) new (x ∷ xs) h = chosen (test x) (filter-put-none test place (cond (place x) p (suc p)) new xs h)
    where
      chosen : (b : Bool) {ys zs : List A} → ys ≡ zs → cond b (x ∷ ys) ys ≡ cond b (x ∷ zs) zs
      chosen true e = ap (λ us. x ∷ us) e
      chosen false e = e

  -- nothing put in changes nothing
  pub put-nothing : (place : A → Bool) (p : ℕ) (xs : List A) → put place no_run p [] xs ≡ xs
  put-nothing place zero xs = put_past-no_run [] xs
  put-nothing place (suc p) [] = refl
  put-nothing place (suc p) (x ∷ xs) = ap (λ ys. x ∷ ys) (put-nothing place (cond (place x) p (suc p)) xs)

  -- a narrower test after a wider one
  pub filter-twice : (narrow wide : A → Bool) → ((x : A) → wide x ≡ false → narrow x ≡ false) → (xs : List A) → filter narrow (filter wide xs) ≡ filter narrow xs
  filter-twice narrow wide h [] = refl
  filter-twice narrow wide h (x ∷ xs) = grind (arith, filter-twice narrow wide h xs, h x)

  filter-all : (test is : A → Bool) → ((x : A) → is x ≡ true → test x ≡ true) → (xs : List A) → filter test (filter is xs) ≡ filter is xs
  filter-all test is h [] = refl
  filter-all test is h (x ∷ xs) = grind (arith, filter-all test is h xs, h x)

  -- two tests that differ only by a third that passes nowhere in the list
  pub filter-or : (test other : A → Bool) (xs : List A) → list_any other xs ≡ false → filter (λ x. test x || other x) xs ≡ filter test xs
  filter-or test other [] h = refl
  filter-or test other (x ∷ xs) h = grind (arith, filter-or test other xs)

  any-filter : (is test : A → Bool) → ((x : A) → test x ≡ true → is x ≡ false) → (xs : List A) → list_any is (filter test xs) ≡ false
  any-filter is test h [] = refl
  any-filter is test h (x ∷ xs) = grind (arith, any-filter is test h xs, h x)

  any-retain_map : (is keep : A → Bool) (f : A → A) → ((x : A) → keep x ≡ true → is (f x) ≡ false) → (xs : List A) → list_any is (retain_map keep f xs) ≡ false
  any-retain_map is keep f h [] = refl
  any-retain_map is keep f h (x ∷ xs) = grind (arith, any-retain_map is keep f h xs, h x)

  all-filter : (P test : A → Bool) (xs : List A) → list_all P xs ≡ true → list_all P (filter test xs) ≡ true
  all-filter P test [] h = refl
  all-filter P test (x ∷ xs) h = grind (arith, all-filter P test xs)

  all-retain_map : (P keep : A → Bool) (f : A → A) → ((x : A) → P x ≡ true → P (f x) ≡ true) → (xs : List A) → list_all P xs ≡ true → list_all P (retain_map keep f xs) ≡ true
  all-retain_map P keep f h [] k = refl
  all-retain_map P keep f h (x ∷ xs) k =
      let p = both (P x) (list_all P xs) k in
      chosen (keep x) (h x p.0) (all-retain_map P keep f h xs p.1)
    where
      chosen : (b : Bool) → P (f x) ≡ true → list_all P (retain_map keep f xs) ≡ true → list_all P (cond b (f x ∷ retain_map keep f xs) (retain_map keep f xs)) ≡ true
      chosen true p q = rw (p, q) refl
      chosen false p q = q

-- ---- stages of elements

-- what is seen at the next stage was seen before, or is inserted by it
pub seen-next : (k : ℕ) (e : ListElement) → is_seen_or_next k e ≡ false → seen (suc k) e ≡ false
seen-next k e h = grind (arith, has_occurred_at_stage-next k e.ins, any-more k (e.dels ++ removal_stamp e.removal_stage))

one-stage : (j k : ℕ) (t : Stamp) → k < j → is_of_stage k t ≡ true → is_of_stage j t ≡ false
one-stage j k (Acked s c) l h = refl
one-stage j k (Local i) l h = grind (arith, nat_tests)

not-yet : (j k : ℕ) (t : Stamp) → k < j → is_of_stage j t ≡ true → has_occurred_at_stage k t ≡ false
not-yet j k (Acked s c) l h = (cc)
not-yet j k (Local i) l h = grind (arith, nat_tests)

pub carried-id : (e : ListElement) → id (carried_element e) ≡ id e
carried-id e = either (list_any is_acked e.dels)
  where
    either : (b : Bool) → id (cond b (without_pending e) e) ≡ id e
    either true = refl
    either false = refl

pub unseen-before : (j k : ℕ) (e : ListElement) → k < j → is_inserted_by j e ≡ true → seen k e ≡ false
unseen-before j k e l h = ap (λ b. b && not (list_any (has_occurred_at_stage k) (e.dels ++ removal_stamp e.removal_stage))) (not-yet j k e.ins l h)

-- ---- the stages put in one after another

abbrev pub stage_list : List ListElement → ℕ → List ListElement
stage_list xs zero = retain_map is_sequenced carried_element xs
stage_list xs (suc k) = put_stage xs (stage_list xs k) (suc k)

module _ (xs : List ListElement) where
  -- nothing of a later stage is in the list yet
  pub later-absent : (k j : ℕ) → k < j → list_any (is_inserted_by j) (stage_list xs k) ≡ false
  later-absent zero j l = any-retain_map (is_inserted_by j) is_sequenced carried_element (λ e h. ap (is_of_stage j) (carried_element-ins e) ∙ not_local j e.ins h) xs
  later-absent (suc k) j l =
      any-put (is_inserted_by j) (seen (suc k - 1)) no_run (stage_position (suc k) xs) (filter (is_inserted_by (suc k)) xs) (stage_list xs k)
      (any-filter (is_inserted_by j) (is_inserted_by (suc k)) (λ e h. one-stage j (suc k) e.ins l h) xs) (later-absent k j (omega arith))

  module _ (side : (k : ℕ) → StandSideBySide k xs) (base : filter (seen 0) (stage_list xs 0) ≡ filter (seen 0) xs) where
    next-view : (k : ℕ) → filter (seen k) (stage_list xs k) ≡ filter (seen k) xs → filter (is_seen_or_next k) (stage_list xs (suc k)) ≡ filter (is_seen_or_next k) xs
    next-view k h =
        let block = filter (is_inserted_by (suc k)) xs in
        let p = stage_position (suc k) xs in
        ap (λ i. filter (is_seen_or_next k) (put (seen i) no_run p block (stage_list xs k))) (pred_suc k)
        ∙ filter-put (is_seen_or_next k) (seen k) (λ e q. or_first (seen k e) (is_inserted_by (suc k) e) q) p block (stage_list xs k)
        ∙ ap (λ ys. put (seen k) no_run p ys (filter (is_seen_or_next k) (stage_list xs k)))
        (filter-all (is_seen_or_next k) (is_inserted_by (suc k)) (λ e q. or_second (seen k e) (is_inserted_by (suc k) e) q) xs)
        ∙ ap (put (seen k) no_run p block) (filter-or (seen k) (is_inserted_by (suc k)) (stage_list xs k) (later-absent k (suc k) (omega arith)) ∙ h)
        ∙ sym (side k)
      where
        or_first : (a b : Bool) → a || b ≡ false → a ≡ false
        or_first false b h = refl
        or_first true b h = (cc)

        or_second : (a b : Bool) → b ≡ true → a || b ≡ true
        or_second true b h = refl
        or_second false b h = h

    view : (k : ℕ) → filter (seen k) (stage_list xs k) ≡ filter (seen k) xs
    view zero = base
    view (suc k) =
        sym (filter-twice (seen (suc k)) (is_seen_or_next k) (seen-next k) (stage_list xs (suc k)))
        ∙ ap (filter (seen (suc k))) (next-view k (view k))
        ∙ filter-twice (seen (suc k)) (is_seen_or_next k) (seen-next k) xs

    -- what a later stage inserts isn't seen
    test-later : (test : ListElement → Bool) (k : ℕ) → ((j : ℕ) (e : ListElement) → k < j → is_inserted_by j e ≡ true → test e ≡ false) → (m : ℕ) → k ≤ m
        → filter test (stage_list xs m) ≡ filter test (stage_list xs k)
    test-later test k h zero l = let e : zero ≡ k = omega arith in ap (λ i. filter test (stage_list xs i)) e
    test-later test k h (suc m) l = elim (cases_lt k (suc m)) [
      | inl b ↦
          filter-put-none test (seen (suc m - 1)) (stage_position (suc m) xs) (filter (is_inserted_by (suc m)) xs) (stage_list xs m)
          (any-filter test (is_inserted_by (suc m)) (λ e q. h (suc m) e b q) xs)
          ∙ test-later test k h m (omega arith)
      | inr b ↦ (let e : suc m ≡ k = omega arith in ap (λ i. filter test (stage_list xs i)) e)
    ]

    pub view-rebuilt : (m k : ℕ) → k ≤ m → filter (seen k) (stage_list xs m) ≡ filter (seen k) xs
    view-rebuilt m k l = test-later (seen k) k (λ j e b h. unseen-before j k e b h) m l ∙ view k

    pub next-rebuilt : (m k : ℕ) → k < m → filter (is_seen_or_next k) (stage_list xs m) ≡ filter (is_seen_or_next k) xs
    next-rebuilt m k l =
        test-later (is_seen_or_next k) (suc k) (λ j e b h. unseen j e b h) m (omega arith) ∙ next-view k (view k)
      where
        unseen : (j : ℕ) (e : ListElement) → suc k < j → is_inserted_by j e ≡ true → is_seen_or_next k e ≡ false
        unseen j e b h = rw (unseen-before j k e (omega arith) h) (apart e.ins h)
          where
            apart : (t : Stamp) → is_of_stage j t ≡ true → is_of_stage (suc k) t ≡ false
            apart (Acked s c) h = (cc)
            apart (Local i) h = grind (arith, nat_tests)

  -- what all elements pass, and after the reconnection too, those of the rebuilt list pass
  pub all-rebuilt : (P : ListElement → Bool) → ((e : ListElement) → P e ≡ true → P (carried_element e) ≡ true) → list_all P xs ≡ true → (m : ℕ)
      → list_all P (stage_list xs m) ≡ true
  all-rebuilt P h k zero = all-retain_map P is_sequenced carried_element h xs k
  all-rebuilt P h k (suc m) =
      all-put P (seen (suc m - 1)) no_run (stage_position (suc m) xs) (filter (is_inserted_by (suc m)) xs) (stage_list xs m)
      (all-filter P (is_inserted_by (suc m)) xs k) (all-rebuilt P h k m)

  -- ---- only the pending stages count

  same-until : (j k : ℕ) → j ≤ k → ((i : ℕ) → j < i → i ≤ k → list_any (is_inserted_by i) xs ≡ false) → stage_list xs k ≡ stage_list xs j
  same-until j zero l h = let e : zero ≡ j = omega arith in ap (stage_list xs) e
  same-until j (suc k) l h = elim (cases_lt j (suc k)) [
    | inl b ↦
        ap (λ new. put (seen (suc k - 1)) no_run (stage_position (suc k) xs) new (stage_list xs k)) (filter-none (is_inserted_by (suc k)) xs (h (suc k) b (omega arith)))
        ∙ put-nothing (seen (suc k - 1)) (stage_position (suc k) xs) (stage_list xs k)
        ∙ same-until j k (omega arith) (λ i a c. h i a (omega arith))
    | inr b ↦ (let e : suc k ≡ j = omega arith in ap (stage_list xs) e)
  ]

  put-next : (k : ℕ) → 0 < k → put_stage xs (stage_list xs (k - 1)) k ≡ stage_list xs k
  put-next zero l = absurd (omega arith)
  put-next (suc k) l = ap (λ i. put_stage xs (stage_list xs i) (suc k)) (pred_suc k)

  pub rise-absent : (kind : SubOperation → Bool) (i j m : ℕ) (stages : List Stage) → StagesRiseTo j stages m → i ≤ j → is_stage_of kind stages i ≡ false
  rise-absent kind i j m [] h l = refl
  rise-absent kind i j m (t ∷ stages) h l =
      let b : j < t.stage = h.0 in
      rw (apart t.stage (omega arith)) (rise-absent kind i t.stage m stages h.1 (omega arith))
    where
      apart : (k : ℕ) → i < k → nat_eq k i ≡ false
      apart k b = grind (arith, nat_tests)

  pub rise-below : (j k : ℕ) (stages : List Stage) → StagesRiseTo j stages k → j ≤ k
  rise-below j k [] h = h
  rise-below j k (t ∷ stages) h =
      let b : j < t.stage = h.0 in
      let c : t.stage ≤ k = rise-below t.stage k stages h.1 in
      omega arith

  pub put_stages-all : (inserts : SubOperation → Bool) (stages : List Stage) (j m : ℕ) → StagesRiseTo j stages m
      → ((i : ℕ) → j < i → i ≤ m → is_stage_of inserts stages i ≡ false → list_any (is_inserted_by i) xs ≡ false)
      → put_stages xs (stage_list xs j) (map (λ t. t.stage) stages) ≡ stage_list xs m
  put_stages-all inserts [] j m h absent = sym (same-until j m h (λ i a b. absent i a b refl))
  put_stages-all inserts (t ∷ stages) j m h absent =
      let b : j < t.stage = h.0 in
      let r : t.stage ≤ m = rise-below t.stage m stages h.1 in
      ap (λ ys. put_stages xs (put_stage xs ys t.stage) (map (λ t. t.stage) stages))
      (sym (same-until j (t.stage - 1) (omega arith) (λ i a c. absent i a (omega arith)
      (rw (apart t.stage i (omega arith)) (rise-absent inserts i t.stage m stages h.1 (omega arith))))))
      ∙ ap (λ ys. put_stages xs ys (map (λ t. t.stage) stages)) (put-next t.stage (omega arith))
      ∙ put_stages-all inserts stages t.stage m h.1 (λ i a r c. absent i (omega arith) r (rw (apart' t.stage i a) c))
    where
      apart : (k i : ℕ) → i < k → nat_eq k i ≡ false
      apart k i b = grind (arith, nat_tests)

      apart' : (k i : ℕ) → k < i → nat_eq k i ≡ false
      apart' k i b = grind (arith, nat_tests)
