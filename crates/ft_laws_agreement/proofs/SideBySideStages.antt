-- The elements of each pending insertion stand side by side in the view of the stage before, so that a reconnection changes no
-- view of a stage.
use Rattle.std.proofs.Common.{◌≡◌, ℕ, zero, suc, ◌+◌, ◌-◌, ◌≤◌, ◌<◌, Bool, true, false, cond, not, ◌&&◌, ◌||◌, nat_eq, List, [], ◌∷◌, ◌++◌, Option, Some, None, append-nil, map, filter, refl, sym, ◌∙◌, ap, subst, arith}
use Rattle.std.specs.List.{list_all, list_any}
use Rattle.std.proofs.lemmas.Bool.Decides.{nat_tests}
use Rattle.ft_base.specs.declared.stamps.Stamp.{Stamp}
use Rattle.ft_base.specs.declared.stamps.Stamp.TheVariants.{Acked, Local}
use Rattle.ft_base.proofs.Booleans.{both}
use Rattle.ft_base.proofs.ScanLaws.{put_past-no_run}
use Rattle.ft_base.specs.Scan.{len, no_run, one_more_if, put, rank}
use Rattle.ft_base.specs.Visibility.{has_occurred_at_stage, is_acked, is_of_stage}
use Rattle.ft_props.specs.Properties.{PropertyList}
use Rattle.ft_props.specs.Element.{ElementContent, ListElement, is_sequenced, new_elements, removal_stamp, seen, with_pending_annotation, with_pending_removal, without_pending}
use Rattle.ft_props.specs.Steps.{Sequence, carried_element, is_inserted_by, put_stage, put_stages, rebuilt_list, stage_position}
use Rattle.ft_props.proofs.AcknowledgedInsertion.{element_up_to, expects, list_up_to, removal_up_to, same_nat}
pub use Rattle.ft_laws_agreement.specs.Reconnecting.{is_one_run, runs_on}
use Rattle.ft_laws_agreement.proofs.SlidEnds.{true-false}
use Rattle.ft_laws_agreement.proofs.AgreedStage.{any-ranges}
use Rattle.ft_base.proofs.Booleans.{all_four}
use Rattle.ft_op.specs.Document.{Document}
use Rattle.ft_msg.specs.Reconnection.{rebuilt_document}
use Rattle.ft_laws_agreement.proofs.SentStages.{SentStage, StageStands, cols_edit, rows_edit, text_edit}
use Rattle.ft_laws_agreement.proofs.ToldStages.{AllStand, Holds, Rise, ToldStage, stage_numbers}
use Rattle.ft_laws_agreement.proofs.WithinStages.{is_among, is_numbered, is_within, mark_within, stamp_within}
use Rattle.ft_props.proofs.PlacedInsertion.{is_upto}
use Rattle.ft_props.proofs.RebuiltList.{SideBySide, any-filter, filter-append, filter-twice, pred_suc, stage_list, stage_view-rebuilt, wide}
use Rattle.ft_laws_agreement.proofs.StageEdits.{StageEdit, PutIn, TakenOut, Annotated, IsStanding, after_pending}
use Rattle.ft_laws_agreement.proofs.AcknowledgedDocument.{none-later}
use Rattle.ft_laws_agreement.proofs.Booleans.{never}
use Rattle.ft_laws_agreement.proofs.HoldsAfterOwn.{rise-last}
use Rattle.ft_laws_agreement.proofs.NumberTests.{below-other}

module _ {A : Type 0} (is : A → Bool) where
  pub none-runs_on : (xs : List A) → list_any is xs ≡ false → runs_on is xs ≡ true
  none-runs_on [] h = refl
  none-runs_on (x ∷ xs) h = grind (arith, none-runs_on xs)

  none-one_run : (xs : List A) → list_any is xs ≡ false → is_one_run is xs ≡ true
  none-one_run [] h = refl
  none-one_run (x ∷ xs) h = grind (arith, none-one_run xs)

  block-runs_on : (new xs : List A) → list_all is new ≡ true → list_any is xs ≡ false → runs_on is (new ++ xs) ≡ true
  block-runs_on [] xs h g = none-runs_on xs g
  block-runs_on (y ∷ ys) xs h g = grind (arith, block-runs_on ys xs)

  block-one_run : (new xs : List A) → list_all is new ≡ true → list_any is xs ≡ false → is_one_run is (new ++ xs) ≡ true
  block-one_run [] xs h g = none-one_run xs g
  block-one_run (y ∷ ys) xs h g = grind (arith, block-runs_on ys xs)

  put-one_run : (test : A → Bool) (p : ℕ) (new xs : List A) → list_all is new ≡ true → list_any is xs ≡ false → is_one_run is (put test no_run p new xs) ≡ true
  put-one_run test zero new xs h g = ap (is_one_run is) (put_past-no_run new xs) ∙ block-one_run new xs h g
  put-one_run test (suc p) new [] h g = ap (is_one_run is) (sym (append-nil new)) ∙ block-one_run new [] h refl
  put-one_run test (suc p) new (x ∷ xs) h g = grind (arith, put-one_run test p new xs, put-one_run test (suc p) new xs)

  -- fewer elements
  none-filter : (test : A → Bool) (xs : List A) → list_any is xs ≡ false → list_any is (filter test xs) ≡ false
  none-filter test [] h = refl
  none-filter test (x ∷ xs) h = grind (arith, none-filter test xs)

  filter-runs_on : (test : A → Bool) (xs : List A) → runs_on is xs ≡ true → runs_on is (filter test xs) ≡ true
  filter-runs_on test [] h = refl
  filter-runs_on test (x ∷ xs) h = grind (arith, filter-runs_on test xs, none-filter test xs, none-runs_on (filter test xs))

  filter-one_run : (test : A → Bool) (xs : List A) → is_one_run is xs ≡ true → is_one_run is (filter test xs) ≡ true
  filter-one_run test [] h = refl
  filter-one_run test (x ∷ xs) h = grind (arith, filter-one_run test xs, filter-runs_on test xs, runs_on-one_run (filter test xs))
    where
      runs_on-one_run : (ys : List A) → runs_on is ys ≡ true → is_one_run is ys ≡ true
      runs_on-one_run [] g = refl
      runs_on-one_run (y ∷ ys) g = grind (arith, none-one_run ys)

  -- a run among seen elements is put in after those that stand left of it
  module _ (test : A → Bool) where
    abbrev either_one : A → Bool
    either_one x = cond (is x) (not (test x)) (test x)

    all-seen : (xs : List A) → list_all either_one xs ≡ true → list_any is xs ≡ false → filter test xs ≡ xs
    all-seen [] h g = refl
    all-seen (x ∷ xs) h g = grind (arith, all-seen xs)

    none-is : (xs : List A) → list_any is xs ≡ false → filter is xs ≡ []
    none-is [] h = refl
    none-is (x ∷ xs) h = grind (arith, none-is xs)

    run-split : (xs : List A) → list_all either_one xs ≡ true → runs_on is xs ≡ true → filter is xs ++ filter test xs ≡ xs
    run-split [] h g = refl
    run-split (x ∷ xs) h g = grind (arith, run-split xs, all-seen xs, none-is xs)

    pub one_run-put : (xs : List A) → list_all either_one xs ≡ true → is_one_run is xs ≡ true → put test no_run (rank is test xs) (filter is xs) (filter test xs) ≡ xs
    one_run-put [] h g = refl
    one_run-put (x ∷ xs) h g = grind (arith, one_run-put xs, run-split xs, put_past-no_run (filter is (x ∷ xs)) (filter test xs))

-- marked elements of a list that is mapped
module _ {A B : Type 0} (is : A → Bool) (on : B → Bool) (f : B → A) (same : (x : B) → is (f x) ≡ on x) where
  any-map : (xs : List B) → list_any is (map f xs) ≡ list_any on xs
  any-map [] = refl
  any-map (x ∷ xs) = grind (arith, any-map xs, same x)

  runs_on-map : (xs : List B) → runs_on is (map f xs) ≡ runs_on on xs
  runs_on-map [] = refl
  runs_on-map (x ∷ xs) = grind (arith, runs_on-map xs, any-map xs, same x)

  pub one_run-map : (xs : List B) → is_one_run is (map f xs) ≡ is_one_run on xs
  one_run-map [] = refl
  one_run-map (x ∷ xs) = grind (arith, one_run-map xs, runs_on-map xs, same x)

-- ---- one stage

pub none-counted : {A : Type 0} (is : A → Bool) (xs : List A) → len is xs ≡ 0 → list_any is xs ≡ false
none-counted is [] h = refl
none-counted is (x ∷ xs) h = grind (arith, none-counted is xs)

pub all-new : (k i : ℕ) (props : PropertyList) (items : List ElementContent) → list_all (is_inserted_by k) (new_elements i (Local k) [] None props items) ≡ true
all-new k i props [] = refl
all-new k i props (b ∷ bs) = rw (same_nat k, all-new k (i + 1) props bs) refl

-- the elements of a stage that stands are one run in the list up to it
pub standing-run : (k r c : ℕ) (edit : StageEdit) (xs : List ListElement) → IsStanding k r c edit xs → is_one_run (is_inserted_by (suc k)) (list_up_to (suc k) xs) ≡ true
standing-run k r c (PutIn p props items) xs h =
    ap (is_one_run (is_inserted_by (suc k))) h.made
    ∙ put-one_run (is_inserted_by (suc k)) (expects r c (suc (suc k))) p (new_elements 0 (Local (suc k)) [] None props items) (list_up_to k xs) (all-new (suc k) 0 props items)
    (none-counted (is_inserted_by (suc k)) (list_up_to k xs) (none-later k xs))
standing-run k r c (TakenOut ranges) xs h =
    ap (is_one_run (is_inserted_by (suc k))) h.made
    ∙ none-one_run (is_inserted_by (suc k)) (after_pending r c (suc k) (TakenOut ranges) (list_up_to k xs))
    (any-ranges (is_inserted_by (suc k)) (expects r c (suc (suc k))) (with_pending_removal (suc k)) (λ x. refl) ranges (list_up_to k xs)
    ∙ none-counted (is_inserted_by (suc k)) (list_up_to k xs) (none-later k xs))
standing-run k r c (Annotated ranges changes) xs h =
    ap (is_one_run (is_inserted_by (suc k))) h.made
    ∙ none-one_run (is_inserted_by (suc k)) (after_pending r c (suc k) (Annotated ranges changes) (list_up_to k xs))
    (any-ranges (is_inserted_by (suc k)) (expects r c (suc (suc k))) (with_pending_annotation (suc k) changes) (λ x. refl) ranges (list_up_to k xs)
    ∙ none-counted (is_inserted_by (suc k)) (list_up_to k xs) (none-later k xs))

-- ---- the same in the whole list

later-stamp : (k : ℕ) (t : Stamp) → has_occurred_at_stage (suc k) t ≡ false → (has_occurred_at_stage k t ≡ false) × (is_of_stage (suc k) t ≡ false)
later-stamp k (Acked s c) h = (cc)
later-stamp k (Local j) h = (grind (arith, nat_tests), grind (arith, nat_tests))

wide-reached : (k : ℕ) (e : ListElement) → is_upto (suc k) e ≡ false → wide k e ≡ false
wide-reached k e h =
    let p = later-stamp k e.ins h in
    rw (p.0, p.1) refl

mark-reached : (k : ℕ) (dels : List Stamp) (m : Option ℕ) → list_any (has_occurred_at_stage k) (dels ++ removal_stamp (removal_up_to (suc k) m))
    ≡ list_any (has_occurred_at_stage k) (dels ++ removal_stamp m)
mark-reached k dels None = refl
mark-reached k [] (Some j) = grind (arith, nat_tests)
mark-reached k (t ∷ dels) (Some j) = ap (λ b. has_occurred_at_stage k t || b) (mark-reached k dels (Some j))

wide-same : (k : ℕ) (e : ListElement) → wide k (element_up_to (suc k) e) ≡ wide k e
wide-same k e = ap (λ b. (has_occurred_at_stage k e.ins && not b) || is_of_stage (suc k) e.ins) (mark-reached k e.dels e.removal_stage)

wide-up_to : (k : ℕ) (xs : List ListElement) → filter (wide k) (list_up_to (suc k) xs) ≡ map (element_up_to (suc k)) (filter (wide k) xs)
wide-up_to k [] = refl
wide-up_to k (e ∷ xs) = wide-step (is_upto (suc k) e) refl (wide k e) refl (wide-up_to k xs)
  where
    wide-step : (u : Bool) → is_upto (suc k) e ≡ u → (w : Bool) → wide k e ≡ w → filter (wide k) (list_up_to (suc k) xs) ≡ map (element_up_to (suc k)) (filter (wide k) xs)
        → filter (wide k) (cond u (element_up_to (suc k) e ∷ list_up_to (suc k) xs) (list_up_to (suc k) xs))
        ≡ map (element_up_to (suc k)) (cond w (e ∷ filter (wide k) xs) (filter (wide k) xs))
    wide-step true h true g ih =
        let here : wide k (element_up_to (suc k) e) ≡ true = wide-same k e ∙ g in
        rw here (ap (λ ys. element_up_to (suc k) e ∷ ys) ih)
    wide-step true h false g ih =
        let here : wide k (element_up_to (suc k) e) ≡ false = wide-same k e ∙ g in
        rw here ih
    wide-step false h true g ih = absurd (true-false (sym g ∙ wide-reached k e h))
    wide-step false h false g ih = ih

not-both : (k : ℕ) (t : Stamp) → is_of_stage (suc k) t ≡ true → has_occurred_at_stage k t ≡ false
not-both k (Acked s c) h = (cc)
not-both k (Local j) h = grind (arith, nat_tests)

one-of-both : (k : ℕ) (e : ListElement) → wide k e ≡ true → cond (is_inserted_by (suc k) e) (not (seen k e)) (seen k e) ≡ true
one-of-both k e h = either (is_inserted_by (suc k) e) refl
  where
    unseen : is_inserted_by (suc k) e ≡ true → seen k e ≡ false
    unseen f = ap (λ b. b && not (list_any (has_occurred_at_stage k) (e.dels ++ removal_stamp e.removal_stage))) (not-both k e.ins f)

    or-false : (b : Bool) → b || false ≡ b
    or-false true = refl
    or-false false = refl

    either : (b : Bool) → is_inserted_by (suc k) e ≡ b → cond b (not (seen k e)) (seen k e) ≡ true
    either true f = ap not (unseen f)
    either false f = sym (or-false (seen k e)) ∙ ap (λ b. seen k e || b) (sym f) ∙ h

all-of-both : (k : ℕ) (xs : List ListElement) → list_all (λ e. cond (is_inserted_by (suc k) e) (not (seen k e)) (seen k e)) (filter (wide k) xs) ≡ true
all-of-both k [] = refl
all-of-both k (e ∷ xs) = grind (arith, all-of-both k xs, one-of-both k e)

neither-wide : (k : ℕ) (e : ListElement) → wide k e ≡ false → (seen k e ≡ false) × (is_inserted_by (suc k) e ≡ false)
neither-wide k e h = neither (seen k e) (is_inserted_by (suc k) e) h
  where
    neither : (a b : Bool) → a || b ≡ false → (a ≡ false) × (b ≡ false)
    neither false false g = (refl, refl)
    neither true b g = (cc)
    neither false true g = (cc)

rank-wide : (k : ℕ) (xs : List ListElement) → rank (is_inserted_by (suc k)) (seen k) (filter (wide k) xs) ≡ rank (is_inserted_by (suc k)) (seen k) xs
rank-wide k [] = refl
rank-wide k (e ∷ xs) = rank-step (wide k e) refl (rank-wide k xs)
  where
    rank-step : (w : Bool) → wide k e ≡ w → rank (is_inserted_by (suc k)) (seen k) (filter (wide k) xs) ≡ rank (is_inserted_by (suc k)) (seen k) xs
        → rank (is_inserted_by (suc k)) (seen k) (cond w (e ∷ filter (wide k) xs) (filter (wide k) xs)) ≡ rank (is_inserted_by (suc k)) (seen k) (e ∷ xs)
    rank-step true h ih = ap (λ n. cond (is_inserted_by (suc k) e) 0 (one_more_if (seen k e) n)) ih
    rank-step false h ih =
        let p = neither-wide k e h in
        rw (p.0, p.1) ih

-- they are one run among the elements that the stage before sees
pub wide-run : (k : ℕ) (xs : List ListElement) → is_one_run (is_inserted_by (suc k)) (list_up_to (suc k) xs) ≡ true
    → is_one_run (is_inserted_by (suc k)) (filter (wide k) xs) ≡ true
wide-run k xs h =
    let is = is_inserted_by (suc k) in
    sym (one_run-map is is (element_up_to (suc k)) (λ e. refl) (filter (wide k) xs)) ∙ ap (is_one_run is) (sym (wide-up_to k xs))
    ∙ filter-one_run is (wide k) (list_up_to (suc k) xs) h

pub stage-side_by_side : (k : ℕ) (xs : List ListElement) → is_one_run (is_inserted_by (suc k)) (list_up_to (suc k) xs) ≡ true
    → filter (wide k) xs ≡ put (seen k) no_run (stage_position (suc k) xs) (filter (is_inserted_by (suc k)) xs) (filter (seen k) xs)
stage-side_by_side k xs h =
    let is = is_inserted_by (suc k) in
    sym (one_run-put is (seen k) (filter (wide k) xs) (all-of-both k xs) (wide-run k xs h))
    ∙ ap (λ n. put (seen k) no_run n (filter is (filter (wide k) xs)) (filter (seen k) (filter (wide k) xs))) (rank-wide k xs ∙ ap (λ i. rank is (seen i) xs) (sym (pred_suc k)))
    ∙ ap (λ ys. put (seen k) no_run (stage_position (suc k) xs) ys (filter (seen k) (filter (wide k) xs))) (filter-twice is (wide k) (λ e g. (neither-wide k e g).1) xs)
    ∙ ap (put (seen k) no_run (stage_position (suc k) xs) (filter is xs)) (filter-twice (seen k) (wide k) (λ e g. (neither-wide k e g).0) xs)

-- ---- all stages of a list

pub none-of-stage : (n k : ℕ) (ks : List ℕ) (xs : List ListElement) → is_among ks k ≡ false → list_all (is_within n ks) xs ≡ true → list_any (is_inserted_by k) xs ≡ false
none-of-stage n k ks [] h g = refl
none-of-stage n k ks (e ∷ xs) h g =
    let p = both (is_within n ks e) (list_all (is_within n ks) xs) g in
    rw (
      none-of-stamp e.ins (all_four (stamp_within n ks e.ins) (list_all (is_numbered n) e.dels) (mark_within ks e.removal_stage)
          (list_all (λ q. is_among ks q.0) e.pending) p.0).0,
      none-of-stage n k ks xs h p.1,
    ) refl
  where
    none-of-stamp : (t : Stamp) → stamp_within n ks t ≡ true → is_of_stage k t ≡ false
    none-of-stamp (Acked s c) f = refl
    none-of-stamp (Local j) f = either (nat_eq j k) refl
      where
        same : nat_eq j k ≡ true → j ≡ k
        same e = grind (arith, nat_tests)

        either : (b : Bool) → nat_eq j k ≡ b → b ≡ false
        either true e = absurd (true-false (sym f ∙ ap (is_among ks) (same e) ∙ h))
        either false e = refl

none-up_to-any : (k j : ℕ) (xs : List ListElement) → list_any (is_inserted_by k) xs ≡ false → list_any (is_inserted_by k) (list_up_to j xs) ≡ false
none-up_to-any k j [] h = refl
none-up_to-any k j (e ∷ xs) h = grind (arith, none-up_to-any k j xs)

-- the elements of each stage are one run in the list up to it
abbrev pub AllRuns : List ListElement → Type 0
AllRuns xs = (k : ℕ) → is_one_run (is_inserted_by (suc k)) (list_up_to (suc k) xs) ≡ true

run-absent : (n k : ℕ) (ks : List ℕ) (xs : List ListElement) → is_among ks (suc k) ≡ false → list_all (is_within n ks) xs ≡ true
    → is_one_run (is_inserted_by (suc k)) (list_up_to (suc k) xs) ≡ true
run-absent n k ks xs h g = none-one_run (is_inserted_by (suc k)) (list_up_to (suc k) xs) (none-up_to-any (suc k) (suc k) xs (none-of-stage n (suc k) ks xs h g))

module _ (c : ℕ) (doc : Document) (list : Document → List ListElement) (edit : SentStage → StageEdit)
    (stands : (t : ToldStage) → StageStands t.before t.ref c t.sent t.stage.names doc → IsStanding t.before t.ref c (edit t.sent) (list doc)) where
  run-present : (k : ℕ) (ts : List ToldStage) → AllStand c doc ts → is_among (stage_numbers ts) (suc k) ≡ true
      → is_one_run (is_inserted_by (suc k)) (list_up_to (suc k) (list doc)) ≡ true
  run-present k [] h g = (cc)
  run-present k (t ∷ ts) h g = run-step k t (is_among (stage_numbers ts) (suc k)) (nat_eq (suc k) (suc t.before)) refl g (run-present k ts h.1) h.0
    where
      run-step : (k : ℕ) (t : ToldStage) (there here : Bool) → nat_eq (suc k) (suc t.before) ≡ here → here || there ≡ true
          → (there ≡ true → is_one_run (is_inserted_by (suc k)) (list_up_to (suc k) (list doc)) ≡ true) → StageStands t.before t.ref c t.sent t.stage.names doc
          → is_one_run (is_inserted_by (suc k)) (list_up_to (suc k) (list doc)) ≡ true
      run-step k t there true e f ih s =
          let same : t.before ≡ k = grind (arith, nat_tests) in
          subst (λ i. is_one_run (is_inserted_by (suc i)) (list_up_to (suc i) (list doc)) ≡ true) same (standing-run t.before t.ref c (edit t.sent) (list doc) (stands t s))
      run-step k t there false e f ih s = ih f

  pub all-runs : (n : ℕ) (ts : List ToldStage) → list_all (is_within n (stage_numbers ts)) (list doc) ≡ true → AllStand c doc ts → AllRuns (list doc)
  all-runs n ts w h k = either (is_among (stage_numbers ts) (suc k)) refl
    where
      either : (b : Bool) → is_among (stage_numbers ts) (suc k) ≡ b → is_one_run (is_inserted_by (suc k)) (list_up_to (suc k) (list doc)) ≡ true
      either true e = run-present k ts h e
      either false e = run-absent n k (stage_numbers ts) (list doc) e w

pub side_by_side : (xs : List ListElement) → AllRuns xs → SideBySide xs
side_by_side xs h k = stage-side_by_side k xs (h k)

-- ---- the first view

occurred-acked : (k : ℕ) (t : Stamp) → is_acked t ≡ true → has_occurred_at_stage k t ≡ true
occurred-acked k (Acked s c) h = refl
occurred-acked k (Local j) h = (cc)

removed-acked : (k : ℕ) (dels rest : List Stamp) → list_any is_acked dels ≡ true → list_any (has_occurred_at_stage k) (dels ++ rest) ≡ true
removed-acked k [] rest h = (cc)
removed-acked k (t ∷ dels) rest h = either (is_acked t) refl h (removed-acked k dels rest)
  where
    or-true : (b : Bool) → b || true ≡ true
    or-true true = refl
    or-true false = refl

    either : (b : Bool) → is_acked t ≡ b → b || list_any is_acked dels ≡ true → (list_any is_acked dels ≡ true → list_any (has_occurred_at_stage k) (dels ++ rest) ≡ true)
        → has_occurred_at_stage k t || list_any (has_occurred_at_stage k) (dels ++ rest) ≡ true
    either true e g ih = rw (occurred-acked k t e) refl
    either false e g ih = rw (ih g) (or-true (has_occurred_at_stage k t))

unseen-removed : (k : ℕ) (e : ListElement) → list_any is_acked e.dels ≡ true → seen k e ≡ false
unseen-removed k e h = rw (removed-acked k e.dels (removal_stamp e.removal_stage) h) (never (has_occurred_at_stage k e.ins))

pub carried-seen : (k : ℕ) (e : ListElement) → seen k (carried_element e) ≡ seen k e
carried-seen k e = either (list_any is_acked e.dels) refl
  where
    either : (b : Bool) → list_any is_acked e.dels ≡ b → seen k (cond b (without_pending e) e) ≡ seen k e
    either true h = unseen-removed k (without_pending e) h ∙ sym (unseen-removed k e h)
    either false h = refl

pub carried-same : (k : ℕ) (e : ListElement) → seen k e ≡ true → carried_element e ≡ e
carried-same k e h = either (list_any is_acked e.dels) refl
  where
    either : (b : Bool) → list_any is_acked e.dels ≡ b → cond b (without_pending e) e ≡ e
    either true g = absurd (true-false (sym h ∙ unseen-removed k e g))
    either false g = refl

first-stamp : (n : ℕ) (ks : List ℕ) (t : Stamp) → is_among ks 0 ≡ false → stamp_within n ks t ≡ true → has_occurred_at_stage 0 t ≡ true → is_acked t ≡ true
first-stamp n ks (Acked s c) h w g = refl
first-stamp n ks (Local zero) h w g = absurd (true-false (sym w ∙ h))
first-stamp n ks (Local (suc j)) h w g = absurd (grind (arith, nat_tests))

pub first-view : (n : ℕ) (ks : List ℕ) (xs : List ListElement) → is_among ks 0 ≡ false → list_all (is_within n ks) xs ≡ true
    → filter (seen 0) (stage_list xs 0) ≡ filter (seen 0) xs
first-view n ks [] h w = refl
first-view n ks (e ∷ xs) h w =
    let p = both (is_within n ks e) (list_all (is_within n ks) xs) w in
    let ins = (all_four (stamp_within n ks e.ins) (list_all (is_numbered n) e.dels) (mark_within ks e.removal_stage) (list_all (λ q. is_among ks q.0) e.pending) p.0).0 in
    view-step (is_sequenced e) refl (seen 0 e) refl ins (first-view n ks xs h p.1)
  where
    view-step : (s : Bool) → is_sequenced e ≡ s → (v : Bool) → seen 0 e ≡ v → stamp_within n ks e.ins ≡ true → filter (seen 0) (stage_list xs 0) ≡ filter (seen 0) xs
        → filter (seen 0) (cond s (carried_element e ∷ stage_list xs 0) (stage_list xs 0)) ≡ cond v (e ∷ filter (seen 0) xs) (filter (seen 0) xs)
    view-step true f true g ins ih =
        let here : seen 0 (carried_element e) ≡ true = carried-seen 0 e ∙ g in
        rw (here, carried-same 0 e g) (ap (λ ys. e ∷ ys) ih)
    view-step true f false g ins ih =
        let here : seen 0 (carried_element e) ≡ false = carried-seen 0 e ∙ g in
        rw here ih
    view-step false f true g ins ih =
        let ins-first = (both (has_occurred_at_stage 0 e.ins) (not (list_any (has_occurred_at_stage 0) (e.dels ++ removal_stamp e.removal_stage))) g).0 in
        absurd (true-false (sym (first-stamp n ks e.ins h ins ins-first) ∙ f))
    view-step false f false g ins ih = ih

-- ---- the stages of a list one after another

pub put-nothing : {A : Type 0} (test : A → Bool) (p : ℕ) (xs : List A) → put test no_run p [] xs ≡ xs
put-nothing test zero [] = refl
put-nothing test zero (x ∷ xs) = refl
put-nothing test (suc p) [] = refl
put-nothing test (suc p) (x ∷ xs) = grind (arith, put-nothing test p xs, put-nothing test (suc p) xs)

pub no-stage : (xs : List ListElement) (k : ℕ) → filter (is_inserted_by (suc k)) xs ≡ [] → stage_list xs (suc k) ≡ stage_list xs k
no-stage xs k h = ap (λ new. put (seen (suc k - 1)) no_run (stage_position (suc k) xs) new (stage_list xs k)) h
    ∙ put-nothing (seen (suc k - 1)) (stage_position (suc k) xs) (stage_list xs k)

no-stages : (xs : List ListElement) (d j : ℕ) → ((i : ℕ) → j ≤ i → i < d + j → filter (is_inserted_by (suc i)) xs ≡ []) → stage_list xs (d + j) ≡ stage_list xs j
no-stages xs zero j h = ap (stage_list xs) (omega arith)
no-stages xs (suc d) j h =
    let next : suc d + j ≡ suc (d + j) = omega arith in
    ap (stage_list xs) next ∙ no-stage xs (d + j) (h (d + j) (omega arith) (omega arith)) ∙ no-stages xs d j (λ i l k. h i l (omega arith))

gap : (xs : List ListElement) (j k : ℕ) → j ≤ k → ((i : ℕ) → j ≤ i → i < k → filter (is_inserted_by (suc i)) xs ≡ []) → stage_list xs k ≡ stage_list xs j
gap xs j k l h =
    let split : k ≡ (k - j) + j = omega arith in
    ap (stage_list xs) split ∙ no-stages xs (k - j) j (λ i m n. h i m (omega arith))

pub rise-absent : (i j last : ℕ) (ts : List ToldStage) → i ≤ j → Rise j last ts → is_among (stage_numbers ts) i ≡ false
rise-absent i j last [] l h = refl
rise-absent i j last (t ∷ ts) l h =
    let here : j ≤ t.before = h.0 in
    let below : i < suc t.before = omega arith in
    let next : i ≤ suc t.before = omega arith in
    rw (below-other i (suc t.before) below) (rise-absent i (suc t.before) last ts next h.1)

absent-first : (b i : ℕ) (ks : List ℕ) → i < b → is_among ks (suc i) ≡ false → is_among (suc b ∷ ks) (suc i) ≡ false
absent-first b i ks l h = rw (below-other (suc i) (suc b) (omega arith)) h

above-number : (i j : ℕ) → j < i → nat_eq i j ≡ false
above-number i j l = grind (arith, nat_tests)

absent-later : (b i : ℕ) (ks : List ℕ) → suc b ≤ i → is_among ks (suc i) ≡ false → is_among (suc b ∷ ks) (suc i) ≡ false
absent-later b i ks l h = rw (above-number (suc i) (suc b) (omega arith)) h

-- stages put in one after another are those of the numbers up to the last
pub stages-put : (xs : List ListElement) (j last : ℕ) (ts : List ToldStage) → Rise j last ts
    → ((i : ℕ) → j ≤ i → i < last → is_among (stage_numbers ts) (suc i) ≡ false → filter (is_inserted_by (suc i)) xs ≡ [])
    → put_stages xs (stage_list xs j) (stage_numbers ts) ≡ stage_list xs last
stages-put xs j last [] rise h = sym (gap xs j last rise (λ i l k. h i l k refl))
stages-put xs j last (t ∷ ts) rise h =
    let below : j ≤ t.before = rise.0 in
    let above : suc t.before ≤ last = rise-last (suc t.before) last ts rise.1 in
    let first : stage_list xs t.before ≡ stage_list xs j = gap xs j t.before below
    (λ i l k. h i l (omega arith) (absent-first t.before i (stage_numbers ts) k (rise-absent (suc i) (suc t.before) last ts (omega arith) rise.1))) in
    ap (λ ys. put_stages xs (put_stage xs ys (suc t.before)) (stage_numbers ts)) (sym first)
    ∙ stages-put xs (suc t.before) last ts rise.1 (λ i l k g. h i (omega arith) k (absent-later t.before i (stage_numbers ts) l g))

-- ---- the views

drop-filter : {A : Type 0} (test place : A → Bool) (p : ℕ) (new xs : List A) → list_any test new ≡ false → filter test (put place no_run p new xs) ≡ filter test xs
drop-filter test place zero new xs h = ap (filter test) (put_past-no_run new xs) ∙ filter-append test new xs ∙ ap (λ ys. ys ++ filter test xs) (none-passes new h)
  where
    none-passes : (ys : List _) → list_any test ys ≡ false → filter test ys ≡ []
    none-passes [] g = refl
    none-passes (y ∷ ys) g = grind (arith, none-passes ys)
drop-filter test place (suc p) new [] h = none-passes new h
  where
    none-passes : (ys : List _) → list_any test ys ≡ false → filter test ys ≡ []
    none-passes [] g = refl
    none-passes (y ∷ ys) g = grind (arith, none-passes ys)
drop-filter test place (suc p) new (x ∷ xs) h = grind (arith, drop-filter test place p new xs, drop-filter test place (suc p) new xs)

later-unseen : (k i : ℕ) (e : ListElement) → k ≤ i → is_inserted_by (suc i) e ≡ true → seen k e ≡ false
later-unseen k i e l h = ap (λ b. b && not (list_any (has_occurred_at_stage k) (e.dels ++ removal_stamp e.removal_stage))) (stamp e.ins h)
  where
    stamp : (t : Stamp) → is_of_stage (suc i) t ≡ true → has_occurred_at_stage k t ≡ false
    stamp (Acked s c) g = (cc)
    stamp (Local j) g = grind (arith, nat_tests)

later-views : (xs : List ListElement) (k d : ℕ) → filter (seen k) (stage_list xs (d + k)) ≡ filter (seen k) (stage_list xs k)
later-views xs k zero = ap (λ i. filter (seen k) (stage_list xs i)) (omega arith)
later-views xs k (suc d) =
    let next : suc d + k ≡ suc (d + k) = omega arith in
    ap (λ i. filter (seen k) (stage_list xs i)) next
    ∙ drop-filter (seen k) (seen (suc (d + k) - 1)) (stage_position (suc (d + k)) xs) (filter (is_inserted_by (suc (d + k))) xs) (stage_list xs (d + k))
    (any-filter (seen k) (is_inserted_by (suc (d + k))) (λ e h. later-unseen k (d + k) e (omega arith) h) xs)
    ∙ later-views xs k d

pub none-filtered : (is : ListElement → Bool) (xs : List ListElement) → list_any is xs ≡ false → filter is xs ≡ []
none-filtered is [] h = refl
none-filtered is (e ∷ xs) h = grind (arith, none-filtered is xs)

-- a reconnection leaves the view of each stage of a list as it is
pub list-views : (n k last : ℕ) (ts : List ToldStage) (list : Sequence) → k ≤ last → Rise 0 last ts → list_all (is_within n (stage_numbers ts)) list.items
    ≡ true → AllRuns list.items
    → filter (seen k) (rebuilt_list (stage_numbers ts) list).items ≡ filter (seen k) list.items
list-views n k last ts list l rise w runs =
    let xs = list.items in
    let whole : put_stages xs (stage_list xs 0) (stage_numbers ts) ≡ stage_list xs last =
    stages-put xs 0 last ts rise (λ i m o absent. none-filtered (is_inserted_by (suc i)) xs (none-of-stage n (suc i) (stage_numbers ts) xs absent w)) in
    let split : last ≡ (last - k) + k = omega arith in
    ap (filter (seen k)) (whole ∙ ap (stage_list xs) split)
    ∙ later-views xs k (last - k)
    ∙ stage_view-rebuilt xs (side_by_side xs runs) (first-view n (stage_numbers ts) xs (rise-absent 0 0 last ts (omega arith) rise) w) k

-- and those of a document
pub record SameViews (k : ℕ) (doc after : Document) : Type 0 where
  pub text : filter (seen k) after.text.items ≡ filter (seen k) doc.text.items
  pub rows : filter (seen k) after.rows.items ≡ filter (seen k) doc.rows.items
  pub cols : filter (seen k) after.cols.items ≡ filter (seen k) doc.cols.items

pub document-views : (c m n last k : ℕ) (ts : List ToldStage) (doc : Document) → k ≤ last → Holds c m n last ts doc → SameViews k doc (rebuilt_document (stage_numbers ts) doc)
document-views c m n last k ts doc l h = record {
  text = list-views n k last ts doc.text l h.rising h.text (all-runs c doc (λ d. d.text.items) text_edit (λ t s. s.text) n ts h.text h.stand);
  rows = list-views n k last ts doc.rows l h.rising h.rows (all-runs c doc (λ d. d.rows.items) rows_edit (λ t s. s.rows) n ts h.rows h.stand);
  cols = list-views n k last ts doc.cols l h.rising h.cols (all-runs c doc (λ d. d.cols.items) cols_edit (λ t s. s.cols) n ts h.cols h.stand);
}
