-- What is known of a stage in a rebuilt list: the pieces by which it is sent again make it there, for the new connection.
use Rattle.std.proofs.Common.{◌≡◌, ℕ, zero, suc, ◌+◌, ◌-◌, ◌≤◌, ◌<◌, Bool, true, false, cond, not, ◌&&◌, ◌||◌, nat_le, nat_lt, nat_eq, List, [], ◌∷◌, ◌++◌, Option, Some, None, append-nil, map, filter, refl, sym, ◌∙◌, ap, subst, arith}
use Rattle.std.specs.List.{list_all, list_any}
use Rattle.std.proofs.lemmas.Bool.Decides.{nat_tests}
use Rattle.ft_base.specs.declared.stamps.Stamp.{Stamp}
use Rattle.ft_base.specs.declared.stamps.Stamp.TheVariants.{Acked, Local}
use Rattle.ft_base.proofs.ScanLaws.{put_past-no_run}
use Rattle.std.proofs.lemmas.List.{map-append}
use Rattle.ft_base.proofs.Booleans.{all_four, all_three, both}
use Rattle.std.specs.Option.{option_map}
use Rattle.ft_base.specs.Scan.{at, len, no_run, one_more_if, put, rank, retain_map}
use Rattle.ft_base.specs.Visibility.{has_occurred, has_occurred_at_stage, is_acked, is_of_stage}
use Rattle.ft_props.specs.declared.properties.Changes.{Changes}
use Rattle.ft_props.specs.Properties.{PropertyList}
use Rattle.ft_props.specs.Element.{ElementContent, ListElement, id, is_sequenced, new_elements, removal_stamp, seen, with_pending_annotation, with_pending_removal, without_pending}
use Rattle.ft_props.specs.Steps.{carried_element, extended_runs, is_annotated_by, is_inserted_by, is_removed_by, lowered_runs, marked_runs, marked_runs_from, stage_position}
use Rattle.ft_props.proofs.AcknowledgedInsertion.{below_mark, below_stamp, element_up_to, expects, list_up_to, removal_up_to, same_nat}
use Rattle.ft_props.proofs.PlacedInsertion.{drop-put, is_current, is_upto, mark_upto, stamp_known}
use Rattle.ft_laws_agreement.proofs.OwnEdits.{expected}
use Rattle.ft_laws_agreement.proofs.AcknowledgedDocument.{none-later, standing-count}
use Rattle.ft_laws_agreement.proofs.SideBySideStages.{all-new, no-stage, none-counted, none-filtered}
use Rattle.ft_laws_agreement.proofs.MarkedRuns.{Each, MarkedAs, lowered-mark, ranges-from-first, fit-from-first, runs-mark}
use Rattle.ft_props.proofs.RebuiltList.{any-filter, carried_element-ins, filter-append, pred_suc, stage_list}
use Rattle.ft_laws_agreement.proofs.StageEdits.{StageEdit, PutIn, TakenOut, Annotated, IsStanding, change_ranges, ranges_fit}
use Rattle.ft_op.specs.Same.{same_changes}
use Rattle.ft_op.proofs.SameOperations.{same_changes-Decides}
use Rattle.ft_laws_agreement.proofs.OrderedMarks.{insertion_stage, is_ordered, is_removed_last, is_unremoved_pending, rises_from}
use Rattle.ft_laws_agreement.proofs.WithinStages.{all-put, all-ranges, is_among, is_numbered, is_within, mark_within, stamp_within}
use Rattle.ft_laws_agreement.proofs.Booleans.{hidden, never, or-true}

-- ---- tests that hold of all elements up to a stage

module _ (q : ListElement → Bool) (bare : (e : ListElement) → q e ≡ true → q (without_pending e) ≡ true) where
  carried-passes : (e : ListElement) → q e ≡ true → q (carried_element e) ≡ true
  carried-passes e h = either (list_any is_acked e.dels)
    where
      either : (b : Bool) → q (cond b (without_pending e) e) ≡ true
      either true = bare e h
      either false = h

  abbrev pub passes_up_to : ℕ → ListElement → Bool
  passes_up_to k e = cond (is_upto k e) (q e) true

  up_to-acked : (k : ℕ) (e : ListElement) → is_sequenced e ≡ true → passes_up_to k e ≡ true → q e ≡ true
  up_to-acked k e h g = ap (λ b. cond b (q e) true) (sym (reached e.ins h)) ∙ g
    where
      reached : (t : Stamp) → is_acked t ≡ true → has_occurred_at_stage k t ≡ true
      reached (Acked s c) f = refl
      reached (Local j) f = (cc)

  first-passes : (k : ℕ) (xs : List ListElement) → list_all (passes_up_to k) xs ≡ true → list_all q (retain_map is_sequenced carried_element xs) ≡ true
  first-passes k [] h = refl
  first-passes k (e ∷ xs) h =
      let p = both (passes_up_to k e) (list_all (passes_up_to k) xs) h in
      first-step (is_sequenced e) refl p.0 (first-passes k xs p.1)
    where
      first-step : (b : Bool) → is_sequenced e ≡ b → passes_up_to k e ≡ true → list_all q (retain_map is_sequenced carried_element xs) ≡ true
          → list_all q (cond b (carried_element e ∷ retain_map is_sequenced carried_element xs) (retain_map is_sequenced carried_element xs)) ≡ true
      first-step true f g ih = rw (carried-passes e (up_to-acked k e f g), ih) refl
      first-step false f g ih = ih

  stage-passes : (k j : ℕ) (xs : List ListElement) → j ≤ k → list_all (passes_up_to k) xs ≡ true → list_all q (filter (is_inserted_by j) xs) ≡ true
  stage-passes k j [] l h = refl
  stage-passes k j (e ∷ xs) l h =
      let p = both (passes_up_to k e) (list_all (passes_up_to k) xs) h in
      stage-step (is_inserted_by j e) refl p.0 (stage-passes k j xs l p.1)
    where
      reached : (t : Stamp) → is_of_stage j t ≡ true → has_occurred_at_stage k t ≡ true
      reached (Acked s c) f = refl
      reached (Local i) f = grind (arith, nat_tests)

      stage-step : (b : Bool) → is_inserted_by j e ≡ b → passes_up_to k e ≡ true → list_all q (filter (is_inserted_by j) xs) ≡ true
          → list_all q (cond b (e ∷ filter (is_inserted_by j) xs) (filter (is_inserted_by j) xs)) ≡ true
      stage-step true f g ih =
          let here : q e ≡ true = ap (λ b. cond b (q e) true) (sym (reached e.ins f)) ∙ g in
          rw (here, ih) refl
      stage-step false f g ih = ih

  -- a test that the elements up to stage k pass is passed by those of the rebuilt list
  pub rebuilt-passes : (k j : ℕ) (xs : List ListElement) → j ≤ k → list_all (passes_up_to k) xs ≡ true → list_all q (stage_list xs j) ≡ true
  rebuilt-passes k zero xs l h = first-passes k xs h
  rebuilt-passes k (suc j) xs l h =
      all-put q (seen (suc j - 1)) no_run (stage_position (suc j) xs) (filter (is_inserted_by (suc j)) xs) (stage_list xs j) (stage-passes k (suc j) xs l h)
      (rebuilt-passes k j xs (omega arith) h)

pub lifted : (q : ListElement → Bool) (k : ℕ) → ((e : ListElement) → q (element_up_to k e) ≡ q e) → (xs : List ListElement) → list_all q (list_up_to k xs)
    ≡ true → list_all (λ e. cond (is_upto k e) (q e) true) xs ≡ true
lifted q k same [] h = refl
lifted q k same (e ∷ xs) h = grind (arith, lifted q k same xs, same e)

-- ---- only a removal marks, and only an annotation changes

abbrev pub is_unmarked_by : ℕ → ListElement → Bool
is_unmarked_by k e = not (is_removed_by k e)

abbrev pub is_unchanged_by : ℕ → ListElement → Bool
is_unchanged_by k e = not (is_annotated_by k e)

pub unmarked-same : (k : ℕ) (e : ListElement) → is_unmarked_by k (element_up_to k e) ≡ is_unmarked_by k e
unmarked-same k e = ap not (mark e.removal_stage)
  where
    mark : (m : Option ℕ) → list_any (is_of_stage k) (removal_stamp (removal_up_to k m)) ≡ list_any (is_of_stage k) (removal_stamp m)
    mark None = refl
    mark (Some j) = grind (arith, nat_tests)

pub filtered-same : (k : ℕ) (pending : List (ℕ × Changes)) → list_any (λ p. nat_eq p.0 k) (filter (λ p. nat_le p.0 k) pending) ≡ list_any (λ p. nat_eq p.0 k) pending
filtered-same k [] = refl
filtered-same k (p ∷ pending) = grind (arith, nat_tests, filtered-same k pending)

pub unmarked-below : (k : ℕ) (xs : List ListElement) → list_all (is_unmarked_by (suc k)) (list_up_to k xs) ≡ true
unmarked-below k [] = refl
unmarked-below k (e ∷ xs) = grind (arith, unmarked-below k xs, mark e.removal_stage)
  where
    mark : (m : Option ℕ) → list_any (is_of_stage (suc k)) (removal_stamp (removal_up_to k m)) ≡ false
    mark None = refl
    mark (Some j) = grind (arith, nat_tests)

pub unchanged-below : (k : ℕ) (xs : List ListElement) → list_all (is_unchanged_by (suc k)) (list_up_to k xs) ≡ true
unchanged-below k [] = refl
unchanged-below k (e ∷ xs) = grind (arith, unchanged-below k xs, changes e.pending)
  where
    changes : (pending : List (ℕ × Changes)) → list_any (λ p. nat_eq p.0 (suc k)) (filter (λ p. nat_le p.0 k) pending) ≡ false
    changes [] = refl
    changes (p ∷ pending) = grind (arith, nat_tests, changes pending)

new-unmarked : (k i : ℕ) (props : PropertyList) (items : List ElementContent) → list_all (is_unmarked_by k) (new_elements i (Local k) [] None props items) ≡ true
new-unmarked k i props [] = refl
new-unmarked k i props (b ∷ bs) = new-unmarked k (i + 1) props bs

new-unchanged : (k i : ℕ) (props : PropertyList) (items : List ElementContent) → list_all (is_unchanged_by k) (new_elements i (Local k) [] None props items) ≡ true
new-unchanged k i props [] = refl
new-unchanged k i props (b ∷ bs) = new-unchanged k (i + 1) props bs

-- whether the edit takes elements out, or changes some
abbrev pub is_taking : StageEdit → Bool
is_taking (PutIn p props items) = false
is_taking (TakenOut []) = false
is_taking (TakenOut (range ∷ ranges)) = true
is_taking (Annotated ranges changes) = false

abbrev pub is_changing : StageEdit → Bool
is_changing (PutIn p props items) = false
is_changing (TakenOut ranges) = false
is_changing (Annotated ranges changes) = true

pub unmarked-standing : (k r c : ℕ) (edit : StageEdit) (xs : List ListElement) → is_taking edit ≡ false → IsStanding k r c edit xs
    → list_all (is_unmarked_by (suc k)) (list_up_to (suc k) xs) ≡ true
unmarked-standing k r c (PutIn p props items) xs t h =
    ap (list_all (is_unmarked_by (suc k))) h.made
    ∙ all-put (is_unmarked_by (suc k)) (expects r c (suc (suc k))) no_run p (new_elements 0 (Local (suc k)) [] None props items) (list_up_to k xs)
    (new-unmarked (suc k) 0 props items) (unmarked-below k xs)
unmarked-standing k r c (TakenOut []) xs t h = ap (list_all (is_unmarked_by (suc k))) h.made ∙ unmarked-below k xs
unmarked-standing k r c (TakenOut (range ∷ ranges)) xs t h = (cc)
unmarked-standing k r c (Annotated ranges changes) xs t h =
    ap (list_all (is_unmarked_by (suc k))) h.made
    ∙ all-ranges (is_unmarked_by (suc k)) (expects r c (suc (suc k))) (with_pending_annotation (suc k) changes) (λ e g. g) ranges (list_up_to k xs) (unmarked-below k xs)

pub unchanged-standing : (k r c : ℕ) (edit : StageEdit) (xs : List ListElement) → is_changing edit ≡ false → IsStanding k r c edit xs
    → list_all (is_unchanged_by (suc k)) (list_up_to (suc k) xs) ≡ true
unchanged-standing k r c (PutIn p props items) xs t h =
    ap (list_all (is_unchanged_by (suc k))) h.made
    ∙ all-put (is_unchanged_by (suc k)) (expects r c (suc (suc k))) no_run p (new_elements 0 (Local (suc k)) [] None props items) (list_up_to k xs)
    (new-unchanged (suc k) 0 props items) (unchanged-below k xs)
unchanged-standing k r c (TakenOut ranges) xs t h =
    ap (list_all (is_unchanged_by (suc k))) h.made
    ∙ all-ranges (is_unchanged_by (suc k)) (expects r c (suc (suc k))) (with_pending_removal (suc k)) (λ e g. g) ranges (list_up_to k xs) (unchanged-below k xs)
unchanged-standing k r c (Annotated ranges changes) xs t h = (cc)

-- the changes of the stage are these
abbrev pub has_changes : ℕ → Changes → ListElement → Bool
has_changes k changes e = list_all (λ p. cond (nat_eq p.0 k) (same_changes p.1 changes) true) e.pending

pub has-same : (k : ℕ) (changes : Changes) (pending : List (ℕ × Changes))
    → list_all (λ p. cond (nat_eq p.0 k) (same_changes p.1 changes) true) (filter (λ p. nat_le p.0 k) pending)
    ≡ list_all (λ p. cond (nat_eq p.0 k) (same_changes p.1 changes) true) pending
has-same k changes [] = refl
has-same k changes (p ∷ pending) = grind (arith, nat_tests, has-same k changes pending)

has-below : (k : ℕ) (changes : Changes) (xs : List ListElement) → list_all (has_changes (suc k) changes) (list_up_to k xs) ≡ true
has-below k changes [] = refl
has-below k changes (e ∷ xs) = grind (arith, has-below k changes xs, entries e.pending)
  where
    entries : (pending : List (ℕ × Changes)) → list_all (λ p. cond (nat_eq p.0 (suc k)) (same_changes p.1 changes) true) (filter (λ p. nat_le p.0 k) pending) ≡ true
    entries [] = refl
    entries (p ∷ pending) = grind (arith, nat_tests, entries pending)

all-append : {A : Type 0} (is : A → Bool) (xs : List A) (x : A) → list_all is xs ≡ true → is x ≡ true → list_all is (xs ++ (x ∷ [])) ≡ true
all-append is [] x h g = rw g refl
all-append is (y ∷ xs) x h g = grind (arith, all-append is xs x)

own-changes : (k : ℕ) (changes : Changes) → cond (nat_eq k k) (same_changes changes changes) true ≡ true
own-changes k changes = rw (same_nat k) ((same_changes-Decides changes changes).1 refl)

pub has-standing : (k r c : ℕ) (ranges : List (ℕ × ℕ)) (changes : Changes) (xs : List ListElement) → IsStanding k r c (Annotated ranges changes) xs
    → list_all (has_changes (suc k) changes) (list_up_to (suc k) xs) ≡ true
has-standing k r c ranges changes xs h =
    ap (list_all (has_changes (suc k) changes)) h.made
    ∙ all-ranges (has_changes (suc k) changes) (expects r c (suc (suc k))) (with_pending_annotation (suc k) changes)
    (λ e g. all-append (λ p. cond (nat_eq p.0 (suc k)) (same_changes p.1 changes) true) e.pending (suc k, changes) g (own-changes (suc k) changes)) ranges
    (list_up_to k xs) (has-below k changes xs)

-- ---- the elements of the rebuilt list

abbrev pub is_none : Option ℕ → Bool
is_none None = true
is_none (Some j) = false

abbrev pub is_empty_list : List (ℕ × Changes) → Bool
is_empty_list [] = true
is_empty_list (p ∷ pending) = false

-- nothing is pending on it, or no removal of it is sequenced
abbrev pub is_carried : ListElement → Bool
is_carried e = not (list_any is_acked e.dels) || (is_none e.removal_stage && is_empty_list e.pending)

carried-carried : (e : ListElement) → is_carried (carried_element e) ≡ true
carried-carried e = either (list_any is_acked e.dels) refl
  where
    either : (b : Bool) → list_any is_acked e.dels ≡ b → is_carried (cond b (without_pending e) e) ≡ true
    either true h = or-true (not (list_any is_acked e.dels))
    either false h = rw h refl

first-carried : (xs : List ListElement) → list_all is_carried (retain_map is_sequenced carried_element xs) ≡ true
first-carried [] = refl
first-carried (e ∷ xs) = grind (arith, first-carried xs, carried-carried e)

pending-carried : (j : ℕ) (e : ListElement) → is_inserted_by j e ≡ true → is_ordered e ≡ true → is_carried e ≡ true
pending-carried j e h o =
    let p = all_three (rises_from (insertion_stage e.ins) e.pending) (is_removed_last e.removal_stage e.pending) (is_unremoved_pending e.ins e.dels e.removal_stage) o in
    unremoved e.ins e.dels h p.2
  where
    unremoved : (t : Stamp) (dels : List Stamp) → is_of_stage j t ≡ true → is_unremoved_pending t dels e.removal_stage ≡ true → not (list_any is_acked dels)
        || (is_none e.removal_stage && is_empty_list e.pending) ≡ true
    unremoved (Acked s c) dels f g = (cc)
    unremoved (Local i) [] f g = refl
    unremoved (Local i) (d ∷ dels) f g = (cc)

stage-carried : (j : ℕ) (xs : List ListElement) → list_all is_ordered xs ≡ true → list_all is_carried (filter (is_inserted_by j) xs) ≡ true
stage-carried j [] h = refl
stage-carried j (e ∷ xs) h = grind (arith, stage-carried j xs, pending-carried j e)

rebuilt-carried : (j : ℕ) (xs : List ListElement) → list_all is_ordered xs ≡ true → list_all is_carried (stage_list xs j) ≡ true
rebuilt-carried zero xs h = first-carried xs
rebuilt-carried (suc j) xs h =
    all-put is_carried (seen (suc j - 1)) no_run (stage_position (suc j) xs) (filter (is_inserted_by (suc j)) xs) (stage_list xs j)
    (stage-carried (suc j) xs h) (rebuilt-carried j xs h)

first-reached : (xs : List ListElement) → list_all (is_upto 0) (retain_map is_sequenced carried_element xs) ≡ true
first-reached [] = refl
first-reached (e ∷ xs) = grind (arith, first-reached xs, reached e)
  where
    stamp : (t : Stamp) → is_acked t ≡ true → has_occurred_at_stage 0 t ≡ true
    stamp (Acked s c) h = refl
    stamp (Local j) h = (cc)

    reached : (e : ListElement) → is_sequenced e ≡ true → is_upto 0 (carried_element e) ≡ true
    reached e h = ap (has_occurred_at_stage 0) (carried_element-ins e) ∙ stamp e.ins h

own-reached : (j : ℕ) (xs : List ListElement) → list_all (is_upto j) (filter (is_inserted_by j) xs) ≡ true
own-reached j [] = refl
own-reached j (e ∷ xs) = grind (arith, own-reached j xs, stamp e.ins)
  where
    stamp : (t : Stamp) → is_of_stage j t ≡ true → has_occurred_at_stage j t ≡ true
    stamp (Acked s c) h = refl
    stamp (Local i) h = grind (arith, nat_tests)

more-reached : (j : ℕ) (xs : List ListElement) → list_all (is_upto j) xs ≡ true → list_all (is_upto (suc j)) xs ≡ true
more-reached j [] h = refl
more-reached j (e ∷ xs) h = grind (arith, more-reached j xs, stamp e.ins)
  where
    stamp : (t : Stamp) → has_occurred_at_stage j t ≡ true → has_occurred_at_stage (suc j) t ≡ true
    stamp (Acked s c) g = refl
    stamp (Local i) g = grind (arith, nat_tests)

pub rebuilt-reached : (j : ℕ) (xs : List ListElement) → list_all (is_upto j) (stage_list xs j) ≡ true
rebuilt-reached zero xs = first-reached xs
rebuilt-reached (suc j) xs =
    all-put (is_upto (suc j)) (seen (suc j - 1)) no_run (stage_position (suc j) xs) (filter (is_inserted_by (suc j)) xs) (stage_list xs j)
    (own-reached (suc j) xs) (more-reached j (stage_list xs j) (rebuilt-reached j xs))

-- the numbers and stages, and the order
abbrev pub is_kept : ℕ → List ℕ → ListElement → Bool
is_kept n ks e = is_within n ks e && is_ordered e

unmarked-pending : (t : Stamp) (dels : List Stamp) (m : Option ℕ) → is_unremoved_pending t dels m ≡ true → is_unremoved_pending t dels None ≡ true
unmarked-pending (Acked s c) dels m h = refl
unmarked-pending (Local j) [] m h = refl
unmarked-pending (Local j) (t ∷ dels) m h = (cc)

kept-bare : (n : ℕ) (ks : List ℕ) (e : ListElement) → is_kept n ks e ≡ true → is_kept n ks (without_pending e) ≡ true
kept-bare n ks e h =
    let p = both (is_within n ks e) (is_ordered e) h in
    let w = all_four (stamp_within n ks e.ins) (list_all (is_numbered n) e.dels) (mark_within ks e.removal_stage) (list_all (λ q. is_among ks q.0) e.pending) p.0 in
    let o = all_three (rises_from (insertion_stage e.ins) e.pending) (is_removed_last e.removal_stage e.pending) (is_unremoved_pending e.ins e.dels e.removal_stage) p.1 in
    rw (w.0, w.1, unmarked-pending e.ins e.dels e.removal_stage o.2) refl

all-passes : (q : ListElement → Bool) (k : ℕ) (xs : List ListElement) → list_all q xs ≡ true → list_all (λ e. cond (is_upto k e) (q e) true) xs ≡ true
all-passes q k [] h = refl
all-passes q k (e ∷ xs) h = grind (arith, all-passes q k xs)

pub rebuilt-kept : (n j : ℕ) (ks : List ℕ) (xs : List ListElement) → list_all (is_kept n ks) xs ≡ true → list_all (is_kept n ks) (stage_list xs j) ≡ true
rebuilt-kept n j ks xs h = rebuilt-passes (is_kept n ks) (kept-bare n ks) j j xs (omega arith) (all-passes (is_kept n ks) j xs h)

-- ---- one element

no-dels : (n : ℕ) (dels : List Stamp) → list_all (is_numbered n) dels ≡ true → list_any is_acked dels ≡ false → dels ≡ []
no-dels n [] h g = refl
no-dels n (Acked s c ∷ dels) h g = (cc)
no-dels n (Local j ∷ dels) h g = (cc)

not-bare : (a b : Bool) → not a || b ≡ true → b ≡ false → a ≡ false
not-bare true true h g = (cc)
not-bare true false h g = (cc)
not-bare false b h g = refl

-- what is known of an element of the rebuilt list up to stage k
pub record Known (n k : ℕ) (ks : List ℕ) (e : ListElement) : Type 0 where
  pub reached : is_upto k e ≡ true
  pub kept : is_kept n ks e ≡ true
  pub carried : is_carried e ≡ true

module _ (n k : ℕ) (ks : List ℕ) (e : ListElement) (known : Known n k ks e) where
  within-parts : (stamp_within n ks e.ins ≡ true) × (list_all (is_numbered n) e.dels ≡ true) × (mark_within ks e.removal_stage ≡ true)
      × (list_all (λ q. is_among ks q.0) e.pending ≡ true)
  within-parts = all_four (stamp_within n ks e.ins) (list_all (is_numbered n) e.dels) (mark_within ks e.removal_stage)
      (list_all (λ q. is_among ks q.0) e.pending) (both (is_within n ks e) (is_ordered e) known.kept).0

  ordered-parts : (rises_from (insertion_stage e.ins) e.pending ≡ true) × (is_removed_last e.removal_stage e.pending ≡ true)
      × (is_unremoved_pending e.ins e.dels e.removal_stage ≡ true)
  ordered-parts = all_three (rises_from (insertion_stage e.ins) e.pending) (is_removed_last e.removal_stage e.pending)
      (is_unremoved_pending e.ins e.dels e.removal_stage) (both (is_within n ks e) (is_ordered e) known.kept).1

  unbare-dels : is_none e.removal_stage && is_empty_list e.pending ≡ false → e.dels ≡ []
  unbare-dels h = no-dels n e.dels within-parts.1 (not-bare (list_any is_acked e.dels) (is_none e.removal_stage && is_empty_list e.pending) known.carried h)

  later-mark : (m : Option ℕ) → list_any (has_occurred_at_stage k) (removal_stamp m) ≡ false → e.removal_stage ≡ m → e.dels ≡ [] → seen k e ≡ true
  later-mark m h f g = rw (known.reached, g, f, h) refl

  -- what its stage marks is seen before
  marked-seen : is_removed_by (suc k) e ≡ true → (e.removal_stage ≡ Some (suc k)) × (seen k e ≡ true)
  marked-seen h = mark e.removal_stage refl h
    where
      none : (j : ℕ) → e.removal_stage ≡ Some j → is_none e.removal_stage && is_empty_list e.pending ≡ false
      none j f = ap (λ m. is_none m && is_empty_list e.pending) f

      mark : (m : Option ℕ) → e.removal_stage ≡ m → list_any (is_of_stage (suc k)) (removal_stamp m) ≡ true → (e.removal_stage ≡ Some (suc k)) × (seen k e ≡ true)
      mark None f g = (cc)
      mark (Some j) f g =
          let same : j ≡ suc k = grind (arith, nat_tests) in
          let later : list_any (has_occurred_at_stage k) (removal_stamp (Some j)) ≡ false = grind (arith, nat_tests) in
          (f ∙ ap Some same, later-mark (Some j) later f (unbare-dels (none j f)))

  annotated-nonempty : (pending : List (ℕ × Changes)) → list_any (λ p. nat_eq p.0 (suc k)) pending ≡ true → is_empty_list pending ≡ false
  annotated-nonempty [] h = (cc)
  annotated-nonempty (p ∷ pending) h = refl

  before-removal : (j : ℕ) (pending : List (ℕ × Changes)) → list_all (λ p. nat_lt p.0 j) pending ≡ true → list_any (λ p. nat_eq p.0 (suc k)) pending ≡ true → nat_le j k ≡ false
  before-removal j [] h g = (cc)
  before-removal j (p ∷ pending) h g = grind (arith, nat_tests, before-removal j pending)

  changed-seen : is_annotated_by (suc k) e ≡ true → seen k e ≡ true
  changed-seen h =
      let some : is_none e.removal_stage && is_empty_list e.pending ≡ false = ap (λ b. is_none e.removal_stage && b) (annotated-nonempty e.pending h)
      ∙ never (is_none e.removal_stage) in
      removal e.removal_stage refl (unbare-dels some)
    where
      removal : (m : Option ℕ) → e.removal_stage ≡ m → e.dels ≡ [] → seen k e ≡ true
      removal None f g = later-mark None refl f g
      removal (Some j) f g =
          let last : list_all (λ p. nat_lt p.0 j) e.pending ≡ true = ap (λ m. is_removed_last m e.pending) (sym f) ∙ ordered-parts.1 in
          let later : list_any (has_occurred_at_stage k) (removal_stamp (Some j)) ≡ false = rw (before-removal j e.pending last h) refl in
          later-mark (Some j) later f g

  -- ---- up to a stage and the one before

  known-dels : (c : ℕ) (dels : List Stamp) → list_all (is_numbered n) dels ≡ true → list_all (has_occurred n c) dels ≡ true
  known-dels c [] h = refl
  known-dels c (Acked s d ∷ dels) h =
      let p = both (nat_le s n) (list_all (is_numbered n) dels) h in
      rw (p.0, known-dels c dels p.1) refl
  known-dels c (Local j ∷ dels) h = (cc)

  known-ins : (c : ℕ) (t : Stamp) → stamp_within n ks t ≡ true → has_occurred_at_stage k t ≡ true → stamp_known n c k t ≡ true
  known-ins c (Acked s d) h g = rw h refl
  known-ins c (Local j) h g = g

  mark-reached : (m : Option ℕ) → mark_upto k (removal_up_to k m) ≡ true
  mark-reached None = refl
  mark-reached (Some j) = grind (arith, nat_tests)

  changes-reached : (pending : List (ℕ × Changes)) → list_all (λ q. nat_le q.0 k) (filter (λ q. nat_le q.0 k) pending) ≡ true
  changes-reached [] = refl
  changes-reached (p ∷ pending) = grind (arith, changes-reached pending)

  current-reached : (c : ℕ) → is_current n c k (element_up_to k e) ≡ true
  current-reached c = rw (known-ins c e.ins within-parts.0 known.reached, known-dels c e.dels within-parts.1, mark-reached e.removal_stage, changes-reached e.pending) refl

  removed-same : (dels : List Stamp) (m : Option ℕ) → list_any (has_occurred_at_stage k) (dels ++ removal_stamp (removal_up_to k m))
      ≡ list_any (has_occurred_at_stage k) (dels ++ removal_stamp m)
  removed-same dels None = refl
  removed-same [] (Some j) = grind (arith, nat_tests)
  removed-same (t ∷ dels) (Some j) = ap (λ b. has_occurred_at_stage k t || b) (removed-same dels (Some j))

  -- the message will see what the stage before sees
  expected-seen : (c : ℕ) → expects n c (suc (suc k)) (element_up_to k e) ≡ seen k e
  expected-seen c = expected n c k (element_up_to k e) (current-reached c) ∙ ap (λ b. has_occurred_at_stage k e.ins && not b) (removed-same e.dels e.removal_stage)

  mark-next : (m : Option ℕ) → list_any (is_of_stage (suc k)) (removal_stamp m) ≡ false → removal_up_to (suc k) m ≡ removal_up_to k m
  mark-next None h = refl
  mark-next (Some j) h = grind (arith, nat_tests)

  changes-next : (pending : List (ℕ × Changes)) → list_any (λ p. nat_eq p.0 (suc k)) pending ≡ false → filter (λ p. nat_le p.0 (suc k)) pending ≡ filter (λ p. nat_le p.0 k) pending
  changes-next [] h = refl
  changes-next (p ∷ pending) h = grind (arith, nat_tests, changes-next pending)

  not-true : (b : Bool) → not b ≡ true → b ≡ false
  not-true true h = (cc)
  not-true false h = refl

  -- an element that the stage leaves as it is
  left-alone : is_removed_by (suc k) e ≡ false → is_annotated_by (suc k) e ≡ false → element_up_to (suc k) e ≡ element_up_to k e
  left-alone h g = rw (mark-next e.removal_stage h, changes-next e.pending g) refl

  own-mark : removal_up_to (suc k) (Some (suc k)) ≡ Some (suc k)
  own-mark = grind (arith, nat_tests)

  removed-up_to : e.removal_stage ≡ Some (suc k) → is_annotated_by (suc k) e ≡ false → element_up_to (suc k) e ≡ with_pending_removal (suc k) (element_up_to k e)
  removed-up_to h g = rw (h, own-mark, changes-next e.pending g) refl

  above-none : (i : ℕ) (pending : List (ℕ × Changes)) → suc k ≤ i → rises_from i pending ≡ true → (filter (λ p. nat_le p.0 (suc k)) pending ≡ [])
      × (filter (λ p. nat_le p.0 k) pending ≡ [])
  above-none i [] l h = (refl, refl)
  above-none i (p ∷ pending) l h =
      let q = both (nat_lt i p.0) (rises_from p.0 pending) h in
      let above : suc k < p.0 = grind (arith, nat_tests) in
      let rest = above-none p.0 pending (omega arith) q.1 in
      let off : nat_le p.0 (suc k) ≡ false = grind (arith, nat_tests) in
      let off' : nat_le p.0 k ≡ false = grind (arith, nat_tests) in
      (rw off rest.0, rw off' rest.1)

  changes-added : (i : ℕ) (changes : Changes) (pending : List (ℕ × Changes)) → rises_from i pending ≡ true → list_any (λ p. nat_eq p.0 (suc k)) pending ≡ true
      → list_all (λ p. cond (nat_eq p.0 (suc k)) (same_changes p.1 changes) true) pending ≡ true
      → filter (λ p. nat_le p.0 (suc k)) pending ≡ filter (λ p. nat_le p.0 k) pending ++ ((suc k, changes) ∷ [])
  changes-added i changes [] h g a = (cc)
  changes-added i changes ((j, other) ∷ pending) h g a =
      let rest = (both (nat_lt i j) (rises_from j pending) h).1 in
      added-step (nat_eq j (suc k)) refl g a rest (λ f q. changes-added j changes pending rest f q)
    where
      later-step : (w : Bool) → filter (λ p. nat_le p.0 (suc k)) pending ≡ filter (λ p. nat_le p.0 k) pending ++ ((suc k, changes) ∷ [])
          → cond w ((j, other) ∷ filter (λ p. nat_le p.0 (suc k)) pending) (filter (λ p. nat_le p.0 (suc k)) pending)
          ≡ cond w ((j, other) ∷ filter (λ p. nat_le p.0 k) pending) (filter (λ p. nat_le p.0 k) pending) ++ ((suc k, changes) ∷ [])
      later-step true m = ap (λ ps. (j, other) ∷ ps) m
      later-step false m = m

      added-step : (b : Bool) → nat_eq j (suc k) ≡ b → b || list_any (λ p. nat_eq p.0 (suc k)) pending ≡ true → cond b (same_changes other changes) true
          && list_all (λ p. cond (nat_eq p.0 (suc k)) (same_changes p.1 changes) true) pending ≡ true
          → rises_from j pending ≡ true
          → (list_any (λ p. nat_eq p.0 (suc k)) pending ≡ true → list_all (λ p. cond (nat_eq p.0 (suc k)) (same_changes p.1 changes) true) pending ≡ true
          → filter (λ p. nat_le p.0 (suc k)) pending ≡ filter (λ p. nat_le p.0 k) pending ++ ((suc k, changes) ∷ []))
          → filter (λ p. nat_le p.0 (suc k)) ((j, other) ∷ pending) ≡ filter (λ p. nat_le p.0 k) ((j, other) ∷ pending) ++ ((suc k, changes) ∷ [])
      added-step true e f q r ih =
          let same : j ≡ suc k = grind (arith, nat_tests) in
          let value : other ≡ changes = (same_changes-Decides other changes).0 (both (same_changes other changes)
          (list_all (λ p. cond (nat_eq p.0 (suc k)) (same_changes p.1 changes) true) pending) q).0 in
          let none = above-none j pending (omega arith) r in
          let on : nat_le j (suc k) ≡ true = grind (arith, nat_tests) in
          let off : nat_le j k ≡ false = grind (arith, nat_tests) in
          rw (on, off, none.0, none.1) (ap (λ i. (i, other) ∷ []) same ∙ ap (λ c. (suc k, c) ∷ []) value)
      added-step false e f q r ih =
          let same : nat_le j (suc k) ≡ nat_le j k = grind (arith, nat_tests) in
          rw same (later-step (nat_le j k) (ih f q))

  annotated-up_to : (changes : Changes) → is_removed_by (suc k) e ≡ false → is_annotated_by (suc k) e ≡ true → has_changes (suc k) changes e ≡ true
      → element_up_to (suc k) e ≡ with_pending_annotation (suc k) changes (element_up_to k e)
  annotated-up_to changes h g a = rw (mark-next e.removal_stage h, changes-added (insertion_stage e.ins) changes e.pending ordered-parts.0 g a) refl

  -- ---- before and after the stage

  gone-seen : (c : ℕ) → expects n c (suc (suc k)) (with_pending_removal (suc k) (element_up_to k e)) ≡ false
  gone-seen c = ap (λ b. (has_occurred n c e.ins || below_stamp (suc (suc k)) e.ins) && not (list_any (has_occurred n c) e.dels || b)) own-below ∙ all-false
    where
      own-below : below_mark (suc (suc k)) (Some (suc k)) ≡ true
      own-below = grind (arith, nat_tests)

      all-false : (has_occurred n c e.ins || below_stamp (suc (suc k)) e.ins) && not (list_any (has_occurred n c) e.dels || true) ≡ false
      all-false = ap (λ b. (has_occurred n c e.ins || below_stamp (suc (suc k)) e.ins) && not b) (or-true (list_any (has_occurred n c) e.dels))
          ∙ never (has_occurred n c e.ins || below_stamp (suc (suc k)) e.ins)

  pub removal-marked : (c : ℕ) → is_unchanged_by (suc k) e ≡ true
      → MarkedAs (expects n c (suc (suc k))) (with_pending_removal (suc k)) (element_up_to k) (element_up_to (suc k)) (seen k) (is_removed_by (suc k)) false e
  removal-marked c u = record {
    same = expected-seen c;
    marked = λ h.
        let p = marked-seen h in
        let made = removed-up_to p.0 (not-true (is_annotated_by (suc k) e) u) in
        (p.1, made, ap (expects n c (suc (suc k))) made ∙ gone-seen c);
    unmarked = λ h. left-alone h (not-true (is_annotated_by (suc k) e) u);
  }

  pub annotation-marked : (c : ℕ) (changes : Changes) → is_unmarked_by (suc k) e ≡ true → has_changes (suc k) changes e ≡ true
      → MarkedAs (expects n c (suc (suc k))) (with_pending_annotation (suc k) changes) (element_up_to k) (element_up_to (suc k)) (seen k) (is_annotated_by (suc k)) true e
  annotation-marked c changes u a = record {
    same = expected-seen c;
    marked = λ h.
        let made = annotated-up_to changes (not-true (is_removed_by (suc k) e) u) h a in
        let view = changed-seen h in
        (view, made, ap (expects n c (suc (suc k))) made ∙ expected-seen c ∙ view);
    unmarked = λ h. left-alone (not-true (is_removed_by (suc k) e) u) h;
  }

-- ---- the list up to a stage

all-reached : (j : ℕ) (zs : List ListElement) → list_all (is_upto j) zs ≡ true → list_up_to j zs ≡ map (element_up_to j) zs
all-reached j [] h = refl
all-reached j (e ∷ zs) h =
    let p = both (is_upto j e) (list_all (is_upto j) zs) h in
    rw (p.0, all-reached j zs p.1) refl

later-stage : (j i : ℕ) (e : ListElement) → j < i → is_inserted_by i e ≡ true → is_upto j e ≡ false
later-stage j i e l h = stamp e.ins h
  where
    stamp : (t : Stamp) → is_of_stage i t ≡ true → has_occurred_at_stage j t ≡ false
    stamp (Acked s c) g = (cc)
    stamp (Local m) g = grind (arith, nat_tests)

later-dropped : (xs : List ListElement) (j d : ℕ) → list_up_to j (stage_list xs (d + j)) ≡ list_up_to j (stage_list xs j)
later-dropped xs j zero = ap (λ i. list_up_to j (stage_list xs i)) (omega arith)
later-dropped xs j (suc d) =
    let next : suc d + j ≡ suc (d + j) = omega arith in
    ap (λ i. list_up_to j (stage_list xs i)) next
    ∙ drop-put (is_upto j) (seen (suc (d + j) - 1)) (element_up_to j) (stage_position (suc (d + j)) xs) (filter (is_inserted_by (suc (d + j))) xs) (stage_list xs (d + j))
    (any-filter (is_upto j) (is_inserted_by (suc (d + j))) (λ e h. later-stage j (suc (d + j)) e (omega arith) h) xs)
    ∙ later-dropped xs j d

up_to-rebuilt : (xs : List ListElement) (j last : ℕ) → j ≤ last → list_up_to j (stage_list xs last) ≡ map (element_up_to j) (stage_list xs j)
up_to-rebuilt xs j last l =
    let split : last ≡ (last - j) + j = omega arith in
    ap (λ i. list_up_to j (stage_list xs i)) split ∙ later-dropped xs j (last - j) ∙ all-reached j (stage_list xs j) (rebuilt-reached j xs)

-- the runs are those of the view
runs-view : (seen is : ListElement → Bool) (i : ℕ) (xs : List ListElement) → marked_runs_from i seen is xs ≡ marked_runs_from i seen is (filter seen xs)
runs-view seen is i [] = refl
runs-view seen is i (e ∷ xs) = view-step (seen e) refl (runs-view seen is i xs) (runs-view seen is (suc i) xs)
  where
    view-step : (s : Bool) → seen e ≡ s → marked_runs_from i seen is xs ≡ marked_runs_from i seen is (filter seen xs) → marked_runs_from (suc i) seen is xs
        ≡ marked_runs_from (suc i) seen is (filter seen xs)
        → cond (s && is e) (extended_runs i (marked_runs_from (one_more_if s i) seen is xs)) (marked_runs_from (one_more_if s i) seen is xs)
        ≡ marked_runs_from i seen is (cond s (e ∷ filter seen xs) (filter seen xs))
    view-step true h f g = ap (λ rs. cond (is e) (extended_runs i rs) rs) g ∙ sym (rw h refl)
    view-step false h f g = f

each-of : (P : ListElement → Type 0) (a b c d f : ListElement → Bool) → ((e : ListElement) → a e ≡ true → b e ≡ true → c e ≡ true → d e ≡ true → f e ≡ true → P e)
    → (zs : List ListElement) → list_all a zs ≡ true → list_all b zs ≡ true → list_all c zs ≡ true → list_all d zs ≡ true → list_all f zs ≡ true → Each P zs
each-of P a b c d f k [] g h i j l = tt
each-of P a b c d f k (e ∷ zs) g h i j l =
    let p = both (a e) (list_all a zs) g in
    let q = both (b e) (list_all b zs) h in
    let r = both (c e) (list_all c zs) i in
    let s = both (d e) (list_all d zs) j in
    let t = both (f e) (list_all f zs) l in
    (k e p.0 q.0 r.0 s.0 t.0, each-of P a b c d f k zs p.1 q.1 r.1 s.1 t.1)

-- ---- the edit of a stage as it is sent again

abbrev pub sent_again : ℕ → List ListElement → StageEdit → StageEdit
sent_again k xs (PutIn p props items) = PutIn (stage_position (suc k) xs) props items
sent_again k xs (TakenOut ranges) = TakenOut (lowered_runs 0 (marked_runs (suc k) (is_removed_by (suc k)) xs))
sent_again k xs (Annotated ranges changes) = Annotated (marked_runs (suc k) (is_annotated_by (suc k)) xs) changes

-- ---- the elements of an insertion

all-filtered : (is : ListElement → Bool) (ys : List ListElement) → list_all is ys ≡ true → filter is ys ≡ ys
all-filtered is [] h = refl
all-filtered is (y ∷ ys) h = grind (arith, all-filtered is ys)

pub block-filter : (is test : ListElement → Bool) (p : ℕ) (new xs : List ListElement) → list_all is new ≡ true → list_any is xs ≡ false → filter is (put test no_run p new xs) ≡ new
block-filter is test zero new xs h g =
    ap (filter is) (put_past-no_run new xs) ∙ filter-append is new xs ∙ ap (λ ys. filter is new ++ ys) (none-filtered is xs g) ∙ append-nil (filter is new) ∙ all-filtered is new h
block-filter is test (suc p) new [] h g = all-filtered is new h
block-filter is test (suc p) new (e ∷ xs) h g = grind (arith, block-filter is test p new xs, block-filter is test (suc p) new xs)

stage-reached : (k : ℕ) (t : Stamp) → is_of_stage k t ≡ true → has_occurred_at_stage k t ≡ true
stage-reached k (Acked s d) h = (cc)
stage-reached k (Local j) h = grind (arith, nat_tests)

pub block-up_to : (k : ℕ) (xs : List ListElement) → filter (is_inserted_by k) (list_up_to k xs) ≡ map (element_up_to k) (filter (is_inserted_by k) xs)
block-up_to k [] = refl
block-up_to k (e ∷ xs) = grind (arith, block-up_to k xs, stage-reached k e.ins)

module _ (n c k last : ℕ) (ks : List ℕ) (xs : List ListElement) (below : k < last) (kept : list_all (is_kept n ks) xs ≡ true)
    (view : filter (seen k) (stage_list xs k) ≡ filter (seen k) xs) where
  ordered-all : (zs : List ListElement) → list_all (is_kept n ks) zs ≡ true → list_all is_ordered zs ≡ true
  ordered-all [] h = refl
  ordered-all (e ∷ zs) h =
      let p = both (is_kept n ks e) (list_all (is_kept n ks) zs) h in
      rw ((both (is_within n ks e) (is_ordered e) p.0).1, ordered-all zs p.1) refl

  again-runs : (is : ListElement → Bool) → marked_runs (suc k) is xs ≡ marked_runs_from 0 (seen k) is (stage_list xs k)
  again-runs is =
      ap (λ i. marked_runs_from 0 (seen i) is xs) (pred_suc k) ∙ runs-view (seen k) is 0 xs ∙ ap (marked_runs_from 0 (seen k) is) (sym view)
      ∙ sym (runs-view (seen k) is 0 (stage_list xs k))

  lower : list_up_to k (stage_list xs last) ≡ map (element_up_to k) (stage_list xs k)
  lower = up_to-rebuilt xs k last (omega arith)

  no-block : filter (is_inserted_by (suc k)) xs ≡ [] → list_up_to (suc k) (stage_list xs last) ≡ map (element_up_to (suc k)) (stage_list xs k)
  no-block h = up_to-rebuilt xs (suc k) last (omega arith) ∙ ap (map (element_up_to (suc k))) (no-stage xs k h)

  pub removal-again : (r d : ℕ) (ranges : List (ℕ × ℕ)) → IsStanding k r d (TakenOut ranges) xs → IsStanding k n c (sent_again k xs (TakenOut ranges)) (stage_list xs last)
  removal-again r d ranges h =
      let test = expects n c (suc (suc k)) in
      let zs = stage_list xs k in
      let none = none-filtered (is_inserted_by (suc k)) xs (none-counted (is_inserted_by (suc k)) xs (standing-count k r d (TakenOut ranges) xs h)) in
      let unchanged = rebuilt-passes (is_unchanged_by (suc k)) (λ e g. refl) (suc k) k xs (omega arith)
      (lifted (is_unchanged_by (suc k)) (suc k) (λ e. ap not (filtered-same (suc k) e.pending)) xs (unchanged-standing k r d (TakenOut ranges) xs refl h)) in
      let each = each-of (MarkedAs test (with_pending_removal (suc k)) (element_up_to k) (element_up_to (suc k)) (seen k) (is_removed_by (suc k)) false)
      (is_upto k) (is_kept n ks) is_carried (is_unchanged_by (suc k)) (is_unchanged_by (suc k))
      (λ e a b g u v. removal-marked n k ks e (record { reached = a; kept = b; carried = g }) c u) zs (rebuilt-reached k xs) (rebuilt-kept n k ks xs kept)
      (rebuilt-carried k xs (ordered-all xs kept)) unchanged unchanged in
      let marks = lowered-mark test (with_pending_removal (suc k)) (element_up_to k) (element_up_to (suc k)) (seen k) (is_removed_by (suc k)) false refl 0 0 zs
      (omega arith) each in
      let runs = ap (lowered_runs 0) (again-runs (is_removed_by (suc k))) in
      let now = lowered_runs 0 (marked_runs_from 0 (seen k) (is_removed_by (suc k)) zs) in
      record {
        in_range =
            ap (λ rs. ranges_fit test (with_pending_removal (suc k)) rs (list_up_to k (stage_list xs last))) runs ∙ ap (ranges_fit test (with_pending_removal (suc k)) now) lower
            ∙ fit-from-first test (with_pending_removal (suc k)) now (map (element_up_to k) zs) ∙ marks.fits;
        made =
            no-block none ∙ sym marks.made ∙ sym (ranges-from-first test (with_pending_removal (suc k)) now (map (element_up_to k) zs))
            ∙ ap (change_ranges test (with_pending_removal (suc k)) now) (sym lower)
            ∙ ap (λ rs. change_ranges test (with_pending_removal (suc k)) rs (list_up_to k (stage_list xs last))) (sym runs);
      }

  pub annotation-again : (r d : ℕ) (ranges : List (ℕ × ℕ)) (changes : Changes) → IsStanding k r d (Annotated ranges changes) xs
      → IsStanding k n c (sent_again k xs (Annotated ranges changes)) (stage_list xs last)
  annotation-again r d ranges changes h =
      let test = expects n c (suc (suc k)) in
      let g = with_pending_annotation (suc k) changes in
      let zs = stage_list xs k in
      let none = none-filtered (is_inserted_by (suc k)) xs (none-counted (is_inserted_by (suc k)) xs (standing-count k r d (Annotated ranges changes) xs h)) in
      let unmarked = rebuilt-passes (is_unmarked_by (suc k)) (λ e u. refl) (suc k) k xs (omega arith)
      (lifted (is_unmarked_by (suc k)) (suc k) (unmarked-same (suc k)) xs (unmarked-standing k r d (Annotated ranges changes) xs refl h)) in
      let values = rebuilt-passes (has_changes (suc k) changes) (λ e u. refl) (suc k) k xs (omega arith)
      (lifted (has_changes (suc k) changes) (suc k) (λ e. has-same (suc k) changes e.pending) xs (has-standing k r d ranges changes xs h)) in
      let each = each-of (MarkedAs test g (element_up_to k) (element_up_to (suc k)) (seen k) (is_annotated_by (suc k)) true) (is_upto k) (is_kept n ks)
      is_carried (is_unmarked_by (suc k)) (has_changes (suc k) changes)
      (λ e a b i u v. annotation-marked n k ks e (record { reached = a; kept = b; carried = i }) c changes u v) zs (rebuilt-reached k xs)
      (rebuilt-kept n k ks xs kept) (rebuilt-carried k xs (ordered-all xs kept)) unmarked values in
      let marks = runs-mark test g (element_up_to k) (element_up_to (suc k)) (seen k) (is_annotated_by (suc k)) true refl 0 zs each in
      let runs = again-runs (is_annotated_by (suc k)) in
      let now = marked_runs_from 0 (seen k) (is_annotated_by (suc k)) zs in
      record {
        in_range = ap (λ rs. ranges_fit test g rs (list_up_to k (stage_list xs last))) runs ∙ ap (ranges_fit test g now) lower
            ∙ fit-from-first test g now (map (element_up_to k) zs) ∙ marks.fits;
        made =
            no-block none ∙ sym marks.made ∙ sym (ranges-from-first test g now (map (element_up_to k) zs))
            ∙ ap (change_ranges test g now) (sym lower) ∙ ap (λ rs. change_ranges test g rs (list_up_to k (stage_list xs last))) (sym runs);
      }

  -- ---- an insertion

  unmoved : (zs : List ListElement) → Each (λ e. element_up_to (suc k) e ≡ element_up_to k e) zs → map (element_up_to (suc k)) zs ≡ map (element_up_to k) zs
  unmoved [] h = refl
  unmoved (e ∷ zs) h = rw (h.0, unmoved zs h.1) refl

  put-each : (test : ListElement → Bool) (f : ListElement → ListElement) (p : ℕ) (new zs : List ListElement) → Each (λ e. test (f e) ≡ seen k e) zs
      → map f (put (seen k) no_run p new zs) ≡ put test no_run p (map f new) (map f zs)
  put-each test f zero new zs h = ap (map f) (put_past-no_run new zs) ∙ map-append f new zs ∙ sym (put_past-no_run (map f new) (map f zs))
  put-each test f (suc p) new [] h = refl
  put-each test f (suc p) new (e ∷ zs) h = rw h.0 (ap (λ ys. f e ∷ ys) (put-each test f (cond (seen k e) p (suc p)) new zs h.1))

  len-each : (test : ListElement → Bool) (f : ListElement → ListElement) (zs : List ListElement) → Each (λ e. test (f e) ≡ seen k e) zs → len test (map f zs) ≡ len (seen k) zs
  len-each test f [] h = refl
  len-each test f (e ∷ zs) h = rw h.0 (ap (one_more_if (seen k e)) (len-each test f zs h.1))

  len-view : (zs : List ListElement) → len (seen k) zs ≡ len (seen k) (filter (seen k) zs)
  len-view [] = refl
  len-view (e ∷ zs) = grind (arith, len-view zs)

  rank-bound : (is : ListElement → Bool) (zs : List ListElement) → rank is (seen k) zs ≤ len (seen k) zs
  rank-bound is [] = omega arith
  rank-bound is (e ∷ zs) = grind (arith, rank-bound is zs)

  pub insertion-again : (r d p : ℕ) (props : PropertyList) (items : List ElementContent) → IsStanding k r d (PutIn p props items) xs
      → IsStanding k n c (sent_again k xs (PutIn p props items)) (stage_list xs last)
  insertion-again r d p props items h =
      let test = expects n c (suc (suc k)) in
      let zs = stage_list xs k in
      let new = filter (is_inserted_by (suc k)) xs in
      let block = new_elements 0 (Local (suc k)) [] None props items in
      let place = stage_position (suc k) xs in
      let unmarked = rebuilt-passes (is_unmarked_by (suc k)) (λ e u. refl) (suc k) k xs (omega arith)
      (lifted (is_unmarked_by (suc k)) (suc k) (unmarked-same (suc k)) xs (unmarked-standing k r d (PutIn p props items) xs refl h)) in
      let unchanged = rebuilt-passes (is_unchanged_by (suc k)) (λ e g. refl) (suc k) k xs (omega arith)
      (lifted (is_unchanged_by (suc k)) (suc k) (λ e. ap not (filtered-same (suc k) e.pending)) xs (unchanged-standing k r d (PutIn p props items) xs refl h)) in
      let alone = each-of (λ e. element_up_to (suc k) e ≡ element_up_to k e) (is_upto k) (is_kept n ks) is_carried (is_unmarked_by (suc k)) (is_unchanged_by (suc k))
      (λ e a b g u v. left-alone n k ks e (record { reached = a; kept = b; carried = g }) (hidden (is_removed_by (suc k) e) u) (hidden (is_annotated_by (suc k) e) v)) zs
      (rebuilt-reached k xs) (rebuilt-kept n k ks xs kept) (rebuilt-carried k xs (ordered-all xs kept)) unmarked unchanged in
      let same = each-of (λ e. test (element_up_to k e) ≡ seen k e) (is_upto k) (is_kept n ks) is_carried (is_unmarked_by (suc k)) (is_unchanged_by (suc k))
      (λ e a b g u v. expected-seen n k ks e (record { reached = a; kept = b; carried = g }) c) zs (rebuilt-reached k xs) (rebuilt-kept n k ks xs kept)
      (rebuilt-carried k xs (ordered-all xs kept)) unmarked unchanged in
      let same' = each-of (λ e. test (element_up_to (suc k) e) ≡ seen k e) (is_upto k) (is_kept n ks) is_carried (is_unmarked_by (suc k)) (is_unchanged_by (suc k))
      (λ e a b g u v.
      let here : Known n k ks e = record { reached = a; kept = b; carried = g } in
      ap test (left-alone n k ks e here (hidden (is_removed_by (suc k) e) u) (hidden (is_annotated_by (suc k) e) v)) ∙ expected-seen n k ks e here c) zs
      (rebuilt-reached k xs) (rebuilt-kept n k ks xs kept) (rebuilt-carried k xs (ordered-all xs kept)) unmarked unchanged in
      let elements : map (element_up_to (suc k)) new ≡ block =
      sym (block-up_to (suc k) xs) ∙ ap (filter (is_inserted_by (suc k))) h.made
      ∙ block-filter (is_inserted_by (suc k)) (expects r d (suc (suc k))) p block (list_up_to k xs) (all-new (suc k) 0 props items)
      (none-counted (is_inserted_by (suc k)) (list_up_to k xs) (none-later k xs)) in
      let bound : place ≤ len (seen k) xs = subst (λ i. rank (is_inserted_by (suc k)) (seen i) xs ≤ len (seen k) xs) (sym (pred_suc k)) (rank-bound (is_inserted_by (suc k)) xs) in
      let length_now : len test (list_up_to k (stage_list xs last)) ≡ len (seen k) xs =
      ap (len test) lower ∙ len-each test (element_up_to k) zs same ∙ len-view zs ∙ ap (len (seen k)) view ∙ sym (len-view xs) in
      record {
        in_range = ap (nat_le place) length_now ∙ grind (arith, nat_tests);
        made =
            up_to-rebuilt xs (suc k) last (omega arith)
            ∙ ap (λ i. map (element_up_to (suc k)) (put (seen i) no_run place new zs)) (pred_suc k)
            ∙ put-each test (element_up_to (suc k)) place new zs same'
            ∙ ap (λ ys. put test no_run place ys (map (element_up_to (suc k)) zs)) elements
            ∙ ap (put test no_run place block) (unmoved zs alone ∙ sym lower);
      }

  -- ---- places and names

  view-same : Each (λ e. expects n c (suc (suc k)) (element_up_to k e) ≡ seen k e) (stage_list xs k)
  view-same =
      each-of (λ e. expects n c (suc (suc k)) (element_up_to k e) ≡ seen k e) (is_upto k) (is_kept n ks) is_carried is_carried is_carried
      (λ e a b g u v. expected-seen n k ks e (record { reached = a; kept = b; carried = g }) c) (stage_list xs k) (rebuilt-reached k xs) (rebuilt-kept n k ks xs kept)
      (rebuilt-carried k xs (ordered-all xs kept)) (rebuilt-carried k xs (ordered-all xs kept)) (rebuilt-carried k xs (ordered-all xs kept))

  at-each : (test : ListElement → Bool) (i : ℕ) (zs : List ListElement) → Each (λ e. test (element_up_to k e) ≡ seen k e) zs
      → option_map id (at test i (map (element_up_to k) zs)) ≡ option_map id (at (seen k) i zs)
  at-each test i [] h = refl
  at-each test zero (e ∷ zs) h = first-step (test (element_up_to k e)) (seen k e) h.0 (at-each test zero zs h.1)
    where
      first-step : (a b : Bool) → a ≡ b → option_map id (at test zero (map (element_up_to k) zs)) ≡ option_map id (at (seen k) zero zs)
          → option_map id (cond a (Some (element_up_to k e)) (at test zero (map (element_up_to k) zs))) ≡ option_map id (cond b (Some e) (at (seen k) zero zs))
      first-step true true f g = refl
      first-step false false f g = g
      first-step true false f g = (cc)
      first-step false true f g = (cc)
  at-each test (suc i) (e ∷ zs) h =
      ap (λ b. option_map id (at test (cond b i (suc i)) (map (element_up_to k) zs))) h.0 ∙ at-each test (cond (seen k e) i (suc i)) zs h.1

  at-unseen : (i : ℕ) (e : ListElement) (zs : List ListElement) → seen k e ≡ false → at (seen k) i (e ∷ zs) ≡ at (seen k) i zs
  at-unseen zero e zs h = rw h refl
  at-unseen (suc i) e zs h = rw h refl

  at-view : (i : ℕ) (zs : List ListElement) → at (seen k) i zs ≡ at (seen k) i (filter (seen k) zs)
  at-view i [] = refl
  at-view i (e ∷ zs) = view-step (seen k e) refl i (λ j. at-view j zs)
    where
      view-step : (b : Bool) → seen k e ≡ b → (i : ℕ) → ((j : ℕ) → at (seen k) j zs ≡ at (seen k) j (filter (seen k) zs)) → at (seen k) i (e ∷ zs)
          ≡ at (seen k) i (cond b (e ∷ filter (seen k) zs) (filter (seen k) zs))
      view-step true h zero ih = rw h refl
      view-step true h (suc i) ih = ap (λ b. at (seen k) (cond b i (suc i)) zs) h ∙ ih i ∙ sym (ap (λ b. at (seen k) (cond b i (suc i)) (filter (seen k) zs)) h)
      view-step false h i ih = at-unseen i e zs h ∙ ih i

  -- the message will see as many elements as the stage before
  pub length-again : len (expects n c (suc (suc k))) (list_up_to k (stage_list xs last)) ≡ len (seen k) xs
  length-again =
      let test = expects n c (suc (suc k)) in
      ap (len test) lower ∙ len-each test (element_up_to k) (stage_list xs k) view-same ∙ len-view (stage_list xs k) ∙ ap (len (seen k)) view ∙ sym (len-view xs)

  -- and the same ones
  pub place-again : (i : ℕ) → option_map id (at (expects n c (suc (suc k))) i (list_up_to k (stage_list xs last))) ≡ option_map id (at (seen k) i xs)
  place-again i =
      let test = expects n c (suc (suc k)) in
      ap (λ ys. option_map id (at test i ys)) lower ∙ at-each test i (stage_list xs k) view-same
      ∙ ap (option_map id) (at-view i (stage_list xs k) ∙ ap (at (seen k) i) view ∙ sym (at-view i xs))

  -- what is known of a stage stays known of it as it is sent again under a new connection
  pub stands-again : (r d : ℕ) (edit : StageEdit) → IsStanding k r d edit xs → IsStanding k n c (sent_again k xs edit) (stage_list xs last)
  stands-again r d (PutIn p props items) h = insertion-again r d p props items h
  stands-again r d (TakenOut ranges) h = removal-again r d ranges h
  stands-again r d (Annotated ranges changes) h = annotation-again r d ranges changes h
