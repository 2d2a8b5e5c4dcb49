-- How pending marks stand on the elements of a list stays so at each step.
use Rattle.std.proofs.Common.{◌≡◌, ℕ, suc, ◌+◌, Bool, true, false, cond, not, ◌&&◌, nat_le, nat_lt, nat_eq, List, [], ◌∷◌, ◌++◌, Option, Some, None, map, filter, refl, ap, arith}
use Rattle.std.specs.List.{list_all, list_any}
use Rattle.std.proofs.lemmas.Bool.Decides.{nat_tests}
use Rattle.ft_base.specs.declared.stamps.Stamp.{Stamp}
use Rattle.ft_base.specs.declared.stamps.Stamp.TheVariants.{Acked, Local}
use Rattle.ft_base.proofs.Booleans.{all_four, all_three, both}
use Rattle.ft_base.specs.Scan.{change_range, change_range_from, no_run}
use Rattle.ft_base.specs.Visibility.{has_occurred, has_occurred_at_stage, is_acked}
use Rattle.ft_props.specs.declared.properties.Changes.{Changes}
use Rattle.ft_props.specs.Properties.{PropertyList}
use Rattle.ft_props.specs.Element.{ElementContent, ListElement, is_pending, new_elements, removal_stamp, seen, seen_by, with_annotation, with_pending_annotation, with_pending_removal, with_removal}
use Rattle.ft_props.specs.Steps.{acked_element, acked_removal, acked_stamp, remaining_removal}
use Rattle.ft_props.proofs.AcknowledgedInsertion.{from_mark, from_stamp, is_from}
use Rattle.ft_props.proofs.PlacedInsertion.{is_current, mark_upto, stamp_known}
use Rattle.ft_laws_agreement.proofs.StageEdits.{StageEdit, PutIn, TakenOut, Annotated, after_own, after_sequenced, change_ranges, has_one_range}
use Rattle.ft_laws_agreement.proofs.OwnEdits.{unmarked}
use Rattle.ft_laws_agreement.proofs.WithinStages.{all-map, all-put}

-- ---- how pending marks stand on an element

-- changes by rising stages, all above the one before
abbrev pub rises_from : ℕ → List (ℕ × Changes) → Bool
rises_from i [] = true
rises_from i (p ∷ pending) = nat_lt i p.0 && rises_from p.0 pending

-- a pending insertion has no sequenced removal, and is marked only by later stages
abbrev pub is_unremoved_pending : Stamp → List Stamp → Option ℕ → Bool
is_unremoved_pending (Acked s c) dels m = true
is_unremoved_pending (Local j) [] None = true
is_unremoved_pending (Local j) [] (Some i) = nat_lt j i
is_unremoved_pending (Local j) (t ∷ dels) m = false

-- a removal comes after all changes
abbrev pub is_removed_last : Option ℕ → List (ℕ × Changes) → Bool
is_removed_last None pending = true
is_removed_last (Some j) pending = list_all (λ p. nat_lt p.0 j) pending

-- the stage of a pending insertion, and 0 for a sequenced one
abbrev pub insertion_stage : Stamp → ℕ
insertion_stage (Acked s c) = 0
insertion_stage (Local j) = j

-- its changes have rising stages above that of its insertion, its pending removal comes after them, and a pending insertion is removed by later
-- stages alone
abbrev pub is_ordered : ListElement → Bool
is_ordered e = rises_from (insertion_stage e.ins) e.pending && is_removed_last e.removal_stage e.pending && is_unremoved_pending e.ins e.dels e.removal_stage

pub parts : (e : ListElement) → is_ordered e ≡ true → (rises_from (insertion_stage e.ins) e.pending ≡ true)
    × (is_removed_last e.removal_stage e.pending ≡ true) × (is_unremoved_pending e.ins e.dels e.removal_stage ≡ true)
parts e h = all_three (rises_from (insertion_stage e.ins) e.pending) (is_removed_last e.removal_stage e.pending) (is_unremoved_pending e.ins e.dels e.removal_stage) h

-- a change of what is seen
module _ {A : Type 0} (is seen : A → Bool) (g : A → A) (keep : (x : A) → is x ≡ true → seen x ≡ true → is (g x) ≡ true) where
  all-range-seen : (p q i : ℕ) (xs : List A) → list_all is xs ≡ true → list_all is (change_range_from i seen p q g xs) ≡ true
  all-range-seen p q i [] h = refl
  all-range-seen p q i (x ∷ xs) h = grind (arith, all-range-seen p q i xs, all-range-seen p q (suc i) xs, keep x)

  pub all-ranges-seen : (ranges : List (ℕ × ℕ)) (xs : List A) → list_all is xs ≡ true → list_all is (change_ranges seen g ranges xs) ≡ true
  all-ranges-seen [] xs h = h
  all-ranges-seen ((p, q) ∷ ranges) xs h = all-ranges-seen ranges (change_range seen p q g xs) (all-range-seen p q 0 xs h)

-- ---- a sequenced edit

new-ordered : (s d i : ℕ) (by : Option Stamp) (props : PropertyList) (items : List ElementContent) → list_all is_ordered (new_elements i (Acked s d) [] by props items) ≡ true
new-ordered s d i by props [] = refl
new-ordered s d i by props (b ∷ bs) = new-ordered s d (i + 1) by props bs

seen-acked : (r d : ℕ) (e : ListElement) → seen_by r d e ≡ true → is_acked e.ins ≡ true
seen-acked r d e h = stamp e.ins (both (has_occurred r d e.ins) (not (list_any (has_occurred r d) (e.dels ++ removal_stamp e.removal_stage))) h).0
  where
    stamp : (t : Stamp) → has_occurred r d t ≡ true → is_acked t ≡ true
    stamp (Acked s c) g = refl
    stamp (Local j) g = (cc)

acked-unremoved : (t : Stamp) (dels : List Stamp) (m : Option ℕ) → is_acked t ≡ true → is_unremoved_pending t dels m ≡ true
acked-unremoved (Acked s c) dels m h = refl
acked-unremoved (Local j) dels m h = (cc)

removal-ordered : (s d r : ℕ) (e : ListElement) → is_ordered e ≡ true → seen_by r d e ≡ true → is_ordered (with_removal s d e) ≡ true
removal-ordered s d r e h g =
    let p = parts e h in
    rw (p.0, p.1, acked-unremoved e.ins (e.dels ++ (Acked s d ∷ [])) e.removal_stage (seen-acked r d e g)) refl

pub ordered-sequenced : (s d r m : ℕ) (by : Option Stamp) (edit : StageEdit) (xs : List ListElement) → list_all is_ordered xs ≡ true
    → list_all is_ordered (after_sequenced s d r m by edit xs) ≡ true
ordered-sequenced s d r m by (PutIn p props items) xs h = all-put is_ordered (seen_by r d) is_pending p (new_elements m (Acked s d) [] by props items) xs
    (new-ordered s d m by props items) h
ordered-sequenced s d r m by (TakenOut ranges) xs h = all-ranges-seen is_ordered (seen_by r d) (with_removal s d) (removal-ordered s d r) ranges xs h
ordered-sequenced s d r m by (Annotated ranges changes) xs h = all-ranges-seen is_ordered (seen_by r d) (with_annotation changes) (λ e g f. g) ranges xs h

-- ---- an edit of the client's own

all-range-to : {A : Type 0} (is is' seen : A → Bool) (g : A → A) → ((x : A) → is x ≡ true → is' x ≡ true) → ((x : A) → is x ≡ true → seen x ≡ true → is' (g x) ≡ true)
    → (p q i : ℕ) (xs : List A) → list_all is xs ≡ true → list_all is' (change_range_from i seen p q g xs) ≡ true
all-range-to is is' seen g stay keep p q i [] h = refl
all-range-to is is' seen g stay keep p q i (x ∷ xs) h = grind (
  arith,
  all-range-to is is' seen g stay keep p q i xs,
  all-range-to is is' seen g stay keep p q
      (suc i) xs,
  stay x,
  keep x,
)

own-new-ordered : (k i : ℕ) (props : PropertyList) (items : List ElementContent) → list_all is_ordered (new_elements i (Local k) [] None props items) ≡ true
own-new-ordered k i props [] = refl
own-new-ordered k i props (b ∷ bs) = own-new-ordered k (i + 1) props bs

below-last : (k : ℕ) (pending : List (ℕ × Changes)) → list_all (λ p. nat_le p.0 k) pending ≡ true → list_all (λ p. nat_lt p.0 (suc k)) pending ≡ true
below-last k [] h = refl
below-last k (p ∷ pending) h = grind (arith, nat_tests, below-last k pending)

rises-append : (i k : ℕ) (changes : Changes) (pending : List (ℕ × Changes)) → nat_lt i (suc k) ≡ true → list_all (λ p. nat_le p.0 k) pending ≡ true
    → rises_from i pending ≡ true → rises_from i (pending ++ ((suc k, changes) ∷ [])) ≡ true
rises-append i k changes [] l h g = rw l refl
rises-append i k changes (p ∷ pending) l h g =
    let q = both (nat_le p.0 k) (list_all (λ p. nat_le p.0 k) pending) h in
    let r = both (nat_lt i p.0) (rises_from p.0 pending) g in
    let below : nat_lt p.0 (suc k) ≡ true = grind (arith, nat_tests) in
    rw (r.0, rises-append p.0 k changes pending below q.1 r.1) refl

mark-unremoved : (k : ℕ) (t : Stamp) (dels : List Stamp) (m : Option ℕ) → has_occurred_at_stage k t ≡ true → is_unremoved_pending t dels m ≡ true
    → is_unremoved_pending t dels (Some (suc k)) ≡ true
mark-unremoved k (Acked s c) dels m h g = refl
mark-unremoved k (Local j) [] m h g = grind (arith, nat_tests)
mark-unremoved k (Local j) (t ∷ dels) m h g = (cc)

stage-before : (k : ℕ) (t : Stamp) → has_occurred_at_stage k t ≡ true → nat_lt (insertion_stage t) (suc k) ≡ true
stage-before k (Acked s c) h = grind (arith, nat_tests)
stage-before k (Local j) h = grind (arith, nat_tests)

abbrev is_ready : ℕ → ℕ → ℕ → ListElement → Bool
is_ready n c k e = is_ordered e && is_current n c k e

module _ (n c k : ℕ) where
  current-parts : (e : ListElement) → is_current n c k e ≡ true → (stamp_known n c k e.ins ≡ true) × (list_all (has_occurred n c) e.dels ≡ true)
      × (mark_upto k e.removal_stage ≡ true) × (list_all (λ q. nat_le q.0 k) e.pending ≡ true)
  current-parts e h = all_four (stamp_known n c k e.ins) (list_all (has_occurred n c) e.dels) (mark_upto k e.removal_stage) (list_all (λ q. nat_le q.0 k) e.pending) h

  own-removal-ordered : (e : ListElement) → is_ready n c k e ≡ true → seen k e ≡ true → is_ordered (with_pending_removal (suc k) e) ≡ true
  own-removal-ordered e h g =
      let r = both (is_ordered e) (is_current n c k e) h in
      let p = parts e r.0 in
      let q = current-parts e r.1 in
      let reached = (both (has_occurred_at_stage k e.ins) (not (list_any (has_occurred_at_stage k) (e.dels ++ removal_stamp e.removal_stage))) g).0 in
      rw (p.0, below-last k e.pending q.3, mark-unremoved k e.ins e.dels e.removal_stage reached p.2) refl

  own-annotation-ordered : (changes : Changes) (e : ListElement) → is_ready n c k e ≡ true → seen k e ≡ true → is_ordered (with_pending_annotation (suc k) changes e) ≡ true
  own-annotation-ordered changes e h g =
      let r = both (is_ordered e) (is_current n c k e) h in
      let p = parts e r.0 in
      let q = current-parts e r.1 in
      let reached = (both (has_occurred_at_stage k e.ins) (not (list_any (has_occurred_at_stage k) (e.dels ++ removal_stamp e.removal_stage))) g).0 in
      let last : is_removed_last e.removal_stage (e.pending ++ ((suc k, changes) ∷ []))
      ≡ true = ap (λ m. is_removed_last m (e.pending ++ ((suc k, changes) ∷ []))) (unmarked n c k e r.1 g) in
      rw (rises-append (insertion_stage e.ins) k changes e.pending (stage-before k e.ins reached) q.3 p.0, last, p.2) refl

  all-ready : (xs : List ListElement) → list_all is_ordered xs ≡ true → list_all (is_current n c k) xs ≡ true → list_all (is_ready n c k) xs ≡ true
  all-ready [] h g = refl
  all-ready (e ∷ xs) h g = grind (arith, all-ready xs)

  pub ordered-own : (edit : StageEdit) (xs : List ListElement) → has_one_range edit ≡ true → list_all is_ordered xs ≡ true → list_all (is_current n c k) xs
      ≡ true → list_all is_ordered (after_own k edit xs) ≡ true
  ordered-own (PutIn p props items) xs o h g = all-put is_ordered (seen k) no_run p (new_elements 0 (Local (suc k)) [] None props items) xs
      (own-new-ordered (suc k) 0 props items) h
  ordered-own (TakenOut []) xs o h g = h
  ordered-own (TakenOut (range ∷ [])) xs o h g =
      all-range-to (is_ready n c k) is_ordered (seen k) (with_pending_removal (suc k)) (λ e r. (both (is_ordered e) (is_current n c k e) r).0)
      own-removal-ordered range.0 range.1 0 xs (all-ready xs h g)
  ordered-own (TakenOut (range ∷ other ∷ ranges)) xs o h g = absurd (grind (arith, nat_tests))
  ordered-own (Annotated [] changes) xs o h g = h
  ordered-own (Annotated (range ∷ []) changes) xs o h g =
      all-range-to (is_ready n c k) is_ordered (seen k) (with_pending_annotation (suc k) changes) (λ e r. (both (is_ordered e) (is_current n c k e) r).0)
      (own-annotation-ordered changes) range.0 range.1 0 xs (all-ready xs h g)
  ordered-own (Annotated (range ∷ other ∷ ranges) changes) xs o h g = absurd (grind (arith, nat_tests))

-- ---- the acknowledgement of the lowest stage

rises-weaker : (i j : ℕ) (pending : List (ℕ × Changes)) → nat_lt i j ≡ true → rises_from j pending ≡ true → rises_from i pending ≡ true
rises-weaker i j [] l h = refl
rises-weaker i j (p ∷ pending) l h = grind (arith, nat_tests)

rises-zero : (j : ℕ) (pending : List (ℕ × Changes)) → rises_from j pending ≡ true → rises_from 0 pending ≡ true
rises-zero j [] h = refl
rises-zero j (p ∷ pending) h = grind (arith, nat_tests)

rises-filter : (i k : ℕ) (pending : List (ℕ × Changes)) → rises_from i pending ≡ true → rises_from i (filter (λ p. not (nat_eq p.0 k)) pending) ≡ true
rises-filter i k [] h = refl
rises-filter i k (p ∷ pending) h =
    let q = both (nat_lt i p.0) (rises_from p.0 pending) h in
    filter-step (not (nat_eq p.0 k)) q.0 (rises-filter p.0 k pending q.1)
  where
    filter-step : (b : Bool) → nat_lt i p.0 ≡ true → rises_from p.0 (filter (λ p. not (nat_eq p.0 k)) pending) ≡ true
        → rises_from i (cond b (p ∷ filter (λ p. not (nat_eq p.0 k)) pending) (filter (λ p. not (nat_eq p.0 k)) pending)) ≡ true
    filter-step true l ih = rw (l, ih) refl
    filter-step false l ih = rises-weaker i p.0 (filter (λ p. not (nat_eq p.0 k)) pending) l ih

last-filter : (j k : ℕ) (pending : List (ℕ × Changes)) → list_all (λ p. nat_lt p.0 j) pending ≡ true
    → list_all (λ p. nat_lt p.0 j) (filter (λ p. not (nat_eq p.0 k)) pending) ≡ true
last-filter j k [] h = refl
last-filter j k (p ∷ pending) h = grind (arith, last-filter j k pending)

removed-acked : (k : ℕ) (m : Option ℕ) (pending : List (ℕ × Changes)) → is_removed_last m pending ≡ true
    → is_removed_last (remaining_removal k m) (filter (λ p. not (nat_eq p.0 k)) pending) ≡ true
removed-acked k None pending h = refl
removed-acked k (Some j) pending h = either (nat_eq j k)
  where
    either : (b : Bool) → is_removed_last (cond b None (Some j)) (filter (λ p. not (nat_eq p.0 k)) pending) ≡ true
    either true = refl
    either false = last-filter j k pending h

stamp-acked : (k s d : ℕ) (t : Stamp) (dels : List Stamp) (m : Option ℕ) → from_stamp k t ≡ true → is_unremoved_pending t dels m ≡ true
    → is_unremoved_pending (acked_stamp k s d t) (dels ++ acked_removal k s d m) (remaining_removal k m) ≡ true
stamp-acked k s d (Acked r c) dels m l h = refl
stamp-acked k s d (Local j) (t ∷ dels) m l h = (cc)
stamp-acked k s d (Local j) [] None l h = either (nat_eq j k)
  where
    either : (b : Bool) → is_unremoved_pending (cond b (Acked s d) (Local j)) [] None ≡ true
    either true = refl
    either false = refl
stamp-acked k s d (Local j) [] (Some i) l h = either (nat_eq j k) (later (nat_eq i k) refl)
  where
    later : (b : Bool) → nat_eq i k ≡ b → nat_eq i k ≡ false
    later true e = absurd (grind (arith, nat_tests))
    later false e = e

    either : (b : Bool) → nat_eq i k ≡ false → is_unremoved_pending (cond b (Acked s d) (Local j)) (acked_removal k s d (Some i)) (remaining_removal k (Some i)) ≡ true
    either true e = refl
    either false e = rw e h

rises-acked : (k s d : ℕ) (t : Stamp) (pending : List (ℕ × Changes)) → rises_from (insertion_stage t) pending ≡ true
    → rises_from (insertion_stage (acked_stamp k s d t)) (filter (λ p. not (nat_eq p.0 k)) pending) ≡ true
rises-acked k s d (Acked r c) pending h = rises-filter 0 k pending h
rises-acked k s d (Local j) pending h = either (nat_eq j k)
  where
    either : (b : Bool) → rises_from (insertion_stage (cond b (Acked s d) (Local j))) (filter (λ p. not (nat_eq p.0 k)) pending) ≡ true
    either true = rises-zero j (filter (λ p. not (nat_eq p.0 k)) pending) (rises-filter j k pending h)
    either false = rises-filter j k pending h

acked-ordered : (k m s d : ℕ) (e : ListElement) → is_ordered e && is_from k e ≡ true → is_ordered (acked_element k m s d e) ≡ true
acked-ordered k m s d e h =
    let r = both (is_ordered e) (is_from k e) h in
    let p = parts e r.0 in
    let f = all_three (from_stamp k e.ins) (from_mark k e.removal_stage) (list_all (λ q. nat_le k q.0) e.pending) r.1 in
    rw (rises-acked k s d e.ins e.pending p.0, removed-acked k e.removal_stage e.pending p.1, stamp-acked k s d e.ins e.dels e.removal_stage f.0 p.2) refl

ordered-and-from : (k : ℕ) (xs : List ListElement) → list_all is_ordered xs ≡ true → list_all (is_from k) xs ≡ true → list_all (λ e. is_ordered e && is_from k e) xs ≡ true
ordered-and-from k [] h g = refl
ordered-and-from k (e ∷ xs) h g = grind (arith, ordered-and-from k xs)

pub ordered-acked : (k m s d : ℕ) (xs : List ListElement) → list_all is_ordered xs ≡ true → list_all (is_from k) xs ≡ true
    → list_all is_ordered (map (acked_element k m s d) xs) ≡ true
ordered-acked k m s d xs h g = all-map (λ e. is_ordered e && is_from k e) is_ordered (acked_element k m s d) (acked-ordered k m s d) xs (ordered-and-from k xs h g)
