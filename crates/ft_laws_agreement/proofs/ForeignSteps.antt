-- A sub-operation of another client keeps what is known of a pending stage.
use Rattle.std.proofs.Common.{◌≡◌, ℕ, suc, ◌+◌, ◌≤◌, ◌<◌, true, false, not, ◌&&◌, nat_le, nat_eq, List, [], ◌∷◌, Option, Some, None, refl, sym, ◌∙◌, ap, arith}
use Rattle.std.specs.List.{list_all, list_any}
use Rattle.std.proofs.lemmas.List.Folds.{list_any-append}
use Rattle.std.proofs.lemmas.Bool.Decides.{nat_tests}
use Rattle.ft_base.specs.declared.stamps.Stamp.{Stamp}
use Rattle.ft_base.specs.declared.stamps.Stamp.TheVariants.{Acked, Local}
use Rattle.ft_base.specs.Scan.{change_range, len, no_run}
use Rattle.ft_base.specs.Visibility.{has_occurred}
use Rattle.ft_base.proofs.ScanLaws.{len-retain_map, range-retain_map}
use Rattle.ft_base.proofs.TwoInsertions.{swap}
use Rattle.ft_props.specs.Properties.{PropertyList}
use Rattle.ft_props.specs.Element.{ElementContent, ListElement, is_pending, new_elements, seen_by, with_annotation, with_pending_annotation, with_pending_removal, with_removal}
use Rattle.ft_props.proofs.SequencedElements.{any-has_occurred}
use Rattle.ft_props.proofs.AcknowledgedInsertion.{element_up_to, expects, list_up_to, or_false}
use Rattle.ft_props.proofs.PlacedInsertion.{is_upto, len-put, new-list_up_to, new-unexpected, put-list_up_to, sees-list_up_to, unknown}
use Rattle.ft_laws_agreement.proofs.StageEdits.{StageEdit, PutIn, TakenOut, Annotated, change_ranges, ranges_fit, after_pending, fits_pending, after_sequenced, fits_sequenced, IsStanding}
use Rattle.ft_laws_agreement.proofs.RangesOfLists.{put-ranges, ranges-ranges, fit-put, fit-ranges, len-ranges}

-- ---- what a change of a range doesn't change for the other side

-- a removal that an edit hadn't seen
pub unexpected-removal : (r c k s d : ℕ) → r < s → nat_eq d c ≡ false → (e : ListElement) → expects r c k (with_removal s d e) ≡ expects r c k e
unexpected-removal r c k s d above others e =
    rw (list_any-append (has_occurred r c) e.dels (Acked s d ∷ []), unknown r c s d above others, or_false (list_any (has_occurred r c) e.dels)) refl

-- a perspective counts no pending removal
unseen-removal : (r c k : ℕ) (e : ListElement) → seen_by r c (with_pending_removal k e) ≡ seen_by r c e
unseen-removal r c k e = ap (λ b. has_occurred r c e.ins && not b) (any-has_occurred r c e.dels (Some k) ∙ sym (any-has_occurred r c e.dels e.removal_stage))

-- a perspective sees no pending insertion
unseen-insertion : (r c k i : ℕ) (by : Option Stamp) (props : PropertyList) (items : List ElementContent)
    → list_any (seen_by r c) (new_elements i (Local k) [] by props items) ≡ false
unseen-insertion r c k i by props [] = refl
unseen-insertion r c k i by props (b ∷ bs) = unseen-insertion r c k (i + 1) by props bs

all-pending : (k i : ℕ) (by : Option Stamp) (props : PropertyList) (items : List ElementContent) → list_all is_pending (new_elements i (Local k) [] by props items) ≡ true
all-pending k i by props [] = refl
all-pending k i by props (b ∷ bs) = all-pending k (i + 1) by props bs

as_bound : (m n : ℕ) → nat_le m n ≡ true → m ≤ n
as_bound m n h = grind (arith, nat_tests)

-- ---- a sequenced edit in the list up to a stage

module _ (s d e n : ℕ) (by : Option Stamp) where
  ranges-list_up_to : (k : ℕ) (g : ListElement → ListElement) → ((x : ListElement) → is_upto k (g x) ≡ is_upto k x)
      → ((x : ListElement) → element_up_to k (g x) ≡ g (element_up_to k x))
      → (ranges : List (ℕ × ℕ)) (xs : List ListElement) → list_up_to k (change_ranges (seen_by e d) g ranges xs) ≡ change_ranges (seen_by e d) g ranges (list_up_to k xs)
  ranges-list_up_to k g same meet [] xs = refl
  ranges-list_up_to k g same meet ((p, q) ∷ ranges) xs =
      ranges-list_up_to k g same meet ranges (change_range (seen_by e d) p q g xs)
      ∙ ap (change_ranges (seen_by e d) g ranges) (range-retain_map (is_upto k) (seen_by e d) (element_up_to k) (seen_by e d) (sees-list_up_to e d k) g g same meet 0 p q xs)

  pub sequenced-list_up_to : (k : ℕ) (edit : StageEdit) (xs : List ListElement) → list_up_to k (after_sequenced s d e n by edit xs)
      ≡ after_sequenced s d e n by edit (list_up_to k xs)
  sequenced-list_up_to k (PutIn p props items) xs = put-list_up_to e d k p (new_elements n (Acked s d) [] by props items) xs (new-list_up_to k n s d by props items)
  sequenced-list_up_to k (TakenOut ranges) xs = ranges-list_up_to k (with_removal s d) (λ x. refl) (λ x. refl) ranges xs
  sequenced-list_up_to k (Annotated ranges changes) xs = ranges-list_up_to k (with_annotation changes) (λ x. refl) (λ x. refl) ranges xs

  -- ---- both orders

  module _ (r c k : ℕ) (above : r < s) (others : nat_eq d c ≡ false) where
    expected-as_before : (x : ListElement) → expects r c (suc k) (with_removal s d x) ≡ expects r c (suc k) x
    expected-as_before x = unexpected-removal r c (suc k) s d above others x

    -- a pending edit and one of another client
    pub both_orders : (mine theirs : StageEdit) (xs : List ListElement) → fits_pending r c k mine xs ≡ true → fits_sequenced s d e theirs xs ≡ true
        → after_pending r c k mine (after_sequenced s d e n by theirs xs) ≡ after_sequenced s d e n by theirs (after_pending r c k mine xs)
    both_orders (PutIn p props items) (PutIn q props' items') xs g h =
        swap (expects r c (suc k)) (seen_by e d) is_pending (new_elements 0 (Local k) [] None props items) (new_elements n (Acked s d) [] by props' items')
        (new-unexpected r c (suc k) n s d by props' items' above others) (unseen-insertion e d k 0 None props items) (all-pending k 0 None props items) p q xs
        (as_bound p _ g) (as_bound q _ h)
    both_orders (PutIn p props items) (TakenOut ranges) xs g h =
        put-ranges (expects r c (suc k)) (seen_by e d) no_run (with_removal s d) (new_elements 0 (Local k) [] None props items)
        (unseen-insertion e d k 0 None props items) (λ x. refl) expected-as_before p ranges xs
    both_orders (PutIn p props items) (Annotated ranges changes) xs g h =
        put-ranges (expects r c (suc k)) (seen_by e d) no_run (with_annotation changes) (new_elements 0 (Local k) [] None props items)
        (unseen-insertion e d k 0 None props items) (λ x. refl) (λ x. refl) p ranges xs
    both_orders (TakenOut ranges) (PutIn q props' items') xs g h =
        sym (put-ranges (seen_by e d) (expects r c (suc k)) is_pending (with_pending_removal k) (new_elements n (Acked s d) [] by props' items')
        (new-unexpected r c (suc k) n s d by props' items' above others)
        (λ x. refl) (unseen-removal e d k) q ranges xs)
    both_orders (TakenOut ranges) (TakenOut ranges') xs g h =
        ranges-ranges (expects r c (suc k)) (seen_by e d) (with_pending_removal k) (with_removal s d) expected-as_before (unseen-removal e d k) (λ x. refl) ranges ranges' xs
    both_orders (TakenOut ranges) (Annotated ranges' changes) xs g h =
        ranges-ranges (expects r c (suc k)) (seen_by e d) (with_pending_removal k) (with_annotation changes) (λ x. refl) (unseen-removal e d k) (λ x. refl) ranges ranges' xs
    both_orders (Annotated ranges changes) (PutIn q props' items') xs g h =
        sym (put-ranges (seen_by e d) (expects r c (suc k)) is_pending (with_pending_annotation k changes) (new_elements n (Acked s d) [] by props' items')
        (new-unexpected r c (suc k) n s d by props' items' above others)
        (λ x. refl) (λ x. refl) q ranges xs)
    both_orders (Annotated ranges changes) (TakenOut ranges') xs g h =
        ranges-ranges (expects r c (suc k)) (seen_by e d) (with_pending_annotation k changes) (with_removal s d) expected-as_before (λ x. refl) (λ x. refl) ranges ranges' xs
    both_orders (Annotated ranges changes) (Annotated ranges' changes') xs g h =
        ranges-ranges (expects r c (suc k)) (seen_by e d) (with_pending_annotation k changes) (with_annotation changes') (λ x. refl) (λ x. refl) (λ x. refl) ranges ranges' xs

    -- what another client does leaves a pending edit in range
    pub in_range-after : (mine theirs : StageEdit) (xs : List ListElement) → fits_pending r c k mine (after_sequenced s d e n by theirs xs) ≡ fits_pending r c k mine xs
    in_range-after (PutIn p props items) (PutIn q props' items') xs =
        ap (nat_le p) (len-put (expects r c (suc k)) (seen_by e d) is_pending q (new_elements n (Acked s d) [] by props' items') xs
        (new-unexpected r c (suc k) n s d by props' items' above others))
    in_range-after (PutIn p props items) (TakenOut ranges) xs = ap (nat_le p) (len-ranges (expects r c (suc k)) (seen_by e d) (with_removal s d) expected-as_before ranges xs)
    in_range-after (PutIn p props items) (Annotated ranges changes) xs = ap (nat_le p)
        (len-ranges (expects r c (suc k)) (seen_by e d) (with_annotation changes) (λ x. refl) ranges xs)
    in_range-after (TakenOut ranges) (PutIn q props' items') xs =
        fit-put (seen_by e d) (expects r c (suc k)) is_pending (with_pending_removal k) (new_elements n (Acked s d) [] by props' items')
        (new-unexpected r c (suc k) n s d by props' items' above others)
        (λ x. refl) (unseen-removal e d k) q ranges xs
    in_range-after (TakenOut ranges) (TakenOut ranges') xs =
        fit-ranges (expects r c (suc k)) (seen_by e d) (with_pending_removal k) (with_removal s d) expected-as_before (unseen-removal e d k) (λ x. refl) ranges ranges' xs
    in_range-after (TakenOut ranges) (Annotated ranges' changes) xs =
        fit-ranges (expects r c (suc k)) (seen_by e d) (with_pending_removal k) (with_annotation changes) (λ x. refl) (unseen-removal e d k) (λ x. refl) ranges ranges' xs
    in_range-after (Annotated ranges changes) (PutIn q props' items') xs =
        fit-put (seen_by e d) (expects r c (suc k)) is_pending (with_pending_annotation k changes) (new_elements n (Acked s d) [] by props' items')
        (new-unexpected r c (suc k) n s d by props' items' above others)
        (λ x. refl) (λ x. refl) q ranges xs
    in_range-after (Annotated ranges changes) (TakenOut ranges') xs =
        fit-ranges (expects r c (suc k)) (seen_by e d) (with_pending_annotation k changes) (with_removal s d) expected-as_before (λ x. refl) (λ x. refl) ranges ranges' xs
    in_range-after (Annotated ranges changes) (Annotated ranges' changes') xs =
        fit-ranges (expects r c (suc k)) (seen_by e d) (with_pending_annotation k changes) (with_annotation changes') (λ x. refl) (λ x. refl) (λ x. refl) ranges ranges' xs

module _ (s d e n : ℕ) (by : Option Stamp) (k : ℕ) where
  ranges_fit-up_to : (g : ListElement → ListElement) → ((x : ListElement) → is_upto k (g x) ≡ is_upto k x) → ((x : ListElement) → element_up_to k (g x) ≡ g (element_up_to k x))
      → (ranges : List (ℕ × ℕ)) (xs : List ListElement) → ranges_fit (seen_by e d) g ranges (list_up_to k xs) ≡ ranges_fit (seen_by e d) g ranges xs
  ranges_fit-up_to g same meet [] xs = refl
  ranges_fit-up_to g same meet ((p, q) ∷ ranges) xs =
      ap (λ b. nat_le q b && ranges_fit (seen_by e d) g ranges (change_range (seen_by e d) p q g (list_up_to k xs)))
      (len-retain_map (is_upto k) (seen_by e d) (element_up_to k) (seen_by e d) (sees-list_up_to e d k) xs)
      ∙ ap (λ ys. nat_le q (len (seen_by e d) xs) && ranges_fit (seen_by e d) g ranges ys)
      (sym (range-retain_map (is_upto k) (seen_by e d) (element_up_to k) (seen_by e d) (sees-list_up_to e d k) g g same meet 0 p q xs))
      ∙ ap (λ b. nat_le q (len (seen_by e d) xs) && b) (ranges_fit-up_to g same meet ranges (change_range (seen_by e d) p q g xs))

  -- a sequenced edit is in range in the list up to a stage where it is in the whole list
  pub fits_sequenced-up_to : (edit : StageEdit) (xs : List ListElement) → fits_sequenced s d e edit (list_up_to k xs) ≡ fits_sequenced s d e edit xs
  fits_sequenced-up_to (PutIn p props items) xs = ap (nat_le p) (len-retain_map (is_upto k) (seen_by e d) (element_up_to k) (seen_by e d) (sees-list_up_to e d k) xs)
  fits_sequenced-up_to (TakenOut ranges) xs = ranges_fit-up_to (with_removal s d) (λ x. refl) (λ x. refl) ranges xs
  fits_sequenced-up_to (Annotated ranges changes) xs = ranges_fit-up_to (with_annotation changes) (λ x. refl) (λ x. refl) ranges xs

  -- what another client does keeps what is known of a pending stage
  pub foreign_step-keeps : (r c : ℕ) (mine theirs : StageEdit) (xs : List ListElement) → r < s → nat_eq d c ≡ false → fits_sequenced s d e theirs xs ≡ true
      → IsStanding k r c mine xs → IsStanding k r c mine (after_sequenced s d e n by theirs xs)
  foreign_step-keeps r c mine theirs xs above others fits h = record {
    in_range = ap (fits_pending r c (suc k) mine) (sequenced-list_up_to s d e n by k theirs xs)
        ∙ in_range-after s d e n by r c (suc k) above others mine theirs (list_up_to k xs) ∙ h.in_range;
    made =
        sequenced-list_up_to s d e n by (suc k) theirs xs
        ∙ ap (after_sequenced s d e n by theirs) h.made
        ∙ sym (both_orders s d e n by r c (suc k) above others mine theirs (list_up_to k xs) h.in_range (fits_sequenced-up_to theirs xs ∙ fits))
        ∙ ap (after_pending r c (suc k) mine) (sym (sequenced-list_up_to s d e n by k theirs xs));
  }
