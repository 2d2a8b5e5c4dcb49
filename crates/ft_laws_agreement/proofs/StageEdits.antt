-- What one stage of an edit does to one list, as the message of the edit tells it: while the stage is pending, and once it is
-- sequenced.
use Rattle.std.specs.Prelude.{◌≡◌, ℕ, suc, Bool, true, ◌&&◌, nat_le, List, [], ◌∷◌, Option, None, length}
use Rattle.ft_base.specs.declared.stamps.Stamp.{Stamp}
use Rattle.ft_base.specs.declared.stamps.Stamp.TheVariants.{Acked, Local}
use Rattle.ft_props.specs.declared.properties.Changes.{Changes}
use Rattle.ft_base.specs.Scan.{change_range, len, no_run, put}
use Rattle.ft_props.specs.Properties.{PropertyList}
use Rattle.ft_props.specs.Element.{ElementContent, ListElement, is_pending, new_elements, seen, seen_by, with_annotation, with_pending_annotation, with_pending_removal, with_removal}
use Rattle.ft_props.proofs.AcknowledgedInsertion.{expects, list_up_to}

-- elements with these properties put in at a position; elements of ranges taken out, one range after another; or
-- elements of ranges changed
pub data StageEdit : Type 0 where
  PutIn : ℕ → PropertyList → List ElementContent → StageEdit
  TakenOut : List (ℕ × ℕ) → StageEdit
  Annotated : List (ℕ × ℕ) → Changes → StageEdit

-- changes of several ranges, one after another
abbrev pub change_ranges : {A : Type 0} → (A → Bool) → (A → A) → List (ℕ × ℕ) → List A → List A
change_ranges seen g [] xs = xs
change_ranges seen g ((p, q) ∷ ranges) xs = change_ranges seen g ranges (change_range seen p q g xs)

-- whether each range is within what is seen when its turn comes
abbrev pub ranges_fit : {A : Type 0} → (A → Bool) → (A → A) → List (ℕ × ℕ) → List A → Bool
ranges_fit seen g [] xs = true
ranges_fit seen g ((p, q) ∷ ranges) xs = nat_le q (len seen xs) && ranges_fit seen g ranges (change_range seen p q g xs)

-- the list after a pending edit of stage k, by what its message will see: the perspective (r, c), and the stages up to k
abbrev pub after_pending : ℕ → ℕ → ℕ → StageEdit → List ListElement → List ListElement
after_pending r c k (PutIn p props items) xs = put (expects r c (suc k)) no_run p (new_elements 0 (Local k) [] None props items) xs
after_pending r c k (TakenOut ranges) xs = change_ranges (expects r c (suc k)) (with_pending_removal k) ranges xs
after_pending r c k (Annotated ranges changes) xs = change_ranges (expects r c (suc k)) (with_pending_annotation k changes) ranges xs

-- whether it is in range there
abbrev pub fits_pending : ℕ → ℕ → ℕ → StageEdit → List ListElement → Bool
fits_pending r c k (PutIn p props items) xs = nat_le p (len (expects r c (suc k)) xs)
fits_pending r c k (TakenOut ranges) xs = ranges_fit (expects r c (suc k)) (with_pending_removal k) ranges xs
fits_pending r c k (Annotated ranges changes) xs = ranges_fit (expects r c (suc k)) (with_pending_annotation k changes) ranges xs

-- the list after an edit that is sequenced under number s by connection c with reference number r, where n elements were
-- sequenced before
abbrev pub after_sequenced : ℕ → ℕ → ℕ → ℕ → Option Stamp → StageEdit → List ListElement → List ListElement
after_sequenced s c r n by (PutIn p props items) xs = put (seen_by r c) is_pending p (new_elements n (Acked s c) [] by props items) xs
after_sequenced s c r n by (TakenOut ranges) xs = change_ranges (seen_by r c) (with_removal s c) ranges xs
after_sequenced s c r n by (Annotated ranges changes) xs = change_ranges (seen_by r c) (with_annotation changes) ranges xs

-- whether it is in range there
abbrev pub fits_sequenced : ℕ → ℕ → ℕ → StageEdit → List ListElement → Bool
fits_sequenced s c r (PutIn p props items) xs = nat_le p (len (seen_by r c) xs)
fits_sequenced s c r (TakenOut ranges) xs = ranges_fit (seen_by r c) (with_removal s c) ranges xs
fits_sequenced s c r (Annotated ranges changes) xs = ranges_fit (seen_by r c) (with_annotation changes) ranges xs

-- the list after an edit of the client's own at stage k + 1, by the view of the stage before
abbrev pub after_own : ℕ → StageEdit → List ListElement → List ListElement
after_own k (PutIn p props items) xs = put (seen k) no_run p (new_elements 0 (Local (suc k)) [] None props items) xs
after_own k (TakenOut ranges) xs = change_ranges (seen k) (with_pending_removal (suc k)) ranges xs
after_own k (Annotated ranges changes) xs = change_ranges (seen k) (with_pending_annotation (suc k) changes) ranges xs

-- whether it is in range there
abbrev pub fits_own : ℕ → StageEdit → List ListElement → Bool
fits_own k (PutIn p props items) xs = nat_le p (len (seen k) xs)
fits_own k (TakenOut ranges) xs = ranges_fit (seen k) (with_pending_removal (suc k)) ranges xs
fits_own k (Annotated ranges changes) xs = ranges_fit (seen k) (with_pending_annotation (suc k) changes) ranges xs

-- whether the edit has no more than one range, as the client's own has
abbrev pub has_one_range : StageEdit → Bool
has_one_range (PutIn p props items) = true
has_one_range (TakenOut ranges) = nat_le (length ranges) 1
has_one_range (Annotated ranges changes) = nat_le (length ranges) 1

-- what is known of the edit of stage k + 1 in a list, whose message has reference number r and connection c: that it is in
-- range, and made the list up to its stage from the list up to the stage before
pub record IsStanding (k r c : ℕ) (edit : StageEdit) (xs : List ListElement) : Type 0 where
  pub in_range : fits_pending r c (suc k) edit (list_up_to k xs) ≡ true
  pub made : list_up_to (suc k) xs ≡ after_pending r c (suc k) edit (list_up_to k xs)
