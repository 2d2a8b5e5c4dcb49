-- An edit of the client's own makes what is to be known of its stage, and keeps what is known of the lower ones.
use Rattle.std.proofs.Common.{◌≡◌, ℕ, zero, suc, ◌+◌, ◌<◌, Bool, true, false, not, ◌&&◌, ◌||◌, nat_le, List, [], ◌∷◌, ◌++◌, Option, Some, None, filter, refl, sym, ◌∙◌, ap, arith}
use Rattle.std.specs.List.{list_all, list_any}
use Rattle.std.proofs.lemmas.List.Folds.{list_any-append}
use Rattle.std.proofs.lemmas.Bool.Decides.{nat_tests}
use Rattle.ft_base.specs.declared.stamps.Stamp.{Stamp}
use Rattle.ft_base.specs.declared.stamps.Stamp.TheVariants.{Acked, Local}
use Rattle.ft_props.specs.declared.properties.Changes.{Changes}
use Rattle.ft_base.specs.Scan.{change_range, change_range_from, len, no_run, put, retain_map}
use Rattle.ft_base.specs.Visibility.{has_occurred, has_occurred_at_stage}
use Rattle.ft_base.proofs.Booleans.{all_four}
use Rattle.ft_props.specs.Properties.{PropertyList}
use Rattle.ft_props.specs.Element.{ElementContent, ListElement, new_elements, removal_stamp, seen, with_pending_annotation, with_pending_removal}
use Rattle.ft_props.proofs.AcknowledgedInsertion.{below_mark, below_stamp, element_up_to, expects, list_up_to}
use Rattle.ft_props.proofs.PlacedInsertion.{all-put, after_local_insertion-current, drop-put, expected-now, is_current, is_upto, list_up_to-now, mark_upto, more-current, own-stage, stamp_known}
use Rattle.ft_laws_agreement.proofs.StageEdits.{StageEdit, PutIn, TakenOut, Annotated, after_own, fits_own, has_one_range, after_pending, fits_pending, IsStanding}
use Rattle.ft_laws_agreement.proofs.RangesOfLists.{all-range}

-- ---- scans by two tests that agree on a list

module _ {A : Type 0} (is seen seen' : A → Bool) (same : (x : A) → is x ≡ true → seen' x ≡ seen x) where
  len-agree : (xs : List A) → list_all is xs ≡ true → len seen' xs ≡ len seen xs
  len-agree [] h = refl
  len-agree (x ∷ xs) h = grind (arith, len-agree xs, same x)

  put-agree : (past : A → Bool) (n : ℕ) (new xs : List A) → list_all is xs ≡ true → put seen' past n new xs ≡ put seen past n new xs
  put-agree past zero new xs h = refl
  put-agree past (suc n) new [] h = refl
  put-agree past (suc n) new (x ∷ xs) h = grind (arith, put-agree past n new xs, put-agree past (suc n) new xs, same x)

  range-agree : (p q i : ℕ) (g : A → A) (xs : List A) → list_all is xs ≡ true → change_range_from i seen' p q g xs ≡ change_range_from i seen p q g xs
  range-agree p q i g [] h = refl
  range-agree p q i g (x ∷ xs) h = grind (arith, range-agree p q i g xs, range-agree p q (suc i) g xs, same x)

-- a change that is left out again
pub range-left_out : {A : Type 0} (is keep seen : A → Bool) (f g : A → A) → ((x : A) → is x ≡ true → seen x ≡ true → keep (g x) ≡ keep x)
    → ((x : A) → is x ≡ true → seen x ≡ true → f (g x) ≡ f x)
    → (p q i : ℕ) (xs : List A) → list_all is xs ≡ true → retain_map keep f (change_range_from i seen p q g xs) ≡ retain_map keep f xs
range-left_out is keep seen f g k e p q i [] h = refl
range-left_out is keep seen f g k e p q i (x ∷ xs) h =
    grind (arith, range-left_out is keep seen f g k e p q i xs, range-left_out is keep seen f g k e p q (suc i) xs, k x, e x)

-- ---- what an edit makes at stage k + 1, by the view of stage k

later : (i k : ℕ) → i < suc k → nat_le (suc k) i ≡ false
later i k l = grind (arith, nat_tests)

pub later-insertion : (i k j : ℕ) (props : PropertyList) (items : List ElementContent) → i < suc k
    → list_any (is_upto i) (new_elements j (Local (suc k)) [] None props items) ≡ false
later-insertion i k j props [] l = refl
later-insertion i k j props (b ∷ bs) l = rw (later i k l) (later-insertion i k (j + 1) props bs l)

not_any : (a b : Bool) → a && not b ≡ true → b ≡ false
not_any true false h = refl
not_any true true h = (cc)
not_any false b h = (cc)

neither : (a b : Bool) → a || b ≡ false → b ≡ false
neither false false h = refl
neither true b h = (cc)
neither false true h = (cc)

unmarked-mark : (k : ℕ) (m : Option ℕ) → mark_upto k m ≡ true → list_any (has_occurred_at_stage k) (removal_stamp m) ≡ false → m ≡ None
unmarked-mark k None h g = refl
unmarked-mark k (Some j) h g = absurd (grind (arith, nat_tests))

module _ (r c k : ℕ) where
  -- what is seen isn't marked
  pub unmarked : (e : ListElement) → is_current r c k e ≡ true → seen k e ≡ true → e.removal_stage ≡ None
  unmarked e h g =
      let p = all_four (stamp_known r c k e.ins) (list_all (has_occurred r c) e.dels) (mark_upto k e.removal_stage) (list_all (λ q. nat_le q.0 k) e.pending) h in
      let none = not_any (has_occurred_at_stage k e.ins) (list_any (has_occurred_at_stage k) (e.dels ++ removal_stamp e.removal_stage)) g in
      unmarked-mark k e.removal_stage p.2
      (neither (list_any (has_occurred_at_stage k) e.dels) (list_any (has_occurred_at_stage k) (removal_stamp e.removal_stage))
      (sym (list_any-append (has_occurred_at_stage k) e.dels (removal_stamp e.removal_stage)) ∙ none))

  next-stamp : (t : Stamp) → stamp_known r c k t ≡ true → below_stamp (suc (suc k)) t ≡ below_stamp (suc k) t
  next-stamp (Acked s d) h = refl
  next-stamp (Local j) h = grind (arith, nat_tests)

  next-mark : (m : Option ℕ) → mark_upto k m ≡ true → below_mark (suc (suc k)) m ≡ below_mark (suc k) m
  next-mark None h = refl
  next-mark (Some j) h = grind (arith, nat_tests)

  -- the message will see what the client sees
  pub expected : (e : ListElement) → is_current r c k e ≡ true → expects r c (suc (suc k)) e ≡ seen k e
  expected e h =
      let p = all_four (stamp_known r c k e.ins) (list_all (has_occurred r c) e.dels) (mark_upto k e.removal_stage) (list_all (λ q. nat_le q.0 k) e.pending) h in
      ap (λ b. (has_occurred r c e.ins || b) && not (list_any (has_occurred r c) e.dels || below_mark (suc (suc k)) e.removal_stage)) (next-stamp e.ins p.0)
      ∙ ap (λ b. (has_occurred r c e.ins || below_stamp (suc k) e.ins) && not (list_any (has_occurred r c) e.dels || b)) (next-mark e.removal_stage p.2)
      ∙ expected-now r c k e h

  module _ (i : ℕ) (l : i < suc k) where
    removal-later : (e : ListElement) → is_current r c k e ≡ true → seen k e ≡ true → element_up_to i (with_pending_removal (suc k) e) ≡ element_up_to i e
    removal-later e h g = rw (unmarked e h g, later i k l) refl

    changes-later : (changes : Changes) (pending : List (ℕ × Changes)) → filter (λ p. nat_le p.0 i) (pending ++ ((suc k, changes) ∷ [])) ≡ filter (λ p. nat_le p.0 i) pending
    changes-later changes [] = rw (later i k l) refl
    changes-later changes (p ∷ pending) = grind (arith, changes-later changes pending)

    annotation-later : (changes : Changes) (e : ListElement) → element_up_to i (with_pending_annotation (suc k) changes e) ≡ element_up_to i e
    annotation-later changes e = rw (changes-later changes e.pending) refl

    insertion-below : (p : ℕ) (props : PropertyList) (items : List ElementContent) (xs : List ListElement)
        → list_up_to i (put (seen k) no_run p (new_elements 0 (Local (suc k)) [] None props items) xs) ≡ list_up_to i xs
    insertion-below p props items xs = drop-put (is_upto i) (seen k) (element_up_to i) p (new_elements 0 (Local (suc k)) [] None props items) xs
        (later-insertion i k 0 props items l)

    removal-below : (p q : ℕ) (xs : List ListElement) → list_all (is_current r c k) xs ≡ true
        → list_up_to i (change_range (seen k) p q (with_pending_removal (suc k)) xs) ≡ list_up_to i xs
    removal-below p q xs h = range-left_out (is_current r c k) (is_upto i) (seen k) (element_up_to i) (with_pending_removal (suc k)) (λ e f g. refl) removal-later p q 0 xs h

    annotation-below : (changes : Changes) (p q : ℕ) (xs : List ListElement) → list_all (is_current r c k) xs ≡ true
        → list_up_to i (change_range (seen k) p q (with_pending_annotation (suc k) changes) xs) ≡ list_up_to i xs
    annotation-below changes p q xs h =
        range-left_out (is_current r c k) (is_upto i) (seen k) (element_up_to i) (with_pending_annotation (suc k) changes) (λ e f g. refl)
        (λ e f g. annotation-later changes e) p q 0 xs h

  removal-current : (e : ListElement) → is_current r c (suc k) e ≡ true → is_current r c (suc k) (with_pending_removal (suc k) e) ≡ true
  removal-current e h =
      let p = all_four (stamp_known r c (suc k) e.ins) (list_all (has_occurred r c) e.dels) (mark_upto (suc k) e.removal_stage) (list_all (λ q. nat_le q.0 (suc k)) e.pending) h in
      rw (p.0, p.1, own-stage k, p.3) refl

  changes-current : (changes : Changes) (pending : List (ℕ × Changes)) → list_all (λ q. nat_le q.0 (suc k)) pending ≡ true
      → list_all (λ q. nat_le q.0 (suc k)) (pending ++ ((suc k, changes) ∷ [])) ≡ true
  changes-current changes [] h = rw (own-stage k) refl
  changes-current changes (p ∷ pending) h = grind (arith, changes-current changes pending)

  annotation-current : (changes : Changes) (e : ListElement) → is_current r c (suc k) e ≡ true → is_current r c (suc k) (with_pending_annotation (suc k) changes e) ≡ true
  annotation-current changes e h =
      let p = all_four (stamp_known r c (suc k) e.ins) (list_all (has_occurred r c) e.dels) (mark_upto (suc k) e.removal_stage) (list_all (λ q. nat_le q.0 (suc k)) e.pending) h in
      rw (p.0, p.1, p.2, changes-current changes e.pending p.3) refl

  -- the list that an edit makes is current
  pub own-current : (edit : StageEdit) (xs : List ListElement) → has_one_range edit ≡ true → list_all (is_current r c k) xs ≡ true
      → list_all (is_current r c (suc k)) (after_own k edit xs) ≡ true
  own-current (PutIn p props items) xs o h =
      all-put (is_current r c (suc k)) (seen k) p (new_elements 0 (Local (suc k)) [] None props items) xs (after_local_insertion-current r c k 0 props items)
      (more-current r c k xs h)
  own-current (TakenOut []) xs o h = more-current r c k xs h
  own-current (TakenOut (range ∷ [])) xs o h = all-range (is_current r c (suc k)) (seen k) (with_pending_removal (suc k)) removal-current range.0 range.1 0 xs
      (more-current r c k xs h)
  own-current (TakenOut (range ∷ other ∷ ranges)) xs o h = absurd (grind (arith, nat_tests))
  own-current (Annotated [] changes) xs o h = more-current r c k xs h
  own-current (Annotated (range ∷ []) changes) xs o h = all-range (is_current r c (suc k)) (seen k) (with_pending_annotation (suc k) changes)
      (annotation-current changes) range.0 range.1 0 xs (more-current r c k xs h)
  own-current (Annotated (range ∷ other ∷ ranges) changes) xs o h = absurd (grind (arith, nat_tests))

  -- the list up to a lower stage is as it was
  pub own-below : (i : ℕ) (edit : StageEdit) (xs : List ListElement) → i < suc k → has_one_range edit ≡ true → list_all (is_current r c k) xs ≡ true
      → list_up_to i (after_own k edit xs) ≡ list_up_to i xs
  own-below i (PutIn p props items) xs l o h = insertion-below i l p props items xs
  own-below i (TakenOut []) xs l o h = refl
  own-below i (TakenOut (range ∷ [])) xs l o h = removal-below i l range.0 range.1 xs h
  own-below i (TakenOut (range ∷ other ∷ ranges)) xs l o h = absurd (grind (arith, nat_tests))
  own-below i (Annotated [] changes) xs l o h = refl
  own-below i (Annotated (range ∷ []) changes) xs l o h = annotation-below i l changes range.0 range.1 xs h
  own-below i (Annotated (range ∷ other ∷ ranges) changes) xs l o h = absurd (grind (arith, nat_tests))

  -- the client's view is what the message will see
  own-as_pending : (edit : StageEdit) (xs : List ListElement) → has_one_range edit ≡ true → list_all (is_current r c k) xs ≡ true
      → after_pending r c (suc k) edit xs ≡ after_own k edit xs
  own-as_pending (PutIn p props items) xs o h = put-agree (is_current r c k) (seen k) (expects r c (suc (suc k))) expected no_run p
      (new_elements 0 (Local (suc k)) [] None props items) xs h
  own-as_pending (TakenOut []) xs o h = refl
  own-as_pending (TakenOut (range ∷ [])) xs o h = range-agree (is_current r c k) (seen k) (expects r c (suc (suc k))) expected range.0 range.1 0 (with_pending_removal (suc k)) xs h
  own-as_pending (TakenOut (range ∷ other ∷ ranges)) xs o h = absurd (grind (arith, nat_tests))
  own-as_pending (Annotated [] changes) xs o h = refl
  own-as_pending (Annotated (range ∷ []) changes) xs o h = range-agree (is_current r c k) (seen k) (expects r c (suc (suc k))) expected range.0 range.1 0
      (with_pending_annotation (suc k) changes) xs h
  own-as_pending (Annotated (range ∷ other ∷ ranges) changes) xs o h = absurd (grind (arith, nat_tests))

  own-as_fits : (edit : StageEdit) (xs : List ListElement) → has_one_range edit ≡ true → list_all (is_current r c k) xs ≡ true
      → fits_pending r c (suc k) edit xs ≡ fits_own k edit xs
  own-as_fits (PutIn p props items) xs o h = ap (nat_le p) (len-agree (is_current r c k) (seen k) (expects r c (suc (suc k))) expected xs h)
  own-as_fits (TakenOut []) xs o h = refl
  own-as_fits (TakenOut (range ∷ [])) xs o h = ap (λ n. nat_le range.1 n && true) (len-agree (is_current r c k) (seen k) (expects r c (suc (suc k))) expected xs h)
  own-as_fits (TakenOut (range ∷ other ∷ ranges)) xs o h = absurd (grind (arith, nat_tests))
  own-as_fits (Annotated [] changes) xs o h = refl
  own-as_fits (Annotated (range ∷ []) changes) xs o h = ap (λ n. nat_le range.1 n && true) (len-agree (is_current r c k) (seen k) (expects r c (suc (suc k))) expected xs h)
  own-as_fits (Annotated (range ∷ other ∷ ranges) changes) xs o h = absurd (grind (arith, nat_tests))

  -- an edit makes what is to be known of its stage
  pub own-stands : (edit : StageEdit) (xs : List ListElement) → has_one_range edit ≡ true → list_all (is_current r c k) xs ≡ true → fits_own k edit xs ≡ true
      → IsStanding k r c edit (after_own k edit xs)
  own-stands edit xs o h fits =
      let lower : list_up_to k (after_own k edit xs) ≡ xs = own-below k edit xs (omega arith) o h ∙ list_up_to-now r c k xs h in
      record {
        in_range = ap (fits_pending r c (suc k) edit) lower ∙ own-as_fits edit xs o h ∙ fits;
        made =
            list_up_to-now r c (suc k) (after_own k edit xs) (own-current edit xs o h)
            ∙ sym (own-as_pending edit xs o h)
            ∙ ap (after_pending r c (suc k) edit) (sym lower);
      }

-- what is known of a stage depends on the list up to it alone
pub stands-as : (i r c : ℕ) (edit : StageEdit) (xs ys : List ListElement) → list_up_to i ys ≡ list_up_to i xs → list_up_to (suc i) ys ≡ list_up_to (suc i) xs
    → IsStanding i r c edit xs → IsStanding i r c edit ys
stands-as i r c edit xs ys e f h = record {
  in_range = ap (fits_pending r c (suc i) edit) e ∙ h.in_range;
  made = f ∙ h.made ∙ ap (after_pending r c (suc i) edit) (sym e);
}

-- an edit keeps what is known of the lower stages
pub own-keeps : (i k r c n d : ℕ) (lower edit : StageEdit) (xs : List ListElement) → i < k → has_one_range edit ≡ true → list_all (is_current n d k) xs ≡ true
    → IsStanding i r c lower xs → IsStanding i r c lower (after_own k edit xs)
own-keeps i k r c n d lower edit xs l o h stands =
    stands-as i r c lower xs (after_own k edit xs) (own-below n d k i edit xs (omega arith) o h) (own-below n d k (suc i) edit xs (omega arith) o h) stands
