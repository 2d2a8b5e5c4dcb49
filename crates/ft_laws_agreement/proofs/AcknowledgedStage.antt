-- The acknowledgement of a stage in one list: without what is pending, the list is that after the sequenced edit; and what is
-- known of each higher stage stays.
use Rattle.std.proofs.Common.{◌≡◌, ℕ, suc, ◌+◌, Bool, true, false, cond, not, ◌&&◌, ◌||◌, nat_le, nat_eq, List, [], ◌∷◌, ◌++◌, Option, Some, None, map, filter, refl, sym, ◌∙◌, ap, arith, append-nil, add-zero}
use Rattle.std.specs.List.{list_all, list_any}
use Rattle.std.proofs.lemmas.List.Folds.{list_any-append}
use Rattle.std.proofs.lemmas.Bool.Decides.{nat_tests}
use Rattle.ft_base.specs.declared.stamps.Stamp.{Stamp}
use Rattle.ft_base.specs.declared.stamps.Stamp.TheVariants.{Acked, Local}
use Rattle.ft_props.specs.declared.properties.Changes.{Changes}
use Rattle.ft_base.specs.Scan.{put}
use Rattle.ft_base.specs.Visibility.{has_occurred, has_occurred_at_stage, is_acked}
use Rattle.ft_base.proofs.Booleans.{all_three, both}
use Rattle.ft_props.specs.Properties.{PropertyList, change}
use Rattle.ft_props.specs.Element.{ElementContent, ListElement, is_pending, is_sequenced, new_elements, seen_by, sequenced_elements, with_annotation, with_pending_annotation, with_pending_removal, with_removal, without_pending}
use Rattle.ft_props.specs.Steps.{acked_element, acked_props, acked_removal, acked_stamp, author, remaining_removal}
use Rattle.ft_props.proofs.AcknowledgedInsertion.{acked-fixed, below_mark, below_stamp, expects, from_mark, from_stamp, is_from, list_up_to, map-fixed, removal_up_to, same_nat, sequenced_elements-acked}
use Rattle.ft_laws_agreement.proofs.StageEdits.{StageEdit, PutIn, TakenOut, Annotated, after_pending, fits_pending, after_sequenced, fits_sequenced, IsStanding}
use Rattle.ft_laws_agreement.proofs.RangesOfLists.{all-retain_map, fit-map, len-map, put-map, ranges-map}

-- nothing but what is of stage k is pending on it
abbrev pub only_stamp : ℕ → Stamp → Bool
only_stamp k (Acked s c) = true
only_stamp k (Local j) = nat_eq j k

abbrev pub only_mark : ℕ → Option ℕ → Bool
only_mark k None = true
only_mark k (Some j) = nat_eq j k

abbrev pub is_only : ℕ → ListElement → Bool
is_only k e = only_stamp k e.ins && only_mark k e.removal_stage

acked_props-append : (k : ℕ) (props : PropertyList) (pending : List (ℕ × Changes)) (changes : Changes) → acked_props k props (pending ++ ((k, changes) ∷ []))
    ≡ change (acked_props k props pending) changes
acked_props-append k props [] changes = rw (same_nat k) refl
acked_props-append k props ((j, other) ∷ pending) changes = acked_props-append k (cond (nat_eq j k) (change props other) props) pending changes

filter-append : {A : Type 0} (test : A → Bool) (xs : List A) (x : A) → filter test (xs ++ (x ∷ [])) ≡ filter test xs ++ filter test (x ∷ [])
filter-append test [] x = refl
filter-append test (y ∷ xs) x = grind (arith, filter-append test xs x)

stamp-acked : (k s c r : ℕ) (t : Stamp) → only_stamp k t ≡ true → has_occurred r c (acked_stamp k s c t) ≡ (has_occurred r c t || below_stamp (suc k) t)
stamp-acked k s c r (Acked seq conn) h = grind (arith, nat_tests)
stamp-acked k s c r (Local j) h = grind (arith, nat_tests)

mark-acked : (k s c r : ℕ) (m : Option ℕ) → only_mark k m ≡ true → list_any (has_occurred r c) (acked_removal k s c m) ≡ below_mark (suc k) m
mark-acked k s c r None h = refl
mark-acked k s c r (Some j) h = grind (arith, nat_tests)

left-acked : (k : ℕ) (m : Option ℕ) → only_mark k m ≡ true → remaining_removal k m ≡ None
left-acked k None h = refl
left-acked k (Some j) h = rw h refl

-- the message (s, c) makes elements of these contents with this author
abbrev pub HaveAuthor : ℕ → ℕ → Option Stamp → List ElementContent → Type 0
HaveAuthor s c by [] = Unit {0}
HaveAuthor s c by (b ∷ bs) = (author s c b ≡ by) × HaveAuthor s c by bs

-- the same of what an edit puts in, if it does
abbrev pub HasAuthor : ℕ → ℕ → Option Stamp → StageEdit → Type 0
HasAuthor s c by (PutIn p props items) = HaveAuthor s c by items
HasAuthor s c by (TakenOut ranges) = Unit {0}
HasAuthor s c by (Annotated ranges changes) = Unit {0}

acked-only : (k : ℕ) (t : Stamp) → is_acked t ≡ true → only_stamp k t ≡ true
acked-only k (Acked s c) h = refl
acked-only k (Local j) h = (cc)

-- without what is pending on it a list is all of any stage
without-only : (k : ℕ) (xs : List ListElement) → list_all (is_only k) (sequenced_elements xs) ≡ true
without-only k xs = all-retain_map is_sequenced without_pending (is_only k) (λ e h. rw (acked-only k e.ins h) refl) xs

stamp-not_pending : (k s c : ℕ) (t : Stamp) → only_stamp k t ≡ true → not (is_acked (acked_stamp k s c t)) ≡ false
stamp-not_pending k s c (Acked r d) h = refl
stamp-not_pending k s c (Local j) h = rw h refl

only-removal : (k : ℕ) (e : ListElement) → is_only k e ≡ true → is_only k (with_pending_removal k e) ≡ true
only-removal k e h = rw ((both (only_stamp k e.ins) (only_mark k e.removal_stage) h).0, same_nat k) refl

-- a mark of the stage itself isn't on what the message expects to see
unmarked-mark : (k : ℕ) (m : Option ℕ) → only_mark k m ≡ true → below_mark (suc k) m ≡ false → m ≡ None
unmarked-mark k None h g = refl
unmarked-mark k (Some j) h g = absurd (grind (arith, nat_tests))

not_either : (a b c : Bool) → a && not (b || c) ≡ true → c ≡ false
not_either true false false h = refl
not_either true false true h = (cc)
not_either true true c h = (cc)
not_either false b c h = (cc)

unmarked : (r c k : ℕ) (e : ListElement) → only_mark k e.removal_stage ≡ true → expects r c (suc k) e ≡ true → e.removal_stage ≡ None
unmarked r c k e h g =
    unmarked-mark k e.removal_stage h (not_either (has_occurred r c e.ins || below_stamp (suc k) e.ins) (list_any (has_occurred r c) e.dels) (below_mark (suc k) e.removal_stage) g)

module _ (k n s c r : ℕ) where
  -- after the acknowledgement its message sees what it expects before
  seen-acked : (e : ListElement) → is_only k e ≡ true → seen_by r c (acked_element k n s c e) ≡ expects r c (suc k) e
  seen-acked e h =
      let p = both (only_stamp k e.ins) (only_mark k e.removal_stage) h in
      rw (
        left-acked k e.removal_stage p.1,
        append-nil (e.dels ++ acked_removal k s c e.removal_stage),
        list_any-append (has_occurred r c) e.dels (acked_removal k s c e.removal_stage),
        stamp-acked k s c r e.ins p.0,
        mark-acked k s c r e.removal_stage p.1,
      ) refl

  made-acked : (i : ℕ) (by : Option Stamp) (props : PropertyList) (items : List ElementContent) → HaveAuthor s c by items
      → map (acked_element k n s c) (new_elements i (Local k) [] None props items) ≡ new_elements (n + i) (Acked s c) [] by props items
  made-acked i by props [] h = refl
  made-acked i by props (b ∷ bs) h =
      let stage : nat_eq k k ≡ true = same_nat k in
      let next : n + (i + 1) ≡ n + i + 1 = omega arith in
      rw (stage, h.0, made-acked (i + 1) by props bs h.1, next) refl

  removal-acked : (e : ListElement) → is_only k e ≡ true → expects r c (suc k) e ≡ true → acked_element k n s c (with_pending_removal k e)
      ≡ with_removal s c (acked_element k n s c e)
  removal-acked e h g =
      let p = both (only_stamp k e.ins) (only_mark k e.removal_stage) h in
      let none = unmarked r c k e p.1 g in
      let stage : nat_eq k k ≡ true = same_nat k in
      rw (none, stage, append-nil e.dels) refl

  annotation-acked : (changes : Changes) (e : ListElement) → is_only k e ≡ true → expects r c (suc k) e ≡ true
      → acked_element k n s c (with_pending_annotation k changes e) ≡ with_annotation changes (acked_element k n s c e)
  annotation-acked changes e h g =
      let stage : nat_eq k k ≡ true = same_nat k in
      rw (
        acked_props-append k e.props e.pending changes,
        filter-append (λ p. not (nat_eq p.0 k)) e.pending (k, changes),
        stage,
        append-nil
            (filter (λ p. not (nat_eq p.0 k)) e.pending),
      ) refl

  pending-acked : (e : ListElement) → is_only k e ≡ true → is_pending (acked_element k n s c e) ≡ false
  pending-acked e h = stamp-not_pending k s c e.ins (both (only_stamp k e.ins) (only_mark k e.removal_stage) h).0

  -- the pending edit, acknowledged, is the sequenced edit of the list acknowledged
  after_pending-acked : (by : Option Stamp) (edit : StageEdit) (xs : List ListElement) → HasAuthor s c by edit → list_all (is_only k) xs ≡ true
      → map (acked_element k n s c) (after_pending r c k edit xs) ≡ after_sequenced s c r n by edit (map (acked_element k n s c) xs)
  after_pending-acked by (PutIn p props items) xs a h =
      put-map (is_only k) (expects r c (suc k)) (seen_by r c) (acked_element k n s c) seen-acked is_pending pending-acked p (new_elements 0 (Local k) [] None props items) xs h
      ∙ ap (λ new. put (seen_by r c) is_pending p new (map (acked_element k n s c) xs)) (rw add-zero at (made-acked 0 by props items a))
  after_pending-acked by (TakenOut ranges) xs a h =
      ranges-map (is_only k) (expects r c (suc k)) (seen_by r c) (acked_element k n s c) (with_pending_removal k) (with_removal s c) seen-acked removal-acked
      (only-removal k) ranges xs h
  after_pending-acked by (Annotated ranges changes) xs a h =
      ranges-map (is_only k) (expects r c (suc k)) (seen_by r c) (acked_element k n s c) (with_pending_annotation k changes) (with_annotation changes)
      seen-acked (annotation-acked changes) (λ e g. g) ranges xs h

  fits-acked : (edit : StageEdit) (xs : List ListElement) → list_all (is_only k) xs ≡ true → fits_sequenced s c r edit (map (acked_element k n s c) xs) ≡ fits_pending r c k edit xs
  fits-acked (PutIn p props items) xs h = ap (nat_le p) (len-map (is_only k) (expects r c (suc k)) (seen_by r c) (acked_element k n s c) seen-acked xs h)
  fits-acked (TakenOut ranges) xs h =
      fit-map (is_only k) (expects r c (suc k)) (seen_by r c) (acked_element k n s c) (with_pending_removal k) (with_removal s c) seen-acked removal-acked
      (only-removal k) ranges xs h
  fits-acked (Annotated ranges changes) xs h =
      fit-map (is_only k) (expects r c (suc k)) (seen_by r c) (acked_element k n s c) (with_pending_annotation k changes) (with_annotation changes) seen-acked
      (annotation-acked changes) (λ e g. g) ranges xs h

  acked-sequenced : (xs : List ListElement) → map (acked_element k n s c) (sequenced_elements xs) ≡ sequenced_elements xs
  acked-sequenced xs = map-fixed is_sequenced without_pending (acked_element k n s c) (acked-fixed k n s c) xs

-- what stands below the lowest stage is the list without what is pending
below-stamp : (k : ℕ) (t : Stamp) → from_stamp (suc k) t ≡ true → has_occurred_at_stage k t ≡ is_acked t
below-stamp k (Acked s c) h = refl
below-stamp k (Local j) h = grind (arith, nat_tests)

below-removal : (k : ℕ) (m : Option ℕ) → from_mark (suc k) m ≡ true → removal_up_to k m ≡ None
below-removal k None h = refl
below-removal k (Some j) h = grind (arith, nat_tests)

below-changes : (k : ℕ) (pending : List (ℕ × Changes)) → list_all (λ p. nat_le (suc k) p.0) pending ≡ true → filter (λ p. nat_le p.0 k) pending ≡ []
below-changes k [] h = refl
below-changes k ((j, changes) ∷ pending) h = grind (arith, nat_tests, below-changes k pending)

pub list_up_to-lowest : (k : ℕ) (xs : List ListElement) → list_all (is_from (suc k)) xs ≡ true → list_up_to k xs ≡ sequenced_elements xs
list_up_to-lowest k [] h = refl
list_up_to-lowest k (e ∷ xs) h =
    let here = both (is_from (suc k) e) (list_all (is_from (suc k)) xs) h in
    let p = all_three (from_stamp (suc k) e.ins) (from_mark (suc k) e.removal_stage) (list_all (λ p. nat_le (suc k) p.0) e.pending) here.0 in
    rw (below-stamp k e.ins p.0, below-removal k e.removal_stage p.1, below-changes k e.pending p.2, list_up_to-lowest k xs here.1) refl

-- the acknowledgement of the lowest stage, without what is pending
pub acknowledged-sequenced : (k n s c r : ℕ) (by : Option Stamp) (edit : StageEdit) (xs : List ListElement) → HasAuthor s c by edit
    → list_all (is_from (suc k)) xs ≡ true → IsStanding k r c edit xs
    → sequenced_elements (map (acked_element (suc k) n s c) xs) ≡ after_sequenced s c r n by edit (sequenced_elements xs)
acknowledged-sequenced k n s c r by edit xs a lowest h =
    sequenced_elements-acked (suc k) n s c xs lowest
    ∙ ap (map (acked_element (suc k) n s c)) (h.made ∙ ap (after_pending r c (suc k) edit) (list_up_to-lowest k xs lowest))
    ∙ after_pending-acked (suc k) n s c r by edit (sequenced_elements xs) a (without-only (suc k) xs)
    ∙ ap (after_sequenced s c r n by edit) (acked-sequenced (suc k) n s c r xs)

pub acknowledged-fits : (k s c r : ℕ) (edit : StageEdit) (xs : List ListElement) → list_all (is_from (suc k)) xs ≡ true → IsStanding k r c edit xs
    → fits_sequenced s c r edit (sequenced_elements xs) ≡ true
acknowledged-fits k s c r edit xs lowest h =
    ap (fits_sequenced s c r edit) (sym (acked-sequenced (suc k) 0 s c r xs))
    ∙ fits-acked (suc k) 0 s c r edit (sequenced_elements xs) (without-only (suc k) xs)
    ∙ ap (fits_pending r c (suc k) edit) (sym (list_up_to-lowest k xs lowest)) ∙ h.in_range
