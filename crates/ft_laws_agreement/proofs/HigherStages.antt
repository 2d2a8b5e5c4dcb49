-- The acknowledgement of a stage keeps what is known of each higher stage.
use Rattle.std.proofs.Common.{◌≡◌, ℕ, suc, ◌+◌, ◌≤◌, ◌<◌, Bool, true, false, cond, not, ◌&&◌, ◌||◌, nat_le, nat_eq, List, [], ◌∷◌, ◌++◌, Option, Some, None, map, filter, refl, sym, ◌∙◌, ap, arith}
use Rattle.std.specs.List.{list_all, list_any}
use Rattle.std.proofs.lemmas.List.Folds.{list_any-append}
use Rattle.std.proofs.lemmas.Bool.Decides.{nat_tests}
use Rattle.ft_base.specs.declared.stamps.Stamp.{Stamp}
use Rattle.ft_base.specs.declared.stamps.Stamp.TheVariants.{Acked, Local}
use Rattle.ft_props.specs.declared.properties.Changes.{Changes}
use Rattle.ft_base.specs.Scan.{no_run, put}
use Rattle.ft_base.specs.Visibility.{has_occurred, has_occurred_at_stage}
use Rattle.ft_props.specs.Properties.{PropertyList, change}
use Rattle.ft_props.specs.Element.{ElementContent, ListElement, new_elements, with_pending_annotation, with_pending_removal}
use Rattle.ft_props.specs.Steps.{acked_element, acked_props, acked_removal, acked_stamp, remaining_removal}
use Rattle.ft_props.proofs.AcknowledgedInsertion.{below_mark, below_stamp, element_up_to, expects, list_up_to, removal_up_to, map-choice}
use Rattle.ft_laws_agreement.proofs.StageEdits.{StageEdit, PutIn, TakenOut, Annotated, after_pending, fits_pending, IsStanding}
use Rattle.ft_laws_agreement.proofs.RangesOfLists.{fit-map, len-map, put-map, ranges-map}

-- ---- the list up to a stage that isn't below the acknowledged one

stamp-reached : (j k s d : ℕ) (t : Stamp) → j ≤ k → has_occurred_at_stage k (acked_stamp j s d t) ≡ has_occurred_at_stage k t
stamp-reached j k s d (Acked r c) l = refl
stamp-reached j k s d (Local i) l = grind (arith, nat_tests)

removal-reached : (j k s d : ℕ) (m : Option ℕ) → j ≤ k → acked_removal j s d (removal_up_to k m) ≡ acked_removal j s d m
removal-reached j k s d None l = refl
removal-reached j k s d (Some i) l = grind (arith, nat_tests)

mark-left : (j k : ℕ) (m : Option ℕ) → removal_up_to k (remaining_removal j m) ≡ remaining_removal j (removal_up_to k m)
mark-left j k None = refl
mark-left j k (Some i) = grind (arith, nat_tests)

props-reached : (j k : ℕ) (props : PropertyList) (pending : List (ℕ × Changes)) → j ≤ k → acked_props j props (filter (λ p. nat_le p.0 k) pending) ≡ acked_props j props pending
props-reached j k props [] l = refl
props-reached j k props ((i, changes) ∷ pending) l = grind (arith, nat_tests, props-reached j k props pending l, props-reached j k (change props changes) pending l)

changes-left : (j k : ℕ) (pending : List (ℕ × Changes))
    → filter (λ p. nat_le p.0 k) (filter (λ p. not (nat_eq p.0 j)) pending) ≡ filter (λ p. not (nat_eq p.0 j)) (filter (λ p. nat_le p.0 k) pending)
changes-left j k [] = refl
changes-left j k (p ∷ pending) = grind (arith, changes-left j k pending)

module _ (j n s d : ℕ) where
  element_up_to-acked : (k : ℕ) (e : ListElement) → j ≤ k → element_up_to k (acked_element j n s d e) ≡ acked_element j n s d (element_up_to k e)
  element_up_to-acked k e l =
      rw (removal-reached j k s d e.removal_stage l, mark-left j k e.removal_stage, props-reached j k e.props e.pending l, changes-left j k e.pending) refl

  pub list_up_to-acked : (k : ℕ) (xs : List ListElement) → j ≤ k → list_up_to k (map (acked_element j n s d) xs) ≡ map (acked_element j n s d) (list_up_to k xs)
  list_up_to-acked k [] l = refl
  list_up_to-acked k (e ∷ xs) l =
      rw (stamp-reached j k s d e.ins l, element_up_to-acked k e l, list_up_to-acked k xs l)
      (map-choice (acked_element j n s d) (has_occurred_at_stage k e.ins) (element_up_to k e ∷ list_up_to k xs) (list_up_to k xs))

  -- ---- a pending edit above the acknowledged stage

  module _ (r c k : ℕ) (known : nat_le s r || nat_eq d c ≡ true) (below : j < k) where
    stamp-expected : (t : Stamp) → (has_occurred r c (acked_stamp j s d t) || below_stamp (suc k) (acked_stamp j s d t)) ≡ (has_occurred r c t || below_stamp (suc k) t)
    stamp-expected (Acked seq conn) = refl
    stamp-expected (Local i) = grind (arith, nat_tests)

    mark-expected : (m : Option ℕ) → (list_any (has_occurred r c) (acked_removal j s d m) || below_mark (suc k) (remaining_removal j m)) ≡ below_mark (suc k) m
    mark-expected None = refl
    mark-expected (Some i) = grind (arith, nat_tests)

    or_assoc : (a b e : Bool) → (a || b) || e ≡ a || (b || e)
    or_assoc true b e = refl
    or_assoc false b e = refl

    pub as_expected : (e : ListElement) → expects r c (suc k) (acked_element j n s d e) ≡ expects r c (suc k) e
    as_expected e =
        rw (
          list_any-append (has_occurred r c) e.dels (acked_removal j s d e.removal_stage),
          stamp-expected e.ins,
          or_assoc (list_any (has_occurred r c) e.dels) (list_any (has_occurred r c) (acked_removal j s d e.removal_stage))
              (below_mark (suc k) (remaining_removal j e.removal_stage)),
          mark-expected e.removal_stage,
        ) refl

    another : nat_eq k j ≡ false
    another = grind (arith, nat_tests)

    unmarked-mark : (m : Option ℕ) → below_mark (suc k) m ≡ false → acked_removal j s d m ≡ []
    unmarked-mark None h = refl
    unmarked-mark (Some i) h = grind (arith, nat_tests)

    not_either : (a b f : Bool) → a && not (b || f) ≡ true → f ≡ false
    not_either true false false h = refl
    not_either true false true h = (cc)
    not_either true true f h = (cc)
    not_either false b f h = (cc)

    removal-acked : (e : ListElement) → expects r c (suc k) e ≡ true → acked_element j n s d (with_pending_removal k e) ≡ with_pending_removal k (acked_element j n s d e)
    removal-acked e h =
        let none = unmarked-mark e.removal_stage (not_either (has_occurred r c e.ins || below_stamp (suc k) e.ins) (list_any (has_occurred r c) e.dels)
        (below_mark (suc k) e.removal_stage) h) in
        rw (none, another) refl

    props-acked : (changes : Changes) (props : PropertyList) (pending : List (ℕ × Changes)) → acked_props j props (pending ++ ((k, changes) ∷ [])) ≡ acked_props j props pending
    props-acked changes props [] = rw another refl
    props-acked changes props ((i, other) ∷ pending) = props-acked changes (cond (nat_eq i j) (change props other) props) pending

    changes-acked : (changes : Changes) (pending : List (ℕ × Changes)) → filter (λ p. not (nat_eq p.0 j)) (pending ++ ((k, changes) ∷ []))
        ≡ filter (λ p. not (nat_eq p.0 j)) pending ++ ((k, changes) ∷ [])
    changes-acked changes [] = rw another refl
    changes-acked changes (p ∷ pending) = grind (arith, changes-acked changes pending)

    annotation-acked : (changes : Changes) (e : ListElement) → acked_element j n s d (with_pending_annotation k changes e)
        ≡ with_pending_annotation k changes (acked_element j n s d e)
    annotation-acked changes e = rw (props-acked changes e.props e.pending, changes-acked changes e.pending) refl

    made-acked : (i : ℕ) (props : PropertyList) (items : List ElementContent) → map (acked_element j n s d) (new_elements i (Local k) [] None props items)
        ≡ new_elements i (Local k) [] None props items
    made-acked i props [] = refl
    made-acked i props (b ∷ bs) = rw (another, made-acked (i + 1) props bs) refl

    all_true : (xs : List ListElement) → list_all (λ e. true) xs ≡ true
    all_true [] = refl
    all_true (e ∷ xs) = all_true xs

    pub higher-acked : (edit : StageEdit) (xs : List ListElement) → after_pending r c k edit (map (acked_element j n s d) xs)
        ≡ map (acked_element j n s d) (after_pending r c k edit xs)
    higher-acked (PutIn p props items) xs =
        sym (put-map (λ e. true) (expects r c (suc k)) (expects r c (suc k)) (acked_element j n s d) (λ e h. as_expected e) no_run (λ e h. refl) p
        (new_elements 0 (Local k) [] None props items) xs (all_true xs)
        ∙ ap (λ new. put (expects r c (suc k)) no_run p new (map (acked_element j n s d) xs)) (made-acked 0 props items))
    higher-acked (TakenOut ranges) xs =
        sym (ranges-map (λ e. true) (expects r c (suc k)) (expects r c (suc k)) (acked_element j n s d) (with_pending_removal k) (with_pending_removal k)
        (λ e h. as_expected e) (λ e h g. removal-acked e g) (λ e h. refl) ranges xs (all_true xs))
    higher-acked (Annotated ranges changes) xs =
        sym (ranges-map (λ e. true) (expects r c (suc k)) (expects r c (suc k)) (acked_element j n s d) (with_pending_annotation k changes)
        (with_pending_annotation k changes) (λ e h. as_expected e) (λ e h g. annotation-acked changes e) (λ e h. refl) ranges xs (all_true xs))

    pub higher-fits : (edit : StageEdit) (xs : List ListElement) → fits_pending r c k edit (map (acked_element j n s d) xs) ≡ fits_pending r c k edit xs
    higher-fits (PutIn p props items) xs = ap (nat_le p) (len-map (λ e. true) (expects r c (suc k)) (expects r c (suc k)) (acked_element j n s d)
        (λ e h. as_expected e) xs (all_true xs))
    higher-fits (TakenOut ranges) xs =
        fit-map (λ e. true) (expects r c (suc k)) (expects r c (suc k)) (acked_element j n s d) (with_pending_removal k) (with_pending_removal k)
        (λ e h. as_expected e) (λ e h g. removal-acked e g) (λ e h. refl) ranges xs (all_true xs)
    higher-fits (Annotated ranges changes) xs =
        fit-map (λ e. true) (expects r c (suc k)) (expects r c (suc k)) (acked_element j n s d) (with_pending_annotation k changes)
        (with_pending_annotation k changes) (λ e h. as_expected e) (λ e h g. annotation-acked changes e) (λ e h. refl) ranges xs (all_true xs)

  -- where the message of stage k + 1 sees the acknowledged edit
  pub acknowledgement-keeps : (r c k : ℕ) (edit : StageEdit) (xs : List ListElement) → nat_le s r || nat_eq d c ≡ true → j ≤ k → IsStanding k r c edit xs
      → IsStanding k r c edit (map (acked_element j n s d) xs)
  acknowledgement-keeps r c k edit xs known l h =
      let below : j < suc k = omega arith in
      let above : j ≤ suc k = omega arith in
      record {
        in_range = ap (fits_pending r c (suc k) edit) (list_up_to-acked k xs l) ∙ higher-fits r c (suc k) known below edit (list_up_to k xs) ∙ h.in_range;
        made =
            list_up_to-acked (suc k) xs above
            ∙ ap (map (acked_element j n s d)) h.made
            ∙ sym (higher-acked r c (suc k) known below edit (list_up_to k xs))
            ∙ ap (after_pending r c (suc k) edit) (sym (list_up_to-acked k xs l));
      }
