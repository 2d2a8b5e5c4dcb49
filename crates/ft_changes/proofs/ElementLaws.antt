-- The changes of the shown elements by one step of a list.
use Rattle.std.proofs.Common.{◌≡◌, ℕ, ◌+◌, Bool, true, false, not, ◌&&◌, List, [], ◌∷◌, ◌++◌, Option, refl, sym, ◌∙◌, ap, arith}
use Rattle.std.specs.List.{list_any}
use Rattle.ft_base.specs.declared.stamps.Stamp.{Stamp}
use Rattle.ft_base.specs.declared.stamps.Stamp.TheVariants.{Acked}
use Rattle.ft_base.specs.Scan.{change_range}
use Rattle.ft_base.specs.Visibility.{has_occurred_at_stage, is_acked}
use Rattle.ft_props.specs.declared.properties.Changes.{Changes}
use Rattle.ft_props.specs.Properties.{PropertyList}
use Rattle.ft_props.specs.Element.{ElementContent, ListElement, is_pending, is_unremoved, new_elements, removal_stamp, seen, seen_by, with_annotation, with_removal}
use Rattle.ft_props.specs.Steps.{Sequence, after_insertion, after_removal}
use Rattle.ft_changes.specs.ShownRuns.{changed_runs, gone_runs, place_of_insertion, put_in, with_runs, without_runs}
use Rattle.ft_changes.specs.Shown.{restyled, shown_element, shown_elements, shown_properties, styled_elements}
use Rattle.ft_changes.proofs.RunLaws.{put-shown, gone-shown, changed-shown}

-- a test that one in the middle passes
pub any-middle : {A : Type 0} (test : A → Bool) (x : A) → test x ≡ true → (xs ys : List A) → list_any test ((xs ++ x ∷ []) ++ ys) ≡ true
any-middle test x t [] ys = grind (arith, t)
any-middle test x t (z ∷ xs) ys = grind (arith, any-middle test x t xs ys)

and-not : (b c : Bool) → c ≡ true → b && not c ≡ false
and-not true c e = ap not e
and-not false c e = refl

-- an element with a sequenced removal isn't seen at any stage
pub removed-hidden : (k s c : ℕ) (e : ListElement) → seen k (with_removal s c e) ≡ false
removed-hidden k s c e = and-not (has_occurred_at_stage k e.ins) _ (any-middle (has_occurred_at_stage k) (Acked s c) refl e.dels (removal_stamp e.removal_stage))

-- nor is it unremoved
pub removed-gone : (s c : ℕ) (e : ListElement) → is_unremoved (with_removal s c e) ≡ false
removed-gone s c e = and-not (is_acked e.ins) _ (any-middle is_acked (Acked s c) refl e.dels (removal_stamp e.removal_stage))

new-shown : (k n s c : ℕ) (by : Option Stamp) (props : PropertyList) (bs : List ElementContent)
    → shown_elements k (new_elements n (Acked s c) [] by props bs) ≡ styled_elements props bs
new-shown k n s c by props [] = refl
new-shown k n s c by props (b ∷ bs) = ap (λ es. record { content = b; props = props } ∷ es) (new-shown k (n + 1) s c by props bs)

module _ (k s c r : ℕ) where
  pub insertion-shown : (p : ℕ) (by : Option Stamp) (props : PropertyList) (bs : List ElementContent) (list : Sequence)
      → shown_elements k (after_insertion s c r p by props bs list).items ≡ put_in (place_of_insertion (seen_by r c) is_pending (seen k) p list.items) (styled_elements props bs) (shown_elements k list.items)
  insertion-shown p by props bs list =
      put-shown (seen_by r c) is_pending (seen k) shown_element p (new_elements list.made (Acked s c) [] by props bs) list.items
      ∙ ap (λ es. put_in (place_of_insertion (seen_by r c) is_pending (seen k) p list.items) es (shown_elements k list.items)) (new-shown k list.made s c by props bs)

  pub removal-shown : (p q : ℕ) (list : Sequence)
      → shown_elements k (after_removal s c r p q list).items ≡ without_runs (gone_runs (seen_by r c) (seen k) p q list.items) (shown_elements k list.items)
  removal-shown p q list = sym (gone-shown (seen_by r c) (seen k) shown_element p q (with_removal s c) (removed-hidden k s c) list.items)

  pub annotation-shown : (same : PropertyList → PropertyList → Bool) (same-is : (a b : PropertyList) → same a b ≡ true → a ≡ b) (p q : ℕ) (changes : Changes) (xs : List ListElement)
      → shown_elements k (change_range (seen_by r c) p q (with_annotation changes) xs)
      ≡ with_runs restyled (changed_runs same shown_properties (with_annotation changes) (seen_by r c) (seen k) p q xs) (shown_elements k xs)
  annotation-shown same same-is p q changes xs =
      sym (changed-shown same same-is restyled (seen_by r c) (seen k) shown_element shown_properties (with_annotation changes) p q (λ e. refl) (λ e. refl)
      (λ e same_props. ap (λ props. record { content = e.content; props = props }) (sym (same-is (shown_properties e) (shown_properties (with_annotation changes e)) same_props))) xs)
