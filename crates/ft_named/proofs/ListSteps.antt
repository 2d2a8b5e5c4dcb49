-- One step of a list, of any content: the elements of the tree stay those of the document's list, its names stay well numbered,
-- and it is told where the element of each name stands afterwards.
use Rattle.std.proofs.Common.{◌≡◌, ℕ, zero, suc, ◌+◌, ◌≤◌, Bool, true, false, not, cond, List, [], ◌∷◌, Option, refl, sym, ◌∙◌, ap, subst, arith, length, map}
use Rattle.std.specs.List.{list_all, prefix_len}
use Rattle.ft_base.specs.declared.stamps.Stamp.{Stamp}
use Rattle.ft_base.specs.declared.stamps.Stamp.TheVariants.{Acked, Local}
use Rattle.ft_base.specs.declared.elements.Perspective.{Perspective}
use Rattle.ft_base.specs.Scan.{change_range, len, one_more_if, put}
use Rattle.ft_base.specs.Visibility.{is_acked}
use Rattle.ft_block.specs.declared.leaves.LenView.TheVariants.{At}
use Rattle.ft_tree_leaves.specs.Elements.{TreeElement, new_elements, removed_stamps, seen_in, with_overlay, with_stamps}
use Rattle.ft_tree_leaves.specs.Elements.{is_pending as tree_pending}
use Rattle.ft_tree_leaves.specs.Places.{put_place, shifted_place}
use Rattle.ft_props.specs.declared.properties.Changes.{Changes}
use Rattle.ft_props.specs.Element.{ElementContent, ElementId, ListElement, has_id, is_pending, same_id, seen_by, with_annotation, with_pending_annotation, with_pending_removal, with_removal}
use Rattle.ft_props.specs.Element.{new_elements as document_elements}
use Rattle.ft_props.specs.Overlay.{after_acked_changes}
use Rattle.ft_props.specs.Properties.{PropertyList}
use Rattle.ft_props.specs.Steps.{Sequence, after_insertion, after_removal}
use Rattle.ft_msg.specs.Answers.{count_held}
use Rattle.ft_laws_agreement.proofs.AgreedStage.{len-put-add}
use Rattle.ft_laws_agreement.proofs.RangesOfLists.{len-range}
use Rattle.ft_laws_names.specs.WellNamed.{IsWellNumbered, has_odd_removal}
use Rattle.ft_laws_names.proofs.Beside.{Beside, beside-put, ends, next}
use Rattle.ft_laws_names.proofs.ForeignAlike.{all-behind}
use Rattle.ft_laws_names.proofs.NumberedLists.{KeepsNames, inserted-numbered, kept-id, ranged-numbered}
use Rattle.ft_named.proofs.Bares.{AreElements, IsElement, pending-alike, seen-alike}
use Rattle.ft_named.proofs.Changed.{beside-all, beside-seen_range, changed-alike, new-alike, removed-alike}
use Rattle.ft_named.proofs.Moves.{put_passes, put_place-same, rank-put, rank-range}
use Rattle.ft_named.proofs.Placed.{name_place}

-- after the step, which puts so many elements in and moves places by f
pub record StepsList (last count : ℕ) (f : ℕ → ℕ) (before after : Sequence) : Type 0 where
  pub numbered : IsWellNumbered last after
  pub stays : (a : ElementId) → 1 ≤ len (has_id a) before.items → 1 ≤ len (has_id a) after.items
  pub moves : (a : ElementId) → 1 ≤ len (has_id a) before.items → name_place after.items a ≡ f (name_place before.items a)
  pub held : count_held after ≡ count_held before + count

-- ---- all removals that count as sequenced are

odd-none : (b : Bool) (n : ℕ) → one_more_if (not b) n ≡ 0 → (b ≡ true) × (n ≡ 0)
odd-none true n h = (refl, h)
odd-none false n h = absurd (omega arith)

pub even-removals : (es : List ListElement) → len has_odd_removal es ≡ 0 → list_all (λ e. list_all is_acked e.dels) es ≡ true
even-removals [] h = refl
even-removals (e ∷ es) h =
    let p = odd-none (list_all is_acked e.dels) (len has_odd_removal es) h in rw (p.0, even-removals es p.1) refl

-- ---- where new elements are put

module _ {A B : Type 0} {Q : A → B → Type 0} (seen past : A → Bool) (seen' past' : B → Bool)
    (sees : (x : A) (y : B) → Q x y → seen x ≡ seen' y) (goes : (x : A) (y : B) → Q x y → past x ≡ past' y) where
  prefix-beside : {xs : List A} {ys : List B} → Beside A B Q xs ys → prefix_len past xs ≡ prefix_len past' ys
  prefix-beside ends = refl
  prefix-beside (next {x = x} {y = y} q qs) = rw (goes x y q, prefix-beside qs) refl

  put_passes-beside : (p : ℕ) {xs : List A} {ys : List B} → Beside A B Q xs ys → put_passes seen past p xs ≡ put_passes seen' past' p ys
  put_passes-beside zero qs = prefix-beside qs
  put_passes-beside (suc p) ends = refl
  put_passes-beside (suc p) (next {x = x} {y = y} {xs = xs} q qs) =
      ap (λ b. suc (put_passes seen past (cond b p (suc p)) xs)) (sees x y q) ∙ ap suc (put_passes-beside (cond (seen' y) p (suc p)) qs)

  pub put_place-beside : (p : ℕ) {xs : List A} {ys : List B} → Beside A B Q xs ys → put_place seen past p xs ≡ put_place seen' past' p ys
  put_place-beside p {xs} {ys} qs = put_place-same seen past seen' past' p xs ys (put_passes-beside p qs)

-- ---- new elements

pub new-length : (n : ℕ) (ins : Stamp) (by : Option Stamp) (props : PropertyList) (bs : List ElementContent)
    → length (document_elements n ins [] by props bs) ≡ length bs
new-length n ins by props [] = refl
new-length n ins by props (b ∷ bs) = ap suc (new-length (n + 1) ins by props bs)

new-pending : (n s c : ℕ) (by : Option Stamp) (props : PropertyList) (bs : List ElementContent)
    → len is_pending (document_elements n (Acked s c) [] by props bs) ≡ 0
new-pending n s c by props [] = refl
new-pending n s c by props (b ∷ bs) = new-pending (n + 1) s c by props bs

pub new-local : (n k : ℕ) (by : Option Stamp) (props : PropertyList) (bs : List ElementContent)
    → len is_pending (document_elements n (Local k) [] by props bs) ≡ length bs
new-local n k by props [] = refl
new-local n k by props (b ∷ bs) = ap suc (new-local (n + 1) k by props bs)

pub mapped-length : {A B : Type 0} (f : A → B) (xs : List A) → length (map f xs) ≡ length xs
mapped-length f [] = refl
mapped-length f (x ∷ xs) = ap suc (mapped-length f xs)

-- what was put in has none of the names that stood there
absent-new : (test past : ListElement → Bool) (p : ℕ) (new es : List ListElement) (a : ElementId) → len (has_id a) (put test past p new es) ≤ 1
    → 1 ≤ len (has_id a) es → len (has_id a) new ≡ 0
absent-new test past p new es a once there = let sum = len-put-add (has_id a) test past p new es in omega arith

pub there-still : (test past : ListElement → Bool) (p : ℕ) (new es : List ListElement) (a : ElementId)
    → 1 ≤ len (has_id a) es → 1 ≤ len (has_id a) (put test past p new es)
there-still test past p new es a there = let sum = len-put-add (has_id a) test past p new es in omega arith

-- names after an insertion
pub put-moves : (test past : ListElement → Bool) (p : ℕ) (new es : List ListElement) → ((a : ElementId) → len (has_id a) (put test past p new es) ≤ 1)
    → (a : ElementId) → 1 ≤ len (has_id a) es
    → name_place (put test past p new es) a ≡ shifted_place (put_place test past p es) (length new) (name_place es a)
put-moves test past p new es once a there = rank-put (has_id a) test past p new es (absent-new test past p new es a (once a) there) there

-- ---- changes that keep names

removal-names : (s c : ℕ) → KeepsNames (with_removal s c)
removal-names s c = record { ins = λ e. refl; nth = λ e. refl; removals = λ e. ap not (all-behind e.dels (Acked s c ∷ []) refl) }

annotation-names : (c : Changes) → KeepsNames (with_annotation c)
annotation-names c = record { ins = λ e. refl; nth = λ e. refl; removals = λ e. refl }

pub mark-names : (k : ℕ) → KeepsNames (with_pending_removal k)
mark-names k = record { ins = λ e. refl; nth = λ e. refl; removals = λ e. refl }

pub note-names : (k : ℕ) (c : Changes) → KeepsNames (with_pending_annotation k c)
note-names k c = record { ins = λ e. refl; nth = λ e. refl; removals = λ e. refl }

-- a change of a range that keeps names
pub range-step : (last p q : ℕ) (test : ListElement → Bool) (f : ListElement → ListElement) → KeepsNames f → (list : Sequence) → IsWellNumbered last list
    → StepsList last 0 (λ i. i) list (record { items = change_range test p q f list.items; made = list.made })
range-step last p q test f k list h = record {
  numbered = ranged-numbered last 0 p q list.made test f k list.items h;
  stays = λ a there. subst (λ n. 1 ≤ n) (sym (names a)) there;
  moves = λ a there. rank-range (has_id a) test f (λ e. ap (λ i. has_id' a i) (kept-id f k e)) 0 p q list.items;
  held = let same = len-range is_pending test f (λ e. ap (λ t. not (is_acked t)) (k.ins e)) p q 0 list.items in omega arith;
}
  where
    has_id' : ElementId → ElementId → Bool
    has_id' a i = same_id a i

    names : (a : ElementId) → len (has_id a) (change_range test p q f list.items) ≡ len (has_id a) list.items
    names a = len-range (has_id a) test f (λ e. ap (λ i. has_id' a i) (kept-id f k e)) p q 0 list.items

module _ {U : Type 0} (content : U → ElementContent) where
  Pair : TreeElement U → ListElement → Type 0
  Pair x e = IsElement content x e

  -- ---- a sequenced insertion

  pub insertion-alike : (s p : ℕ) (at : Perspective) (by : Option Stamp) (props : PropertyList) (us : List U) (bs : List ElementContent) → map content us ≡ bs
      → (list : Sequence) {xs : List (TreeElement U)} → AreElements content xs list.items
      → AreElements content (put (seen_in (At at)) tree_pending p (new_elements (Acked s at.c) by props us) xs) (after_insertion s at.c at.r p by props bs list).items
  insertion-alike s p at by props us bs same list h =
      beside-put (seen_in (At at)) (seen_by at.r at.c) (λ x e q. seen-alike content (At at) x e q) tree_pending is_pending (λ x e q. pending-alike content x e q)
      (subst (λ cs. AreElements content (new_elements (Acked s at.c) by props us) (document_elements list.made (Acked s at.c) [] by props cs)) same
      (new-alike content list.made (Acked s at.c) by props us)) p h

  pub insertion-step : (last s p : ℕ) (at : Perspective) (by : Option Stamp) (props : PropertyList) (us : List U) (bs : List ElementContent) → map content us ≡ bs
      → (list : Sequence) → IsWellNumbered last list → {xs : List (TreeElement U)} → AreElements content xs list.items
      → StepsList last (length us) (shifted_place (put_place (seen_in (At at)) tree_pending p xs) (length us)) list (after_insertion s at.c at.r p by props bs list)
  insertion-step last s p at by props us bs same list h {xs} b = record {
    numbered = after;
    stays = λ a there. there-still (seen_by at.r at.c) is_pending p new list.items a there;
    moves = λ a there. put-moves (seen_by at.r at.c) is_pending p new list.items after.once a there
        ∙ ap (λ i. shifted_place i (length new) (name_place list.items a)) (sym place)
        ∙ ap (λ n. shifted_place (put_place (seen_in (At at)) tree_pending p xs) n (name_place list.items a)) count;
    held = let sum = len-put-add is_pending (seen_by at.r at.c) is_pending p new list.items in
        let none = new-pending list.made s at.c by props bs in let all = sym (ap length same) ∙ mapped-length content us in omega arith;
  }
    where
      new : List ListElement
      new = document_elements list.made (Acked s at.c) [] by props bs

      after : IsWellNumbered last (after_insertion s at.c at.r p by props bs list)
      after = inserted-numbered last s at.c p (seen_by at.r at.c) is_pending by props bs list h

      count : length new ≡ length us
      count = new-length list.made (Acked s at.c) by props bs ∙ sym (ap length same) ∙ mapped-length content us

      place : put_place (seen_in (At at)) tree_pending p xs ≡ put_place (seen_by at.r at.c) is_pending p list.items
      place = put_place-beside (seen_in (At at)) tree_pending (seen_by at.r at.c) is_pending (λ x e q. seen-alike content (At at) x e q)
          (λ x e q. pending-alike content x e q) p b

  -- ---- a sequenced removal and annotation

  pub removal-alike : (last s p q : ℕ) (at : Perspective) (list : Sequence) → IsWellNumbered last list → {xs : List (TreeElement U)}
      → AreElements content xs list.items
      → AreElements content (change_range (seen_in (At at)) p q (with_stamps (removed_stamps (Acked s at.c))) xs) (after_removal s at.c at.r p q list).items
  removal-alike last s p q at list h b =
      beside-seen_range (seen_in (At at)) (seen_by at.r at.c) (λ x e r. seen-alike content (At at) x e r.0) (with_stamps (removed_stamps (Acked s at.c))) (with_removal s at.c)
      (λ x e r. r.0) (λ x e r seen. removed-alike content x e r.0 s at.c r.1) 0 p q
      (beside-all (λ e. list_all is_acked e.dels) (even-removals list.items h.removals) b)

  pub removal-step : (last s p q : ℕ) (at : Perspective) (list : Sequence) → IsWellNumbered last list
      → StepsList last 0 (λ i. i) list (after_removal s at.c at.r p q list)
  removal-step last s p q at list h = range-step last p q (seen_by at.r at.c) (with_removal s at.c) (removal-names s at.c) list h

  pub annotation-alike : (p q : ℕ) (at : Perspective) (c : Changes) (list : Sequence) {xs : List (TreeElement U)} → AreElements content xs list.items
      → AreElements content (change_range (seen_in (At at)) p q (with_overlay (after_acked_changes c)) xs)
      (change_range (seen_by at.r at.c) p q (with_annotation c) list.items)
  annotation-alike p q at c list b =
      beside-seen_range (seen_in (At at)) (seen_by at.r at.c) (λ x e r. seen-alike content (At at) x e r) (with_overlay (after_acked_changes c)) (with_annotation c)
      (λ x e r. r) (λ x e r seen. changed-alike content x e r c) 0 p q b

  pub annotation-step : (last p q : ℕ) (at : Perspective) (c : Changes) (list : Sequence) → IsWellNumbered last list
      → StepsList last 0 (λ i. i) list (record { items = change_range (seen_by at.r at.c) p q (with_annotation c) list.items; made = list.made })
  annotation-step last p q at c list h = range-step last p q (seen_by at.r at.c) (with_annotation c) (annotation-names c) list h
