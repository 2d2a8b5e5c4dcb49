-- Where ends go, if a removal takes away elements beside which each stage sees what stands.
use Rattle.std.proofs.Common.{◌≡◌, ℕ, ◌≤◌, Bool, true, false, cond, not, ◌&&◌, ◌||◌, List, [], ◌∷◌, Option, Some, None, refl, sym, ◌∙◌, ap, subst, filter}
use Rattle.std.specs.List.{list_all, list_any}
use Rattle.std.specs.Option.{option_map}
use Rattle.ft_base.proofs.Booleans.{both}
use Rattle.ft_base.proofs.ScanLaws.{Keeping, len-retain_map, settled-retain_map}
use Rattle.ft_base.specs.Scan.{change_range, change_range_from, len, one_more_if, retain_map, settled, within}
use Rattle.ft_props.specs.Element.{ElementId, ListElement, has_id, id, is_sequenced, is_unremoved, same_id, seen, with_removal}
use Rattle.ft_props.specs.Slide.{settle, slide}
use Rattle.ft_laws_agreement.specs.Trimming.{are_distinct_elements, is_end_on}
use Rattle.ft_laws_agreement.proofs.CompactedScans.{is_held_end}
use Rattle.ft_laws_agreement.proofs.SettledEnds.{settle-at, settle-stays}
use Rattle.ft_laws_agreement.proofs.SlidEnds.{same_id-eq}
use Rattle.ft_laws_agreement.proofs.SoundStarts.{distinct-once}
use Rattle.ft_changes.specs.Beside.{is_always_seen, is_standing, marked_range, pass_beside_marked, passes_beside_range}
use Rattle.ft_changes.proofs.BesideEnds.{Goes, Marked, Slides, as_before, from_run, goes, name_of, named, settle_all, settle_left, settles, slides, stays}
use Rattle.ft_changes.proofs.BesideRuns.{IsBetween, left, of_marked}
use Rattle.ft_changes.proofs.ElementLaws.{removed-gone, removed-hidden}
use Rattle.ft_changes.proofs.LocalEnds.{is_known}
use Rattle.ft_changes.proofs.StandingElements.{all-filter, always-seen, beside-weaker, has_acked_removals, seen-stands, unremoved-sequenced, unremoved-stands}

-- ---- a list as its marked elements

keeps-all : {B : Type 0} (is : Marked → Bool) (f : Marked → B) (other : B → Bool) → ((m : Marked) → other (f m) ≡ is m)
    → Keeping (λ m. true) is f other
keeps-all is f other same = record { kept = λ m e. absurd (cc); same = λ m e. same m }

-- names are found through f
module _ (f : Marked → ListElement) (same : (m : Marked) → id (f m) ≡ id m.1) where
  names-same : (o : Option Marked) → option_map id (option_map f o) ≡ name_of o
  names-same None = refl
  names-same (Some m) = ap Some (same m)

  settled-names : (is ok : Marked → Bool) (other passes : ListElement → Bool) → ((m : Marked) → other (f m) ≡ is m)
      → ((m : Marked) → passes (f m) ≡ ok m) → (zs : List Marked)
      → option_map id (settled other passes (retain_map (λ m. true) f zs)) ≡ name_of (settled is ok zs)
  settled-names is ok other passes e d zs =
      ap (option_map id) (settled-retain_map (λ m. true) is ok f other passes (keeps-all is f other e) (keeps-all ok f passes d) None zs)
      ∙ names-same (settled is ok zs)

module _ (see : ListElement → Bool) (p q s c : ℕ) where
  -- the element as the removal leaves it
  abbrev after_mark : Marked → ListElement
  after_mark m = cond m.0 (with_removal s c m.1) m.1

  retained-all : (i : ℕ) (xs : List ListElement) → retain_map (λ m. true) (λ (m : Marked). m.1) (marked_range i see p q xs) ≡ xs
  retained-all i [] = refl
  retained-all i (x ∷ xs) = ap (λ ys. x ∷ ys) (retained-all (one_more_if (see x) i) xs)

  retained-left : (i : ℕ) (xs : List ListElement) → retain_map (λ m. true) after_mark (marked_range i see p q xs)
      ≡ change_range_from i see p q (with_removal s c) xs
  retained-left i [] = refl
  retained-left i (x ∷ xs) =
      ap (λ ys. cond (see x && within p q i) (with_removal s c x) x ∷ ys) (retained-left (one_more_if (see x) i) xs)

  marked-known : (a : ElementId) (i : ℕ) (xs : List ListElement) → list_any (named a) (marked_range i see p q xs) ≡ is_known xs a
  marked-known a i [] = refl
  marked-known a i (x ∷ xs) = ap (λ b. has_id a x || b) (marked-known a (one_more_if (see x) i) xs)

  marked-on : (a : ElementId) (i : ℕ) (xs : List ListElement)
      → list_any (λ (m : Marked). has_id a m.1 && is_unremoved m.1) (marked_range i see p q xs) ≡ is_end_on xs (Some a)
  marked-on a i [] = refl
  marked-on a i (x ∷ xs) = ap (λ b. (has_id a x && is_unremoved x) || b) (marked-on a (one_more_if (see x) i) xs)

  marked-all : (P : ListElement → Bool) (i : ℕ) (xs : List ListElement) → list_all P xs ≡ true
      → list_all (λ (m : Marked). P m.1) (marked_range i see p q xs) ≡ true
  marked-all P i [] h = refl
  marked-all P i (x ∷ xs) h = let e = both (P x) (list_all P xs) h in rw (e.0, marked-all P (one_more_if (see x) i) xs e.1) refl

  mark-named : (m : Marked) → id (after_mark m) ≡ id m.1
  mark-named m = by m.0
    where
      by : (b : Bool) → id (cond b (with_removal s c m.1) m.1) ≡ id m.1
      by true = refl
      by false = refl

  mark-sequenced : (m : Marked) → is_sequenced (after_mark m) ≡ is_sequenced m.1
  mark-sequenced m = by m.0
    where
      by : (b : Bool) → is_sequenced (cond b (with_removal s c m.1) m.1) ≡ is_sequenced m.1
      by true = refl
      by false = refl

  mark-left : (ok : ListElement → Bool) → ((e : ListElement) → ok (with_removal s c e) ≡ false) → (m : Marked) → ok (after_mark m) ≡ left ok m
  mark-left ok hides m = by m.0
    where
      by : (b : Bool) → ok (cond b (with_removal s c m.1) m.1) ≡ not b && ok m.1
      by true = hides m.1
      by false = refl

  module _ (xs : List ListElement) where
    abbrev zs : List Marked
    zs = marked_range 0 see p q xs

    abbrev ys : List ListElement
    ys = change_range see p q (with_removal s c) xs

    all-same : (m : ℕ) (o : Option ElementId) → settle xs m o ≡ settle_all (seen m) zs o
    all-same m None = refl
    all-same m (Some a) =
        ap (λ us. option_map id (settled (has_id a) (seen m) us)) (sym (retained-all 0 xs))
        ∙ settled-names (λ m. m.1) (λ m. refl) (named a) (of_marked (seen m)) (has_id a) (seen m) (λ m. refl) (λ m. refl) zs

    left-same : (m : ℕ) (o : Option ElementId) → settle ys m o ≡ settle_left (seen m) zs o
    left-same m None = refl
    left-same m (Some a) =
        ap (λ us. option_map id (settled (has_id a) (seen m) us)) (sym (retained-left 0 xs))
        ∙ settled-names after_mark mark-named (named a) (left (seen m)) (has_id a) (seen m) (λ m. ap (same_id a) (mark-named m))
        (mark-left (seen m) (removed-hidden m s c)) zs

    slide-same : (a : ElementId) → slide ys (Some a)
        ≡ name_of (settled (λ (m : Marked). is_sequenced m.1 && has_id a m.1) (left is_unremoved) zs)
    slide-same a =
        ap (λ us. option_map id (settled (λ e. is_sequenced e && has_id a e) is_unremoved us)) (sym (retained-left 0 xs))
        ∙ settled-names after_mark mark-named (λ (m : Marked). is_sequenced m.1 && has_id a m.1) (left is_unremoved)
        (λ e. is_sequenced e && has_id a e) is_unremoved
        (λ m. ap (λ b. b && has_id a (after_mark m)) (mark-sequenced m) ∙ ap (λ i. is_sequenced m.1 && same_id a i) (mark-named m))
        (mark-left is_unremoved (removed-gone s c)) zs

    module _ (distinct : are_distinct_elements xs ≡ true) (after : are_distinct_elements ys ≡ true) (dels : list_all has_acked_removals xs ≡ true)
        (passes : passes_beside_range see is_standing is_always_seen p q xs ≡ true) where
      -- each stage sees it, whatever is pending
      abbrev always : ListElement → Bool
      always e = is_always_seen e && has_acked_removals e

      between : (m : ℕ) → IsBetween is_standing always (seen m)
      between m = record {
        above = λ e h. let g = both (is_always_seen e) (has_acked_removals e) h in always-seen m e g.1 g.0;
        below = seen-stands m;
      }

      unremoved-between : IsBetween is_standing always is_unremoved
      unremoved-between = record {
        above = λ e h. (both (is_unremoved e) _ (both (is_always_seen e) (has_acked_removals e) h).0).0;
        below = unremoved-stands;
      }

      beside : pass_beside_marked always (filter (of_marked is_standing) zs) ≡ true
      beside =
          beside-weaker has_acked_removals is_always_seen always (λ e d h. rw (h, d) refl) (filter (of_marked is_standing) zs)
          (all-filter (λ (m : Marked). has_acked_removals m.1) (of_marked is_standing) zs (marked-all has_acked_removals 0 xs dels)) passes

      once : (a : ElementId) → len (named a) zs ≤ 1
      once a =
          subst (λ n. n ≤ 1)
          (ap (len (has_id a)) (sym (retained-all 0 xs))
          ∙ len-retain_map (λ m. true) (named a) (λ (m : Marked). m.1) (has_id a)
          (keeps-all (named a) (λ (m : Marked). m.1) (has_id a) (λ m. refl)) zs)
          (distinct-once xs distinct a)

      again : (m : ℕ) (o : Option ElementId) → settle ys m (settle ys m o) ≡ settle ys m o
      again m o = settle-stays m ys after (settle ys m o) (settle-at m ys o)

      -- it makes no difference whether an end settled at another stage before the removal or after it
      pub settled-before : (m n : ℕ) (o : Option ElementId) → is_held_end (is_known xs) o ≡ true
          → settle ys n (settle xs m o) ≡ settle ys n (settle ys m o)
      settled-before m n None h = refl
      settled-before m n (Some a) h =
          by (goes is_standing always zs beside once (seen m) (between m) a (marked-known a 0 xs ∙ h))
        where
          Result : Type 0
          Result = settle ys n (settle xs m (Some a)) ≡ settle ys n (settle ys m (Some a))

          by : Goes is_standing always zs beside once (seen m) a → Result
          by (as_before e) = ap (settle ys n) (all-same m (Some a) ∙ sym e ∙ sym (left-same m (Some a)))
          by (from_run f) =
              let there : settle ys n (settle xs m (Some a)) ≡ settle ys m (Some a) =
              ap (settle ys n) (all-same m (Some a)) ∙ left-same n (settle_all (seen m) zs (Some a)) ∙ f (seen n) (between n)
              ∙ sym (left-same m (Some a)) in
              sym (again n (settle xs m (Some a))) ∙ ap (settle ys n) there

      -- nor whether it slid
      pub slid-before : (m : ℕ) (o : Option ElementId) → is_end_on xs o ≡ true → settle ys m (slide ys o) ≡ settle ys m o
      slid-before m None h = refl
      slid-before m (Some a) h =
          ap (settle ys m) (slide-same a)
          ∙ by (slides is_standing always zs beside once is_sequenced is_unremoved unremoved-between unremoved-sequenced a
          (λ e d. same_id-eq a (id e) d) (marked-on a 0 xs ∙ h))
        where
          slid : Option ElementId
          slid = name_of (settled (λ (m : Marked). is_sequenced m.1 && has_id a m.1) (left is_unremoved) zs)

          by : Slides is_standing always zs beside once slid a → settle ys m slid ≡ settle ys m (Some a)
          by (stays e) = ap (settle ys m) e
          by (settles f) = ap (settle ys m) (f (seen m) (between m) ∙ sym (left-same m (Some a))) ∙ again m (Some a)
