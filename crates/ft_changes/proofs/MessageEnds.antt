-- A sub-operation of a message moves ends as it moves the lists, where each stage sees what stands beside it, or nothing is pending.
use Rattle.std.proofs.Common.{◌≡◌, ℕ, ◌+◌, ◌≤◌, Bool, true, false, cond, ◌&&◌, ◌||◌, nat_le, List, [], ◌∷◌, Option, Some, None, refl, sym, ◌∙◌, ap, arith, length, pos}
use Rattle.std.specs.Prelude.{drop, reverse, take}
use Rattle.std.specs.List.{list_all, list_any}
use Rattle.std.specs.Option.{option_map}
use Rattle.std.proofs.Math.Bool.{and_comm}
use Rattle.std.proofs.lemmas.List.{reverse-append, take-append-drop}
use Rattle.std.proofs.lemmas.List.Folds.{list_all-append}
use Rattle.ft_base.specs.declared.stamps.Stamp.{Stamp}
use Rattle.ft_base.specs.declared.stamps.Stamp.TheVariants.{Acked}
use Rattle.ft_base.proofs.Booleans.{all_three, both}
use Rattle.ft_base.specs.Scan.{change_range, len, one_more_if, rank}
use Rattle.ft_props.specs.declared.properties.Changes.{Changes}
use Rattle.ft_props.specs.Element.{ElementContent, ElementId, ListElement, has_id, id, is_pending, is_unremoved, new_elements, seen, seen_by, with_annotation, with_removal}
use Rattle.ft_props.specs.Properties.{PropertyList, apply}
use Rattle.ft_props.specs.Slide.{end_number, settle, slide}
use Rattle.ft_props.specs.Steps.{after_insertion, after_removal}
use Rattle.ft_op.specs.Document.{Document, effect, with_skip}
use Rattle.ft_op.specs.Operation.{SubOperation, segment_contents}
use Rattle.ft_op.specs.Stages.{Stage}
use Rattle.ft_sumdoc.specs.declared.summary.IntervalRec.{IntervalRec}
use Rattle.ft_laws_agreement.specs.Trimming.{are_distinct_elements, is_end_on}
use Rattle.ft_laws_agreement.proofs.CompactedScans.{is_held_end}
use Rattle.ft_laws_agreement.proofs.OwnNames.{has_named}
use Rattle.ft_laws_agreement.proofs.SettledEnds.{is_end_at, only-named, settle-at, settle-stays}
use Rattle.ft_laws_agreement.proofs.SideBySideStages.{none-counted}
use Rattle.ft_laws_agreement.proofs.SlidEnds.{is_standing_at, slide-stays}
use Rattle.ft_laws_agreement.proofs.SoundStarts.{distinct-once}
use Rattle.ft_changes.specs.Beside.{first_passes, is_always_seen, is_standing, moves_ends_alike, passes_beside_place, passes_beside_range}
use Rattle.ft_changes.specs.Shown.{end_after_put, shown_element, shown_elements}
use Rattle.ft_changes.specs.ShownRuns.{GoneRun, gone_runs, place_of_insertion}
use Rattle.ft_changes.proofs.BesidePlaces.{put-settles}
use Rattle.ft_changes.proofs.ElementLaws.{removed-hidden}
use Rattle.ft_changes.proofs.ForeignSteps.{len-put}
use Rattle.ft_changes.proofs.IntervalsLead.{IsQuiet, annotated-end, detached-stays, new-count, put-end, range-rank, take-end}
use Rattle.ft_changes.proofs.LocalEnds.{end-shown_one, is_known, named-known, range-distinct, range-known, settle-range, shown-one}
use Rattle.ft_changes.proofs.MarkedEnds.{settled-before, slid-before}
use Rattle.ft_changes.proofs.MessageSteps.{LeadsEach}
use Rattle.ft_changes.proofs.MovedEnds.{after_runs, ends-gone, rank-put}
use Rattle.ft_changes.proofs.SlidNumbers.{settle-number}
use Rattle.ft_changes.proofs.StandingElements.{always-seen, first-weaker, has_acked_removals, seen-stands, unremoved-stands}
use Rattle.ft_changes.proofs.ThroughStages.{through, through-left, through-same}

-- ---- named elements that pass a test

named-more : (test other : ListElement → Bool) → ((x : ListElement) → test x ≡ true → other x ≡ true) → (a : ElementId) (xs : List ListElement)
    → has_named test xs a ≡ true → has_named other xs a ≡ true
named-more test other h a [] e = e
named-more test other h a (x ∷ xs) e = by (has_id a x) (test x) (other x) (h x) e (named-more test other h a xs)
  where
    by : (i t o : Bool) → (t ≡ true → o ≡ true) → (i && t) || has_named test xs a ≡ true → (has_named test xs a ≡ true → has_named other xs a ≡ true)
        → (i && o) || has_named other xs a ≡ true
    by true true true g f ih = refl
    by true true false g f ih = let o = g refl in absurd (cc)
    by true false true g f ih = refl
    by true false false g f ih = ih f
    by false t o g f ih = ih f

-- whether an end is detached, or on an element that stands
abbrev stands_at : List ListElement → Option ElementId → Bool
stands_at xs o = is_held_end (has_named is_standing xs) o

on-stands : (xs : List ListElement) (o : Option ElementId) → is_end_on xs o ≡ true → stands_at xs o ≡ true
on-stands xs None h = refl
on-stands xs (Some a) h = named-more is_unremoved is_standing unremoved-stands a xs h

on-known : (xs : List ListElement) (o : Option ElementId) → is_end_on xs o ≡ true → is_held_end (is_known xs) o ≡ true
on-known xs None h = refl
on-known xs (Some a) h = named-known is_unremoved a xs h

settled-stands : (xs : List ListElement) (m : ℕ) (o : Option ElementId) → stands_at xs (settle xs m o) ≡ true
settled-stands xs m o = by (settle xs m o) (settle-at m xs o)
  where
    by : (u : Option ElementId) → is_end_at m xs u ≡ true → stands_at xs u ≡ true
    by None h = refl
    by (Some a) h = named-more (seen m) is_standing (seen-stands m) a xs h

-- an end on an unremoved element stays where it slides
on-standing : (a : ElementId) (xs : List ListElement) → list_any (is_standing_at a) xs ≡ is_end_on xs (Some a)
on-standing a [] = refl
on-standing a (x ∷ xs) =
    ap (λ b. b || list_any (is_standing_at a) xs) (and_comm (is_unremoved x) (has_id a x))
    ∙ ap (λ b. (has_id a x && is_unremoved x) || b) (on-standing a xs)

on-slides : (xs : List ListElement) (o : Option ElementId) → are_distinct_elements xs ≡ true → is_end_on xs o ≡ true → slide xs o ≡ o
on-slides xs None d h = refl
on-slides xs (Some a) d h = slide-stays (Some a) xs (distinct-once xs d) (on-standing a xs ∙ h)

-- ---- lists

all-reverse : {A : Type 0} (test : A → Bool) (xs : List A) → list_all test xs ≡ true → list_all test (reverse xs) ≡ true
all-reverse test [] h = refl
all-reverse test (x ∷ xs) h =
    let p = both (test x) (list_all test xs) h in
    ap (list_all test) (reverse-append (x ∷ []) xs) ∙ list_all-append test (reverse xs) (x ∷ [])
    ∙ ap (λ b. b && (test x && true)) (all-reverse test xs p.1) ∙ ap (λ b. b && true) p.0

any-len : {A : Type 0} (test : A → Bool) (xs : List A) → list_any test xs ≡ true → 1 ≤ len test xs
any-len test [] h = absurd (cc)
any-len test (x ∷ xs) h = by (test x) h (any-len test xs)
  where
    by : (b : Bool) → b || list_any test xs ≡ true → (list_any test xs ≡ true → 1 ≤ len test xs) → 1 ≤ one_more_if b (len test xs)
    by true g ih = omega arith
    by false g ih = ih g

all-pass : (xs : List ListElement) → list_all (λ x. true) xs ≡ true
all-pass [] = refl
all-pass (x ∷ xs) = all-pass xs

-- ---- an insertion

module _ (k n c r : ℕ) (ts : List Stage) (doc : Document) (distinct : are_distinct_elements doc.text.items ≡ true)
    (dels : list_all has_acked_removals doc.text.items ≡ true) where
  abbrev see : ListElement → Bool
  see = seen_by r c

  abbrev xs : List ListElement
  xs = doc.text.items

  module _ (p : ℕ) (by : Option Stamp) (props : PropertyList) (bs : List ElementContent)
      (passes : passes_beside_place see is_pending is_standing is_always_seen p xs ≡ true)
      (after : are_distinct_elements (after_insertion n c r p by props bs doc.text).items ≡ true) where
    abbrev new : List ListElement
    new = new_elements doc.text.made (Acked n c) [] by props bs

    abbrev ys : List ListElement
    ys = (after_insertion n c r p by props bs doc.text).items

    abbrev place : ℕ
    place = place_of_insertion see is_pending (seen k) p xs

    -- it has other names
    none-new : (a : ElementId) → is_known xs a ≡ true → list_any (has_id a) new ≡ false
    none-new a h =
        let once : len (has_id a) ys ≤ 1 = distinct-once ys after a in
        let sum : len (has_id a) ys ≡ len (has_id a) xs + len (has_id a) new =
        len-put see is_pending (has_id a) p new xs in
        let one = any-len (has_id a) xs h in
        let zero_more : len (has_id a) new ≡ 0 = omega (arith, once, sum, one) in
        none-counted (has_id a) new zero_more

    passes-at : (m : ℕ) → passes_beside_place see is_pending is_standing (seen m) p xs ≡ true
    passes-at m =
        let i = place_of_insertion see is_pending (λ x. true) p xs in
        let left = take i xs in
        let right = drop i xs in
        let g = both (first_passes is_standing is_always_seen (reverse left)) (first_passes is_standing is_always_seen right) passes in
        let all = both (list_all has_acked_removals left) (list_all has_acked_removals right)
        (sym (list_all-append has_acked_removals left right) ∙ ap (list_all has_acked_removals) (take-append-drop i xs) ∙ dels) in
        rw (
          first-weaker has_acked_removals is_always_seen (seen m) (always-seen m) is_standing (reverse left)
              (all-reverse has_acked_removals left all.0) g.0,
          first-weaker has_acked_removals is_always_seen (seen m) (always-seen m) is_standing right all.1 g.1,
        ) refl

    put-same : (m : ℕ) (o : Option ElementId) → stands_at xs o ≡ true → settle ys m o ≡ settle xs m o
    put-same m None h = refl
    put-same m (Some a) h =
        let known = named-known is_standing a xs h in
        ap (option_map id)
        (put-settles (has_id a) is_standing (seen m) (seen-stands m) see is_pending p new xs (none-new a known)
        (shown-one is_standing a xs (only-named is_standing xs distinct a h) known) (passes-at m))

    put-number : (o : Option ElementId) → is_end_at k xs o ≡ true
        → end_after_put place (length bs) (end_number k xs o) ≡ end_number k ys o
    put-number None h = refl
    put-number (Some a) h =
        let i = rank (has_id a) (seen k) xs in
        ap (λ m. pos (cond (nat_le place i) (i + m) i)) (sym (new-count k n c doc.text.made by props bs))
        ∙ ap pos (sym (rank-put (has_id a) (seen k) new (none-new a (named-known (seen k) a xs h)) see is_pending p
        xs (end-shown_one k xs distinct a h)))

    pub put-leads : (o : Option ElementId) → is_end_on xs o ≡ true → is_end_at k xs (through xs ts o) ≡ true
        → end_after_put place (length bs) (end_number k xs (through xs ts o)) ≡ end_number k ys (through ys ts o)
    put-leads o on at =
        put-number (through xs ts o) at
        ∙ ap (end_number k ys)
        (sym (through-same xs ys (stands_at xs) put-same (settled-stands xs) ts o (on-stands xs o on)))

  -- ---- a removal

  module _ (p q : ℕ) (passes : passes_beside_range see is_standing is_always_seen p q xs ≡ true) where
    abbrev left : List ListElement
    left = (after_removal n c r p q doc.text).items

    abbrev runs : List GoneRun
    runs = gone_runs see (seen k) p q xs

    left-distinct : are_distinct_elements left ≡ true
    left-distinct = range-distinct (with_removal n c) (λ x. refl) see p q xs ∙ distinct

    taken-number : (o : Option ElementId) → is_end_at k xs o ≡ true
        → after_runs runs (shown_elements k xs) (end_number k xs o) ≡ end_number k left (settle left k o)
    taken-number None h = detached-stays runs (shown_elements k xs) 0
    taken-number (Some a) h =
        let there : is_known left a ≡ true = range-known (with_removal n c) (λ x. refl) see p q a xs
        ∙ named-known (seen k) a xs h in
        ends-gone (has_id a) see (seen k) shown_element p q (with_removal n c) (removed-hidden k n c) (λ x. refl) xs
        (end-shown_one k xs distinct a h)
        ∙ sym (settle-number k left a left-distinct there)

    pub take-leads : (o : Option ElementId) → is_end_on xs o ≡ true → is_end_at k xs (through xs ts o) ≡ true
        → is_end_at k left (through left ts (slide left o)) ≡ true
        → after_runs runs (shown_elements k xs) (end_number k xs (through xs ts o))
        ≡ end_number k left (through left ts (slide left o))
    take-leads o on at after =
        taken-number (through xs ts o) at
        ∙ ap (end_number k left)
        (sym (through-left xs left
        (λ m i u known. settled-before see p q n c xs distinct left-distinct dels passes m i u known) ts o (slide left o)
        (λ m. slid-before see p q n c xs distinct left-distinct dels passes m o on) (on-known xs o on) k)
        ∙ settle-stays k left left-distinct (through left ts (slide left o)) after)

  -- ---- an annotation

  module _ (p q : ℕ) (changes : Changes) where
    abbrev annotated : List ListElement
    annotated = change_range see p q (with_annotation changes) xs

    styled-same : (m : ℕ) (o : Option ElementId) → settle annotated m o ≡ settle xs m o
    styled-same m o =
        settle-range m see (λ x. true) p q (with_annotation changes) (λ x s h. (refl, refl)) xs (all-pass xs) o

    styled-number : (o : Option ElementId) → end_number k xs o ≡ end_number k annotated o
    styled-number None = refl
    styled-number (Some a) = ap pos (sym (range-rank (with_annotation changes) (λ x. refl) see p q a k (λ x. refl) 0 xs))

    pub style-leads : (o : Option ElementId) → end_number k xs (through xs ts o) ≡ end_number k annotated (through annotated ts o)
    style-leads o =
        styled-number (through xs ts o)
        ∙ ap (end_number k annotated)
        (sym (through-same xs annotated (λ u. true) (λ m u h. styled-same m u) (λ m u. refl) ts o refl))

-- ---- each sub-operation

module _ (test : IntervalRec → Bool) (names : (a b : IntervalRec) → a.label ≡ b.label → a.id ≡ b.id → test a ≡ test b) (k n c r : ℕ) where
  module _ (ts : List Stage) where
    -- an end on an unremoved element, which is shown before and after
    abbrev pub is_shown_end : List ListElement → (Option ElementId → Option ElementId) → List ListElement → Option ElementId → Bool
    is_shown_end xs f ys o = is_end_on xs o && is_end_at k xs (through xs ts o) && is_end_at k ys (through ys ts (f o))

    pub beside-leads : (doc : Document) (o : SubOperation) → are_distinct_elements doc.text.items ≡ true
        → list_all has_acked_removals doc.text.items ≡ true → moves_ends_alike doc c r o ≡ true
        → are_distinct_elements (effect doc n c r o).text.items ≡ true → LeadsEach test names k n c r ts is_shown_end doc o
    beside-leads doc o distinct dels alike after = record {
      idle = λ u h. refl;
      slid = λ op e u h.
          let g = all_three (is_end_on doc.text.items u) _ _ h in
          ap (λ v. end_number k doc.text.items (through doc.text.items ts v)) (sym (on-slides doc.text.items u distinct g.0));
      put = λ p seg changes e fits u h.
          let g = all_three (is_end_on doc.text.items u) _ _ h in
          let bs = segment_contents seg in
          let next : Document = record doc { text = after_insertion n c r p (Some (Acked n c)) (apply [] changes) bs doc.text } in
          let there : are_distinct_elements next.text.items ≡ true =
          ap (λ b. are_distinct_elements (cond b next (with_skip doc)).text.items) (sym fits)
          ∙ ap (λ v. are_distinct_elements (effect doc n c r v).text.items) (sym e) ∙ after in
          put-leads k n c r ts doc distinct dels p (Some (Acked n c)) (apply [] changes) bs (ap (moves_ends_alike doc c r) (sym e) ∙ alike) there
          u g.0
          g.1;
      taken = λ p q e u h.
          let g = all_three (is_end_on doc.text.items u) _ _ h in
          take-leads k n c r ts doc distinct dels p q (ap (moves_ends_alike doc c r) (sym e) ∙ alike) u g.0 g.1 g.2;
      styled = λ p q changes e u h. style-leads k n c r ts doc distinct dels p q changes u;
    }

  -- where nothing is pending
  abbrev pub is_on : List ListElement → (Option ElementId → Option ElementId) → List ListElement → Option ElementId → Bool
  is_on xs f _ o = is_end_on xs o

  pub quiet-leads : (doc : Document) (o : SubOperation) → IsQuiet k n c r doc → LeadsEach test names k n c r [] is_on doc o
  quiet-leads doc o h =
      let distinct = h.consistent.text.distinct in
      record {
        idle = λ u on. refl;
        slid = λ op e u on. ap (end_number k doc.text.items) (sym (on-slides doc.text.items u distinct on));
        put = λ p seg changes e fits u on. put-end k n c r doc h p (Some (Acked n c)) (apply [] changes) (segment_contents seg) u on;
        taken = λ p q e u on.
            take-end k n c r doc h p q (range-distinct (with_removal n c) (λ x. refl) (seen_by r c) p q doc.text.items ∙ distinct) u on;
        styled = λ p q changes e u on. sym (annotated-end k n c r doc p q changes u);
      }
