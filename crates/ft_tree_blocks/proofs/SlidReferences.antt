-- Where references on leaves go after sequenced removals: by the elements, and by the leaves.
use Rattle.std.proofs.Common.{◌≡◌, ◌≢◌, ℕ, ◌+◌, ◌<◌, ◌≤◌, ◌⊎◌, Bool, true, false, cond, ◌&&◌, nat_eq, List, [], ◌∷◌, length, get_or, Option, Some, None, IsSomeAnd, option_map, subst, refl, sym, ◌∙◌, ap, inl, inr, arith}
use Rattle.std.specs.Option.{ForSome, option_map_or}
use Rattle.std.proofs.lemmas.Bool.{cases_eq, eq-eqb, ne_eqb}
use Rattle.ft_arena.proofs.IdLemmas.{same_other}
use Rattle.ft_base.specs.declared.stamps.Stamp.{Stamp}
use Rattle.ft_base.specs.Visibility.{is_acked, is_present}
use Rattle.ft_block.specs.Leaves.{left_of, times_leaf, value_at}
use Rattle.ft_tree_leaves.specs.declared.leaves.Standing.TheVariants.{Unremoved}
use Rattle.ft_tree_leaves.specs.declared.leaves.TreeLeaf.{TreeLeaf}
use Rattle.ft_tree_leaves.specs.declared.references.Reference.{Reference}
use Rattle.ft_tree_leaves.specs.Elements.{TreeElement, element_with, is_unremoved}
use Rattle.ft_tree_leaves.specs.LeafLists.{elements}
use Rattle.ft_tree_leaves.specs.Places.{settled_place}
use Rattle.ft_tree_leaves.specs.References.{reference_at, slid_reference}
use Rattle.ft_refs.specs.declared.numbers.Place.{Place}
use Rattle.ft_refs.specs.RefLists.{entry, owner_of, owner_of_place, place_of_entry, place_of_reference}
use Rattle.ft_tree_blocks.specs.Anchors.{AnchorLists, AreAnchored, is_acked_at, reference_on, references_on, sent_place}
use Rattle.ft_tree_blocks.specs.LeafPlaces.{IsOnLeaf, place_on}
use Rattle.ft_tree_blocks.specs.Slides.{AreSettledBut, IsOnUnremoved, is_on, is_unremoved_at}
use Rattle.ft_tree_blocks.proofs.AnchoredLeaves.{on_leaf, reference_at-on}
use Rattle.ft_tree_blocks.proofs.SettledLeaves.{settled_here, settled_off}

module _ {C U : Type 0} (units : C → List U) (by : C → Option Stamp) where
  abbrev unremoved : TreeElement U → Bool
  unremoved = is_unremoved

  abbrev of_leaf : TreeLeaf C → U → TreeElement U
  of_leaf v u = element_with v.stamps (by v.content) v.overlay u

  -- how many elements stand left of a leaf
  abbrev count_left : List (ℕ × TreeLeaf C) → ℕ → ℕ
  count_left xs id = length (elements units by (left_of xs id))

  pub unremoved_of : (xs : List (ℕ × TreeLeaf C)) (id : ℕ) (v : TreeLeaf C) → value_at xs id ≡ Some v → is_unremoved_at xs id ≡ is_present is_acked v.stamps
  unremoved_of xs id v e = ap (λ (o : Option (TreeLeaf C)). option_map_or (λ w. is_present is_acked w.stamps) o false) e

  module _ (xs : List (ℕ × TreeLeaf C)) (once : (i : ℕ) → times_leaf xs i ≤ 1) where
    there : (id : ℕ) (v : TreeLeaf C) → value_at xs id ≡ Some v → (offset : ℕ) → offset < length (units v.content)
        → IsSomeAnd (value_at xs id) (λ w. offset < length (units w.content))
    there id v value offset h = subst (λ o. IsSomeAnd o (λ w. offset < length (units w.content))) (sym value) h

    -- a reference on an unremoved element stays
    pub settled-at : (p : Place) → IsOnLeaf units xs p → is_unremoved_at xs p.owner ≡ true
        → settled_place unremoved (elements units by xs) (place_on units by xs p) ≡ Some (place_on units by xs p)
    settled-at p h up =
        let on = on_leaf units by xs p h in
        settled_here units by Unremoved xs p.owner on.value once on.is p.offset h (sym (unremoved_of xs p.owner on.value on.is) ∙ up)

    -- from a removed leaf all go where the first goes
    pub settled-alike : (id : ℕ) (v : TreeLeaf C) (offset : ℕ) → value_at xs id ≡ Some v → is_unremoved_at xs id ≡ false → 0 < length (units v.content)
        → offset < length (units v.content)
        → settled_place unremoved (elements units by xs) (count_left xs id + offset) ≡ settled_place unremoved (elements units by xs) (count_left xs id + 0)
    settled-alike id v offset value down some within =
        let removed : is_present is_acked v.stamps ≡ false = sym (unremoved_of xs id v value) ∙ down in
        settled_off units by Unremoved xs id v once value offset (there id v value offset within) removed
        ∙ sym (settled_off units by Unremoved xs id v once value 0 (there id v value 0 some) removed)

    slid_by : (flag : Bool) (p : Place) → IsOnLeaf units xs p → (flag ≡ true → is_unremoved_at xs p.owner ≡ true)
        → slid_reference (elements units by xs) (reference_on units by xs flag (Some p)) ≡ reference_on units by xs flag (Some p)
    slid_by true p h up = ap (λ (o : Option ℕ). record { place = o; acked = true }) (settled-at p h (up refl))
    slid_by false p h up = refl

    slid_detached : (flag : Bool) → slid_reference (elements units by xs) (reference_on units by xs flag None) ≡ reference_on units by xs flag None
    slid_detached true = refl
    slid_detached false = refl

    module _ (a : AnchorLists) (anchored : AreAnchored units xs a) where
      abbrev shown : ℕ → Option Reference
      shown r = reference_at (references_on units by xs a) r

      slid_entry : (r : ℕ) (q : Option (Option Place)) → entry a.refs r ≡ q → (flag : Bool)
          → ((p : Place) → place_of_reference a.refs r ≡ Some p → flag ≡ true → is_unremoved_at xs p.owner ≡ true)
          → option_map (slid_reference (elements units by xs)) (option_map (reference_on units by xs flag) q) ≡ option_map (reference_on units by xs flag) q
      slid_entry r None e flag up = refl
      slid_entry r (Some None) e flag up = ap Some (slid_detached flag)
      slid_entry r (Some (Some p)) e flag up = ap Some (slid_by flag p (anchored.on r p (ap place_of_entry e)) (up p (ap place_of_entry e)))

      -- a reference that is pending, detached or on an unremoved element stays
      pub slid_stays : (r : ℕ) → ((p : Place) → place_of_reference a.refs r ≡ Some p → is_acked_at a r ≡ true → is_unremoved_at xs p.owner ≡ true)
          → option_map (slid_reference (elements units by xs)) (shown r) ≡ shown r
      slid_stays r up =
          ap (option_map (slid_reference (elements units by xs))) (reference_at-on units by xs a r)
          ∙ slid_entry r (entry a.refs r) refl (is_acked_at a r) up
          ∙ sym (reference_at-on units by xs a r)

      unremoved_or_not : (b : Bool) → (b ≡ false → 1 ≤ 0) → b ≡ true
      unremoved_or_not true h = refl
      unremoved_or_not false h = absurd (omega (arith, h refl))

      -- where all are settled, all stay
      pub slid_all_stay : AreSettledBut xs [] a → (r : ℕ) → option_map (slid_reference (elements units by xs)) (shown r) ≡ shown r
      slid_all_stay settled r = slid_stays r (λ p e f. unremoved_or_not (is_unremoved_at xs p.owner) (settled r p e f))

  -- an acknowledged reference of a leaf went to another place, or stayed where it was
  went_by : (to : Option Place) (c : Bool) (was p : Place) → cond c to (Some was) ≡ Some p → (to ≡ Some p) ⊎ ((was ≡ p) × (c ≡ false))
  went_by to true was p h = inl h
  went_by to false was p h = let same : was ≡ p = (cc) in inr (same, refl)

  went_entry : (id : ℕ) (to : Option Place) (flag : Bool) (p : Place) (q : Option (Option Place))
      → place_of_entry (option_map (sent_place flag id to) q) ≡ Some p
      → (to ≡ Some p) ⊎ ((place_of_entry q ≡ Some p) × ((flag && nat_eq p.owner id) ≡ false))
  went_entry id to flag p None h = (cc)
  went_entry id to flag p (Some None) h = (cc)
  went_entry id to flag p (Some (Some was)) h = elim (went_by to (flag && nat_eq was.owner id) was p h) [
    | inl there ↦ inl there
    | inr kept ↦ inr (ap Some kept.0, ap (λ (z : Place). flag && nat_eq z.owner id) (sym kept.0) ∙ kept.1)
  ]

  not_both : (flag c : Bool) → flag ≡ true → (flag && c) ≡ false → c ≡ false
  not_both true c e h = h
  not_both false c e h = (cc)

  apart : (z id : ℕ) → nat_eq z id ≡ false → id ≢ z
  apart z id h e = let yes : nat_eq z id ≡ true = eq-eqb z id (sym e) in (cc)

  module _ (xs : List (ℕ × TreeLeaf C)) (once : (i : ℕ) → times_leaf xs i ≤ 1) (id : ℕ) (a : AnchorLists) (anchored : AreAnchored units xs a) where
    -- of a leaf of unremoved elements all stay
    module _ (unremoved_here : is_unremoved_at xs id ≡ true) where
      on_here : (o : Option ℕ) (z : ℕ) → o ≡ Some z → option_map_or (λ owner. nat_eq owner id) o false ≡ true → z ≡ id
      on_here None z e h = (cc)
      on_here (Some y) z e h =
          let same_owner : y ≡ z = (cc) in
          elim (cases_eq y id) [
            | inl f ↦ sym same_owner ∙ f
            | inr d ↦ let no : nat_eq y id ≡ false = ne_eqb y id d in (cc)
          ]

      here_by : (r : ℕ) (c : Bool) → is_on a id r ≡ c
          → reference_at (references_on units by xs a) r
          ≡ cond c (option_map (slid_reference (elements units by xs)) (reference_at (references_on units by xs a) r)) (reference_at (references_on units by xs a) r)
      here_by r true e =
          sym (slid_stays xs once a anchored r (λ p h f. ap (is_unremoved_at xs) (on_here (owner_of a.refs r) p.owner (ap owner_of_place h) e) ∙ unremoved_here))
      here_by r false e = refl

      pub here_references : (r : ℕ) → reference_at (references_on units by xs a) r
          ≡ cond (is_on a id r) (option_map (slid_reference (elements units by xs)) (reference_at (references_on units by xs a) r)) (reference_at (references_on units by xs a) r)
      here_references r = here_by r (is_on a id r) refl

      pub here_settled : (nodes : List ℕ) → AreSettledBut xs (id ∷ nodes) a → AreSettledBut xs nodes a
      here_settled nodes settled r p e f gone =
          let d : id ≢ p.owner = λ q. let yes : is_unremoved_at xs p.owner ≡ true = ap (is_unremoved_at xs) (sym q) ∙ unremoved_here in (cc) in
          omega (arith, settled r p e f gone, same_other id p.owner d)

    -- of another the acknowledged ones went where they go
    module _ (v : TreeLeaf C) (value : value_at xs id ≡ Some v) (to : Option Place) (on : ForSome to (IsOnUnremoved units xs))
        (goes : (offset : ℕ) → offset < length (units v.content) → settled_place unremoved (elements units by xs) (count_left xs id + offset) ≡ option_map (place_on units by xs) to)
        (b : AnchorLists) (places : (r : ℕ) → entry b.refs r ≡ option_map (sent_place (is_acked_at a r) id to) (entry a.refs r)) (acked : b.acked ≡ a.acked)
        (held : length b.refs.lists ≡ length a.refs.lists) where
      went : (r : ℕ) (p : Place) → place_of_reference b.refs r ≡ Some p
          → (to ≡ Some p) ⊎ ((place_of_reference a.refs r ≡ Some p) × ((is_acked_at a r && nat_eq p.owner id) ≡ false))
      went r p e = went_entry id to (is_acked_at a r) p (entry a.refs r) (sym (ap place_of_entry (places r)) ∙ e)

      same_flag : (r : ℕ) → is_acked_at b r ≡ is_acked_at a r
      same_flag r = ap (λ (fs : List Bool). get_or fs r false) acked

      pub sent_anchored : AreAnchored units xs b
      sent_anchored = record {
        on = λ r p e. elim (went r p e) [ inl there ↦ (on p there).0 | inr kept ↦ anchored.on r p kept.0 ];
        held = λ z live. omega (arith, anchored.held z live, held);
      }

      pub sent_settled : (nodes : List ℕ) → AreSettledBut xs (id ∷ nodes) a → AreSettledBut xs nodes b
      sent_settled nodes settled r p e f gone = elim (went r p e) [
        | inl there ↦ let yes : is_unremoved_at xs p.owner ≡ true = (on p there).1 in absurd (cc)
        | inr kept ↦
            let flag : is_acked_at a r ≡ true = sym (same_flag r) ∙ f in
            let d : id ≢ p.owner = apart p.owner id (not_both (is_acked_at a r) (nat_eq p.owner id) flag kept.1) in
            omega (arith, settled r p kept.0 flag gone, same_other id p.owner d)
      ]

      sent_case : (flag c : Bool) (p : Place)
          → (c ≡ true → settled_place unremoved (elements units by xs) (place_on units by xs p) ≡ option_map (place_on units by xs) to)
          → Some (reference_on units by xs flag (cond (flag && c) to (Some p)))
          ≡ cond c (Some (slid_reference (elements units by xs) (reference_on units by xs flag (Some p)))) (Some (reference_on units by xs flag (Some p)))
      sent_case true true p h = ap (λ (o : Option ℕ). Some record { place = o; acked = true }) (sym (h refl))
      sent_case true false p h = refl
      sent_case false true p h = refl
      sent_case false false p h = refl

      goes_from : (p : Place) → IsOnLeaf units xs p → nat_eq p.owner id ≡ true
          → settled_place unremoved (elements units by xs) (place_on units by xs p) ≡ option_map (place_on units by xs) to
      goes_from p h c = elim (cases_eq p.owner id) [
        | inl e ↦
            let there = on_leaf units by xs p h in
            let value_there : Some there.value ≡ Some v = sym there.is ∙ ap (value_at xs) e ∙ value in
            let same_leaf : there.value ≡ v = (cc) in
            let within : p.offset < length (units v.content) = omega (arith, there.within, ap (λ (w : TreeLeaf C). length (units w.content)) same_leaf) in
            ap (λ (z : ℕ). settled_place unremoved (elements units by xs) (count_left xs z + p.offset)) e ∙ goes p.offset within
        | inr d ↦ let no : nat_eq p.owner id ≡ false = ne_eqb p.owner id d in (cc)
      ]

      sent_entry : (r : ℕ) (q : Option (Option Place)) → entry a.refs r ≡ q → (flag : Bool)
          → option_map (reference_on units by xs flag) (option_map (sent_place flag id to) q)
          ≡ cond (option_map_or (λ owner. nat_eq owner id) (owner_of_place (place_of_entry q)) false)
          (option_map (slid_reference (elements units by xs)) (option_map (reference_on units by xs flag) q)) (option_map (reference_on units by xs flag) q)
      sent_entry r None e flag = refl
      sent_entry r (Some None) e flag = refl
      sent_entry r (Some (Some p)) e flag = sent_case flag (nat_eq p.owner id) p (goes_from p (anchored.on r p (ap place_of_entry e)))

      pub sent_references : (r : ℕ) → reference_at (references_on units by xs b) r
          ≡ cond (is_on a id r) (option_map (slid_reference (elements units by xs)) (reference_at (references_on units by xs a) r)) (reference_at (references_on units by xs a) r)
      sent_references r =
          reference_at-on units by xs b r
          ∙ ap (λ (f : Bool). option_map (reference_on units by xs f) (entry b.refs r)) (same_flag r)
          ∙ ap (option_map (reference_on units by xs (is_acked_at a r))) (places r)
          ∙ sent_entry r (entry a.refs r) refl (is_acked_at a r)
          ∙ ap (λ (o : Option Reference). cond (is_on a id r) (option_map (slid_reference (elements units by xs)) o) o) (sym (reference_at-on units by xs a r))

      on_it : (r : ℕ) (p : Place) → is_on a id r ≡ true → place_of_reference a.refs r ≡ Some p → nat_eq p.owner id ≡ true
      on_it r p c e = sym (ap (λ (o : Option Place). option_map_or (λ owner. nat_eq owner id) (owner_of_place o) false) e) ∙ c

      settled_then : (r : ℕ) (p : Place) → is_on a id r ≡ true → place_of_reference b.refs r ≡ Some p → is_acked_at b r ≡ true
          → is_unremoved_at xs p.owner ≡ true
      settled_then r p c e f = elim (went r p e) [
        | inl there ↦ (on p there).1
        | inr kept ↦
            let no : nat_eq p.owner id ≡ false = not_both (is_acked_at a r) (nat_eq p.owner id) (sym (same_flag r) ∙ f) kept.1 in
            let yes : nat_eq p.owner id ≡ true = on_it r p c kept.0 in
            (cc)
      ]

      once_by : (r : ℕ) (c : Bool) → is_on a id r ≡ c
          → reference_at (references_on units by xs b) r
          ≡ cond c (option_map (slid_reference (elements units by xs)) (reference_at (references_on units by xs a) r)) (reference_at (references_on units by xs a) r)
          → option_map (slid_reference (elements units by xs)) (reference_at (references_on units by xs b) r)
          ≡ option_map (slid_reference (elements units by xs)) (reference_at (references_on units by xs a) r)
      once_by r true e h = slid_stays xs once b sent_anchored r (λ p q f. settled_then r p e q f) ∙ h
      once_by r false e h = ap (option_map (slid_reference (elements units by xs))) h

      -- to slide all then is to slide all at once
      pub sent_once : (r : ℕ) → option_map (slid_reference (elements units by xs)) (reference_at (references_on units by xs b) r)
          ≡ option_map (slid_reference (elements units by xs)) (reference_at (references_on units by xs a) r)
      sent_once r =
          once_by r (is_on a id r) refl (sent_references r)
