-- References on leaves beside single steps: a change, a leaf that goes or moves, an acknowledgement, and none at first.
use Rattle.std.proofs.Common.{◌≡◌, ◌≢◌, ℕ, suc, ◌+◌, ◌<◌, ◌≤◌, ◌⊎◌, Bool, true, false, cond, ◌&&◌, ◌||◌, nat_eq, nat_le, nat_lt, List, [], ◌∷◌, map, length, get_or, Option, Some, None, IsSome, option_and_then, option_map, subst, refl, sym, ◌∙◌, ap, inl, inr, arith}
use Rattle.std.specs.Option.{option_map_or}
use Rattle.std.proofs.lemmas.Bool.{cases_eq, ne_eqb}
use Rattle.std.proofs.lemmas.Bool.Decides.{nat_tests}
use Rattle.ft_arena.specs.Ids.{same, times}
use Rattle.ft_arena.proofs.IdLemmas.{same_refl}
use Rattle.ft_base.specs.declared.stamps.Stamp.{Stamp}
use Rattle.ft_base.specs.Visibility.{is_of_stage}
use Rattle.ft_block.specs.Leaves.{change_leaf, left_of, times_leaf, value_at}
use Rattle.ft_tree_leaves.specs.declared.block_leaf.LeafChange.{LeafChange}
use Rattle.ft_tree_leaves.specs.declared.leaves.TreeLeaf.{TreeLeaf}
use Rattle.ft_tree_leaves.specs.declared.references.Reference.{Reference}
use Rattle.ft_tree_leaves.specs.BlockChanges.{changed_leaf}
use Rattle.ft_tree_leaves.specs.BlockLaws.{changed_length, changed_stamps}
use Rattle.ft_tree_leaves.specs.Edits.{ChangesReference, IsFreeOf, is_touched_by, leaf_at}
use Rattle.ft_tree_leaves.specs.LeafChanges.{acked_leaf, acked_pair}
use Rattle.ft_tree_leaves.specs.LeafLists.{elements}
use Rattle.ft_tree_leaves.specs.Elements.{is_unremoved}
use Rattle.ft_tree_leaves.specs.Places.{settled_place}
use Rattle.ft_tree_leaves.specs.References.{IsReferenceIn, reference_place, reference_at, slid_reference}
use Rattle.ft_tree_leaves.proofs.Standing.{change-map}
use Rattle.ft_refs.specs.declared.numbers.Place.{Place}
use Rattle.ft_refs.specs.RefLists.{entry, place_of_entry, place_of_reference}
use Rattle.ft_tree_blocks.specs.Anchors.{AnchorLists, AreAnchored, ChangesAnchor, is_acked_at, numbered, reference_on, references_on}
use Rattle.ft_tree_blocks.specs.LeafPlaces.{place_on}
use Rattle.ft_tree_blocks.specs.Slides.{is_unremoved_at}
use Rattle.ft_tree_blocks.specs.Touched.{holds}
use Rattle.ft_tree_blocks.specs.Unsettled.{IsSoundOn, NotesAll}
use Rattle.ft_tree_blocks.proofs.AckedNodes.{untouched_stays}
use Rattle.ft_tree_blocks.proofs.AnchorChanges.{changed_references}
use Rattle.ft_tree_blocks.proofs.AnchoredLeaves.{on_leaf, reference_at-on}
use Rattle.ft_tree_blocks.proofs.KeptRefs.{Keeps, kept_mapped, kept_noted}
use Rattle.ft_tree_blocks.proofs.MovedLeaves.{count_alone}
use Rattle.ft_tree_blocks.proofs.StepValues.{value-map}
use Rattle.ft_tree_blocks.proofs.UnsettledLeaves.{unremoved_leaf}
use Rattle.ft_tree_blocks.proofs.Walks.{live_value}

pub holds-times : (ids : List ℕ) (id : ℕ) → holds ids id ≡ true → 1 ≤ times ids id
holds-times [] id h = (cc)
holds-times (n ∷ ids) id h = elim (cases_eq n id) [
  | inl e ↦ omega (arith, ap (λ z. same z id) e, same_refl id)
  | inr d ↦ omega (arith, holds-times ids id (other n id (nat_eq n id) d refl h))
]
  where
    other : (n id : ℕ) (b : Bool) → n ≢ id → nat_eq n id ≡ b → (b || holds ids id) ≡ true → holds ids id ≡ true
    other n id true d e h = absurd (d (same_number n id e))
      where
        same_number : (n id : ℕ) → nat_eq n id ≡ true → n ≡ id
        same_number n id e = grind (arith, nat_tests)
    other n id false d e h = h

-- no references are shown
pub numbered_none : (f : ℕ → Option Place → Reference) (n : ℕ) (ps : List (Option (Option Place))) → ((r : ℕ) → get_or ps r None ≡ None) → numbered f n ps ≡ []
numbered_none f n [] h = refl
numbered_none f n (None ∷ ps) h = numbered_none f (n + 1) ps (λ r. h (suc r))
numbered_none f n (Some p ∷ ps) h = let here : Some p ≡ None = h 0 in (cc)

module _ {C U : Type 0} (units : C → List U) (by : C → Option Stamp) where
  pub none_sound : (a : AnchorLists) (nodes : List ℕ) → ((r : ℕ) → entry a.refs r ≡ None) → IsSoundOn units [] a nodes
  none_sound a nodes h = record {
    anchored = record {
      on = λ r p e. let none : None ≡ Some p = sym (ap place_of_entry (h r)) ∙ e in absurd (cc);
      held = λ id live. absurd (omega arith);
    };
    settled = λ r p e f gone. let none : None ≡ Some p = sym (ap place_of_entry (h r)) ∙ e in absurd (cc);
  }

  changed_by : (f : TreeLeaf C → TreeLeaf C) → ((x : TreeLeaf C) → length (units (f x).content) ≡ length (units x.content)) → (b : Bool) (x : TreeLeaf C)
      → length (units (cond b (f x) x).content) ≡ length (units x.content)
  changed_by f h true x = h x
  changed_by f h false x = refl

  stamped_by : (f : TreeLeaf C → TreeLeaf C) → ((x : TreeLeaf C) → (f x).stamps ≡ x.stamps) → (b : Bool) (x : TreeLeaf C) → (cond b (f x) x).stamps ≡ x.stamps
  stamped_by f h true x = h x
  stamped_by f h false x = refl

  module _ (xs : List (ℕ × TreeLeaf C)) (once : (i : ℕ) → times_leaf xs i ≤ 1) (a : AnchorLists) (nodes : List ℕ) (sound : IsSoundOn units xs a nodes)
      (now : List (ℕ × TreeLeaf C)) where
    -- a leaf that is changed
    pub kept_change : (stamped : C → ℕ → ℕ → C) → ((x : C) (s c : ℕ) → units (stamped x s c) ≡ units x) → (c : LeafChange) (id : ℕ)
        → now ≡ change_leaf (λ v. changed_leaf stamped v c) xs id → Keeps units by (λ j. j) xs now a a nodes
    kept_change stamped h c id e =
        let f : TreeLeaf C → TreeLeaf C = λ v. changed_leaf stamped v c in
        kept_mapped units by xs once a nodes sound now (λ x. cond (nat_eq x.0 id) (f x.1) x.1) (e ∙ change-map f xs id)
        (λ x. changed_by f (λ v. changed_length units stamped h v c) (nat_eq x.0 id) x.1)
        (λ x. stamped_by f (λ v. changed_stamps stamped v c) (nat_eq x.0 id) x.1)

    acked_size : (stamped : C → ℕ → ℕ → C) → ((x : C) (s c : ℕ) → units (stamped x s c) ≡ units x) → (b : Bool) (x : C) (s c : ℕ)
        → length (units (cond b (stamped x s c) x)) ≡ length (units x)
    acked_size stamped h true x s c = ap length (h x s c)
    acked_size stamped h false x s c = refl

    -- a stage that is acknowledged, whose leaves are listed
    module _ (stamped : C → ℕ → ℕ → C) (h : (x : C) (s c : ℕ) → units (stamped x s c) ≡ units x) (k s c : ℕ) (ids : List ℕ) (more : List ℕ)
        (have : (z : ℕ) (x : TreeLeaf C) → value_at xs z ≡ Some x → is_touched_by k x ≡ true → holds ids z ≡ true) (notes : NotesAll a ids nodes more)
        (e : now ≡ map (acked_pair stamped k s c) xs) where
      touched_or_not : (r : ℕ) (p : Place) → place_of_reference a.refs r ≡ Some p → (x : TreeLeaf C) → value_at xs p.owner ≡ Some x
          → (b : Bool) → is_touched_by k x ≡ b
          → (is_unremoved_at now p.owner ≡ is_unremoved_at xs p.owner) ⊎ (1 ≤ times more p.owner)
      touched_or_not r p q x value true t = inr (notes.listed r p q (holds-times ids p.owner (have p.owner x value t)))
      touched_or_not r p q x value false t =
          inl (ap (λ (ys : List (ℕ × TreeLeaf C)). is_unremoved_at ys p.owner) e
          ∙ ap (λ (o : Option (TreeLeaf C)). option_map_or (unremoved_leaf units by) o false)
          (value-map (acked_leaf stamped k s c) xs p.owner ∙ ap (option_map (acked_leaf stamped k s c)) value ∙ ap Some (untouched_stays stamped k s c x t) ∙ sym value))

      pub kept_acked : Keeps units by (λ j. j) xs now a a more
      kept_acked =
          kept_noted units by xs once a nodes sound now (λ x. acked_leaf stamped k s c x.1) more e
          (λ x. acked_size stamped h (is_of_stage k x.1.stamps.ins) x.1.content s c) notes.still
          (λ r p q live gone. let v = live_value xs p.owner live in touched_or_not r p q v.0 v.1 (is_touched_by k v.0) refl)

    -- a leaf on which no reference is
    pub free_places : (id : ℕ) (v : TreeLeaf C) → value_at xs id ≡ Some v → IsFreeOf units by xs id (references_on units by xs a)
        → (r : ℕ) (p : Place) → place_of_reference a.refs r ≡ Some p → p.owner ≢ id
    free_places id v value free r p e same_owner =
        let on = on_leaf units by xs p (sound.anchored.on r p e) in
        let both : Some on.value ≡ Some v = sym on.is ∙ ap (value_at xs) same_owner ∙ value in
        let same_leaf : on.value ≡ v = (cc) in
        let i : ℕ = length (elements units by (left_of xs id)) in
        let n : ℕ = length (elements units by (leaf_at xs id)) in
        let j : ℕ = place_on units by xs p in
        let at : j ≡ i + p.offset = ap (λ (z : ℕ). length (elements units by (left_of xs z)) + p.offset) same_owner in
        let within : p.offset < n =
        omega (arith, on.within, ap (λ (w : TreeLeaf C). length (units w.content)) same_leaf, count_alone units by xs id v (once id) value) in
        let test : (nat_le i j && nat_lt j (i + n)) ≡ false = free r j (shown (entry a.refs r) (is_acked_at a r) e) in
        apart i n j p.offset at within test
      where
        shown_entry : (q : Option (Option Place)) (flag : Bool) → place_of_entry q ≡ Some p
            → option_and_then (λ (x : Reference). x.place) (option_map (reference_on units by xs flag) q) ≡ Some (place_on units by xs p)
        shown_entry None flag h = (cc)
        shown_entry (Some None) flag h = (cc)
        shown_entry (Some (Some was)) flag h = let same_place : was ≡ p = (cc) in ap (λ (z : Place). Some (place_on units by xs z)) same_place

        shown : (q : Option (Option Place)) (flag : Bool) → place_of_entry (entry a.refs r) ≡ Some p → reference_place (references_on units by xs a) r ≡ Some (place_on units by xs p)
        shown q flag h =
            ap (option_and_then (λ (x : Reference). x.place)) (reference_at-on units by xs a r) ∙ shown_entry (entry a.refs r) (is_acked_at a r) h

        apart : (i n j o : ℕ) → j ≡ i + o → o < n → (nat_le i j && nat_lt j (i + n)) ≡ false → ⊥
        apart i n j o e less test = grind (arith, nat_tests)

module _ {C U : Type 0} (units : C → List U) (by : C → Option Stamp) (xs : List (ℕ × TreeLeaf C)) (a : AnchorLists) (r : ℕ) where
  live_by : (q : Option (Option Place)) (flag : Bool) → IsSome (option_map (reference_on units by xs flag) q) → IsSome q
  live_by None flag h = h
  live_by (Some p) flag h = refl

  -- a live reference of a tree is live
  pub live_entry : IsReferenceIn (references_on units by xs a) r → IsSome (entry a.refs r)
  live_entry h = live_by (entry a.refs r) (is_acked_at a r) (subst IsSome (reference_at-on units by xs a r) h)

  shown_by : (q : Option (Option Place)) (flag : Bool)
      → option_and_then (λ (x : Reference). x.place) (option_map (reference_on units by xs flag) q) ≡ option_map (place_on units by xs) (place_of_entry q)
  shown_by None flag = refl
  shown_by (Some None) flag = refl
  shown_by (Some (Some p)) flag = refl

  -- its place among the elements
  pub reference_place-on : reference_place (references_on units by xs a) r ≡ option_map (place_on units by xs) (place_of_reference a.refs r)
  reference_place-on = ap (option_and_then (λ (x : Reference). x.place)) (reference_at-on units by xs a r) ∙ shown_by (entry a.refs r) (is_acked_at a r)

  pub changed_twice : (q p : Option (Option Place)) (f h : Bool) (b c : AnchorLists) → ChangesAnchor r q f a b → ChangesAnchor r p h b c
      → ChangesAnchor r p h a c
  changed_twice q p f h b c first then = record {
    places = record { changed = then.places.changed; others = λ x d. then.places.others x d ∙ first.places.others x d };
    flag = then.flag;
    flags = λ x d. then.flags x d ∙ first.flags x d;
    held = λ z k. then.held z (first.held z k);
  }

  module _ (anchored : AreAnchored units xs a) (b : AnchorLists) where
    changes_by : (q : Option (Option Place)) (flag : Bool) (f : Reference → Option Reference) → ChangesAnchor r q flag a b
        → option_map (reference_on units by xs flag) q ≡ option_and_then f (reference_at (references_on units by xs a) r)
        → ChangesReference r f (references_on units by xs a) (references_on units by xs b)
    changes_by q flag f changes e x = changed_references units by xs a anchored r q flag b changes x ∙ elim (cases_eq x r) [
      | inl same_number ↦ ap (λ (o : Option Reference). cond (nat_eq x r) o (reference_at (references_on units by xs a) x))
          (e ∙ ap (λ (z : ℕ). option_and_then f (reference_at (references_on units by xs a) z)) (sym same_number))
      | inr d ↦ unless (nat_eq x r) (ne_eqb x r d) _ _ _
    ]
      where
        unless : (c : Bool) → c ≡ false → (o p n : Option Reference) → cond c o n ≡ cond c p n
        unless c h o p n = ap (λ (t : Bool). cond t o n) h ∙ sym (ap (λ (t : Bool). cond t p n) h)

    nothing : (o : Option Reference) → None ≡ option_and_then {U = Reference} (λ (z : Reference). None) o
    nothing None = refl
    nothing (Some z) = refl

    -- a reference that ends
    pub ends : (flag : Bool) → ChangesAnchor r None flag a b → ChangesReference r (λ z. None) (references_on units by xs a) (references_on units by xs b)
    ends flag changes = changes_by None flag (λ z. None) changes (nothing (reference_at (references_on units by xs a) r))

    abbrev settled : Reference → Option Reference
    settled z = Some (slid_reference (elements units by xs) (record z { acked = true }))

    to_by : (to : Option Place) (p : Place) (q : Option (Option Place)) (flag : Bool) → place_of_entry q ≡ Some p
        → option_map (place_on units by xs) to ≡ settled_place is_unremoved (elements units by xs) (place_on units by xs p)
        → Some (reference_on units by xs true to) ≡ option_and_then settled (option_map (reference_on units by xs flag) q)
    to_by to p None flag h e = (cc)
    to_by to p (Some None) flag h e = (cc)
    to_by to p (Some (Some was)) flag h e =
        let same_place : was ≡ p = (cc) in
        ap (λ (o : Option ℕ). Some record { place = o; acked = true })
        (e ∙ ap (λ (z : Place). settled_place is_unremoved (elements units by xs) (place_on units by xs z)) (sym same_place))

    -- one that is acknowledged, and goes where it slides to
    pub settles_to : (p : Place) (to : Option Place) → place_of_reference a.refs r ≡ Some p
        → option_map (place_on units by xs) to ≡ settled_place is_unremoved (elements units by xs) (place_on units by xs p) → ChangesAnchor r (Some to) true a b
        → ChangesReference r (λ z. Some (slid_reference (elements units by xs) (record z { acked = true }))) (references_on units by xs a) (references_on units by xs b)
    settles_to p to h e changes =
        changes_by (Some to) true settled changes
        (to_by to p (entry a.refs r) (is_acked_at a r) h e ∙ ap (option_and_then settled) (sym (reference_at-on units by xs a r)))

    none_by : (q : Option (Option Place)) (flag : Bool) → IsSome q → place_of_entry q ≡ None
        → option_map (reference_on units by xs true) q ≡ option_and_then settled (option_map (reference_on units by xs flag) q)
    none_by None flag h e = (cc)
    none_by (Some None) flag h e = refl
    none_by (Some (Some p)) flag h e = (cc)

    -- one that is detached
    pub settles_none : IsSome (entry a.refs r) → place_of_reference a.refs r ≡ None → ChangesAnchor r (entry a.refs r) true a b
        → ChangesReference r (λ z. Some (slid_reference (elements units by xs) (record z { acked = true }))) (references_on units by xs a) (references_on units by xs b)
    settles_none live h changes =
        changes_by (entry a.refs r) true settled changes
        (none_by (entry a.refs r) (is_acked_at a r) live h ∙ ap (option_and_then settled) (sym (reference_at-on units by xs a r)))
