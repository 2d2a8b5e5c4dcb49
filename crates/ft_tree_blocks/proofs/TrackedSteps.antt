-- The lists of what each stage touched are right after each step.
use Rattle.std.proofs.Common.{◌≡◌, ◌≢◌, ℕ, ◌≤◌, Bool, true, false, cond, not, ◌||◌, List, [], ◌∷◌, ◌++◌, ◌⊎◌, inl, inr, filter, map, IsSomeAnd, Option, Some, None, refl, subst, sym, ◌∙◌, ap, nat_eq, arith, true≢false}
use Rattle.std.specs.List.{list_any}
use Rattle.std.specs.Option.{IsSome}
use Rattle.std.proofs.lemmas.Bool.Decides.{nat_tests}
use Rattle.std.proofs.lemmas.Bool.{and_from, and_parts, cases_eq, eq-eqb, ne_eqb, or_cases, or_left, or_right}
use Rattle.ft_arena.specs.Ids.{after}
use Rattle.ft_base.specs.declared.elements.Element.{Element}
use Rattle.ft_base.specs.declared.stamps.Stamp.{Stamp}
use Rattle.ft_base.specs.declared.stamps.Stamp.TheVariants.{Acked, Local}
use Rattle.ft_base.specs.Visibility.{is_acked, is_of_stage}
use Rattle.ft_block.specs.Leaves.{IsPlaceIn, change_leaf, ids, join_leaf, put_leaf, split_leaf, times_leaf, value_after, value_at, without_leaf}
use Rattle.ft_block.proofs.LeafListLemmas.{after_other, join_from, value_after_none, value_without}
use Rattle.ft_props.specs.declared.properties.Changes.{Changes}
use Rattle.ft_props.specs.Overlay.{without_stage}
use Rattle.ft_props.specs.Steps.{acked_stamp}
use Rattle.ft_tree_leaves.specs.declared.block_leaf.LeafChange.{LeafChange}
use Rattle.ft_tree_leaves.specs.declared.block_leaf.LeafChange.TheVariants.{SetAcked, PushPending, DropPending, DropAll, Ack}
use Rattle.ft_tree_leaves.specs.declared.leaves.TreeLeaf.{TreeLeaf}
use Rattle.ft_tree_leaves.specs.BlockChanges.{changed_leaf}
use Rattle.ft_tree_leaves.specs.LeafChanges.{acked_leaf, acked_pair}
use Rattle.ft_tree_leaves.specs.Edits.{is_marked_by, is_touched_by}
use Rattle.ft_tree_blocks.specs.Touched.{NodesOfStage, Notes, Tracks, added_stage, is_listed, is_stamped_by, all_purged, purged_at}
use Rattle.ft_tree_blocks.proofs.StepValues.{gone-without, is_some, is_valued, mapped, mapped_some, new_put, rear-split, value-change, value-map, value-put, value-split}
use Rattle.ft_tree_blocks.proofs.TouchedLists.{Takes, all_purged-listed, eq_from, notes-none, rising_purged}
use Rattle.ft_tree_blocks.proofs.WalkEdits.{live-put}

absurd_both : {A : Type 0} {b : Bool} → b ≡ true → b ≡ false → A
absurd_both h k = (cc)

-- what is known of a choice by a test
when : {A : Type 0} (z id : ℕ) (x y : A) → z ≡ id → cond (nat_eq z id) x y ≡ x
when z id x y e = ap (λ t. cond t x y) (eq-eqb z id e)

unless : {A : Type 0} (z id : ℕ) (x y : A) → z ≢ id → cond (nat_eq z id) x y ≡ y
unless z id x y d = ap (λ t. cond t x y) (ne_eqb z id d)

pub tracks-is : {C : Type 0} (xs ys : List (ℕ × TreeLeaf C)) (ss ts : List NodesOfStage) → ys ≡ xs → ts ≡ ss → Tracks xs ss → Tracks ys ts
tracks-is xs ys ss ts e h tracks = subst (Tracks ys) (sym h) (subst (λ zs. Tracks zs ss) (sym e) tracks)

-- no leaves
pub tracks-none : {C : Type 0} → Tracks {C = C} [] []
tracks-none = record { covers = λ k id x e t. (cc); live = λ k id l. (cc); rising = tt }

module _ {C : Type 0} (xs : List (ℕ × TreeLeaf C)) (ss : List NodesOfStage) (tracks : Tracks xs ss) where
  -- leaves of the same values
  pub tracks-same : (ys : List (ℕ × TreeLeaf C)) → ((z : ℕ) → value_at ys z ≡ value_at xs z) → Tracks ys ss
  tracks-same ys same = record {
    covers = λ k z x e t. tracks.covers k z x (sym (same z) ∙ e) t;
    live = λ k z l. subst IsSome (sym (same z)) (tracks.live k z l);
    rising = tracks.rising;
  }

  -- a leaf that is changed
  module _ (f : TreeLeaf C → TreeLeaf C) (id : ℕ) (ts : List NodesOfStage) (notes : Notes id ss ts)
      (own : (k : ℕ) (v : TreeLeaf C) → value_at xs id ≡ Some v → is_touched_by k (f v) ≡ true → (is_touched_by k v ≡ true) ⊎ (is_listed ts k id ≡ true)) where
    change_covers : (k z : ℕ) (x v : TreeLeaf C) → value_at xs z ≡ Some v → cond (nat_eq z id) (f v) v ≡ x → is_touched_by k x ≡ true → is_listed ts k z ≡ true
    change_covers k z x v at e t = elim (cases_eq z id) [
      | inl same ↦
          let here : f v ≡ x = sym (when z id (f v) v same) ∙ e in
          elim (own k v (ap (value_at xs) (sym same) ∙ at) (ap (is_touched_by k) here ∙ t)) [
            | inl old ↦ notes.kept k z (tracks.covers k z v at old)
            | inr new ↦ ap (is_listed ts k) same ∙ new
          ]
      | inr d ↦
          let here : v ≡ x = sym (unless z id (f v) v d) ∙ e in
          notes.kept k z (tracks.covers k z v at (ap (is_touched_by k) here ∙ t))
    ]

    pub tracks-change : IsSome (value_at xs id) → Tracks (change_leaf f xs id) ts
    tracks-change live = record {
      covers = λ k z x e t.
          let v = mapped (λ v. cond (nat_eq z id) (f v) v) (value_at xs z) x (sym (value-change f xs id z) ∙ e) in
          change_covers k z x v.0 v.1 v.2 t;
      live = λ k z l. subst IsSome (sym (value-change f xs id z)) (mapped_some (λ v. cond (nat_eq z id) (f v) v) (value_at xs z) (elim (notes.only k z l) [
        | inl old ↦ tracks.live k z old
        | inr same ↦ subst (λ n. IsSome (value_at xs n)) (sym same) live
      ]));
      rising = notes.rising;
    }

  -- a new leaf
  module _ (at : Option ℕ) (id : ℕ) (leaf : TreeLeaf C) (ts : List NodesOfStage) (notes : Notes id ss ts) (fresh : times_leaf xs id ≡ 0)
      (once : (i : ℕ) → times_leaf xs i ≤ 1) (place : IsPlaceIn xs at) (own : (k : ℕ) → is_touched_by k leaf ≡ true → is_listed ts k id ≡ true) where
    insert_covers : (k z : ℕ) (x : TreeLeaf C) → value_at (put_leaf xs at (id, leaf)) z ≡ Some x → is_touched_by k x ≡ true → is_listed ts k z ≡ true
    insert_covers k z x e t = elim (cases_eq z id) [
      | inl same ↦
          let here : x ≡ leaf = new_put xs at id leaf x fresh (ap (value_at (put_leaf xs at (id, leaf))) (sym same) ∙ e) in
          ap (is_listed ts k) same ∙ own k (ap (is_touched_by k) (sym here) ∙ t)
      | inr d ↦ notes.kept k z (tracks.covers k z x (sym (value-put xs at id z leaf d) ∙ e) t)
    ]

    insert_live : (z : ℕ) → (IsSome (value_at xs z)) ⊎ (z ≡ id) → IsSome (value_at (put_leaf xs at (id, leaf)) z)
    insert_live z h = elim (cases_eq z id) [
      | inl same ↦ subst (λ n. IsSome (value_at (put_leaf xs at (id, leaf)) n)) (sym same) (is_valued (put_leaf xs at (id, leaf)) id (live-put xs at id leaf once place))
      | inr d ↦ subst IsSome (sym (value-put xs at id z leaf d)) (elim h [ inl old ↦ old | inr same ↦ absurd (d same) ])
    ]

    pub tracks-insert : Tracks (put_leaf xs at (id, leaf)) ts
    tracks-insert = record {
      covers = insert_covers;
      live = λ k z l. insert_live z (elim (notes.only k z l) [ inl old ↦ inl (tracks.live k z old) | inr same ↦ inr same ]);
      rising = notes.rising;
    }

  -- a cut
  module _ (f r : TreeLeaf C → TreeLeaf C) (id new : ℕ) (ts : List NodesOfStage) (notes : Notes new ss ts) (fresh : times_leaf xs new ≡ 0)
      (front : (k : ℕ) (v : TreeLeaf C) → is_touched_by k (f v) ≡ is_touched_by k v)
      (own : (k : ℕ) (v : TreeLeaf C) → value_at xs id ≡ Some v → is_touched_by k (r v) ≡ true → is_listed ts k new ≡ true) where
    front_by : (k z : ℕ) (b : Bool) (v : TreeLeaf C) → is_touched_by k (cond b (f v) v) ≡ is_touched_by k v
    front_by k z true v = front k v
    front_by k z false v = refl

    split_covers : (k z : ℕ) (x : TreeLeaf C) → value_at (split_leaf f r xs id new) z ≡ Some x → is_touched_by k x ≡ true → is_listed ts k z ≡ true
    split_covers k z x e t = elim (cases_eq z new) [
      | inl same ↦
          let v = mapped r (value_at xs id) x (sym (rear-split f r xs id new fresh) ∙ ap (value_at (split_leaf f r xs id new)) (sym same) ∙ e) in
          ap (is_listed ts k) same ∙ own k v.0 v.1 (ap (is_touched_by k) v.2 ∙ t)
      | inr d ↦
          let v = mapped (λ v. cond (nat_eq z id) (f v) v) (value_at xs z) x (sym (value-split f r xs id new z d) ∙ e) in
          notes.kept k z (tracks.covers k z v.0 v.1 (sym (front_by k z (nat_eq z id) v.0) ∙ ap (is_touched_by k) v.2 ∙ t))
    ]

    split_live : IsSome (value_at xs id) → (z : ℕ) → (IsSome (value_at xs z)) ⊎ (z ≡ new) → IsSome (value_at (split_leaf f r xs id new) z)
    split_live live z h = elim (cases_eq z new) [
      | inl same ↦ subst (λ n. IsSome (value_at (split_leaf f r xs id new) n)) (sym same)
          (subst IsSome (sym (rear-split f r xs id new fresh)) (mapped_some r (value_at xs id) live))
      | inr d ↦ subst IsSome (sym (value-split f r xs id new z d))
          (mapped_some (λ v. cond (nat_eq z id) (f v) v) (value_at xs z) (elim h [ inl old ↦ old | inr same ↦ absurd (d same) ]))
    ]

    pub tracks-split : IsSome (value_at xs id) → Tracks (split_leaf f r xs id new) ts
    tracks-split live = record {
      covers = split_covers;
      live = λ k z l. split_live live z (elim (notes.only k z l) [ inl old ↦ inl (tracks.live k z old) | inr same ↦ inr same ]);
      rising = notes.rising;
    }

  -- a leaf that goes
  without_covers : (id k z : ℕ) (x : TreeLeaf C) → value_at (without_leaf xs id) z ≡ Some x → is_touched_by k x ≡ true → is_listed (all_purged id ss) k z ≡ true
  without_covers id k z x e t = elim (cases_eq z id) [
    | inl same ↦
        let none : None ≡ Some x = sym (gone-without xs id) ∙ ap (value_at (without_leaf xs id)) (sym same) ∙ e in
        (cc)
    | inr d ↦
        all_purged-listed id k z ss
        ∙ and_from (is_listed ss k z) (not (nat_eq z id)) (tracks.covers k z x (sym (value_without xs z id d) ∙ e) t) (ap not (ne_eqb z id d))
  ]

  other : (z id : ℕ) → not (nat_eq z id) ≡ true → z ≢ id
  other z id h e = let same : not (nat_eq z id) ≡ false = ap not (eq-eqb z id e) in (cc)

  pub tracks-without : (id : ℕ) → Tracks (without_leaf xs id) (all_purged id ss)
  tracks-without id = record {
    covers = without_covers id;
    live = λ k z l.
        let both = and_parts (is_listed ss k z) (not (nat_eq z id)) (sym (all_purged-listed id k z ss) ∙ l) in
        subst IsSome (sym (value_without xs z id (other z id both.1))) (tracks.live k z both.0);
    rising = rising_purged id ss tracks.rising;
  }

-- the next leaf goes
absent : {A : Type 0} (o : Option A) (P : A → Type 0) → o ≡ None → IsSomeAnd o P → ⊥
absent None P e h = h
absent (Some x) P e h = (cc)

present : {A : Type 0} (o : Option A) (P : A → Type 0) → IsSomeAnd o P → (x : A) × (o ≡ Some x) × P x
present None P h = absurd h
present (Some x) P h = (x, refl, h)

pub tracks-join : {C : Type 0} (f : TreeLeaf C → TreeLeaf C → TreeLeaf C) → ((k : ℕ) (v w : TreeLeaf C) → is_touched_by k (f v w) ≡ is_touched_by k v)
    → (xs : List (ℕ × TreeLeaf C)) (ss : List NodesOfStage) (id : ℕ) (next : Option ℕ) (P : TreeLeaf C → TreeLeaf C → Type 0) → Tracks xs ss
    → ((i : ℕ) → times_leaf xs i ≤ 1) → next ≡ after (ids xs) id → IsSomeAnd (value_at xs id) (λ v. IsSomeAnd (value_after xs id) (P v))
    → Tracks (join_leaf f xs id) (purged_at next ss)
tracks-join f same xs ss id None P tracks once e can =
    let v = present (value_at xs id) (λ v. IsSomeAnd (value_after xs id) (P v)) can in
    absurd (absent (value_after xs id) (P v.0) (value_after_none xs id (sym e)) v.2)
tracks-join {C} f same xs ss id (Some n) P tracks once e can =
    let v = present (value_at xs id) (λ v. IsSomeAnd (value_after xs id) (P v)) can in
    let w = present (value_after xs id) (P v.0) v.2 in
    let rest = tracks-without xs ss tracks n in
    let here : value_at (without_leaf xs n) id ≡ Some v.0 = value_without xs id n (after_other xs id n once (sym e)) ∙ v.1 in
    subst (λ (ys : List (ℕ × TreeLeaf C)). Tracks ys (all_purged n ss)) (join_from f xs id n w.0 once (sym e) w.1)
    (tracks-change (without_leaf xs n) (all_purged n ss) rest (λ u. f u w.0) id (all_purged n ss) (notes-none id (all_purged n ss) rest.rising)
    (λ k u at t. inl (sym (same k u w.0) ∙ t)) (is_some (value_at (without_leaf xs n) id) v.0 here))

-- what a change of a leaf brings
any_more : {A : Type 0} (p : A → Bool) (xs : List A) (y : A) → list_any p (xs ++ y ∷ []) ≡ true → (list_any p xs ≡ true) ⊎ (p y ≡ true)
any_more p [] y h = elim (or_cases (p y) false h) [ inl last ↦ inr last | inr none ↦ (cc) ]
any_more p (x ∷ xs) y h = elim (or_cases (p x) (list_any p (xs ++ y ∷ [])) h) [
  | inl here ↦ inl (or_left (p x) (list_any p xs) here)
  | inr rest ↦ elim (any_more p xs y rest) [ inl there ↦ inl (or_right (p x) (list_any p xs) there) | inr last ↦ inr last ]
]

fewer_by : {A : Type 0} (b : Bool) (p : A → Bool) (x : A) (xs ys : List A) → (list_any p ys ≡ true → list_any p xs ≡ true)
    → list_any p (cond b (x ∷ ys) ys) ≡ true → list_any p (x ∷ xs) ≡ true
fewer_by true p x xs ys h t = elim (or_cases (p x) (list_any p ys) t) [
  | inl here ↦ or_left (p x) (list_any p xs) here
  | inr rest ↦ or_right (p x) (list_any p xs) (h rest)
]
fewer_by false p x xs ys h t = or_right (p x) (list_any p xs) (h t)

fewer : {A : Type 0} (p q : A → Bool) (xs : List A) → list_any p (filter q xs) ≡ true → list_any p xs ≡ true
fewer p q [] h = h
fewer p q (x ∷ xs) h = fewer_by (q x) p x xs (filter q xs) (fewer p q xs) h

-- by the parts of a leaf
parts : {C : Type 0} (k : ℕ) (x : TreeLeaf C) (P : Type 0) → is_touched_by k x ≡ true
    → (is_stamped_by k x.stamps ≡ true → P) → (list_any (λ p. nat_eq p.0 k) x.overlay.pending ≡ true → P) → P
parts k x P t stamped changed =
    let ins = is_of_stage k x.stamps.ins in
    let dels = list_any (is_of_stage k) x.stamps.dels in
    let pending = list_any (λ p. nat_eq p.0 k) x.overlay.pending in
    elim (or_cases ins (dels || pending) t) [
      | inl a ↦ stamped (or_left ins dels a)
      | inr b ↦ elim (or_cases dels pending b) [ inl d ↦ stamped (or_right ins dels d) | inr p ↦ changed p ]
    ]

pub by_stamps : {C : Type 0} (k : ℕ) (x : TreeLeaf C) → is_stamped_by k x.stamps ≡ true → is_touched_by k x ≡ true
by_stamps k x h =
    let ins = is_of_stage k x.stamps.ins in
    let dels = list_any (is_of_stage k) x.stamps.dels in
    let pending = list_any (λ p. nat_eq p.0 k) x.overlay.pending in
    elim (or_cases ins dels h) [
      | inl a ↦ or_left ins (dels || pending) a
      | inr d ↦ or_right ins (dels || pending) (or_left dels pending d)
    ]

pub by_removals : {C : Type 0} (k : ℕ) (x : TreeLeaf C) → list_any (is_of_stage k) x.stamps.dels ≡ true → is_touched_by k x ≡ true
by_removals k x h = by_stamps k x (or_right (is_of_stage k x.stamps.ins) (list_any (is_of_stage k) x.stamps.dels) h)

pub by_changes : {C : Type 0} (k : ℕ) (x : TreeLeaf C) → list_any (λ p. nat_eq p.0 k) x.overlay.pending ≡ true → is_touched_by k x ≡ true
by_changes k x h =
    let ins = is_of_stage k x.stamps.ins in
    let dels = list_any (is_of_stage k) x.stamps.dels in
    let pending = list_any (λ p. nat_eq p.0 k) x.overlay.pending in
    or_right ins (dels || pending) (or_right dels pending h)

module _ {C : Type 0} (stamped : C → ℕ → ℕ → C) where
  dropped : (k j : ℕ) (x : TreeLeaf C) (y : TreeLeaf C) → y.stamps ≡ x.stamps → y.overlay.pending ≡ without_stage j x.overlay.pending
      → is_touched_by k y ≡ true → is_touched_by k x ≡ true
  dropped k j x y e p t = parts k y (is_touched_by k x ≡ true) t
      (λ h. by_stamps k x (ap (is_stamped_by k) (sym e) ∙ h))
      (λ h. by_changes k x (fewer (λ q. nat_eq q.0 k) (λ q. not (nat_eq q.0 j)) x.overlay.pending (ap (list_any (λ q. nat_eq q.0 k)) (sym p) ∙ h)))

  pub touched-changed : (c : LeafChange) (x : TreeLeaf C) (k : ℕ) → is_touched_by k (changed_leaf stamped x c) ≡ true
      → (is_touched_by k x ≡ true) ⊎ (added_stage c ≡ Some k)
  touched-changed (SetAcked set) x k t = inl t
  touched-changed (PushPending j set) x k t = parts k (changed_leaf stamped x (PushPending j set)) ((is_touched_by k x ≡ true) ⊎ (Some j ≡ Some k)) t
      (λ h. inl (by_stamps k x h))
      (λ h. elim (any_more (λ q. nat_eq q.0 k) x.overlay.pending (j, set) h) [
        | inl old ↦ inl (by_changes k x old)
        | inr new ↦ inr (ap (λ n. Some n) (eq_from j k new))
      ])
  touched-changed (DropPending j) x k t = inl (dropped k j x (changed_leaf stamped x (DropPending j)) refl refl t)
  touched-changed DropAll x k t = parts k (changed_leaf stamped x DropAll) ((is_touched_by k x ≡ true) ⊎ (None ≡ Some k)) t
      (λ h. inl (by_stamps k x h))
      (λ h. (cc))
  touched-changed (Ack j s c) x k t = inl (dropped k j x (changed_leaf stamped x (Ack j s c)) refl refl t)

-- other stamps
pub touched-stamped : {C : Type 0} (e : Element) (x : TreeLeaf C) (k : ℕ) → is_touched_by k (record x { stamps = e }) ≡ true
    → (is_touched_by k x ≡ true) ⊎ (is_stamped_by k e ≡ true)
touched-stamped e x k t = parts k (record x { stamps = e }) ((is_touched_by k x ≡ true) ⊎ (is_stamped_by k e ≡ true)) t (λ h. inr h) (λ h. inl (by_changes k x h))

-- new elements
pub new_touched : {C : Type 0} (x : TreeLeaf C) (k : ℕ) → x.overlay.pending ≡ [] → is_touched_by k x ≡ true → is_stamped_by k x.stamps ≡ true
new_touched x k none t = parts k x (is_stamped_by k x.stamps ≡ true) t (λ h. h) (λ h. absurd_both h (ap (list_any (λ p. nat_eq p.0 k)) none))

-- a leaf on which nothing is pending
settled_stamp : (k : ℕ) (t : Stamp) → not (is_acked t) ≡ false → is_of_stage k t ≡ false
settled_stamp k (Acked s c) h = refl
settled_stamp k (Local j) h = (cc)

neither : (a b : Bool) → (a || b) ≡ false → (a ≡ false) × (b ≡ false)
neither true b h = (cc)
neither false b h = (refl, h)

settled_stamps : (k : ℕ) (ts : List Stamp) → list_any (λ t. not (is_acked t)) ts ≡ false → list_any (is_of_stage k) ts ≡ false
settled_stamps k [] h = refl
settled_stamps k (t ∷ ts) h =
    let n = neither (not (is_acked t)) (list_any (λ u. not (is_acked u)) ts) h in
    ap (λ b. b || list_any (is_of_stage k) ts) (settled_stamp k t n.0) ∙ settled_stamps k ts n.1

pub untouched : {C : Type 0} (x : TreeLeaf C) → not (is_acked x.stamps.ins) ≡ false
    → list_any (λ t. not (is_acked t)) x.stamps.dels ≡ false → x.overlay.pending ≡ []
    → (k : ℕ) → is_touched_by k x ≡ false
untouched x ins dels none k =
    ap (λ b. b || (list_any (is_of_stage k) x.stamps.dels || list_any (λ p. nat_eq p.0 k) x.overlay.pending)) (settled_stamp k x.stamps.ins ins)
    ∙ ap (λ b. b || list_any (λ p. nat_eq p.0 k) x.overlay.pending) (settled_stamps k x.stamps.dels dels)
    ∙ ap (list_any (λ p. nat_eq p.0 k)) none

-- and the other way round
stamp_settled : (t : Stamp) → ((k : ℕ) → is_of_stage k t ≡ false) → not (is_acked t) ≡ false
stamp_settled (Acked s c) none = refl
stamp_settled (Local k) none = let own : nat_eq k k ≡ true = grind (arith, nat_tests) in absurd (true≢false (sym own ∙ none k))

stamps_settled : (ts : List Stamp) → ((k : ℕ) → list_any (is_of_stage k) ts ≡ false) → list_any (λ t. not (is_acked t)) ts ≡ false
stamps_settled [] none = refl
stamps_settled (t ∷ ts) none =
    let both = λ (k : ℕ). neither (is_of_stage k t) (list_any (is_of_stage k) ts) (none k) in
    ap (λ b. b || list_any (λ t. not (is_acked t)) ts) (stamp_settled t (λ k. (both k).0)) ∙ stamps_settled ts (λ k. (both k).1)

changes_settled : {X : Type 0} (ps : List (ℕ × X)) → ((k : ℕ) → list_any (λ p. nat_eq p.0 k) ps ≡ false) → ps ≡ []
changes_settled [] none = refl
changes_settled (p ∷ ps) none =
    let own : nat_eq p.0 p.0 ≡ true = grind (arith, nat_tests) in
    absurd (true≢false (sym own ∙ (neither (nat_eq p.0 p.0) (list_any (λ q. nat_eq q.0 p.0) ps) (none p.0)).0))

pub all_settled : {C : Type 0} (x : TreeLeaf C) → ((k : ℕ) → is_touched_by k x ≡ false)
    → (not (is_acked x.stamps.ins) ≡ false) × (list_any (λ t. not (is_acked t)) x.stamps.dels ≡ false) × (x.overlay.pending ≡ [])
all_settled x none =
    let first = λ (k : ℕ). neither (is_of_stage k x.stamps.ins) (is_marked_by k x) (none k) in
    let rest = λ (k : ℕ). neither (list_any (is_of_stage k) x.stamps.dels) (list_any (λ p. nat_eq p.0 k) x.overlay.pending) (first k).1 in
    (stamp_settled x.stamps.ins (λ k. (first k).0), stamps_settled x.stamps.dels (λ k. (rest k).0), changes_settled x.overlay.pending (λ k. (rest k).1))

-- an acknowledged stage
gone_stamp : (b : Bool) (k s c : ℕ) (t : Stamp) → is_of_stage k t ≡ b → is_of_stage k (cond b (Acked s c) t) ≡ false
gone_stamp true k s c t e = refl
gone_stamp false k s c t e = e

same_stamp : (b : Bool) (j s c : ℕ) (t : Stamp) → is_of_stage j (cond b (Acked s c) t) ≡ true → is_of_stage j t ≡ true
same_stamp true j s c t h = (cc)
same_stamp false j s c t h = h

gone_stamps : (k s c : ℕ) (ts : List Stamp) → list_any (is_of_stage k) (map (acked_stamp k s c) ts) ≡ false
gone_stamps k s c [] = refl
gone_stamps k s c (t ∷ ts) =
    ap (λ b. b || list_any (is_of_stage k) (map (acked_stamp k s c) ts)) (gone_stamp (is_of_stage k t) k s c t refl) ∙ gone_stamps k s c ts

same_stamps : (k s c j : ℕ) (ts : List Stamp) → list_any (is_of_stage j) (map (acked_stamp k s c) ts) ≡ true → list_any (is_of_stage j) ts ≡ true
same_stamps k s c j [] h = h
same_stamps k s c j (t ∷ ts) h = elim (or_cases (is_of_stage j (acked_stamp k s c t)) (list_any (is_of_stage j) (map (acked_stamp k s c) ts)) h) [
  | inl here ↦ or_left (is_of_stage j t) (list_any (is_of_stage j) ts) (same_stamp (is_of_stage k t) j s c t here)
  | inr rest ↦ or_right (is_of_stage j t) (list_any (is_of_stage j) ts) (same_stamps k s c j ts rest)
]

gone_by : (b : Bool) (k : ℕ) (p : ℕ × Changes) (ps : List (ℕ × Changes)) → nat_eq p.0 k ≡ b → list_any (λ q. nat_eq q.0 k) ps ≡ false
    → list_any (λ q. nat_eq q.0 k) (cond (not b) (p ∷ ps) ps) ≡ false
gone_by true k p ps e h = h
gone_by false k p ps e h = ap (λ b. b || list_any (λ q. nat_eq q.0 k) ps) e ∙ h

gone_changes : (k : ℕ) (ps : List (ℕ × Changes)) → list_any (λ q. nat_eq q.0 k) (without_stage k ps) ≡ false
gone_changes k [] = refl
gone_changes k (p ∷ ps) = gone_by (nat_eq p.0 k) k p (without_stage k ps) refl (gone_changes k ps)

module _ {C : Type 0} (stamped : C → ℕ → ℕ → C) (k s c : ℕ) where
  pub acked_untouched : (x : TreeLeaf C) → is_touched_by k (acked_leaf stamped k s c x) ≡ false
  acked_untouched x =
      let y = acked_leaf stamped k s c x in
      ap (λ b. b || (list_any (is_of_stage k) y.stamps.dels || list_any (λ p. nat_eq p.0 k) y.overlay.pending)) (gone_stamp (is_of_stage k x.stamps.ins) k s c x.stamps.ins refl)
      ∙ ap (λ b. b || list_any (λ p. nat_eq p.0 k) y.overlay.pending) (gone_stamps k s c x.stamps.dels)
      ∙ gone_changes k x.overlay.pending

  pub acked_touched : (j : ℕ) (x : TreeLeaf C) → is_touched_by j (acked_leaf stamped k s c x) ≡ true → is_touched_by j x ≡ true
  acked_touched j x t = parts j (acked_leaf stamped k s c x) (is_touched_by j x ≡ true) t
      (λ h. by_stamps j x (elim (or_cases (is_of_stage j (acked_stamp k s c x.stamps.ins)) (list_any (is_of_stage j) (map (acked_stamp k s c) x.stamps.dels)) h) [
        | inl a ↦ or_left (is_of_stage j x.stamps.ins) (list_any (is_of_stage j) x.stamps.dels) (same_stamp (is_of_stage k x.stamps.ins) j s c x.stamps.ins a)
        | inr d ↦ or_right (is_of_stage j x.stamps.ins) (list_any (is_of_stage j) x.stamps.dels) (same_stamps k s c j x.stamps.dels d)
      ]))
      (λ h. by_changes j x (fewer (λ q. nat_eq q.0 j) (λ q. not (nat_eq q.0 k)) x.overlay.pending h))

  pub tracks-acked : (xs : List (ℕ × TreeLeaf C)) (ss ts : List NodesOfStage) (ns : List ℕ) → Tracks xs ss → Takes k ss ts ns
      → Tracks (map (acked_pair stamped k s c) xs) ts
  tracks-acked xs ss ts ns tracks takes = record {
    covers = λ j z x e t.
        let v = mapped (acked_leaf stamped k s c) (value_at xs z) x (sym (value-map (acked_leaf stamped k s c) xs z) ∙ e) in
        let now : is_touched_by j (acked_leaf stamped k s c v.0) ≡ true = ap (is_touched_by j) v.2 ∙ t in
        takes.others j z (λ same. absurd_both (ap (λ n. is_touched_by n (acked_leaf stamped k s c v.0)) (sym same) ∙ now) (acked_untouched v.0))
        ∙ tracks.covers j z v.0 v.1 (acked_touched j v.0 now);
    live = λ j z l. subst IsSome (sym (value-map (acked_leaf stamped k s c) xs z)) (mapped_some (acked_leaf stamped k s c) (value_at xs z)
        (tracks.live j z (sym (takes.others j z (λ same. absurd_both l (ap (λ n. is_listed ts n z) same ∙ takes.gone z))) ∙ l)));
    rising = takes.rising;
  }
