-- Where a reference on a leaf goes: there, behind it, or before it.
use Rattle.std.proofs.Common.{◌≡◌, ◌≢◌, ℕ, suc, ◌+◌, ◌<◌, ◌≤◌, Bool, true, false, cond, nat_eq, List, [], ◌∷◌, ◌++◌, map, length, All, Option, Some, None, IsSomeAnd, MatchOption, subst, refl, sym, ◌∙◌, ap, inl, inr, arith, length-append}
use Rattle.std.specs.Option.{option_or}
use Rattle.std.proofs.lemmas.List.Elements.{All-head, All-tail}
use Rattle.std.proofs.lemmas.Bool.{cases_eq, cond-false, cond-true, eq-eqb, ne_eqb}
use Rattle.ft_arena.specs.Ids.{after, first}
use Rattle.ft_arena.proofs.IdLemmas.{same_other, same_refl}
use Rattle.ft_base.specs.declared.stamps.Stamp.{Stamp}
use Rattle.ft_block.specs.Leaves.{IsLeafIn, IsPlaceIn, ids, left_of, times_leaf, value_at}
use Rattle.ft_tree_leaves.specs.declared.leaves.Standing.{Standing}
use Rattle.ft_tree_leaves.specs.declared.leaves.TreeLeaf.{TreeLeaf}
use Rattle.ft_tree_leaves.specs.Edits.{up_to_leaf, up_to_place}
use Rattle.ft_tree_leaves.specs.Elements.{TreeElement, element_with}
use Rattle.ft_tree_leaves.specs.LeafLists.{elements, leaf_elements}
use Rattle.ft_tree_leaves.specs.Places.{settled_place}
use Rattle.ft_tree_leaves.specs.Settling.{allows, first_from, settled_from, stands}
use Rattle.ft_tree_leaves.proofs.LeafRuns.{elements-append, elements-one, length-leaf}
use Rattle.ft_tree_leaves.proofs.Settling.{first-here, first-past, settled-beside, settled-here, settled_place-from}
use Rattle.ft_tree_blocks.specs.LastStanding.{last_from}
use Rattle.ft_tree_blocks.specs.LeafPlaces.{IsOnLeaf, leaf_end, leaf_start}
use Rattle.ft_tree_blocks.specs.Walks.{before_place, from_place, node_behind}
use Rattle.ft_tree_blocks.proofs.Walks.{before-after, stands as stands_once, up_to-before, up_to-stands}

or_none : {T : Type 0} (a : Option T) → option_or a None ≡ a
or_none None = refl
or_none (Some x) = refl

or_assoc : {T : Type 0} (a b c : Option T) → option_or (option_or a b) c ≡ option_or a (option_or b c)
or_assoc None b c = refl
or_assoc (Some x) b c = refl

or_cond : {T : Type 0} (b : Bool) (x : T) (last : Option T) → option_or (cond b (Some x) None) last ≡ cond b (Some x) last
or_cond true x last = refl
or_cond false x last = refl

module _ {A : Type 0} (ok : A → Bool) where
  -- the last one of two lists
  pub last-append : (n : ℕ) (xs ys : List A) → last_from ok n (xs ++ ys) ≡ option_or (last_from ok (n + length xs) ys) (last_from ok n xs)
  last-append n [] ys = let same : n ≡ n + 0 = omega arith in ap (λ k. last_from ok k ys) same ∙ sym (or_none (last_from ok (n + 0) ys))
  last-append n (x ∷ xs) ys =
      let here : Option ℕ = cond (ok x) (Some n) None in
      let same : n + 1 + length xs ≡ n + suc (length xs) = omega arith in
      ap (λ o. option_or o here) (last-append (n + 1) xs ys)
      ∙ or_assoc (last_from ok (n + 1 + length xs) ys) (last_from ok (n + 1) xs) here
      ∙ ap (λ k. option_or (last_from ok k ys) (last_from ok n (x ∷ xs))) same

  -- a reference behind a list goes on from there, or back to the last one of it
  pub settled-append : (i n : ℕ) (last : Option ℕ) (xs ys : List A) → n + length xs ≤ i
      → settled_from ok i last n (xs ++ ys) ≡ settled_from ok i (option_or (last_from ok n xs) last) (n + length xs) ys
  settled-append i n last [] ys le = let same : n ≡ n + 0 = omega arith in ap (λ k. settled_from ok i last k ys) same
  settled-append i n last (x ∷ xs) ys le =
      let d : n ≢ i = omega arith in
      let next : Option ℕ = cond (ok x) (Some n) last in
      let same : n + 1 + length xs ≡ n + suc (length xs) = omega arith in
      let kept : option_or (last_from ok n (x ∷ xs)) last ≡ option_or (last_from ok (n + 1) xs) next =
      or_assoc (last_from ok (n + 1) xs) (cond (ok x) (Some n) None) last ∙ ap (option_or (last_from ok (n + 1) xs)) (or_cond (ok x) n last) in
      cond-false (nat_eq n i) (option_or (first_from ok n (x ∷ xs ++ ys)) last) (settled_from ok i next (n + 1) (xs ++ ys)) (ne_eqb n i d)
      ∙ settled-append i (n + 1) next xs ys (omega arith)
      ∙ ap (λ k. settled_from ok i (option_or (last_from ok (n + 1) xs) next) k ys) same
      ∙ ap (λ o. settled_from ok i o (n + suc (length xs)) ys) (sym kept)

  module _ {U : Type 0} (f : U → A) where
    -- in a run that isn't ok there is no last one
    pub last-none : ((u : U) → ok (f u) ≡ false) → (us : List U) (n : ℕ) → last_from ok n (map f us) ≡ None
    last-none h [] n = refl
    last-none h (u ∷ us) n = grind (arith, h u, last-none h us (n + 1))

    -- in one that is, it is at the end
    pub last-run : ((u : U) → ok (f u) ≡ true) → (us : List U) (n k : ℕ) → 0 < length us → n + length us ≡ suc k → last_from ok n (map f us) ≡ Some k
    last-run h [] n k some e = absurd (omega arith)
    last-run h (u ∷ []) n k some e = let same : n ≡ k = omega arith in ap (λ b. cond b (Some n) None) (h u) ∙ ap (λ j. Some j) same
    last-run h (u ∷ v ∷ us) n k some e =
        ap (λ o. option_or o (cond (ok (f u)) (Some n) None)) (last-run h (v ∷ us) (n + 1) k (omega arith) (omega arith))

module _ {L : Type 0} where
  -- this node stands directly before that of `id`, or none where that is the first
  abbrev pub IsBefore : List (ℕ × L) → ℕ → Option ℕ → Type 0
  IsBefore xs id o = MatchOption o (first (ids xs) ≡ Some id) (λ p. after (ids xs) p ≡ Some id)

  prev_behind : (xs : List (ℕ × L)) (id : ℕ) (o : Option ℕ) → IsBefore xs id o → node_behind xs o ≡ Some id
  prev_behind xs id None h = h
  prev_behind xs id (Some p) h = h

  before_live : (xs : List (ℕ × L)) (p id : ℕ) → after (ids xs) p ≡ Some id → IsLeafIn xs p
  before_live [] p id e = (cc)
  before_live (x ∷ xs) p id e = elim (cases_eq x.0 p) [
    | inl same ↦ omega (arith, same_refl p, ap (λ k. times_leaf (x ∷ []) k) same, same_refl x.0)
    | inr d ↦
        let rest : after (ids xs) p ≡ Some id = sym (cond-false (nat_eq x.0 p) (first (ids xs)) (after (ids xs) p) (ne_eqb x.0 p d)) ∙ e in
        omega (arith, before_live xs p id rest)
  ]

  -- it is a live leaf, or none
  pub prev_live : (xs : List (ℕ × L)) (id : ℕ) (o : Option ℕ) → IsBefore xs id o → IsPlaceIn xs o
  prev_live xs id None h = tt
  prev_live xs id (Some p) h = before_live xs p id h

  -- the leaves up to it are those left of the node
  pub up_to-prev : (xs : List (ℕ × L)) (id : ℕ) (o : Option ℕ) → ((i : ℕ) → times_leaf xs i ≤ 1) → IsBefore xs id o → up_to_place xs o ≡ left_of xs id
  up_to-prev xs id o once h = up_to-before xs o once (prev_live xs id o h) ∙ ap (before_place xs) (prev_behind xs id o h)

module _ {C U : Type 0} (units : C → List U) (by : C → Option Stamp) (test : Standing) (xs : List (ℕ × TreeLeaf C)) where
  abbrev ok : TreeElement U → Bool
  ok = stands test

  abbrev before : Option ℕ → ℕ
  before at = length (elements units by (before_place xs at))

  abbrev rest : Option ℕ → List (TreeElement U)
  rest at = elements units by (from_place xs at)

  -- the place of the first element from a node on on which a reference may stand
  abbrev pub first_behind : Option ℕ → Option ℕ
  first_behind at = first_from ok (before at) (rest at)

  -- the place of the last one up to a node
  abbrev pub last_before : Option ℕ → Option ℕ
  last_before at = last_from ok 0 (elements units by (up_to_place xs at))

  module _ (id : ℕ) (v : TreeLeaf C) (once : (i : ℕ) → times_leaf xs i ≤ 1) (is : value_at xs id ≡ Some v) where
    abbrev of_leaf : U → TreeElement U
    of_leaf u = element_with v.stamps (by v.content) v.overlay u

    abbrev next : Option ℕ
    next = after (ids xs) id

    split_from : rest (Some id) ≡ leaf_elements units by v ++ rest next
    split_from = ap (elements units by) (stands_once xs id v once is).from

    with_leaf : elements units by (left_of xs id ++ (id, v) ∷ []) ≡ elements units by (left_of xs id) ++ leaf_elements units by v
    with_leaf =
        elements-append units by (left_of xs id) ((id, v) ∷ []) ∙ ap (λ es. elements units by (left_of xs id) ++ es) (elements-one units by (id, v))

    before_next : before next ≡ before (Some id) + length (units v.content)
    before_next =
        omega (
          arith,
          ap (λ ys. length (elements units by ys)) (before-after xs id v (stands_once xs id v once is)),
          ap length with_leaf,
          length-append (elements units by (left_of xs id)) (leaf_elements units by v),
          length-leaf units by v,
        )

    -- the first one is on this leaf, or on those behind it
    pub first_on : (at : Option ℕ) → at ≡ Some id → allows test v.stamps ≡ true → 0 < length (units v.content) → first_behind at ≡ Some (leaf_start units by xs id)
    first_on at here h some =
        ap first_behind here ∙ ap (first_from ok (before (Some id))) split_from
        ∙ first-here ok of_leaf (λ u. h) (units v.content) (before (Some id)) (rest next) some

    pub first_past : (at to : Option ℕ) → at ≡ Some id → to ≡ next → allows test v.stamps ≡ false → first_behind to ≡ first_behind at
    first_past at to here there h =
        ap first_behind there
        ∙ sym (ap first_behind here ∙ ap (first_from ok (before (Some id))) split_from
        ∙ first-past ok of_leaf (λ u. h) (units v.content) (before (Some id)) (before next) (rest next) before_next)

    up_to_here : elements units by (up_to_leaf xs id) ≡ elements units by (left_of xs id) ++ leaf_elements units by v
    up_to_here = ap (elements units by) (up_to-stands xs id v (stands_once xs id v once is)) ∙ with_leaf

    up_to_count : length (elements units by (up_to_leaf xs id)) ≡ length (elements units by (left_of xs id)) + length (units v.content)
    up_to_count =
        omega (arith, ap length up_to_here, length-append (elements units by (left_of xs id)) (leaf_elements units by v), length-leaf units by v)

    -- the last one is on this leaf, or on those before it
    pub last_on : (at : Option ℕ) → at ≡ Some id → allows test v.stamps ≡ true → 0 < length (units v.content) → last_before at ≡ Some (leaf_end units by xs id)
    last_on at here h some =
        let ls = elements units by (left_of xs id) in
        ap last_before here ∙ ap (last_from ok 0) up_to_here ∙ last-append ok 0 ls (leaf_elements units by v)
        ∙ ap (λ o. option_or o (last_from ok 0 ls))
        (last-run ok of_leaf (λ u. h) (units v.content) (0 + length ls) (leaf_end units by xs id) some (omega (arith, up_to_count, some)))

    pub last_past : (at to : Option ℕ) → at ≡ Some id → IsBefore xs id to → allows test v.stamps ≡ false → last_before to ≡ last_before at
    last_past at to here prev h =
        let ls = elements units by (left_of xs id) in
        ap (λ ys. last_from ok 0 (elements units by ys)) (up_to-prev xs id to once prev)
        ∙ sym (ap last_before here ∙ ap (last_from ok 0) up_to_here ∙ last-append ok 0 ls (leaf_elements units by v)
        ∙ ap (λ p. option_or p (last_from ok 0 ls)) (last-none ok of_leaf (λ u. h) (units v.content) (0 + length ls)))

    pub last_fewer : (at to : Option ℕ) → at ≡ Some id → IsBefore xs id to → length (up_to_place xs to) < length (up_to_place xs at)
    last_fewer at to here prev =
        omega (
          arith,
          ap (λ o. length (up_to_place xs o)) here,
          ap length (up_to-prev xs id to once prev),
          ap length (up_to-stands xs id v (stands_once xs id v once is)),
          length-append (left_of xs id) ((id, v) ∷ []),
        )

    whole : elements units by xs ≡ elements units by (left_of xs id) ++ (leaf_elements units by v ++ rest next)
    whole =
        ap (elements units by) (stands_once xs id v once is).whole ∙ elements-append units by (left_of xs id) ((id, v) ∷ from_place xs next)

    settled_at : (i : ℕ) → length (elements units by (left_of xs id)) ≤ i
        → settled_place ok (elements units by xs) i
        ≡ settled_from ok i (last_from ok 0 (elements units by (left_of xs id))) (before (Some id)) (leaf_elements units by v ++ rest next)
    settled_at i le =
        let ls = elements units by (left_of xs id) in
        let es = leaf_elements units by v ++ rest next in
        let last = last_from ok 0 ls in
        let same : 0 + length ls ≡ length ls = omega arith in
        settled_place-from ok i (elements units by xs) ∙ ap (settled_from ok i None 0) whole ∙ settled-append ok i 0 None ls es (omega arith)
        ∙ ap (λ o. settled_from ok i o (0 + length ls) es) (or_none last) ∙ ap (λ k. settled_from ok i last k es) same

    less : (i : ℕ) → IsSomeAnd (value_at xs id) (λ w. i < length (units w.content)) → i < length (units v.content)
    less i h = subst (λ o. IsSomeAnd o (λ w. i < length (units w.content))) is h

    -- a reference stays on a leaf on which it may stand
    pub settled_here : (i : ℕ) → IsSomeAnd (value_at xs id) (λ w. i < length (units w.content)) → allows test v.stamps ≡ true
        → settled_place ok (elements units by xs) (leaf_start units by xs id + i) ≡ Some (leaf_start units by xs id + i)
    settled_here i on h =
        let start = leaf_start units by xs id in
        settled_at (start + i) (omega arith)
        ∙ settled-here ok of_leaf (λ u. h) (units v.content) (start + i) start (last_from ok 0 (elements units by (left_of xs id))) (rest next)
        (omega arith) (omega (arith, less i on))

    pub settled_off : (i : ℕ) → IsSomeAnd (value_at xs id) (λ w. i < length (units w.content)) → allows test v.stamps ≡ false
        → settled_place ok (elements units by xs) (leaf_start units by xs id + i)
        ≡ option_or (first_behind next) (last_from ok 0 (elements units by (left_of xs id)))
    settled_off i on h =
        let start = leaf_start units by xs id in
        settled_at (start + i) (omega arith)
        ∙ settled-beside ok of_leaf (λ u. h) (units v.content) (start + i) start (before next) (last_from ok 0 (elements units by (left_of xs id))) (rest next)
        before_next (omega arith) (omega (arith, before_next, less i on))

    -- else it goes to the first one behind
    pub settled_behind : (i : ℕ) (to : Option ℕ) (place : ℕ) → IsSomeAnd (value_at xs id) (λ w. i < length (units w.content)) → allows test v.stamps ≡ false
        → to ≡ next → Some place ≡ first_behind to → Some (place + 0) ≡ settled_place ok (elements units by xs) (leaf_start units by xs id + i)
    settled_behind i to place on h there found =
        let same : place + 0 ≡ place = omega arith in
        ap (λ k. Some k) same ∙ ap (λ o. option_or o (last_from ok 0 (elements units by (left_of xs id)))) (found ∙ ap first_behind there) ∙ sym (settled_off i on h)

    -- else to the last one before, if there is one
    pub settled_before : (i : ℕ) (to from : Option ℕ) (last : Option ℕ) → IsSomeAnd (value_at xs id) (λ w. i < length (units w.content))
        → allows test v.stamps ≡ false
        → to ≡ next → None ≡ first_behind to → IsBefore xs id from → last ≡ last_before from
        → last ≡ settled_place ok (elements units by xs) (leaf_start units by xs id + i)
    settled_before i to from last on h there none prev is_last =
        is_last ∙ ap (λ ys. last_from ok 0 (elements units by ys)) (up_to-prev xs id from once prev)
        ∙ ap (λ o. option_or o (last_from ok 0 (elements units by (left_of xs id)))) (none ∙ ap first_behind there) ∙ sym (settled_off i on h)

-- a leaf that stands there has a first element
pub first_of_leaf : {C U : Type 0} (units : C → List U) (xs : List (ℕ × TreeLeaf C)) (id : ℕ) → All (λ x. 1 ≤ length (units x.1.content)) xs → IsLeafIn xs id
    → IsOnLeaf units xs (record { owner = id; offset = 0 })
first_of_leaf {C} units [] id all live = absurd (omega arith)
first_of_leaf {C} units (x ∷ xs) id all live = elim (cases_eq x.0 id) [
  | inl e ↦
      subst (λ o. IsSomeAnd o (λ v. 0 < length (units v.content))) (sym (cond-true (nat_eq x.0 id) (Some x.1) (value_at xs id) (eq-eqb x.0 id e)))
      (All-head (λ (y : ℕ × TreeLeaf C). 1 ≤ length (units y.1.content)) x xs all)
  | inr d ↦
      subst (λ o. IsSomeAnd o (λ v. 0 < length (units v.content))) (sym (cond-false (nat_eq x.0 id) (Some x.1) (value_at xs id) (ne_eqb x.0 id d)))
      (first_of_leaf units xs id (All-tail (λ (y : ℕ × TreeLeaf C). 1 ≤ length (units y.1.content)) x xs all) (omega (arith, live, same_other x.0 id d)))
]
