-- How a walk from leaf to leaf goes along the list of leaves.
use Rattle.std.proofs.Common.{◌≡◌, ◌≢◌, ℕ, ◌≤◌, Bool, true, false, cond, List, [], ◌∷◌, ◌++◌, Option, Some, None, refl, sym, ◌∙◌, ap, inl, inr, arith, nat_eq, append-nil, append_assoc}
use Rattle.std.proofs.lemmas.Bool.{cases_eq, cond-true, cond-false, eq-eqb, ne_eqb}
use Rattle.std.proofs.lemmas.List.{append_cancel_right}
use Rattle.ft_arena.specs.Ids.{after, first}
use Rattle.ft_arena.proofs.IdLemmas.{same_refl, same_other}
use Rattle.ft_block.specs.Leaves.{IsLeafIn, IsPlaceIn, ids, left_of, times_leaf, value_at}
use Rattle.ft_block.proofs.CallerLemmas.{after_is_in, first_is_in}
use Rattle.ft_tree_leaves.specs.Edits.{up_to_leaf, up_to_place}
use Rattle.ft_tree_blocks.specs.Walks.{before_place, from_leaf, from_place, node_behind}
use Rattle.ft_tree_leaves.proofs.CutLeaves.{times-append}
use Rattle.ft_tree_leaves.proofs.Standing.{up_to-split}

pub itself : (id : ℕ) → nat_eq id id ≡ true
itself id = eq-eqb id id refl

module _ {L : Type 0} where
  from_here : (x : ℕ × L) (xs : List (ℕ × L)) (id : ℕ) → x.0 ≡ id → from_leaf (x ∷ xs) id ≡ x ∷ xs
  from_here x xs id e = cond-true (nat_eq x.0 id) _ _ (eq-eqb x.0 id e)

  from_later : (x : ℕ × L) (xs : List (ℕ × L)) (id : ℕ) → x.0 ≢ id → from_leaf (x ∷ xs) id ≡ from_leaf xs id
  from_later x xs id d = cond-false (nat_eq x.0 id) _ _ (ne_eqb x.0 id d)

  -- all of them from the first on
  pub from_first : (xs : List (ℕ × L)) → from_place xs (first (ids xs)) ≡ xs
  from_first [] = refl
  from_first (x ∷ xs) = from_here x xs x.0 refl

  -- a live leaf has a value
  pub live_value : (xs : List (ℕ × L)) (id : ℕ) → IsLeafIn xs id → (v : L) × (value_at xs id ≡ Some v)
  live_value [] id h = absurd (omega arith)
  live_value (x ∷ xs) id h = elim (cases_eq x.0 id) [
    | inl e ↦ (x.1, cond-true (nat_eq x.0 id) _ _ (eq-eqb x.0 id e))
    | inr d ↦
        let rest = live_value xs id (omega (arith, same_other x.0 id d)) in
        (rest.0, cond-false (nat_eq x.0 id) _ _ (ne_eqb x.0 id d) ∙ rest.1)
  ]

  skip_by : (x : ℕ × L) (xs : List (ℕ × L)) (o : Option ℕ) → times_leaf xs x.0 ≡ 0 → IsPlaceIn xs o → from_place (x ∷ xs) o ≡ from_place xs o
  skip_by x xs None none live = refl
  skip_by x xs (Some id) none live = elim (cases_eq x.0 id) [
    | inl e ↦ absurd (omega (arith, ap (times_leaf xs) e))
    | inr d ↦ from_later x xs id d
  ]

  place_by : (xs : List (ℕ × L)) (id : ℕ) (o : Option ℕ) → after (ids xs) id ≡ o → IsPlaceIn xs o
  place_by xs id None e = tt
  place_by xs id (Some n) e = after_is_in xs id n e

  -- the next leaf is a live one
  pub after_in_place : (xs : List (ℕ × L)) (id : ℕ) → IsPlaceIn xs (after (ids xs) id)
  after_in_place xs id = place_by xs id (after (ids xs) id) refl

  first_by : (xs : List (ℕ × L)) (o : Option ℕ) → first (ids xs) ≡ o → IsPlaceIn xs o
  first_by xs None e = tt
  first_by xs (Some n) e = first_is_in xs n e

  pub first_in_place : (xs : List (ℕ × L)) → IsPlaceIn xs (first (ids xs))
  first_in_place xs = first_by xs (first (ids xs)) refl

  pub behind_in_place : (xs : List (ℕ × L)) (at : Option ℕ) → IsPlaceIn xs (node_behind xs at)
  behind_in_place xs None = first_in_place xs
  behind_in_place xs (Some id) = after_in_place xs id

  -- from a leaf on: it, and those from the next one on
  pub from_after : (xs : List (ℕ × L)) (id : ℕ) (v : L) → ((i : ℕ) → times_leaf xs i ≤ 1) → value_at xs id ≡ Some v
      → from_leaf xs id ≡ (id, v) ∷ from_place xs (after (ids xs) id)
  from_after [] id v once e = (cc)
  from_after (x ∷ xs) id v once e =
      let none : times_leaf xs x.0 ≡ 0 = omega (arith, once x.0, same_refl x.0) in
      elim (cases_eq x.0 id) [
        | inl same ↦
            let here : Some x.1 ≡ Some v = sym (cond-true (nat_eq x.0 id) _ _ (eq-eqb x.0 id same)) ∙ e in
            let value : x.1 ≡ v = (cc) in
            let next : after (ids (x ∷ xs)) id ≡ first (ids xs) = cond-true (nat_eq x.0 id) _ _ (eq-eqb x.0 id same) in
            from_here x xs id same
            ∙ ap (λ (y : ℕ × L). y ∷ xs) (ap (λ (i : ℕ). (i, x.1)) same ∙ ap (λ (w : L). (id, w)) value)
            ∙ ap (λ (ys : List (ℕ × L)). (id, v) ∷ ys) (sym (skip_by x xs (first (ids xs)) none (first_in_place xs) ∙ from_first xs)
            ∙ ap (from_place (x ∷ xs)) (sym next))
        | inr d ↦
            let later : value_at xs id ≡ Some v = sym (cond-false (nat_eq x.0 id) _ _ (ne_eqb x.0 id d)) ∙ e in
            let next : after (ids (x ∷ xs)) id ≡ after (ids xs) id = cond-false (nat_eq x.0 id) _ _ (ne_eqb x.0 id d) in
            from_later x xs id d
            ∙ from_after xs id v (λ i. omega (arith, once i)) later
            ∙ ap (λ (ys : List (ℕ × L)). (id, v) ∷ ys) (sym (skip_by x xs (after (ids xs) id) none (after_in_place xs id)) ∙ ap (from_place (x ∷ xs)) (sym next))
      ]

  joined_by : (b : Bool) (x : ℕ × L) (xs ls rs : List (ℕ × L)) → ls ++ rs ≡ xs → cond b [] (x ∷ ls) ++ cond b (x ∷ xs) rs ≡ x ∷ xs
  joined_by true x xs ls rs h = refl
  joined_by false x xs ls rs h = ap (λ zs. x ∷ zs) h

  left-from : (xs : List (ℕ × L)) (id : ℕ) → left_of xs id ++ from_leaf xs id ≡ xs
  left-from [] id = refl
  left-from (x ∷ xs) id = joined_by (nat_eq x.0 id) x xs (left_of xs id) (from_leaf xs id) (left-from xs id)

  -- the leaves before a node and those from it on are all
  pub before-from : (xs : List (ℕ × L)) (at : Option ℕ) → before_place xs at ++ from_place xs at ≡ xs
  before-from xs None = append-nil xs
  before-from xs (Some id) = left-from xs id

  apart_by : (b : Bool) (x : ℕ × L) (ls : List (ℕ × L)) (id : ℕ) → nat_eq x.0 id ≡ b → times_leaf ls id ≡ 0 → times_leaf (cond b [] (x ∷ ls)) id ≡ 0
  apart_by true x ls id e h = refl
  apart_by false x ls id e h = omega (arith, h, ap {B = ℕ} (λ c. cond c 1 0) e)

  pub left_apart : (xs : List (ℕ × L)) (id : ℕ) → times_leaf (left_of xs id) id ≡ 0
  left_apart [] id = refl
  left_apart (x ∷ xs) id = apart_by (nat_eq x.0 id) x (left_of xs id) id refl (left_apart xs id)

  -- the leaf of the node stands there once, between those before it and those behind it
  pub record Stands (xs : List (ℕ × L)) (id : ℕ) (v : L) : Type 0 where
    pub from : from_leaf xs id ≡ (id, v) ∷ from_place xs (after (ids xs) id)
    pub whole : xs ≡ left_of xs id ++ (id, v) ∷ from_place xs (after (ids xs) id)
    pub left : times_leaf (left_of xs id) id ≡ 0
    pub right : times_leaf (from_place xs (after (ids xs) id)) id ≡ 0

  pub stands : (xs : List (ℕ × L)) (id : ℕ) (v : L) → ((i : ℕ) → times_leaf xs i ≤ 1) → value_at xs id ≡ Some v → Stands xs id v
  stands xs id v once e =
      let from : from_leaf xs id ≡ (id, v) ∷ from_place xs (after (ids xs) id) = from_after xs id v once e in
      let whole : xs ≡ left_of xs id ++ (id, v) ∷ from_place xs (after (ids xs) id) = sym (left-from xs id) ∙ ap (λ zs. left_of xs id ++ zs) from in
      record {
        from = from;
        whole = whole;
        left = left_apart xs id;
        right = omega (
          arith,
          ap (λ zs. times_leaf zs id) whole,
          times-append (left_of xs id) ((id, v) ∷ from_place xs (after (ids xs) id)) id,
          same_refl id,
          once id,
        );
      }

  -- the leaves before the next one are those before this one, and it
  pub before-after : (xs : List (ℕ × L)) (id : ℕ) (v : L) → Stands xs id v → before_place xs (after (ids xs) id) ≡ left_of xs id ++ (id, v) ∷ []
  before-after xs id v s =
      let next = after (ids xs) id in
      append_cancel_right (before_place xs next) (left_of xs id ++ (id, v) ∷ []) (from_place xs next)
      (before-from xs next ∙ s.whole ∙ sym (append_assoc (left_of xs id) ((id, v) ∷ []) (from_place xs next)))

  pub up_to-stands : (xs : List (ℕ × L)) (id : ℕ) (v : L) → Stands xs id v → up_to_leaf xs id ≡ left_of xs id ++ (id, v) ∷ []
  up_to-stands xs id v s =
      ap (λ zs. up_to_leaf zs id) s.whole ∙ up_to-split id v (from_place xs (after (ids xs) id)) (left_of xs id) s.left

  -- none stand before the first
  pub before_first : (xs : List (ℕ × L)) → before_place xs (first (ids xs)) ≡ []
  before_first xs = append_cancel_right (before_place xs (first (ids xs))) [] (from_place xs (first (ids xs))) (before-from xs (first (ids xs)) ∙ sym (from_first xs))

  -- the leaves up to a place are those before the one behind it
  pub up_to-before : (xs : List (ℕ × L)) (at : Option ℕ) → ((i : ℕ) → times_leaf xs i ≤ 1) → IsPlaceIn xs at
      → up_to_place xs at ≡ before_place xs (node_behind xs at)
  up_to-before xs None once live = sym (before_first xs)
  up_to-before xs (Some id) once live =
      let v = live_value xs id live in
      let s = stands xs id v.0 once v.1 in
      up_to-stands xs id v.0 s ∙ sym (before-after xs id v.0 s)

  pub up_to-from : (xs : List (ℕ × L)) (at : Option ℕ) → ((i : ℕ) → times_leaf xs i ≤ 1) → IsPlaceIn xs at
      → up_to_place xs at ++ from_place xs (node_behind xs at) ≡ xs
  up_to-from xs at once live = ap (λ zs. zs ++ from_place xs (node_behind xs at)) (up_to-before xs at once live) ∙ before-from xs (node_behind xs at)
