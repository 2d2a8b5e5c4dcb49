-- A list in which the leaf of a node stands once: what each edit at that node makes of it.
use Rattle.std.proofs.Common.{◌≡◌, ℕ, ◌+◌, ◌≤◌, Bool, true, false, cond, List, [], ◌∷◌, ◌++◌, map, Some, nat_eq, inl, inr, refl, sym, ◌∙◌, ap, arith}
use Rattle.std.proofs.lemmas.Bool.{cases_eq, eq-eqb, ne_eqb}
use Rattle.ft_block.specs.Leaves.{change_leaf, ids, join_first, join_leaf, left_of, put_leaf_after, times_leaf, first_value, value_after, value_at, without_leaf}
use Rattle.ft_arena.proofs.IdLemmas.{same_refl}
use Rattle.ft_arena.specs.Ids.{after, first, same}
use Rattle.ft_tree_leaves.specs.Edits.{leaf_at, up_to_leaf}

skip_by : (b : Bool) (n : ℕ) → cond b 1 0 + n ≡ 0 → (b ≡ false) × (n ≡ 0)
skip_by true n h = absurd (omega arith)
skip_by false n h = (refl, omega arith)

itself : (id : ℕ) → nat_eq id id ≡ true
itself id = eq-eqb id id refl

module _ {L : Type 0} (id : ℕ) where
  -- a leaf of another node at the head
  pub skip : (x : ℕ × L) (xs : List (ℕ × L)) → times_leaf (x ∷ xs) id ≡ 0 → (nat_eq x.0 id ≡ false) × (times_leaf xs id ≡ 0)
  skip x xs h = skip_by (nat_eq x.0 id) (times_leaf xs id) h

  -- where the node doesn't stand
  pub without-apart : (xs : List (ℕ × L)) → times_leaf xs id ≡ 0 → without_leaf xs id ≡ xs
  without-apart [] h = refl
  without-apart (x ∷ xs) h = let s = skip x xs h in ap (λ b. cond b (without_leaf xs id) (x ∷ without_leaf xs id)) s.0 ∙ ap (λ ys. x ∷ ys) (without-apart xs s.1)

  pub at-apart : (xs : List (ℕ × L)) → times_leaf xs id ≡ 0 → leaf_at xs id ≡ []
  at-apart [] h = refl
  at-apart (x ∷ xs) h = let s = skip x xs h in ap (λ b. cond b (x ∷ leaf_at xs id) (leaf_at xs id)) s.0 ∙ at-apart xs s.1

  pub put-apart : (new : ℕ × L) (xs : List (ℕ × L)) → times_leaf xs id ≡ 0 → put_leaf_after xs id new ≡ xs
  put-apart new [] h = refl
  put-apart new (x ∷ xs) h = let s = skip x xs h in ap (λ b. cond b (x ∷ new ∷ put_leaf_after xs id new) (x ∷ put_leaf_after xs id new)) s.0
      ∙ ap (λ ys. x ∷ ys) (put-apart new xs s.1)

  module _ (v : L) (r : List (ℕ × L)) where
    pub value-split : (l : List (ℕ × L)) → times_leaf l id ≡ 0 → value_at (l ++ (id, v) ∷ r) id ≡ Some v
    value-split [] h = ap (λ b. cond b (Some v) (value_at r id)) (itself id)
    value-split (x ∷ l) h = let s = skip x l h in ap (λ b. cond b (Some x.1) (value_at (l ++ (id, v) ∷ r) id)) s.0 ∙ value-split l s.1

    pub left-split : (l : List (ℕ × L)) → times_leaf l id ≡ 0 → left_of (l ++ (id, v) ∷ r) id ≡ l
    left-split [] h = ap (λ b. cond b [] ((id, v) ∷ left_of r id)) (itself id)
    left-split (x ∷ l) h = let s = skip x l h in ap (λ b. cond b [] (x ∷ left_of (l ++ (id, v) ∷ r) id)) s.0 ∙ ap (λ ys. x ∷ ys) (left-split l s.1)

    pub next-split : (l : List (ℕ × L)) → times_leaf l id ≡ 0 → value_after (l ++ (id, v) ∷ r) id ≡ first_value r
    next-split [] h = ap (λ b. cond b (first_value r) (value_after r id)) (itself id)
    next-split (x ∷ l) h = let s = skip x l h in ap (λ b. cond b (first_value (l ++ (id, v) ∷ r)) (value_after (l ++ (id, v) ∷ r) id)) s.0 ∙ next-split l s.1

    pub after-split : (l : List (ℕ × L)) → times_leaf l id ≡ 0 → after (ids (l ++ (id, v) ∷ r)) id ≡ first (ids r)
    after-split [] h = ap (λ b. cond b (first (ids r)) (after (ids r) id)) (itself id)
    after-split (x ∷ l) h = let s = skip x l h in ap (λ b. cond b (first (ids (l ++ (id, v) ∷ r))) (after (ids (l ++ (id, v) ∷ r)) id)) s.0 ∙ after-split l s.1

    pub up_to-split : (l : List (ℕ × L)) → times_leaf l id ≡ 0 → up_to_leaf (l ++ (id, v) ∷ r) id ≡ l ++ (id, v) ∷ []
    up_to-split [] h = ap (λ b. (id, v) ∷ cond b [] (up_to_leaf r id)) (itself id)
    up_to-split (x ∷ l) h = let s = skip x l h in ap (λ b. x ∷ cond b [] (up_to_leaf (l ++ (id, v) ∷ r) id)) s.0 ∙ ap (λ ys. x ∷ ys) (up_to-split l s.1)

    pub join-split : (f : L → L → L) (l : List (ℕ × L)) → times_leaf l id ≡ 0 → join_leaf f (l ++ (id, v) ∷ r) id ≡ l ++ join_first f (id, v) r
    join-split f [] h = ap (λ b. cond b (join_first f (id, v) r) ((id, v) ∷ join_leaf f r id)) (itself id)
    join-split f (x ∷ l) h = let s = skip x l h in ap (λ b. cond b (join_first f x (l ++ (id, v) ∷ r)) (x ∷ join_leaf f (l ++ (id, v) ∷ r) id)) s.0
        ∙ ap (λ ys. x ∷ ys) (join-split f l s.1)

    module _ (once : times_leaf r id ≡ 0) where
      pub put-split : (new : ℕ × L) (l : List (ℕ × L)) → times_leaf l id ≡ 0 → put_leaf_after (l ++ (id, v) ∷ r) id new ≡ l ++ (id, v) ∷ new ∷ r
      put-split new [] h = ap (λ b. cond b ((id, v) ∷ new ∷ put_leaf_after r id new) ((id, v) ∷ put_leaf_after r id new)) (itself id)
          ∙ ap (λ ys. (id, v) ∷ new ∷ ys) (put-apart new r once)
      put-split new (x ∷ l) h = let s =
          skip x l h in ap (λ b. cond b (x ∷ new ∷ put_leaf_after (l ++ (id, v) ∷ r) id new) (x ∷ put_leaf_after (l ++ (id, v) ∷ r) id new)) s.0
          ∙ ap (λ ys. x ∷ ys) (put-split new l s.1)

module _ {L : Type 0} where
  -- the leaf of a node alone
  pub at-value : (xs : List (ℕ × L)) (id : ℕ) (v : L) → times_leaf xs id ≤ 1 → value_at xs id ≡ Some v → leaf_at xs id ≡ (id, v) ∷ []
  at-value [] id v once e = (cc)
  at-value (x ∷ xs) id v once e = elim (cases_eq x.0 id) [
    | inl same_id ↦
        let value : Some x.1 ≡ Some v = ap (λ b. cond b (Some x.1) (value_at xs id)) (sym (eq-eqb x.0 id same_id)) ∙ e in
        let is : x.1 ≡ v = (cc) in
        let none : times_leaf xs id ≡ 0 = omega (arith, ap (λ k. same k id) same_id, same_refl id, once) in
        ap (λ b. cond b (x ∷ leaf_at xs id) (leaf_at xs id)) (eq-eqb x.0 id same_id)
        ∙ ap (λ (ys : List (ℕ × L)). x ∷ ys) (at-apart id xs none) ∙ ap (λ (k : ℕ). (k, x.1) ∷ []) same_id ∙ ap (λ (w : L). (id, w) ∷ []) is
    | inr d ↦
        let later : value_at xs id ≡ Some v = ap (λ b. cond b (Some x.1) (value_at xs id)) (sym (ne_eqb x.0 id d)) ∙ e in
        ap (λ b. cond b (x ∷ leaf_at xs id) (leaf_at xs id)) (ne_eqb x.0 id d) ∙ at-value xs id v (omega (arith, once)) later
  ]

  change_by : (b : Bool) (f : L → L) (x : ℕ × L) (ys : List (ℕ × L)) → cond b ((x.0, f x.1) ∷ ys) (x ∷ ys) ≡ (x.0, cond b (f x.1) x.1) ∷ ys
  change_by true f x ys = refl
  change_by false f x ys = refl

  -- a change of one leaf as one of all
  pub change-map : (f : L → L) (xs : List (ℕ × L)) (id : ℕ) → change_leaf f xs id ≡ map (λ x. (x.0, cond (nat_eq x.0 id) (f x.1) x.1)) xs
  change-map f [] id = refl
  change-map f (x ∷ xs) id =
      change_by (nat_eq x.0 id) f x (change_leaf f xs id) ∙ ap (λ ys. (x.0, cond (nat_eq x.0 id) (f x.1) x.1) ∷ ys) (change-map f xs id)
