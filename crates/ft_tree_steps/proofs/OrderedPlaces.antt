-- Which of two elements stands first, by their leaves.
use Rattle.std.proofs.Common.{◌≡◌, ◌≢◌, ℕ, ◌+◌, ◌<◌, ◌≤◌, List, [], ◌∷◌, length, nat_lt, Option, Some, IsSomeAnd, eqb, sym, ap, subst, ◌∙◌, inl, inr, arith}
use Rattle.std.proofs.lemmas.Bool.{cases_eq, cases_lt, cond-true, cond-false, eq-eqb, ne_eqb, lt-ltb, le-ltb}
use Rattle.ft_base.specs.declared.stamps.Stamp.{Stamp}
use Rattle.ft_arena.proofs.IdLemmas.{same_other}
use Rattle.ft_block.specs.Leaves.{IsLeafIn, left_of, length_by, value_at}
use Rattle.ft_refs.specs.declared.numbers.Place.{Place}
use Rattle.ft_tree_leaves.specs.declared.leaves.TreeLeaf.{TreeLeaf}
use Rattle.ft_tree_leaves.specs.LeafLists.{elements}
use Rattle.ft_tree_leaves.proofs.LeafRuns.{length-elements}
use Rattle.ft_tree_blocks.specs.LeafPlaces.{IsOnLeaf, place_on}
use Rattle.ft_tree_blocks.proofs.CountedWalks.{live_leaf}
use Rattle.ft_tree_blocks.proofs.Walks.{live_value}

module _ {L : Type 0} where
  left_here : (x : ℕ × L) (xs : List (ℕ × L)) (id : ℕ) → x.0 ≡ id → left_of (x ∷ xs) id ≡ []
  left_here x xs id e = cond-true (eqb x.0 id) _ _ (eq-eqb x.0 id e)

  left_later : (x : ℕ × L) (xs : List (ℕ × L)) (id : ℕ) → x.0 ≢ id → left_of (x ∷ xs) id ≡ x ∷ left_of xs id
  left_later x xs id d = cond-false (eqb x.0 id) _ _ (ne_eqb x.0 id d)

  -- leaves that as many stand before are one
  pub left_alike : (xs : List (ℕ × L)) (a b : ℕ) → IsLeafIn xs a → IsLeafIn xs b → length (left_of xs a) ≡ length (left_of xs b) → a ≡ b
  left_alike [] a b m n h = absurd (omega (arith, m))
  left_alike (x ∷ xs) a b m n h = elim (cases_eq x.0 a) [
    | inl e ↦ elim (cases_eq x.0 b) [
      | inl f ↦ sym e ∙ f
      | inr f ↦ absurd (omega (arith, h, ap length (left_here x xs a e), ap length (left_later x xs b f)))
    ]
    | inr d ↦ elim (cases_eq x.0 b) [
      | inl f ↦ absurd (omega (arith, h, ap length (left_here x xs b f), ap length (left_later x xs a d)))
      | inr f ↦
          left_alike xs a b (omega (arith, m, same_other x.0 a d)) (omega (arith, n, same_other x.0 b f))
          (omega (arith, h, ap length (left_later x xs a d), ap length (left_later x xs b f)))
    ]
  ]

  -- what stands before the later leaf is at least what stands before the earlier one, and that one
  pub length_by-left_more : (f : L → ℕ) (xs : List (ℕ × L)) (a b : ℕ) (v : L) → value_at xs a ≡ Some v → length (left_of xs a) < length (left_of xs b)
      → length_by f (left_of xs a) + f v ≤ length_by f (left_of xs b)
  length_by-left_more f [] a b v e h = absurd (omega (arith, h))
  length_by-left_more f (x ∷ xs) a b v e h = elim (cases_eq x.0 b) [
    | inl q ↦ absurd (omega (arith, h, ap length (left_here x xs b q)))
    | inr d ↦ elim (cases_eq x.0 a) [
      | inl q ↦
          let first : Some x.1 ≡ Some v = sym (cond-true (eqb x.0 a) _ _ (eq-eqb x.0 a q)) ∙ e in
          let same : x.1 ≡ v = cc first in
          omega (arith, ap (length_by f) (left_here x xs a q), ap (length_by f) (left_later x xs b d), ap f same)
      | inr q ↦
          omega (
            arith,
            ap (length_by f) (left_later x xs a q),
            ap (length_by f) (left_later x xs b d),
            length_by-left_more f xs a b v (sym (cond-false (eqb x.0 a) _ _ (ne_eqb x.0 a q)) ∙ e)
                (omega (arith, h, ap length (left_later x xs a q), ap length (left_later x xs b d))),
          )
    ]
  ]

module _ {C U : Type 0} (units : C → List U) (by : C → Option Stamp) (xs : List (ℕ × TreeLeaf C)) where
  -- an element of an earlier leaf stands first
  earlier_leaf : (p q : Place) → IsOnLeaf units xs p → length (left_of xs p.owner) < length (left_of xs q.owner) → place_on units by xs p < place_on units by xs q
  earlier_leaf p q on h =
      let v = live_value xs p.owner (live_leaf units by xs p on) in
      let less : p.offset < length (units v.0.content) = subst (λ o. IsSomeAnd o (λ w. p.offset < length (units w.content))) v.1 on in
      omega (
        arith,
        less,
        length_by-left_more (λ x. length (units x.content)) xs p.owner q.owner v.0 v.1 h,
        length-elements units by (left_of xs p.owner),
        length-elements units by (left_of xs q.owner),
      )

  -- elements of two leaves stand as the leaves do
  pub leaves_decide : (p q : Place) → IsOnLeaf units xs p → IsOnLeaf units xs q → p.owner ≢ q.owner
      → nat_lt (length (left_of xs p.owner)) (length (left_of xs q.owner)) ≡ nat_lt (place_on units by xs p) (place_on units by xs q)
  leaves_decide p q on also d = elim (cases_lt (length (left_of xs p.owner)) (length (left_of xs q.owner))) [
    | inl l ↦ lt-ltb _ _ l ∙ sym (lt-ltb _ _ (earlier_leaf p q on l))
    | inr l ↦
        let other : length (left_of xs p.owner) ≢ length (left_of xs q.owner) =
        λ e. d (left_alike xs p.owner q.owner (live_leaf units by xs p on) (live_leaf units by xs q also) e) in
        let r = earlier_leaf q p also (omega (arith, l, other)) in
        le-ltb _ _ l ∙ sym (le-ltb _ _ (omega (arith, r)))
  ]

  -- elements of one leaf stand as their offsets do
  pub offsets_decide : (p q : Place) → p.owner ≡ q.owner → nat_lt p.offset q.offset ≡ nat_lt (place_on units by xs p) (place_on units by xs q)
  offsets_decide p q e =
      let left = ap (λ (z : ℕ). length (elements units by (left_of xs z))) e in
      elim (cases_lt p.offset q.offset) [
        | inl l ↦ lt-ltb _ _ l ∙ sym (lt-ltb _ _ (omega (arith, left, l)))
        | inr l ↦ le-ltb _ _ l ∙ sym (le-ltb _ _ (omega (arith, left, l)))
      ]
