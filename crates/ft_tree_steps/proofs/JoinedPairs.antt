-- Two leaves side by side that are changed and joined.
use Rattle.std.proofs.Common.{◌≡◌, ◌↔◌, ℕ, ◌≤◌, Bool, List, [], ◌∷◌, ◌++◌, Option, Some, None, subst, sym, ◌∙◌, ap, arith, append_assoc}
use Rattle.ft_arena.specs.Ids.{after}
use Rattle.ft_block.specs.Leaves.{change_leaf, ids, join_leaf, left_of, times_leaf, value_after, value_at}
use Rattle.ft_block.proofs.LeafListLemmas.{value_after_is, value_after_none}
use Rattle.ft_tree_leaves.specs.declared.leaves.TreeLeaf.{TreeLeaf}
use Rattle.ft_tree_leaves.specs.Edits.{MayJoin, MayJoinGiven, MayJoinNext}
use Rattle.ft_tree_leaves.proofs.CutLeaves.{times-append}
use Rattle.ft_tree_leaves.proofs.Standing.{join-split, next-split, value-split}
use Rattle.ft_tree_blocks.proofs.Neighbours.{Beside}
use Rattle.ft_tree_blocks.proofs.WalkEdits.{change-split}

module _ {L : Type 0} (xs : List (ℕ × L)) (id n : ℕ) (v w : L) (b : Beside xs id n v w) (f g : L → L) where
  -- both after a change
  pub both_changed : change_leaf f (change_leaf g xs id) n ≡ left_of xs id ++ (id, g v) ∷ (n, f w) ∷ b.rest
  both_changed =
      let l = left_of xs id in
      let apart : times_leaf (l ++ (id, g v) ∷ []) n ≡ 0 =
      omega (arith, b.front, times-append l ((id, v) ∷ []) n, times-append l ((id, g v) ∷ []) n) in
      ap (λ zs. change_leaf f zs n) (ap (λ zs. change_leaf g zs id) b.whole ∙ change-split g id v ((n, w) ∷ b.rest) l b.once b.apart
      ∙ sym (append_assoc l ((id, g v) ∷ []) ((n, w) ∷ b.rest)))
      ∙ change-split f n w b.rest (l ++ (id, g v) ∷ []) b.behind apart
      ∙ append_assoc l ((id, g v) ∷ []) ((n, f w) ∷ b.rest)

  -- the second where the first alone is changed
  pub other_value : value_at (change_leaf g xs id) n ≡ Some w
  other_value =
      let l = left_of xs id in
      let apart : times_leaf (l ++ (id, g v) ∷ []) n ≡ 0 =
      omega (arith, b.front, times-append l ((id, v) ∷ []) n, times-append l ((id, g v) ∷ []) n) in
      ap (λ zs. value_at zs n) (ap (λ zs. change_leaf g zs id) b.whole ∙ change-split g id v ((n, w) ∷ b.rest) l b.once b.apart
      ∙ sym (append_assoc l ((id, g v) ∷ []) ((n, w) ∷ b.rest)))
      ∙ value-split n w b.rest (l ++ (id, g v) ∷ []) apart

  pub front_value : value_at (change_leaf f (change_leaf g xs id) n) id ≡ Some (g v)
  front_value = ap (λ zs. value_at zs id) both_changed ∙ value-split id (g v) ((n, f w) ∷ b.rest) (left_of xs id) b.apart

  pub rear_value : value_after (change_leaf f (change_leaf g xs id) n) id ≡ Some (f w)
  rear_value = ap (λ zs. value_after zs id) both_changed ∙ next-split id (g v) ((n, f w) ∷ b.rest) (left_of xs id) b.apart

  -- and joined
  pub both_joined : (join made : L → L → L) → join (g v) (f w) ≡ made v w → join_leaf join (change_leaf f (change_leaf g xs id) n) id ≡ join_leaf made xs id
  both_joined join made same =
      let l = left_of xs id in
      ap (λ zs. join_leaf join zs id) both_changed ∙ join-split id (g v) ((n, f w) ∷ b.rest) join l b.apart
      ∙ ap (λ x. l ++ (id, x) ∷ b.rest) same
      ∙ sym (ap (λ zs. join_leaf made zs id) b.whole ∙ join-split id v ((n, w) ∷ b.rest) made l b.apart)

module _ {C : Type 0} (joins : C → C → Bool) (floor : ℕ) (xs : List (ℕ × TreeLeaf C)) (id : ℕ) (v : TreeLeaf C) (here : value_at xs id ≡ Some v) where
  pub may_join_next : (n : ℕ) (w : TreeLeaf C) → ((i : ℕ) → times_leaf xs i ≤ 1) → after (ids xs) id ≡ Some n → value_at xs n ≡ Some w
      → MayJoinNext joins floor xs id ↔ MayJoin joins floor v w
  may_join_next n w once next there =
      let rear : value_after xs id ≡ Some w = sym (value_after_is xs id n once next) ∙ there in (
        λ m. subst (MayJoinGiven joins floor (Some v)) rear (subst (λ (o : Option (TreeLeaf C)). MayJoinGiven joins floor o (value_after xs id)) here m),
        λ m. subst (λ (o : Option (TreeLeaf C)). MayJoinGiven joins floor o (value_after xs id)) (sym here) (subst (MayJoinGiven joins floor (Some v)) (sym rear) m),
      )

  pub no_next : after (ids xs) id ≡ None → MayJoinNext joins floor xs id → ⊥
  no_next last m =
      subst (MayJoinGiven joins floor (Some v)) (value_after_none xs id last) (subst (λ (o : Option (TreeLeaf C)). MayJoinGiven joins floor o (value_after xs id)) here m)
