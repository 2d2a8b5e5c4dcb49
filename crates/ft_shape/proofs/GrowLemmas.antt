-- What one put of a node among a block's children, one split of the block, or a new root leaves of a growing tree.
use Rattle.std.proofs.Common.{◌≡◌, ◌≢◌, ◌⊎◌, ℕ, suc, ◌+◌, ◌-◌, ◌≤◌, List, [], ◌∷◌, ◌++◌, length, insert, Option, Some, None, IsSome, refl, sym, ap, subst, ◌∙◌, inl, inr, arith}
use Rattle.std.proofs.lemmas.Bool.{cases_eq, cases_lt}
use Rattle.std.specs.List.{flat_map}
use Rattle.ft_arena.specs.Ids.{times, points, insert_after}
use Rattle.ft_arena.specs.Forest.{Forest, entry, kids_of, parent_of, block_value, kids_of_entry, parent_of_entry}
use Rattle.ft_arena.proofs.IdLemmas.{same_refl, same_other, times-append}
use Rattle.ft_shape.specs.declared.headed.Headed.{Headed}
use Rattle.ft_shape.specs.Tree.{total, height_of, height_of_entry, Measure, length_of, below, IsShape, SumsBut, Owes, OwesAt, OwesAbove, IsGrowing, IsTree}
use Rattle.ft_shape.specs.Tree.{IsEdit, kind_of}
use Rattle.ft_shape.specs.Steps.{Resums, ResumsBoth, PutsAt, SplitsAt, RootsOver}
use Rattle.ft_shape.proofs.Levels.{AllHigh, points_some, points_at, live_from_parent, block_from_height, steps_down, root_high}
use Rattle.ft_shape.proofs.EditLemmas.{flat_map_same, flat_map-insert_after, insert_after_head, points_same, total_same, total_change, after_is_edit, some_of}
use Rattle.ft_shape.proofs.EditLemmas.{is_some_from, none_by, dead_apart, edit_member, edit-flat_map}
use Rattle.ft_shape.proofs.LevelLemmas.{below-below, below_same, below_high}
use Rattle.ft_shape.proofs.KindLemmas.{kind_height, kind_live, kind_block, block_live, kind_is_height, kind_is_block, kind_from_values, length_from_values}
use Rattle.ft_shape.proofs.Lists.{total-append}

module _ {L S : Type 0} (s s' : Forest L (Headed S)) (root at new p : ℕ) (step : ℕ) (ed : List ℕ → List ℕ) (E : IsEdit step ed at new) (g : IsGrowing s root at new ed)
    (up : parent_of s at ≡ Some p) (place : ℕ) (at_place : insert (kids_of s p) place new ≡ ed (kids_of s p)) where
  p_high : height_of s p ≡ height_of s at + 1
  p_high = g.shape.heights at p up

  p_live : IsSome (block_value s p)
  p_live = block_from_height (entry s p) (omega (arith, p_high))

  p_low : height_of s p ≤ height_of s root
  p_low = g.shape.low p (block_live (entry s p) p_live)

  -- the level of the block
  abbrev upper : List ℕ
  upper = below s (height_of s root - height_of s p) (root ∷ [])

  level_at : below s (height_of s root - height_of s at) (root ∷ []) ≡ flat_map (kids_of s) upper
  level_at =
      let e : height_of s root - height_of s at ≡ height_of s root - height_of s p + 1 = omega (arith, p_high, p_low) in
      ap (λ (n : ℕ). below s n (root ∷ [])) e ∙ sym (below-below s 1 (height_of s root - height_of s p) (root ∷ []))

  at_once : (x : ℕ) → x ≢ p → times (kids_of s x) at ≡ 0
  at_once x d = g.shape.forest.child_once x at ∙ ap (λ o. points o x) up ∙ same_other p x (λ e. d (sym e))

  -- a child of the block is lower
  points_of_height : (x : ℕ) → 1 ≤ times (kids_of s p) x → height_of s p ≡ height_of s x + 1
  points_of_height x m = steps_down s root (Some new) g.shape p x m

  -- each block's children, with the node after that one
  kids_after : (x : ℕ) → x ≢ p → ed (kids_of s x) ≡ kids_of s x
  kids_after x d = E.apart (kids_of s x) (at_once x d)

  level_high : AllHigh s (height_of s at) (ed (below s (height_of s root - height_of s at) (root ∷ [])))
  level_high x m = elim (edit_member step ed at new E (below s (height_of s root - height_of s at) (root ∷ [])) x m) [
    | inl l ↦ omega (
      arith,
      below_high s (height_of s root - height_of s at) (height_of s root) (root ∷ []) (steps_down s root (Some new) g.shape) (root_high s root) x l,
      p_high,
      p_low,
    )
    | inr e ↦ ap (height_of s) e ∙ g.level
  ]

  module _ (r : PutsAt s s' p place new) where
    put_kinds : (x : ℕ) → kind_of s' x ≡ kind_of s x
    put_kinds x = kind_from_values (entry s x) (entry s' x) (r.leaf_values x) (r.block_values x)

    same_height : (x : ℕ) → height_of s' x ≡ height_of s x
    same_height x = kind_height (entry s x) (entry s' x) (put_kinds x)

    was_live : (x : ℕ) → IsSome (entry s' x) → IsSome (entry s x)
    was_live x h = kind_live (entry s' x) (entry s x) (sym (put_kinds x)) h

    was_block : (x : ℕ) → IsSome (block_value s' x) → IsSome (block_value s x)
    was_block x h = kind_block (entry s' x) (entry s x) (sym (put_kinds x)) h

    kids_times : (b x : ℕ) → x ≢ new → times (kids_of s' b) x ≡ times (kids_of s b) x
    kids_times b x d = elim (cases_eq b p) [
      | inl e ↦ ap (λ z. times (kids_of s' z) x) e ∙ ap (λ ks. times ks x) (r.kids ∙ at_place) ∙ E.others (kids_of s p) x d ∙ ap (λ z. times (kids_of s z) x) (sym e)
      | inr n ↦ ap (λ ks. times ks x) (r.other_kids b n)
    ]

    parents : (x : ℕ) → x ≢ new → parent_of s' x ≡ parent_of s x
    parents x d = points_same (parent_of s' x) (parent_of s x) (λ b. sym (r.forest.child_once b x) ∙ kids_times b x d ∙ g.shape.forest.child_once b x)

    parent_new : parent_of s' new ≡ Some p
    parent_new = points_some (parent_of s' new) p
        (omega (
          arith,
          r.forest.child_once p new,
          ap (λ ks. times ks new) (r.kids ∙ at_place),
          E.counts (kids_of s p) (g.shape.forest.child_once p at
              ∙ points_at (parent_of s at) p up),
          same_refl new,
        ))

    longer : (b : ℕ) → length (kids_of s b) ≤ length (kids_of s' b)
    longer b = elim (cases_eq b p) [
      | inl e ↦ omega (arith, ap (λ z. length (kids_of s' z)) e, ap length (r.kids ∙ at_place), E.longer (kids_of s p), ap (λ z. length (kids_of s z)) e)
      | inr n ↦ omega (arith, ap length (r.other_kids b n))
    ]

    pub put_shape : IsShape s' root None None
    put_shape =
        record {
          forest = r.forest;
          root_is_block = kind_block (entry s root) (entry s' root) (put_kinds root) g.shape.root_is_block;
          root_is_top = parents root (λ e. g.new_apart (sym e)) ∙ g.shape.root_is_top;
          one_top = λ x live d _. elim (cases_eq x new) [
            | inl e ↦ subst (λ (o : Option ℕ). IsSome o) (sym (ap (parent_of s') e ∙ parent_new)) refl
            | inr n ↦ subst (λ (o : Option ℕ). IsSome o) (sym (parents x n)) (g.shape.one_top x (was_live x live) d (λ e. n (cc)))
          ];
          low = λ x live. omega (arith, same_height x, same_height root, g.shape.low x (was_live x live));
          heights = λ x b e. elim (cases_eq x new) [
            | inl q ↦
                let b_is : p ≡ b = cc (parent_new, e, q) in
                omega (arith, ap (height_of s') q, same_height new, g.level, ap (height_of s') (sym b_is), same_height p, p_high)
            | inr n ↦ omega (arith, same_height x, same_height b, g.shape.heights x b (sym (parents x n) ∙ e))
          ];
          high = λ b h. omega (arith, same_height b, g.shape.high b (was_block b h));
          half_full = λ b h d n. omega (arith, longer b, g.shape.half_full b (was_block b h) d n);
          root_filled = omega (arith, longer root, g.shape.root_filled);
        }

    pub put_leaves : s'.leaves ≡ below s' (height_of s' root) (root ∷ [])
    put_leaves =
        let up_same : below s' (height_of s root - height_of s p) (root ∷ []) ≡ upper =
        below_same s s' (height_of s root - height_of s p) (height_of s root) (root ∷ []) (steps_down s root (Some new) g.shape) (root_high s root) (omega arith)
        (λ x low h. r.other_kids x (λ e. omega (arith, h, ap (height_of s) e, p_low))) in
        let here : flat_map (kids_of s') upper ≡ ed (flat_map (kids_of s) upper) = flat_map_same (λ x. ed (kids_of s x)) (kids_of s') upper (λ x m. elim (cases_eq x p) [
          | inl e ↦ ap (kids_of s') e ∙ (r.kids ∙ at_place) ∙ ap (λ z. ed (kids_of s z)) (sym e)
          | inr n ↦ r.other_kids x n ∙ sym (kids_after x n)
        ]) ∙ sym (edit-flat_map step ed at new E (kids_of s) upper) in
        let down_same = below_same s s' (height_of s at) (height_of s at) (ed (below s (height_of s root - height_of s at) (root ∷ [])))
        (steps_down s root (Some new) g.shape) level_high (omega arith) (λ x low h. r.other_kids x (λ e. omega (arith, low, ap (height_of s) e, p_high))) in
        let whole : below s' (height_of s root) (root ∷ []) ≡ below s' (height_of s at) (below s' 1 (below s' (height_of s root - height_of s p) (root ∷ []))) =
        (let e : height_of s root ≡ (height_of s root - height_of s p) + (1 + height_of s at) = omega (arith, p_high, p_low) in
        ap (λ (n : ℕ). below s' n (root ∷ [])) e ∙ sym (below-below s' (1 + height_of s at) (height_of s root - height_of s p) (root ∷ []))
        ∙ sym (below-below s' (height_of s at) 1 (below s' (height_of s root - height_of s p) (root ∷ [])))) in
        r.leaves ∙ g.leaves ∙ sym down_same ∙ ap (λ zs. below s' (height_of s at) (ed zs)) level_at ∙ ap (below s' (height_of s at)) (sym here)
        ∙ ap (λ zs. below s' (height_of s at) (flat_map (kids_of s') zs)) (sym up_same) ∙ sym whole ∙ ap (λ (n : ℕ). below s' n (root ∷ [])) (sym (same_height root))

    -- after a put the node is in the tree
    pub put_tree : IsTree s' root
    put_tree = record { shape = put_shape; leaves = put_leaves }

    pub put_block : (b : ℕ) → Some p ≡ Some b → IsSome (block_value s' b)
    put_block b e = let q : p ≡ b = cc e in subst (λ (z : ℕ). IsSome (block_value s' z)) q (kind_block (entry s p) (entry s' p) (put_kinds p) p_live)

    module _ (measure : Measure L S) where
      put_length : (x : ℕ) → length_of measure s' x ≡ length_of measure s x
      put_length x = length_from_values measure (entry s x) (entry s' x) (r.leaf_values x) (r.block_values x)

      put_total : (xs : List ℕ) → total (length_of measure s') xs ≡ total (length_of measure s) xs
      put_total xs = total_same (length_of measure s) (length_of measure s') xs (λ x m. put_length x)

      -- only the block that has the node now may have a wrong sum
      pub put_sums : SumsBut measure s (parent_of s at) → SumsBut measure s' (Some p)
      put_sums sums b h stale =
          let n : b ≢ p = (λ e. stale (ap Some (sym e))) in
          put_length b ∙ sums b (was_block b h) (λ e. n (cc (e, up))) ∙ sym (put_total (kids_of s b)) ∙ ap (total (length_of measure s')) (sym (r.other_kids b n))

      -- and it owes as much as before
      pub put_owes : (more less : ℕ) → OwesAbove measure s at ed more less → OwesAt measure s' (Some p) more less
      put_owes more less owes b e =
          let q : p ≡ b = cc e in
          subst (λ (z : ℕ). Owes measure s' z (kids_of s' z) more less) q
          (omega (arith, put_length p, owes p up, ap (total (length_of measure s')) (r.kids ∙ at_place), put_total (ed (kids_of s p))))

  module _ (q : ℕ) (r : SplitsAt s s' p place new q) where
    sp_not_q : (x : ℕ) → IsSome (entry s x) → x ≢ q
    sp_not_q x h = dead_apart (entry s) x q h r.fresh

    sp_p_not_q : p ≢ q
    sp_p_not_q = sp_not_q p (block_live (entry s p) p_live)

    sp_new_not_q : new ≢ q
    sp_new_not_q = sp_not_q new g.new_live

    sp_root_not_q : root ≢ q
    sp_root_not_q = sp_not_q root (block_live (entry s root) g.shape.root_is_block)

    sp_q_low : height_of s q ≡ 0
    sp_q_low = ap height_of_entry r.fresh

    sp_q_alone : parent_of s q ≡ None
    sp_q_alone = ap parent_of_entry r.fresh

    sp_height : (x : ℕ) → x ≢ q → height_of s' x ≡ height_of s x
    sp_height x d = kind_height (entry s x) (entry s' x) (r.kinds x d)

    sp_q_height : height_of s' q ≡ height_of s p
    sp_q_height = kind_height (entry s p) (entry s' q) r.kind

    sp_was_live : (x : ℕ) → x ≢ q → IsSome (entry s' x) → IsSome (entry s x)
    sp_was_live x d h = kind_live (entry s' x) (entry s x) (sym (r.kinds x d)) h

    sp_was_block : (x : ℕ) → x ≢ q → IsSome (block_value s' x) → IsSome (block_value s x)
    sp_was_block x d h = kind_block (entry s' x) (entry s x) (sym (r.kinds x d)) h

    sp_both : (x : ℕ) → times (kids_of s' p) x + times (kids_of s' q) x ≡ times (ed (kids_of s p)) x
    sp_both x = sym (times-append (kids_of s' p) (kids_of s' q) x) ∙ ap (λ ks. times ks x) (r.kids ∙ at_place)

    sp_has_parent : (x : ℕ) → 1 ≤ times (ed (kids_of s p)) x → IsSome (parent_of s' x)
    sp_has_parent x m = elim (cases_lt 0 (times (kids_of s' p) x)) [
      | inl l ↦ is_some_from (parent_of s' x) p (points_some (parent_of s' x) p (omega (arith, r.forest.child_once p x)))
      | inr z ↦ is_some_from (parent_of s' x) q (points_some (parent_of s' x) q (omega (arith, r.forest.child_once q x, sp_both x)))
    ]

    -- who was the parent of a child of now
    sp_old_parent : (b x : ℕ) → x ≢ new → parent_of s' x ≡ Some b
        → ((parent_of s x ≡ Some p) × (height_of s' b ≡ height_of s p)) ⊎ ((parent_of s x ≡ Some b) × (b ≢ p) × (b ≢ q))
    sp_old_parent b x d e =
        let m : 1 ≤ times (kids_of s' b) x = omega (arith, r.forest.child_once b x, points_at (parent_of s' x) b e) in
        let old : times (ed (kids_of s p)) x ≡ times (kids_of s p) x = E.others (kids_of s p) x d in
        elim (cases_eq b p) [
          | inl c ↦ inl (
            points_some (parent_of s x) p (omega (arith, g.shape.forest.child_once p x, old, sp_both x, m, ap (λ z. times (kids_of s' z) x) c)),
            ap
                (height_of s') c ∙ sp_height p sp_p_not_q,
          )
          | inr n ↦ elim (cases_eq b q) [
            | inl c ↦ inl (
              points_some (parent_of s x) p (omega (arith, g.shape.forest.child_once p x, old, sp_both x, m, ap (λ z. times (kids_of s' z) x) c)),
              ap
                  (height_of s') c ∙ sp_q_height,
            )
            | inr k ↦ inr (points_some (parent_of s x) b (omega (arith, g.shape.forest.child_once b x, m, ap (λ ks. times ks x) (r.other_kids b n k))), n, k)
          ]
        ]

    sp_q_top : parent_of s' q ≡ None
    sp_q_top = none_by (parent_of s' q) (λ b e. elim (sp_old_parent b q (λ c. sp_new_not_q (sym c)) e) [ inl l ↦ cc (l.0, sp_q_alone) | inr k ↦ cc (k.0, sp_q_alone) ])

    sp_live_old : (x b : ℕ) → parent_of s x ≡ Some b → x ≢ q
    sp_live_old x b e = sp_not_q x (live_from_parent (entry s x) b e)

    pub split_shape : IsShape s' root (Some q) None
    split_shape =
        record {
          forest = r.forest;
          root_is_block = kind_block (entry s root) (entry s' root) (r.kinds root sp_root_not_q) g.shape.root_is_block;
          root_is_top = none_by (parent_of s' root)
              (λ b e. elim (sp_old_parent b root (λ c. g.new_apart (sym c)) e) [ inl l ↦ cc (l.0, g.shape.root_is_top) | inr k ↦ cc (k.0, g.shape.root_is_top) ]);
          one_top = λ x live d apart.
              let not_q : x ≢ q = (λ e. apart (ap Some (sym e))) in
              elim (cases_eq x new) [
                | inl e ↦ sp_has_parent x (subst (λ (z : ℕ). 1 ≤ times (ed (kids_of s p)) z) (sym e)
                    (omega (arith, E.counts (kids_of s p) (g.shape.forest.child_once p at ∙ points_at (parent_of s at) p up), same_refl new)))
                | inr n ↦
                    let b = some_of (parent_of s x) (g.shape.one_top x (sp_was_live x not_q live) d (λ e. n (cc))) in
                    elim (cases_eq b.0 p) [
                      | inl c ↦ sp_has_parent x (omega (arith, E.others (kids_of s p) x n, g.shape.forest.child_once p x, points_at (parent_of s x) p (b.1 ∙ ap Some c)))
                      | inr k ↦ elim (cases_eq b.0 q) [
                        | inl c ↦
                            let none : times (kids_of s q) x ≡ 0 = ap (λ o. times (kids_of_entry o) x) r.fresh in
                            absurd (omega (arith, none, g.shape.forest.child_once q x, points_at (parent_of s x) q (b.1 ∙ ap Some c)))
                        | inr l ↦ is_some_from (parent_of s' x) b.0
                            (points_some (parent_of s' x) b.0 (omega (
                              arith,
                              r.forest.child_once b.0 x,
                              ap (λ ks. times ks x) (r.other_kids b.0 k l),
                              g.shape.forest.child_once b.0 x,
                              points_at (parent_of s x) b.0 b.1,
                            )))
                      ]
                    ]
              ];
          low = λ x live. elim (cases_eq x q) [
            | inl e ↦ omega (arith, ap (height_of s') e, sp_q_height, p_low, sp_height root sp_root_not_q)
            | inr n ↦ omega (arith, sp_height x n, sp_height root sp_root_not_q, g.shape.low x (sp_was_live x n live))
          ];
          heights = λ x b e. elim (cases_eq x new) [
            | inl c ↦
                let e' : parent_of s' new ≡ Some b = ap (parent_of s') (sym c) ∙ e in
                let h : height_of s' b ≡ height_of s p = elim (cases_eq b p) [
                  | inl k ↦ ap (height_of s') k ∙ sp_height p sp_p_not_q
                  | inr n ↦ elim (cases_eq b q) [
                    | inl k ↦ ap (height_of s') k ∙ sp_q_height
                    | inr l ↦
                        let gone : points (parent_of s new) b ≡ 0 = ap (λ o. points o b) g.new_top in
                        absurd (omega (
                          arith,
                          r.forest.child_once b new,
                          points_at (parent_of s' new) b e',
                          ap (λ ks. times ks new) (r.other_kids b n l),
                          g.shape.forest.child_once b new,
                          gone,
                        ))
                  ]
                ] in
                omega (arith, h, ap (height_of s') c, sp_height new sp_new_not_q, g.level, p_high)
            | inr n ↦ elim (sp_old_parent b x n e) [
              | inl l ↦ omega (arith, l.1, sp_height x (sp_live_old x p l.0), g.shape.heights x p l.0)
              | inr k ↦ omega (arith, sp_height b k.2, sp_height x (sp_live_old x b k.0), g.shape.heights x b k.0)
            ]
          ];
          high = λ b h. elim (cases_eq b q) [
            | inl e ↦ omega (arith, ap (height_of s') e, sp_q_height, p_high)
            | inr n ↦ omega (arith, sp_height b n, g.shape.high b (sp_was_block b n h))
          ];
          half_full = λ b h d _. elim (cases_eq b p) [
            | inl e ↦ subst (λ (z : ℕ). 4 ≤ length (kids_of s' z)) (sym e) r.front_many
            | inr n ↦ elim (cases_eq b q) [
              | inl e ↦ subst (λ (z : ℕ). 4 ≤ length (kids_of s' z)) (sym e) r.rear_many
              | inr k ↦ omega (arith, ap length (r.other_kids b n k), g.shape.half_full b (sp_was_block b k h) d (λ e. cc))
            ]
          ];
          root_filled = elim (cases_eq root p) [
            | inl e ↦ omega (arith, ap (λ z. length (kids_of s' z)) e, r.front_many)
            | inr n ↦ omega (arith, ap length (r.other_kids root n sp_root_not_q), g.shape.root_filled)
          ];
        }

    split_leaves : s'.leaves ≡ below s' (height_of s' p) (insert_after (below s' (height_of s' root - height_of s' p) (root ∷ [])) p q)
    split_leaves =
        let up_same : below s' (height_of s root - height_of s p) (root ∷ []) ≡ upper =
        below_same s s' (height_of s root - height_of s p) (height_of s root) (root ∷ []) (steps_down s root (Some new) g.shape) (root_high s root) (omega arith)
        (λ x low h. r.other_kids x (λ e. omega (arith, h, ap (height_of s) e, p_low)) (λ e. omega (arith, h, ap (height_of s) e, sp_q_low, p_low))) in
        let upper_high : AllHigh s (height_of s p) upper =
        λ x m. omega (
          arith,
          below_high s (height_of s root - height_of s p) (height_of s root) (root ∷ []) (steps_down s root (Some new) g.shape)
              (root_high s root) x m,
          p_low,
        ) in
        let here : flat_map (kids_of s') (insert_after upper p q) ≡ ed (flat_map (kids_of s) upper) =
        flat_map-insert_after (kids_of s') (λ x. ed (kids_of s x)) upper p q (sym (r.kids ∙ at_place)) (λ x m n. kids_after x n
        ∙ sym (r.other_kids x n (λ e. omega (arith, upper_high x m, ap (height_of s) e, sp_q_low, p_high))))
        ∙ sym (edit-flat_map step ed at new E (kids_of s) upper) in
        let down_same = below_same s s' (height_of s at) (height_of s at) (ed (below s (height_of s root - height_of s at) (root ∷ [])))
        (steps_down s root (Some new) g.shape) level_high (omega arith)
        (λ x low h. r.other_kids x (λ e. omega (arith, low, ap (height_of s) e, p_high)) (λ e. omega (arith, h, ap (height_of s) e, sp_q_low))) in
        let hp : height_of s' p ≡ 1 + height_of s at = omega (arith, sp_height p sp_p_not_q, p_high) in
        let gap : height_of s' root - height_of s' p ≡ height_of s root - height_of s p = omega (arith, sp_height p sp_p_not_q, sp_height root sp_root_not_q) in
        r.leaves ∙ g.leaves ∙ sym down_same ∙ ap (λ zs. below s' (height_of s at) (ed zs)) level_at ∙ ap (below s' (height_of s at)) (sym here)
        ∙ below-below s' (height_of s at) 1 (insert_after upper p q) ∙ ap (λ (n : ℕ). below s' n (insert_after upper p q)) (sym hp)
        ∙ ap (λ zs. below s' (height_of s' p) (insert_after zs p q)) (sym up_same)
        ∙ ap (λ (n : ℕ). below s' (height_of s' p) (insert_after (below s' n (root ∷ [])) p q)) (sym gap)

    -- after a split the new block is the node to be put into the tree, one level further up
    pub split_grows : IsGrowing s' root p q (λ xs. insert_after xs p q)
    split_grows =
        record {
          shape = split_shape;
          new_live = kind_live (entry s p) (entry s' q) r.kind (block_live (entry s p) p_live);
          new_top = sp_q_top;
          new_apart = λ e. sp_root_not_q (sym e);
          at_live = kind_live (entry s p) (entry s' p) (r.kinds p sp_p_not_q) (block_live (entry s p) p_live);
          at_apart = sp_p_not_q;
          at_filled = λ h. r.front_many;
          level = sp_q_height ∙ sym (sp_height p sp_p_not_q);
          leaves = split_leaves;
        }

    module _ (measure : Measure L S) (sums : SumsBut measure s (parent_of s at)) (u : ResumsBoth measure s s' p q) where
      pub split_sums : SumsBut measure s' (parent_of s' p)
      split_sums b h stale = elim (cases_eq b p) [
        | inl e ↦ subst (λ (z : ℕ). length_of measure s' z ≡ total (length_of measure s') (kids_of s' z)) (sym e) u.front_sum
        | inr n ↦ elim (cases_eq b q) [
          | inl e ↦ subst (λ (z : ℕ). length_of measure s' z ≡ total (length_of measure s') (kids_of s' z)) (sym e) u.rear_sum
          | inr k ↦
              let parent : (x : ℕ) → 1 ≤ times (kids_of s' b) x → parent_of s' x ≡ Some b = λ x m. points_some (parent_of s' x) b (omega (arith, r.forest.child_once b x)) in
              u.others b n k ∙ sums b (sp_was_block b k h) (λ e. n (cc (e, up))) ∙ ap (total (length_of measure s)) (sym (r.other_kids b n k))
              ∙ sym (total_same (length_of measure s) (length_of measure s') (kids_of s' b)
              (λ x m. u.others x (λ e. stale (ap (parent_of s') (sym e) ∙ parent x m)) (λ e. cc (ap (parent_of s') (sym e) ∙ parent x m, sp_q_top))))
        ]
      ]

      -- the block above owes as much as that one did
      pub split_owes : (more less : ℕ) → OwesAbove measure s at ed more less → OwesAbove measure s' p (λ xs. insert_after xs p q) more less
      split_owes more less owes pp up' =
          let f : ℕ → ℕ = length_of measure s in
          let f' : ℕ → ℕ = length_of measure s' in
          let high : height_of s' pp ≡ height_of s' p + 1 = split_shape.heights p pp up' in
          let far : pp ≢ p = (λ e. omega (arith, high, ap (height_of s') e)) in
          let not_q : pp ≢ q = (λ e. omega (arith, high, ap (height_of s') e, sp_q_height, sp_height p sp_p_not_q)) in
          let kids : kids_of s' pp ≡ kids_of s pp = r.other_kids pp far not_q in
          let one : times (kids_of s pp) p ≡ 1 = ap (λ ks. times ks p) (sym kids) ∙ r.forest.child_once pp p ∙ points_at (parent_of s' p) pp up' in
          let is_block : IsSome (block_value s pp) = sp_was_block pp not_q (block_from_height (entry s' pp) (omega (arith, high))) in
          let was : f pp ≡ total f (kids_of s pp) = sums pp is_block (λ e. far (cc (e, up))) in
          let q_not_in : (x : ℕ) → 1 ≤ times (kids_of s pp) x → x ≢ q =
          λ x m e. absurd (omega (arith, m, ap (times (kids_of s pp)) e, g.shape.forest.child_once pp q, ap (λ o. points o pp) sp_q_alone)) in
          let change = total_change f f' (kids_of s pp) p one (λ x m d. u.others x d (q_not_in x m)) in
          let put = (after_is_edit p q).totals f' (kids_of s pp) one in
          let member : (x : ℕ) → 1 ≤ times (ed (kids_of s p)) x → f' x ≡ f x = λ x m. u.others x (λ e. elim (edit_member step ed at new E (kids_of s p) x m) [
            | inl l ↦ omega (arith, l, g.shape.forest.child_once p x, points_of_height x l, ap (height_of s) e)
            | inr c ↦ omega (arith, ap (height_of s) c, g.level, p_high, ap (height_of s) e)
          ]) (λ e. elim (edit_member step ed at new E (kids_of s p) x m) [
            | inl l ↦ absurd (omega (arith, l, ap (times (kids_of s p)) e, g.shape.forest.child_once p q, ap (λ o. points o p) sp_q_alone))
            | inr c ↦ absurd (sp_new_not_q (sym c ∙ e))
          ]) in
          let both : f' p + f' q ≡ total f (ed (kids_of s p)) =
          omega (
            arith,
            u.front_sum,
            u.rear_sum,
            total-append f' (kids_of s' p) (kids_of s' q),
            ap (total f') (r.kids
                ∙ at_place),
            total_same f f' (ed (kids_of s p)) member,
          ) in
          omega (arith, u.others pp far not_q, was, change, put, both, owes p up, ap (λ ks. total f' (insert_after ks p q)) kids)

module _ {L S : Type 0} where
  -- a node without a parent that is not the one beside the tree is its root
  pub top_is_root : (s : Forest L (Headed S)) (root at new : ℕ) → IsShape s root (Some new) None → IsSome (entry s at) → at ≢ new
      → parent_of s at ≡ None → at ≡ root
  top_is_root s root at new shape live apart top = elim (cases_eq at root) [
    | inl e ↦ e
    | inr d ↦ let b = some_of (parent_of s at) (shape.one_top at live d (λ e. apart (cc e))) in cc (b.1, top)
  ]

module _ {L S : Type 0} (s s' : Forest L (Headed S)) (root new t : ℕ) (g : IsGrowing s root root new (λ xs. insert_after xs root new))
    (r : RootsOver s s' root new t) where
  rt_not : (x : ℕ) → IsSome (entry s x) → x ≢ t
  rt_not x h = dead_apart (entry s) x t h r.fresh

  rt_root_not : root ≢ t
  rt_root_not = rt_not root g.at_live

  rt_new_not : new ≢ t
  rt_new_not = rt_not new g.new_live

  rt_height : (x : ℕ) → x ≢ t → height_of s' x ≡ height_of s x
  rt_height x d = kind_height (entry s x) (entry s' x) (r.kinds x d)

  rt_top_height : height_of s' t ≡ height_of s root + 1
  rt_top_height = kind_is_height (entry s' t) (height_of s root + 1) r.kind

  rt_t_low : height_of s t ≡ 0
  rt_t_low = ap height_of_entry r.fresh

  rt_was_live : (x : ℕ) → x ≢ t → IsSome (entry s' x) → IsSome (entry s x)
  rt_was_live x d h = kind_live (entry s' x) (entry s x) (sym (r.kinds x d)) h

  rt_was_block : (x : ℕ) → x ≢ t → IsSome (block_value s' x) → IsSome (block_value s x)
  rt_was_block x d h = kind_block (entry s' x) (entry s x) (sym (r.kinds x d)) h

  rt_parents : (x : ℕ) → x ≢ root → x ≢ new → parent_of s' x ≡ parent_of s x
  rt_parents x d n = points_same (parent_of s' x) (parent_of s x) (λ b. sym (r.forest.child_once b x) ∙ elim (cases_eq b t) [
    | inl e ↦
        let now : times (kids_of s' b) x ≡ 0 = ap (λ z. times (kids_of s' z) x) e ∙ ap (λ ks. times ks x) r.kids
        ∙ omega (arith, same_other root x (λ q. d (sym q)), same_other new x (λ q. n (sym q))) in
        let was : times (kids_of s b) x ≡ 0 = ap (λ z. times (kids_of s z) x) e ∙ ap (λ o. times (kids_of_entry o) x) r.fresh in
        now ∙ sym was
    | inr k ↦ ap (λ ks. times ks x) (r.other_kids b k)
  ] ∙ g.shape.forest.child_once b x)

  rt_parent_root : parent_of s' root ≡ Some t
  rt_parent_root = points_some (parent_of s' root) t (omega (arith, r.forest.child_once t root, ap (λ ks. times ks root) r.kids, same_refl root))

  rt_parent_new : parent_of s' new ≡ Some t
  rt_parent_new = points_some (parent_of s' new) t (omega (arith, r.forest.child_once t new, ap (λ ks. times ks new) r.kids, same_refl new))

  rt_top_top : parent_of s' t ≡ None
  rt_top_top = rt_parents t (λ e. rt_root_not (sym e)) (λ e. rt_new_not (sym e)) ∙ ap parent_of_entry r.fresh

  pub root_shape : IsShape s' t None None
  root_shape =
      record {
        forest = r.forest;
        root_is_block = kind_is_block (entry s' t) (height_of s root + 1) r.kind;
        root_is_top = rt_top_top;
        one_top = λ x live d _. elim (cases_eq x root) [
          | inl e ↦ is_some_from (parent_of s' x) t (ap (parent_of s') e ∙ rt_parent_root)
          | inr n ↦ elim (cases_eq x new) [
            | inl e ↦ is_some_from (parent_of s' x) t (ap (parent_of s') e ∙ rt_parent_new)
            | inr k ↦ subst (λ (o : Option ℕ). IsSome o) (sym (rt_parents x n k)) (g.shape.one_top x (rt_was_live x d live) n (λ e. k (cc e)))
          ]
        ];
        low = λ x live. elim (cases_eq x t) [
          | inl e ↦ omega (arith, ap (height_of s') e)
          | inr n ↦ omega (arith, rt_height x n, rt_top_height, g.shape.low x (rt_was_live x n live))
        ];
        heights = λ x b e. elim (cases_eq x root) [
          | inl c ↦ let b_is : t ≡ b = cc (ap (parent_of s') c, e, rt_parent_root) in
              omega (arith, ap (height_of s') c, rt_height root rt_root_not, ap (height_of s') b_is, rt_top_height)
          | inr n ↦ elim (cases_eq x new) [
            | inl c ↦ let b_is : t ≡ b = cc (ap (parent_of s') c, e, rt_parent_new) in
                omega (arith, ap (height_of s') c, rt_height new rt_new_not, g.level, ap (height_of s') b_is, rt_top_height)
            | inr k ↦
                let old : parent_of s x ≡ Some b = sym (rt_parents x n k) ∙ e in
                let xl : x ≢ t = rt_not x (live_from_parent (entry s x) b old) in
                let bl : b ≢ t = (λ q. omega (
                  arith,
                  g.shape.forest.child_once b x,
                  points_at (parent_of s x) b old,
                  ap (λ z. times (kids_of s z) x) q,
                  ap
                      (λ o. times (kids_of_entry o) x) r.fresh,
                )) in
                omega (arith, rt_height x xl, rt_height b bl, g.shape.heights x b old)
          ]
        ];
        high = λ b h. elim (cases_eq b t) [
          | inl e ↦ omega (arith, ap (height_of s') e, rt_top_height)
          | inr n ↦ omega (arith, rt_height b n, g.shape.high b (rt_was_block b n h))
        ];
        half_full = λ b h d _.
            let four : 4 ≤ length (kids_of s b) = elim (cases_eq b root) [
              | inl e ↦ subst (λ (z : ℕ). 4 ≤ length (kids_of s z)) (sym e) (g.at_filled (g.shape.high root g.shape.root_is_block))
              | inr n ↦ g.shape.half_full b (rt_was_block b d h) n (λ e. cc)
            ] in
            omega (arith, ap length (r.other_kids b d), four);
        root_filled = omega (arith, ap length r.kids);
      }

  pub root_leaves : s'.leaves ≡ below s' (height_of s' t) (t ∷ [])
  root_leaves =
      let pair : List ℕ = root ∷ new ∷ [] in
      let gap : height_of s root - height_of s root ≡ 0 = omega arith in
      let there : insert_after (below s (height_of s root - height_of s root) (root ∷ [])) root new ≡ pair =
      ap (λ (n : ℕ). insert_after (below s n (root ∷ [])) root new) gap ∙ insert_after_head [] root new in
      let high : AllHigh s (height_of s root) pair = λ x m. elim (cases_eq root x) [
        | inl e ↦ ap (height_of s) (sym e)
        | inr d ↦ elim (cases_eq new x) [ inl e ↦ ap (height_of s) (sym e) ∙ g.level | inr k ↦ absurd (omega (arith, same_other root x d, same_other new x k)) ]
      ] in
      let same_below : below s' (height_of s root) pair ≡ below s (height_of s root) pair =
      below_same s s' (height_of s root) (height_of s root) pair
      (λ b x m. g.shape.heights x b (points_some (parent_of s x) b (omega (arith, g.shape.forest.child_once b x)))) high (omega arith)
      (λ x low h. r.other_kids x (λ e. omega (arith, h, ap (height_of s) e, rt_t_low))) in
      let kids : flat_map (kids_of s') (t ∷ []) ≡ pair = ap (λ zs. zs ++ []) r.kids in
      let h : height_of s' t ≡ suc (height_of s root) = omega (arith, rt_top_height) in
      r.leaves ∙ g.leaves ∙ ap (below s (height_of s root)) there ∙ sym same_below ∙ ap (below s' (height_of s root)) (sym kids) ∙ ap (λ (n : ℕ). below s' n (t ∷ [])) (sym h)

  pub root_tree : IsTree s' t
  root_tree = record { shape = root_shape; leaves = root_leaves }

  module _ (measure : Measure L S) (sums : SumsBut measure s (parent_of s root)) (u : Resums measure s s' t) where
    pub root_sums : SumsBut measure s' None
    root_sums b h stale = elim (cases_eq b t) [
      | inl e ↦ subst (λ (z : ℕ). length_of measure s' z ≡ total (length_of measure s') (kids_of s' z)) (sym e) u.sum
      | inr n ↦
          let inside : (x : ℕ) → 1 ≤ times (kids_of s' b) x → x ≢ t =
          λ x m e. cc (ap (parent_of s') (sym e) ∙ points_some (parent_of s' x) b (omega (arith, r.forest.child_once b x)), rt_top_top) in
          u.others b n ∙ sums b (rt_was_block b n h) (λ e. cc (e, g.shape.root_is_top)) ∙ ap (total (length_of measure s)) (sym (r.other_kids b n))
          ∙ sym (total_same (length_of measure s) (length_of measure s') (kids_of s' b) (λ x m. u.others x (inside x m)))
    ]
