-- What is left of a tree from which a leaf is taken where two neighbours share their children anew.
use Rattle.std.proofs.Common.{◌≡◌, ◌≢◌, ◌⊎◌, ℕ, ◌+◌, ◌-◌, ◌≤◌, List, [], ◌∷◌, length, Option, Some, None, IsSome, refl, sym, ap, subst, ◌∙◌, inl, inr, arith}
use Rattle.std.proofs.lemmas.Bool.{cases_eq, cases_lt}
use Rattle.std.specs.List.{flat_map}
use Rattle.ft_arena.specs.Ids.{times, without}
use Rattle.ft_arena.specs.Forest.{Forest, entry, kids_of, parent_of, block_value}
use Rattle.ft_arena.proofs.IdLemmas.{times-append}
use Rattle.ft_shape.specs.declared.headed.Headed.{Headed}
use Rattle.ft_shape.specs.Tree.{total, height_of, Measure, length_of, below, IsShape, IsApart, SumsBut}
use Rattle.ft_shape.specs.Steps.{Shares}
use Rattle.ft_shape.proofs.Levels.{AllHigh, points_at, points_some, block_from_height, live_from_parent, steps_down, root_high}
use Rattle.ft_shape.proofs.LevelLemmas.{below-below, below_same, below_high}
use Rattle.ft_shape.proofs.EditLemmas.{flat_map_same, total_same, some_of, is_some_from, none_by}
use Rattle.ft_shape.proofs.KindLemmas.{kind_height, kind_live, kind_block, block_live}
use Rattle.ft_shape.proofs.RefreshLemmas.{block_from_kid}
use Rattle.ft_shape.proofs.WithoutLemmas.{two_levels}

module _ {L S : Type 0} (s s' : Forest L (Headed S)) (root id up front rear block : ℕ) (a : IsApart s root id (Some block)) (front_up : parent_of s front ≡ Some up)
    (rear_up : parent_of s rear ≡ Some up) (differ : front ≢ rear) (short_is : (block ≡ front) ⊎ (block ≡ rear)) (high : 2 ≤ height_of s up)
    (r : Shares s s' up front rear) where
  sh_front_high : height_of s up ≡ height_of s front + 1
  sh_front_high = a.shape.heights front up front_up

  sh_rear_high : height_of s up ≡ height_of s rear + 1
  sh_rear_high = a.shape.heights rear up rear_up

  sh_up_live : IsSome (entry s up)
  sh_up_live = block_live (entry s up) (block_from_height (entry s up) (omega (arith, high)))

  sh_low : height_of s up ≤ height_of s root
  sh_low = a.shape.low up sh_up_live

  sh_up_rear : up ≢ rear
  sh_up_rear = λ e. omega (arith, sh_rear_high, ap (height_of s) e)

  sh_root_rear : root ≢ rear
  sh_root_rear = λ e. cc (ap (parent_of s) e, a.shape.root_is_top, rear_up)

  sh_root_front : root ≢ front
  sh_root_front = λ e. cc (ap (parent_of s) e, a.shape.root_is_top, front_up)

  sh_root_live : IsSome (entry s' root)
  sh_root_live = r.live root sh_root_rear (block_live (entry s root) a.shape.root_is_block)

  sh_high : (x : ℕ) → IsSome (entry s' x) → height_of s' x ≡ height_of s x
  sh_high x h = kind_height (entry s x) (entry s' x) (r.kinds x h)

  sh_was_live : (x : ℕ) → IsSome (entry s' x) → IsSome (entry s x)
  sh_was_live x h = kind_live (entry s' x) (entry s x) (sym (r.kinds x h)) h

  sh_was_block : (x : ℕ) → IsSome (block_value s' x) → IsSome (block_value s x)
  sh_was_block x h = kind_block (entry s' x) (entry s x) (sym (r.kinds x (block_live (entry s' x) h))) h

  sh_both : (x : ℕ) → times (kids_of s' front) x + times (kids_of s' rear) x ≡ times (kids_of s front) x + times (kids_of s rear) x
  sh_both x = sym (times-append (kids_of s' front) (kids_of s' rear) x) ∙ ap (λ zs. times zs x) r.joined ∙ times-append (kids_of s front) (kids_of s rear) x

  -- who was the parent of a child of now
  sh_old_parent : (b x : ℕ) → parent_of s' x ≡ Some b → (o : ℕ) × (parent_of s x ≡ Some o) × (height_of s o ≡ height_of s b)
  sh_old_parent b x e =
      let m : times (kids_of s' b) x ≡ 1 = r.forest.child_once b x ∙ points_at (parent_of s' x) b e in
      let xl : IsSome (entry s' x) = live_from_parent (entry s' x) b e in
      let by_pair : height_of s b ≡ height_of s front → 1 ≤ times (kids_of s' front) x + times (kids_of s' rear) x
      → (o : ℕ) × (parent_of s x ≡ Some o) × (height_of s o ≡ height_of s b) = λ hb h. elim (cases_lt 0 (times (kids_of s front) x)) [
        | inl l ↦ (front, points_some (parent_of s x) front (omega (arith, l, a.shape.forest.child_once front x)), sym hb)
        | inr z ↦ (rear, points_some (parent_of s x) rear (omega (arith, z, h, sh_both x, a.shape.forest.child_once rear x)), omega (arith, hb, sh_front_high, sh_rear_high))
      ] in
      elim (cases_eq b front) [
        | inl c ↦ by_pair (ap (height_of s) c) (omega (arith, m, ap (λ z. times (kids_of s' z) x) c))
        | inr n ↦ elim (cases_eq b rear) [
          | inl c ↦ by_pair (omega (arith, ap (height_of s) c, sh_front_high, sh_rear_high)) (omega (arith, m, ap (λ z. times (kids_of s' z) x) c))
          | inr k ↦ elim (cases_eq b up) [
            | inl c ↦ (
              up,
              points_some (parent_of s x) up (omega (arith, m, ap (λ z. times (kids_of s' z) x) c, r.up_kids x xl, a.shape.forest.child_once up x)),
              ap
                  (height_of s) (sym c),
            )
            | inr u ↦ (b, points_some (parent_of s x) b (omega (arith, m, ap (λ ks. times ks x) (r.other_kids b u n k), a.shape.forest.child_once b x)), refl)
          ]
        ]
      ]

  sh_has_parent : (x b : ℕ) → IsSome (entry s' x) → parent_of s x ≡ Some b → IsSome (parent_of s' x)
  sh_has_parent x b xl e =
      let m : times (kids_of s b) x ≡ 1 = a.shape.forest.child_once b x ∙ points_at (parent_of s x) b e in
      let from : (z : ℕ) → 1 ≤ times (kids_of s' z) x → IsSome (parent_of s' x) =
      λ z h. is_some_from (parent_of s' x) z (points_some (parent_of s' x) z (omega (arith, h, r.forest.child_once z x))) in
      let by_pair : 1 ≤ times (kids_of s front) x + times (kids_of s rear) x → IsSome (parent_of s' x) = λ h. elim (cases_lt 0 (times (kids_of s' front) x)) [
        | inl l ↦ from front (omega (arith, l))
        | inr z ↦ from rear (omega (arith, z, h, sh_both x))
      ] in
      elim (cases_eq b front) [
        | inl c ↦ by_pair (omega (arith, m, ap (λ z. times (kids_of s z) x) c))
        | inr n ↦ elim (cases_eq b rear) [
          | inl c ↦ by_pair (omega (arith, m, ap (λ z. times (kids_of s z) x) c))
          | inr k ↦ elim (cases_eq b up) [
            | inl c ↦ from up (omega (arith, m, ap (λ z. times (kids_of s z) x) c, r.up_kids x xl))
            | inr u ↦ from b (omega (arith, m, ap (λ ks. times ks x) (r.other_kids b u n k)))
          ]
        ]
      ]

  sh_top : (x : ℕ) → parent_of s x ≡ None → parent_of s' x ≡ None
  sh_top x e = none_by (parent_of s' x) (λ b q. let o = sh_old_parent b x q in cc (o.1, e))

  pub share_shape : IsShape s' root (Some id) (Some up)
  share_shape =
      record {
        forest = r.forest;
        root_is_block = kind_block (entry s root) (entry s' root) (r.kinds root sh_root_live) a.shape.root_is_block;
        root_is_top = sh_top root a.shape.root_is_top;
        one_top = λ x xl d n. let b = some_of (parent_of s x) (a.shape.one_top x (sh_was_live x xl) d n) in sh_has_parent x b.0 xl b.1;
        low = λ x xl. omega (arith, sh_high x xl, sh_high root sh_root_live, a.shape.low x (sh_was_live x xl));
        heights = λ x b e.
            let o = sh_old_parent b x e in
            let m : times (kids_of s' b) x ≡ 1 = r.forest.child_once b x ∙ points_at (parent_of s' x) b e in
            let bl : IsSome (entry s' b) = block_live (entry s' b) (block_from_kid s' b x (omega (arith, m))) in
            omega (arith, sh_high x (live_from_parent (entry s' x) b e), sh_high b bl, a.shape.heights x o.0 o.1, o.2);
        high = λ b h. omega (arith, sh_high b (block_live (entry s' b) h), a.shape.high b (sh_was_block b h));
        half_full = λ b h d n. elim (cases_eq b front) [
          | inl c ↦ subst (λ (z : ℕ). 4 ≤ length (kids_of s' z)) (sym c) r.front_many
          | inr k ↦ elim (cases_eq b rear) [
            | inl c ↦ subst (λ (z : ℕ). 4 ≤ length (kids_of s' z)) (sym c) (r.rear_many (subst (λ (z : ℕ). IsSome (entry s' z)) c (block_live (entry s' b) h)))
            | inr l ↦
                let u : b ≢ up = (λ e. n (ap Some (sym e))) in
                let not_short : Some block ≢ Some b = (λ e. let q : block ≡ b = cc e in elim short_is [ inl f ↦ k (sym q ∙ f) | inr g ↦ l (sym q ∙ g) ]) in
                omega (arith, ap length (r.other_kids b u k l), a.shape.half_full b (sh_was_block b h) d not_short)
          ]
        ];
        root_filled = elim (cases_eq root up) [
          | inl c ↦ omega (arith, ap (λ z. length (kids_of s' z)) c, r.up_filled)
          | inr n ↦ omega (arith, ap length (r.other_kids root n sh_root_front sh_root_rear), a.shape.root_filled)
        ];
      }

  pub share_block : IsSome (block_value s' up)
  share_block = kind_block (entry s up) (entry s' up) (r.kinds up (r.live up sh_up_rear sh_up_live)) (block_from_height (entry s up) (omega (arith, high)))

  pub share_high : height_of s' root ≡ height_of s root
  share_high = sh_high root sh_root_live

  pub share_up_high : height_of s' up ≡ height_of s up
  share_up_high = sh_high up (r.live up sh_up_rear sh_up_live)

  -- the level of the block above
  abbrev sh_upper : List ℕ
  sh_upper = below s (height_of s root - height_of s up) (root ∷ [])

  sh_upper_high : AllHigh s (height_of s up) sh_upper
  sh_upper_high x m = omega (
    arith,
    below_high s (height_of s root - height_of s up) (height_of s root) (root ∷ []) (steps_down s root (Some id) a.shape)
        (root_high s root) x m,
    sh_low,
  )

  sh_pair : (x : ℕ) → 1 ≤ times sh_upper x → flat_map (kids_of s') (kids_of s' x) ≡ flat_map (kids_of s) (kids_of s x)
  sh_pair x m = elim (cases_eq x up) [
    | inl c ↦ subst (λ (z : ℕ). flat_map (kids_of s') (kids_of s' z) ≡ flat_map (kids_of s) (kids_of s z)) (sym c) r.up_levels
    | inr u ↦
        let hx : height_of s x ≡ height_of s up = sh_upper_high x m in
        let same_kids : kids_of s' x ≡ kids_of s x =
        r.other_kids x u (λ e. omega (arith, hx, ap (height_of s) e, sh_front_high)) (λ e. omega (arith, hx, ap (height_of s) e, sh_rear_high)) in
        let inside : (y : ℕ) → 1 ≤ times (kids_of s x) y → kids_of s' y ≡ kids_of s y = λ y n.
        let py : parent_of s y ≡ Some x = points_some (parent_of s y) x (omega (arith, n, a.shape.forest.child_once x y)) in
        r.other_kids y (λ e. omega (arith, ap (height_of s) e, hx, a.shape.heights y x py)) (λ e. u (cc (py, ap (parent_of s) e, front_up)))
        (λ e. u (cc (py, ap (parent_of s) e, rear_up))) in
        ap (flat_map (kids_of s')) same_kids ∙ flat_map_same (kids_of s) (kids_of s') (kids_of s x) inside
  ]

  share_levels : below s' (height_of s' root) (root ∷ []) ≡ below s (height_of s root) (root ∷ [])
  share_levels =
      let gap : ℕ = height_of s root - height_of s up in
      let rest : ℕ = height_of s up - 2 in
      let parts : height_of s root ≡ (height_of s root - height_of s up) + (2 + (height_of s up - 2)) = omega (arith, high, sh_low) in
      let down = steps_down s root (Some id) a.shape in
      let up_same : below s' (height_of s root - height_of s up) (root ∷ []) ≡ sh_upper =
      below_same s s' (height_of s root - height_of s up) (height_of s root) (root ∷ []) down (root_high s root) (omega arith)
      (λ x low h. r.other_kids x (λ e. omega (arith, h, ap (height_of s) e, sh_low)) (λ e. omega (arith, h, ap (height_of s) e, sh_front_high, sh_low))
      (λ e. omega (arith, h, ap (height_of s) e, sh_rear_high, sh_low))) in
      let mid : below s' 2 sh_upper ≡ below s 2 sh_upper = two_levels (kids_of s) (kids_of s') sh_upper sh_pair in
      let mid_high : AllHigh s (height_of s up - 2) (below s 2 sh_upper) = below_high s 2 (height_of s up) sh_upper down sh_upper_high in
      let low_same : below s' (height_of s up - 2) (below s 2 sh_upper) ≡ below s (height_of s up - 2) (below s 2 sh_upper) =
      below_same s s' (height_of s up - 2) (height_of s up - 2) (below s 2 sh_upper) down mid_high (omega arith)
      (λ x low h. r.other_kids x (λ e. omega (arith, low, ap (height_of s) e, high)) (λ e. omega (arith, low, ap (height_of s) e, sh_front_high, high))
      (λ e. omega (arith, low, ap (height_of s) e, sh_rear_high, high))) in
      let whole : (z : Forest L (Headed S)) → below z (height_of s root) (root ∷ []) ≡ below z (height_of s up - 2)
      (below z 2 (below z (height_of s root - height_of s up) (root ∷ []))) =
      λ z. ap (λ (n : ℕ). below z n (root ∷ [])) parts ∙ sym (below-below z (2 + (height_of s up - 2)) (height_of s root - height_of s up) (root ∷ []))
      ∙ sym (below-below z (height_of s up - 2) 2 (below z (height_of s root - height_of s up) (root ∷ []))) in
      ap (λ (n : ℕ). below s' n (root ∷ [])) (sh_high root sh_root_live) ∙ whole s' ∙ ap (λ zs. below s' (height_of s up - 2) (below s' 2 zs)) up_same
      ∙ ap (below s' (height_of s up - 2)) mid ∙ low_same ∙ sym (whole s)

  pub share_apart : IsApart s' root id (Some up)
  share_apart =
      record {
        shape = share_shape;
        live = subst (λ (o : Option L). IsSome o) (sym (r.leaf_values id)) a.live;
        top = sh_top id a.top;
        leaves = ap (λ zs. without zs id) r.leaves ∙ a.leaves ∙ sym share_levels;
        filled = λ b e. let q : up ≡ b = cc e in subst (λ (z : ℕ). 1 ≤ length (kids_of s' z)) q r.up_filled;
      }

  module _ (measure : Measure L S) (sums : SumsBut measure s None) (others : (x : ℕ) → IsSome (entry s' x) → x ≢ front → x ≢ rear
      → length_of measure s' x ≡ length_of measure s x) (front_sum : length_of measure s' front ≡ total (length_of measure s') (kids_of s' front))
      (rear_sum : IsSome (entry s' rear) → length_of measure s' rear ≡ total (length_of measure s') (kids_of s' rear))
      (up_sum : total (length_of measure s') (kids_of s' up) ≡ total (length_of measure s) (kids_of s up)) where
    pub share_sums : SumsBut measure s' None
    share_sums b h stale = elim (cases_eq b front) [
      | inl c ↦ subst (λ (z : ℕ). length_of measure s' z ≡ total (length_of measure s') (kids_of s' z)) (sym c) front_sum
      | inr k ↦ elim (cases_eq b rear) [
        | inl c ↦ subst (λ (z : ℕ). length_of measure s' z ≡ total (length_of measure s') (kids_of s' z)) (sym c)
            (rear_sum (subst (λ (z : ℕ). IsSome (entry s' z)) c (block_live (entry s' b) h)))
        | inr l ↦
            let here : length_of measure s' b ≡ total (length_of measure s) (kids_of s b) = others b (block_live (entry s' b) h) k l ∙ sums b (sh_was_block b h) (λ e. cc) in
            elim (cases_eq b up) [
              | inl c ↦ here ∙ ap (λ z. total (length_of measure s) (kids_of s z)) c ∙ sym up_sum ∙ ap (λ z. total (length_of measure s') (kids_of s' z)) (sym c)
              | inr u ↦
                  let same_kids : kids_of s' b ≡ kids_of s b = r.other_kids b u k l in
                  let inside : (x : ℕ) → 1 ≤ times (kids_of s b) x → length_of measure s' x ≡ length_of measure s x = λ x m.
                  let px : parent_of s x ≡ Some b = points_some (parent_of s x) b (omega (arith, m, a.shape.forest.child_once b x)) in
                  let xr : x ≢ rear = (λ e. u (cc (px, ap (parent_of s) e, rear_up))) in
                  others x (r.live x xr (live_from_parent (entry s x) b px)) (λ e. u (cc (px, ap (parent_of s) e, front_up))) xr in
                  here ∙ sym (total_same (length_of measure s) (length_of measure s') (kids_of s b) inside) ∙ ap (total (length_of measure s')) (sym same_kids)
            ]
      ]
    ]
