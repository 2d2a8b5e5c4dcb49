-- That a block's children together are no longer than all leaves.
use Rattle.std.proofs.Common.{◌≡◌, ◌≢◌, ℕ, zero, suc, ◌+◌, ◌-◌, ◌<◌, ◌≤◌, List, [], ◌∷◌, insert, slice_get, Option, Some, None, IsSome, refl, sym, ap, subst, ◌∙◌, inl, inr, arith}
use Rattle.std.proofs.lemmas.Bool.{cases_eq}
use Rattle.std.specs.List.{flat_map}
use Rattle.ft_arena.specs.declared.nodes.Node.{Node}
use Rattle.ft_arena.specs.declared.nodes.Node.TheVariants.{Leaf, Block}
use Rattle.ft_arena.specs.Ids.{times, insert_after}
use Rattle.ft_arena.specs.Forest.{Forest, Entry, IsForest, entry, kids_of, parent_of, block_value, leaf_value, leaf_of_entry, leaf_of_node}
use Rattle.ft_arena.proofs.IdLemmas.{same_refl, same_other, times-append}
use Rattle.ft_shape.specs.declared.headed.Headed.{Headed}
use Rattle.ft_shape.specs.Tree.{total, height_of, Measure, length_of, length_of_entry, length_of_node, below, IsShape, SumsBut, IsGrowing, IsEdit}
use Rattle.ft_arena.specs.Forest.{count_some}
use Rattle.ft_shape.proofs.Lists.{total-append}
use Rattle.ft_shape.proofs.Levels.{AllHigh, flat_map_member, points_at, block_from_height, steps_down, root_high, total_below_up_to}
use Rattle.ft_shape.proofs.EditLemmas.{some_of, total_same, edit_member, edit-flat_map, insert_after_head}
use Rattle.ft_shape.proofs.LevelLemmas.{below-below, below_high}
use Rattle.ft_shape.proofs.KindLemmas.{block_live}

pub member_flat_map : (f : ℕ → List ℕ) (xs : List ℕ) (b x : ℕ) → 1 ≤ times xs b → 1 ≤ times (f b) x → 1 ≤ times (flat_map f xs) x
member_flat_map f [] b x m n = absurd (omega arith)
member_flat_map f (y ∷ ys) b x m n = elim (cases_eq y b) [
  | inl e ↦ omega (arith, times-append (f y) (flat_map f ys) x, ap (λ z. times (f z) x) e)
  | inr d ↦ omega (arith, times-append (f y) (flat_map f ys) x, member_flat_map f ys b x (omega (arith, same_other y b d)) n)
]

pub total_part : (g : ℕ → ℕ) (f : ℕ → List ℕ) (xs : List ℕ) (b : ℕ) → 1 ≤ times xs b → total g (f b) ≤ total g (flat_map f xs)
total_part g f [] b m = absurd (omega arith)
total_part g f (y ∷ ys) b m = elim (cases_eq y b) [
  | inl e ↦ omega (arith, total-append g (f y) (flat_map f ys), ap (λ z. total g (f z)) e)
  | inr d ↦ omega (arith, total-append g (f y) (flat_map f ys), total_part g f ys b (omega (arith, same_other y b d)))
]

module _ {L S : Type 0} (s : Forest L (Headed S)) (root : ℕ) (extra : Option ℕ) {short : Option ℕ} (t : IsShape s root extra short) where
  up_from : (x : ℕ) → IsSome (entry s x) → x ≢ root → extra ≢ Some x
      → (b : ℕ) × (parent_of s x ≡ Some b) × (height_of s b ≡ height_of s x + 1) × IsSome (block_value s b)
  up_from x live d e =
      let b = some_of (parent_of s x) (t.one_top x live d e) in
      let h : height_of s b.0 ≡ height_of s x + 1 = t.heights x b.0 b.1 in (
        b.0,
        b.1,
        h,
        block_from_height (entry s b.0) (omega (arith, h)),
      )

  -- each node, but one that has no place yet, stands on its level
  pub on_level : (n x : ℕ) → IsSome (entry s x) → ((y : ℕ) → height_of s x ≤ height_of s y → extra ≢ Some y) → height_of s x + n ≡ height_of s root
      → 1 ≤ times (below s n (root ∷ [])) x
  on_level zero x live apart h = elim (cases_eq x root) [
    | inl e ↦ subst (λ (y : ℕ). 1 ≤ times (root ∷ []) y) (sym e) (omega (arith, same_refl root))
    | inr d ↦ let u = up_from x live d (apart x (omega arith)) in absurd (omega (arith, h, u.2, t.low u.0 (block_live (entry s u.0) u.3)))
  ]
  on_level (suc n) x live apart h =
      let d : x ≢ root = (λ e. omega (arith, h, ap (height_of s) e)) in
      let u = up_from x live d (apart x (omega arith)) in
      let r : 1 ≤ times (below s n (root ∷ [])) u.0 = on_level n u.0 (block_live (entry s u.0) u.3) (λ y k. apart y (omega (arith, k, u.2))) (omega (arith, h, u.2)) in
      let m : 1 ≤ times (flat_map (kids_of s) (below s n (root ∷ []))) x =
      member_flat_map (kids_of s) (below s n (root ∷ [])) u.0 x r (omega (arith, t.forest.child_once u.0 x, points_at (parent_of s x) u.0 u.1)) in
      let e : n + 1 ≡ suc n = omega arith in
      subst (λ (zs : List ℕ). 1 ≤ times zs x) (below-below s 1 n (root ∷ []) ∙ ap (λ (k : ℕ). below s k (root ∷ [])) e) m

module _ {L S : Type 0} (measure : Measure L S) (s : Forest L (Headed S)) (root : ℕ) (extra : Option ℕ) {short : Option ℕ}
    (t : IsShape s root extra short) where
  -- the children of a block are together no longer than all leaves of the tree, where the sums are right below it
  pub kids_fit : (b : ℕ) → IsSome (block_value s b) → ((y : ℕ) → height_of s b ≤ height_of s y → extra ≢ Some y)
      → ((k : ℕ) → IsSome (block_value s k) → height_of s k < height_of s b → length_of measure s k ≡ total (length_of measure s) (kids_of s k))
      → total (length_of measure s) (kids_of s b) ≤ total (length_of measure s) (below s (height_of s root) (root ∷ []))
  kids_fit b block apart sums =
      let f : ℕ → ℕ = length_of measure s in
      let live : IsSome (entry s b) = block_live (entry s b) block in
      let l : height_of s b ≤ height_of s root = t.low b live in
      let one : 1 ≤ height_of s b = t.high b block in
      let n : ℕ = height_of s root - height_of s b in
      let j : ℕ = height_of s b - 1 in
      let level : List ℕ = below s (height_of s root - height_of s b) (root ∷ []) in
      let there : 1 ≤ times (below s (height_of s root - height_of s b) (root ∷ [])) b =
      on_level s root extra t (height_of s root - height_of s b) b live apart (omega (arith, l)) in
      let level_high : AllHigh s (height_of s b) (below s (height_of s root - height_of s b) (root ∷ [])) =
      λ x m. omega (
        arith,
        l,
        below_high s (height_of s root - height_of s b) (height_of s root) (root ∷ []) (steps_down s root extra t) (root_high s root) x
            m,
      ) in
      let high : AllHigh s (height_of s b - 1) (flat_map (kids_of s) (below s (height_of s root - height_of s b) (root ∷ []))) = λ k m. let r =
      flat_map_member (kids_of s) (below s (height_of s root - height_of s b) (root ∷ [])) k m in
      omega (arith, level_high r.0 r.1, (steps_down s root extra t) r.0 k r.2) in
      let part : total f (kids_of s b) ≤ total f (flat_map (kids_of s) (below s (height_of s root - height_of s b) (root ∷ []))) =
      total_part f (kids_of s) (below s (height_of s root - height_of s b) (root ∷ [])) b there in
      let sum : total f (below s (height_of s b - 1) (flat_map (kids_of s) (below s (height_of s root - height_of s b) (root ∷ [])))) ≡ total f
      (flat_map (kids_of s) (below s (height_of s root - height_of s b) (root ∷ []))) =
      total_below_up_to measure s root extra t (height_of s b - 1) (flat_map (kids_of s) (below s (height_of s root - height_of s b) (root ∷ [])))
      (λ k i m. sums k i (omega (arith, m, one))) high in
      let e : (height_of s root - height_of s b) + (1 + (height_of s b - 1)) ≡ height_of s root = omega (arith, l, one) in
      let whole : below s (height_of s b - 1) (flat_map (kids_of s) (below s (height_of s root - height_of s b) (root ∷ []))) ≡ below s (height_of s root) (root ∷ []) =
      below-below s (height_of s b - 1) 1 (below s (height_of s root - height_of s b) (root ∷ []))
      ∙ below-below s (1 + (height_of s b - 1)) (height_of s root - height_of s b) (root ∷ []) ∙ ap (λ (k : ℕ). below s k (root ∷ [])) e in
      omega (arith, part, sum, ap (total f) whole)

module _ {L S : Type 0} where
  pub leaf_length : (measure : Measure L S) (o : Option (Entry L (Headed S))) (v : L) → leaf_of_entry o ≡ Some v → length_of_entry measure o ≡ measure.leaf v
  leaf_length measure None v e = cc
  leaf_length measure (Some x) v e = of_node x.node e
    where
      of_node : (n : Node L (Headed S)) → leaf_of_node n ≡ Some v → length_of_node measure n ≡ measure.leaf v
      of_node (Leaf w) e = let q : w ≡ v = cc in ap measure.leaf q
      of_node (Block ks w) e = cc

  -- each of these is a live leaf
  abbrev pub AllLeaves : Forest L (Headed S) → List ℕ → Type 0
  AllLeaves s xs = (x : ℕ) → 1 ≤ times xs x → IsSome (leaf_value s x)

  pub leaves_live : (s : Forest L (Headed S)) → IsForest s → AllLeaves s s.leaves
  leaves_live s f x m = one (leaf_value s x) (omega (arith, m, f.leaf_once x))
    where
      one : (o : Option L) → 1 ≤ count_some o → IsSome o
      one None h = absurd (omega arith)
      one (Some v) h = refl

  -- the leaves are as long as their values say
  pub leaf_total : (measure : Measure L S) (s s' : Forest L (Headed S)) → IsForest s → s'.leaves ≡ s.leaves → ((x : ℕ) → leaf_value s' x ≡ leaf_value s x)
      → total (length_of measure s') s'.leaves ≡ total (length_of measure s) s.leaves
  leaf_total measure s s' f l v =
      ap (total (length_of measure s')) l ∙ total_same (length_of measure s) (length_of measure s') s.leaves (λ x m. let w =
      some_leaf (leaf_value s x) (omega (arith, m, f.leaf_once x)) in
      leaf_length measure (entry s' x) w.0 (v x ∙ w.1) ∙ sym (leaf_length measure (entry s x) w.0 w.1))
    where
      some_leaf : (o : Option L) → 1 ≤ count_some o → (w : L) × (o ≡ Some w)
      some_leaf None h = absurd (omega arith)
      some_leaf (Some w) h = (w, refl)

module _ {L S : Type 0} (s : Forest L (Headed S)) (root at new step : ℕ) (ed : List ℕ → List ℕ) (E : IsEdit step ed at new)
    (g : IsGrowing s root at new ed) where
  module _ (p : ℕ) (up : parent_of s at ≡ Some p) where
    pub gr_high : height_of s p ≡ height_of s at + 1
    gr_high = g.shape.heights at p up

    pub gr_block : IsSome (block_value s p)
    gr_block = block_from_height (entry s p) (omega (arith, gr_high))

    pub gr_low : height_of s p ≤ height_of s root
    gr_low = g.shape.low p (block_live (entry s p) gr_block)

    pub gr_child : times (kids_of s p) at ≡ 1
    gr_child = g.shape.forest.child_once p at ∙ points_at (parent_of s at) p up

    -- the place beside a child, found by its number
    pub gr_place : (i : ℕ) → slice_get (kids_of s p) i ≡ Some at → insert (kids_of s p) (i + step) new ≡ ed (kids_of s p)
    gr_place i h = E.places (kids_of s p) i h (omega (arith, gr_child))

    module _ (measure : Measure L S) (sums : SumsBut measure s (parent_of s at)) where
      pub gr_fits : total (length_of measure s) (ed (kids_of s p)) ≤ total (length_of measure s) s.leaves
      gr_fits =
          let f : ℕ → ℕ = length_of measure s in
          let gap : height_of s root - height_of s at ≡ (height_of s root - height_of s p) + 1 = omega (arith, gr_high, gr_low) in
          let level : below s (height_of s root - height_of s at) (root ∷ []) ≡ flat_map (kids_of s) (below s (height_of s root - height_of s p) (root ∷ [])) =
          ap (λ (n : ℕ). below s n (root ∷ [])) gap ∙ sym (below-below s 1 (height_of s root - height_of s p) (root ∷ [])) in
          let there : 1 ≤ times (below s (height_of s root - height_of s p) (root ∷ [])) p =
          on_level s root (Some new) g.shape (height_of s root - height_of s p) p (block_live (entry s p) gr_block) (λ y h e. let q : new ≡ y = cc e in
          omega (arith, h, ap (height_of s) q, g.level, gr_high)) (omega (arith, gr_low)) in
          let part : total f (ed (kids_of s p)) ≤ total f (flat_map (λ x. ed (kids_of s x)) (below s (height_of s root - height_of s p) (root ∷ []))) =
          total_part f (λ x. ed (kids_of s x)) (below s (height_of s root - height_of s p) (root ∷ [])) p there in
          let e : flat_map (λ x. ed (kids_of s x)) (below s (height_of s root - height_of s p) (root ∷ [])) ≡ ed
          (below s (height_of s root - height_of s at) (root ∷ [])) =
          sym (edit-flat_map step ed at new E (kids_of s) (below s (height_of s root - height_of s p) (root ∷ []))) ∙ ap ed (sym level) in
          let high : AllHigh s (height_of s at) (ed (below s (height_of s root - height_of s at) (root ∷ []))) =
          λ x m. elim (edit_member step ed at new E (below s (height_of s root - height_of s at) (root ∷ [])) x m) [
            | inl l ↦ omega (
              arith,
              below_high s (height_of s root - height_of s at) (height_of s root) (root ∷ []) (steps_down s root (Some new) g.shape)
                  (root_high s root) x l,
              gr_high,
              gr_low,
            )
            | inr q ↦ ap (height_of s) q ∙ g.level
          ] in
          let sum = total_below_up_to measure s root (Some new) g.shape (height_of s at) (ed (below s (height_of s root - height_of s at) (root ∷ [])))
          (λ b i l. sums b i (λ q. let c : p ≡ b = cc (q, up) in omega (arith, l, ap (height_of s) c, gr_high))) high in
          omega (arith, part, ap (total f) e, sum, ap (total f) g.leaves)

-- under the root the two stand side by side
pub gr_root_fits : {L S : Type 0} (measure : Measure L S) (s : Forest L (Headed S)) (root new : ℕ) → IsGrowing s root root new (λ xs. insert_after xs root new)
    → SumsBut measure s (parent_of s root) → length_of measure s root + length_of measure s new ≤ total (length_of measure s) s.leaves
gr_root_fits measure s root new g sums =
    let gap : height_of s root - height_of s root ≡ 0 = omega arith in
    let there : insert_after (below s (height_of s root - height_of s root) (root ∷ [])) root new ≡ root ∷ new ∷ [] =
    ap (λ (n : ℕ). insert_after (below s n (root ∷ [])) root new) gap ∙ insert_after_head [] root new in
    let high : AllHigh s (height_of s root) (root ∷ new ∷ []) = λ x m. elim (cases_eq root x) [
      | inl e ↦ ap (height_of s) (sym e)
      | inr d ↦ elim (cases_eq new x) [ inl e ↦ ap (height_of s) (sym e) ∙ g.level | inr k ↦ absurd (omega (arith, same_other root x d, same_other new x k)) ]
    ] in
    let sum = total_below_up_to measure s root (Some new) g.shape (height_of s root) (root ∷ new ∷ []) (λ b i l. sums b i (λ q. cc (q, g.shape.root_is_top))) high in
    omega (arith, sum, ap (total (length_of measure s)) (g.leaves ∙ ap (below s (height_of s root)) there))
