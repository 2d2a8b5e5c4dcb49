-- A tree from which a leaf was taken, which stands elsewhere in the list now, is to be put in there.
use Rattle.std.proofs.Common.{◌≡◌, ◌≢◌, ℕ, zero, suc, ◌+◌, ◌-◌, ◌≤◌, List, [], ◌∷◌, length, Option, Some, None, IsSome, refl, sym, ap, subst, ◌∙◌, inl, inr, arith, eqb}
use Rattle.std.proofs.lemmas.Bool.{cases_eq, cond-true, cond-false, eq-eqb, ne_eqb}
use Rattle.std.specs.List.{flat_map}
use Rattle.ft_arena.specs.Ids.{same, times, insert_after, put_after, without, first, after}
use Rattle.ft_arena.specs.Forest.{Forest, Entry, IsForest, IsPlace, entry, kids_of, parent_of, block_value, leaf_value, count_some}
use Rattle.ft_arena.proofs.IdLemmas.{same_refl, same_other, insert_after_none, times-without_other}
use Rattle.ft_arena.proofs.ArenaLemmas.{count_some_le}
use Rattle.ft_arena.proofs.RingLemmas.{insert_after_later, without_here, without_later}
use Rattle.ft_shape.proofs.EditLemmas.{total_same, insert_after_head, after_is_edit}
use Rattle.ft_shape.specs.declared.headed.Headed.{Headed}
use Rattle.ft_block.proofs.PositionLemmas.{after_in}
use Rattle.ft_shape.proofs.UnlinkLemmas.{more_after}
use Rattle.ft_block.specs.declared.summaries.Summary.{Summary}
use Rattle.ft_shape.specs.Tree.{total, height_of, Measure, length_of, length_of_entry, below, IsShape, IsApart, IsGrowing, IsEdit, SumsBut, OwesAbove}
use Rattle.ft_block.specs.Tree.{AreFromFloor}
use Rattle.ft_shape.proofs.Levels.{points_at, block_from_height}
use Rattle.ft_shape.proofs.FitLemmas.{leaf_length}
use Rattle.ft_shape.proofs.InsertLemmas.{leaf_height, leaf_live}
use Rattle.ft_shape.proofs.WithoutLemmas.{without_apart, total-without, times-without_le}

counted : {L : Type 0} (o : Option L) → IsSome o → count_some o ≡ 1
counted None h = cc
counted (Some v) h = refl

-- what stands after the head is the first of the rest
pub after_first : (x : ℕ) (ys : List ℕ) → after (x ∷ ys) x ≡ first ys
after_first x ys = cond-true (eqb x x) _ _ (eq-eqb x x refl)

pub without_le : {L : Type 0} (s : Forest L (Headed Summary)) → IsForest s → (x : ℕ) → times s.leaves x ≤ 1
without_le s f x = omega (arith, f.leaf_once x, count_some_le (leaf_value s x))

pub without_once : {L : Type 0} (s : Forest L (Headed Summary)) → IsForest s → (id x : ℕ) → times (without s.leaves id) x ≤ 1
without_once s f id x = omega (arith, times-without_le s.leaves id x, without_le s f x)

-- of two or more one is left
pub without_some : (xs : List ℕ) (x : ℕ) → 2 ≤ length xs → times xs x ≤ 1 → first (without xs x) ≡ None → ⊥
without_some [] x h o e = omega (arith, h)
without_some (y ∷ []) x h o e = omega (arith, h)
without_some (y ∷ z ∷ zs) x h o e = elim (cases_eq y x) [
  | inl q ↦
      let d : z ≢ x = (λ c. omega (arith, o, ap (λ w. same w x) q, ap (λ w. same w x) c, same_refl x)) in
      let a : without (y ∷ z ∷ zs) x ≡ z ∷ without zs x = ap (λ w. without (w ∷ z ∷ zs) x) q ∙ without_here (z ∷ zs) x ∙ without_later z zs x d in
      let b : Some z ≡ None = sym (ap first a) ∙ e in
      cc b
  | inr d ↦
      let a : without (y ∷ z ∷ zs) x ≡ y ∷ without (z ∷ zs) x = without_later y (z ∷ zs) x d in
      let b : Some y ≡ None = sym (ap first a) ∙ e in
      cc b
]

-- what stands directly after another, or first, stays where it is put there again
pub stays_after : (xs : List ℕ) (p x : ℕ) → after xs p ≡ Some x → ((z : ℕ) → times xs z ≤ 1) → insert_after (without xs x) p x ≡ xs
stays_after [] p x e o = cc e
stays_after (y ∷ []) p x e o = absurd (omega (arith, more_after (y ∷ []) p x e))
stays_after (y ∷ z ∷ zs) p x e o = elim (cases_eq y p) [
  | inl q ↦
      let h : Some z ≡ Some x = sym (after_first y (z ∷ zs)) ∙ ap (after (y ∷ z ∷ zs)) q ∙ e in
      let b : z ≡ x = cc h in
      let d : y ≢ x = (λ c. omega (arith, o y, same_refl y, ap (λ w. same w y) (b ∙ sym c))) in
      let nox : times zs x ≡ 0 = omega (arith, o x, ap (λ w. same w x) b, same_refl x) in
      let nop : times zs p ≡ 0 = omega (arith, o p, ap (λ w. same w p) q, same_refl p) in
      let out : without (y ∷ z ∷ zs) x ≡ y ∷ zs = without_later y (z ∷ zs) x d ∙ ap (λ ws. y ∷ ws) (ap (λ w. without (w ∷ zs) x) b ∙ without_here zs x ∙ without_apart zs x nox) in
      ap (λ ws. insert_after ws p x) out ∙ ap (λ w. insert_after (w ∷ zs) p x) q ∙ insert_after_head zs p x ∙ ap (λ ws. p ∷ x ∷ ws) (insert_after_none zs p x nop)
      ∙ ap (λ w. w ∷ x ∷ zs) (sym q) ∙ ap (λ w. y ∷ w ∷ zs) (sym b)
  | inr n ↦
      let later : after (z ∷ zs) p ≡ Some x = sym (cond-false (eqb y p) _ _ (ne_eqb y p n)) ∙ e in
      let d : y ≢ x = (λ c. omega (arith, o x, ap (λ w. same w x) c, same_refl x, after_in (z ∷ zs) p x later)) in
      ap (λ ws. insert_after ws p x) (without_later y (z ∷ zs) x d) ∙ insert_after_later y (without (z ∷ zs) x) p x n
      ∙ ap (λ ws. y ∷ ws) (stays_after (z ∷ zs) p x later (λ w. omega (arith, o w)))
]

pub stays_first : (xs : List ℕ) (x : ℕ) → Some x ≡ first xs → ((z : ℕ) → times xs z ≤ 1) → x ∷ without xs x ≡ xs
stays_first [] x e o = cc e
stays_first (y ∷ ys) x e o =
    let q : x ≡ y = cc e in
    let none : times ys x ≡ 0 = omega (arith, o x, ap (λ w. same w x) (sym q), same_refl x) in
    ap (λ ws. x ∷ ws) (ap (λ w. without (w ∷ ys) x) (sym q) ∙ without_here ys x ∙ without_apart ys x none) ∙ ap (λ w. w ∷ ys) q

pub two_members : (xs : List ℕ) (x y : ℕ) → x ≢ y → 1 ≤ times xs x → 1 ≤ times xs y → 2 ≤ length xs
two_members [] x y d m n = absurd (omega arith)
two_members (z ∷ []) x y d m n = elim (cases_eq z x) [
  | inl q ↦ absurd (omega (arith, n, ap (λ w. same w y) q, same_other x y d))
  | inr k ↦ absurd (omega (arith, m, same_other z x k))
]
two_members (z ∷ w ∷ zs) x y d m n = omega arith

-- a list in which one is moved is as long by any measure
pub list_total : {L : Type 0} (s : Forest L (Headed Summary)) → IsForest s → (f : ℕ → ℕ) (id : ℕ) (at : Option ℕ)
    → IsSome (leaf_value s id) → IsPlace s at → at ≢ Some id
    → total f (put_after (without s.leaves id) at id) ≡ total f s.leaves
list_total s g f id None live p d = omega (arith, total-without f s.leaves id (g.leaf_once id ∙ counted (leaf_value s id) live))
list_total s g f id (Some at) live p d =
    let n : at ≢ id = (λ e. d (ap Some e)) in
    let one : times (without s.leaves id) at ≡ 1 = times-without_other s.leaves id at n ∙ g.leaf_once at ∙ counted (leaf_value s at) p in
    omega (arith, (after_is_edit at id).totals f (without s.leaves id) one, total-without f s.leaves id (g.leaf_once id ∙ counted (leaf_value s id) live))

module _ {L : Type 0} (s : Forest L (Headed Summary)) (ls : List ℕ) (n : ℕ) where
  -- the same nodes with another list
  abbrev relisted : Forest L (Headed Summary)
  relisted = record { leaves = ls; nodes = s.nodes; spare = n }

  rl_below : (j : ℕ) (xs : List ℕ) → below relisted j xs ≡ below s j xs
  rl_below zero xs = refl
  rl_below (suc j) xs = rl_below j (flat_map (kids_of s) xs)

  rl_shape : (root : ℕ) (extra short : Option ℕ) → IsForest relisted → IsShape s root extra short → IsShape relisted root extra short
  rl_shape root extra short f t =
      record {
        forest = f;
        root_is_block = t.root_is_block;
        root_is_top = t.root_is_top;
        one_top = t.one_top;
        low = t.low;
        heights = t.heights;
        high = t.high;
        half_full = t.half_full;
        root_filled = t.root_filled;
      }

-- s' has the nodes of s
module _ {L : Type 0} (s s' : Forest L (Headed Summary)) (root id at step : ℕ) (ed : List ℕ → List ℕ) (E : IsEdit step ed at id) (a : IsApart s root id None)
    (nodes : s'.nodes ≡ s.nodes) (forest : IsForest s') (leaves : s'.leaves ≡ ed (without s.leaves id)) (at_leaf : IsSome (leaf_value s at)) (differ : at ≢ id) where
  mv_is : s' ≡ record { leaves = s'.leaves; nodes = s.nodes; spare = s'.spare }
  mv_is = ap (λ ns. same_with ns) nodes
    where
      same_with : List (Option (Entry L (Headed Summary))) → Forest L (Headed Summary)
      same_with ns = record { leaves = s'.leaves; nodes = ns; spare = s'.spare }

  pub mv_entry : (x : ℕ) → entry s' x ≡ entry s x
  mv_entry x = ap (λ (z : Forest L (Headed Summary)). entry z x) mv_is

  pub mv_high : (x : ℕ) → height_of s' x ≡ height_of s x
  mv_high x = ap (λ (z : Forest L (Headed Summary)). height_of z x) mv_is

  mv_below : (j : ℕ) (xs : List ℕ) → below s' j xs ≡ below s j xs
  mv_below j xs = ap (λ (z : Forest L (Headed Summary)). below z j xs) mv_is ∙ rl_below s s'.leaves s'.spare j xs

  mv_shape : IsShape s' root (Some id) None
  mv_shape = subst (λ (z : Forest L (Headed Summary)). IsShape z root (Some id) None) (sym mv_is)
      (rl_shape s s'.leaves s'.spare root (Some id) None (subst (λ (z : Forest L (Headed Summary)). IsForest z) mv_is forest) a.shape)

  mv_at_low : height_of s at ≡ 0
  mv_at_low = leaf_height (entry s at) at_leaf

  mv_id_low : height_of s id ≡ 0
  mv_id_low = leaf_height (entry s id) a.live

  pub moved_grows : IsGrowing s' root at id ed
  moved_grows =
      record {
        shape = mv_shape;
        new_live = subst (λ (o : Option (Entry L (Headed Summary))). IsSome o) (sym (mv_entry id)) (leaf_live (entry s id) a.live);
        new_top = ap (λ (z : Forest L (Headed Summary)). parent_of z id) mv_is ∙ a.top;
        new_apart = λ e. omega (arith, a.shape.high root a.shape.root_is_block, ap (height_of s) e, mv_id_low);
        at_live = subst (λ (o : Option (Entry L (Headed Summary))). IsSome o) (sym (mv_entry at)) (leaf_live (entry s at) at_leaf);
        at_apart = differ;
        at_filled = λ h. absurd (omega (arith, h, mv_high at, mv_at_low));
        level = mv_high id ∙ mv_id_low ∙ sym (mv_high at ∙ mv_at_low);
        leaves = (
            let e : height_of s' at ≡ 0 = mv_high at ∙ mv_at_low in
            let h : height_of s root ≡ height_of s' root - height_of s' at = omega (arith, e, mv_high root) in
            leaves ∙ ap ed (a.leaves ∙ sym (mv_below (height_of s root) (root ∷ []))) ∙ ap (λ (n : ℕ). ed (below s' n (root ∷ []))) h
            ∙ ap (λ (n : ℕ). below s' n (ed (below s' (height_of s' root - height_of s' at) (root ∷ [])))) (sym e)
            );
      }

  pub moved_at_apart : at ≢ root
  moved_at_apart = λ e. omega (arith, a.shape.high root a.shape.root_is_block, ap (height_of s) e, mv_at_low)

  pub moved_floors : (floor : ℕ) → AreFromFloor floor s → AreFromFloor floor s'
  moved_floors floor all x v e = all x v (sym (ap (λ (z : Forest L (Headed Summary)). block_value z x) mv_is) ∙ e)

  pub moved_values : (x : ℕ) → leaf_value s' x ≡ leaf_value s x
  moved_values x = ap (λ (z : Forest L (Headed Summary)). leaf_value z x) mv_is

  -- the list is as long by any measure
  pub moved_total : (f : ℕ → ℕ) → times (without s.leaves id) at ≡ 1 → total f s'.leaves ≡ total f s.leaves
  moved_total f one = omega (
    arith,
    ap (total f) leaves,
    E.totals f (without s.leaves id) one,
    total-without f s.leaves id (a.shape.forest.leaf_once id
        ∙ counted (leaf_value s id) a.live),
  )

  mv_one : times (without s.leaves id) at ≡ 1
  mv_one = times-without_other s.leaves id at differ ∙ a.shape.forest.leaf_once at ∙ counted (leaf_value s at) at_leaf

  pub moved_fits : (measure : Measure L Summary) → total (length_of measure s') s'.leaves ≡ total (length_of measure s) s.leaves
  moved_fits measure = moved_total (length_of measure s') mv_one
      ∙ total_same (length_of measure s) (length_of measure s') s.leaves (λ x m. ap (length_of_entry measure) (mv_entry x))

  module _ (measure : Measure L Summary) (sums : SumsBut measure s None) where
    mv_sums : SumsBut measure s' None
    mv_sums = subst (λ (z : Forest L (Headed Summary)). SumsBut measure z None) (sym mv_is) (λ b h e. sums b h e)

    pub moved_sums : (stale : Option ℕ) → SumsBut measure s' stale
    moved_sums stale b h _ = mv_sums b h (λ e. cc)

    -- the parent owes the leaf
    pub moved_owes : (v : L) → leaf_value s id ≡ Some v → OwesAbove measure s' at ed (0 + measure.leaf v) 0
    moved_owes v is p up =
        let block : IsSome (block_value s' p) = block_from_height (entry s' p) (omega (arith, mv_shape.heights at p up)) in
        let one : times (kids_of s' p) at ≡ 1 = forest.child_once p at ∙ points_at (parent_of s' at) p up in
        omega (arith, mv_sums p block (λ e. cc), E.totals (length_of measure s') (kids_of s' p) one, leaf_length measure (entry s' id) v (moved_values id ∙ is))
