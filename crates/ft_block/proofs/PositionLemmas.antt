-- What stands before a number of a list, along the list and level by level.
use Rattle.std.proofs.Common.{◌≡◌, ◌≢◌, ℕ, suc, ◌+◌, ◌-◌, ◌≤◌, List, [], ◌∷◌, ◌++◌, Option, Some, None, IsSome, refl, sym, ap, subst, ◌∙◌, inl, inr, arith}
use Rattle.std.proofs.Common.{eqb, append_assoc}
use Rattle.std.proofs.lemmas.Bool.{cases_eq, cases_lt, cond-true, cond-false, eq-eqb, ne_eqb}
use Rattle.std.specs.List.{flat_map}
use Rattle.ft_arena.specs.Ids.{same, times, points, first, after}
use Rattle.ft_arena.specs.Forest.{Forest, IsForest, entry, kids_of, parent_of, block_value}
use Rattle.ft_arena.proofs.IdLemmas.{same_refl, same_other}
use Rattle.ft_shape.specs.declared.headed.Headed.{Headed}
use Rattle.ft_block.specs.declared.summaries.Summary.{Summary}
use Rattle.ft_shape.specs.Tree.{total, seek, numbers_before, up_to, Measure, IsTree, SumsBut, height_of, length_of, below}
use Rattle.ft_shape.proofs.Lists.{total-append, seek_here, seek_later}
use Rattle.ft_shape.proofs.Levels.{AllHigh, points_some, points_at, live_from_parent, block_from_height, steps_down, root_high, total_kids_up_to}
use Rattle.ft_shape.proofs.LevelLemmas.{below-below, below_high}
use Rattle.ft_shape.proofs.EditLemmas.{some_of}
use Rattle.ft_shape.proofs.KindLemmas.{block_live}
use Rattle.ft_shape.proofs.FitLemmas.{on_level}

pub before_here : (x : ℕ) (xs : List ℕ) → numbers_before (x ∷ xs) x ≡ []
before_here x xs = cond-true (eqb x x) _ _ (eq-eqb x x refl)

pub before_later : (y : ℕ) (xs : List ℕ) (x : ℕ) → y ≢ x → numbers_before (y ∷ xs) x ≡ y ∷ numbers_before xs x
before_later y xs x d = cond-false (eqb y x) _ _ (ne_eqb y x d)

pub total-before_le : (f : ℕ → ℕ) (xs : List ℕ) (x : ℕ) → total f (numbers_before xs x) ≤ total f xs
total-before_le f [] x = omega arith
total-before_le f (y ∷ ys) x = elim (cases_eq y x) [
  | inl e ↦ subst (λ (z : ℕ). total f (numbers_before (y ∷ ys) z) ≤ total f (y ∷ ys)) e (omega (arith, ap (total f) (before_here y ys)))
  | inr d ↦ omega (arith, ap (total f) (before_later y ys x d), total-before_le f ys x)
]

pub times-before_le : (xs : List ℕ) (x z : ℕ) → times (numbers_before xs x) z ≤ times xs z
times-before_le [] x z = omega arith
times-before_le (y ∷ ys) x z = elim (cases_eq y x) [
  | inl e ↦ subst (λ (w : ℕ). times (numbers_before (y ∷ ys) w) z ≤ times (y ∷ ys) z) e (omega (arith, ap (λ zs. times zs z) (before_here y ys)))
  | inr d ↦ omega (arith, ap (λ zs. times zs z) (before_later y ys x d), times-before_le ys x z)
]

before-append_in : (xs ys : List ℕ) (x : ℕ) → 1 ≤ times xs x → numbers_before (xs ++ ys) x ≡ numbers_before xs x
before-append_in [] ys x m = absurd (omega arith)
before-append_in (z ∷ zs) ys x m = elim (cases_eq z x) [
  | inl e ↦ subst (λ (w : ℕ). numbers_before (z ∷ (zs ++ ys)) w ≡ numbers_before (z ∷ zs) w) e (before_here z (zs ++ ys) ∙ sym (before_here z zs))
  | inr d ↦ before_later z (zs ++ ys) x d ∙ ap (λ ws. z ∷ ws) (before-append_in zs ys x (omega (arith, same_other z x d))) ∙ sym (before_later z zs x d)
]

pub before-append_out : (xs ys : List ℕ) (x : ℕ) → times xs x ≡ 0 → numbers_before (xs ++ ys) x ≡ xs ++ numbers_before ys x
before-append_out [] ys x m = refl
before-append_out (z ∷ zs) ys x m =
    let d : z ≢ x = (λ e. omega (arith, m, ap (same z) e, same_refl z)) in
    before_later z (zs ++ ys) x d ∙ ap (λ ws. z ∷ ws) (before-append_out zs ys x (omega arith))

-- before a child on its level stand the children of the blocks before its block, then those before it in its block
pub before-flat_map : (k : ℕ → List ℕ) (xs : List ℕ) (p x : ℕ) → 1 ≤ times xs p → 1 ≤ times (k p) x → ((y : ℕ) → y ≢ p → times (k y) x ≡ 0)
    → numbers_before (flat_map k xs) x ≡ flat_map k (numbers_before xs p) ++ numbers_before (k p) x
before-flat_map k [] p x m n o = absurd (omega arith)
before-flat_map k (y ∷ ys) p x m n o = elim (cases_eq y p) [
  | inl e ↦
      let n' : 1 ≤ times (k y) x = subst (λ (z : ℕ). 1 ≤ times (k z) x) (sym e) n in
      subst (λ (w : ℕ). numbers_before (flat_map k (y ∷ ys)) x ≡ flat_map k (numbers_before (y ∷ ys) w) ++ numbers_before (k w) x) e (before-append_in (k y) (flat_map k ys) x n'
      ∙ sym (ap (λ ws. flat_map k ws ++ numbers_before (k y) x) (before_here y ys)))
  | inr d ↦
      before-append_out (k y) (flat_map k ys) x (o y d) ∙ ap (λ ws. k y ++ ws) (before-flat_map k ys p x (omega (arith, same_other y p d)) n o)
      ∙ sym (append_assoc (k y) (flat_map k (numbers_before ys p)) (numbers_before (k p) x)) ∙ sym (ap (λ ws. flat_map k ws ++ numbers_before (k p) x) (before_later y ys p d))
]

-- a block's child is live
pub forest_kid_live : {L : Type 0} (s : Forest L (Headed Summary)) (b k : ℕ) → IsForest s → 1 ≤ times (kids_of s b) k → IsSome (entry s k)
forest_kid_live s b k f m = live_from_parent (entry s k) b (points_some (parent_of s k) b (omega (arith, m, f.child_once b k)))

module _ {L : Type 0} (measure : Measure L Summary) (s : Forest L (Headed Summary)) (root : ℕ) (t : IsTree s root)
    (sums : SumsBut measure s None) (at p : ℕ) (up : parent_of s at ≡ Some p) where
  po_high : height_of s p ≡ height_of s at + 1
  po_high = t.shape.heights at p up

  pub po_block : IsSome (block_value s p)
  po_block = block_from_height (entry s p) (omega (arith, po_high))

  pub po_low : height_of s p ≤ height_of s root
  po_low = t.shape.low p (block_live (entry s p) po_block)

  pub po_child : 1 ≤ times (kids_of s p) at
  po_child = omega (arith, t.shape.forest.child_once p at, points_at (parent_of s at) p up)

  po_elsewhere : (y : ℕ) → y ≢ p → times (kids_of s y) at ≡ 0
  po_elsewhere y d = t.shape.forest.child_once y at ∙ ap (λ o. points o y) up ∙ same_other p y (λ e. d (sym e))

  -- one level up, what stands before the node is what stands before its block, and the children before it
  pub before_up : total (length_of measure s) (numbers_before (below s (height_of s root - height_of s at) (root ∷ [])) at) ≡ total (length_of measure s)
      (numbers_before (below s (height_of s root - height_of s p) (root ∷ [])) p) + total (length_of measure s) (numbers_before (kids_of s p) at)
  before_up =
      let f : ℕ → ℕ = length_of measure s in
      let e : height_of s root - height_of s at ≡ height_of s root - height_of s p + 1 = omega (arith, po_high, po_low) in
      let level : below s (height_of s root - height_of s at) (root ∷ []) ≡ flat_map (kids_of s) (below s (height_of s root - height_of s p) (root ∷ [])) =
      ap (λ (n : ℕ). below s n (root ∷ [])) e ∙ sym (below-below s 1 (height_of s root - height_of s p) (root ∷ [])) in
      let there : 1 ≤ times (below s (height_of s root - height_of s p) (root ∷ [])) p =
      on_level s root None t.shape (height_of s root - height_of s p) p (block_live (entry s p) po_block) (λ y k e. cc e) (omega (arith, po_low)) in
      let high : AllHigh s (suc (height_of s at)) (numbers_before (below s (height_of s root - height_of s p) (root ∷ [])) p) =
      λ x m. omega (
        arith,
        below_high s (height_of s root - height_of s p) (height_of s root) (root ∷ []) (steps_down s root None t.shape) (root_high s root) x
            (omega (arith, m, times-before_le (below s (height_of s root - height_of s p) (root ∷ [])) p x)),
        po_high,
        po_low,
      ) in
      let parts : numbers_before (flat_map (kids_of s) (below s (height_of s root - height_of s p) (root ∷ []))) at ≡ flat_map (kids_of s)
      (numbers_before (below s (height_of s root - height_of s p) (root ∷ [])) p) ++ numbers_before (kids_of s p) at =
      before-flat_map (kids_of s) (below s (height_of s root - height_of s p) (root ∷ [])) p at there po_child po_elsewhere in
      let kids : total f (flat_map (kids_of s) (numbers_before (below s (height_of s root - height_of s p) (root ∷ [])) p)) ≡ total f
      (numbers_before (below s (height_of s root - height_of s p) (root ∷ [])) p) =
      total_kids_up_to measure s root None t.shape (height_of s at) (numbers_before (below s (height_of s root - height_of s p) (root ∷ [])) p)
      (λ b h _. sums b h (λ q. cc)) high in
      omega (
        arith,
        ap (λ zs. total f (numbers_before zs at)) level,
        ap (total f) parts,
        total-append f
            (flat_map (kids_of s) (numbers_before (below s (height_of s root - height_of s p) (root ∷ [])) p)) (numbers_before (kids_of s p) at),
        kids,
      )

-- before the root stands nothing on its level
pub before_top : {L : Type 0} (measure : Measure L Summary) (s : Forest L (Headed Summary)) (root : ℕ) → IsTree s root → (at : ℕ)
    → IsSome (entry s at) → parent_of s at ≡ None
    → total (length_of measure s) (numbers_before (below s (height_of s root - height_of s at) (root ∷ [])) at) ≡ 0
before_top measure s root t at live top = elim (cases_eq at root) [
  | inl e ↦
      let gap : height_of s root - height_of s root ≡ 0 = omega arith in
      let here : total (length_of measure s) (numbers_before (below s (height_of s root - height_of s root) (root ∷ [])) root) ≡ 0 =
      ap (λ (n : ℕ). total (length_of measure s) (numbers_before (below s n (root ∷ [])) root)) gap ∙ ap (total (length_of measure s)) (before_here root []) in
      subst (λ (z : ℕ). total (length_of measure s) (numbers_before (below s (height_of s root - height_of s z) (root ∷ [])) z) ≡ 0) (sym e) here
  | inr d ↦ absurd (let b = some_of (parent_of s at) (t.shape.one_top at live d (λ e. cc e)) in cc (b.1, top))
]

after_here : (x : ℕ) (xs : List ℕ) → after (x ∷ xs) x ≡ first xs
after_here x xs = cond-true (eqb x x) _ _ (eq-eqb x x refl)

after_later : (y : ℕ) (xs : List ℕ) (x : ℕ) → y ≢ x → after (y ∷ xs) x ≡ after xs x
after_later y xs x d = cond-false (eqb y x) _ _ (ne_eqb y x d)

pub first_in : (xs : List ℕ) (x : ℕ) → first xs ≡ Some x → 1 ≤ times xs x
first_in [] x e = cc
first_in (y ∷ ys) x e = let q : y ≡ x = cc in subst (λ (z : ℕ). 1 ≤ times (y ∷ ys) z) q (omega (arith, same_refl y))

pub after_in : (xs : List ℕ) (x z : ℕ) → after xs x ≡ Some z → 1 ≤ times xs z
after_in [] x z e = cc
after_in (y ∷ ys) x z e = elim (cases_eq y x) [
  | inl q ↦ omega (arith, first_in ys z (sym (after_here y ys) ∙ ap (after (y ∷ ys)) q ∙ e))
  | inr d ↦ omega (arith, after_in ys x z (sym (after_later y ys x d) ∙ e))
]

pub total-up_to_le : (f : ℕ → ℕ) (xs : List ℕ) (end : Option ℕ) → total f (up_to xs end) ≤ total f xs
total-up_to_le f xs None = omega arith
total-up_to_le f xs (Some x) = total-before_le f xs x

pub times-up_to_le : (xs : List ℕ) (end : Option ℕ) (z : ℕ) → times (up_to xs end) z ≤ times xs z
times-up_to_le xs None z = omega arith
times-up_to_le xs (Some x) z = times-before_le xs x z

seek-before : (f : ℕ → ℕ) (xs : List ℕ) (x p : ℕ) → 1 ≤ p → p ≤ total f (numbers_before xs x) → seek f xs p ≡ seek f (numbers_before xs x) p
seek-before f [] x p l h = refl
seek-before f (y ∷ ys) x p l h = elim (cases_eq y x) [
  | inl e ↦ absurd (omega (arith, h, l, ap (total f) (subst (λ (z : ℕ). numbers_before (y ∷ ys) z ≡ []) e (before_here y ys))))
  | inr d ↦
      let here : numbers_before (y ∷ ys) x ≡ y ∷ numbers_before ys x = before_later y ys x d in
      let fits : p ≤ f y + total f (numbers_before ys x) = omega (arith, h, ap (total f) here) in
      elim (cases_lt (f y) p) [
        | inl q ↦ seek_later f y ys p q ∙ seek-before f ys x (p - f y) (omega arith) (omega (arith, fits)) ∙ sym (seek_later f y (numbers_before ys x) p q)
            ∙ sym (ap (λ zs. seek f zs p) here)
        | inr q ↦ seek_here f y ys p q ∙ sym (seek_here f y (numbers_before ys x) p q) ∙ sym (ap (λ zs. seek f zs p) here)
      ]
]

-- a place that lies in the front part is found there
pub seek-up_to : (f : ℕ → ℕ) (xs : List ℕ) (end : Option ℕ) (p : ℕ) → 1 ≤ p → p ≤ total f (up_to xs end) → seek f xs p ≡ seek f (up_to xs end) p
seek-up_to f xs None p l h = refl
seek-up_to f xs (Some x) p l h = seek-before f xs x p l h
