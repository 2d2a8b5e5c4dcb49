-- From a block that was named anew to the one above it.
use Rattle.std.proofs.Common.{◌≡◌, ℕ, ◌+◌, ◌-◌, ◌<◌, ◌≤◌, length, Option, Some, None, IsSome, sym, ap, ◌∙◌, inl, inr, arith}
use Rattle.std.proofs.lemmas.Bool.{cases_lt}
use Rattle.ft_arena.specs.Ids.{times}
use Rattle.ft_arena.specs.Forest.{Forest, entry, kids_of, parent_of, block_value}
use Rattle.ft_shape.specs.declared.headed.Headed.{Headed}
use Rattle.ft_shape.specs.Tree.{IsShape, IsPartTree, height_of}
use Rattle.ft_shape.specs.Steps.{SameShape}
use Rattle.ft_shape.proofs.Levels.{steps_down, block_from_height}
use Rattle.ft_shape.proofs.KindLemmas.{kind_height, kind_block, block_live}
use Rattle.ft_shape.proofs.RefreshLemmas.{SameShape-shape}

module _ {L S : Type 0} where
  -- no block is its own child
  pub apart_from_own : (s : Forest L (Headed S)) (root : ℕ) (extra short : Option ℕ) → IsShape s root extra short → (b : ℕ) → times (kids_of s b) b ≡ 0
  apart_from_own s root extra short t b = elim (cases_lt 0 (times (kids_of s b) b)) [
    | inl l ↦ absurd (omega (arith, steps_down s root extra t b b (omega arith)))
    | inr z ↦ omega arith
  ]

  -- how many levels there are from here up
  abbrev pub levels_left : Forest L (Headed S) → ℕ → Option ℕ → ℕ
  levels_left s root None = 0
  levels_left s root (Some b) = (height_of s root + 1) - height_of s b

  module _ (s : Forest L (Headed S)) (root : ℕ) (extra short : Option ℕ) (t : IsPartTree s root extra short) (b : ℕ) where
    pub no_own_child : times (kids_of s b) b ≡ 0
    no_own_child = apart_from_own s root extra short t.shape b

    module _ (s' : Forest L (Headed S)) (r : SameShape s s') (block : IsSome (block_value s b)) where
      up_shape : IsShape s' root extra short
      up_shape = SameShape-shape s s' root extra short t.shape r

      up_high : (x : ℕ) → height_of s' x ≡ height_of s x
      up_high x = kind_height (entry s x) (entry s' x) (r.kinds x)

      pub up_block : (next : Option ℕ) → next ≡ parent_of s' b → (p : ℕ) → next ≡ Some p → IsSome (block_value s' p)
      up_block next is p e = block_from_height (entry s' p) (omega (arith, up_shape.heights b p (sym is ∙ e)))

      up_left : (next : Option ℕ) → next ≡ parent_of s' b → levels_left s' root next ≤ height_of s root - height_of s b
      up_left None e = omega arith
      up_left (Some p) e = omega (arith, up_high root, up_high b, up_shape.heights b p (sym e))

      pub up_less : (at next : Option ℕ) → at ≡ Some b → next ≡ parent_of s' b → levels_left s' root next < levels_left s root at
      up_less at next is up =
          let here : levels_left s root at ≡ (height_of s root + 1) - height_of s b = ap (levels_left s root) is in
          omega (arith, here, t.shape.low b (block_live (entry s b) block), up_left next up)

      pub up_filled : ((x : ℕ) → IsSome (block_value s x) → 1 ≤ length (kids_of s x)) → (x : ℕ) → IsSome (block_value s' x) → 1 ≤ length (kids_of s' x)
      up_filled filled x h = omega (arith, ap length (r.kids x), filled x (kind_block (entry s' x) (entry s x) (sym (r.kinds x)) h))
