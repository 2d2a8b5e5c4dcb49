-- An item that is taken out of the tree.
use Rattle.std.proofs.Common.{◌≡◌, ◌≢◌, ℕ, ◌≤◌, length, Option, Some, None, IsSome, sym, ap, ◌∙◌, inl, inr, arith}
use Rattle.std.proofs.lemmas.Bool.{cases_eq}
use Rattle.ft_arena.specs.Forest.{Entry, entry, kids_of, block_value, leaf_of_entry, block_of_entry}
use Rattle.ft_shape.specs.declared.headed.Headed.{Headed}
use Rattle.ft_shape.specs.Tree.{IsApart}
use Rattle.ft_shape.specs.Told.{sum_of, told}
use Rattle.ft_overlap.specs.declared.items.Item.{Item}
use Rattle.ft_overlap.specs.declared.items.Span.{Span}
use Rattle.ft_overlap.specs.Inside.{Nodes, either_named, span_last, named_by, EndsKnown}

-- a node that is gone leaves known what is
pub gone_known : (Knows : ℕ → Type 0) (s s' : Nodes) (id : ℕ) → entry s' id ≡ None → ((x : ℕ) → x ≢ id → told s' x ≡ told s x)
    → EndsKnown Knows s → EndsKnown Knows s'
gone_known Knows s s' id gone same known x v e = elim (cases_eq x id) [
  | inl q ↦ absurd (
      let n : None ≡ Some v = sym (ap (λ (o : Option (Entry Item (Headed Span))). either_named (leaf_of_entry o) (span_last (sum_of (block_of_entry o)))) (ap (entry s') q ∙ gone)) ∙ e in
      cc n)
  | inr d ↦ known x v (ap named_by (sym (same x d)) ∙ e)
]

-- where no block has too few children, each has one
pub apart_filled : (s : Nodes) (root id : ℕ) → IsApart s root id None → (b : ℕ) → IsSome (block_value s b) → 1 ≤ length (kids_of s b)
apart_filled s root id a b h = elim (cases_eq b root) [
  | inl e ↦ omega (arith, a.shape.root_filled, ap (λ (z : ℕ). length (kids_of s z)) e)
  | inr d ↦ omega (arith, a.shape.half_full b h d (λ e. cc))
]
