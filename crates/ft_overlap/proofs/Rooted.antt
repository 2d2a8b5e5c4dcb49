-- A new root over the old one and another node.
use Rattle.std.proofs.Common.{◌≡◌, ℕ, List, [], Option, Some, None, sym, ap, subst, ◌∙◌, inl, inr}
use Rattle.std.proofs.lemmas.Bool.{cases_eq}
use Rattle.ft_arena.specs.declared.nodes.Node.TheVariants.{Block}
use Rattle.ft_arena.specs.Forest.{Entry, Changes, leaf_value, block_value, leaf_of_entry, block_of_entry}
use Rattle.ft_shape.specs.declared.headed.Headed.{Headed}
use Rattle.ft_shape.specs.Told.{sum_of, told, Retells}
use Rattle.ft_shape.proofs.ToldLemmas.{told_from_values}
use Rattle.ft_overlap.specs.declared.items.Item.{Item}
use Rattle.ft_overlap.specs.declared.items.Span.{Span}
use Rattle.ft_overlap.specs.Inside.{Nodes, either_named, span_last, named_by, EndsKnown}

-- a new block that names an item with a known end leaves known what is
pub added_known : (Knows : ℕ → Type 0) (s s' : Nodes) (top : ℕ) (w : Headed Span)
    → Changes s s' top (Some record { node = Block [] w; parent = None }) → Knows w.sum.last.end
    → EndsKnown Knows s → EndsKnown Knows s'
added_known Knows s s' top w c k known x v e = elim (cases_eq x top) [
  | inl q ↦
      let here : Some w.sum.last ≡ Some v =
      sym (ap (λ (o : Option (Entry Item (Headed Span))). either_named (leaf_of_entry o) (span_last (sum_of (block_of_entry o))))
      c.changed) ∙ ap (λ (z : ℕ). named_by (told s' z)) (sym q) ∙ e in
      let is : w.sum.last ≡ v = cc here in
      subst (λ (z : Item). Knows z.end) is k
  | inr d ↦ known x v (sym (ap (λ (o : Option (Entry Item (Headed Span))). either_named (leaf_of_entry o) (span_last (sum_of (block_of_entry o)))) (c.others x d)) ∙ e)
]

-- a new root that was named anew names what is right, and the others tell what they told
pub rooted_tells : (R : Span → List (Option Item × Option Span) → Type 0) (s s1 s2 s3 s4 : Nodes) (top : ℕ)
    (z : Option (Entry Item (Headed Span))) → Changes s s1 top z
    → ((x : ℕ) → leaf_value s2 x ≡ leaf_value s1 x) → ((x : ℕ) → block_value s2 x ≡ block_value s1 x)
    → ((x : ℕ) → leaf_value s3 x ≡ leaf_value s2 x) → ((x : ℕ) → block_value s3 x ≡ block_value s2 x) → Retells R s3 s4 top → Retells R s s4 top
rooted_tells R s s1 s2 s3 s4 top z c l2 b2 l3 b3 u =
    record {
      others = λ x d. u.others x d ∙ told_from_values s2 s3 x (l3 x) (b3 x) ∙ told_from_values s1 s2 x (l2 x) (b2 x)
          ∙ ap (λ (o : Option (Entry Item (Headed Span))). (leaf_of_entry o, sum_of (block_of_entry o))) (c.others x d);
      right = u.right;
    }
