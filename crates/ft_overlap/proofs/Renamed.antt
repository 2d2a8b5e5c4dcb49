-- What a block that is named anew leaves.
use Rattle.std.proofs.Common.{◌≡◌, ℕ, List, map, Option, Some, None, sym, ap, subst, ◌∙◌, inl, inr}
use Rattle.std.proofs.lemmas.Bool.{cases_eq}
use Rattle.ft_arena.specs.Forest.{block_value, kids_of, leaf_value, with_block}
use Rattle.ft_shape.specs.declared.headed.Headed.{Headed}
use Rattle.ft_shape.specs.Told.{sum_of, told, KeepsBut, Retells}
use Rattle.ft_shape.proofs.ToldLemmas.{written_block, written_others}
use Rattle.ft_overlap.specs.declared.items.Item.{Item}
use Rattle.ft_overlap.specs.declared.items.Span.{Span}
use Rattle.ft_overlap.specs.Inside.{Nodes, either_named, span_last, named_by, NamesOne, IsSpan, EndsKnown}
use Rattle.ft_overlap.proofs.Named.{told_from}

module _ (Knows : ℕ → Type 0) (s : Nodes) (known : EndsKnown Knows s) where
  -- who is named by one of these nodes has a known end
  pub one_known : (xs : List ℕ) (v : Item) → NamesOne v (map (told s) xs) → Knows v.end
  one_known xs v o = let r = told_from (told s) xs o.0 o.1 in known r.0 v (ap named_by r.2 ∙ o.2)

  block_names : (o : Option Item) (v x : Item) → o ≡ None → either_named o (Some v) ≡ Some x → v ≡ x
  block_names None v x e h = cc
  block_names (Some y) v x e h = cc

  pub renamed_known : (b : ℕ) (v w : Headed Span) → block_value s b ≡ Some v → leaf_value (with_block s b w) b ≡ None → Knows w.sum.last.end → EndsKnown Knows
      (with_block s b w)
  renamed_known b v w is no_leaf k id x e = elim (cases_eq id b) [
    | inl q ↦
        let here : either_named (leaf_value (with_block s b w) b) (Some w.sum.last) ≡ Some x =
        ap (λ o. either_named (leaf_value (with_block s b w) b) (span_last (sum_of o))) (sym (written_block IsSpan s b v w is)) ∙ ap (λ (z : ℕ). named_by (told
        (with_block s b w) z)) (sym q) ∙ e in
        subst (λ (y : Item). Knows y.end) (block_names (leaf_value (with_block s b w) b) w.sum.last x no_leaf here) k
    | inr d ↦ known id x (ap named_by (sym (written_others IsSpan s b v w is id d)) ∙ e)
  ]

-- where a block was right already, and nothing was written, all are right
pub stays_right : (R : Span → List (Option Item × Option Span) → Type 0) (s s' : Nodes) (b : ℕ) → s' ≡ s → Retells R s s' b
    → KeepsBut R s (Some b) → KeepsBut R s' None
stays_right R s s' b same u keeps k v e d = elim (cases_eq k b) [
  | inl q ↦ subst (λ (z : ℕ). R v.sum (map (told s') (kids_of s' z))) (sym q) (u.right v (ap (block_value s') (sym q) ∙ e))
  | inr n ↦ subst (λ (z : Nodes). block_value z k ≡ Some v → R v.sum (map (told z) (kids_of z k))) (sym same)
      (λ c. keeps k v c (λ x. let y : k ≡ b = cc x in n y)) e
]
