-- A block that was split, whose halves were named anew.
use Rattle.std.proofs.Common.{◌≡◌, ◌≢◌, ℕ, ◌^◌, ◌<◌, List, [], ◌∷◌, Option, Some, None, refl, sym, ap, subst, ◌∙◌, inl, inr, arith}
use Rattle.ft_arena.specs.declared.nodes.Node.{Node}
use Rattle.ft_arena.specs.declared.nodes.Node.TheVariants.{Leaf, Block}
use Rattle.ft_arena.specs.Forest.{Entry, Changes, entry, kids_of, block_value, leaf_value, leaf_of_entry, block_of_entry}
use Rattle.ft_shape.specs.declared.headed.Headed.{Headed}
use Rattle.ft_shape.specs.Tree.{Measure, length_of, length_of_entry, length_of_node, total}
use Rattle.ft_shape.specs.Steps.{Halves, PutsInHalf, Resums}
use Rattle.ft_shape.specs.Told.{sum_of, told}
use Rattle.ft_shape.proofs.ToldLemmas.{told_from_values}
use Rattle.ft_overlap.specs.declared.items.Item.{Item}
use Rattle.ft_overlap.specs.declared.items.Span.{Span}
use Rattle.ft_overlap.specs.Inside.{Nodes, either_named, span_last, named_by, EndsKnown}
use Rattle.std.proofs.lemmas.Bool.{cases_eq}

-- where no length is kept, the laws of shapes are asked for one of zero
abbrev pub no_length : Measure Item Span
no_length = record { leaf = λ v. 0; block = λ v. 0 }

none_long : (o : Option (Entry Item (Headed Span))) → length_of_entry no_length o ≡ 0
none_long None = refl
none_long (Some e) = of_node e.node
  where
    of_node : (n : Node Item (Headed Span)) → length_of_node no_length n ≡ 0
    of_node (Leaf v) = refl
    of_node (Block ks v) = refl

none_total : (s : Nodes) (xs : List ℕ) → total (length_of no_length s) xs ≡ 0
none_total s [] = refl
none_total s (x ∷ xs) = omega (arith, none_long (entry s x), none_total s xs)

pub none_fits : (s : Nodes) (xs : List ℕ) → total (length_of no_length s) xs < 2 ^ 64
none_fits s xs = omega (arith, none_total s xs)

pub none_resums : (s s' : Nodes) (b : ℕ) → Resums no_length s s' b
none_resums s s' b =
    record { others = λ x d. none_long (entry s' x) ∙ sym (none_long (entry s x)); sum = none_long (entry s' b) ∙ sym (none_total s' (kids_of s' b)) }

-- while the children are shared out each old node tells what it told
pub halves_told : (a0 a1 a2 a3 : Nodes) (block place id rear : ℕ) (z : Option (Entry Item (Headed Span))) → Changes a0 a1 rear z
    → Halves a1 a2 block rear → PutsInHalf a2 a3 block rear place id
    → (x : ℕ) → x ≢ rear → told a3 x ≡ told a0 x
halves_told a0 a1 a2 a3 block place id rear z c1 r2 r3 x d =
    told_from_values a2 a3 x (r3.leaf_values x) (r3.block_values x) ∙ told_from_values a1 a2 x (r2.leaf_values x) (r2.block_values x)
    ∙ ap (λ (o : Option (Entry Item (Headed Span))). (leaf_of_entry o, sum_of (block_of_entry o))) (c1.others x d)

module _ (Knows : ℕ → Type 0) (a0 a1 a2 a3 : Nodes) (block place id rear : ℕ) (w : Headed Span) (c1 : Changes a0 a1 rear (Some record { node = Block [] w; parent = None }))
    (r2 : Halves a1 a2 block rear) (r3 : PutsInHalf a2 a3 block rear place id) where
  -- the new block names an item with a known end
  pub halves_known : Knows w.sum.last.end → EndsKnown Knows a0 → EndsKnown Knows a3
  halves_known k known x v e = elim (cases_eq x rear) [
    | inl q ↦
        let now : told a3 rear ≡ told a1 rear =
        told_from_values a2 a3 rear (r3.leaf_values rear) (r3.block_values rear) ∙ told_from_values a1 a2 rear (r2.leaf_values rear) (r2.block_values rear) in
        let here : Some w.sum.last ≡ Some v =
        sym (ap (λ (o : Option (Entry Item (Headed Span))). either_named (leaf_of_entry o) (span_last (sum_of (block_of_entry o)))) c1.changed)
        ∙ sym (ap named_by now) ∙ ap (λ (z : ℕ). named_by (told a3 z)) (sym q) ∙ e in
        let is : w.sum.last ≡ v = cc here in
        subst (λ (z : Item). Knows z.end) is k
    | inr d ↦ known x v (ap named_by (sym (halves_told a0 a1 a2 a3 block place id rear _ c1 r2 r3 x d)) ∙ e)
  ]

-- a node that was put among children leaves known what is
pub put_known : (Knows : ℕ → Type 0) (s s' : Nodes) → ((x : ℕ) → leaf_value s' x ≡ leaf_value s x)
    → ((x : ℕ) → block_value s' x ≡ block_value s x) → EndsKnown Knows s → EndsKnown Knows s'
put_known Knows s s' l b known x v e = known x v (ap named_by (sym (told_from_values s s' x (l x) (b x))) ∙ e)
