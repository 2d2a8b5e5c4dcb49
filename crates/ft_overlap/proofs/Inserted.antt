-- An item that was linked, and is put into the tree.
use Rattle.std.proofs.Common.{◌≡◌, ℕ, ◌+◌, ◌≤◌, List, length, slice_get, Option, Some, None, IsSome, sym, ap, subst, ◌∙◌, inl, inr, arith}
use Rattle.std.proofs.lemmas.Bool.{cases_eq}
use Rattle.std.proofs.lemmas.Option.{slice_get_within}
use Rattle.ft_arena.specs.declared.nodes.Node.TheVariants.{Leaf}
use Rattle.ft_arena.specs.Ids.{times}
use Rattle.ft_arena.specs.Forest.{IsForest, Entry, Changes, entry, kids_of, parent_of, leaf_value, block_value, leaf_of_entry, block_of_entry}
use Rattle.ft_shape.specs.declared.headed.Headed.{Headed}
use Rattle.ft_shape.specs.Tree.{IsTree, IsPartTree, IsGrowing, IsEdit, height_of, total}
use Rattle.ft_shape.specs.Told.{sum_of, told, KeepsBut}
use Rattle.ft_shape.proofs.FitLemmas.{gr_place, gr_block, gr_child}
use Rattle.ft_shape.proofs.InsertLemmas.{leaf_grows, leaf_height}
use Rattle.ft_overlap.specs.declared.items.Item.{Item}
use Rattle.ft_overlap.specs.declared.items.Span.{Span}
use Rattle.ft_overlap.specs.Inside.{Nodes, either_named, span_last, named_by, EndsKnown, IsLeafPlace}

pub linked_known : (Knows : ℕ → Type 0) (s s' : Nodes) (id : ℕ) (item : Item)
    → Changes s s' id (Some record { node = Leaf item; parent = None }) → Knows item.end
    → EndsKnown Knows s → EndsKnown Knows s'
linked_known Knows s s' id item c k known x v e = elim (cases_eq x id) [
  | inl q ↦
      let here : Some item ≡ Some v =
      sym (ap (λ (o : Option (Entry Item (Headed Span))). either_named (leaf_of_entry o) (span_last (sum_of (block_of_entry o)))) c.changed) ∙ ap (λ (z : ℕ). named_by (told s' z))
      (sym q) ∙ e in
      let is : item ≡ v = cc here in
      subst (λ (z : Item). Knows z.end) is k
  | inr d ↦ known x v (sym (ap (λ (o : Option (Entry Item (Headed Span))). either_named (leaf_of_entry o) (span_last (sum_of (block_of_entry o)))) (c.others x d)) ∙ e)
]

pub whole_part : (s : Nodes) (root : ℕ) → IsTree s root → IsPartTree s root None None
whole_part s root t = record { shape = t.shape; low = λ id e. cc; part = λ f. omega (arith, ap (total f) t.leaves) }

pub tree_filled : (s : Nodes) (root : ℕ) → IsTree s root → (b : ℕ) → IsSome (block_value s b) → 1 ≤ length (kids_of s b)
tree_filled s root t b h = elim (cases_eq b root) [
  | inl e ↦ omega (arith, t.shape.root_filled, ap (λ (z : ℕ). length (kids_of s z)) e)
  | inr d ↦ omega (arith, t.shape.half_full b h d (λ e. cc))
]

-- what is there isn't missing
pub no_up : (o : Option ℕ) → IsSome o → o ≡ None → ⊥
no_up o h e = let n : IsSome {T = ℕ} None = subst (λ (q : Option ℕ). IsSome q) e h in cc n

-- where no block is wrong, none but one is
pub but_one : (R : Span → List (Option Item × Option Span) → Type 0) (s : Nodes) (p : ℕ) → KeepsBut R s None → KeepsBut R s (Some p)
but_one R s p keeps b v e d = keeps b v e (λ q. cc)

module _ (s s' : Nodes) (root at id step : ℕ) (ed : List ℕ → List ℕ) (E : IsEdit step ed at id) (item : Item) (t : IsTree s root) (at_leaf : IsSome (leaf_value s at))
    (fresh : entry s id ≡ None) (c : Changes s s' id (Some record { node = Leaf item; parent = None })) (leaves : s'.leaves ≡ ed s.leaves) (forest : IsForest s') where
  beside_grows : IsGrowing s' root at id ed
  beside_grows = leaf_grows s s' root at id step ed E item t at_leaf fresh c leaves forest

  -- the leaf beside the new one stands below a block
  pub beside_up : IsSome (parent_of s' at)
  beside_up =
      beside_grows.shape.one_top at beside_grows.at_live
      (λ e. omega (arith, leaf_height (entry s at) at_leaf, t.shape.high root t.shape.root_is_block, ap (height_of s) e)) (λ e. beside_grows.at_apart (cc e))

  module _ (block : ℕ) (up : parent_of s' at ≡ Some block) where
    pub beside_block : IsSome (block_value s' block)
    beside_block = gr_block s' root at id step ed E beside_grows block up

    pub beside_child : 1 ≤ times (kids_of s' block) at
    beside_child = omega (arith, gr_child s' root at id step ed E beside_grows block up)

    -- and there is the place for the new one
    pub beside_place : (i : ℕ) → slice_get (kids_of s' block) i ≡ Some at → step ≤ 1 → IsLeafPlace s' root block (i + step) id item
    beside_place i there one =
        record {
          at = at;
          step = step;
          edit = ed;
          is_edit = E;
          growing = beside_grows;
          up = up;
          beside = gr_place s' root at id step ed E beside_grows block up i there;
          inside = omega (arith, slice_get_within (kids_of s' block) i at there, one);
          leaf = ap leaf_of_entry c.changed;
        }
