-- A tree with one leaf.
use Rattle.std.proofs.Common.{◌≡◌, ◌≢◌, ◌⊎◌, ℕ, zero, suc, ◌≤◌, [], ◌∷◌, ◌++◌, length, insert, Some, None, IsSome, sym, ap, subst, ◌∙◌, inl, inr, arith}
use Rattle.std.proofs.lemmas.Bool.{cases_eq}
use Rattle.ft_arena.specs.declared.nodes.Node.TheVariants.{Leaf, Block}
use Rattle.ft_arena.specs.Ids.{same, times}
use Rattle.ft_arena.specs.Forest.{Forest, entry, kids_of, parent_of, block_value, leaf_of_entry, block_of_entry, kids_of_entry}
use Rattle.ft_arena.proofs.IdLemmas.{same_refl, same_other}
use Rattle.ft_shape.specs.declared.headed.Headed.{Headed}
use Rattle.ft_shape.specs.Tree.{total, height_of, height_of_entry, Measure, length_of, below, kind_of, kind_of_entry, IsShape, SumsBut, IsTree}
use Rattle.ft_shape.specs.Steps.{SameShape, Resums}
use Rattle.ft_arena.specs.Forest.{Changes, PutsChild}
use Rattle.ft_shape.specs.Steps.{InsertsLeaf}
use Rattle.ft_shape.proofs.Levels.{points_some, points_at}
use Rattle.ft_shape.proofs.EditLemmas.{is_some_from, none_by}
use Rattle.ft_shape.proofs.KindLemmas.{kind_is_height, kind_is_block, kind_height, kind_live, kind_block, block_live, kind_from_values}

module _ {L S : Type 0} (a0 a1 a2 a3 s : Forest L (Headed S)) (id top : ℕ) (leaf : L) (z : (Headed S)) (is_high : z.height ≡ 1) (bare : (x : ℕ)
    → entry a0 x ≡ None) (no_leaves : a0.leaves ≡ []) (l1 : a1.leaves ≡ id ∷ a0.leaves)
    (c1 : Changes a0 a1 id (Some record { node = Leaf leaf; parent = None }))
    (l2 : a2.leaves ≡ a1.leaves) (f2 : entry a1 top ≡ None) (c2 : Changes a1 a2 top (Some record { node = Block [] z; parent = None })) (l3 : a3.leaves ≡ a2.leaves)
    (p3 : PutsChild a2 a3 top 0 id) (r : SameShape a3 s) where
  o_apart : id ≢ top
  o_apart = λ e. cc (c1.changed, f2, ap (entry a1) e)

  o_kind : (x : ℕ) → kind_of s x ≡ kind_of a2 x
  o_kind x = r.kinds x ∙ kind_from_values (entry a2 x) (entry a3 x) (p3.leaf_values x) (p3.block_values x)

  o_kind_top : kind_of s top ≡ Some (Some 1)
  o_kind_top = o_kind top ∙ ap kind_of_entry c2.changed ∙ ap (λ (h : ℕ). Some (Some h)) is_high

  o_entry2 : entry a2 id ≡ Some record { node = Leaf leaf; parent = None }
  o_entry2 = c2.others id o_apart ∙ c1.changed

  o_none2 : (x : ℕ) → x ≢ id → x ≢ top → entry a2 x ≡ None
  o_none2 x d n = c2.others x n ∙ c1.others x d ∙ bare x

  o_kind_none : (x : ℕ) → x ≢ id → x ≢ top → kind_of s x ≡ None
  o_kind_none x d n = o_kind x ∙ ap kind_of_entry (o_none2 x d n)

  pub o_kids_top : kids_of s top ≡ id ∷ []
  o_kids_top = r.kids top ∙ p3.kids ∙ ap (λ zs. insert zs 0 id) (ap kids_of_entry c2.changed)

  o_kids_none : (x : ℕ) → x ≢ top → kids_of s x ≡ []
  o_kids_none x n = r.kids x ∙ p3.other_kids x n ∙ elim (cases_eq x id) [
    | inl e ↦ ap (kids_of a2) e ∙ ap kids_of_entry o_entry2
    | inr d ↦ ap kids_of_entry (o_none2 x d n)
  ]

  o_parent : (x b : ℕ) → parent_of s x ≡ Some b → (x ≡ id) × (b ≡ top)
  o_parent x b e =
      let m : 1 ≤ times (kids_of s b) x = omega (arith, r.forest.child_once b x, points_at (parent_of s x) b e) in
      elim (cases_eq b top) [
        | inl c ↦
            let k : 1 ≤ same id x = omega (arith, m, ap (λ z. times (kids_of s z) x) c, ap (λ zs. times zs x) o_kids_top) in
            elim (cases_eq id x) [ inl q ↦ (sym q, c) | inr d ↦ absurd (omega (arith, k, same_other id x d)) ]
        | inr n ↦ absurd (omega (arith, m, ap (λ zs. times zs x) (o_kids_none b n)))
      ]

  o_top_alone : parent_of s top ≡ None
  o_top_alone = none_by (parent_of s top) (λ b e. o_apart (sym (o_parent top b e).0))

  o_parent_id : parent_of s id ≡ Some top
  o_parent_id = points_some (parent_of s id) top (omega (arith, r.forest.child_once top id, ap (λ zs. times zs id) o_kids_top, same_refl id))

  o_height_top : height_of s top ≡ 1
  o_height_top = kind_is_height (entry s top) 1 o_kind_top

  o_height_id : height_of s id ≡ 0
  o_height_id = kind_height (entry a2 id) (entry s id) (o_kind id) ∙ ap height_of_entry o_entry2

  o_live : (x : ℕ) → IsSome (entry s x) → (x ≡ id) ⊎ (x ≡ top)
  o_live x h = elim (cases_eq x id) [
    | inl e ↦ inl e
    | inr d ↦ elim (cases_eq x top) [
      | inl e ↦ inr e
      | inr n ↦
          let gone : kind_of_entry (entry s x) ≡ kind_of_entry {L = L} {S = S} None = o_kind_none x d n in
          let k : IsSome (entry a2 x) = kind_live (entry s x) (entry a2 x) (sym (o_kind x)) h in
          cc (k, o_none2 x d n)
    ]
  ]

  pub o_block : (x : ℕ) → IsSome (block_value s x) → x ≡ top
  o_block x h = elim (o_live x (block_live (entry s x) h)) [
    | inl e ↦
        let k : IsSome (block_value a2 x) = kind_block (entry s x) (entry a2 x) (sym (o_kind x)) h in
        cc (k, ap (block_value a2) e ∙ ap block_of_entry o_entry2)
    | inr e ↦ e
  ]

  o_shape : IsShape s top None None
  o_shape =
      record {
        forest = r.forest;
        root_is_block = kind_is_block (entry s top) 1 o_kind_top;
        root_is_top = o_top_alone;
        one_top = λ x live d _. elim (o_live x live) [ inl e ↦ is_some_from (parent_of s x) top (ap (parent_of s) e ∙ o_parent_id) | inr e ↦ absurd (d e) ];
        low = λ x live. elim (o_live x live) [ inl e ↦ omega (arith, ap (height_of s) e, o_height_id) | inr e ↦ omega (arith, ap (height_of s) e) ];
        heights = λ x b e. let q = o_parent x b e in omega (arith, ap (height_of s) q.0, ap (height_of s) q.1, o_height_id, o_height_top);
        high = λ b h. omega (arith, ap (height_of s) (o_block b h), o_height_top);
        half_full = λ b h d _. absurd (d (o_block b h));
        root_filled = omega (arith, ap length o_kids_top);
      }

  o_leaves : s.leaves ≡ id ∷ []
  o_leaves = r.leaves ∙ l3 ∙ l2 ∙ l1 ∙ ap (λ zs. id ∷ zs) no_leaves

  pub only_tree : IsTree s top
  only_tree =
      let one : height_of s top ≡ suc zero = omega (arith, o_height_top) in
      record { shape = o_shape; leaves = o_leaves ∙ sym (ap (λ zs. zs ++ []) o_kids_top) ∙ ap (λ (n : ℕ). below s n (top ∷ [])) (sym one) }

  pub only_inserts : InsertsLeaf a0 s id leaf (λ xs. id ∷ xs)
  only_inserts =
      record {
        leaves = o_leaves ∙ ap (λ zs. id ∷ zs) (sym no_leaves);
        fresh = ap leaf_of_entry (bare id);
        value = r.leaf_values id ∙ p3.leaf_values id ∙ ap leaf_of_entry o_entry2;
        others = λ x d. r.leaf_values x ∙ p3.leaf_values x
            ∙ elim (cases_eq x top) [ inl e ↦ ap (λ z. leaf_of_entry (entry a2 z)) e ∙ ap leaf_of_entry c2.changed | inr n ↦ ap leaf_of_entry (o_none2 x d n) ]
            ∙ sym (ap leaf_of_entry (bare x));
      }

  module _ (measure : Measure L S) (u : Resums measure a3 s top) where
    pub only_sums : SumsBut measure s None
    only_sums b h stale = subst (λ (z : ℕ). length_of measure s z ≡ total (length_of measure s) (kids_of s z)) (sym (o_block b h)) u.sum
