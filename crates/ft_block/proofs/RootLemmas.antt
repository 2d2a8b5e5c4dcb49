-- What a new root over two nodes leaves.
use Rattle.std.proofs.Common.{◌≡◌, ◌≢◌, ℕ, ◌+◌, ◌^◌, ◌<◌, [], ◌∷◌, insert, Option, Some, None, IsSome, sym, ap, subst, ◌∙◌, arith}
use Rattle.ft_arena.specs.declared.nodes.Node.TheVariants.{Block}
use Rattle.ft_arena.specs.Ids.{times}
use Rattle.ft_arena.specs.Forest.{Forest, Changes, PutsChild, entry, kids_of, parent_of, block_value}
use Rattle.ft_arena.specs.Forest.{leaf_of_entry, block_of_entry, kids_of_entry, parent_of_entry}
use Rattle.ft_arena.proofs.IdLemmas.{same_other}
use Rattle.ft_arena.proofs.KidLemmas.{kept}
use Rattle.ft_shape.specs.declared.headed.Headed.{Headed}
use Rattle.ft_shape.specs.Tree.{total, height_of, Measure, length_of, length_of_entry, kind_of, kind_of_entry}
use Rattle.ft_shape.specs.Steps.{SameShape, Resums, RootsOver}
use Rattle.ft_shape.proofs.EditLemmas.{dead_apart, is_some_from}
use Rattle.ft_shape.proofs.KindLemmas.{block_live, kind_from_values, length_from_values}
use Rattle.ft_shape.proofs.SplitLemmas.{live_from_values}

-- what keeps its value is still there
pub still_block : {X : Type 0} {o u : Option X} → u ≡ o → IsSome o → IsSome u
still_block {X} {o} {u} e h = subst (λ (z : Option X). IsSome z) (sym e) h

-- a block without children is made
module _ {L S : Type 0} (a0 a1 : Forest L (Headed S)) (top : ℕ) (z : Headed S) (fresh : entry a0 top ≡ None)
    (c1 : Changes a0 a1 top (Some record { node = Block [] z; parent = None })) where
  pub new_apart : (x : ℕ) → IsSome (entry a0 x) → x ≢ top
  new_apart x live = dead_apart (entry a0) x top live fresh

  pub made_block : IsSome (block_value a1 top)
  made_block = is_some_from (block_value a1 top) z (ap block_of_entry c1.changed)

  pub made_bare : kids_of a1 top ≡ []
  made_bare = ap kids_of_entry c1.changed

  pub made_top : parent_of a1 top ≡ None
  made_top = ap parent_of_entry c1.changed

  pub made_kids : (x : ℕ) → IsSome (entry a0 x) → kids_of a1 x ≡ kids_of a0 x
  made_kids x live = ap kids_of_entry (c1.others x (new_apart x live))

  pub made_still : (x : ℕ) → IsSome (block_value a0 x) → IsSome (block_value a1 x)
  made_still x block = still_block (ap block_of_entry (c1.others x (new_apart x (block_live (entry a0 x) block)))) block

  pub made_live : (x : ℕ) → IsSome (entry a0 x) → IsSome (entry a1 x)
  made_live x live = subst IsSome (sym (c1.others x (new_apart x live))) live

  pub made_alone : (x : ℕ) → IsSome (entry a0 x) → parent_of a0 x ≡ None → parent_of a1 x ≡ None
  made_alone x live alone = ap parent_of_entry (c1.others x (new_apart x live)) ∙ alone

  -- the old root is its first child
  module _ (root : ℕ) (root_live : IsSome (entry a0 root)) (a2 : Forest L (Headed S)) (p2 : PutsChild a1 a2 top 0 root) where
    pub first_block : IsSome (block_value a2 top)
    first_block = is_some_from (block_value a2 top) z (p2.block_values top ∙ ap block_of_entry c1.changed)

    pub first_kids : kids_of a2 top ≡ root ∷ []
    first_kids = p2.kids ∙ ap (λ zs. insert zs 0 root) made_bare

    pub first_live : (x : ℕ) → IsSome (entry a0 x) → IsSome (entry a2 x)
    first_live x live = live_from_values (entry a1 x) (entry a2 x) (p2.leaf_values x) (p2.block_values x) (made_live x live)

    pub first_alone : (x : ℕ) → x ≢ root → IsSome (entry a0 x) → parent_of a0 x ≡ None → parent_of a2 x ≡ None
    first_alone x d live alone = p2.other_parents x d ∙ made_alone x live alone

    pub first_apart : times (kids_of a2 top) top ≡ 0
    first_apart = omega (arith, ap (λ zs. times zs top) first_kids, same_other root top (new_apart root root_live))

    pub first_fit : (measure : Measure L S) → length_of measure a0 root < 2 ^ 64 → total (length_of measure a2) (kids_of a2 top) < 2 ^ 64
    first_fit measure fits = omega (
      arith,
      fits,
      ap (total (length_of measure a2)) first_kids,
      length_from_values measure (entry a1 root) (entry a2 root) (p2.leaf_values root) (p2.block_values root),
      ap (length_of_entry measure) (c1.others root (new_apart root root_live)),
    )

    -- the other node is its second one
    module _ (id : ℕ) (id_live : IsSome (entry a0 id)) (a3 : Forest L (Headed S)) (p3 : PutsChild a2 a3 top 1 id) where
      pub both_block : IsSome (block_value a3 top)
      both_block = is_some_from (block_value a3 top) z (p3.block_values top ∙ p2.block_values top ∙ ap block_of_entry c1.changed)

      both_kids : kids_of a3 top ≡ root ∷ id ∷ []
      both_kids = p3.kids ∙ ap (λ zs. insert zs 1 id) first_kids

      pub both_apart : times (kids_of a3 top) top ≡ 0
      both_apart = omega (
        arith,
        ap (λ zs. times zs top) both_kids,
        same_other root top (new_apart root root_live),
        same_other id top (new_apart id id_live),
      )

      both_kind : (x : ℕ) → kind_of a3 x ≡ kind_of a1 x
      both_kind x = kind_from_values (entry a2 x) (entry a3 x) (p3.leaf_values x) (p3.block_values x)
          ∙ kind_from_values (entry a1 x) (entry a2 x) (p2.leaf_values x) (p2.block_values x)

      both_length : (measure : Measure L S) (x : ℕ) → x ≢ top → length_of measure a3 x ≡ length_of measure a0 x
      both_length measure x d = length_from_values measure (entry a2 x) (entry a3 x) (p3.leaf_values x) (p3.block_values x)
          ∙ length_from_values measure (entry a1 x) (entry a2 x) (p2.leaf_values x) (p2.block_values x) ∙ ap (length_of_entry measure) (c1.others x d)

      pub both_fit : (measure : Measure L S) → length_of measure a0 root + length_of measure a0 id < 2 ^ 64
          → total (length_of measure a3) (kids_of a3 top) < 2 ^ 64
      both_fit measure fits = omega (
        arith,
        fits,
        ap (total (length_of measure a3)) both_kids,
        both_length measure root (new_apart root root_live),
        both_length measure id (new_apart id id_live),
      )

      -- what the root keeps is made from both
      module _ (a : Forest L (Headed S)) (r : SameShape a3 a) where
        pub both_roots : z.height ≡ height_of a0 root + 1 → a1.leaves ≡ a0.leaves → a2.leaves ≡ a1.leaves → a3.leaves ≡ a2.leaves
            → RootsOver a0 a root id top
        both_roots high l1 l2 l3 =
            record {
              leaves = r.leaves ∙ l3 ∙ l2 ∙ l1;
              forest = r.forest;
              leaf_values = λ x. r.leaf_values x ∙ p3.leaf_values x ∙ p2.leaf_values x ∙ kept leaf_of_entry a0 a1 top _ c1 (sym
                  (ap leaf_of_entry fresh)) x;
              fresh = fresh;
              kind = r.kinds top ∙ both_kind top ∙ ap kind_of_entry c1.changed ∙ ap (λ (h : ℕ). Some (Some h)) high;
              kinds = λ x d. r.kinds x ∙ both_kind x ∙ ap kind_of_entry (c1.others x d);
              kids = r.kids top ∙ both_kids;
              other_kids = λ x d. r.kids x ∙ p3.other_kids x d ∙ p2.other_kids x d ∙ ap kids_of_entry (c1.others x d);
            }

        pub both_resums : (measure : Measure L S) → Resums measure a3 a top → Resums measure a0 a top
        both_resums measure s = record { others = λ x d. s.others x d ∙ both_length measure x d; sum = s.sum }
