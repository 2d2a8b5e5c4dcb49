-- What a leaf adds to the runs of marked elements and to the place of an insertion.
use Rattle.std.proofs.Common.{◌≡◌, ℕ, ◌+◌, ◌≤◌, Bool, true, false, cond, nat_eq, All, List, [], ◌∷◌, ◌++◌, Option, filter, length, refl, sym, ◌∙◌, ap, arith}
use Rattle.std.specs.List.{list_any}
use Rattle.std.proofs.lemmas.Bool.{ne_eqb}
use Rattle.std.proofs.lemmas.Bool.Decides.{nat_tests}
use Rattle.std.proofs.lemmas.List.Elements.{All-head, All-tail}
use Rattle.ft_base.specs.declared.stamps.Stamp.{Stamp}
use Rattle.ft_base.specs.Scan.{len, rank}
use Rattle.ft_base.specs.Visibility.{is_of_stage}
use Rattle.ft_block.specs.declared.leaves.LenView.{LenView}
use Rattle.ft_block.specs.Leaves.{IsLeafIn, ids, left_of, sees_in, times_leaf}
use Rattle.ft_tree_leaves.specs.declared.leaves.TreeLeaf.{TreeLeaf}
use Rattle.ft_tree_leaves.specs.Elements.{TreeElement, element_with, seen_in}
use Rattle.ft_tree_leaves.specs.LeafLists.{elements, leaf_elements}
use Rattle.ft_tree_leaves.proofs.LeafRuns.{leaf_seen, leaf_unseen}
use Rattle.ft_tree_leaves.proofs.Runs.{len-append}
use Rattle.ft_rebase.specs.declared.marks.PendingMark.{PendingMark}
use Rattle.ft_rebase.specs.declared.marks.PendingMark.TheVariants.{Removal, Changes}
use Rattle.ft_rebase.specs.MarkedRuns.{marked_runs_from, with_run}
use Rattle.ft_rebase.specs.Moves.{leaf_stamps}
use Rattle.ft_rebase.specs.Pieces.{has_mark, is_inserted_by, leaf_has_mark}
use Rattle.ft_rebase.specs.StageLists.{inserted_by}
use Rattle.ft_rebase.proofs.Expanded.{any-none, any-some, rank-here, rank-seen, rank-unseen}
use Rattle.ft_rebase.proofs.MarkedRunLemmas.{runs-past_marked, runs-past_seen, runs-past_unseen}

module _ {C U : Type 0} (units : C → List U) (by : C → Option Stamp) where
  marked_by : (mark : PendingMark) (k : ℕ) (x : TreeLeaf C) (b : Bool) → leaf_has_mark mark k x ≡ b → (u : U)
      → has_mark mark k (element_with x.stamps (by x.content) x.overlay u) ≡ b
  marked_by Removal k x b e u = e
  marked_by Changes k x b e u = e

  -- the runs of a leaf in front of others
  pub runs-leaf : (view : LenView) (mark : PendingMark) (k : ℕ) (x : TreeLeaf C) (i : ℕ) (ys : List (TreeElement U)) (s m : Bool)
      → 1 ≤ length (units x.content)
      → sees_in view x.stamps ≡ s → leaf_has_mark mark k x ≡ m
      → marked_runs_from i (seen_in view) (has_mark mark k) (leaf_elements units by x ++ ys)
      ≡ cond s (cond m (with_run (i, i + length (units x.content)) (marked_runs_from (i + length (units x.content)) (seen_in view)
      (has_mark mark k) ys))
      (marked_runs_from (i + length (units x.content)) (seen_in view) (has_mark mark k) ys))
      (marked_runs_from i (seen_in view) (has_mark mark k) ys)
  runs-leaf view mark k x i ys true true some e g =
      runs-past_marked (seen_in view) (has_mark mark k) (element_with x.stamps (by x.content) x.overlay) (λ u. e)
      (marked_by mark k x true g) (units x.content) i ys some
  runs-leaf view mark k x i ys true false some e g =
      runs-past_seen (seen_in view) (has_mark mark k) (element_with x.stamps (by x.content) x.overlay) (λ u. e)
      (marked_by mark k x false g) (units x.content) i ys
  runs-leaf view mark k x i ys false m some e g =
      runs-past_unseen (seen_in view) (has_mark mark k) (element_with x.stamps (by x.content) x.overlay) (λ u. e) (units x.content) i ys

  -- ---- the first leaf of a stage

  abbrev Leaves : Type 0
  Leaves = List (ℕ × TreeLeaf C)

  -- the number of seen elements left of the leaf of a node, where this is the first one of the stage
  pub record StandsFirst (k : ℕ) (view : LenView) (xs : Leaves) (id : ℕ) : Type 0 where
    pub live : IsLeafIn xs id
    pub some : list_any (is_inserted_by k) (elements units by xs) ≡ true
    pub place : len (seen_in view) (elements units by (left_of xs id)) ≡ rank (is_inserted_by k) (seen_in view) (elements units by xs)

  pub stands_first : (k : ℕ) (view : LenView) (xs : Leaves) (id : ℕ) (more : List ℕ) → ((i : ℕ) → times_leaf xs i ≤ 1)
      → All (λ x. 1 ≤ length (units x.1.content)) xs
      → ids (filter (inserted_by leaf_stamps k) xs) ≡ id ∷ more → StandsFirst k view xs id
  stands_first k view [] id more once some e = absurd cc
  stands_first k view (x ∷ xs) id more once some e =
      step (is_of_stage k x.1.stamps.ins) (sees_in view x.1.stamps) refl refl e
      (stands_first k view xs id more (λ i. omega (arith, once i)) (All-tail (λ x. 1 ≤ length (units x.1.content)) x xs some))
    where
      first : 1 ≤ length (units x.1.content)
      first = All-head (λ x. 1 ≤ length (units x.1.content)) x xs some

      f : U → TreeElement U
      f = element_with x.1.stamps (by x.1.content) x.1.overlay

      own : nat_eq x.0 x.0 ≡ true
      own = grind (arith, nat_tests)

      step : (a b : Bool) → is_of_stage k x.1.stamps.ins ≡ a → sees_in view x.1.stamps ≡ b
          → ids (cond a (x ∷ filter (inserted_by leaf_stamps k) xs) (filter (inserted_by leaf_stamps k) xs)) ≡ id ∷ more
          → (ids (filter (inserted_by leaf_stamps k) xs) ≡ id ∷ more → StandsFirst k view xs id) → StandsFirst k view (x ∷ xs) id
      step true b a_is b_is e rest =
          let same : x.0 ≡ id = cc in
          let here : nat_eq x.0 id ≡ true = grind (arith, nat_tests) in
          record {
            live = rw here (omega arith);
            some = any-some (is_inserted_by k) f (λ u. a_is) (units x.1.content) (elements units by xs) first;
            place =
                ap (λ b. len (seen_in view) (elements units by (cond b [] (x ∷ left_of xs id)))) here
                ∙ sym (rank-here (is_inserted_by k) (seen_in view) f (λ u. a_is) (units x.1.content) (elements units by xs) first);
          }
      step false b a_is b_is e rest =
          let found = rest e in
          let other : nat_eq x.0 id ≡ false = (apart found.live) in
          record {
            live = rw other (omega (arith, found.live));
            some = any-none (is_inserted_by k) f (λ u. a_is) (units x.1.content) (elements units by xs) ∙ found.some;
            place =
                ap (λ b. len (seen_in view) (elements units by (cond b [] (x ∷ left_of xs id)))) other
                ∙ len-append (seen_in view) (leaf_elements units by x.1) (elements units by (left_of xs id))
                ∙ ap (λ n. len (seen_in view) (leaf_elements units by x.1) + n) found.place
                ∙ counted b b_is;
          }
        where
          apart : IsLeafIn xs id → nat_eq x.0 id ≡ false
          apart live = ne_eqb x.0 id (λ w. (let n = ap (times_leaf xs) w in let one = ap {B = ℕ} (λ b. cond b 1 0) own in omega
              (arith, once x.0, n, live, one)))

          counted : (b : Bool) → sees_in view x.1.stamps ≡ b → len (seen_in view) (leaf_elements units by x.1) + rank (is_inserted_by k)
              (seen_in view) (elements units by xs)
              ≡ rank (is_inserted_by k) (seen_in view) (leaf_elements units by x.1 ++ elements units by xs)
          counted true b_is =
              ap (λ n. n + rank (is_inserted_by k) (seen_in view) (elements units by xs)) (leaf_seen units by view x.1 b_is)
              ∙ sym (rank-seen (is_inserted_by k) (seen_in view) f (λ u. a_is) (λ u. b_is) (units x.1.content) (elements units by xs))
          counted false b_is =
              ap (λ n. n + rank (is_inserted_by k) (seen_in view) (elements units by xs)) (leaf_unseen units by view x.1 b_is)
              ∙ omega (
                arith,
                rank-unseen (is_inserted_by k) (seen_in view) f (λ u. a_is) (λ u. b_is) (units x.1.content)
                    (elements units by xs),
              )

  -- and none where there is none
  pub none_inserted : (k : ℕ) (xs : Leaves) → ids (filter (inserted_by leaf_stamps k) xs) ≡ [] → list_any (is_inserted_by k) (elements units by xs) ≡ false
  none_inserted k [] e = refl
  none_inserted k (x ∷ xs) e = step (is_of_stage k x.1.stamps.ins) refl e (none_inserted k xs)
    where
      step : (a : Bool) → is_of_stage k x.1.stamps.ins ≡ a
          → ids (cond a (x ∷ filter (inserted_by leaf_stamps k) xs) (filter (inserted_by leaf_stamps k) xs)) ≡ []
          → (ids (filter (inserted_by leaf_stamps k) xs) ≡ [] → list_any (is_inserted_by k) (elements units by xs) ≡ false)
          → list_any (is_inserted_by k) (leaf_elements units by x.1 ++ elements units by xs) ≡ false
      step true a_is e rest = absurd cc
      step false a_is e rest =
          any-none (is_inserted_by k) (element_with x.1.stamps (by x.1.content) x.1.overlay) (λ u. a_is) (units x.1.content)
          (elements units by xs) ∙ rest e
