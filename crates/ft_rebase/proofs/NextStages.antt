-- The next pending stage, and the moves of all insertions.
use Rattle.std.proofs.Common.{◌≡◌, ℕ, suc, ◌-◌, ◌<◌, ◌≤◌, Bool, true, false, cond, ◌||◌, nat_le, nat_lt, nat_eq, All, List, [], ◌∷◌, Option, Some, None, length, refl, sym, ◌∙◌, ap, subst, arith}
use Rattle.std.specs.List.{flat_map, list_any}
use Rattle.std.proofs.lemmas.Bool.Decides.{nat_tests}
use Rattle.ft_base.specs.declared.stamps.Stamp.{Stamp}
use Rattle.ft_base.specs.Scan.{rank}
use Rattle.ft_base.specs.Visibility.{is_of_stage, seen_at}
use Rattle.ft_block.specs.declared.leaves.LenView.TheVariants.{Stage}
use Rattle.ft_tree_leaves.specs.declared.leaves.TreeLeaf.{TreeLeaf}
use Rattle.ft_tree_leaves.specs.Edits.{is_marked_by, is_touched_by, least_above, lesser, next_pending_above, stages_on}
use Rattle.ft_tree_leaves.specs.Elements.{TreeElement, element_with, seen_in}
use Rattle.ft_tree_leaves.specs.LeafLists.{elements}
use Rattle.ft_tree_blocks.proofs.LeastAbove.{pending-held}
use Rattle.ft_rebase.specs.declared.moves.StageMove.{StageMove}
use Rattle.ft_rebase.specs.Moves.{AreMoves, NoneOf, leaf_stamps, seen_size}
use Rattle.ft_rebase.specs.Pieces.{insertion_position, is_inserted_by}
use Rattle.ft_rebase.specs.StageLists.{inserted_by, next_position}
use Rattle.ft_rebase.proofs.Expanded.{any-items, rank-items}

-- ---- the next stage

-- a stage below the one that is next, if there is one
abbrev pub IsBelow : ℕ → Option ℕ → Type 0
IsBelow j None = Unit {0}
IsBelow j (Some m) = j < m

below-rest : (j n : ℕ) (o : Option ℕ) → j < lesser n o → (j < n) × IsBelow j o
below-rest j n None h = (h, tt)
below-rest j n (Some m) h = step (nat_le n m) refl h
  where
    step : (b : Bool) → nat_le n m ≡ b → j < cond b n m → (j < n) × (j < m)
    step true e h = (h, (let le : n ≤ m = grind (arith, nat_tests) in omega (arith, le)))
    step false e h = ((let lt : m < n = grind (arith, nat_tests) in omega (arith, lt)), h)

-- none of the numbers is between k and the least above it
none-below : (k j : ℕ) (ns : List ℕ) → k < j → IsBelow j (least_above k ns) → list_any (λ n. nat_eq n j) ns ≡ false
none-below k j [] h b = refl
none-below k j (n ∷ ns) h b = step (nat_lt k n) refl b (none-below k j ns h)
  where
    step : (c : Bool) → nat_lt k n ≡ c → IsBelow j (cond c (Some (lesser n (least_above k ns))) (least_above k ns))
        → (IsBelow j (least_above k ns) → list_any (λ n. nat_eq n j) ns ≡ false) → (nat_eq n j || list_any (λ n. nat_eq n j) ns) ≡ false
    step true e b ih =
        let p = below-rest j n (least_above k ns) b in
        let other : nat_eq n j ≡ false = grind (arith, nat_tests, p.0) in
        ap (λ c. c || list_any (λ n. nat_eq n j) ns) other ∙ ih p.1
    step false e b ih =
        let other : nat_eq n j ≡ false = grind (arith, nat_tests) in
        ap (λ c. c || list_any (λ n. nat_eq n j) ns) other ∙ ih b

-- which is above k
least-above : (k m : ℕ) (ns : List ℕ) → least_above k ns ≡ Some m → k < m
least-above k m [] e = absurd cc
least-above k m (n ∷ ns) e = step (nat_lt k n) refl e (λ i g. least-above k i ns g)
  where
    least : (o : Option ℕ) → k < n → ((i : ℕ) → o ≡ Some i → k < i) → k < lesser n o
    least None h f = h
    least (Some i) h f = either (nat_le n i)
      where
        either : (b : Bool) → k < cond b n i
        either true = h
        either false = f i refl

    step : (c : Bool) → nat_lt k n ≡ c → cond c (Some (lesser n (least_above k ns))) (least_above k ns) ≡ Some m
        → ((i : ℕ) → least_above k ns ≡ Some i → k < i) → k < m
    step true c e f =
        let above : k < n = grind (arith, nat_tests) in
        let is : lesser n (least_above k ns) ≡ m = cc in
        subst (λ i. k < i) is (least (least_above k ns) above f)
    step false c e f = f m e

-- ---- the stages that touched a leaf

module _ {C : Type 0} where
  -- no leaf has something of a stage between k and the next one
  pub none_touched : (k j : ℕ) (xs : List (ℕ × TreeLeaf C)) → k < j → IsBelow j (next_pending_above k xs)
      → list_any (λ x. is_touched_by j x.1) xs ≡ false
  none_touched k j xs h b = sym (pending-held j xs) ∙ none-below k j (flat_map (λ x. stages_on x.1) xs) h b

  -- so none is of such a stage
  pub none_between : (k j : ℕ) (xs : List (ℕ × TreeLeaf C)) → k < j → IsBelow j (next_pending_above k xs) → NoneOf j xs
  none_between k j xs h b = insertions xs (none_touched k j xs h b)
    where
      both : (a b c : Bool) → ((a || b) || c) ≡ false → (a ≡ false) × (c ≡ false)
      both false false c h = (refl, h)
      both false true c h = absurd cc
      both true b c h = absurd cc

      insertions : (xs : List (ℕ × TreeLeaf C)) → list_any (λ x. is_touched_by j x.1) xs ≡ false → NoneOf j xs
      insertions [] h = refl
      insertions (x ∷ xs) h =
          let p = both (is_of_stage j x.1.stamps.ins) (is_marked_by j x.1) (list_any (λ x. is_touched_by j x.1) xs) h in
          ap (λ b. b || list_any (inserted_by leaf_stamps j) xs) p.0 ∙ insertions xs p.1

  -- the next one is above k
  pub next_above : (k m : ℕ) (xs : List (ℕ × TreeLeaf C)) → next_pending_above k xs ≡ Some m → k < m
  next_above k m xs e = least-above k m (flat_map (λ x. stages_on x.1) xs) e

-- ---- the moves

module _ {C U : Type 0} (units : C → List U) (by : C → Option Stamp) (xs : List (ℕ × TreeLeaf C))
    (some : All (λ x. 1 ≤ length (units x.1.content)) xs) where
  -- moves from the next stage on, where there is none of the stages up to it
  pub lower_moves : (k n : ℕ) (ms : List StageMove) → k < n → ((j : ℕ) → k < j → j < n → NoneOf j xs) → NoneOf n xs
      → AreMoves units n ms xs → AreMoves units k ms xs
  lower_moves k n [] h between none all = λ j l. step j l (nat_lt j n) (nat_lt n j) refl refl
    where
      step : (j : ℕ) → k < j → (a b : Bool) → nat_lt j n ≡ a → nat_lt n j ≡ b → NoneOf j xs
      step j l true b e g = between j l (grind (arith, nat_tests))
      step j l false true e g = all j (grind (arith, nat_tests))
      step j l false false e g = let same : n ≡ j = grind (arith, nat_tests) in subst (λ i. NoneOf i xs) same none
  lower_moves k n (m ∷ ms) h between none all =
      (omega (arith, h, all.0), (λ j l below. step j l below (nat_lt j n) (nat_lt n j) refl refl), all.2, all.3)
    where
      step : (j : ℕ) → k < j → j < m.stage → (a b : Bool) → nat_lt j n ≡ a → nat_lt n j ≡ b → NoneOf j xs
      step j l below true b e g = between j l (grind (arith, nat_tests))
      step j l below false true e g = all.1 j (grind (arith, nat_tests)) below
      step j l below false false e g = let same : n ≡ j = grind (arith, nat_tests) in subst (λ i. NoneOf i xs) same none

  items-rank : (k : ℕ) → 1 ≤ k → rank (is_inserted_by k) (seen_in (Stage (k - 1))) (elements units by xs)
      ≡ seen_size units (k - 1) (next_position leaf_stamps (k - 1) xs) xs
  items-rank k h =
      let f : ℕ × TreeLeaf C → U → TreeElement U = λ x u. element_with x.1.stamps (by x.1.content) x.1.overlay u in
      let same : suc (k - 1) ≡ k = omega arith in
      ap (λ i. rank (is_inserted_by i) (seen_in (Stage (k - 1))) (elements units by xs)) (sym same)
      ∙ rank-items leaf_stamps (λ e. e.stamps) (λ x. units x.1.content) f (λ x u. refl) (λ s. is_of_stage (suc (k - 1)) s.ins)
      (λ s. seen_at s (k - 1)) xs some

  -- a stage with elements has a move, and one without has none
  pub position_is : (k p : ℕ) → 1 ≤ k → Some p ≡ insertion_position k (elements units by xs) → p
      ≡ seen_size units (k - 1) (next_position leaf_stamps (k - 1) xs) xs
  position_is k p h e = step (list_any (is_inserted_by k) (elements units by xs)) e ∙ items-rank k h
    where
      step : (b : Bool) → Some p ≡ cond b (Some (rank (is_inserted_by k) (seen_in (Stage (k - 1))) (elements units by xs))) None
          → p ≡ rank (is_inserted_by k) (seen_in (Stage (k - 1))) (elements units by xs)
      step true e = cc
      step false e = absurd cc

  pub none_is : (k : ℕ) → None ≡ insertion_position k (elements units by xs) → NoneOf k xs
  none_is k e =
      let f : ℕ × TreeLeaf C → U → TreeElement U = λ x u. element_with x.1.stamps (by x.1.content) x.1.overlay u in
      sym (any-items leaf_stamps (λ e. e.stamps) (λ x. units x.1.content) f (λ x u. refl) (λ s. is_of_stage k s.ins) xs some)
      ∙ step (list_any (is_inserted_by k) (elements units by xs)) refl e
    where
      step : (b : Bool) → list_any (is_inserted_by k) (elements units by xs) ≡ b → None
          ≡ cond b (Some (rank (is_inserted_by k) (seen_in (Stage (k - 1))) (elements units by xs))) None
          → list_any (is_inserted_by k) (elements units by xs) ≡ false
      step true g e = absurd cc
      step false g e = g
