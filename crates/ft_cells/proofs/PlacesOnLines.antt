-- Places by line: the first one on a line or behind it says whether so many lines from there on have any.
use Rattle.std.proofs.Common.{◌≡◌, ℕ, ◌-◌, ◌≤◌, Bool, true, false, List, [], Option, Some, None, refl, arith}
use Rattle.std.specs.Prelude.{slice_get}
use Rattle.std.specs.Ordering.{is_gt, nat_cmp, ordering_then}
use Rattle.std.specs.declared.ops.Bound.TheVariants.{Included, Unbounded}
use Rattle.std.specs.BTreeMap as tree
use Rattle.std.specs.BTreeMap.{BTreeMap}
use Rattle.std.specs.BTreeMap.Range.{IsRangeOf, IsLeBy}
use Rattle.std.specs.BTreeSet.{BTreeSet, IsKeyRangeOf}
use Rattle.std.proofs.lemmas.Bool.Decides.{nat_tests}
use Rattle.ft_cells.specs.CellTables.{crossing, crossing_cmp, is_among}
use Rattle.ft_cells.specs.declared.crossings.Crossing.{Crossing}
use Rattle.ft_cells.specs.Indexed.{has_place}

on_lines : (line count i across : ℕ) → is_among line count i ≡ true → is_gt (ordering_then (nat_cmp line i) (nat_cmp 0 across)) ≡ false
on_lines line count i across h = grind (arith, nat_tests)

past_lines : (line count i j k across : ℕ) → is_gt (ordering_then (nat_cmp line i) (nat_cmp 0 j)) ≡ false → count ≤ i - line
    → is_gt (ordering_then (nat_cmp i k) (nat_cmp j across)) ≡ false → is_among line count k ≡ true → ⊥
past_lines line count i j k across from past behind among = grind (arith, nat_tests)

-- ---- entries by place

module _ {X : Type 0} (m : BTreeMap Crossing X) (r : List (Crossing × X)) (line : ℕ)
    (is : IsRangeOf crossing_cmp (Included (crossing line 0)) Unbounded m r) where
  pub no_entry-empty : (count : ℕ) → r ≡ [] → (i across : ℕ) → is_among line count i ≡ true → tree.get crossing_cmp m (crossing i across) ≡ None
  no_entry-empty count h i across among = is.5 h (crossing i across) (on_lines line count i across among, tt)

  pub no_entry-other : (count : ℕ) (e : Crossing × X) → slice_get r 0 ≡ Some e → count ≤ e.0.line - line → (i across : ℕ)
      → is_among line count i ≡ true → tree.get crossing_cmp m (crossing i across) ≡ None
  no_entry-other count e first other i across among = step (tree.get crossing_cmp m (crossing i across)) refl
    where
      step : (o : Option X) → tree.get crossing_cmp m (crossing i across) ≡ o → o ≡ None
      step None h = refl
      step (Some x) h =
          let first_is : IsLeBy crossing_cmp e.0 (crossing i across) =
          rw first at (is.2 (crossing i across) (on_lines line count i across among, tt) (rw h refl)) in
          let from : IsLeBy crossing_cmp (crossing line 0) e.0 = (rw first at is.1).0.0 in
          absurd (past_lines line count e.0.line e.0.across i across from other first_is among)

-- ---- places alone

module _ (m : BTreeSet Crossing) (r : List Crossing) (line : ℕ) (is : IsKeyRangeOf crossing_cmp (Included (crossing line 0)) Unbounded m r) where
  pub no_place-empty : (count : ℕ) → r ≡ [] → (i across : ℕ) → is_among line count i ≡ true → has_place m i across ≡ false
  no_place-empty count h i across among = is.5 h (crossing i across) (on_lines line count i across among, tt)

  pub no_place-other : (count : ℕ) (e : Crossing) → slice_get r 0 ≡ Some e → count ≤ e.line - line → (i across : ℕ)
      → is_among line count i ≡ true → has_place m i across ≡ false
  no_place-other count e first other i across among = step (has_place m i across) refl
    where
      step : (b : Bool) → has_place m i across ≡ b → b ≡ false
      step false h = refl
      step true h =
          let first_is : IsLeBy crossing_cmp e (crossing i across) = rw first at (is.2 (crossing i across) (on_lines line count i across among, tt) h) in
          let from : IsLeBy crossing_cmp (crossing line 0) e = (rw first at is.1).0.0 in
          absurd (past_lines line count e.line e.across i across from other first_is among)
