-- Writes by their stages: what a step on the write of one stage does to cells that have none, and to the places by column
-- and by stage.
use Rattle.std.proofs.Common.{◌≡◌, ℕ, ◌<◌, Bool, true, false, cond, ◌&&◌, not, nat_eq, List, [], ◌∷◌, Option, Some, None, All, refl, sym, ◌∙◌, ap, arith}
use Rattle.std.specs.Prelude.{filter}
use Rattle.std.specs.List.{list_any}
use Rattle.std.specs.Map.{lookup}
use Rattle.std.specs.Ordering.{is_eq, nat_cmp}
use Rattle.std.specs.Option.{option_or}
use Rattle.std.specs.BTreeMap as tree
use Rattle.std.specs.BTreeMap.{BTreeMap}
use Rattle.std.specs.BTreeSet.{BTreeSet}
use Rattle.std.proofs.lemmas.Bool.Decides.{nat_tests}
use Rattle.std.proofs.lemmas.List.Elements.{All-head, All-tail}
use Rattle.ft_cells.specs.declared.crossings.Crossing.{Crossing}
use Rattle.ft_cells.specs.CellTables.{CellState, CellTable, acked_write, changed_cell, crossing, empty_cell, has_write, without_write}
use Rattle.ft_cells.specs.Indexed.{IsIndexed}
use Rattle.ft_cells.proofs.Writes.{Writes}

-- ---- lists of writes

lookup-absent : (k : ℕ) (ws : Writes) → list_any (λ w. nat_eq w.0 k) ws ≡ false → lookup (λ j. nat_eq j k) ws ≡ None
lookup-absent k [] h = refl
lookup-absent k (x ∷ ws) h = grind (arith, nat_tests, lookup-absent k ws)

filter-absent : (k : ℕ) (ws : Writes) → list_any (λ w. nat_eq w.0 k) ws ≡ false → filter (λ w. not (nat_eq w.0 k)) ws ≡ ws
filter-absent k [] h = refl
filter-absent k (x ∷ ws) h = grind (arith, nat_tests, filter-absent k ws)

any-filter : (j k : ℕ) (ws : Writes) → list_any (λ w. nat_eq w.0 j) (filter (λ w. not (nat_eq w.0 k)) ws) ≡ true → list_any (λ w. nat_eq w.0 j) ws ≡ true
any-filter j k [] h = h
any-filter j k (x ∷ ws) h = grind (arith, nat_tests, any-filter j k ws)

any-filter-other : (j k : ℕ) (ws : Writes) → list_any (λ w. nat_eq w.0 j) (filter (λ w. not (nat_eq w.0 k)) ws) ≡ true → nat_eq k j ≡ false
any-filter-other j k [] h = (cc)
any-filter-other j k (x ∷ ws) h = grind (arith, nat_tests, any-filter-other j k ws)

pub any-fresh : (k : ℕ) (ws : Writes) → All (λ w. w.0 < k) ws → list_any (λ w. nat_eq w.0 k) ws ≡ false
any-fresh k [] h = refl
any-fresh k (x ∷ ws) h = let here : x.0 < k = All-head (λ w. w.0 < k) x ws h in grind (arith, nat_tests, any-fresh k ws (All-tail (λ w. w.0 < k) x ws h))

-- ---- a step on the write of one stage, which leaves what has none of that stage

pub record IsStageStep (k : ℕ) (f : CellState → CellState) : Type 0 where
  pub others : (x : CellState) → has_write k x ≡ false → f x ≡ x
  pub pending : (x : CellState) → (f x).pending ≡ filter (λ w. not (nat_eq w.0 k)) x.pending

pub without_write-step : (k : ℕ) → IsStageStep k (without_write k)
without_write-step k = record {
  others = λ x h. ap (λ (ws : Writes). let y : CellState = record { acked = x.acked; pending = ws } in y) (filter-absent k x.pending h);
  pending = λ x. refl;
}

pub acked_write-step : (k : ℕ) → IsStageStep k (acked_write k)
acked_write-step k = record {
  others = λ x h.
      ap (λ (ws : Writes). let y : CellState = record { acked = option_or (lookup (λ j. nat_eq j k) x.pending) x.acked; pending = ws } in y) (filter-absent k x.pending h)
      ∙ ap (λ (o : Option (List ℕ)). let y : CellState = record { acked = option_or o x.acked; pending = x.pending } in y) (lookup-absent k x.pending h);
  pending = λ x. refl;
}

same_test : (row col r c : ℕ) → crossing r c ≡ crossing row col → (nat_eq r row && nat_eq c col) ≡ true
same_test row col r c h =
    let e : r ≡ row = ap (λ x. x.line) h in
    let d : c ≡ col = ap (λ x. x.across) h in
    grind (arith, nat_tests)

-- changed at the place of that stage alone, the cells are all changed
pub stage_step : (k : ℕ) (f : CellState → CellState) → IsStageStep k f → (table : CellTable) (stages : Option Crossing) (row col r c : ℕ)
    → stages ≡ Some (crossing row col) → (has_write k (table r c) ≡ true → stages ≡ Some (crossing r c)) → changed_cell row col f table r c ≡ f (table r c)
stage_step k f is table stages row col r c place staged = step (has_write k (table r c)) refl
  where
    here : (b : Bool) → b ≡ true → cond b (f (table r c)) (table r c) ≡ f (table r c)
    here true h = refl
    here false h = (cc)

    both : (b : Bool) → f (table r c) ≡ table r c → cond b (f (table r c)) (table r c) ≡ f (table r c)
    both true h = refl
    both false h = sym h

    step : (b : Bool) → has_write k (table r c) ≡ b → changed_cell row col f table r c ≡ f (table r c)
    step true e = let same : crossing r c ≡ crossing row col = cc (staged e) in here (nat_eq r row && nat_eq c col) (same_test row col r c same)
    step false e = both (nat_eq r row && nat_eq c col) (is.others (table r c) e)

-- where no place is kept for that stage, no cell changes
pub stage_absent : (k : ℕ) (f : CellState → CellState) → IsStageStep k f → (x : CellState) (stages : Option Crossing) (r c : ℕ)
    → stages ≡ None → (has_write k x ≡ true → stages ≡ Some (crossing r c)) → x ≡ f x
stage_absent k f is x stages r c none staged = step (has_write k x) refl
  where
    step : (b : Bool) → has_write k x ≡ b → x ≡ f x
    step true e = let h : stages ≡ Some (crossing r c) = staged e in absurd cc
    step false e = sym (is.others x e)

-- the entry of another stage stays
pub unmoved : (k j : ℕ) (w old new : Option Crossing) → new ≡ cond (is_eq (nat_cmp k j)) w old → nat_eq k j ≡ false → new ≡ old
unmoved k j w old new is other = let b : is_eq (nat_cmp k j) ≡ false = grind (arith, nat_tests) in is ∙ ap (λ b. cond b w old) b

pub indexed-stage_step : (k : ℕ) (f : CellState → CellState) → IsStageStep k f
    → (old new : CellTable) (columns : BTreeSet Crossing) (stages left : BTreeMap ℕ Crossing)
    → IsIndexed old columns stages → f empty_cell ≡ empty_cell → ((r c : ℕ) → new r c ≡ f (old r c))
    → ((j : ℕ) → tree.get nat_cmp left j ≡ cond (is_eq (nat_cmp k j)) None (tree.get nat_cmp stages j)) → IsIndexed new columns left
indexed-stage_step k f is old new columns stages left was empty step out = record {
  columned = λ row col h. step row col ∙ ap f (was.columned row col h) ∙ empty;
  staged = λ row col j h.
      let there : list_any (λ w. nat_eq w.0 j) (filter (λ w. not (nat_eq w.0 k)) (old row col).pending) ≡ true =
      sym (ap (λ ws. list_any (λ (w : ℕ × List ℕ). nat_eq w.0 j) ws) (is.pending (old row col))) ∙ sym (ap (has_write j) (step row col)) ∙ h in
      unmoved k j None _ _ (out j) (any-filter-other j k (old row col).pending there) ∙ was.staged row col j (any-filter j k (old row col).pending there);
}
