-- One cell that is written: the places by column and by stage hold for the cells after it.
use Rattle.std.proofs.Common.{◌≡◌, ℕ, ◌<◌, Bool, true, false, cond, ◌&&◌, ◌||◌, nat_eq, List, [], ◌∷◌, Option, Some, All, refl, sym, ◌∙◌, ap, arith}
use Rattle.std.specs.Prelude.{Result, Ok, Err, OnOk, OnErr}
use Rattle.std.specs.Ordering.{is_eq, nat_cmp}
use Rattle.std.specs.BTreeMap as tree
use Rattle.std.specs.BTreeMap.{BTreeMap}
use Rattle.std.specs.BTreeSet.{BTreeSet}
use Rattle.std.proofs.lemmas.Bool.Decides.{nat_tests}
use Rattle.std.proofs.lemmas.List.Folds.{list_any-append}
use Rattle.ft_cells.specs.declared.crossings.Crossing.{Crossing}
use Rattle.ft_cells.specs.CellTables.{CellState, CellTable, changed_cell, crossing, crossing_cmp, empty_cell, has_write, with_acked, with_write}
use Rattle.ft_cells.specs.Indexed.{IsIndexed, has_place}
use Rattle.ft_cells.proofs.CellEntries.{same_crossing, same_place}
use Rattle.ft_cells.proofs.StagedWrites.{any-fresh, unmoved}

columned-kept : (row col r c : ℕ) (old new : CellState) (had has : Bool) → has ≡ cond (is_eq (crossing_cmp (crossing col row) (crossing c r))) true had
    → (had ≡ false → old ≡ empty_cell) → new ≡ old → has ≡ false → new ≡ empty_cell
columned-kept row col r c old new had has more before same none = same ∙ before (step (is_eq (crossing_cmp (crossing col row) (crossing c r))) had more)
  where
    step : (b h : Bool) → has ≡ cond b true h → h ≡ false
    step true h e = (cc)
    step false h e = sym e ∙ none

columned-write : (f : CellState → CellState) (row col r c : ℕ) (old new : CellState) (had has : Bool)
    → has ≡ cond (is_eq (crossing_cmp (crossing col row) (crossing c r))) true had
    → (had ≡ false → old ≡ empty_cell) → new ≡ cond (nat_eq r row && nat_eq c col) (f old) old → has ≡ false → new ≡ empty_cell
columned-write f row col r c old new had has more before is none = step (nat_eq r row) (nat_eq c col) had (more ∙ ap (λ b. cond b true had) (same_place col row c r)) is before
  where
    step : (x y h : Bool) → has ≡ cond (y && x) true h → new ≡ cond (x && y) (f old) old → (h ≡ false → old ≡ empty_cell) → new ≡ empty_cell
    step true true h e i b = (cc)
    step true false h e i b = i ∙ b (sym e ∙ none)
    step false true h e i b = i ∙ b (sym e ∙ none)
    step false false h e i b = i ∙ b (sym e ∙ none)

-- ---- the acknowledged value

has_write-acked : (v : List ℕ) (j : ℕ) (b : Bool) (x : CellState) → has_write j (cond b (with_acked v x) x) ≡ has_write j x
has_write-acked v j true x = refl
has_write-acked v j false x = refl

pub indexed-acked : (v : List ℕ) (row col : ℕ) (old new : CellTable) (columns more : BTreeSet Crossing) (stages : BTreeMap ℕ Crossing)
    → IsIndexed old columns stages → ((r c : ℕ) → has_place more c r ≡ cond (is_eq (crossing_cmp (crossing col row) (crossing c r))) true (has_place columns c r))
    → ((r c : ℕ) → new r c ≡ changed_cell row col (with_acked v) old r c) → IsIndexed new more stages
indexed-acked v row col old new columns more stages was one is = record {
  columned = λ r c h. columned-write (with_acked v) row col r c (old r c) (new r c) (has_place columns c r) (has_place more c r) (one r c) (was.columned r c) (is r c) h;
  staged = λ r c j h. was.staged r c j (sym (ap (has_write j) (is r c) ∙ has_write-acked v j (nat_eq r row && nat_eq c col) (old r c)) ∙ h);
}

-- ---- where nothing was written

pub indexed-kept : (row col : ℕ) (old new : CellTable) (columns more : BTreeSet Crossing) (stages left : BTreeMap ℕ Crossing)
    → IsIndexed old columns stages → ((r c : ℕ) → has_place more c r ≡ cond (is_eq (crossing_cmp (crossing col row) (crossing c r))) true (has_place columns c r))
    → ((r c : ℕ) → new r c ≡ old r c) → ((r c j : ℕ) → has_write j (old r c) ≡ true → tree.get nat_cmp left j ≡ tree.get nat_cmp stages j)
    → IsIndexed new more left
indexed-kept row col old new columns more stages left was one is same = record {
  columned = λ r c h. columned-kept row col r c (old r c) (new r c) (has_place columns c r) (has_place more c r) (one r c) (was.columned r c) (is r c) h;
  staged = λ r c j h. let there : has_write j (old r c) ≡ true = sym (ap (has_write j) (is r c)) ∙ h in same r c j there ∙ was.staged r c j there;
}

-- ---- a pending write of a stage above all others

other_stage : (k j : ℕ) (x : CellState) → All (λ w. w.0 < k) x.pending → has_write j x ≡ true → nat_eq k j ≡ false
other_stage k j x below has = step (nat_eq k j) refl
  where
    step : (b : Bool) → nat_eq k j ≡ b → b ≡ false
    step false e = refl
    step true e =
        let same : k ≡ j = grind (arith, nat_tests) in
        let none : has_write j x ≡ false = ap (λ i. has_write i x) (sym same) ∙ any-fresh k x.pending below in
        (cc)

-- the places by stage with one more are those of before for the stages that were pending
pub stages_stay : (k j : ℕ) (x : CellState) (place : Crossing) (stages left : Option Crossing) → All (λ w. w.0 < k) x.pending
    → left ≡ cond (is_eq (nat_cmp k j)) (Some place) stages → has_write j x ≡ true → left ≡ stages
stages_stay k j x place stages left below more has = unmoved k j (Some place) stages left more (other_stage k j x below has)

pub indexed-pending : (k : ℕ) (v : List ℕ) (row col : ℕ) (old new : CellTable) (columns more : BTreeSet Crossing) (stages left : BTreeMap ℕ Crossing)
    → ((r c : ℕ) → All (λ w. w.0 < k) (old r c).pending)
    → IsIndexed old columns stages → ((r c : ℕ) → has_place more c r ≡ cond (is_eq (crossing_cmp (crossing col row) (crossing c r))) true (has_place columns c r))
    → ((j : ℕ) → tree.get nat_cmp left j ≡ cond (is_eq (nat_cmp k j)) (Some (crossing row col)) (tree.get nat_cmp stages j))
    → ((r c : ℕ) → new r c ≡ changed_cell row col (with_write k v) old r c) → IsIndexed new more left
indexed-pending k v row col old new columns more stages left below was one put is = record {
  columned = λ r c h. columned-write (with_write k v) row col r c (old r c) (new r c) (has_place columns c r) (has_place more c r) (one r c) (was.columned r c) (is r c) h;
  staged = λ r c j h. step r c j (nat_eq r row && nat_eq c col) refl (sym (ap (has_write j) (is r c)) ∙ h);
}
  where
    before : (r c j : ℕ) → has_write j (old r c) ≡ true → tree.get nat_cmp left j ≡ Some (crossing r c)
    before r c j h = stages_stay k j (old r c) (crossing row col) (tree.get nat_cmp stages j) (tree.get nat_cmp left j) (below r c) (put j) h ∙ was.staged r c j h

    here : (r c j : ℕ) (b : Bool) → nat_eq k j ≡ b → crossing row col ≡ crossing r c → (has_write j (old r c) || (b || false)) ≡ true
        → tree.get nat_cmp left j ≡ Some (crossing r c)
    here r c j true e same h =
        let b : is_eq (nat_cmp k j) ≡ true = grind (arith, nat_tests) in
        put j ∙ ap (λ b. cond b (Some (crossing row col)) (tree.get nat_cmp stages j)) b ∙ ap Some same
    here r c j false e same h = let there : has_write j (old r c) ≡ true = grind (arith, nat_tests) in before r c j there

    step : (r c j : ℕ) (b : Bool) → (nat_eq r row && nat_eq c col) ≡ b → has_write j (cond b (with_write k v (old r c)) (old r c)) ≡ true
        → tree.get nat_cmp left j ≡ Some (crossing r c)
    step r c j false e h = before r c j h
    step r c j true e h =
        here r c j (nat_eq k j) refl (same_crossing row col r c e) (sym (list_any-append (λ w. nat_eq w.0 j) (old r c).pending ((k, v) ∷ [])) ∙ h)

-- a fact that follows whether a call ended well or not
pub either : {T E P Q Z : Type 0} (r : Result T E) → OnOk r P → OnErr r Q → (P → Z) → (Q → Z) → Z
either (Ok x) p q f g = f p
either (Err y) p q f g = g q
