-- The handles that a view sees, leaf by leaf: where a search finds a leaf, its run stands there.
use Rattle.std.proofs.Common.{◌≡◌, ℕ, suc, ◌+◌, ◌-◌, ◌<◌, ◌≤◌, Bool, true, false, cond, nat_eq, nat_le, List, [], ◌∷◌, ◌++◌, length, Option, Some, None, map}
use Rattle.std.proofs.Common.{refl, sym, subst, ◌∙◌, ap, arith, append_assoc, length-append}
use Rattle.std.proofs.lemmas.Bool.Decides.{nat_tests}
use Rattle.std.specs.Option.{option_map}
use Rattle.ft_base.specs.Scan.{retain_map}
use Rattle.ft_base.proofs.ScanLaws.{retain_map-append}
use Rattle.ft_block.specs.declared.blocks.Found.{Found}
use Rattle.ft_block.specs.declared.leaves.LenView.{LenView}
use Rattle.ft_block.specs.Leaves.{IsLeafIn, place_by, place_from, sees_in, times_leaf, value_at}
use Rattle.ft_tree_leaves.specs.declared.leaves.TreeLeaf.{TreeLeaf}
use Rattle.ft_tree_leaves.specs.Elements.{element_with, seen_in}
use Rattle.ft_tree_leaves.specs.LeafLists.{elements, leaf_elements, leaf_length}
use Rattle.ft_perm.specs.Handles.{HandleRun, handles_of, numbers_from, rear_run}
use Rattle.ft_perm.specs.HandleLaws.{append-numbers_from, length-numbers_from}
use Rattle.ft_perm.specs.Vectors.{RunStandsAt}

abbrev pub Leaves : Type 0
Leaves = List (ℕ × TreeLeaf HandleRun)

-- the handles of the leaf that the view sees: all or none
abbrev pub shown_run : LenView → TreeLeaf HandleRun → List ℕ
shown_run view x = cond (sees_in view x.stamps) (handles_of x.content) []

-- those of all leaves
abbrev pub shown_runs : LenView → Leaves → List ℕ
shown_runs view leaves = retain_map (seen_in view) (λ e. e.unit) (elements handles_of (λ x. None) leaves)

retain-units : (view : LenView) (x : TreeLeaf HandleRun) (us : List ℕ) (b : Bool) → sees_in view x.stamps ≡ b
    → retain_map (seen_in view) (λ e. e.unit) (map (element_with x.stamps None x.overlay) us) ≡ cond b us []
retain-units view x [] true e = refl
retain-units view x [] false e = refl
retain-units view x (u ∷ us) true e = rw e (ap (λ zs. u ∷ zs) (retain-units view x us true e))
retain-units view x (u ∷ us) false e = rw e (retain-units view x us false e)

pub shown_runs-more : (view : LenView) (x : ℕ × TreeLeaf HandleRun) (leaves : Leaves)
    → shown_runs view (x ∷ leaves) ≡ shown_run view x.1 ++ shown_runs view leaves
shown_runs-more view x leaves =
    retain_map-append (seen_in view) (λ e. e.unit) (leaf_elements handles_of (λ x. None) x.1) (elements handles_of (λ x. None) leaves)
    ∙ ap (λ zs. zs ++ shown_runs view leaves) (retain-units view x.1 (handles_of x.1.content) (sees_in view x.1.stamps) refl)

length-shown_run : (view : LenView) (x : TreeLeaf HandleRun) → leaf_length handles_of view x ≡ length (shown_run view x)
length-shown_run view x = step (sees_in view x.stamps)
  where
    step : (b : Bool) → cond b (length (handles_of x.content)) 0 ≡ length (cond b (handles_of x.content) [])
    step true = refl
    step false = refl

length-retain : {A B : Type 0} (keep : A → Bool) (f : A → B) (xs : List A) → length (retain_map keep f xs) ≤ length xs
length-retain keep f [] = omega arith
length-retain keep f (x ∷ xs) = step (keep x) (length-retain keep f xs)
  where
    step : (b : Bool) → length (retain_map keep f xs) ≤ length xs → length (cond b (f x ∷ retain_map keep f xs) (retain_map keep f xs)) ≤ suc (length xs)
    step true h = omega arith
    step false h = omega arith

pub length-shown_runs : (view : LenView) (leaves : Leaves) → length (shown_runs view leaves) ≤ length (elements handles_of (λ x. None) leaves)
length-shown_runs view leaves = length-retain (seen_in view) (λ e. e.unit) (elements handles_of (λ x. None) leaves)

-- ---- what a search finds

pub record FindsRun (view : LenView) (leaves : Leaves) (p id offset : ℕ) : Type 0 where
  pub live : IsLeafIn leaves id
  pub low : 1 ≤ offset
  pub inside : (x : TreeLeaf HandleRun) → value_at leaves id ≡ Some x → offset ≤ x.content.count
  pub stands : (x : TreeLeaf HandleRun) → value_at leaves id ≡ Some x → RunStandsAt p (rear_run x.content (offset - 1)) (shown_runs view leaves)

-- a place within the first leaf
stands_first : (view : LenView) (x : ℕ × TreeLeaf HandleRun) (leaves : Leaves) (p : ℕ) (b : Bool) → sees_in view x.1.stamps ≡ b
    → suc p ≤ length (cond b (handles_of x.1.content) [])
    → (suc p ≤ x.1.content.count) × RunStandsAt p (rear_run x.1.content p) (shown_runs view (x ∷ leaves))
stands_first view x leaves p false e h = absurd (omega arith)
stands_first view x leaves p true e h =
    let first = x.1.content.first in
    let count = x.1.content.count in
    let within : suc p ≤ count = omega (arith, length-numbers_from first count) in
    let parts : numbers_from first count ≡ numbers_from first p ++ numbers_from (first + p) (count - p) = append-numbers_from first p (first + p)
    (count - p) count refl (omega arith) in (
      within,
      record {
        left = numbers_from first p;
        right = shown_runs view leaves;
        is =
            shown_runs-more view x leaves ∙ ap (λ b. cond b (numbers_from first count) [] ++ shown_runs view leaves) e ∙ ap (λ us. us ++ shown_runs view leaves) parts
            ∙ append_assoc (numbers_from first p) (numbers_from (first + p) (count - p)) (shown_runs view leaves);
        place = length-numbers_from first p;
      },
    )

-- a place behind it
stands_behind : (view : LenView) (x : ℕ × TreeLeaf HandleRun) (leaves : Leaves) (p q : ℕ) (run : HandleRun) → p ≡ length (shown_run view x.1) + q
    → RunStandsAt q run (shown_runs view leaves)
    → RunStandsAt p run (shown_runs view (x ∷ leaves))
stands_behind view x leaves p q run e s = record {
  left = shown_run view x.1 ++ s.left;
  right = s.right;
  is = shown_runs-more view x leaves ∙ ap (λ us. shown_run view x.1 ++ us) s.is
      ∙ sym (append_assoc (shown_run view x.1) s.left (handles_of run ++ s.right));
  place = length-append (shown_run view x.1) s.left ∙ ap (λ n. length (shown_run view x.1) + n) s.place ∙ sym e;
}

same_leaf : (x : ℕ × TreeLeaf HandleRun) (leaves : Leaves) (y : TreeLeaf HandleRun) → value_at (x ∷ leaves) x.0 ≡ Some y → x.1 ≡ y
same_leaf x leaves y h = let b : nat_eq x.0 x.0 ≡ true = grind (arith, nat_tests) in let e : Some x.1 ≡ Some y = rw b at h in (cc)

other_leaf : (x : ℕ × TreeLeaf HandleRun) (leaves : Leaves) (id : ℕ) (y : TreeLeaf HandleRun) → times_leaf (x ∷ leaves) id ≤ 1 → IsLeafIn leaves id
    → value_at (x ∷ leaves) id ≡ Some y
    → value_at leaves id ≡ Some y
other_leaf x leaves id y once live h = step (nat_eq x.0 id) once h
  where
    step : (b : Bool) → cond b 1 0 + times_leaf leaves id ≤ 1 → cond b (Some x.1) (value_at leaves id) ≡ Some y → value_at leaves id ≡ Some y
    step true o e = absurd (omega (arith, o, live))
    step false o e = e

still : (b : Bool) (n : ℕ) → 1 ≤ n → 1 ≤ cond b 1 0 + n
still true n h = omega arith
still false n h = omega arith

pub finds_run : (view : LenView) (leaves : Leaves) (p q id offset : ℕ) → q ≡ suc p → ((i : ℕ) → times_leaf leaves i ≤ 1)
    → place_from (leaf_length handles_of view) leaves q ≡ Some record { leaf = Some id; offset = offset } → FindsRun view leaves p id offset
finds_run view [] p q id offset same once h = absurd cc
finds_run view (x ∷ leaves) p q id offset same once h =
    step (nat_le q (leaf_length handles_of view x.1)) refl h
    (λ e. finds_run view leaves (p - leaf_length handles_of view x.1) (q - leaf_length handles_of view x.1) id offset e (λ i. fewer (nat_eq x.0 i) i (once i)))
  where
    fewer : (b : Bool) (i : ℕ) → cond b 1 0 + times_leaf leaves i ≤ 1 → times_leaf leaves i ≤ 1
    fewer true i o = omega arith
    fewer false i o = omega arith

    step : (b : Bool) → nat_le q (leaf_length handles_of view x.1) ≡ b
        → cond b (Some record { leaf = Some x.0; offset = q }) (place_from (leaf_length handles_of view) leaves (q - leaf_length handles_of view x.1))
        ≡ Some record { leaf = Some id; offset = offset }
        → (q - leaf_length handles_of view x.1 ≡ suc (p - leaf_length handles_of view x.1)
        → place_from (leaf_length handles_of view) leaves (q - leaf_length handles_of view x.1) ≡ Some record { leaf = Some id; offset = offset }
        → FindsRun view leaves (p - leaf_length handles_of view x.1) id offset)
        → FindsRun view (x ∷ leaves) p id offset
    step true le is rest =
        let asked : Found = record { leaf = Some x.0; offset = q } in
        let found_there : Found = record { leaf = Some id; offset = offset } in
        let both : asked ≡ found_there = cc in
        let leaf : Some x.0 ≡ Some id = ap (λ (f : Found). f.leaf) both in
        let node : x.0 ≡ id = cc in
        let at : q ≡ offset = ap (λ (f : Found). f.offset) both in
        let here : nat_eq x.0 id ≡ true = grind (arith, nat_tests) in
        let within : q ≤ leaf_length handles_of view x.1 = grind (arith, nat_tests) in
        let found = stands_first view x leaves p (sees_in view x.1.stamps) refl (omega (arith, within, length-shown_run view x.1)) in
        let before : p ≡ offset - 1 = omega arith in
        record {
          live = rw here (omega arith);
          low = omega arith;
          inside = λ y v.
              let leaf : x.1 ≡ y = same_leaf x leaves y (ap (λ i. value_at (x ∷ leaves) i) node ∙ v) in
              let count : x.1.content.count ≡ y.content.count = ap (λ z. z.content.count) leaf in
              omega (arith, found.0, count);
          stands = λ y v.
              let leaf : x.1 ≡ y = same_leaf x leaves y (ap (λ i. value_at (x ∷ leaves) i) node ∙ v) in
              subst (λ z. RunStandsAt p (rear_run z.content (offset - 1)) (shown_runs view (x ∷ leaves))) leaf
              (subst (λ n. RunStandsAt p (rear_run x.1.content n) (shown_runs view (x ∷ leaves))) before found.1);
        }
    step false le is rest =
        let past : leaf_length handles_of view x.1 < q = grind (arith, nat_tests) in
        let size = length-shown_run view x.1 in
        let found : FindsRun view leaves (p - leaf_length handles_of view x.1) id offset = rest (omega arith) is in
        record {
          live = still (nat_eq x.0 id) (times_leaf leaves id) found.live;
          low = found.low;
          inside = λ y v. found.inside y (other_leaf x leaves id y (once id) found.live v);
          stands = λ y v.
              stands_behind view x leaves p (p - leaf_length handles_of view x.1) (rear_run y.content (offset - 1)) (omega (arith, past, size))
              (found.stands y (other_leaf x leaves id y (once id) found.live v));
        }

pub finds_none : (view : LenView) (leaves : Leaves) (p q : ℕ) → q ≡ suc p → place_from (leaf_length handles_of view) leaves q ≡ None
    → length (shown_runs view leaves) ≤ p
finds_none view [] p q same h = omega arith
finds_none view (x ∷ leaves) p q same h =
    step (nat_le q (leaf_length handles_of view x.1)) refl h (λ e. finds_none view leaves (p - leaf_length handles_of view x.1) (q - leaf_length handles_of view x.1) e)
  where
    step : (b : Bool) → nat_le q (leaf_length handles_of view x.1) ≡ b
        → cond b (Some record { leaf = Some x.0; offset = q }) (place_from (leaf_length handles_of view) leaves (q - leaf_length handles_of view x.1)) ≡ None
        → (q - leaf_length handles_of view x.1 ≡ suc (p - leaf_length handles_of view x.1)
        → place_from (leaf_length handles_of view) leaves (q - leaf_length handles_of view x.1) ≡ None
        → length (shown_runs view leaves) ≤ p - leaf_length handles_of view x.1)
        → length (shown_runs view (x ∷ leaves)) ≤ p
    step true le is rest = absurd cc
    step false le is rest =
        let past : leaf_length handles_of view x.1 < q = grind (arith, nat_tests) in
        let behind : length (shown_runs view leaves) ≤ p - leaf_length handles_of view x.1 = rest (omega arith) is in
        omega (
          arith,
          past,
          behind,
          length-shown_run view x.1,
          ap length (shown_runs-more view x leaves),
          length-append (shown_run view x.1) (shown_runs view leaves),
        )

pub finds_leaf : (view : LenView) (leaves : Leaves) (q : ℕ) (found : Found)
    → place_from (leaf_length handles_of view) leaves q ≡ Some found → found.leaf ≡ None → ⊥
finds_leaf view [] q found h none = absurd cc
finds_leaf view (x ∷ leaves) q found h none = step (nat_le q (leaf_length handles_of view x.1)) h (finds_leaf view leaves (q - leaf_length handles_of view x.1) found)
  where
    step : (b : Bool) → cond b (Some record { leaf = Some x.0; offset = q }) (place_from (leaf_length handles_of view) leaves (q - leaf_length handles_of view x.1)) ≡ Some found
        → (place_from (leaf_length handles_of view) leaves (q - leaf_length handles_of view x.1) ≡ Some found → found.leaf ≡ None → ⊥) → ⊥
    step true is rest = absurd cc
    step false is rest = rest is none

-- the place that is asked, counted from 1
pub place_past : (view : LenView) (leaves : Leaves) (p q : ℕ) → q ≡ p + 1
    → place_by (leaf_length handles_of view) leaves q ≡ place_from (leaf_length handles_of view) leaves q
place_past view leaves p q e =
    let b : nat_eq q 0 ≡ false = grind (arith, nat_tests) in
    ap (λ b. cond b (Some (let f : Found = record { leaf = None; offset = 0 } in f)) (place_from (leaf_length handles_of view) leaves q)) b

pub finds_run-asked : (view : LenView) (leaves : Leaves) (p q : ℕ) (result : Option Found) (found : Found) (leaf : ℕ) → q ≡ p + 1
    → ((i : ℕ) → times_leaf leaves i ≤ 1)
    → result ≡ place_by (leaf_length handles_of view) leaves q → result ≡ Some found → found.leaf ≡ Some leaf → FindsRun view leaves p leaf found.offset
finds_run-asked view leaves p q result found leaf e once is was node =
    finds_run view leaves p q leaf found.offset (omega arith) once
    (sym (place_past view leaves p q e) ∙ sym is ∙ was ∙ ap (λ o. Some (let f : Found = record { leaf = o; offset = found.offset } in f)) node)

pub found_run : (view : LenView) (leaves : Leaves) (p leaf offset : ℕ) (run : HandleRun) → FindsRun view leaves p leaf offset
    → option_map (λ x. x.content) (value_at leaves leaf) ≡ Some run
    → (offset ≤ run.count) × RunStandsAt p (rear_run run (offset - 1)) (shown_runs view leaves)
found_run view leaves p leaf offset run found is = step (value_at leaves leaf) refl is
  where
    step : (o : Option (TreeLeaf HandleRun)) → value_at leaves leaf ≡ o → option_map (λ x. x.content) o ≡ Some run
        → (offset ≤ run.count) × RunStandsAt p (rear_run run (offset - 1)) (shown_runs view leaves)
    step None v e = absurd cc
    step (Some x) v e =
        let same : x.content ≡ run = cc in
        subst (λ r. (offset ≤ r.count) × RunStandsAt p (rear_run r (offset - 1)) (shown_runs view leaves)) same (found.inside x v, found.stands x v)
