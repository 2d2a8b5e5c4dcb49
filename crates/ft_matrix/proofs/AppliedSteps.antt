-- Operations of a message, one after another.
use Rattle.std.proofs.Common.{◌≡◌, ℕ, zero, suc, ◌+◌, ◌≤◌, ◌<◌, Bool, true, false, List, [], ◌∷◌, refl, sym, ◌∙◌, ap, subst, map, drop, length, get_or, arith}
use Rattle.std.specs.List.{AllByRecursion}
use Rattle.ft_op.specs.declared.operations.CellOp.{CellOp}
use Rattle.ft_op.specs.Operation.{OnGrid}
use Rattle.ft_op.specs.Document.{Document, effects, grid_effect}
use Rattle.ft_op.specs.Stages.{Stage}
use Rattle.ft_matrix.specs.declared.grid.Grid.{Grid}
use Rattle.ft_matrix.specs.Applied.{Holds, Passes, PassesSome, skips}

next-place : (i : ℕ) → suc i + 1 ≡ suc (i + 1)
next-place i = omega arith

-- the item at a place and those behind it
pub drop-item : {A : Type 0} (xs : List A) (i : ℕ) (x : A) → i < length xs → x ≡ get_or xs i x → drop i xs ≡ x ∷ drop (i + 1) xs
drop-item [] i x l e = absurd (omega arith)
drop-item (y ∷ ys) zero x l e = ap (λ z. z ∷ ys) (sym e)
drop-item (y ∷ ys) (suc i) x l e = drop-item ys i x (omega arith) e ∙ ap (λ n. x ∷ drop n (y ∷ ys)) (sym (next-place i))

pub drop-all : {A : Type 0} (xs : List A) (i : ℕ) → length xs ≤ i → drop i xs ≡ []
drop-all [] zero l = refl
drop-all [] (suc i) l = refl
drop-all (x ∷ xs) zero l = absurd (omega arith)
drop-all (x ∷ xs) (suc i) l = drop-all xs i (omega arith)

pub all-rest : {A : Type 0} (P : A → Type 0) (xs : List A) (i : ℕ) (x : A) → i < length xs → x ≡ get_or xs i x
    → AllByRecursion P (drop i xs) → P x × AllByRecursion P (drop (i + 1) xs)
all-rest P xs i x l e a = subst (AllByRecursion P) (drop-item xs i x l e) a

module _ (last s c r : ℕ) where
  -- one more of them
  pub one-more : (now later : Grid) (all : List CellOp) (i : ℕ) (op : CellOp) (doc : Document) (stages : List Stage) (count n k : ℕ) → n ≡ count + k
      → i < length all → op ≡ get_or all i op
      → ((d : Document) → Holds last now d stages → Passes last later d (grid_effect d s c r op) stages k)
      → PassesSome last s c r now all (drop i all) doc stages count → PassesSome last s c r later all (drop (i + 1) all) doc stages n
  one-more now later all i op doc stages count n k e l g f p =
      let q = f p.between p.passes.now in
      record {
        between = grid_effect p.between s c r op;
        passes = record { now = q.now; skipped = skipped _ _ _ q.skipped p.passes.skipped };
        same = ap (λ os. effects p.between s c r (map (λ o. OnGrid o) os)) (sym (drop-item all i op l g)) ∙ p.same;
      }
    where
      skipped : (a b d : ℕ) → a ≡ b + k → b ≡ d + count → a ≡ d + n
      skipped a b d x y = omega arith

  -- all of them
  pub all-done : (now : Grid) (all : List CellOp) (i : ℕ) (doc : Document) (stages : List Stage) (count : ℕ) → length all ≤ i
      → PassesSome last s c r now all (drop i all) doc stages count → Passes last now doc (effects doc s c r (map (λ o. OnGrid o) all)) stages count
  all-done now all i doc stages count l p =
      let e = sym (ap (λ os. effects p.between s c r (map (λ o. OnGrid o) os)) (drop-all all i l)) ∙ p.same in
      subst (λ d. Passes last now doc d stages count) e p.passes

-- what is skipped
pub skipped-one : (taken : Bool) (count sum n : ℕ) → taken ≡ false → sum ≡ count + 1 → n ≡ sum → n ≡ count + skips taken
skipped-one false count sum n h e f = omega arith
skipped-one true count sum n h e f = (cc)

plus-zero : (n : ℕ) → n ≡ n + 0
plus-zero n = omega arith

pub skipped-none : (taken : Bool) (count n : ℕ) → taken ≡ true → n ≡ count → n ≡ count + skips taken
skipped-none true count n h f = f ∙ plus-zero count
skipped-none false count n h f = (cc)
