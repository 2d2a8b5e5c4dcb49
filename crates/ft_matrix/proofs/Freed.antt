-- Handles that are freed one run after another, with the cells of their lines.
use Rattle.std.proofs.Common.{◌≡◌, ℕ, ◌+◌, ◌≤◌, All, Bool, true, false, cond, not, ◌&&◌, ◌||◌, List, [], ◌∷◌, ◌++◌, refl, sym, ◌∙◌, ap, subst, arith}
use Rattle.std.proofs.lemmas.Bool.{or_left, or_right}
use Rattle.std.proofs.lemmas.List.Elements.{All-from_recursion, recursion_from_All}
use Rattle.ft_base.specs.Scan.{one_more_if}
use Rattle.ft_tree_leaves.specs.Elements.{TreeElement}
use Rattle.ft_perm.specs.Handles.{HandleRun, in_run}
use Rattle.ft_perm.specs.Vectors.{IsProper, VectorState, in_use, times_held, vector_elements}
use Rattle.ft_op.specs.declared.operations.Target.{Target}
use Rattle.ft_op.specs.declared.operations.Target.TheVariants.{Rows, Cols}
use Rattle.ft_cells.specs.CellTables.{cell_at, empty_cell}
use Rattle.ft_matrix.specs.declared.grid.Grid.{Grid}
use Rattle.ft_matrix.specs.Compacted.{AreGone, ClearsRun, FreesUnits, is_in_runs, line_of}
use Rattle.ft_matrix.specs.Sides.{units_at, with_units_at}
use Rattle.ft_matrix.specs.Units.{units_of}
use Rattle.ft_matrix.proofs.SideLaws.{at-side, same-side, side-again, side-cells, side-rest}
use Rattle.ft_matrix.proofs.SoundVectors.{all-weaker}

-- ---- the lines of a run

module _ (run : HandleRun) (old mid : Grid) (target : Target) (clears : ClearsRun target run old mid) where
  pub freed-units : (v : VectorState)
      → ((h : ℕ) → in_use v h ≡ (in_use (units_at target mid) h && not (in_run h run))) → v.tree ≡ (units_at target mid).tree
      → v.next ≡ (units_at target mid).next
      → (All (λ (e : TreeElement ℕ). in_run e.unit run ≡ false) (units_of (units_at target mid)) → IsProper (units_at target mid) → IsProper v)
      → All (λ (e : TreeElement ℕ). in_run e.unit run ≡ false) (units_of (units_at target old)) → IsProper (units_at target old)
      → FreesUnits target (λ h. in_run h run) old (with_units_at target mid v)
  freed-units v used tree next proper gone p =
      freed-side (at-side target mid v) (side-cells target mid v)
      (ap (λ (x : Grid). units_at target x) clears.rest ∙ side-rest target old mid.cells) (side-again target old mid v clears.rest)
    where
      freed-side : units_at target (with_units_at target mid v) ≡ v → (with_units_at target mid v).cells ≡ mid.cells → units_at target mid ≡ units_at target old
          → with_units_at target mid v ≡ record (with_units_at target old v) { cells = mid.cells }
          → FreesUnits target (λ h. in_run h run) old (with_units_at target mid v)
      freed-side is same kept again = record {
        cells = λ r c. ap (λ t. cell_at t r c) same ∙ clears.cells r c;
        used = λ h. ap (λ w. in_use w h) is ∙ used h ∙ ap (λ w. in_use w h && not (in_run h run)) kept;
        tree = ap (λ (w : VectorState). w.tree) is ∙ tree ∙ ap (λ (w : VectorState). w.tree) kept;
        next = ap (λ (w : VectorState). w.next) is ∙ next ∙ ap (λ (w : VectorState). w.next) kept;
        proper = subst IsProper (sym is) (proper (subst (λ w. All (λ (e : TreeElement ℕ). in_run e.unit run ≡ false) (units_of w)) (sym kept) gone) (subst IsProper (sym kept) p));
        rest = again ∙ ap (λ t. record (with_units_at target old v) { cells = t }) (sym same)
            ∙ ap (λ w. record (with_units_at target old w) { cells = (with_units_at target mid v).cells }) (sym is);
      }

-- ---- one run after another

any-append : (h : ℕ) (xs : List HandleRun) (run : HandleRun) → is_in_runs (xs ++ (run ∷ [])) h ≡ (is_in_runs xs h || in_run h run)
any-append h [] run = or-false (in_run h run)
  where
    or-false : (b : Bool) → b || false ≡ b
    or-false true = refl
    or-false false = refl
any-append h (x ∷ xs) run = ap (λ b. in_run h x || b) (any-append h xs run) ∙ or-assoc (in_run h x) (is_in_runs xs h) (in_run h run)
  where
    or-assoc : (a b c : Bool) → a || (b || c) ≡ (a || b) || c
    or-assoc true b c = refl
    or-assoc false b c = refl

held-append : (h : ℕ) (xs : List HandleRun) (run : HandleRun) → times_held h (xs ++ (run ∷ [])) ≡ times_held h xs + one_more_if (in_run h run) 0
held-append h [] run = plus (one_more_if (in_run h run) 0)
  where
    plus : (n : ℕ) → n ≡ 0 + n
    plus n = omega arith
held-append h (x ∷ xs) run = step (in_run h x) (held-append h xs run)
  where
    step : (b : Bool) → times_held h (xs ++ (run ∷ [])) ≡ times_held h xs + one_more_if (in_run h run) 0
        → one_more_if b (times_held h (xs ++ (run ∷ []))) ≡ one_more_if b (times_held h xs) + one_more_if (in_run h run) 0
    step true e = omega (arith, e)
    step false e = e

pub held-some : (h : ℕ) (xs : List HandleRun) → is_in_runs xs h ≡ true → 1 ≤ times_held h xs
held-some h [] e = cc e
held-some h (x ∷ xs) e = step (in_run h x) e (held-some h xs)
  where
    step : (b : Bool) → b || is_in_runs xs h ≡ true → (is_in_runs xs h ≡ true → 1 ≤ times_held h xs) → 1 ≤ one_more_if b (times_held h xs)
    step true f k = omega arith
    step false f k = k f

-- a handle of the runs before isn't one of the last run
apart-runs : (h : ℕ) (xs : List HandleRun) (run : HandleRun) → times_held h (xs ++ (run ∷ [])) ≤ 1 → is_in_runs xs h ≡ true → in_run h run ≡ false
apart-runs h xs run l e = step (in_run h run) (subst (λ n. n ≤ 1) (held-append h xs run) l)
  where
    some : 1 ≤ times_held h xs
    some = held-some h xs e

    step : (b : Bool) → times_held h xs + one_more_if b 0 ≤ 1 → b ≡ false
    step true m = absurd (omega (arith, some, m))
    step false m = refl

pub none-left : (a b : Bool) → (a || b) ≡ false → a ≡ false
none-left true b h = h
none-left false b h = refl

pub none-right : (a b : Bool) → (a || b) ≡ false → b ≡ false
none-right true b h = cc h
none-right false b h = h

all-of : {A : Type 0} (P Q : A → Type 0) → ((x : A) → P x → Q x) → (xs : List A) → All P xs → All Q xs
all-of P Q f xs a = All-from_recursion Q xs (all-weaker P Q f xs (recursion_from_All P xs a))

-- ---- what is to be freed yet

module _ (xs : List HandleRun) (run : HandleRun) (v w : VectorState) (g : AreGone (xs ++ (run ∷ [])) v) where
  pub last-used : (h : ℕ) → in_run h run ≡ true → in_use v h ≡ true
  last-used h e = g.used h (any-append h xs run ∙ or_right (is_in_runs xs h) (in_run h run) e)

  pub last-gone : All (λ (e : TreeElement ℕ). in_run e.unit run ≡ false) (units_of v)
  last-gone = all-of (λ (e : TreeElement ℕ). is_in_runs (xs ++ (run ∷ [])) e.unit ≡ false) (λ (e : TreeElement ℕ). in_run e.unit run ≡ false)
      (λ e h. none-right (is_in_runs xs e.unit) (in_run e.unit run) (sym (any-append e.unit xs run) ∙ h)) (units_of v) g.gone

  pub rest-gone : ((h : ℕ) → in_use w h ≡ (in_use v h && not (in_run h run))) → w.tree ≡ v.tree → IsProper w → AreGone xs w
  rest-gone used tree p = record {
    used = λ h e. used h ∙ ap (λ b. b && not (in_run h run)) (g.used h (any-append h xs run ∙ or_left (is_in_runs xs h) (in_run h run) e))
        ∙ ap not (apart-runs h xs run (g.once h) e);
    once = λ h. (let o = g.once h in let s = held-append h xs run in omega (arith, o, s));
    gone = subst (λ t. All (λ (e : TreeElement ℕ). is_in_runs xs e.unit ≡ false) (vector_elements t)) (sym tree)
        (all-of (λ (e : TreeElement ℕ). is_in_runs (xs ++ (run ∷ [])) e.unit ≡ false) (λ (e : TreeElement ℕ). is_in_runs xs e.unit ≡ false)
        (λ e h. none-left (is_in_runs xs e.unit) (in_run e.unit run) (sym (any-append e.unit xs run) ∙ h)) (units_of v) g.gone);
    proper = p;
  }

-- ---- what was freed so far

-- what is gone in all is gone so far or to go yet
abbrev pub IsPartly : (ℕ → Bool) → List HandleRun → List HandleRun → Type 0
IsPartly done left all = (h : ℕ) → (done h || is_in_runs left h) ≡ is_in_runs all h

cond-twice : {A : Type 0} (a b : Bool) (x y : A) → cond b x (cond a x y) ≡ cond (a || b) x y
cond-twice true true x y = refl
cond-twice true false x y = refl
cond-twice false true x y = refl
cond-twice false false x y = refl

not-twice : (u a b : Bool) → (u && not a) && not b ≡ u && not (a || b)
not-twice true true b = refl
not-twice true false b = refl
not-twice false a b = refl

-- what the changed grid is, after both
rest-twice : (target : Target) (old mid new : Grid) → mid ≡ record (with_units_at target old (units_at target mid)) { cells = mid.cells }
    → new ≡ record (with_units_at target mid (units_at target new)) { cells = new.cells }
    → new ≡ record (with_units_at target old (units_at target new)) { cells = new.cells }
rest-twice Rows old mid new f g = g ∙ ap (λ (x : Grid). record x { rows = new.rows; cells = new.cells }) f
rest-twice Cols old mid new f g = g ∙ ap (λ (x : Grid). record x { cols = new.cols; cells = new.cells }) f

pub units-twice : (target : Target) (a b : ℕ → Bool) (old mid new : Grid) → FreesUnits target a old mid → FreesUnits target b mid new
    → FreesUnits target (λ h. a h || b h) old new
units-twice target a b old mid new f g = record {
  cells = λ r c. g.cells r c ∙ ap (cond (b (line_of target r c)) empty_cell) (f.cells r c)
      ∙ cond-twice (a (line_of target r c)) (b (line_of target r c)) empty_cell (cell_at old.cells r c);
  used = λ h. g.used h ∙ ap (λ u. u && not (b h)) (f.used h) ∙ not-twice (in_use (units_at target old) h) (a h) (b h);
  tree = g.tree ∙ f.tree;
  next = g.next ∙ f.next;
  proper = g.proper;
  rest = rest-twice target old mid new f.rest g.rest;
}

pub same-units : (target : Target) (a b : ℕ → Bool) (old new : Grid) → ((h : ℕ) → a h ≡ b h) → FreesUnits target a old new → FreesUnits target b old new
same-units target a b old new e f = record {
  cells = λ r c. f.cells r c ∙ ap (λ t. cond t empty_cell (cell_at old.cells r c)) (e (line_of target r c));
  used = λ h. f.used h ∙ ap (λ t. in_use (units_at target old) h && not t) (e h);
  tree = f.tree;
  next = f.next;
  proper = f.proper;
  rest = f.rest;
}

and-true : (b : Bool) → b ≡ b && true
and-true true = refl
and-true false = refl

pub no-units : (target : Target) (g : Grid) → IsProper (units_at target g) → FreesUnits target (λ h. false) g g
no-units target g p = record {
  cells = λ r c. refl;
  used = λ h. and-true (in_use (units_at target g) h);
  tree = refl;
  next = refl;
  proper = p;
  rest = ap (λ (x : Grid). record x { cells = g.cells }) (sym (same-side target g));
}

-- one run more
pub partly-more : (done : ℕ → Bool) (xs : List HandleRun) (run : HandleRun) (all : List HandleRun) → IsPartly done (xs ++ (run ∷ [])) all
    → IsPartly (λ h. done h || in_run h run) xs all
partly-more done xs run all p h = turned (done h) (in_run h run) (is_in_runs xs h) ∙ ap (λ b. done h || b) (sym (any-append h xs run)) ∙ p h
  where
    turned : (a b c : Bool) → (a || b) || c ≡ a || (c || b)
    turned true b c = refl
    turned false true true = refl
    turned false true false = refl
    turned false false true = refl
    turned false false false = refl

pub partly-all : (done : ℕ → Bool) (all : List HandleRun) → IsPartly done [] all → (h : ℕ) → done h ≡ is_in_runs all h
partly-all done all p h = or-none (done h) ∙ p h
  where
    or-none : (b : Bool) → b ≡ b || false
    or-none true = refl
    or-none false = refl
