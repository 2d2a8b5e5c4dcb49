-- The tests of equality of operations decide equality.
use Rattle.std.proofs.Common.{◌≡◌, ◌∙◌, ℕ, ℤ, pos, negsuc, Bool, IsTrue, ◌&&◌, ◌↔◌, List, [], ◌∷◌, Option, Some, None, Decides, bytes_eq, refl, ap, ap₂, arith, leb-true, nat_le}
use Rattle.std.specs.Prelude.{nat_eq}
use Rattle.std.proofs.lemmas.Bool.Decides.{nat_tests, Decides-eqb, same_from_decides}
use Rattle.std.proofs.lemmas.Slice.Eq.{bytes_eq-Decides}
use Rattle.ft_base.proofs.Booleans.{both}
use Rattle.ft_props.specs.Properties.{Characters, PropertySet}
use Rattle.ft_props.specs.declared.properties.Adjust.{Adjust}
use Rattle.ft_props.specs.declared.properties.Changes.{Changes}
use Rattle.ft_op.specs.declared.operations.Seg.{Seg}
use Rattle.ft_op.specs.declared.operations.Seg.TheVariants.{Chars, Marker}
use Rattle.ft_op.specs.declared.operations.BaseOp.{BaseOp}
use Rattle.ft_op.specs.declared.operations.BaseOp.TheVariants.{Insert, Remove, Annotate}
use Rattle.ft_op.specs.declared.operations.Ends.{Ends}
use Rattle.ft_op.specs.declared.operations.TextOp.{TextOp}
use Rattle.ft_op.specs.declared.operations.TextOp.TheVariants.{One, Group, IntervalAdd, IntervalChange, IntervalDelete}
use Rattle.ft_op.specs.declared.operations.Target.{Target}
use Rattle.ft_op.specs.declared.operations.Target.TheVariants.{Rows, Cols}
use Rattle.ft_op.specs.declared.operations.CellOp.{CellOp}
use Rattle.ft_op.specs.declared.operations.CellOp.TheVariants.{SpliceIn, SpliceOut, Set}
use Rattle.ft_op.specs.declared.operations.GridOp.{GridOp}
use Rattle.ft_op.specs.declared.operations.GridOp.TheVariants as grid
use Rattle.ft_op.specs.declared.operations.ChannelOp.{ChannelOp}
use Rattle.ft_op.specs.declared.operations.ChannelOp.TheVariants.{Text, Grid}
use Rattle.ft_op.specs.Same.{same_adjust, same_base, same_cell, same_changes, same_ends, same_grid, same_int, same_list, same_op, same_option, same_seg, same_set, same_target, same_text}

-- ---- tests of parts

two : (a b : Bool) (A B C : Type 0) → Decides a A → Decides b B → (A → B → C) → (C → A × B) → Decides (a && b) C
two a b A B C p q join split =
    (λ h. let parts = both a b h in join (p.0 parts.0) (q.0 parts.1), λ c. let parts = split c in ap₂ (λ (x y : Bool). x && y) (p.1 parts.0) (q.1 parts.1))

same_naturals : (a b : ℕ) → Decides (nat_le a b && nat_le b a) (a ≡ b)
same_naturals a b =
    (λ h. let parts = both (nat_le a b) (nat_le b a) h in omega (arith, leb-true a b parts.0, leb-true b a parts.1), λ e. grind (arith, nat_tests))

pub same_int-Decides : (a b : ℤ) → Decides (same_int a b) (a ≡ b)
same_int-Decides (pos a) (pos b) = (λ h. ap pos ((same_naturals a b).0 h), λ e. let same : a ≡ b = cc in (same_naturals a b).1 same)
same_int-Decides (negsuc a) (negsuc b) =
    (λ h. let same : b ≡ a = (same_naturals b a).0 h in cc, λ e. let same : b ≡ a = cc in (same_naturals b a).1 same)
same_int-Decides (pos a) (negsuc b) = (λ h. (cc), λ e. (cc))
same_int-Decides (negsuc a) (pos b) = (λ h. (cc), λ e. (cc))

pub same_list-Decides : {A : Type 0} (eq : A → A → Bool) → ((x y : A) → Decides (eq x y) (x ≡ y)) → (xs ys : List A) → Decides (same_list eq xs ys) (xs ≡ ys)
same_list-Decides eq d [] [] = (λ h. refl, λ e. refl)
same_list-Decides eq d [] (y ∷ ys) = (λ h. (cc), λ e. (cc))
same_list-Decides eq d (x ∷ xs) [] = (λ h. (cc), λ e. (cc))
same_list-Decides eq d (x ∷ xs) (y ∷ ys) =
    two (eq x y) (same_list eq xs ys) (x ≡ y) (xs ≡ ys) _ (d x y) (same_list-Decides eq d xs ys) (λ e f. cc) (λ e. let first : x ≡ y = cc in let rest : xs ≡ ys = cc in (first, rest))

pub same_option-Decides : {A : Type 0} (eq : A → A → Bool) → ((x y : A) → Decides (eq x y) (x ≡ y)) → (o p : Option A) → Decides (same_option eq o p) (o ≡ p)
same_option-Decides eq d None None = (λ h. refl, λ e. refl)
same_option-Decides eq d None (Some y) = (λ h. (cc), λ e. (cc))
same_option-Decides eq d (Some x) None = (λ h. (cc), λ e. (cc))
same_option-Decides eq d (Some x) (Some y) = (λ h. ap Some ((d x y).0 h), λ e. let same : x ≡ y = cc in (d x y).1 same)

-- ---- property sets and changes

abbrev pair : {A B : Type 0} → A → B → A × B
pair a b = (a, b)

same_pair : {A B : Type 0} (p q : A × B) → p.0 ≡ q.0 → p.1 ≡ q.1 → p ≡ q
same_pair p q e f = ap₂ pair e f

same_entry : {V : Type 0} (eq : V → V → Bool) → ((x y : V) → Decides (eq x y) (x ≡ y)) → (p q : Characters × V) → Decides (bytes_eq p.0 q.0 && eq p.1 q.1) (p ≡ q)
same_entry eq d p q =
    two (bytes_eq p.0 q.0) (eq p.1 q.1) (p.0 ≡ q.0) (p.1 ≡ q.1) (p ≡ q) (bytes_eq-Decides p.0 q.0) (d p.1 q.1) (same_pair p q) (λ e. (ap (λ x. x.0) e, ap (λ x. x.1) e))

pub same_set-Decides : (p q : PropertySet) → Decides (same_set p q) (p ≡ q)
same_set-Decides p q = same_list-Decides _ (same_entry (same_option bytes_eq) (same_option-Decides bytes_eq bytes_eq-Decides)) p q

abbrev adjustment : ℤ → Option ℤ → Option ℤ → Adjust
adjustment delta min max = record { delta = delta; min = min; max = max }

same_bounds : (o p : Option ℤ) → Decides (same_option same_int o p) (o ≡ p)
same_bounds o p = same_option-Decides same_int same_int-Decides o p

pub same_adjust-Decides : (a b : Adjust) → Decides (same_adjust a b) (a ≡ b)
same_adjust-Decides a b =
    let first = two (same_int a.delta b.delta) (same_option same_int a.min b.min) (a.delta ≡ b.delta) (a.min ≡ b.min) ((a.delta ≡ b.delta) × (a.min ≡ b.min)) (same_int-Decides a.delta b.delta) (same_bounds a.min b.min) (λ e f. (e, f)) (λ e. e) in
    two (same_int a.delta b.delta && same_option same_int a.min b.min) (same_option same_int a.max b.max) _ (a.max ≡ b.max) (a ≡ b) first (same_bounds a.max b.max)
    (λ e f. ap (λ d. adjustment d a.min a.max) e.0 ∙ ap (λ m. adjustment b.delta m a.max) e.1 ∙ ap (λ m. adjustment b.delta b.min m) f)
    (λ e. ((ap (λ x. x.delta) e, ap (λ x. x.min) e), ap (λ x. x.max) e))

abbrev changes : PropertySet → List (Characters × Adjust) → Changes
changes props adjust = record { props = props; adjust = adjust }

pub same_changes-Decides : (a b : Changes) → Decides (same_changes a b) (a ≡ b)
same_changes-Decides a b =
    two (same_set a.props b.props) (same_list _ a.adjust b.adjust) (a.props ≡ b.props) (a.adjust ≡ b.adjust) (a ≡ b) (same_set-Decides a.props b.props)
    (same_list-Decides _ (same_entry same_adjust same_adjust-Decides) a.adjust b.adjust) (λ e f. ap₂ changes e f) (λ e. (ap (λ x. x.props) e, ap (λ x. x.adjust) e))

-- ---- operations

pub same_seg-Decides : (a b : Seg) → Decides (same_seg a b) (a ≡ b)
same_seg-Decides (Chars s) (Chars t) = (λ h. ap Chars ((bytes_eq-Decides s t).0 h), λ e. let same : s ≡ t = cc in (bytes_eq-Decides s t).1 same)
same_seg-Decides (Marker m) (Marker n) = (λ h. ap Marker ((Decides-eqb m n).0 h), λ e. let same : m ≡ n = cc in (Decides-eqb m n).1 same)
same_seg-Decides (Chars s) (Marker n) = (λ h. (cc), λ e. (cc))
same_seg-Decides (Marker m) (Chars t) = (λ h. (cc), λ e. (cc))

-- three tests in a row
three : (a b c : Bool) (A B C D : Type 0) → Decides a A → Decides b B → Decides c C → (A → B → C → D) → (D → A × B × C) → Decides (a && b && c) D
three a b c A B C D p q r join split =
    two (a && b) c (A × B) C D (two a b A B (A × B) p q (λ x y. (x, y)) (λ x. x)) r (λ x y. join x.0 x.1 y) (λ d. let parts = split d in ((parts.0, parts.1), parts.2))

pub same_base-Decides : (a b : BaseOp) → Decides (same_base a b) (a ≡ b)
same_base-Decides (Insert p s a) (Insert q t b) =
    three (nat_eq p q) (same_seg s t) (same_set a b) (p ≡ q) (s ≡ t) (a ≡ b) _ (Decides-eqb p q) (same_seg-Decides s t) (same_set-Decides a b)
    (λ e f g. cc) (λ h. let e : p ≡ q = cc in let f : s ≡ t = cc in let g : a ≡ b = cc in (e, f, g))
same_base-Decides (Remove p q) (Remove r s) =
    two (nat_eq p r) (nat_eq q s) (p ≡ r) (q ≡ s) _ (Decides-eqb p r) (Decides-eqb q s) (λ e f. cc) (λ h. let e : p ≡ r = cc in let f : q ≡ s = cc in (e, f))
same_base-Decides (Annotate p q a) (Annotate r s b) =
    three (nat_eq p r) (nat_eq q s) (same_changes a b) (p ≡ r) (q ≡ s) (a ≡ b) _ (Decides-eqb p r) (Decides-eqb q s) (same_changes-Decides a b)
    (λ e f g. cc) (λ h. let e : p ≡ r = cc in let f : q ≡ s = cc in let g : a ≡ b = cc in (e, f, g))
same_base-Decides (Insert p s a) (Remove q r) = (λ h. (cc), λ e. (cc))
same_base-Decides (Insert p s a) (Annotate q r b) = (λ h. (cc), λ e. (cc))
same_base-Decides (Remove p q) (Insert r s b) = (λ h. (cc), λ e. (cc))
same_base-Decides (Remove p q) (Annotate r s b) = (λ h. (cc), λ e. (cc))
same_base-Decides (Annotate p q a) (Insert r s b) = (λ h. (cc), λ e. (cc))
same_base-Decides (Annotate p q a) (Remove r s) = (λ h. (cc), λ e. (cc))

abbrev ends : ℤ → ℤ → Ends
ends a b = record { start = a; end = b }

pub same_ends-Decides : (a b : Ends) → Decides (same_ends a b) (a ≡ b)
same_ends-Decides a b =
    two (same_int a.start b.start) (same_int a.end b.end) (a.start ≡ b.start) (a.end ≡ b.end) (a ≡ b) (same_int-Decides a.start b.start) (same_int-Decides a.end b.end)
    (λ e f. ap₂ ends e f) (λ e. (ap (λ x. x.start) e, ap (λ x. x.end) e))

pub same_target-Decides : (s t : Target) → Decides (same_target s t) (s ≡ t)
same_target-Decides Rows Rows = (λ h. refl, λ e. refl)
same_target-Decides Cols Cols = (λ h. refl, λ e. refl)
same_target-Decides Rows Cols = (λ h. (cc), λ e. (cc))
same_target-Decides Cols Rows = (λ h. (cc), λ e. (cc))

pub same_cell-Decides : (a b : CellOp) → Decides (same_cell a b) (a ≡ b)
same_cell-Decides (SpliceIn s p m) (SpliceIn t q n) =
    three (same_target s t) (nat_eq p q) (nat_eq m n) (s ≡ t) (p ≡ q) (m ≡ n) _ (same_target-Decides s t) (Decides-eqb p q) (Decides-eqb m n)
    (λ e f g. cc) (λ h. let e : s ≡ t = cc in let f : p ≡ q = cc in let g : m ≡ n = cc in (e, f, g))
same_cell-Decides (SpliceOut s p q) (SpliceOut t r u) =
    three (same_target s t) (nat_eq p r) (nat_eq q u) (s ≡ t) (p ≡ r) (q ≡ u) _ (same_target-Decides s t) (Decides-eqb p r) (Decides-eqb q u)
    (λ e f g. cc) (λ h. let e : s ≡ t = cc in let f : p ≡ r = cc in let g : q ≡ u = cc in (e, f, g))
same_cell-Decides (Set i j v) (Set k l w) =
    three (nat_eq i k) (nat_eq j l) (bytes_eq v w) (i ≡ k) (j ≡ l) (v ≡ w) _ (Decides-eqb i k) (Decides-eqb j l) (bytes_eq-Decides v w)
    (λ e f g. cc) (λ h. let e : i ≡ k = cc in let f : j ≡ l = cc in let g : v ≡ w = cc in (e, f, g))
same_cell-Decides (SpliceIn s p m) (SpliceOut t r u) = (λ h. (cc), λ e. (cc))
same_cell-Decides (SpliceIn s p m) (Set k l w) = (λ h. (cc), λ e. (cc))
same_cell-Decides (SpliceOut s p q) (SpliceIn t r n) = (λ h. (cc), λ e. (cc))
same_cell-Decides (SpliceOut s p q) (Set k l w) = (λ h. (cc), λ e. (cc))
same_cell-Decides (Set i j v) (SpliceIn t q n) = (λ h. (cc), λ e. (cc))
same_cell-Decides (Set i j v) (SpliceOut t r u) = (λ h. (cc), λ e. (cc))

pub same_grid-Decides : (a b : GridOp) → Decides (same_grid a b) (a ≡ b)
same_grid-Decides (grid.One a) (grid.One b) = (λ h. ap grid.One ((same_cell-Decides a b).0 h), λ e. let same : a ≡ b = cc in (same_cell-Decides a b).1 same)
same_grid-Decides (grid.Group a) (grid.Group b) =
    let d = same_list-Decides same_cell same_cell-Decides a b in (λ h. ap grid.Group (d.0 h), λ e. let same : a ≡ b = cc in d.1 same)
same_grid-Decides (grid.One a) (grid.Group b) = (λ h. (cc), λ e. (cc))
same_grid-Decides (grid.Group a) (grid.One b) = (λ h. (cc), λ e. (cc))

four : (a b c d : Bool) (A B C D E : Type 0) → Decides a A → Decides b B → Decides c C → Decides d D → (A → B → C → D → E) → (E → A × B × C × D) → Decides (a && b && c && d) E
four a b c d A B C D E p q r t join split =
    two (a && b && c) d (A × B × C) D E (three a b c A B C (A × B × C) p q r (λ x y z. (x, y, z)) (λ x. x)) t (λ x y. join x.0 x.1 x.2 y)
    (λ e. let parts = split e in ((parts.0, parts.1, parts.2), parts.3))

same_new_ends : (e f : Option Ends) → Decides (same_option same_ends e f) (e ≡ f)
same_new_ends e f = same_option-Decides same_ends same_ends-Decides e f

pub same_text-Decides : (a b : TextOp) → Decides (same_text a b) (a ≡ b)
same_text-Decides (One a) (One b) = (λ h. ap One ((same_base-Decides a b).0 h), λ e. let same : a ≡ b = cc in (same_base-Decides a b).1 same)
same_text-Decides (Group a) (Group b) =
    let d = same_list-Decides same_base same_base-Decides a b in (λ h. ap Group (d.0 h), λ e. let same : a ≡ b = cc in d.1 same)
same_text-Decides (IntervalAdd k i e p) (IntervalAdd l j f q) =
    four (bytes_eq k l) (bytes_eq i j) (same_ends e f) (same_set p q) (k ≡ l) (i ≡ j) (e ≡ f) (p ≡ q) _ (bytes_eq-Decides k l) (bytes_eq-Decides i j) (same_ends-Decides e f) (same_set-Decides p q)
    (λ w x y z. cc) (λ h. let w : k ≡ l = cc in let x : i ≡ j = cc in let y : e ≡ f = cc in let z : p ≡ q = cc in (w, x, y, z))
same_text-Decides (IntervalChange k i e p) (IntervalChange l j f q) =
    four (bytes_eq k l) (bytes_eq i j) (same_option same_ends e f) (same_set p q) (k ≡ l) (i ≡ j) (e ≡ f) (p ≡ q) _ (bytes_eq-Decides k l) (bytes_eq-Decides i j) (same_new_ends e f) (same_set-Decides p q)
    (λ w x y z. cc) (λ h. let w : k ≡ l = cc in let x : i ≡ j = cc in let y : e ≡ f = cc in let z : p ≡ q = cc in (w, x, y, z))
same_text-Decides (IntervalDelete k i) (IntervalDelete l j) =
    two (bytes_eq k l) (bytes_eq i j) (k ≡ l) (i ≡ j) _ (bytes_eq-Decides k l) (bytes_eq-Decides i j) (λ e f. cc) (λ h. let e : k ≡ l = cc in let f : i ≡ j = cc in (e, f))
same_text-Decides (One a) (Group b) = (λ h. (cc), λ e. (cc))
same_text-Decides (One a) (IntervalAdd k2 i2 e2 p2) = (λ h. (cc), λ e. (cc))
same_text-Decides (One a) (IntervalChange k2 i2 e2 p2) = (λ h. (cc), λ e. (cc))
same_text-Decides (One a) (IntervalDelete k2 i2) = (λ h. (cc), λ e. (cc))
same_text-Decides (Group a) (One b) = (λ h. (cc), λ e. (cc))
same_text-Decides (Group a) (IntervalAdd k2 i2 e2 p2) = (λ h. (cc), λ e. (cc))
same_text-Decides (Group a) (IntervalChange k2 i2 e2 p2) = (λ h. (cc), λ e. (cc))
same_text-Decides (Group a) (IntervalDelete k2 i2) = (λ h. (cc), λ e. (cc))
same_text-Decides (IntervalAdd k1 i1 e1 p1) (One b) = (λ h. (cc), λ e. (cc))
same_text-Decides (IntervalAdd k1 i1 e1 p1) (Group b) = (λ h. (cc), λ e. (cc))
same_text-Decides (IntervalAdd k1 i1 e1 p1) (IntervalChange k2 i2 e2 p2) = (λ h. (cc), λ e. (cc))
same_text-Decides (IntervalAdd k1 i1 e1 p1) (IntervalDelete k2 i2) = (λ h. (cc), λ e. (cc))
same_text-Decides (IntervalChange k1 i1 e1 p1) (One b) = (λ h. (cc), λ e. (cc))
same_text-Decides (IntervalChange k1 i1 e1 p1) (Group b) = (λ h. (cc), λ e. (cc))
same_text-Decides (IntervalChange k1 i1 e1 p1) (IntervalAdd k2 i2 e2 p2) = (λ h. (cc), λ e. (cc))
same_text-Decides (IntervalChange k1 i1 e1 p1) (IntervalDelete k2 i2) = (λ h. (cc), λ e. (cc))
same_text-Decides (IntervalDelete k1 i1) (One b) = (λ h. (cc), λ e. (cc))
same_text-Decides (IntervalDelete k1 i1) (Group b) = (λ h. (cc), λ e. (cc))
same_text-Decides (IntervalDelete k1 i1) (IntervalAdd k2 i2 e2 p2) = (λ h. (cc), λ e. (cc))
same_text-Decides (IntervalDelete k1 i1) (IntervalChange k2 i2 e2 p2) = (λ h. (cc), λ e. (cc))

pub same_op-Decides : (a b : ChannelOp) → Decides (same_op a b) (a ≡ b)
same_op-Decides (Text a) (Text b) = (λ h. ap Text ((same_text-Decides a b).0 h), λ e. let same : a ≡ b = cc in (same_text-Decides a b).1 same)
same_op-Decides (Grid a) (Grid b) = (λ h. ap Grid ((same_grid-Decides a b).0 h), λ e. let same : a ≡ b = cc in (same_grid-Decides a b).1 same)
same_op-Decides (Text a) (Grid b) = (λ h. (cc), λ e. (cc))
same_op-Decides (Grid a) (Text b) = (λ h. (cc), λ e. (cc))

-- what a comparison of operations answers is that test
pub same_op-is : (r : Bool) (a b : ChannelOp) → IsTrue r ↔ (a ≡ b) → r ≡ same_op a b
same_op-is r a b h = same_from_decides r (same_op a b) h (same_op-Decides a b)
