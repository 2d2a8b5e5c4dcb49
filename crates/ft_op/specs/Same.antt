-- Whether two operations are equal, as a test that computes.
use Rattle.std.specs.Prelude.{Bool, true, false, ◌&&◌, nat_eq, List, [], ◌∷◌, Option, Some, None, ℤ, int_le, bytes_eq}
use Rattle.ft_op.specs.declared.operations.Seg.{Seg}
use Rattle.ft_op.specs.declared.operations.Seg.TheVariants.{Chars, Marker}
use Rattle.ft_op.specs.declared.operations.BaseOp.{BaseOp}
use Rattle.ft_op.specs.declared.operations.BaseOp.TheVariants.{Insert, Remove, Annotate}
use Rattle.ft_op.specs.declared.operations.Ends.{Ends}
use Rattle.ft_op.specs.declared.operations.TextOp.{TextOp}
use Rattle.ft_op.specs.declared.operations.TextOp.TheVariants.{One, Group, IntervalAdd, IntervalChange, IntervalDelete}
use Rattle.ft_op.specs.declared.operations.Target.{Target}
use Rattle.ft_op.specs.declared.operations.Target.TheVariants.{Rows, Cols}
use Rattle.ft_op.specs.declared.operations.CellOp.{CellOp}
use Rattle.ft_op.specs.declared.operations.CellOp.TheVariants.{SpliceIn, SpliceOut, Set}
use Rattle.ft_op.specs.declared.operations.GridOp.{GridOp}
use Rattle.ft_op.specs.declared.operations.GridOp.TheVariants as grid
use Rattle.ft_op.specs.declared.operations.ChannelOp.{ChannelOp}
use Rattle.ft_op.specs.declared.operations.ChannelOp.TheVariants.{Text, Grid}
use Rattle.ft_props.specs.declared.properties.Adjust.{Adjust}
use Rattle.ft_props.specs.declared.properties.Changes.{Changes}
use Rattle.ft_props.specs.Properties.{PropertySet}

-- whether two lists are equal, element by element
abbrev pub same_list : {A : Type 0} → (A → A → Bool) → List A → List A → Bool
same_list eq [] [] = true
same_list eq (x ∷ xs) (y ∷ ys) = eq x y && same_list eq xs ys
same_list eq _ _ = false

-- whether two values that may be absent are equal
abbrev pub same_option : {A : Type 0} → (A → A → Bool) → Option A → Option A → Bool
same_option eq None None = true
same_option eq (Some x) (Some y) = eq x y
same_option eq _ _ = false

-- whether two whole numbers are equal
abbrev pub same_int : ℤ → ℤ → Bool
same_int a b = int_le a b && int_le b a

-- whether two property sets are equal
abbrev pub same_set : PropertySet → PropertySet → Bool
same_set p q = same_list (λ a b. bytes_eq a.0 b.0 && same_option bytes_eq a.1 b.1) p q

-- whether two adjustments are equal
abbrev pub same_adjust : Adjust → Adjust → Bool
same_adjust a b = same_int a.delta b.delta && same_option same_int a.min b.min && same_option same_int a.max b.max

-- whether two changes are equal
abbrev pub same_changes : Changes → Changes → Bool
same_changes a b = same_set a.props b.props && same_list (λ p q. bytes_eq p.0 q.0 && same_adjust p.1 q.1) a.adjust b.adjust

-- whether two segments are equal
abbrev pub same_seg : Seg → Seg → Bool
same_seg (Chars s) (Chars t) = bytes_eq s t
same_seg (Marker m) (Marker n) = nat_eq m n
same_seg _ _ = false

-- whether two members of a group of the text are equal
abbrev pub same_base : BaseOp → BaseOp → Bool
same_base (Insert p s a) (Insert q t b) = nat_eq p q && same_seg s t && same_set a b
same_base (Remove p q) (Remove r s) = nat_eq p r && nat_eq q s
same_base (Annotate p q a) (Annotate r s b) = nat_eq p r && nat_eq q s && same_changes a b
same_base _ _ = false

-- whether two pairs of ends are equal
abbrev pub same_ends : Ends → Ends → Bool
same_ends a b = same_int a.start b.start && same_int a.end b.end

-- whether two operations of the text are equal
abbrev pub same_text : TextOp → TextOp → Bool
same_text (One a) (One b) = same_base a b
same_text (Group a) (Group b) = same_list same_base a b
same_text (IntervalAdd k i e p) (IntervalAdd l j f q) = bytes_eq k l && bytes_eq i j && same_ends e f && same_set p q
same_text (IntervalChange k i e p) (IntervalChange l j f q) = bytes_eq k l && bytes_eq i j && same_option same_ends e f && same_set p q
same_text (IntervalDelete k i) (IntervalDelete l j) = bytes_eq k l && bytes_eq i j
same_text _ _ = false

-- whether both are rows, or both are columns
abbrev pub same_target : Target → Target → Bool
same_target Rows Rows = true
same_target Cols Cols = true
same_target _ _ = false

-- whether two members of a group of the grid are equal
abbrev pub same_cell : CellOp → CellOp → Bool
same_cell (SpliceIn s p m) (SpliceIn t q n) = same_target s t && nat_eq p q && nat_eq m n
same_cell (SpliceOut s p q) (SpliceOut t r u) = same_target s t && nat_eq p r && nat_eq q u
same_cell (Set i j v) (Set k l w) = nat_eq i k && nat_eq j l && bytes_eq v w
same_cell _ _ = false

-- whether two operations of the grid are equal
abbrev pub same_grid : GridOp → GridOp → Bool
same_grid (grid.One a) (grid.One b) = same_cell a b
same_grid (grid.Group a) (grid.Group b) = same_list same_cell a b
same_grid _ _ = false

-- whether two operations are equal
abbrev pub same_op : ChannelOp → ChannelOp → Bool
same_op (Text a) (Text b) = same_text a b
same_op (Grid a) (Grid b) = same_grid a b
same_op _ _ = false
