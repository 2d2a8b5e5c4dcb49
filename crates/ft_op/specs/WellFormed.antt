-- What is asked of an operation before it may be written or applied: its numbers are in range, no positions, ends or bounds
-- are reversed, no count is above its limit, each value has at most 100 levels, and a null in a property set is none.
use Rattle.std.specs.Prelude.{ℕ, ◌-◌, ℤ, pos, negsuc, int_lt, Bool, true, false, not, ◌&&◌, nat_eq, nat_lt, nat_le, is_some, IsTrue, IsFalse, List, Option, Some, None, ⊤}
use Rattle.std.specs.List.{AllByRecursion}
use Rattle.ft_json.specs.Bounds.{kept_levels, number_limit}
use Rattle.ft_json.specs.Canonical.{IsTextWithin}
use Rattle.ft_json.specs.Reading.{is_within}
use Rattle.ft_props.specs.Properties.{Characters, PropertySet, ValueBytes, value_of}
use Rattle.ft_props.specs.declared.properties.Adjust.{Adjust}
use Rattle.ft_op.specs.declared.operations.Seg.{Seg}
use Rattle.ft_op.specs.declared.operations.Seg.TheVariants.{Chars, Marker}
use Rattle.ft_op.specs.declared.operations.BaseOp.{BaseOp}
use Rattle.ft_op.specs.declared.operations.BaseOp.TheVariants.{Insert, Remove, Annotate}
use Rattle.ft_op.specs.declared.operations.Ends.{Ends}
use Rattle.ft_op.specs.declared.operations.TextOp.{TextOp}
use Rattle.ft_op.specs.declared.operations.TextOp.TheVariants.{One, Group, IntervalAdd, IntervalChange, IntervalDelete}
use Rattle.ft_op.specs.declared.operations.CellOp.{CellOp}
use Rattle.ft_op.specs.declared.operations.CellOp.TheVariants.{SpliceIn, SpliceOut, Set}
use Rattle.ft_op.specs.declared.operations.GridOp.{GridOp}
use Rattle.ft_op.specs.declared.operations.GridOp.TheVariants as grid
use Rattle.ft_op.specs.declared.operations.ChannelOp.{ChannelOp}
use Rattle.ft_op.specs.declared.operations.ChannelOp.TheVariants.{Text, Grid}
use Rattle.ft_op.specs.Cells.{is_null}
use Rattle.ft_op.specs.Types.{splice_limit}

-- ---- numbers

-- whether the number is a position or a count
abbrev pub is_count : ℕ → Bool
is_count n = nat_lt n number_limit

-- whether the positions are in order
abbrev pub is_range : ℕ → ℕ → Bool
is_range p q = nat_le p q && is_count q

-- whether it is a whole number from -9007199254740991 to 9007199254740991
abbrev pub is_safe : ℤ → Bool
is_safe z = is_within (negsuc (number_limit - 2)) (pos (number_limit - 1)) z

-- whether it is such a number, if it is given
abbrev pub is_safe_bound : Option ℤ → Bool
is_safe_bound None = true
is_safe_bound (Some z) = is_safe z

-- whether the least value is at most the greatest, if both are given
abbrev pub are_bounds : Option ℤ → Option ℤ → Bool
are_bounds (Some low) (Some high) = not (int_lt high low)
are_bounds None high = true
are_bounds low None = true

-- whether both ends are -1, or they are positions in order
abbrev pub are_ends : ℤ → ℤ → Bool
are_ends (pos p) (pos q) = is_range p q
are_ends (negsuc p) (negsuc q) = nat_eq p 0 && nat_eq q 0
are_ends _ _ = false

-- ---- properties

-- the value has at most 100 levels; a null is no value but none
abbrev pub IsSetValue : Option ValueBytes → Type 0
IsSetValue None = ⊤
IsSetValue (Some v) = IsTextWithin kept_levels v × IsFalse (is_null v)

-- each value is such a value
abbrev pub IsPropertySet : PropertySet → Type 0
IsPropertySet set = AllByRecursion (λ p. IsSetValue p.1) set

-- the numbers of an adjustment are in range and its bounds in order
pub record IsAdjustment (a : Adjust) : Type 0 where
  pub delta : IsTrue (is_safe a.delta)
  pub min : IsTrue (is_safe_bound a.min)
  pub max : IsTrue (is_safe_bound a.max)
  pub bounds : IsTrue (are_bounds a.min a.max)

-- each is an adjustment of a key that the set doesn't have
abbrev pub AreAdjustments : PropertySet → List (Characters × Adjust) → Type 0
AreAdjustments set ps = AllByRecursion (λ p. IsFalse (is_some (value_of p.0 set)) × IsAdjustment p.1) ps

-- ---- operations

-- whether the segment is characters, or the reference type of its marker is a count
abbrev pub is_segment : Seg → Bool
is_segment (Chars text) = true
is_segment (Marker ref_type) = is_count ref_type

-- a member of a group of the text
abbrev pub IsWellFormedBase : BaseOp → Type 0
IsWellFormedBase (Insert p seg props) = IsTrue (is_count p) × IsTrue (is_segment seg) × IsPropertySet props
IsWellFormedBase (Remove p q) = IsTrue (is_range p q)
IsWellFormedBase (Annotate p q changes) = IsTrue (is_range p q) × IsPropertySet changes.props × AreAdjustments changes.props changes.adjust

-- the ends of an interval
abbrev pub IsWellFormedEnds : Ends → Type 0
IsWellFormedEnds ends = IsTrue (are_ends ends.start ends.end)

-- the new ends of an interval, if they are given
abbrev pub IsWellFormedNewEnds : Option Ends → Type 0
IsWellFormedNewEnds None = ⊤
IsWellFormedNewEnds (Some ends) = IsWellFormedEnds ends

-- an operation of the text
abbrev pub IsWellFormedText : TextOp → Type 0
IsWellFormedText (One op) = IsWellFormedBase op
IsWellFormedText (Group ops) = AllByRecursion IsWellFormedBase ops
IsWellFormedText (IntervalAdd label id ends props) = IsWellFormedEnds ends × IsPropertySet props
IsWellFormedText (IntervalChange label id ends props) = IsWellFormedNewEnds ends × IsPropertySet props
IsWellFormedText (IntervalDelete label id) = ⊤

-- a member of a group of the grid
abbrev pub IsWellFormedCell : CellOp → Type 0
IsWellFormedCell (SpliceIn list p n) = IsTrue (is_count p) × IsTrue (nat_le n splice_limit)
IsWellFormedCell (SpliceOut list p q) = IsTrue (is_range p q)
IsWellFormedCell (Set i j value) = IsTrue (is_count i) × IsTrue (is_count j) × IsTextWithin kept_levels value

-- an operation of the grid
abbrev pub IsWellFormedGrid : GridOp → Type 0
IsWellFormedGrid (grid.One op) = IsWellFormedCell op
IsWellFormedGrid (grid.Group ops) = AllByRecursion IsWellFormedCell ops

-- an operation
abbrev pub IsWellFormed : ChannelOp → Type 0
IsWellFormed (Text op) = IsWellFormedText op
IsWellFormed (Grid op) = IsWellFormedGrid op
