-- The JSON value that an operation is written as: just the fields of its form, with the keys of each object in rising order.
use Rattle.std.specs.Prelude.{ℕ, ℤ, List, [], ◌∷◌, Option, Some, None, map, option_map, codes, encode_utf8_all}
use Rattle.serde_json.specs.Data.{unsigned, Data, null, number, string, array, object, Items, Members, no_members, member, put}
use Rattle.serde_json.specs.Find.{of_integer}
use Rattle.serde_json.specs.View.{items_of}
use Rattle.ft_json.specs.Canonical.{value_of}
use Rattle.ft_props.specs.Properties.{Characters, PropertySet, ValueBytes}
use Rattle.ft_props.specs.declared.properties.Adjust.{Adjust}
use Rattle.ft_op.specs.Types.{insertion_type, removal_type, annotation_type, group_type, splice_in_type, splice_out_type}
use Rattle.ft_op.specs.declared.operations.Seg.{Seg}
use Rattle.ft_op.specs.declared.operations.Seg.TheVariants.{Chars, Marker}
use Rattle.ft_op.specs.declared.operations.BaseOp.{BaseOp}
use Rattle.ft_op.specs.declared.operations.BaseOp.TheVariants.{Insert, Remove, Annotate}
use Rattle.ft_op.specs.declared.operations.Ends.{Ends}
use Rattle.ft_op.specs.declared.operations.TextOp.{TextOp}
use Rattle.ft_op.specs.declared.operations.TextOp.TheVariants.{One, Group, IntervalAdd, IntervalChange, IntervalDelete}
use Rattle.ft_op.specs.declared.operations.Target.{Target}
use Rattle.ft_op.specs.declared.operations.Target.TheVariants.{Rows, Cols}
use Rattle.ft_op.specs.declared.operations.CellOp.{CellOp}
use Rattle.ft_op.specs.declared.operations.CellOp.TheVariants.{SpliceIn, SpliceOut, Set}
use Rattle.ft_op.specs.declared.operations.GridOp.{GridOp}
use Rattle.ft_op.specs.declared.operations.GridOp.TheVariants as grid
use Rattle.ft_op.specs.declared.operations.ChannelOp.{ChannelOp}
use Rattle.ft_op.specs.declared.operations.ChannelOp.TheVariants.{Text, Grid}

-- ---- parts

abbrev pub written_count : ℕ → Data
written_count n = number (unsigned n)

abbrev pub written_number : ℤ → Data
written_number z = number (of_integer z)

abbrev pub written_text : Characters → Data
written_text text = string (encode_utf8_all text)

abbrev pub written_items : {A : Type 0} → (A → Data) → List A → Items
written_items written xs = items_of (map written xs)

abbrev pub written_pairs : {V : Type 0} → (V → Data) → List (Characters × V) → Members
written_pairs written [] = no_members
written_pairs written (p ∷ pairs) = member (encode_utf8_all p.0) (written p.1) (written_pairs written pairs)

-- the members, behind this one if its value is given
abbrev pub with_given : List ℕ → Option Data → Members → Members
with_given key None rest = rest
with_given key (Some d) rest = member key d rest

-- the members with this one, if its value is given
abbrev pub put_given : List ℕ → Option Data → Members → Members
put_given key None ms = ms
put_given key (Some d) ms = put key d ms

-- the members with these counts, put one after another
abbrev pub put_counts : List (List ℕ × ℕ) → Members → Members
put_counts [] ms = ms
put_counts (c ∷ cs) ms = put_counts cs (put c.0 (written_count c.1) ms)

-- ---- properties and adjustments

-- the value that a key is set to; null takes the key away
abbrev pub written_value : Option ValueBytes → Data
written_value None = null
written_value (Some v) = value_of v

abbrev pub written_set : PropertySet → Data
written_set set = object (written_pairs written_value set)

-- an empty set is left out
abbrev pub given_set : PropertySet → Option Data
given_set [] = None
given_set (p ∷ set) = Some (written_set (p ∷ set))

-- a bound that isn't there is left out
abbrev pub written_adjustment : Adjust → Data
written_adjustment a =
    object
    (member (codes "delta") (written_number a.delta)
    (with_given (codes "max") (option_map written_number a.max)
    (with_given (codes "min") (option_map written_number a.min) no_members)))

-- no adjustments are left out
abbrev pub given_adjust : List (Characters × Adjust) → Option Data
given_adjust [] = None
given_adjust (p ∷ adjust) = Some (object (written_pairs written_adjustment (p ∷ adjust)))

-- ---- operations of the text

abbrev pub written_marker : ℕ → Data
written_marker ref_type = object (member (codes "refType") (written_count ref_type) no_members)

-- characters without properties are a string
abbrev pub written_characters : Characters → Option Data → Data
written_characters text None = written_text text
written_characters text (Some props) = object (member (codes "props") props (member (codes "text") (written_text text) no_members))

abbrev pub written_segment : Seg → PropertySet → Data
written_segment (Chars text) set = written_characters text (given_set set)
written_segment (Marker ref_type) set =
    object (member (codes "marker") (written_marker ref_type) (with_given (codes "props") (given_set set) no_members))

-- an annotation always has its properties
abbrev pub written_base : BaseOp → Data
written_base (Insert p seg props) =
    object
    (member (codes "pos1") (written_count p)
    (member (codes "seg") (written_segment seg props)
    (member (codes "type") (written_count insertion_type) no_members)))
written_base (Remove p q) =
    object
    (member (codes "pos1") (written_count p)
    (member (codes "pos2") (written_count q)
    (member (codes "type") (written_count removal_type) no_members)))
written_base (Annotate p q changes) =
    object
    (with_given (codes "adjust") (given_adjust changes.adjust)
    (member (codes "pos1") (written_count p)
    (member (codes "pos2") (written_count q)
    (member (codes "props") (written_set changes.props)
    (member (codes "type") (written_count annotation_type) no_members)))))

-- the start of an interval, if ends are given
abbrev pub given_start : Option Ends → Option Data
given_start ends = option_map (λ e. written_number e.start) ends

-- the end of an interval, if ends are given
abbrev pub given_end : Option Ends → Option Data
given_end ends = option_map (λ e. written_number e.end) ends

-- an operation of this word on an interval
abbrev pub written_interval : List ℕ → Characters → Characters → Option Ends → PropertySet → Data
written_interval word label id ends props =
    object
    (with_given (codes "end") (given_end ends)
    (member (codes "id") (written_text id)
    (member (codes "interval") (string word)
    (member (codes "label") (written_text label)
    (with_given (codes "props") (given_set props)
    (with_given (codes "start") (given_start ends) no_members))))))

-- a group of these
abbrev pub written_group : Items → Data
written_group ops = object (member (codes "ops") (array ops) (member (codes "type") (written_count group_type) no_members))

abbrev pub written_text_op : TextOp → Data
written_text_op (One op) = written_base op
written_text_op (Group ops) = written_group (written_items written_base ops)
written_text_op (IntervalAdd label id ends props) = written_interval (codes "add") label id (Some ends) props
written_text_op (IntervalChange label id ends props) = written_interval (codes "change") label id ends props
written_text_op (IntervalDelete label id) = written_interval (codes "delete") label id None []

-- ---- operations of the grid

abbrev pub written_target : Target → Data
written_target Rows = string (codes "rows")
written_target Cols = string (codes "cols")

abbrev pub written_cell : CellOp → Data
written_cell (SpliceIn list p n) =
    object
    (member (codes "count") (written_count n)
    (member (codes "pos1") (written_count p)
    (member (codes "target") (written_target list)
    (member (codes "type") (written_count splice_in_type) no_members))))
written_cell (SpliceOut list p q) =
    object
    (member (codes "pos1") (written_count p)
    (member (codes "pos2") (written_count q)
    (member (codes "target") (written_target list)
    (member (codes "type") (written_count splice_out_type) no_members))))
written_cell (Set i j v) =
    object
    (member (codes "col") (written_count j)
    (member (codes "row") (written_count i)
    (member (codes "type") (string (codes "set"))
    (member (codes "value") (value_of v) no_members))))

abbrev pub written_grid_op : GridOp → Data
written_grid_op (grid.One op) = written_cell op
written_grid_op (grid.Group ops) = written_group (written_items written_cell ops)

-- ---- operations

abbrev pub written : ChannelOp → Data
written (Text op) = written_text_op op
written (Grid op) = written_grid_op op
