-- Intervals by rising label and id. Each names the elements at its ends, so that an end stays with its element; one
-- without elements is detached.
use Rattle.std.specs.Prelude.{ℕ, Bool, true, false, cond, not, ◌&&◌, List, [], Option, Some, None, map, filter, ℤ, pos, negsuc, nat_lt, option_map}
use Rattle.std.specs.Ordering.{ordering_then, is_eq}
use Rattle.std.specs.List.{list_any}
use Rattle.std.specs.declared.cmp.Ordering.{Ordering}
use Rattle.ft_op.specs.declared.operations.Ends.{Ends}
use Rattle.ft_op.specs.declared.operations.TextOp.{TextOp}
use Rattle.ft_op.specs.declared.operations.TextOp.TheVariants.{IntervalAdd, IntervalChange, IntervalDelete}
use Rattle.ft_base.specs.Scan.{at}
use Rattle.ft_props.specs.Properties.{Characters, PropertyList, apply, text_cmp, put_rising}
use Rattle.ft_props.specs.Element.{ListElement, ElementId, id as name}
use Rattle.ft_props.specs.Slide.{settle, slide}

-- an interval: its label and id, the elements at its ends, its properties
pub record Interval : Type 0 where
  pub label : Characters
  pub id : Characters
  pub start : Option ElementId
  pub end : Option ElementId
  pub props : PropertyList

-- the two elements that an operation names: the ends of an interval, or the row and the column of a cell
pub record NamedElements : Type 0 where
  pub first : Option ElementId
  pub second : Option ElementId

-- no element is named
abbrev pub no_elements : NamedElements
no_elements = record { first = None; second = None }

-- the order of intervals: by label, then by id
abbrev pub interval_cmp : Interval → Interval → Ordering
interval_cmp a b = ordering_then (text_cmp a.label b.label) (text_cmp a.id b.id)

-- whether it is the interval of that label and id
abbrev pub is_interval : Characters → Characters → Interval → Bool
is_interval label id i = is_eq (text_cmp label i.label) && is_eq (text_cmp id i.id)

-- whether the label has the id
abbrev pub has_interval : Characters → Characters → List Interval → Bool
has_interval label id is = list_any (is_interval label id) is

-- whether the number is a place among n elements
abbrev pub is_place : ℕ → ℤ → Bool
is_place n (pos p) = nat_lt p n
is_place n (negsuc p) = false

-- whether the number stands for no place
abbrev pub is_detached : ℤ → Bool
is_detached (pos p) = false
is_detached (negsuc p) = true

-- whether both ends are detached, or both are places among n elements
abbrev pub ends_fit : ℕ → Ends → Bool
ends_fit n ends = cond (is_detached ends.start && is_detached ends.end) true (is_place n ends.start && is_place n ends.end)

-- the element at an end, among those that pass the test
abbrev pub element_at_end : (ListElement → Bool) → List ListElement → ℤ → Option ElementId
element_at_end test xs (pos p) = option_map name (at test p xs)
element_at_end test xs (negsuc p) = None

-- the elements at both ends
abbrev pub elements_at_ends : (ListElement → Bool) → List ListElement → Ends → NamedElements
elements_at_ends test xs ends = record { first = element_at_end test xs ends.start; second = element_at_end test xs ends.end }

-- the interval with these ends, if an operation gives some
abbrev pub with_ends : Option Ends → NamedElements → Interval → Interval
with_ends None ends i = i
with_ends (Some _) ends i = record i { start = ends.first; end = ends.second }

-- the intervals with f of the one with that label and id
abbrev pub with_changed_interval : Characters → Characters → (Interval → Interval) → List Interval → List Interval
with_changed_interval label id f is = map (λ i. cond (is_interval label id i) (f i) i) is

-- the intervals after an operation that names these elements: an add does nothing where the id is in the label, a
-- change and a delete nothing where it isn't
abbrev pub after_interval_operation : TextOp → NamedElements → List Interval → List Interval
after_interval_operation (IntervalAdd label id ends props) at is =
    cond (has_interval label id is) is
    (put_rising interval_cmp (record { label = label; id = id; start = at.first; end = at.second; props = apply [] props }) is)
after_interval_operation (IntervalChange label id ends props) at is =
    with_changed_interval label id (λ i. let j = with_ends ends at i in record j { props = apply j.props props }) is
after_interval_operation (IntervalDelete label id) at is = filter (λ i. not (is_interval label id i)) is
after_interval_operation _ at is = is

-- the interval with each end settled at stage k
abbrev pub settle_interval : List ListElement → ℕ → Interval → Interval
settle_interval xs k i = record i { start = settle xs k i.start; end = settle xs k i.end }

-- the intervals with each end settled at stage k
abbrev pub settle_ends : List ListElement → ℕ → List Interval → List Interval
settle_ends xs k is = map (settle_interval xs k) is

-- the interval with each end slid
abbrev pub slide_interval : List ListElement → Interval → Interval
slide_interval xs i = record i { start = slide xs i.start; end = slide xs i.end }

-- the intervals with each end slid
abbrev pub slide_ends : List ListElement → List Interval → List Interval
slide_ends xs is = map (slide_interval xs) is

-- both named elements settled at stage k
abbrev pub settle_elements : List ListElement → ℕ → NamedElements → NamedElements
settle_elements xs k at = record { first = settle xs k at.first; second = settle xs k at.second }
