-- What is shown beside the elements and the numbers of rows and columns, which changes of the lists move along.
use Rattle.std.specs.Prelude.{ℕ, ◌+◌, ◌-◌, Bool, true, false, Option, List, length, min, ℤ}
use Rattle.std.specs.List.{list_all}
use Rattle.ft_sumdoc.specs.declared.summary.IntervalRec.{IntervalRec}
use Rattle.ft_changes.specs.declared.changes.ViewChange.{ViewChange}
use Rattle.ft_changes.specs.declared.changes.ViewChange.TheVariants.{Put, Take, Style, PutUnits, TakeUnits, SetCell, ClearCell, SetInterval, DropInterval}
use Rattle.ft_changes.specs.declared.rest.Shift.{Shift}
use Rattle.ft_changes.specs.declared.rest.Shift.TheVariants.{In, Out}
use Rattle.ft_changes.specs.declared.rest.ShownRest.{ShownRest}
use Rattle.ft_changes.specs.Shown.{ShownContent, end_after_put, end_after_take, number_after_put, number_after_take, with_moved_ends}

-- how many elements are shown, the intervals, and the cells
abbrev pub rest_of : ShownContent → ShownRest
rest_of s = record { elements = length s.elements; intervals = s.intervals; cells = s.cells }

-- whether it is a change of a list
abbrev pub is_of_list : ViewChange → Bool
is_of_list (Put p seg props) = true
is_of_list (Take p n) = true
is_of_list (Style p n props) = true
is_of_list (PutUnits target p n) = true
is_of_list (TakeUnits target p n) = true
is_of_list (SetCell i j value) = false
is_of_list (ClearCell i j) = false
is_of_list (SetInterval interval) = false
is_of_list (DropInterval label id) = false

abbrev pub are_of_lists : List ViewChange → Bool
are_of_lists changes = list_all is_of_list changes

-- ---- what goes in or away moves along

-- how many of k are there then
abbrev pub moved_count : Shift → ℕ → ℕ
moved_count (In p n) k = k + n
moved_count (Out p n) k = k - min n (k - p)

-- an end, where so many elements are there then
abbrev pub moved_end : Shift → ℕ → ℤ → ℤ
moved_end (In p n) left end = end_after_put p n end
moved_end (Out p n) left end = end_after_take p n left end

-- the ends of an interval
abbrev pub moved_ends : Shift → ℕ → IntervalRec → IntervalRec
moved_ends shift left i = with_moved_ends (moved_end shift left) i

-- the number of a row or a column, if it is there then
abbrev pub moved_number : Shift → ℕ → Option ℕ
moved_number (In p n) k = number_after_put p n k
moved_number (Out p n) k = number_after_take p n k
