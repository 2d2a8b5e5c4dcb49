-- The runs of equal properties, from the properties of elements in order.
use Rattle.std.specs.Prelude.{◌≡◌, ℕ, ◌+◌, Bool, true, false, List, [], ◌∷◌, ◌++◌, map, reverse}
use Rattle.ft_msg.specs.declared.views.Run.{Run}
use Rattle.ft_msg.specs.Content.{extended_property_runs}
use Rattle.ft_props.specs.Element.{ListElement}
use Rattle.ft_props.specs.Properties.{PropertyList, shown_props}

-- the properties that each element shows
abbrev pub all_shown_props : List ListElement → List PropertyList
all_shown_props xs = map (λ e. shown_props e.props e.pending) xs

-- the runs with elements of these properties before them, the first at place i
abbrev pub runs_before : ℕ → List PropertyList → List Run → List Run
runs_before i [] runs = runs
runs_before i (props ∷ rest) runs = extended_property_runs i props (runs_before (i + 1) rest runs)

-- the run of one element
abbrev pub one_run : ℕ → PropertyList → Run
one_run i props = record { start = i; end = i + 1; props = props }

-- the runs, from the last one to the first, hold the element of these properties at place i, or it wants a run behind them
abbrev pub Extends : ℕ → PropertyList → List Run → List Run → Bool → Type 0
Extends i props old new true = reverse new ≡ extended_property_runs i props (reverse old)
Extends i props old new false = (new ≡ old) × (reverse (old ++ one_run i props ∷ []) ≡ extended_property_runs i props (reverse old))
