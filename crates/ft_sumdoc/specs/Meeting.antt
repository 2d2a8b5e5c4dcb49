-- The shown intervals that meet a range of the text.
use Rattle.std.specs.Prelude.{ℕ, Bool, ◌&&◌, pos, int_le}
use Rattle.std.specs.Ordering.{is_eq}
use Rattle.ft_sumdoc.specs.declared.summary.IntervalRec.{IntervalRec}
use Rattle.ft_props.specs.Properties.{Characters, text_cmp}

-- whether the interval is of the label, isn't detached, starts at or before b and ends at or after a
abbrev pub meets : Characters → ℕ → ℕ → IntervalRec → Bool
meets label a b i = is_eq (text_cmp label i.label) && int_le (pos 0) i.ends.start && int_le i.ends.start (pos b) && int_le (pos a) i.ends.end
