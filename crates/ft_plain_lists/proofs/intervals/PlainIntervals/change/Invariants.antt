use Rattle.std.proofs.Common.{◌≡◌, ◌++◌, drop, take}
use Rattle.ft_op.specs.Intervals.{Interval, with_changed_interval, with_ends}
use Rattle.ft_props.specs.Properties.{apply}
use Rattle.ft_plain_lists.proofs.intervals.PlainIntervals.change.Given as goal

-- the intervals so far are changed; the rest is as it was, and completes the whole once it is changed
abbrev pub invariant-loop-i : goal.invariant-loop-i
invariant-loop-i l =
    let f : Interval → Interval = λ i. let j = with_ends l.ends l.at i in record j { props = apply j.props l.props } in
    record {
      rest : drop l.i-index l.i-items ≡ drop l.i-index l.initial.i-items;
      changed : take l.i-index l.i-items ++ with_changed_interval l.label l.id f (drop l.i-index l.i-items) ≡ with_changed_interval l.label l.id f l.initial.i-items;
    }
