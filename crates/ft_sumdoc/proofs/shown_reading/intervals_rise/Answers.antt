use Rattle.std.proofs.Common.{◌∙◌, ◌-◌, drop, sym, arith, length-drop}
use Rattle.ft_sumdoc.specs.Intervals.{is_given_interval_before}
use Rattle.ft_sumdoc.specs.Items.{interval_of}
use Rattle.ft_sumdoc.proofs.ReadOptions.{one_rises}
use Rattle.ft_sumdoc.proofs.shown_reading.intervals_rise.Goals as goal

pub returns : goal.returns
returns c =
    let i = c.loop-i.i in
    let intervals = c.args.intervals.now in
    sym (one_rises is_given_interval_before interval_of (drop (i - 1) intervals) (omega (arith, length-drop (i - 1) intervals))) ∙ c.loop-i.invariant
