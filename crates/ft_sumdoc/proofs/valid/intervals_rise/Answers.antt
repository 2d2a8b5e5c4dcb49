use Rattle.std.proofs.Common.{◌∙◌, ◌-◌, drop, sym, arith, length-drop}
use Rattle.ft_sumdoc.specs.Valid.{is_interval_before}
use Rattle.ft_sumdoc.proofs.ReadOptions.{one_alone}
use Rattle.ft_sumdoc.proofs.valid.intervals_rise.Goals as goal

pub returns : goal.returns
returns c =
    let i = c.loop-i.i in
    let intervals = c.args.intervals.now in
    sym (one_alone is_interval_before (drop (i - 1) intervals) (omega (arith, length-drop (i - 1) intervals))) ∙ c.loop-i.invariant
