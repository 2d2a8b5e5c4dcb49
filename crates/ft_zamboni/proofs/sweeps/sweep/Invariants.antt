use Rattle.ft_zamboni.proofs.SweepSteps.{SweepAt}
use Rattle.ft_zamboni.proofs.sweeps.sweep.Given as goal

-- so many leaves were looked at
abbrev pub invariant-loop-i : goal.invariant-loop-i
invariant-loop-i g l =
    SweepAt g.C.Content.units g.C.Content.by l.initial.tree l.fn.from l.end l.initial.taken.items l.tree l.i l.next l.last l.taken.items
