use Rattle.std.proofs.Common.{◌∙◌, ◌++◌, IsTrue, ap, subst, sym}
use Rattle.ft_string.specs.Holds.{HoldsText}
use Rattle.ft_string.specs.State.{TextState}
use Rattle.ft_string.proofs.AppliedIntervals.{interval-applied, interval-skipped}
use Rattle.ft_string.proofs.strings.SharedString.apply_to_intervals.Goals as goal
use Rattle.ft_string.proofs.strings.SharedString.apply_to_intervals.Goals.{then-fits, else-fits}

pub returns-clause-applied : goal.returns-clause-applied
returns-clause-applied c last doc stages sound holds =
    let usable : IsTrue c.self.inside.usable = subst (λ b. IsTrue b) (sym (ap (λ (s : TextState). s.usable) c.self.view_is)) c.requires.usable in
    let before = c.self.invariant usable in
    let ops = c.self.inside.again.items ++ c.self.inside.ops.items in
    let held = subst (λ s. HoldsText s doc stages) (sym c.self.view_is) holds in
    let e = c.in_ok-fits.ensures in
    elim c.if-fits.branch [
      | then-fits w ↦
          rw (w.result-is)
          (interval-applied c.self.inside.tree c.apply.new.tree c.self.inside.intervals.state c.apply.new.self.state ops
          c.self.inside.given c.self.inside.usable c.args.op.now c.args.seq
          c.args.at before.parts e.rest c.first_stage-first.ensures.names last doc stages sound held (sym e.fits ∙ w.if-fits.true) (e.effect w.if-fits.true))
      | else-fits w ↦
          rw (w.result-is)
          (let misfit = e.misfit w.if-fits.false in
          interval-skipped c.self.inside.tree c.apply.new.tree c.self.inside.intervals.state c.apply.new.self.state ops c.self.inside.given
          c.self.inside.usable c.args.op.now c.args.seq
          c.args.at before.parts e.rest c.first_stage-first.ensures.names last doc stages sound held (sym e.fits ∙ w.if-fits.false) misfit.0 misfit.1)
    ]
