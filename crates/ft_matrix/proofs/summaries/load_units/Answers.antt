use Rattle.std.proofs.Common.{◌≤◌, [], ◌∷◌, ◌++◌, ap, subst, sym, take, ◌∙◌}
use Rattle.std.proofs.lemmas.List.{take_all, take_more}
use Rattle.ft_sumdoc.specs.declared.summary.RunRec.{RunRec}
use Rattle.ft_matrix.proofs.LoadedUnits.{UnitsSoFar, some-of, units-all, units-begin, units-next}
use Rattle.ft_matrix.proofs.summaries.load_units.Goals as goal

pub loop-run-init : goal.loop-run-init
loop-run-init c = units-begin c.args.units.now c.requires.sound c.requires.empty

pub load_run-requires-clause-some : goal.load_run-requires-clause-some
load_run-requires-clause-some c =
    subst (λ (r : RunRec). 1 ≤ r.count) (sym c.run-item.is) (some-of c.args.runs.now c.loop-run.run-index c.run-item.result c.requires.some c.loop-run-test.true)

pub loop-run-preserved : goal.loop-run-preserved
loop-run-preserved c =
    subst (λ rs. UnitsSoFar rs c.in_ok-made.made c.args.units.now c.load_run.new.units)
    (sym (take_more c.args.runs.now c.loop-run.run-index c.run-item.result c.loop-run-test.true
    ∙ ap (λ r. take c.loop-run.run-index c.args.runs.now ++ r ∷ []) (sym c.run-item.is)))
    (units-next (take c.loop-run.run-index c.args.runs.now) c.run-item.result c.loop-run.made c.in_ok-made.made c.args.units.now c.loop-run.units c.load_run.new.units
    c.loop-run.invariant c.in_ok-load_run.ensures.sound c.in_ok-load_run.ensures.loads c.in_ok-made.ensures)

pub returns : goal.returns
returns c = record {
  sound = c.loop-run.invariant.sound;
  loads = units-all c.args.runs.now c.loop-run.made c.args.units.now c.loop-run.units
      (subst (λ rs. UnitsSoFar rs c.loop-run.made c.args.units.now c.loop-run.units) (take_all c.loop-run.run-index c.args.runs.now c.loop-run-test.false) c.loop-run.invariant);
}
