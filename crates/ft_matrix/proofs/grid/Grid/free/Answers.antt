use Rattle.std.proofs.Common.{◌≡◌, ◌||◌, [], subst, refl, false, rules}
use Rattle.ft_perm.specs.Handles.{in_run}
use Rattle.ft_matrix.specs.Compacted.{AreGone, is_in_runs}
use Rattle.ft_matrix.specs.Sides.{units_at}
use Rattle.ft_matrix.proofs.Freed.{IsPartly, last-gone, last-used, no-units, partly-all, partly-more, rest-gone, same-units, units-twice}
use Rattle.ft_matrix.proofs.grid.Grid.free.Goals as goal

pub loop-run-init : goal.loop-run-init
loop-run-init g = record { gone = g.requires.gone; freed = (λ h. false, (λ h. refl, no-units g.args.target g.args.self.now g.requires.gone.proper)) }

pub free_run-requires-clause-used : goal.free_run-requires-clause-used
free_run-requires-clause-used c = last-used c.pop.new.self.items c.in-Some.run' (units_at c.args.target c.loop-run.self) (units_at c.args.target c.loop-run.self)
    (subst (λ runs. AreGone runs (units_at c.args.target c.loop-run.self)) c.in-Some.ensures.items c.loop-run.invariant.gone)

pub free_run-requires-clause-gone : goal.free_run-requires-clause-gone
free_run-requires-clause-gone c = last-gone c.pop.new.self.items c.in-Some.run' (units_at c.args.target c.loop-run.self) (units_at c.args.target c.loop-run.self)
    (subst (λ runs. AreGone runs (units_at c.args.target c.loop-run.self)) c.in-Some.ensures.items c.loop-run.invariant.gone)

pub free_run-requires-clause-proper : goal.free_run-requires-clause-proper
free_run-requires-clause-proper c = c.loop-run.invariant.gone.proper

pub loop-run-preserved : goal.loop-run-preserved
loop-run-preserved c =
    let f = c.loop-run.invariant.freed in
    let e = c.in_ok-free_run.ensures in
    record {
      gone = rest-gone c.pop.new.self.items c.in-Some.run' (units_at c.args.target c.loop-run.self) (units_at c.args.target c.free_run.new.self)
          (subst (λ runs. AreGone runs (units_at c.args.target c.loop-run.self)) c.in-Some.ensures.items c.loop-run.invariant.gone) e.used e.tree e.proper;
      freed = (
        λ h. f.0 h || in_run h c.in-Some.run',
        (
          partly-more f.0 c.pop.new.self.items c.in-Some.run' c.args.taken.items
              (subst (λ runs. IsPartly f.0 runs c.args.taken.items) c.in-Some.ensures.items f.1.0),
          units-twice c.args.target f.0 (λ h. in_run h c.in-Some.run') c.args.self.now c.loop-run.self c.free_run.new.self f.1.1 e,
        ),
      );
    }

pub returns : goal.returns
returns c =
    let f = c.loop-run.invariant.freed in
    let none : c.loop-run.taken.items ≡ [] = search (rules, c.in_default.ensures) in
    same-units c.args.target f.0 (is_in_runs c.args.taken.items) c.args.self.now c.loop-run.self
    (partly-all f.0 c.args.taken.items (subst (λ runs. IsPartly f.0 runs c.args.taken.items) none f.1.0)) f.1.1
