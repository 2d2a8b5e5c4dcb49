use Rattle.std.proofs.Common.{◌+◌, refl, sym, subst, true}
use Rattle.ft_matrix.specs.Conditions.{IsAboveAll}
use Rattle.ft_matrix.specs.GridStates.{GridState}
use Rattle.ft_matrix.specs.HoldsGrid.{HoldsGrid}
use Rattle.ft_matrix.proofs.HeldGrids.{restate}
use Rattle.ft_matrix.proofs.ToldUnits.{stages-to}
use Rattle.ft_matrix.proofs.matrix.SharedMatrix.apply_telling.Goals as goal

pub returns-in-Ok-clause-applied : goal.returns-in-Ok-clause-applied
returns-in-Ok-clause-applied g c = λ last doc stages n h.
    let p = c.in-Ok.ensures.applied last doc stages (record {
      named = n;
      holds = restate c.self.inside.grid c.self.inside.given 0 c.self.inside.usable true doc stages
          (subst (λ s. HoldsGrid s doc stages) (sym c.self.view_is) h);
    }) in
    record {
      named = p.now.named;
      holds = restate c.apply_op.new.self 0 c.self.inside.given true c.self.inside.usable _ stages p.now.holds;
      skipped = p.skipped;
    }

pub returns-in-Ok-clause-told : goal.returns-in-Ok-clause-told
returns-in-Ok-clause-told g c = λ last doc stages fits n h above.
    let i = c.self.inside in
    let held = subst (λ s. HoldsGrid s doc stages) (sym c.self.view_is) h in
    c.in-Ok.ensures.told last doc stages fits (record { named = n; holds = restate i.grid i.given 0 i.usable true doc stages held })
    (stages-to last (last + 1) refl i.grid i.given i.usable doc
    (subst (λ (s : GridState). IsAboveAll (last + 1) s) (sym c.self.view_is) above) held.rows held.cols)
