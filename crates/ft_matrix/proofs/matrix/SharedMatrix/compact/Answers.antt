use Rattle.std.proofs.Common.{sym, subst, true}
use Rattle.ft_matrix.specs.Conditions.{AreFreeUnits}
use Rattle.ft_matrix.specs.HoldsGrid.{HoldsGrid}
use Rattle.ft_matrix.proofs.CompactedGrids.{restate-kept}
use Rattle.ft_matrix.proofs.HeldGrids.{restate}
use Rattle.ft_matrix.proofs.matrix.SharedMatrix.compact.Goals as goal

pub compact-requires-clause-free : goal.compact-requires-clause-free
compact-requires-clause-free c =
    let free = subst (AreFreeUnits c.args.floor) (sym c.self.view_is) c.requires.free in
    record { rows = free.rows; cols = free.cols }

pub returns-in-Ok-clause-kept : goal.returns-in-Ok-clause-kept
returns-in-Ok-clause-kept c = λ last doc stages n h. restate-kept c.args.floor c.compact.new.self 0 c.self.inside.given true c.self.inside.usable doc stages
    (c.in-Ok.ensures.compacts.kept last doc stages (record {
      named = n;
      holds = restate c.self.inside.grid c.self.inside.given 0 c.self.inside.usable true doc stages (subst (λ s. HoldsGrid s doc stages) (sym c.self.view_is) h);
    }))

pub returns-in-Ok-clause-none : goal.returns-in-Ok-clause-none
returns-in-Ok-clause-none c = record { rows = c.in-Ok.ensures.none.rows; cols = c.in-Ok.ensures.none.cols }
