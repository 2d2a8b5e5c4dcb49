use Rattle.std.proofs.Common.{◌≤◌, ◌++◌, All, true, sym, subst}
use Rattle.ft_matrix.specs.GridStates.{GridState}
use Rattle.ft_matrix.specs.HoldsGrid.{HoldsGrid}
use Rattle.ft_matrix.proofs.AckedGrids.{lowest-stages}
use Rattle.ft_matrix.proofs.HeldGrids.{restate}
use Rattle.ft_matrix.proofs.matrix.SharedMatrix.ack.Goals as goal

pub ack_stages-requires-clause-lowest : goal.ack_stages-requires-clause-lowest
ack_stages-requires-clause-lowest c =
    lowest-stages c.args.first c.self.inside.grid (subst (λ (s : GridState). All (λ t. c.args.first ≤ t.stage) s.stages) (sym c.self.view_is) c.requires.lowest)

pub returns-in-Ok-clause-acked : goal.returns-in-Ok-clause-acked
returns-in-Ok-clause-acked c = λ last doc acked rest n h numbers counted. restate c.ack_stages.new.self 0 c.self.inside.given true c.self.inside.usable _ _
    (c.in-Ok.ensures.acked last doc acked rest (record {
      named = n;
      holds = restate c.self.inside.grid c.self.inside.given 0 c.self.inside.usable true doc (acked ++ rest) (subst (λ s. HoldsGrid s doc (acked ++ rest)) (sym c.self.view_is) h);
    }) numbers counted)

pub returns-in-Ok-clause-acked_within : goal.returns-in-Ok-clause-acked_within
returns-in-Ok-clause-acked_within c = λ last doc acked rest n h oldest marks counted. restate c.ack_stages.new.self 0 c.self.inside.given true c.self.inside.usable _ _
    (c.in-Ok.ensures.within last doc acked rest (record {
      named = n;
      holds = restate c.self.inside.grid c.self.inside.given 0 c.self.inside.usable true doc (acked ++ rest) (subst (λ s. HoldsGrid s doc (acked ++ rest)) (sym c.self.view_is) h);
    }) oldest marks counted)
