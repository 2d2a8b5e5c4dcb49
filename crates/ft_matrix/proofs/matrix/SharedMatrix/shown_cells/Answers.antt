use Rattle.std.proofs.Common.{◌+◌, ◌∙◌, IsTrue, subst, sym}
use Rattle.std.proofs.lemmas.Result.{IfOk-weaker}
use Rattle.ft_matrix.specs.Conditions.{IsAboveAll}
use Rattle.ft_matrix.specs.GridStates.{GridState}
use Rattle.ft_matrix.specs.HoldsGrid.{HoldsGrid}
use Rattle.ft_matrix.proofs.ShownGrids.{cells-shown}
use Rattle.ft_matrix.proofs.matrix.SharedMatrix.shown_cells.Goals as goal

pub returns : goal.returns
returns c = λ last doc stages fits named held above.
    let i = c.self.inside in
    IfOk-weaker c.shown_cells.result _ _
    (λ cells e. e ∙ cells-shown last i.grid i.given i.usable doc stages
    (c.self.invariant (subst (λ (s : GridState). IsTrue s.usable) (sym c.self.view_is) c.requires.usable)) named
    (subst (λ (s : GridState). HoldsGrid s doc stages) (sym c.self.view_is) held) fits
    (subst (λ (s : GridState). IsAboveAll (last + 1) s) (sym c.self.view_is) above)) c.shown_cells.ensures
