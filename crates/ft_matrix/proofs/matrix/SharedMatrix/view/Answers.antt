use Rattle.std.proofs.Common.{◌≡◌, ◌+◌, IsTrue, List, Ok, subst, sym}
use Rattle.std.proofs.lemmas.Result.{IfOk-at_ok, on_ok_weaker}
use Rattle.ft_sumdoc.specs.declared.summary.CellRec.{CellRec}
use Rattle.ft_matrix.specs.Conditions.{IsAboveAll}
use Rattle.ft_matrix.specs.GridStates.{GridState}
use Rattle.ft_matrix.specs.HoldsGrid.{HoldsGrid}
use Rattle.ft_matrix.specs.Seen.{shown_cells}
use Rattle.ft_matrix.proofs.ShownGrids.{view-shown}
use Rattle.ft_matrix.proofs.matrix.SharedMatrix.view.Goals as goal

pub returns : goal.returns
returns c = λ last doc stages fits named held above.
    let g = c.self.inside.grid in
    on_ok_weaker c.fill.result
    (λ (filled : c.shown_cells.result ≡ Ok c.fill.new.place). view-shown last g c.self.inside.given c.self.inside.usable doc stages
    (c.self.invariant (subst (λ (s : GridState). IsTrue s.usable) (sym c.self.view_is) c.requires.usable)) named
    (subst (λ (s : GridState). HoldsGrid s doc stages) (sym c.self.view_is) held) fits (subst (λ (s : GridState). IsAboveAll (last + 1) s) (sym c.self.view_is) above)
    c.args.out.now c.seen_count-out.result c.seen_count-out-2.result c.fill.new.place c.seen_count-out.ensures c.seen_count-out-2.ensures
    (IfOk-at_ok (λ (cells : List CellRec). cells ≡ shown_cells g) filled c.shown_cells.ensures)) c.fill.ensures.ok
