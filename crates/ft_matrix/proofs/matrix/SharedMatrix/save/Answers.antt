use Rattle.std.proofs.Common.{◌≡◌, IsTrue, List, [], Ok, subst, sym}
use Rattle.std.proofs.lemmas.Result.{IfOk-at_ok, on_ok_weaker}
use Rattle.ft_sumdoc.specs.declared.summary.CellRec.{CellRec}
use Rattle.ft_sumdoc.specs.declared.summary.RunRec.{RunRec}
use Rattle.ft_matrix.specs.Conditions.{IsAboveAll}
use Rattle.ft_matrix.specs.GridStates.{GridState}
use Rattle.ft_matrix.specs.HoldsGrid.{HoldsGrid}
use Rattle.ft_matrix.specs.SavedUnits.{saved_runs}
use Rattle.ft_matrix.specs.Seen.{shown_cells}
use Rattle.ft_matrix.specs.Units.{units_of}
use Rattle.ft_matrix.proofs.SavedGrids.{units-saved}
use Rattle.ft_matrix.proofs.matrix.SharedMatrix.save.Goals as goal

pub returns : goal.returns
returns c = λ last of named held above min.
    let g = c.self.inside.grid in
    on_ok_weaker c.fill-3.result
    (λ (filled : c.shown_cells.result ≡ Ok c.fill-3.new.place). units-saved last g c.self.inside.given c.self.inside.usable of
    (c.self.invariant (subst (λ (s : GridState). IsTrue s.usable) (sym c.self.view_is) c.requires.usable)) named
    (subst (λ (s : GridState). HoldsGrid s of []) (sym c.self.view_is) held) (subst (λ (s : GridState). IsAboveAll 0 s) (sym c.self.view_is) above)
    c.args.doc.now.min min c.args.doc.now c.fill.new.place c.fill-2.new.place c.fill-3.new.place
    (IfOk-at_ok (λ (runs : List RunRec). runs ≡ saved_runs c.args.doc.now.min (units_of g.rows)) c.in_ok-fill.ensures.ok c.saved_units.ensures)
    (IfOk-at_ok (λ (runs : List RunRec). runs ≡ saved_runs c.args.doc.now.min (units_of g.cols)) c.in_ok-fill-2.ensures.ok c.saved_units-2.ensures)
    (IfOk-at_ok (λ (cells : List CellRec). cells ≡ shown_cells g) filled c.shown_cells.ensures))
    c.fill-3.ensures.ok
