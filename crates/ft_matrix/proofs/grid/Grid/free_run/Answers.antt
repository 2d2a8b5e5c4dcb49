use Rattle.std.proofs.Common.{◌≡◌, ◌∙◌, ◌&&◌, ℕ, All, false, not, ap, subst, sym}
use Rattle.ft_tree_leaves.specs.Elements.{TreeElement}
use Rattle.ft_perm.specs.Handles.{in_run}
use Rattle.ft_perm.specs.Vectors.{IsProper, VectorState, in_use}
use Rattle.ft_matrix.specs.declared.grid.Grid.{Grid}
use Rattle.ft_matrix.specs.Sides.{units_at}
use Rattle.ft_matrix.specs.Units.{units_of}
use Rattle.ft_matrix.proofs.Freed.{freed-units}
use Rattle.ft_matrix.proofs.SideLaws.{side-rest}
use Rattle.ft_matrix.proofs.SoundVectors.{ok-with, on-ok}
use Rattle.ft_matrix.proofs.grid.Grid.free_run.Goals as goal

pub recycle-requires : goal.recycle-requires
recycle-requires g = λ h e. ap (λ (v : VectorState). in_use v h) (g.units_mut.ensures.value ∙ ap (λ (x : Grid). units_at g.args.target x) g.clear_run.ensures.rest
    ∙ side-rest g.args.target g.args.self.now g.clear_run.new.self.cells) ∙ g.requires.used h e

pub returns : goal.returns
returns g =
    let v = g.units_mut.ensures.value in
    ok-with _ g.recycle.result g.recycle.ensures.used (λ u. ok-with _ g.recycle.result g.recycle.ensures.proper (λ p. on-ok g.recycle.result
    (freed-units g.args.run g.args.self.now g.clear_run.new.self g.args.target g.clear_run.ensures g.recycle.new.self
    (λ h. u h ∙ ap (λ (w : VectorState). in_use w h && not (in_run h g.args.run)) v) (g.recycle.ensures.tree ∙ ap (λ (w : VectorState). w.tree) v)
    (g.recycle.ensures.next ∙ ap (λ (w : VectorState). w.next) v)
    (λ a b. p (subst (λ (w : VectorState). All (λ (e : TreeElement ℕ). in_run e.unit g.args.run ≡ false) (units_of w)) (sym v) a) (subst IsProper (sym v) b))
    g.requires.gone g.requires.proper)))
