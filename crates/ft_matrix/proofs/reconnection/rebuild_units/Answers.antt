use Rattle.std.proofs.Common.{OnOk, refl, sym, subst}
use Rattle.ft_perm.specs.contracts.vectors.Vector.{the_view}
use Rattle.ft_tree_leaves.specs.Edits.{with_place}
use Rattle.ft_rebase.specs.RebuiltPlaces.{rebuilt_place}
use Rattle.ft_rebase.specs.StageLists.{StandSideBySide}
use Rattle.ft_matrix.specs.Sound.{IsSoundVector}
use Rattle.ft_matrix.specs.Rebuilt.{RebuildsUnits}
use Rattle.ft_matrix.specs.Units.{units_of}
use Rattle.ft_matrix.proofs.RebuiltUnits.{rebuilds-ok, rebuilt-ok}
use Rattle.ft_matrix.proofs.reconnection.rebuild_units.Goals as goal

pub normalise-requires-clause-usable : goal.normalise-requires-clause-usable
normalise-requires-clause-usable g = (subst IsSoundVector (sym g.units.view_is) g.requires.sound).usable

pub normalise-requires-clause-side : goal.normalise-requires-clause-side
normalise-requires-clause-side g = subst (λ v. StandSideBySide (λ e. e.stamps) (units_of v)) (sym g.units.view_is) g.requires.side

pub returns-clause-sound : goal.returns-clause-sound
returns-clause-sound g =
    rebuilt-ok g.normalise.result (the_view g.units.inside) _ (λ last. with_place (rebuilt_place (λ e. e.stamps) last (units_of (the_view g.units.inside))))
    (subst IsSoundVector (sym g.units.view_is) g.requires.sound) refl g.normalise.ensures.elements g.normalise.ensures.usable g.normalise.ensures.places g.normalise.ensures.made

pub returns-clause-rebuilds : goal.returns-clause-rebuilds
returns-clause-rebuilds g = subst (λ v. OnOk g.normalise.result (RebuildsUnits v (record (the_view g.units.inside) { tree = g.normalise.new.tree }))) g.units.view_is
    (rebuilds-ok g.normalise.result (the_view g.units.inside) _ refl g.normalise.ensures.elements g.normalise.ensures.rest g.normalise.ensures.nodes)
